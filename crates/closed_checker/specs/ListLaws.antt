-- That the ambiguities of rules can be listed in this order, and in one way.
use Rattle.std.specs.Prelude.{◌≡◌, ℕ, List}
use Rattle.word_orders.specs.Admissible.{Compare, IsAdmissible}
use Rattle.rule_reduce.specs.declared.rule.Rule.{Rule}
use Rattle.ambiguities.specs.declared.ambiguity.Ambiguity.{Ambiguity}
use Rattle.ambiguities.specs.Order.{AreAllInOrder}

-- there is a list of all of them
pub record CanBeListed (compare : Compare) (rules : List Rule) : Type 0 where
  pub found : List Ambiguity
  pub all : AreAllInOrder compare rules found

-- In an admissible order any rules have such a list,
abbrev pub AmbiguitiesCanBeListed : Type 0
AmbiguitiesCanBeListed = (letters : ℕ) (compare : Compare) (rank : List ℕ → List ℕ) (rules : List Rule) → IsAdmissible letters compare rank
    → CanBeListed compare rules

-- and one such list.
abbrev pub ListsAreUnique : Type 0
ListsAreUnique = (letters : ℕ) (compare : Compare) (rank : List ℕ → List ℕ) (rules : List Rule) (one other : List Ambiguity)
    → IsAdmissible letters compare rank → AreAllInOrder compare rules one → AreAllInOrder compare rules other → one ≡ other
