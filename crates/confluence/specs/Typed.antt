-- Where the generators are typed and in play, each rule has one signature and is in play.
use Rattle.std.specs.Prelude.{◌≡◌, ◌≢◌, ◌<◌, ℕ, pos, Bool, List, length, Ok}
use Rattle.std.specs.List.{All}
use Rattle.definitions.specs.Poly.{Term, coefficient_of}
use Rattle.definitions.specs.Quiver.{Quiver, IsTyped}
use Rattle.word_orders.specs.Admissible.{Compare}
use Rattle.nc_polynomial.specs.Shape.{IsShaped}
use Rattle.traced_rows.specs.declared.Row.{Row}
use Rattle.traced_rows.specs.declared.Made.{Made}
use Rattle.rule_reduce.specs.declared.rule.Rule.{Rule}
use Rattle.rule_reduce.specs.declared.state.State.{State}
use Rattle.rule_reduce.specs.RuleLists.{IsRule}
use Rattle.rule_reduce.specs.NormalForms.{normal_form_of}
use Rattle.rule_reduce.specs.KeptWords.{IsPolyInPlay}
use Rattle.ambiguities.specs.declared.ambiguity.Ambiguity.{Ambiguity}
use Rattle.ambiguities.specs.Ambiguities.{IsAmbiguity}
use Rattle.ambiguities.specs.SPolynomials.{s_polynomial_of}
use Rattle.confluence.specs.Rests.{IsAppended}

-- all words are paths of one signature, and all their letters are in play
pub record IsTypedInPlay (q : Quiver) (play : ℕ → Bool) (p : List Term) : Type 0 where
  pub source : ℕ
  pub target : ℕ
  pub typed : IsTyped q source target p
  pub in_play : IsPolyInPlay play p

abbrev pub AreTypedInPlay : Quiver → (ℕ → Bool) → List Rule → Type 0
AreTypedInPlay q play rules = All (λ g. IsTypedInPlay q play g.poly.terms) rules

-- The rest of a polynomial that is typed and in play, by such rules, is typed and in play.
abbrev pub NormalFormsStayTyped : Type 0
NormalFormsStayTyped = (q : Quiver) (play : ℕ → Bool) (letters : ℕ) (compare : Compare) (rules : List Rule) (p : List Term) (steps : ℕ) (s : State)
    → All (IsRule letters compare) rules → AreTypedInPlay q play rules → IsShaped p → IsTypedInPlay q play p
    → normal_form_of compare rules p steps ≡ Ok s → IsTypedInPlay q play s.rest

-- So is each S-polynomial.
abbrev pub SPolynomialsStayTyped : Type 0
SPolynomialsStayTyped = (q : Quiver) (play : ℕ → Bool) (letters : ℕ) (compare : Compare) (rules : List Rule) (a : Ambiguity) (p : List Term)
    → All (IsRule letters compare) rules → AreTypedInPlay q play rules → IsAmbiguity rules a
    → s_polynomial_of rules a ≡ Ok p → IsTypedInPlay q play p

-- And so are the rules with one that is made of such a rest.
abbrev pub RulesStayTyped : Type 0
RulesStayTyped = (q : Quiver) (play : ℕ → Bool) (letters : ℕ) (compare : Compare) (rest : List Term) (rows : List Row) (rules : List Rule)
    (made : List Made) (rules_after : List Rule) (made_after : List Made)
    → AreTypedInPlay q play rules → IsTypedInPlay q play rest → IsAppended letters compare rest rows rules made rules_after made_after
    → AreTypedInPlay q play rules_after

-- no word with a nonzero coefficient is empty
pub record HasNoEmptyWord (p : List Term) : Type 0 where
  pub at : (w : List ℕ) → coefficient_of p w ≢ pos 0 → 0 < length w

-- A path has letters.
abbrev pub TypedHasNoEmptyWord : Type 0
TypedHasNoEmptyWord = (q : Quiver) (play : ℕ → Bool) (p : List Term) → IsTypedInPlay q play p → HasNoEmptyWord p
