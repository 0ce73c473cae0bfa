-- What a reduction keeps of words: of those of the rest, and of those that the rows multiply rules to.
use Rattle.std.specs.Prelude.{◌≡◌, ◌≢◌, ◌⊎◌, ℕ, pos, Bool, List, [], ◌++◌, Ok, IsTrue}
use Rattle.std.specs.List.{All, list_all}
use Rattle.definitions.specs.Poly.{Term, coefficient_of}
use Rattle.definitions.specs.Quiver.{Quiver, IsPath, IsTyped}
use Rattle.word_core.specs.Letters.{IsOver}
use Rattle.word_orders.specs.Admissible.{Compare, IsAdmissible}
use Rattle.word_orders.specs.Orders.{IsBelow}
use Rattle.nc_polynomial.specs.Shape.{IsShaped}
use Rattle.traced_rows.specs.Traces.{origin_poly}
use Rattle.rule_reduce.specs.declared.rule.Rule.{Rule}
use Rattle.rule_reduce.specs.declared.state.State.{State}
use Rattle.rule_reduce.specs.RuleLists.{IsRule, polynomials_of}
use Rattle.rule_reduce.specs.NormalForms.{normal_form_of}

-- Each word of the rest has the property, and so has l w r for each word w of g in each row c l g r.
pub record EachWord (P : List ℕ → Type 0) (rules : List Rule) (s : State) : Type 0 where
  pub rest : (w : List ℕ) → coefficient_of s.rest w ≢ pos 0 → P w
  pub rows : All (λ row. (w : List ℕ) → coefficient_of (origin_poly [] (polynomials_of rules) row.from) w ≢ pos 0 → P (row.left ++ (w ++ row.right))) s.rows

-- the word is at most a word of the polynomial, in an order of the words over the letters below a number
pub record IsAtMostOf (letters : ℕ) (compare : Compare) (p : List Term) (w : List ℕ) : Type 0 where
  pub word : List ℕ
  pub occurs : coefficient_of p word ≢ pos 0
  pub at_most : (w ≡ word) ⊎ IsBelow letters compare w word

-- each word is at most a word of the polynomial
abbrev pub WordsStayBelow : Type 0
WordsStayBelow = (letters : ℕ) (compare : Compare) (rank : List ℕ → List ℕ) (rules : List Rule) (p : List Term) (steps : ℕ) (s : State)
    → IsAdmissible letters compare rank → All (IsRule letters compare) rules → IsShaped p → All (λ t. IsOver letters t.1) p
    → normal_form_of compare rules p steps ≡ Ok s → EachWord (IsAtMostOf letters compare p) rules s

-- all words of the rule are paths of one signature
pub record IsTypedRule (q : Quiver) (g : Rule) : Type 0 where
  pub source : ℕ
  pub target : ℕ
  pub typed : IsTyped q source target g.poly.terms

-- by typed rules, each word is a path of the polynomial's signature
abbrev pub TypesAreKept : Type 0
TypesAreKept = (q : Quiver) (u v : ℕ) (letters : ℕ) (compare : Compare) (rules : List Rule) (p : List Term) (steps : ℕ) (s : State)
    → All (IsRule letters compare) rules → All (IsTypedRule q) rules → IsShaped p → IsTyped q u v p
    → normal_form_of compare rules p steps ≡ Ok s → EachWord (IsPath q u v) rules s

-- all letters of the word are in play
abbrev pub IsInPlay : (ℕ → Bool) → List ℕ → Type 0
IsInPlay play w = IsTrue (list_all play w)

-- and all letters of all words of the polynomial
pub record IsPolyInPlay (play : ℕ → Bool) (p : List Term) : Type 0 where
  pub at : (w : List ℕ) → coefficient_of p w ≢ pos 0 → IsInPlay play w

-- the letters of each word are letters of the polynomial and of the rules
abbrev pub LettersAreKept : Type 0
LettersAreKept = (play : ℕ → Bool) (compare : Compare) (rules : List Rule) (p : List Term) (steps : ℕ) (s : State)
    → All (λ g. IsPolyInPlay play g.poly.terms) rules → IsShaped p → IsPolyInPlay play p
    → normal_form_of compare rules p steps ≡ Ok s → EachWord (IsInPlay play) rules s
