-- Rules by their numbers.
use Rattle.std.proofs.Common.{◌≡◌, ℕ, zero, suc, ◌+◌, ◌<◌, ◌≤◌, List, [], ◌∷◌, ◌++◌, length, take, get_or, slice_get, Option, Some, None, refl, sym, ap, ◌∙◌, arith, subst}
use Rattle.std.proofs.lemmas.List.{length-take}
use Rattle.std.proofs.lemmas.List.Elements.{All-nil, All-cons}
use Rattle.std.proofs.lemmas.Option.{same_Some, slice_get_within, slice_get-get_or}
use Rattle.std.specs.List.{All}
use Rattle.definitions.specs.Combination.{generator_at}
use Rattle.rule_reduce.specs.RuleLists.{rule_at, polynomials_of, entries_from, entries_of}
use Rattle.rule_reduce.specs.declared.rule.Rule.{Rule}

-- a number that is too large
slice_get-past : (rules : List Rule) (n : ℕ) → length rules ≤ n → slice_get rules n ≡ None
slice_get-past [] n past = refl
slice_get-past (g ∷ rules) zero past = absurd (omega arith)
slice_get-past (g ∷ rules) (suc n) past = slice_get-past rules n (omega arith)

pub rule_at-past : (rules : List Rule) (n : ℕ) → length rules < n → rule_at rules n ≡ None
rule_at-past rules zero past = refl
rule_at-past rules (suc n) past = slice_get-past rules n (omega arith)

-- the polynomial of the rule with a number
slice_get-polynomial : (rules : List Rule) (n : ℕ) (g : Rule) → slice_get rules n ≡ Some g → get_or (polynomials_of rules) n [] ≡ g.poly.terms
slice_get-polynomial [] n g is = absurd (cc)
slice_get-polynomial (f ∷ rules) zero g is = ap (λ r. r.poly.terms) (same f g is)
  where
    same : (x y : Rule) → ◌≡◌ {A = Option Rule} (Some x) (Some y) → x ≡ y
    same x y k = cc
slice_get-polynomial (f ∷ rules) (suc n) g is = slice_get-polynomial rules n g is

pub rule_at-polynomial : (rules : List Rule) (n : ℕ) (g : Rule) → rule_at rules n ≡ Some g → generator_at (polynomials_of rules) n ≡ g.poly.terms
rule_at-polynomial rules zero g is = absurd (cc)
rule_at-polynomial rules (suc n) g is = slice_get-polynomial rules n g is

-- a rule more has the next number
pub entries_from-push : (n : ℕ) (rules : List Rule) (g : Rule) → entries_from n (rules ++ g ∷ []) ≡ entries_from n rules ++ (g.lead, n + length rules) ∷ []
entries_from-push n [] g = let same : n ≡ n + 0 = omega arith in ap (λ m. (g.lead, m) ∷ []) same
entries_from-push n (f ∷ rules) g =
    let same : suc n + length rules ≡ n + suc (length rules) = omega arith in
    ap (λ es. (f.lead, n) ∷ es) (entries_from-push (suc n) rules g ∙ ap (λ m. entries_from (suc n) rules ++ (g.lead, m) ∷ []) same)

-- the entries of the first rules are the first entries
pub entries_from-take : (count n : ℕ) (rules : List Rule) → entries_from n (take count rules) ≡ take count (entries_from n rules)
entries_from-take zero n rules = refl
entries_from-take (suc count) n [] = refl
entries_from-take (suc count) n (g ∷ rules) = ap (λ es. (g.lead, n) ∷ es) (entries_from-take count (suc n) rules)

pub entries_of-take : (count : ℕ) (rules : List Rule) → entries_of (take count rules) ≡ take count (entries_of rules)
entries_of-take count rules = entries_from-take count 1 rules

-- which are no more than there are
pub no_longer : (count : ℕ) (rules : List Rule) → length (take count rules) ≤ length rules
no_longer count rules = omega (arith, length-take count rules)

-- all numbers are below that one
below_from : (n : ℕ) (rules : List Rule) (m : ℕ) → n + length rules ≤ m → All (λ e. e.1 < m) (entries_from n rules)
below_from n [] m enough = All-nil (λ (e : List ℕ × ℕ). e.1 < m)
below_from n (f ∷ rules) m enough = All-cons (λ (e : List ℕ × ℕ). e.1 < m) (f.lead, n) (entries_from (suc n) rules) (omega arith) (below_from (suc n) rules m (omega arith))

pub entries_of-below : (rules : List Rule) (m : ℕ) → length rules < m → All (λ e. e.1 < m) (entries_of rules)
entries_of-below rules m enough = below_from 1 rules m (omega arith)

-- what holds of each rule holds of the one with a number
pub all_at : {X : Type 0} (P : X → Type 0) (xs : List X) (n : ℕ) (x : X) → slice_get xs n ≡ Some x → All P xs → P x
all_at P xs n x is each = let inside = slice_get_within xs n x is in subst P (same_Some (get_or xs n x) x (sym (slice_get-get_or xs n x inside) ∙ is)) (each n x inside)

pub rule_at-all : (P : Rule → Type 0) (rules : List Rule) (n : ℕ) (g : Rule) → rule_at rules n ≡ Some g → All P rules → P g
rule_at-all P rules zero g is each = absurd (cc)
rule_at-all P rules (suc n) g is each = all_at P rules n g is each
