-- A pass over rules: those before the first one without the property have it.
use Rattle.normal_category.proofs.Prelude.{◌≡◌, ◌≢◌, ◌⊎◌, inl, inr, ℕ, suc, ◌+◌, ◌<◌, ◌≤◌, pos, Bool, true, false, not, ◌&&◌, ◌||◌, cond, nat_eq, List, [], ◌∷◌, length, slice_get, Option, Some, None, IfSome, IfNone, refl, sym, ap, ap₂, ◌∙◌, subst, arith, true≢false, lt-ltb, is_some, nat_le, star, cases_lt, AllPass-from_list_all, list_all-from_AllPass, same_Some, slice_get-get_or, All, list_all, list_any, Term, coefficient_of, Object, Poly, distinct-descending, words_listed, recursion_from_IsDescending, Declaration, letter_count, object_count, quiver_of, Rule, rule_at, IsPolyInPlay, words_with_coefficients, numbers, is_in_play, Parts, AreTypedInPlay, IsFirstWithout, IsTypedIn, PlaysIn}

module _ (P : Rule → Type 0) (rules : List Rule) where
  -- the rules up to a number have the property
  abbrev pub Passed : ℕ → Type 0
  Passed place = (n : ℕ) (g : Rule) → rule_at rules n ≡ Some g → n ≤ place → P g

  pub stopped : (place : ℕ) (g : Rule) → slice_get rules place ≡ Some g → Passed place → (P g → ⊥) → IsFirstWithout P rules (place + 1)
  stopped place g here passed without = record {
    rule = g;
    numbered = let next : suc place ≡ place + 1 = omega arith in subst (λ n. rule_at rules n ≡ Some g) next here;
    without = without;
    earlier = λ n f is lesser. passed n f is (omega (arith, lesser));
  }

  pub passed_on : (place : ℕ) (g : Rule) → slice_get rules place ≡ Some g → Passed place → P g → Passed (place + 1)
  passed_on place g here passed holds n f is within = go (cases_lt place n)
    where
      go : (place < n) ⊎ (n ≤ place) → P f
      go (inr earlier) = passed n f is earlier
      go (inl later) = let last : n ≡ suc place = omega (arith, within, later) in subst P
          (same_Some g f (sym here ∙ subst (λ m. rule_at rules m ≡ Some f) last is)) holds

  pub all_passed : (place : ℕ) → length rules ≤ place → Passed place → All P rules
  all_passed place whole passed = λ k d inside. passed (suc k) _ (slice_get-get_or rules k d inside) (omega (arith, whole, inside))

-- an option that the test finds empty, or not
pub empty_tells : {A P : Type 0} (o : Option A) (b : Bool) → is_some o ≡ not b → b ≡ true → IfNone o P → P
empty_tells None b is empty holds = holds
empty_tells (Some x) b is empty holds = absurd (true≢false (is ∙ ap not empty))

pub full_tells : {A : Type 0} {Q : A → Type 0} (o : Option A) (b : Bool) → is_some o ≡ not b → b ≡ false → IfSome o Q → (x : A) × Q x
full_tells None b is full holds = absurd (true≢false (sym (is ∙ ap not full)))
full_tells (Some x) b is full holds = (x, holds)

-- a test of all words
module _ (test : List ℕ → Bool) where
  -- it holds of the words that occur
  pub words_tested : (p : List Term) → list_all (λ t. test t.1) p ≡ true → (w : List ℕ) → coefficient_of p w ≢ pos 0 → test w ≡ true
  words_tested p holds w some = words_with_coefficients (λ w. test w ≡ true) p (AllPass-from_list_all (λ (t : Term). test t.1) p holds) w some

  -- and they are all words of the polynomial
  pub words_suffice : (p : Poly) → ((w : List ℕ) → coefficient_of p.terms w ≢ pos 0 → test w ≡ true) → list_all (λ t. test t.1) p.terms ≡ true
  words_suffice p at = list_all-from_AllPass (λ (t : Term). test t.1) p.terms (words_listed (λ w. test w ≡ true) p.terms
      (distinct-descending p.terms (recursion_from_IsDescending p.terms p.canonical.shaped.descending))
      p.canonical.shaped.nonzero at)

-- the test of all letters
module _ (play : ℕ → Bool) where
  pub plays_from_test : (p : Poly) (b : Bool) → b ≡ list_all (λ t. list_all play t.1) p.terms → b ≡ true → IsPolyInPlay play p.terms
  plays_from_test p b is holds = record { at = words_tested (list_all play) p.terms (sym is ∙ holds) }

  pub test_from_plays : (p : Poly) (b : Bool) → b ≡ list_all (λ t. list_all play t.1) p.terms → b ≡ false → IsPolyInPlay play p.terms → ⊥
  test_from_plays p b is fails plays = true≢false (sym (is ∙ words_suffice (list_all play) p plays.at) ∙ fails)

-- the letter of an object is in play where the object is marked
any_number : (a : ℕ) (marked : List Object) → list_any (λ v. nat_eq a v.0) marked ≡ list_any (nat_eq a) (numbers marked)
any_number a [] = refl
any_number a (v ∷ marked) = ap (λ b. nat_eq a v.0 || b) (any_number a marked)

pub object_in_play : (ds : List Declaration) (starred : Bool) (marked : List Object) (a : ℕ) (b : Bool) → a < letter_count ds → a < object_count ds
    → b ≡ list_any (λ v. nat_eq a v.0) marked → b ≡ is_in_play ds starred (numbers marked) a
object_in_play ds starred marked a b letter object is =
    is ∙ any_number a marked ∙ sym
    (ap₂ (λ x y. x && cond y (list_any (nat_eq a) (numbers marked)) (starred || nat_le a (star (quiver_of ds) a))) (lt-ltb a (letter_count ds) letter)
    (lt-ltb a (object_count ds) object))

-- both passes
pub typed_in_play : (p : Parts) (rules : List Rule) → All (IsTypedIn p) rules → All (PlaysIn p) rules
    → AreTypedInPlay (quiver_of p.quiver) (is_in_play p.quiver p.starred (numbers p.marked)) rules
typed_in_play p rules typed plays =
    λ k d inside. record {
      source = (typed k d inside).source;
      target = (typed k d inside).target;
      typed = (typed k d inside).typed;
      in_play =
          plays k d inside;
    }
