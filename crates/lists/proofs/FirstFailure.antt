-- Tests in order, and the first that fails: exactly one outcome.
use Rattle.lists.proofs.Prelude.{◌≡◌, ◌⊎◌, inl, inr, ℕ, zero, suc, ◌+◌, ◌<◌, ◌≤◌, List, [], ◌∷◌, length, take, Option, Some, None, slice_get, get_or, refl, sym, subst, ap, ◌∙◌, arith, cases_lt, cases_order, All-nil, All-cons, All-head, All-tail, slice_get_within, slice_get_cases, get_or_from_slice_get, All, FirstNot}
use Rattle.lists.proofs.Decided.{IsDecided}

-- It passes, or is refused for one thing. Some refusals, such as want of memory, may come at any time.
pub record HasOneOutcome {E : Type 0} (any_time : E → Type 0) (passes : Type 0) (refuses : E → Type 0) : Type 0 where
  pub judged : passes ⊎ ((e : E) × refuses e × (any_time e → ⊥))
  pub not_refused : passes → (e : E) → refuses e → any_time e
  pub unique : (e f : E) → refuses e → refuses f → (any_time e → ⊥) → (any_time f → ⊥) → e ≡ f

-- The tests of the numbers below n pass.
pub record PassUpTo (P : ℕ → Type 0) (n : ℕ) : Type 0 where
  pub at : (i : ℕ) → i < n → P i

-- The first number whose test fails.
pub record FailsFirst {E : Type 0} (P : ℕ → Type 0) (R : ℕ → E → Type 0) (n : ℕ) (e : E) : Type 0 where
  pub number : ℕ
  pub inside : number < n
  pub earlier : PassUpTo P number
  pub fails : R number e

first_not : {X : Type 0} (P : X → Type 0) (items : List X) → ((i : ℕ) (x : X) → slice_get items i ≡ Some x → IsDecided (P x)) → All P items ⊎ FirstNot P items
first_not P [] test = inl (All-nil P)
first_not {X = X} P (x ∷ items) test = by (test 0 x refl) (first_not P items (λ i y there. test (suc i) y there))
  where
    by : IsDecided (P x) → All P items ⊎ FirstNot P items → All P (x ∷ items) ⊎ FirstNot P (x ∷ items)
    by (inr lacks) rest = inr (record { before = 0; item = x; there = refl; earlier = All-nil P; fails = lacks })
    by (inl holds) (inl each) = inl (All-cons P x items holds each)
    by (inl holds) (inr first) = inr (record { before = suc first.before; item = first.item; there = first.there; earlier = All-cons P x (take first.before items) holds first.earlier; fails = first.fails })

-- of an item before a place what all these have holds
among_first : {X : Type 0} (P : X → Type 0) (items : List X) (n i : ℕ) (x : X) → All P (take n items) → i < n → slice_get items i ≡ Some x → P x
among_first P [] n i x each below there = let within = slice_get_within [] i x there in absurd (omega (arith, within))
among_first P (y ∷ items) zero i x each below there = absurd (omega (arith, below))
among_first P (y ∷ items) (suc n) zero x each below there = let both : Some y ≡ Some x = there in let one : y ≡ x = cc in subst P one (All-head P y (take n items) each)
among_first P (y ∷ items) (suc n) (suc i) x each below there = among_first P items n i x (All-tail P y (take n items) each) (omega (arith, below)) there

-- one of which it doesn't hold is one of all
pub not_each : {X : Type 0} (P : X → Type 0) (items : List X) → FirstNot P items → All P items → ⊥
not_each P items first each =
    first.fails (subst P (get_or_from_slice_get items first.before first.item first.item first.there) (each first.before first.item (slice_get_within items first.before first.item first.there)))

pub each_decided : {X : Type 0} (P : X → Type 0) → ((x : X) → IsDecided (P x)) → (items : List X) → IsDecided (All P items)
each_decided P test items = by (first_not P items (λ i x there. test x))
  where
    by : All P items ⊎ FirstNot P items → IsDecided (All P items)
    by (inl each) = inl each
    by (inr first) = inr (not_each P items first)

module _ {E : Type 0} {M : E → Type 0} where
  -- no test
  pub no_test : HasOneOutcome M (Unit {0}) (λ e. ⊥)
  no_test = record { judged = inl tt; not_refused = λ p e never. absurd never; unique = λ e f never. absurd never }

  -- one test with one refusal
  pub one_test : {P : Type 0} (told : E) → (M told → ⊥) → IsDecided P → HasOneOutcome M P (λ e. (e ≡ told) × (P → ⊥))
  one_test {P = P} told exact decided = record { judged = by decided; not_refused = λ p e h. absurd (h.1 p); unique = λ e f h k not not'. h.0 ∙ sym k.0 }
    where
      by : IsDecided P → P ⊎ ((e : E) × ((e ≡ told) × (P → ⊥)) × (M e → ⊥))
      by (inl p) = inl p
      by (inr fails) = inr (told, (refl, fails), exact)

  -- a test that gives no value where it passes, and is refused for its value else
  pub value_test : {X : Type 0} (tell : X → E) → ((x : X) → M (tell x) → ⊥) → (o : Option X) → HasOneOutcome M (o ≡ None) (λ e. (x : X) × (e ≡ tell x) × (o ≡ Some x))
  value_test {X = X} tell exact o = record { judged = by o refl; not_refused = none_some; unique = once }
    where
      by : (q : Option X) → o ≡ q → (o ≡ None) ⊎ ((e : E) × ((x : X) × (e ≡ tell x) × (o ≡ Some x)) × (M e → ⊥))
      by None is = inl is
      by (Some x) is = inr (tell x, (x, refl, is), exact x)

      none_some : o ≡ None → (e : E) → ((x : X) × (e ≡ tell x) × (o ≡ Some x)) → M e
      none_some none e (x, is, some) = absurd (cc)

      once : (e f : E) → ((x : X) × (e ≡ tell x) × (o ≡ Some x)) → ((x : X) × (f ≡ tell x) × (o ≡ Some x)) → (M e → ⊥) → (M f → ⊥) → e ≡ f
      once e f (x, is, some) (y, is', some') not not' = let same : x ≡ y = cc in (cc)

  -- a value is searched, and tested where it is found
  pub found_test : {X : Type 0} {Q : X → Type 0} {S : X → E → Type 0} (told : E) → (M told → ⊥) → (o : Option X) → ((x : X) → o ≡ Some x → HasOneOutcome M (Q x) (S x))
      → HasOneOutcome M ((x : X) × (o ≡ Some x) × Q x) (λ e. ((e ≡ told) × (o ≡ None)) ⊎ ((x : X) × (o ≡ Some x) × S x e))
  found_test {X = X} {Q = Q} {S = S} told exact o test = record { judged = by o refl; not_refused = passed; unique = once }
    where
      one : (x y : X) → o ≡ Some x → o ≡ Some y → x ≡ y
      one x y is is' = cc

      none_some : (x : X) → o ≡ None → o ≡ Some x → ⊥
      none_some x none some = cc

      there : (x : X) → o ≡ Some x → Q x ⊎ ((e : E) × S x e × (M e → ⊥))
          → ((x : X) × (o ≡ Some x) × Q x) ⊎ ((e : E) × (((e ≡ told) × (o ≡ None)) ⊎ ((x : X) × (o ≡ Some x) × S x e)) × (M e → ⊥))
      there x is (inl q) = inl (x, is, q)
      there x is (inr refused) = inr (refused.0, inr (x, is, refused.1), refused.2)

      by : (q : Option X) → o ≡ q → ((x : X) × (o ≡ Some x) × Q x) ⊎ ((e : E) × (((e ≡ told) × (o ≡ None)) ⊎ ((x : X) × (o ≡ Some x) × S x e)) × (M e → ⊥))
      by None is = inr (told, inl (refl, is), exact)
      by (Some x) is = there x is (test x is).judged

      passed : ((x : X) × (o ≡ Some x) × Q x) → (e : E) → ((e ≡ told) × (o ≡ None)) ⊎ ((x : X) × (o ≡ Some x) × S x e) → M e
      passed (x, is, q) e (inl h) = absurd (none_some x h.1 is)
      passed (x, is, q) e (inr (y, is', h)) = (test y is').not_refused (subst Q (one x y is is') q) e h

      once : (e f : E) → ((e ≡ told) × (o ≡ None)) ⊎ ((x : X) × (o ≡ Some x) × S x e) → ((f ≡ told) × (o ≡ None)) ⊎ ((x : X) × (o ≡ Some x) × S x f) → (M e → ⊥) → (M f → ⊥) → e ≡ f
      once e f (inl h) (inl k) not not' = h.0 ∙ sym k.0
      once e f (inl h) (inr (x, is, k)) not not' = absurd (none_some x h.1 is)
      once e f (inr (x, is, h)) (inl k) not not' = absurd (none_some x k.1 is)
      once e f (inr (x, is, h)) (inr (y, is', k)) not not' = (test x is).unique e f h (subst (λ z. S z f) (one y x is' is) k) not not'

  -- a test that is asked for in one case alone
  pub where_test : {C P : Type 0} {R : E → Type 0} → IsDecided C → (C → HasOneOutcome M P R) → HasOneOutcome M (C → P) (λ e. C × R e)
  where_test {C = C} {P = P} {R = R} decided test = record { judged = by decided; not_refused = λ passes e h. (test h.0).not_refused (passes h.0) e h.1; unique = λ e f h k not not'. (test h.0).unique e f h.1 k.1 not not' }
    where
      here : C → P ⊎ ((e : E) × R e × (M e → ⊥)) → (C → P) ⊎ ((e : E) × (C × R e) × (M e → ⊥))
      here c (inl p) = inl (λ again. p)
      here c (inr refused) = inr (refused.0, (c, refused.1), refused.2)

      by : IsDecided C → (C → P) ⊎ ((e : E) × (C × R e) × (M e → ⊥))
      by (inl c) = here c (test c).judged
      by (inr none) = inl (λ c. absurd (none c))

  -- one test after another
  pub then_test : {P Q : Type 0} {R S : E → Type 0} → HasOneOutcome M P R → (P → HasOneOutcome M Q S) → HasOneOutcome M (P × Q) (λ e. R e ⊎ (P × S e))
  then_test {P = P} {Q = Q} {R = R} {S = S} first second = record { judged = by first.judged; not_refused = passed; unique = once }
    where
      of_second : P → Q ⊎ ((e : E) × S e × (M e → ⊥)) → (P × Q) ⊎ ((e : E) × (R e ⊎ (P × S e)) × (M e → ⊥))
      of_second p (inl q) = inl (p, q)
      of_second p (inr refused) = inr (refused.0, inr (p, refused.1), refused.2)

      by : P ⊎ ((e : E) × R e × (M e → ⊥)) → (P × Q) ⊎ ((e : E) × (R e ⊎ (P × S e)) × (M e → ⊥))
      by (inl p) = of_second p (second p).judged
      by (inr refused) = inr (refused.0, inl refused.1, refused.2)

      passed : P × Q → (e : E) → R e ⊎ (P × S e) → M e
      passed (p, q) e (inl h) = first.not_refused p e h
      passed (p, q) e (inr h) = (second p).not_refused q e h.1

      once : (e f : E) → R e ⊎ (P × S e) → R f ⊎ (P × S f) → (M e → ⊥) → (M f → ⊥) → e ≡ f
      once e f (inl h) (inl k) not not' = first.unique e f h k not not'
      once e f (inl h) (inr k) not not' = absurd (not (first.not_refused k.0 e h))
      once e f (inr h) (inl k) not not' = absurd (not' (first.not_refused h.0 f k))
      once e f (inr h) (inr k) not not' = (second h.0).unique e f h.1 k.1 not not'

  -- the same outcome in other words
  pub reworded : {P Q : Type 0} {R S : E → Type 0} → ((e : E) → IsDecided (M e)) → (P → Q) → (Q → P) → ((e : E) → R e → (M e → ⊥) → S e) → ((e : E) → S e → (M e → ⊥) → R e)
      → HasOneOutcome M P R → HasOneOutcome M Q S
  reworded {P = P} {Q = Q} {R = R} {S = S} memory to from tell back outcome = record { judged = by outcome.judged; not_refused = λ q e h. passed q e h (memory e); unique = λ e f h k not not'. outcome.unique e f (back e h not) (back f k not') not not' }
    where
      by : P ⊎ ((e : E) × R e × (M e → ⊥)) → Q ⊎ ((e : E) × S e × (M e → ⊥))
      by (inl p) = inl (to p)
      by (inr refused) = inr (refused.0, tell refused.0 refused.1 refused.2, refused.2)

      passed : Q → (e : E) → S e → IsDecided (M e) → M e
      passed q e h (inl free) = free
      passed q e h (inr not) = outcome.not_refused (from q) e (back e h not)

  -- the tests of numbers, ascending
  module _ (P : ℕ → Type 0) (R : ℕ → E → Type 0) where
    pub tests_up_to : (n : ℕ) → ((i : ℕ) → i < n → PassUpTo P i → HasOneOutcome M (P i) (R i)) → HasOneOutcome M (PassUpTo P n) (FailsFirst P R n)
    tests_up_to n test = record { judged = all n (omega arith); not_refused = λ passed e h. (test h.number h.inside h.earlier).not_refused (passed.at h.number h.inside) e h.fails; unique = once }
      where
        one_more : (k : ℕ) → PassUpTo P k → P k → PassUpTo P (suc k)
        one_more k before here = record { at = λ i below. by i below (cases_lt i k) }
          where
            by : (i : ℕ) → i < suc k → (i < k) ⊎ (k ≤ i) → P i
            by i below (inl earlier) = before.at i earlier
            by i below (inr last) = let same : k ≡ i = omega (arith, below, last) in subst P same here

        all : (k : ℕ) → k ≤ n → PassUpTo P k ⊎ ((e : E) × FailsFirst P R n e × (M e → ⊥))
        all zero within = inl (record { at = λ i below. absurd (omega (arith, below)) })
        all (suc k) within = next (all k (omega (arith, within)))
          where
            here : PassUpTo P k → P k ⊎ ((e : E) × R k e × (M e → ⊥)) → PassUpTo P (suc k) ⊎ ((e : E) × FailsFirst P R n e × (M e → ⊥))
            here before (inl passes) = inl (one_more k before passes)
            here before (inr refused) = inr (refused.0, record { number = k; inside = omega (arith, within); earlier = before; fails = refused.1 }, refused.2)

            next : PassUpTo P k ⊎ ((e : E) × FailsFirst P R n e × (M e → ⊥)) → PassUpTo P (suc k) ⊎ ((e : E) × FailsFirst P R n e × (M e → ⊥))
            next (inr refused) = inr refused
            next (inl before) = here before (test k (omega (arith, within)) before).judged

        once : (e f : E) → FailsFirst P R n e → FailsFirst P R n f → (M e → ⊥) → (M f → ⊥) → e ≡ f
        once e f h k not not' = go (cases_order h.number k.number)
          where
            go : (h.number ≡ k.number) ⊎ ((h.number < k.number) ⊎ (k.number < h.number)) → e ≡ f
            go (inl same) = (test h.number h.inside h.earlier).unique e f h.fails (subst (λ i. R i f) (sym same) k.fails) not not'
            go (inr (inl less)) = absurd (not ((test h.number h.inside h.earlier).not_refused (k.earlier.at h.number less) e h.fails))
            go (inr (inr greater)) = absurd (not' ((test k.number k.inside k.earlier).not_refused (h.earlier.at k.number greater) f k.fails))

  -- an item of a list
  pub item_test : {X : Type 0} (items : List X) (i : ℕ) → i < length items → {Q : X → Type 0} {S : X → E → Type 0} → ((x : X) → slice_get items i ≡ Some x → HasOneOutcome M (Q x) (S x))
      → HasOneOutcome M ((x : X) → slice_get items i ≡ Some x → Q x) (λ e. (x : X) × (slice_get items i ≡ Some x) × S x e)
  item_test {X = X} items i inside {Q = Q} {S = S} test = by (slice_get_cases items i).1
    where
      same : (x y : X) → slice_get items i ≡ Some x → slice_get items i ≡ Some y → x ≡ y
      same x y one other = cc

      by : ((x : X) × (i < length items) × (slice_get items i ≡ Some x) × (get_or items i x ≡ x)) ⊎ ((length items ≤ i) × (slice_get items i ≡ None))
          → HasOneOutcome M ((x : X) → slice_get items i ≡ Some x → Q x) (λ e. (x : X) × (slice_get items i ≡ Some x) × S x e)
      by (inr past) = absurd (omega (arith, inside, past.0))
      by (inl (x, within, there, is)) = record {
        judged = judge (test x there).judged;
        not_refused = λ passes e h. (test h.0 h.1).not_refused (passes h.0 h.1) e h.2;
        unique = λ e f h k not not'. (test h.0 h.1).unique e f h.2 (subst (λ y. S y f) (same k.0 h.0 k.1 h.1) k.2) not not';
      }
        where
          judge : Q x ⊎ ((e : E) × S x e × (M e → ⊥)) → ((y : X) → slice_get items i ≡ Some y → Q y) ⊎ ((e : E) × ((y : X) × (slice_get items i ≡ Some y) × S y e) × (M e → ⊥))
          judge (inl passes) = inl (λ y is. subst Q (same x y there is) passes)
          judge (inr refused) = inr (refused.0, (x, there, refused.1), refused.2)

  -- one property of each item, where the first that lacks it is named by its number, counted from 1
  pub each_test : {X : Type 0} (P : X → Type 0) (tell : ℕ → E) → ((n : ℕ) → M (tell n) → ⊥) → (items : List X) → ((i : ℕ) (x : X) → slice_get items i ≡ Some x → IsDecided (P x))
      → HasOneOutcome M (All P items) (λ e. (first : FirstNot P items) × (e ≡ tell (first.before + 1)))
  each_test {X = X} P tell exact items test = record { judged = by (first_not P items test); not_refused = λ each e h. absurd (not_each P items h.0 each); unique = λ e f h k not not'. once e f h k (cases_order h.0.before k.0.before) }
    where
      by : All P items ⊎ FirstNot P items → All P items ⊎ ((e : E) × ((first : FirstNot P items) × (e ≡ tell (first.before + 1))) × (M e → ⊥))
      by (inl each) = inl each
      by (inr first) = inr (tell (first.before + 1), (first, refl), exact (first.before + 1))

      less : (one other : FirstNot P items) → one.before < other.before → ⊥
      less one other below = one.fails (among_first P items other.before one.before one.item other.earlier below one.there)

      once : (e f : E) → (h : (first : FirstNot P items) × (e ≡ tell (first.before + 1))) → (k : (first : FirstNot P items) × (f ≡ tell (first.before + 1)))
          → (h.0.before ≡ k.0.before) ⊎ ((h.0.before < k.0.before) ⊎ (k.0.before < h.0.before)) → e ≡ f
      once e f h k (inl same) = h.1 ∙ ap (λ n. tell (n + 1)) same ∙ sym k.1
      once e f h k (inr (inl below)) = absurd (less h.0 k.0 below)
      once e f h k (inr (inr above)) = absurd (less k.0 h.0 above)
