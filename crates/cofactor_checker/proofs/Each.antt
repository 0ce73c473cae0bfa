-- what holds of each item, one item after another
use Rattle.cofactor_checker.proofs.Prelude.{◌≡◌, ℕ, ◌+◌, ◌<◌, ◌≤◌, ◌%◌, nat_eq, Bool, true, false, IsTrue, ◌↔◌, List, All, length, take, get_or, sym, subst, arith, ◌∣◌, nat_tests, dvd_of_mod-eq-zero, mod-eq-zero_of_dvd, take_all, All-push, take_next}

pub all_more : {X : Type 0} (P : X → Type 0) (xs : List X) (i : ℕ) (x : X) → i < length xs → x ≡ get_or xs i x → All P (take i xs) → P x → All P (take (i + 1) xs)
all_more P xs i x inside is before here = subst (All P) (sym (take_next xs i x inside is)) (All-push P (take i xs) x before here)

pub all_whole : {X : Type 0} (P : X → Type 0) (xs : List X) (i : ℕ) → length xs ≤ i → All P (take i xs) → All P xs
all_whole P xs i past all = subst (All P) (take_all i xs past) all

pub at_item : {X : Type 0} (P : X → Type 0) (xs : List X) (i : ℕ) (x : X) → i < length xs → x ≡ get_or xs i x → All P xs → P x
at_item P xs i x inside is all = subst P (sym is) (all i x inside)

-- a number divides where it leaves no rest
pub divides_tells : (d n : ℕ) → IsTrue (nat_eq (n % d) 0) ↔ d ∣ n
divides_tells d n = (
  λ none. let zero : n % d ≡ 0 = grind (arith, nat_tests) in dvd_of_mod-eq-zero d zero,
  λ divides. let zero : n % d ≡ 0 = mod-eq-zero_of_dvd d divides in grind (arith, nat_tests),
)

-- a test that fails where it passes
pub clash : (b : Bool) → b ≡ true → b ≡ false → ⊥
clash b one other = absurd (cc)
