-- The number that a word's first letters make orders words of one length as these letters do.
use Rattle.ambiguities.proofs.Prelude.{◌≡◌, ◌⊎◌, inl, inr, ℕ, zero, suc, ◌+◌, ◌*◌, ◌<◌, ◌≤◌, ◌^◌, List, [], ◌∷◌, length, get_or, refl, sym, ap, ap₂, ◌∙◌, subst, arith, nat_cmp_is, slice_cmp, nat_cmp, ordering_then, Ordering, Less, Equal, Greater, cases_lt, ranked, get_or_past, word_cmp, IsOver, front_of}

-- one comparison after two others
pub then_assoc : (o p q : Ordering) → ordering_then o (ordering_then p q) ≡ ordering_then (ordering_then o p) q
then_assoc Less p q = refl
then_assoc Equal p q = refl
then_assoc Greater p q = refl

-- two numbers in one, of which the second is below a base
module _ (base : ℕ) (above : (a b p q : ℕ) → p < base → a < b → a * base + p < b * base + q) where
  joined_cmp : (a b p q : ℕ) → p < base → q < base → nat_cmp (a * base + p) (b * base + q) ≡ ordering_then (nat_cmp a b) (nat_cmp p q)
  joined_cmp a b p q in_base other_in_base = sym (by_first (nat_cmp a b) (nat_cmp p q) refl refl)
    where
      by_second : a ≡ b → (o : Ordering) → o ≡ nat_cmp p q → o ≡ nat_cmp (a * base + p) (b * base + q)
      by_second same Less e = nat_cmp_is (a * base + p) (b * base + q) Less
          (let low : p < q = ranked p q Less e in subst (λ n. a * base + p < n * base + q) same (omega (arith, low)))
      by_second same Equal e = nat_cmp_is (a * base + p) (b * base + q) Equal (ap₂ (λ m n. m * base + n) same (ranked p q Equal e))
      by_second same Greater e = nat_cmp_is (a * base + p) (b * base + q) Greater
          (let high : q < p = ranked p q Greater e in subst (λ n. n * base + q < a * base + p) same (omega (arith, high)))

      by_first : (o p' : Ordering) → o ≡ nat_cmp a b → p' ≡ nat_cmp p q → ordering_then o p' ≡ nat_cmp (a * base + p) (b * base + q)
      by_first Less r e f = nat_cmp_is (a * base + p) (b * base + q) Less (above a b p q in_base (ranked a b Less e))
      by_first Equal r e f = by_second (ranked a b Equal e) r f
      by_first Greater r e f = nat_cmp_is (a * base + p) (b * base + q) Greater (above b a q p other_in_base (ranked a b Greater e))

of_two : (a b p q : ℕ) → p < 65536 → q < 65536 → nat_cmp (a * 65536 + p) (b * 65536 + q) ≡ ordering_then (nat_cmp a b) (nat_cmp p q)
of_two = joined_cmp 65536 (λ a b p q low less. omega (arith, low, less))

of_four : (a b p q : ℕ) → p < 4294967296 → q < 4294967296 → nat_cmp (a * 4294967296 + p) (b * 4294967296 + q) ≡ ordering_then (nat_cmp a b) (nat_cmp p q)
of_four = joined_cmp 4294967296 (λ a b p q low less. omega (arith, low, less))

-- this many letters from a place on, and then an answer
abbrev ahead : ℕ → ℕ → List ℕ → List ℕ → Ordering → Ordering
ahead zero k u v o = o
ahead (suc n) k u v o = ordering_then (nat_cmp (get_or u k 0) (get_or v k 0)) (ahead n (suc k) u v o)

ahead-nil : (n k : ℕ) → ahead n k [] [] Equal ≡ Equal
ahead-nil zero k = refl
ahead-nil (suc n) k = ahead-nil n (suc k)

ahead-behind : (n k x y : ℕ) (u v : List ℕ) (o : Ordering) → ahead n (suc k) (x ∷ u) (y ∷ v) o ≡ ahead n k u v o
ahead-behind zero k x y u v o = refl
ahead-behind (suc n) k x y u v o = ap (ordering_then (nat_cmp (get_or u k 0) (get_or v k 0))) (ahead-behind n (suc k) x y u v o)

ahead-same : (n : ℕ) (u v : List ℕ) → length u ≡ length v → ahead n zero u v (slice_cmp nat_cmp u v) ≡ slice_cmp nat_cmp u v
ahead-same zero u v e = refl
ahead-same (suc n) [] [] e = ahead-nil (suc n) zero
ahead-same (suc n) [] (y ∷ v) e = absurd (omega (arith, e))
ahead-same (suc n) (x ∷ u) [] e = absurd (omega (arith, e))
ahead-same (suc n) (x ∷ u) (y ∷ v) e =
    ap (ordering_then (nat_cmp x y)) (ahead-behind n zero x y u v (ordering_then (nat_cmp x y) (slice_cmp nat_cmp u v)))
    ∙ go (nat_cmp x y) (ahead-same n u v (omega (arith, e)))
  where
    go : (o : Ordering) → ahead n zero u v (slice_cmp nat_cmp u v) ≡ slice_cmp nat_cmp u v
        → ordering_then o (ahead n zero u v (ordering_then o (slice_cmp nat_cmp u v))) ≡ ordering_then o (slice_cmp nat_cmp u v)
    go Less rest = refl
    go Equal rest = rest
    go Greater rest = refl

-- letters
letter-below : (w : List ℕ) (k : ℕ) → IsOver (2 ^ 16) w → get_or w k 0 < 65536
letter-below w k over = go (cases_lt k (length w))
  where
    go : (k < length w) ⊎ (length w ≤ k) → get_or w k 0 < 65536
    go (inl inside) = over k 0 inside
    go (inr past) = subst (λ n. n < 65536) (sym (get_or_past w k 0 past)) (omega arith)

front_cmp : (u v : List ℕ) → IsOver (2 ^ 16) u → IsOver (2 ^ 16) v → length u ≡ length v
    → ordering_then (nat_cmp (front_of u) (front_of v)) (slice_cmp nat_cmp u v) ≡ slice_cmp nat_cmp u v
front_cmp u v over other same =
    let at : ℕ → Ordering = λ k. nat_cmp (get_or u k 0) (get_or v k 0) in
    let rest = slice_cmp nat_cmp u v in
    let below = λ (k : ℕ). letter-below u k over in
    let below_too = λ (k : ℕ). letter-below v k other in
    let pairs : nat_cmp (front_of u) (front_of v) ≡ ordering_then (ordering_then (at 0) (at 1)) (ordering_then (at 2) (at 3)) =
    of_four (get_or u 0 0 * 65536 + get_or u 1 0) (get_or v 0 0 * 65536 + get_or v 1 0) (get_or u 2 0 * 65536 + get_or u 3 0) (get_or v 2 0 * 65536 + get_or v 3 0)
    (omega (arith, below 2, below 3)) (omega (arith, below_too 2, below_too 3))
    ∙ ap₂ ordering_then (of_two (get_or u 0 0) (get_or v 0 0) (get_or u 1 0) (get_or v 1 0) (below 1) (below_too 1))
    (of_two (get_or u 2 0) (get_or v 2 0) (get_or u 3 0) (get_or v 3 0) (below 3) (below_too 3)) in
    ap (λ o. ordering_then o rest) pairs
    ∙ sym (then_assoc (ordering_then (at 0) (at 1)) (ordering_then (at 2) (at 3)) rest)
    ∙ sym (then_assoc (at 0) (at 1) (ordering_then (ordering_then (at 2) (at 3)) rest))
    ∙ ap (λ o. ordering_then (at 0) (ordering_then (at 1) o)) (sym (then_assoc (at 2) (at 3) rest))
    ∙ ahead-same 4 u v same

-- by the length and the first letters, and then canonically
pub fronted_cmp : (u v : List ℕ) → IsOver (2 ^ 16) u → IsOver (2 ^ 16) v
    → ordering_then (nat_cmp (length u) (length v)) (ordering_then (nat_cmp (front_of u) (front_of v)) (word_cmp u v)) ≡ word_cmp u v
fronted_cmp u v over other = go (nat_cmp (length u) (length v)) refl
  where
    front : Ordering
    front = nat_cmp (front_of u) (front_of v)

    go : (o : Ordering) → o ≡ nat_cmp (length u) (length v)
        → ordering_then o (ordering_then front (ordering_then o (slice_cmp nat_cmp u v))) ≡ ordering_then o (slice_cmp nat_cmp u v)
    go Less e = refl
    go Equal e = front_cmp u v over other (ranked (length u) (length v) Equal e)
    go Greater e = refl
