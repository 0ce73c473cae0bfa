-- Induction along an admissible order, by the ranks of the words.
use Rattle.std.proofs.Common.{◌≡◌, ◌<◌, ℕ, zero, suc, List, [], ◌∷◌, length, refl, sym, subst, ap, ◌∙◌, arith}
use Rattle.std.proofs.lemmas.Cmp.{ranked}
use Rattle.std.specs.Ordering.{nat_cmp, ordering_then}
use Rattle.std.specs.Cmp.Lexicographic.{slice_cmp}
use Rattle.std.specs.declared.cmp.Ordering.{Ordering}
use Rattle.std.specs.declared.cmp.Ordering.TheVariants.{Less, Equal, Greater}
use Rattle.word_orders.specs.Admissible.{Compare, IsAdmissible}
use Rattle.word_orders.specs.Orders.{IsBelow}

-- what holds of a number when it holds of all lower ones holds of all
strong : (P : ℕ → Type 0) → ((n : ℕ) → ((m : ℕ) → m < n → P m) → P n) → (n : ℕ) → P n
strong P step n = step n (below n)
  where
    below : (n m : ℕ) → m < n → P m
    below zero m lower = absurd (omega arith)
    below (suc n) m lower = step m (λ k further. below n k (omega arith))

-- the same for the lists of one length, in the lexicographic order
abbrev Lexicographic : ℕ → Type 1
Lexicographic n = (P : List ℕ → Type 0)
    → ((r : List ℕ) → length r ≡ n → ((s : List ℕ) → length s ≡ n → slice_cmp nat_cmp s r ≡ Less → P s) → P r)
    → (r : List ℕ) → length r ≡ n → P r

lexicographic_zero : Lexicographic zero
lexicographic_zero P step [] same = step [] same none
  where
    none : (s : List ℕ) → length s ≡ zero → slice_cmp nat_cmp s [] ≡ Less → P s
    none [] empty below = absurd (cc)
    none (x ∷ s) empty below = absurd (omega arith)
lexicographic_zero P step (x ∷ r) same = absurd (omega arith)

-- a lower list has a lower first number, or the same one and a lower rest
lexicographic_suc : (n : ℕ) → Lexicographic n → Lexicographic (suc n)
lexicographic_suc n rests P step [] same = absurd (omega arith)
lexicographic_suc n rests P step (x ∷ r) same = strong (λ x. (r : List ℕ) → length r ≡ n → P (x ∷ r)) by_first x r (omega arith)
  where
    by_first : (x : ℕ) → ((y : ℕ) → y < x → (r : List ℕ) → length r ≡ n → P (y ∷ r)) → (r : List ℕ) → length r ≡ n → P (x ∷ r)
    by_first x lower = rests (λ r. P (x ∷ r)) by_rest
      where
        by_rest : (r : List ℕ) → length r ≡ n → ((s : List ℕ) → length s ≡ n → slice_cmp nat_cmp s r ≡ Less → P (x ∷ s)) → P (x ∷ r)
        by_rest r r_long later = step (x ∷ r) (omega arith) below
          where
            below : (s : List ℕ) → length s ≡ suc n → slice_cmp nat_cmp s (x ∷ r) ≡ Less → P s
            below [] s_long less = absurd (omega arith)
            below (y ∷ s) s_long less = go (nat_cmp y x) refl less
              where
                go : (o : Ordering) → o ≡ nat_cmp y x → ordering_then o (slice_cmp nat_cmp s r) ≡ Less → P (y ∷ s)
                go Less e _ = lower y (ranked y x Less e) s (omega arith)
                go Equal e less_rest = subst (λ z. P (z ∷ s)) (sym (ranked y x Equal e)) (later s (omega arith) less_rest)
                go Greater e impossible = absurd (cc)

lexicographic : (n : ℕ) → Lexicographic n
lexicographic zero = lexicographic_zero
lexicographic (suc n) = lexicographic_suc n (lexicographic n)

-- what holds of a word when it holds of all lower ones holds of all
pub word_induction : (letters : ℕ) (compare : Compare) (rank : List ℕ → List ℕ) → IsAdmissible letters compare rank
    → (P : List ℕ → Type 0) → ((M : List ℕ) → ((L : List ℕ) → IsBelow letters compare L M → P L) → P M) → (M : List ℕ) → P M
word_induction letters compare rank laws P step M =
    lexicographic (length (rank [])) (λ r. (M : List ℕ) → rank M ≡ r → P M) by_rank (rank M) (laws.rank_length M []) M refl
  where
    by_rank : (r : List ℕ) → length r ≡ length (rank [])
        → ((s : List ℕ) → length s ≡ length (rank []) → slice_cmp nat_cmp s r ≡ Less → (L : List ℕ) → rank L ≡ s → P L)
        → (M : List ℕ) → rank M ≡ r → P M
    by_rank r _ lower M is = step M below
      where
        below : (L : List ℕ) → IsBelow letters compare L M → P L
        below L less = lower (rank L) (laws.rank_length L [])
            (ap (λ s. slice_cmp nat_cmp (rank L) s) (sym is) ∙ sym (laws.ranked L M less.left less.right) ∙ less.less) L refl
