-- The last term of a polynomial, and those after it.
use Rattle.block_text.proofs.Prelude.{◌≡◌, ◌+◌, ◌==◌, ℕ, zero, suc, List, [], ◌∷◌, arith, refl, sym, ap, length, get_or, ordering_index, Ordering, Less, Equal, Greater, Poly, Term, word_cmp, is_greater, may_follow}

pub greater_is : (o : Ordering) → (ordering_index o == 2) ≡ is_greater o
greater_is Less = refl
greater_is Equal = refl
greater_is Greater = refl

pub follows_last : (p : Poly) (n : ℕ) (t : Term) (w : List ℕ) → n + 1 ≡ length p → t ≡ get_or p n t → may_follow p w ≡ is_greater (word_cmp t.1 w)
follows_last [] n t w count is = absurd (omega (arith, count))
follows_last (x ∷ []) zero t w count is = ap (λ (u : Term). is_greater (word_cmp u.1 w)) (sym is)
follows_last (x ∷ []) (suc n) t w count is = absurd (omega (arith, count))
follows_last (x ∷ y ∷ p) zero t w count is = absurd (omega (arith, count))
follows_last (x ∷ y ∷ p) (suc n) t w count is = follows_last (y ∷ p) n t w (omega (arith, count)) is
