-- The place of the leading term.
use Rattle.rule_reduce.proofs.Prelude.{◌≡◌, ℕ, ◌<◌, List, [], ◌∷◌, length, drop, get_or, slice_get, Some, refl, sym, ap, ◌∙◌, arith, All, All-tail, Greater, drop_all, slice_get-get_or, Term, Compare, word_cmp, word_cmp-turned_back, by_order, Descends, IsPlain, greatest_from, leading_term}

module _ (compare : Compare) (p : List Term) where
  -- the greatest of the term at a place and those from another place on is the leading one
  abbrev pub IsBest : ℕ → ℕ → Type 0
  IsBest best place = (d : Term) → greatest_from compare (get_or p best d) (drop place p) ≡ greatest_from compare (get_or p 0 d) (drop 1 p)

pub leading_at : (compare : Compare) (p : List Term) (best : ℕ) → best < length p → IsBest compare p best (length p) → leading_term compare p ≡ slice_get p best
leading_at compare [] best inside is_best = absurd (omega arith)
leading_at compare (t ∷ p) best inside is_best =
    let here : greatest_from compare (get_or (t ∷ p) best t) (drop (length (t ∷ p)) (t ∷ p)) ≡ get_or (t ∷ p) best t = ap (greatest_from compare (get_or (t ∷ p) best t)) (drop_all (length (t ∷ p)) (t ∷ p) (omega arith)) in
    ap Some (sym (is_best t) ∙ here) ∙ sym (slice_get-get_or (t ∷ p) best t inside)

-- in the canonical order the first of descending terms leads
first_stays : (compare : Compare) → IsPlain compare → (t : Term) (p : List Term) → All (λ u. word_cmp t.1 u.1 ≡ Greater) p → greatest_from compare t p ≡ t
first_stays compare plain t [] below = refl
first_stays compare plain t (u ∷ p) below =
    ap (λ o. greatest_from compare (by_order o t t u) p) (plain u.1 t.1 ∙ word_cmp-turned_back t.1 u.1 (below 0 u (omega arith))) ∙ first_stays compare plain t p (All-tail (λ (v : Term). word_cmp t.1 v.1 ≡ Greater) u p below)

pub first_leads : (compare : Compare) → IsPlain compare → (p : List Term) → Descends p → 0 < length p → leading_term compare p ≡ slice_get p 0
first_leads compare plain [] descends some = absurd (omega arith)
first_leads compare plain (t ∷ p) descends some = ap Some (first_stays compare plain t p descends.0)
