-- one lemma after another
use Rattle.cofactor_checker.proofs.Prelude.{◌≡◌, inl, inr, ℕ, ◌+◌, ◌<◌, ℤ, List, [], ◌∷◌, ◌++◌, length, drop, get_or, refl, sym, ap, subst, ◌∙◌, append_assoc, arith, drop_next, Poly, polynomials, Lemma, lemma_polynomial, lemma_polynomials, term_total, LemmaPasses, LemmasPass, RefusesLemma, RefusesLemmas, row_count, Refusal}

-- The lemmas before this one are made: these are their polynomials, and they have so many rows.
pub record LemmasUpTo (gs ps : List (List (ℤ × List ℕ))) (lemmas : List Lemma) (rows i : ℕ) : Type 0 where
  pub counted : rows + row_count (drop i lemmas) ≡ row_count lemmas
  pub made : ps ++ lemma_polynomials gs ps (drop i lemmas) ≡ lemma_polynomials gs [] lemmas
  pub pass : LemmasPass gs ps (drop i lemmas) → LemmasPass gs [] lemmas
  pub refuse : (e : Refusal) → RefusesLemmas gs ps rows (drop i lemmas) e → RefusesLemmas gs [] 0 lemmas e

module _ (gs ps : List (List (ℤ × List ℕ))) (lemmas : List Lemma) (rows i : ℕ) (so_far : LemmasUpTo gs ps lemmas rows i) where
  module _ (l : Lemma) (inside : i < length lemmas) (is : l ≡ get_or lemmas i l) where
    abbrev p : List (ℤ × List ℕ)
    p = lemma_polynomial gs ps l

    next : drop i lemmas ≡ l ∷ drop (i + 1) lemmas
    next = drop_next lemmas i l inside is

    pub counted_next : (rows + length l.rows) + row_count (drop (i + 1) lemmas) ≡ row_count lemmas
    counted_next = let one = ap row_count next in let whole = so_far.counted in omega arith

    pub refuse_here : (e : Refusal) → RefusesLemma gs ps rows l e → RefusesLemmas gs [] 0 lemmas e
    refuse_here e refused = so_far.refuse e (subst (λ rest. RefusesLemmas gs ps rows rest e) (sym next) (inl refused))

    pub goes_on : LemmaPasses gs ps l → LemmasUpTo gs (ps ++ p ∷ []) lemmas (rows + length l.rows) (i + 1)
    goes_on passes = record {
      counted = counted_next;
      made = append_assoc ps (p ∷ []) (lemma_polynomials gs (ps ++ p ∷ []) (drop (i + 1) lemmas)) ∙ sym (ap (λ rest. ps ++ lemma_polynomials gs ps rest) next) ∙ so_far.made;
      pass = λ later. so_far.pass (subst (LemmasPass gs ps) (sym next) (passes, later));
      refuse = λ e later. so_far.refuse e (subst (λ rest. RefusesLemmas gs ps rows rest e) (sym next) (inr (passes, later)));
    }

-- one polynomial more
pub polynomials_more : (ps : List Poly) (p : Poly) → polynomials (ps ++ p ∷ []) ≡ polynomials ps ++ p.terms ∷ []
polynomials_more [] p = refl
polynomials_more (q ∷ ps) p = ap (λ rest. q.terms ∷ rest) (polynomials_more ps p)

pub total_more : (ps : List (List (ℤ × List ℕ))) (p : List (ℤ × List ℕ)) → term_total (ps ++ p ∷ []) ≡ term_total ps + length p
total_more [] p = omega arith
total_more (q ∷ ps) p = let rest = total_more ps p in omega arith
