-- A certificate with lemmas that names the claim, is within the limits and adds up with polynomials of the program is refused
-- for a limit alone, or for want of memory.
use Rattle.report_readback.proofs.Prelude.{◌≡◌, ◌+◌, ◌⊎◌, inl, inr, ℕ, suc, List, [], ◌∷◌, ◌++◌, Some, arith, refl, sym, ap, ap₂, ◌∙◌, subst, length, All, ints, length-append, All-head, All-tail, All-pop, Term, coefficient_of, poly_multiple, SamePolynomial, IsCanonical, Lemma, LemmaCertificate, NamesWithin, NameEarlier, AreOfLemmas, IsShareOf, IsEvidenceOf, IsNumberUpTo, Refusal, plain_sum, lemma_polynomials, RefusesLemmas, goal_claim, all_polynomials, IsPositive, IsFirstLoose, HasLooseGoal, RefusesBlock, RefusesLemmaCertificate, sums_agree, IsLemmaWithin, IsLemmaCertificateWithin}
use Rattle.cofactor_checker.specs.declared.refusal.Refusal.TheVariants as refusal
use Rattle.cofactor_checker.specs.Lemmas.{row_count}
use Rattle.report_readback.proofs.PlainAnswers.{Polys, item, none_differs}
use Rattle.report_readback.proofs.OneLemma.{Answers, rows_answer, polynomial_is, lemma_answer}

-- all lemmas
one_more : (before : Polys) (p : List Term) → suc (length before) ≡ length (before ++ p ∷ [])
one_more before p = omega (arith, length-append before (p ∷ []))

module _ (gs : Polys) where
  lemmas_answer : (before : Polys) (number : ℕ) (lemmas : List Lemma) (ps : Polys) → All IsLemmaWithin lemmas → AreOfLemmas gs before lemmas ps → All IsCanonical ps
      → NameEarlier (length gs) (length before) lemmas → (r : Refusal) → RefusesLemmas gs before number lemmas r → Answers r
  lemmas_answer before number [] ps within add_up canonical names r refused = absurd refused
  lemmas_answer before number (l ∷ lemmas) [] within add_up canonical names r refused = absurd add_up
  lemmas_answer before number (l ∷ lemmas) (p ∷ ps) within add_up canonical names r (inl here) =
      lemma_answer gs before l p (All-head IsLemmaWithin l lemmas within).positive add_up.0 (All-head IsCanonical p ps canonical) number names.0 r here
  lemmas_answer before number (l ∷ lemmas) (p ∷ ps) within add_up canonical names r (inr later) =
      let is = polynomial_is gs before l p (All-head IsLemmaWithin l lemmas within).positive add_up.0 (All-head IsCanonical p ps canonical) in
      lemmas_answer (before ++ p ∷ []) (number + length l.rows) lemmas ps (All-tail IsLemmaWithin l lemmas within) add_up.1 (All-tail IsCanonical p ps canonical)
      (subst (λ n. NameEarlier (length gs) n lemmas) (one_more before p) names.1) r (subst (λ q. RefusesLemmas gs (before ++ q ∷ []) (number + length l.rows) lemmas r) is later.1)

  polynomials_are : (before : Polys) (lemmas : List Lemma) (ps : Polys) → All IsLemmaWithin lemmas → AreOfLemmas gs before lemmas ps → All IsCanonical ps → lemma_polynomials gs before lemmas ≡ ps
  polynomials_are before [] [] within add_up canonical = refl
  polynomials_are before [] (p ∷ ps) within add_up canonical = absurd add_up
  polynomials_are before (l ∷ lemmas) [] within add_up canonical = absurd add_up
  polynomials_are before (l ∷ lemmas) (p ∷ ps) within add_up canonical =
      let is = polynomial_is gs before l p (All-head IsLemmaWithin l lemmas within).positive add_up.0 (All-head IsCanonical p ps canonical) in
      ap₂ ◌∷◌ is (ap (λ q. lemma_polynomials gs (before ++ q ∷ []) lemmas) is
      ∙ polynomials_are (before ++ p ∷ []) lemmas ps (All-tail IsLemmaWithin l lemmas within) add_up.1 (All-tail IsCanonical p ps canonical))

  one_each : (before : Polys) (lemmas : List Lemma) (ps : Polys) → AreOfLemmas gs before lemmas ps → length lemmas ≡ length ps
  one_each before [] [] add_up = refl
  one_each before [] (p ∷ ps) add_up = absurd add_up
  one_each before (l ∷ lemmas) [] add_up = absurd add_up
  one_each before (l ∷ lemmas) (p ∷ ps) add_up = ap suc (one_each (before ++ p ∷ []) lemmas ps add_up.1)

-- the certificate
module _ (claims gs : Polys) (c : LemmaCertificate) (ps : Polys) (claim : IsNumberUpTo (length claims) c.claim) (within : IsLemmaCertificateWithin (length gs) c.claim c)
    (canonical : All IsCanonical ps) (evidence : IsEvidenceOf gs ps c (goal_claim claims c)) where
  polynomials : all_polynomials gs c ≡ ps
  polynomials = polynomials_are gs [] c.lemmas ps within.lemmas evidence.lemmas_add_up canonical

  positive : IsPositive c
  positive = record {
    denominator = omega (arith, ints, within.positive);
    lemmas = λ k l below. omega (arith, ints, (within.lemmas k l below).positive);
    goal = omega (arith, ints, within.goal.positive);
  }

  goal_names : NamesWithin (length gs) (length (all_polynomials gs c)) c.goal
  goal_names = subst (λ n. NamesWithin (length gs) n c.goal) (one_each gs [] c.lemmas ps evidence.lemmas_add_up ∙ ap length (sym polynomials)) within.goal_names

  block_answer : (r : Refusal) → RefusesBlock claims gs c r → Answers r
  block_answer r (inl in_lemma) = lemmas_answer gs [] 0 c.lemmas ps within.lemmas evidence.lemmas_add_up canonical within.earlier r in_lemma.1
  block_answer r (inr in_goal) = rows_answer gs (all_polynomials gs c) (row_count c.lemmas) c.goal goal_names r in_goal.1

  sum_is : SamePolynomial (plain_sum gs (all_polynomials gs c) c.goal.rows) (poly_multiple c.goal.scale (goal_claim claims c))
  sum_is = record {
    at = λ w. ap (λ qs. coefficient_of (plain_sum gs qs c.goal.rows) w) polynomials ∙ ap (λ q. coefficient_of q w) (sym (sums_agree gs ps c.goal.rows)) ∙ evidence.goal_adds_up.at w;
  }

  shares : All (IsShareOf c.denominator) c.lemmas × IsShareOf c.denominator c.goal
  shares = All-pop (IsShareOf c.denominator) (c.lemmas ++ c.goal ∷ []) c.lemmas (Some c.goal) refl evidence.shares

  loose_answer : (lemma : ℕ) → IsFirstLoose c.denominator c.lemmas lemma ⊎ HasLooseGoal c lemma → ⊥
  loose_answer lemma (inl first) = first.loose (item (IsShareOf c.denominator) c.lemmas first.before first.lemma shares.0 first.there).1
  loose_answer lemma (inr goal) = goal.loose shares.1.1

  pub lemmas_certificate_answer : (r : Refusal) → RefusesLemmaCertificate claims gs c r → Answers r
  lemmas_certificate_answer refusal.NoSuchClaim refused = absurd (refused claim)
  lemmas_certificate_answer refusal.ZeroDenominator refused = absurd (refused.positive positive)
  lemmas_certificate_answer (refusal.LooseScale lemma) refused = absurd (loose_answer lemma refused.1)
  lemmas_certificate_answer (refusal.Overflow row overflow) refused = inl tt
  lemmas_certificate_answer (refusal.Size row) refused = inl tt
  lemmas_certificate_answer (refusal.Kept row) refused = inl tt
  lemmas_certificate_answer (refusal.Differs word want got) refused = absurd (none_differs _ _ word want got sum_is refused.difference)
  lemmas_certificate_answer (refusal.Memory failed) refused = inr tt
  lemmas_certificate_answer other refused = block_answer other refused
