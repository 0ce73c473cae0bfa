-- Evidence within the limits of a problem, whose letters are letters of the quiver, can be written.
use Rattle.report_readback.proofs.Prelude.{◌<◌, ◌≤◌, ◌+◌, ◌^◌, ◌<ℤ◌, ℕ, suc, ℤ, pos, negsuc, List, [], ◌∷◌, arith, refl, length, get_or, All, ints, All-nil, All-cons, All-head, All-tail, IsCoefficient, Declaration, Certificate, CertFrom, Lemma, LemmaCertificate, Evidence, IsWithin, NamesWithin, NameEarlier, Problem, generator_limit, IsRowOver, IsLemmaOver, IsEvidenceOver, IsWritableInteger, IsWritableRow, IsWritable, number_of, IsWritableLemma, IsWritableByLemmas, IsWritableEvidence, IsRowWithin, IsCertificateWithin, IsLemmaWithin, IsLemmaCertificateWithin, IsWithinLimits}
use Rattle.traced_rows.specs.declared.evidence.CertFrom.TheVariants as cert
use Rattle.traced_rows.specs.declared.evidence.Evidence.TheVariants as evidence

-- scales and denominators
small : (z : ℤ) → pos 0 <ℤ z → IsCoefficient z → IsWritableInteger z
small (pos n) positive within = record { size = n; is = refl; in_range = within }
small (negsuc n) positive within = absurd (omega (arith, ints, positive))

-- names
small_number : (generators lemmas : ℕ) (from : CertFrom) → IsWithin generators lemmas from → generators ≤ generator_limit → lemmas ≤ 200000 → number_of from < 2 ^ 32
small_number generators lemmas (cert.Generator n) names few few_lemmas = omega (arith, names.1, few)
small_number generators lemmas (cert.Lemma n) names few few_lemmas = omega (arith, names.1, few_lemmas)

module _ (ds : List Declaration) (generators : ℕ) (few : generators ≤ generator_limit) where
  -- certificates of rows
  rows_writable : (c : Certificate) → All (IsRowWithin generators) c.rows → All (IsRowOver ds) c.rows → All (IsWritableRow ds) c.rows
  rows_writable c within over = λ k row below.
      let is = within k row below in
      record { coefficient = is.coefficient; generator = omega (arith, is.last, few); letters = over k row below; short_left = is.short_left; short_right = is.short_right }

  plain_writable : (number : ℕ) (c : Certificate) → number ≤ 100 → IsCertificateWithin generators number c → All (IsRowOver ds) c.rows → IsWritable ds c
  plain_writable number c early within over =
      record {
        claim = omega (arith, early, within.claim);
        denominator = small c.denominator within.positive within.denominator;
        rows = rows_writable c within.rows over;
        few = within.few;
        letters = within.letters;
      }

  -- certificates with lemmas
  lemma_writable : (lemmas : ℕ) (l : Lemma) → lemmas ≤ 200000 → IsLemmaWithin l → NamesWithin generators lemmas l → IsLemmaOver ds l → IsWritableLemma ds l
  lemma_writable lemmas l few_lemmas within names over =
      record {
        scale = small l.scale within.positive within.scale;
        rows = λ k row below.
            let is = within.rows k row below in
            record {
              coefficient = is.coefficient;
              number = small_number generators lemmas (get_or l.rows k row).from (names k row below) few few_lemmas;
              letters = over k row below;
              short_left = is.short_left;
              short_right = is.short_right;
            };
      }

  lemmas_writable : (before : ℕ) (lemmas : List Lemma) → before + length lemmas ≤ 200000 → All IsLemmaWithin lemmas → NameEarlier generators before lemmas
      → All (IsLemmaOver ds) lemmas → All (IsWritableLemma ds) lemmas
  lemmas_writable before [] few_lemmas within names over = All-nil (IsWritableLemma ds)
  lemmas_writable before (l ∷ lemmas) few_lemmas within names over =
      All-cons (IsWritableLemma ds) l lemmas
      (lemma_writable before l (omega (arith, few_lemmas)) (All-head IsLemmaWithin l lemmas within) names.0 (All-head (IsLemmaOver ds) l lemmas over))
      (lemmas_writable (suc before) lemmas (omega (arith, few_lemmas)) (All-tail IsLemmaWithin l lemmas within) names.1 (All-tail (IsLemmaOver ds) l lemmas over))

  by_lemmas_writable : (number : ℕ) (c : LemmaCertificate) → number ≤ 100 → IsLemmaCertificateWithin generators number c → All (IsLemmaOver ds) c.lemmas → IsLemmaOver ds c.goal → IsWritableByLemmas ds c
  by_lemmas_writable number c early within over goal_over =
      record {
        claim = omega (arith, early, within.claim);
        denominator = small c.denominator within.positive within.denominator;
        lemmas = lemmas_writable 0 c.lemmas (omega (arith, within.few_lemmas)) within.lemmas within.earlier over;
        goal = lemma_writable (length c.lemmas) c.goal within.few_lemmas within.goal within.goal_names goal_over;
        few_lemmas = within.few_lemmas;
        few_rows = within.few_rows;
        letters = within.letters;
      }

pub evidence_writable : (problem : Problem) (number : ℕ) (e : Evidence) → number ≤ 100 → IsWithinLimits problem number e → IsEvidenceOver problem.parts.quiver e → IsWritableEvidence problem.parts.quiver e
evidence_writable problem number (evidence.Plain c) early within over = plain_writable problem.parts.quiver (length problem.generators) problem.few number c early within over
evidence_writable problem number (evidence.Lemmas c) early within over = by_lemmas_writable problem.parts.quiver (length problem.generators) problem.few number c early within over.0 over.1
