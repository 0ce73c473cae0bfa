-- A word at which sums of rows and multiples of claims differ, or that a scale doesn't divide, has letters of the quiver alone.
use Rattle.evidence_commands.proofs.Prelude.{◌≡◌, ℕ, ℤ, true, List, [], inl, inr, Result, Err, IfErr, sym, subst, All, All-map, All-weaker, Row, generator_at, row_sum, IsOver, letter_count, CertRow, Certificate, Lemma, LemmaCertificate, Evidence, Plain, Lemmas, row_of, rows_of, Refusal, plain_sum, all_polynomials, RefusesBlock, RefusesLemmaCertificate, RefusesEvidence, is_over, AreOver, IsLemmaOver, Stays, sum_stays, difference_is_over, plain_stays, lemmas_stay, indivisible_is_over, drawn, word_over, over_word, generators_stay, claim_stays, Problem, polynomials, IsRowOver, IsCheckable, IsCheckableLemma, IsCheckableByLemmas, IsCheckableEvidence, HasLetters}
use Rattle.cofactor_checker.specs.Acceptance.{Refuses}
use Rattle.cofactor_checker.specs.declared.refusal.Refusal.TheVariants as refusal

-- a refusal that `?` returns
pub handed_on : {A E : Type 0} (P : E → Type 0) (result : Result A E) (e : E) → result ≡ Err e → P e → IfErr result P
handed_on {A} {E} P result e is holds = let F : Result A E → Type 0 = λ r. IfErr r P in subst F (sym is) holds

-- the words that refusals name
module _ (problem : Problem) where
  -- of a certificate of rows over generators alone
  rows_over : (rows : List CertRow) → All (IsRowOver problem.parts.quiver) rows → AreOver (drawn problem) (rows_of rows)
  rows_over rows all =
      All-map (λ (r : Row). (is_over (drawn problem) r.left ≡ true) × (is_over (drawn problem) r.right ≡ true)) row_of rows
      (λ k r below. let over = all k r below in (word_over problem _ over.left, word_over problem _ over.right))

  module _ (c : Certificate) (checkable : IsCheckable problem.parts.quiver c) where
    certificate_letters : (r : Refusal) → Refuses (polynomials problem.parts.claims) (polynomials problem.generators) c r → HasLetters problem.parts.quiver r
    certificate_letters (refusal.Differs word want got) because =
        let rows : AreOver (drawn problem) (rows_of c.rows) = rows_over c.rows checkable.letters in
        let sum : List (ℤ × List ℕ) = row_sum (polynomials problem.generators) (rows_of c.rows) in
        over_word problem word
        (difference_is_over (drawn problem) c.denominator (generator_at (polynomials problem.parts.claims) c.claim) sum word want got (claim_stays problem c.claim) (sum_stays (drawn problem) (polynomials problem.generators) (rows_of c.rows) (generators_stay problem) rows)
        because.difference.wanted_there because.difference.found_there because.difference.differ)
    certificate_letters (refusal.NotDivisible lemma word got) because = absurd because
    certificate_letters other because = tt

  -- of a certificate with lemmas
  lemma_over : (l : Lemma) → IsCheckableLemma problem.parts.quiver l → IsLemmaOver (drawn problem) l
  lemma_over l checkable = λ k r below. let over = checkable.letters k r below in (word_over problem _ over.left, word_over problem _ over.right)

  module _ (c : LemmaCertificate) (checkable : IsCheckableByLemmas problem.parts.quiver c) where
    over : All (IsLemmaOver (drawn problem)) c.lemmas
    over = All-weaker (IsCheckableLemma problem.parts.quiver) (IsLemmaOver (drawn problem)) lemma_over c.lemmas checkable.lemmas

    goal_stays : Stays (drawn problem) (plain_sum (polynomials problem.generators) (all_polynomials (polynomials problem.generators) c) c.goal.rows)
    goal_stays =
        plain_stays (drawn problem) (polynomials problem.generators) (generators_stay problem) (all_polynomials (polynomials problem.generators) c) c.goal
        (lemmas_stay (drawn problem) (polynomials problem.generators) (generators_stay problem) [] c.lemmas tt over) (lemma_over c.goal checkable.goal)

    not_divided : (lemma : ℕ) (word : List ℕ) (got : ℤ) → RefusesBlock (polynomials problem.parts.claims) (polynomials problem.generators) c (refusal.NotDivisible lemma word got)
        → IsOver (letter_count problem.parts.quiver) word
    not_divided lemma word got (inl of_lemma) =
        over_word problem word (indivisible_is_over (drawn problem) (polynomials problem.generators) (generators_stay problem) [] 0 c.lemmas lemma word got tt over of_lemma.1)
    not_divided lemma word got (inr of_goal) = absurd of_goal.1

    lemma_letters : (r : Refusal) → RefusesLemmaCertificate (polynomials problem.parts.claims) (polynomials problem.generators) c r → HasLetters problem.parts.quiver r
    lemma_letters (refusal.NotDivisible lemma word got) because = not_divided lemma word got because
    lemma_letters (refusal.Differs word want got) because =
        over_word problem word
        (difference_is_over (drawn problem) c.goal.scale (generator_at (polynomials problem.parts.claims) c.claim) (plain_sum (polynomials problem.generators) (all_polynomials (polynomials problem.generators) c) c.goal.rows)
        word want got (claim_stays problem c.claim) goal_stays because.difference.wanted_there because.difference.found_there because.difference.differ)
    lemma_letters other because = tt

  -- each refusal names letters of the quiver alone
  pub refused_letters : (e : Evidence) → IsCheckableEvidence problem.parts.quiver e → (r : Refusal) → RefusesEvidence (polynomials problem.parts.claims) (polynomials problem.generators) e r → HasLetters problem.parts.quiver r
  refused_letters (Plain c) checkable r because = certificate_letters c checkable r because
  refused_letters (Lemmas c) checkable r because = lemma_letters c checkable r because
