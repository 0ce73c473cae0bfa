-- The lemmas of a derived claim's evidence are rules, and so polynomials of the program.
use Rattle.report_readback.proofs.Prelude.{◌≡◌, ℕ, zero, suc, List, [], ◌∷◌, Ok, arith, ap, ◌∙◌, subst, get_or, All, All-nil, All-map, Term, generator_at, IsCanonical, IsDescending-from_recursion, Made, Format, LemmaCertificate, lemma_rules, lemma_polys, AreOfLemmas, IsEvidenceOf, Rule, polynomials_of, Problem, polynomials, claim_at, Budget, setting_of, record_of, evidence_of_zero, LemmaCertificateAddsUp, IsOutcomeAt, gathering_adds_up, derived_claims_add_up, Way, no_terms, expanded, gathered, left_over, given_up, with_run, way}
use Rattle.traced_rows.specs.declared.evidence.Evidence.TheVariants as evidence
use Rattle.traced_rows.specs.declared.evidence.Format.TheVariants as format
use Rattle.claim_decider.specs.declared.outcome.Outcome.TheVariants as outcome

-- rules are polynomials of the program
zero_is_canonical : IsCanonical []
zero_is_canonical = record {
  shaped = record { descending = IsDescending-from_recursion [] tt; nonzero = All-nil _; in_range = All-nil _ };
  short = All-nil _;
  few = omega arith;
}

canonical_at : (rules : List Rule) (number : ℕ) → IsCanonical (generator_at (polynomials_of rules) number)
canonical_at rules zero = zero_is_canonical
canonical_at [] (suc n) = zero_is_canonical
canonical_at (g ∷ rules) (suc zero) = g.poly.canonical
canonical_at (g ∷ rules) (suc (suc n)) = canonical_at rules (suc n)

lemmas_are_canonical : (rules : List Rule) (made : List Made) (target : Made) → All IsCanonical (lemma_polys (polynomials_of rules) made target)
lemmas_are_canonical rules made target =
    let needed = lemma_rules made target in
    All-map IsCanonical (λ e. generator_at (polynomials_of rules) e.0) needed (λ k d below. canonical_at rules (get_or needed k d).0)

-- no lemmas have no polynomials
none_of_none : (gs : List (List Term)) (ps : List (List Term)) → AreOfLemmas gs [] [] ps → All IsCanonical ps
none_of_none gs [] add_up = All-nil IsCanonical
none_of_none gs (p ∷ ps) add_up = absurd add_up

-- outcomes
module _ (problem : Problem) (budget : Budget) (form : Format) (number : ℕ) (c : LemmaCertificate) where
  -- the certificate is evidence of the claim, with polynomials of the program
  pub record HasLemmas : Type 0 where
    pub lemmas : List (List Term)
    pub canonical : All IsCanonical lemmas
    pub evidence : IsEvidenceOf (polynomials problem.generators) lemmas c (claim_at problem number)

  -- the claim without terms
  at_once : (f : Format) → outcome.Derived (evidence.Lemmas c) ≡ outcome.Derived (evidence_of_zero f number) → LemmaCertificateAddsUp problem number c → HasLemmas
  at_once format.Plain same adds_up = absurd (cc)
  at_once format.Lemmas same adds_up =
      let none : c.lemmas ≡ [] = cc in
      record {
        lemmas = adds_up.lemmas;
        canonical = none_of_none (polynomials problem.generators) adds_up.lemmas (subst (λ ls. AreOfLemmas (polynomials problem.generators) [] ls adds_up.lemmas) none adds_up.evidence.lemmas_add_up);
        evidence = adds_up.evidence;
      }

  by_way : LemmaCertificateAddsUp problem number c → Way (setting_of problem budget) form number (claim_at problem number) (outcome.Derived (evidence.Lemmas c)) → HasLemmas
  by_way adds_up (no_terms none same) = at_once form same adds_up
  by_way adds_up (expanded by cofactors is same) = absurd (cc)
  by_way adds_up (gathered by certificate is same) =
      let same_one : certificate ≡ c = cc in
      record {
        lemmas = lemma_polys (polynomials_of by.state.rules) by.state.made (record_of by.reduced);
        canonical = lemmas_are_canonical by.state.rules by.state.made (record_of by.reduced);
        evidence = gathering_adds_up problem budget number by.rounds by.state by.run by.reduced by.reduction by.none c (is ∙ ap Ok same_one);
      }
  by_way adds_up (left_over rounds s is_open round rest left same) = absurd (cc)
  by_way adds_up (given_up at cause stops same) = absurd (cc)
  by_way adds_up (with_run rounds s halt is_open round same) = absurd (cc)

  pub lemmas_of : IsOutcomeAt problem budget form number (outcome.Derived (evidence.Lemmas c)) → HasLemmas
  lemmas_of is =
      by_way (derived_claims_add_up problem budget form number (evidence.Lemmas c) is)
      (way (setting_of problem budget) form number (claim_at problem number) (outcome.Derived (evidence.Lemmas c)) is.rounds is.state is.gets)
