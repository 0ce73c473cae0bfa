-- The evidence of derived claims is within the limits.
use Rattle.outcome_laws.proofs.Prelude.{◌≡◌, ◌≤◌, ◌<ℤ◌, ℕ, pos, List, length, get_or, Some, Ok, refl, sym, ap, subst, arith, All, ints, All-nil, All-pop, All-weaker, Term, Row, Made, Cofactors, LemmaRow, Lemma, LemmaCertificate, Evidence, Format, IsUpTo, NamesUpTo, IsRecord, expansion_of, gathered_of, parts_of, IsRangedLemma, parts, gatherings_fit, lemmas_have_rows, gatherings_are_ranged, lemmas_are_named, expansions_fit, generators_are_named, Problem, letter_count, Budget, Setting, setting_of, claim_at, evidence_of_zero, record_of, certificate_of, word_limit, IsRowWithin, IsLemmaRowWithin, IsLemmaWithin, IsWithinLimits, EvidenceFits, Origin, IsByRule, rows_are_by_rules}
use Rattle.traced_rows.specs.declared.evidence.Evidence.TheVariants as evidence
use Rattle.traced_rows.specs.declared.evidence.Format.TheVariants as format
use Rattle.claim_decider.specs.declared.outcome.Outcome.TheVariants as outcome
use Rattle.outcome_laws.proofs.EvidenceRanges.{expansion_ranged, gathered_positive}
use Rattle.outcome_laws.proofs.EvidenceWords.{gathered_words}
use Rattle.outcome_laws.proofs.OutcomeWays.{Way, no_terms, expanded, gathered, left_over, given_up, with_run, way, IsProvedBy}
use Rattle.outcome_laws.proofs.ReducedWithin.{IsShortRow}
use Rattle.traced_rows.specs.declared.Origin.TheVariants as origin
use Rattle.outcome_laws.proofs.Derivations.{within, claim_is_record}
use Rattle.outcome_laws.proofs.LimitedRuns.{LimitedRecords, records_limited}

abbrev IsShort : List ℕ → Type 0
IsShort w = length w ≤ word_limit

short_words : (rows : List Row) → All IsShortRow rows → All (λ r. IsShort r.left × IsShort r.right) rows
short_words rows each k r inside = ((each k r inside).left, (each k r inside).right)

lemma_within : (l : Lemma) → IsRangedLemma l → pos 0 <ℤ l.scale → All (λ (r : LemmaRow). IsShort r.left × IsShort r.right) l.rows → IsLemmaWithin l
lemma_within l ranged positive words =
    record { positive = positive; scale = ranged.0; rows = λ i r inside. record { coefficient = ranged.1 i r inside; short_left = (words i r inside).0; short_right = (words i r inside).1 } }

module _ (problem : Problem) (budget : Budget) (number : ℕ) where
  abbrev setting_in : Setting
  setting_in = setting_of problem budget

  abbrev letters_in : ℕ
  letters_in = letter_count problem.parts.quiver

  abbrev claim : List Term
  claim = claim_at problem number

  abbrev count : ℕ
  count = length problem.generators

  -- without terms
  zero_within : (f : Format) → IsWithinLimits problem number (evidence_of_zero f number)
  zero_within format.Plain = record { claim = refl; positive = omega (arith, ints); denominator = omega (arith, ints); rows = All-nil (IsRowWithin count); few = omega arith; letters = omega arith }
  zero_within format.Lemmas = record {
    claim = refl;
    positive = omega (arith, ints);
    denominator = omega (arith, ints);
    lemmas = All-nil IsLemmaWithin;
    goal = record { positive = omega (arith, ints); scale = omega (arith, ints); rows = All-nil IsLemmaRowWithin };
    earlier = tt;
    goal_names = λ i r inside. absurd (omega (arith, inside));
    few_lemmas = omega arith;
    few_rows = omega arith;
    letters = omega arith;
  }

  -- of a claim that is reduced to zero
  module _ (by : IsProvedBy setting_in claim) where
    abbrev target : Made
    target = record_of by.reduced

    limited : LimitedRecords problem budget by.state
    limited = records_limited problem budget by.rounds by.state by.run

    target_within : All IsShortRow by.reduced.rows
    target_within = (within problem budget number by.rounds by.state by.run by.reduced by.reduction by.none).rows

    target_is : IsRecord (length by.state.made) target
    target_is = claim_is_record problem budget number by.rounds by.state by.run by.reduced by.reduction by.none

    target_named : NamesUpTo count target
    target_named =
        All-weaker (λ (r : Row). IsByRule (length by.state.rules) r.from) (λ (r : Row). IsUpTo count r.from) (λ r. by_rule (length by.state.rules) r.from) by.reduced.rows
        (rows_are_by_rules setting_in.compare by.state.rules claim budget.steps by.reduced by.reduction)
      where
        by_rule : (rules : ℕ) (from : Origin) → IsByRule rules from → IsUpTo count from
        by_rule rules (origin.Generator n) is = absurd is
        by_rule rules (origin.Rule n) is = tt

    expanded_within : (c : Cofactors) → expansion_of by.state.made target ≡ Ok c → IsWithinLimits problem number (certificate_of number c)
    expanded_within c ends =
        let ranged = expansion_ranged by.state.made target c limited.positive target_is.positive ends in
        let fits = expansions_fit by.state.made target c ends in
        let names = generators_are_named count by.state.made target c limited.named target_named ends in
        record {
          claim = refl;
          positive = ranged.positive;
          denominator = ranged.denominator_in;
          rows = λ i r inside.
              record {
                coefficient = ranged.coefficients_in i r inside;
                short_left = (fits.short i r inside).0;
                short_right = (fits.short i r inside).1;
                first = (names i r inside).0;
                last = (names i r inside).1;
              };
          few = fits.few;
          letters = fits.letters;
        }

    gathered_within : (c : LemmaCertificate) → gathered_of number by.state.made target ≡ Ok c → IsWithinLimits problem number (evidence.Lemmas c)
    gathered_within c ends =
        let ranged = gatherings_are_ranged number by.state.made target c limited.are_records target_is ends in
        let positive = gathered_positive number by.state.made target c limited.positive target_is.positive ends in
        let words = gathered_words IsShort number by.state.made target c (λ k m inside. short_words (get_or by.state.made k m).rows (limited.short k m inside)) (short_words by.reduced.rows target_within) ends in
        let each : All IsLemmaWithin (parts_of c) = λ i l inside. lemma_within _ (ranged.1 i l inside) (positive.1 i l inside) (words i l inside) in
        let both = All-pop IsLemmaWithin (parts_of c) c.lemmas (Some c.goal) refl each in
        let names = lemmas_are_named count number by.state.made target c limited.are_records target_is limited.named target_named ends in
        let sizes = gatherings_fit number by.state.made target c ends in
        record {
          claim = sym (ap (λ (x : LemmaCertificate). x.claim) (parts number by.state.made target c ends).is);
          positive = positive.0;
          denominator = ranged.0;
          lemmas = both.0;
          goal = both.1;
          earlier = names.0;
          goal_names = names.1;
          few_lemmas = (lemmas_have_rows number by.state.made target c limited.some ends).1;
          few_rows = sizes.0;
          letters = sizes.1;
        }

  -- outcomes
  same_evidence : (d e : Evidence) → outcome.Derived d ≡ outcome.Derived e → d ≡ e
  same_evidence d e same = cc

  all_within : (form : Format) (e : Evidence) → Way setting_in form number claim (outcome.Derived e) → IsWithinLimits problem number e
  all_within form e (no_terms none is) = subst (IsWithinLimits problem number) (sym (same_evidence e _ is)) (zero_within form)
  all_within form e (expanded by c ends is) = subst (IsWithinLimits problem number) (sym (same_evidence e _ is)) (expanded_within by c ends)
  all_within form e (gathered by c ends is) = subst (IsWithinLimits problem number) (sym (same_evidence e _ is)) (gathered_within by c ends)
  all_within form e (left_over rounds s is_open round rest left is) = absurd (cc)
  all_within form e (given_up at c stops is) = absurd (cc)
  all_within form e (with_run rounds s halt is_open round is) = absurd (cc)

-- the law
pub evidence_fits : EvidenceFits
evidence_fits problem budget form number e is =
    all_within problem budget number form e (way (setting_of problem budget) form number (claim_at problem number) (outcome.Derived e) is.rounds is.state is.gets)
