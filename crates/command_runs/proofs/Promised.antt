-- Each line that is put means what it says.
use Rattle.command_runs.proofs.Prelude.{◌≡◌, ◌+◌, ℕ, true, false, List, [], ◌∷◌, refl, sym, ap, subst, ◌∙◌, length, IsTrue, AllZip, list_all, range_with_len, length-range_with_len, AllZip-long, Structure, Poly, Problem, Budget, claim_numbers, setting_of, Model, is_named, SaysEquations, Verdict, block_text, report_of, heads_of, declared_names_are_names, Ending, IsStated, Outcome, AreOutcomesOf, AreLastRules, IsOutcomeAt, Basis, rules_of, IsPrinted, basis_by, Asked, Print, IsVerdictOn, proved, not_derivable, refuted, undecided, AreVerdictsOn, asked_by_bench, VerdictMeans, PrintsMeant, SearchMeans, PrintsSearched, IsSharp, LinesAreMeant}
use Rattle.report_text.specs.declared.verdict.Verdict.TheVariants as verdict
use Rattle.claim_decider.specs.declared.outcome.Outcome.TheVariants as outcome
use Rattle.command_runs.proofs.SharpRuns.{printed_bases_mean_sharp, printed_bases_mean_star_sharp}
use Rattle.command_runs.proofs.ReportLines.{IsOfVerdict, line_of_report, line_of_heads}
use Rattle.command_runs.proofs.PromisedVerdicts.{verdicts_are_meant}

-- what a verdict is
abbrev IsProof : Verdict → Type 0
IsProof (verdict.Proved e) = Unit {0}
IsProof v = ⊥

abbrev IsRest : Verdict → Type 0
IsRest (verdict.NotDerivable rest) = Unit {0}
IsRest v = ⊥

abbrev IsModel : Verdict → Type 0
IsModel (verdict.Refuted m) = Unit {0}
IsModel v = ⊥

abbrev IsHalt : Verdict → Type 0
IsHalt (verdict.Undecided h) = Unit {0}
IsHalt v = ⊥

abbrev IsSearch : Verdict → Type 0
IsSearch (verdict.NotRefuted candidates) = Unit {0}
IsSearch v = ⊥

-- the names that a statement declares
pub known : (bytes : List ℕ) (problem : Problem) (is : IsStated bytes problem) → IsTrue (list_all is_named problem.parts.quiver)
known bytes problem is = declared_names_are_names bytes is.statements problem is.tree is.elaborated

-- verdicts on as many claims
as_many : (P : ℕ → Verdict → Type 0) (problem : Problem) (vs : List Verdict) → AllZip P (claim_numbers problem) vs → length vs ≡ length problem.parts.claims
as_many P problem vs each = AllZip-long P (claim_numbers problem) vs each ∙ length-range_with_len 1 (length problem.parts.claims)

module _ {Object Arrow : Type 0} {s : Structure Object Arrow} (equations : SaysEquations s) (bytes : List ℕ) (problem : Problem) (is : IsStated bytes problem) (evidence : List ℕ) (budget : Budget) where
  -- a claim that isn't derivable is not zero in the normal forms
  abbrev IsToldFromZero : ℕ → Verdict → Type 0
  IsToldFromZero claim v = (rest : Poly) → v ≡ verdict.NotDerivable rest → IsSharp bytes claim

  abbrev Meant : ℕ → Verdict → Type 0
  Meant claim v = VerdictMeans s problem budget claim v × IsToldFromZero claim v

  -- a report of verdicts
  report_is_meant : (rules : List Poly) (vs : List Verdict) → AllZip Meant (claim_numbers problem) vs → LinesAreMeant s budget bytes evidence (report_of problem.parts.quiver rules vs)
  report_is_meant rules vs each =
      let ds = problem.parts.quiver in
      let names = known bytes problem is in
      let count = as_many Meant problem vs each in
      verdicts_are_meant equations budget bytes problem is Meant (λ claim v both. both.0) (λ claim rest both. both.1 rest refl) (block_text ds rules) (λ claim m both. refl) names (length rules) (report_of ds rules vs)
      (λ l after inner at. subst (λ (n : ℕ). IsOfVerdict ds names Meant (length rules) 1 (1 + n) (block_text ds rules) (35 ∷ l) after) count
      (line_of_report ds names Meant rules vs (subst (λ (n : ℕ). AllZip Meant (range_with_len 1 n) vs) (sym count) each) l after inner at)) evidence

  -- head lines alone, of which none is that of a claim that is refuted
  abbrev Unrefuted : ℕ → Verdict → Type 0
  Unrefuted claim v = Meant claim v × ((m : Model) → v ≡ verdict.Refuted m → ⊥)

  heads_are_meant : (rules : List Poly) (vs : List Verdict) → AllZip Unrefuted (claim_numbers problem) vs → LinesAreMeant s budget bytes evidence (heads_of problem.parts.quiver rules vs)
  heads_are_meant rules vs each =
      let ds = problem.parts.quiver in
      let names = known bytes problem is in
      let count = as_many Unrefuted problem vs each in
      verdicts_are_meant equations budget bytes problem is Unrefuted (λ claim v both. both.0.0) (λ claim rest both. both.0.1 rest refl) (λ claim v. []) (λ claim m both. absurd (both.1 m refl)) names (length rules)
      (heads_of ds rules vs)
      (λ l after inner at. subst (λ (n : ℕ). IsOfVerdict ds names Unrefuted (length rules) 1 (1 + n) (λ claim v. []) (35 ∷ l) after) count
      (line_of_heads ds names Unrefuted rules vs (subst (λ (n : ℕ). AllZip Unrefuted (range_with_len 1 n) vs) (sym count) each) l after inner at)) evidence

  -- where no models are searched, no claim is refuted
  none_refuted : (asked : Asked) → asked.models ≡ false → (number : ℕ) (o : Outcome) (v : Verdict) → IsVerdictOn problem asked number o v → (m : Model) → v ≡ verdict.Refuted m → ⊥
  none_refuted asked none number o v (proved e on says) m same = let P : Verdict → Type 0 = λ x. IsProof x in absurd (subst P (sym says ∙ same) tt)
  none_refuted asked none number o v (not_derivable rest on says) m same = absurd (subst IsRest (sym says ∙ same) tt)
  none_refuted asked none number o v (refuted halt model on some least says) m same = absurd (let wrong : true ≡ false = sym some ∙ none in cc)
  none_refuted asked none number o v (undecided halt on nothing says) m same = absurd (subst IsHalt (sym says ∙ same) tt)

  unrefuted : (asked : Asked) → asked.models ≡ false → (numbers : List ℕ) (os : List Outcome) (vs : List Verdict) → AreVerdictsOn problem asked numbers os vs → AllZip Meant numbers vs → AllZip Unrefuted numbers vs
  unrefuted asked none [] os [] on means = tt
  unrefuted asked none [] os (v ∷ vs) on means = absurd means
  unrefuted asked none (n ∷ numbers) os [] on means = absurd means
  unrefuted asked none (n ∷ numbers) [] (v ∷ vs) on means = absurd on
  unrefuted asked none (n ∷ numbers) (o ∷ os) (v ∷ vs) on means = ((means.0, none_refuted asked none n o v on.0), unrefuted asked none numbers os vs on.1 means.1)

  -- in the normal forms of the last rules of a run a claim that isn't derivable is not zero
  module _ (asked : Asked) (rules : List Poly) (are_rules : AreLastRules (setting_of problem asked.budget) asked.form problem (claim_numbers problem) rules) where
    by_rules : (number : ℕ) (rest : Poly) → IsOutcomeAt problem asked.budget asked.form number (outcome.Closed rest) → IsSharp bytes number
    by_rules number rest at =
        let b : Basis = basis_by rules number rest in
        let printed : IsPrinted problem asked.budget asked.form b = record { outcome = at; rules = are_rules } in
        record {
          problem = problem;
          stated = is;
          rules = rules_of problem b;
          sharp = printed_bases_mean_sharp problem asked.budget asked.form b printed;
          star_sharp = printed_bases_mean_star_sharp problem asked.budget asked.form b printed;
        }

    by_outcome : (number : ℕ) (o : Outcome) (v : Verdict) → IsVerdictOn problem asked number o v → IsOutcomeAt problem asked.budget asked.form number o → IsToldFromZero number v
    by_outcome number o v (proved e on says) at rest same = let P : Verdict → Type 0 = λ x. IsProof x in absurd (subst P (sym says ∙ same) tt)
    by_outcome number o v (not_derivable left on says) at rest same = by_rules number left (subst (IsOutcomeAt problem asked.budget asked.form number) on at)
    by_outcome number o v (refuted halt model on some least says) at rest same = let P : Verdict → Type 0 = λ x. IsModel x in absurd (subst P (sym says ∙ same) tt)
    by_outcome number o v (undecided halt on nothing says) at rest same = absurd (subst IsHalt (sym says ∙ same) tt)

    told_apart : (numbers : List ℕ) (os : List Outcome) (vs : List Verdict) → AreVerdictsOn problem asked numbers os vs → AreOutcomesOf (setting_of problem asked.budget) asked.form problem numbers os
        → AllZip (VerdictMeans s problem budget) numbers vs → AllZip Meant numbers vs
    told_apart [] os [] on at means = tt
    told_apart [] os (v ∷ vs) on at means = absurd means
    told_apart (n ∷ numbers) os [] on at means = absurd means
    told_apart (n ∷ numbers) [] (v ∷ vs) on at means = absurd on
    told_apart (n ∷ numbers) (o ∷ os) (v ∷ vs) on at means = ((means.0, by_outcome n o v on.0 at.0), told_apart numbers os vs on.1 at.1 means.1)

  -- what a search says
  searched : (numbers : List ℕ) (vs : List Verdict) → AllZip (SearchMeans problem) numbers vs → AllZip Meant numbers vs
  searched [] [] each = tt
  searched [] (v ∷ vs) each = absurd each
  searched (n ∷ numbers) [] each = absurd each
  searched (n ∷ numbers) (v ∷ vs) each = (by v each.0, searched numbers vs each.1)
    where
      by : (v : Verdict) → SearchMeans problem n v → Meant n v
      by (verdict.Proved e) means = absurd means
      by (verdict.NotDerivable rest) means = absurd means
      by (verdict.Refuted m) means = (means, λ rest same. let P : Verdict → Type 0 = λ x. IsModel x in absurd (subst P same tt))
      by (verdict.Undecided h) means = absurd means
      by (verdict.NotRefuted candidates) means = (tt, λ rest same. let P : Verdict → Type 0 = λ x. IsSearch x in absurd (subst P same tt))

module _ {Object Arrow : Type 0} {s : Structure Object Arrow} (equations : SaysEquations s) (bytes : List ℕ) (problem : Problem) (is : IsStated bytes problem) (evidence : List ℕ) where
  decided : (print : Print) (asked : Asked) (ending : Ending) (prints : PrintsMeant s print asked problem ending)
      → AllZip (Meant equations bytes problem is evidence asked.budget) (claim_numbers problem) prints.answer.verdicts
  decided print asked ending prints =
      let by = prints.answer.decides in
      told_apart equations bytes problem is evidence asked.budget asked prints.answer.rules by.are_rules (claim_numbers problem) by.outcomes prints.answer.verdicts by.are_verdicts by.are_outcomes prints.each

  pub prove_is_meant : (asked : Asked) (ending : Ending) → PrintsMeant s report_of asked problem ending → LinesAreMeant s asked.budget bytes evidence ending.report
  prove_is_meant asked ending prints =
      subst (LinesAreMeant s asked.budget bytes evidence) (sym (ap (λ (e : Ending). e.report) prints.answer.says))
      (report_is_meant equations bytes problem is evidence asked.budget prints.answer.rules prints.answer.verdicts (decided report_of asked ending prints))

  pub bench_is_meant : (ending : Ending) → PrintsMeant s heads_of asked_by_bench problem ending → LinesAreMeant s asked_by_bench.budget bytes evidence ending.report
  bench_is_meant ending prints =
      subst (LinesAreMeant s asked_by_bench.budget bytes evidence) (sym (ap (λ (e : Ending). e.report) prints.answer.says))
      (heads_are_meant equations bytes problem is evidence asked_by_bench.budget prints.answer.rules prints.answer.verdicts
      (unrefuted equations bytes problem is evidence asked_by_bench.budget asked_by_bench refl (claim_numbers problem) prints.answer.decides.outcomes prints.answer.verdicts prints.answer.decides.are_verdicts
      (decided heads_of asked_by_bench ending prints)))

  pub refute_is_meant : (budget : Budget) (seed : ℕ) (ending : Ending) → PrintsSearched seed problem ending → LinesAreMeant s budget bytes evidence ending.report
  refute_is_meant budget seed ending prints =
      subst (LinesAreMeant s budget bytes evidence) (sym (ap (λ (e : Ending). e.report) prints.answer.says))
      (report_is_meant equations bytes problem is evidence budget [] prints.answer.verdicts (searched equations bytes problem is evidence budget (claim_numbers problem) prints.answer.verdicts prints.each))
