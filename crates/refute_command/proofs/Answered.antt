-- What `refute` owes: one ending, its status, and what its verdicts mean.
use Rattle.refute_command.proofs.Prelude.{◌≡◌, ◌⊎◌, inl, inr, ℕ, List, [], refl, sym, ap, subst, ◌∙◌, All, AllZip, Model, Problem, claim_numbers, all_candidate_count, NoneBreaks, LeastBreaks, least_once, none_least, least_or_none, least_refutes, least_means, Verdict, report_of, status_of, IsVerdictOver, Ending, OverStatement, IsStated, IsItsOwnEvidence, declared_names_are_names, IsSearchedOn, refuted, not_refuted, AnswersSearch, SearchMeans, PrintsSearched, SaysSearched, OwesEnding, owed_over, over_stated, verdicts_status, AllZip-unique, zip_ends, AllZip-weaker, zip_right}
use Rattle.report_text.specs.declared.verdict.Verdict.TheVariants as verdict
use Rattle.refute_command.proofs.OwnEvidence.{searched_is_evidence}

-- one verdict on each claim
module _ (problem : Problem) (seed : ℕ) where
  verdict_once : (claim : ℕ) (v v' : Verdict) → IsSearchedOn problem seed claim v → IsSearchedOn problem seed claim v' → v ≡ v'
  verdict_once claim v v' (refuted m least is) (refuted m' least' is') = is ∙ ap (λ x. verdict.Refuted x) (least_once problem claim seed m m' least least') ∙ sym is'
  verdict_once claim v v' (refuted m least is) (not_refuted none is') = absurd (none_least problem claim seed m none least)
  verdict_once claim v v' (not_refuted none is) (refuted m least is') = absurd (none_least problem claim seed m none least)
  verdict_once claim v v' (not_refuted none is) (not_refuted none' is') = is ∙ sym is'

  verdict_ends : (claim : ℕ) → (v : Verdict) × IsSearchedOn problem seed claim v
  verdict_ends claim = by (least_or_none problem claim seed)
    where
      by : ((m : Model) × LeastBreaks problem claim seed m) ⊎ NoneBreaks problem claim seed → (v : Verdict) × IsSearchedOn problem seed claim v
      by (inl found) = (verdict.Refuted found.0, refuted found.0 found.1 refl)
      by (inr none) = (verdict.NotRefuted (all_candidate_count problem), not_refuted none refl)

  verdict_over : (claim : ℕ) (v : Verdict) → IsSearchedOn problem seed claim v → IsVerdictOver problem.parts.quiver v
  verdict_over claim v (refuted m least is) =
      let model = least_refutes problem claim seed m least in
      subst (IsVerdictOver problem.parts.quiver) (sym is) (record { sides = model.sides; maps = model.maps })
  verdict_over claim v (not_refuted none is) = subst (IsVerdictOver problem.parts.quiver) (sym is) tt

  pub searched_over : (numbers : List ℕ) (vs : List Verdict) → AllZip (IsSearchedOn problem seed) numbers vs → All (IsVerdictOver problem.parts.quiver) vs
  searched_over numbers vs zipped = zip_right (IsSearchedOn problem seed) (IsVerdictOver problem.parts.quiver) verdict_over numbers vs zipped

  verdict_means : (claim : ℕ) (v : Verdict) → IsSearchedOn problem seed claim v → SearchMeans problem claim v
  verdict_means claim v (refuted m least is) = subst (SearchMeans problem claim) (sym is) (least_means problem claim seed m least)
  verdict_means claim v (not_refuted none is) = subst (SearchMeans problem claim) (sym is) tt

-- what is answered
search_ends : (seed : ℕ) (problem : Problem) → (ending : Ending) × AnswersSearch seed problem ending
search_ends seed problem =
    let all = zip_ends (IsSearchedOn problem seed) (verdict_ends problem seed) (claim_numbers problem) in
    (record { status = status_of all.0; report = report_of problem.parts.quiver [] all.0 }, record { verdicts = all.0; each = all.1; says = refl })

search_once : (seed : ℕ) (ending ending' : Ending) (problem : Problem) → AnswersSearch seed problem ending → AnswersSearch seed problem ending' → ending ≡ ending'
search_once seed ending ending' problem one other =
    let same = AllZip-unique (IsSearchedOn problem seed) (verdict_once problem seed) (claim_numbers problem) one.verdicts other.verdicts one.each other.each in
    one.says ∙ (λ i. record { status = status_of (same i); report = report_of problem.parts.quiver [] (same i) }) ∙ sym other.says

-- the report of a statement's search is its own evidence
pub search_is_evidence : (seed : ℕ) (statement : List ℕ) (ending : Ending) (problem : Problem) → IsStated statement problem → (answer : AnswersSearch seed problem ending)
    → IsItsOwnEvidence problem ending.report answer.verdicts
search_is_evidence seed statement ending problem is answer =
    subst (λ (e : Ending). IsItsOwnEvidence problem e.report answer.verdicts) (sym answer.says)
    (searched_is_evidence problem seed (declared_names_are_names statement is.statements problem is.tree is.elaborated) answer.verdicts answer.each)

search_meant : (seed : ℕ) (statement : List ℕ) (ending : Ending) (problem : Problem) → IsStated statement problem → AnswersSearch seed problem ending → PrintsSearched seed problem ending
search_meant seed statement ending problem is answer = record {
  answer = answer;
  each = AllZip-weaker (IsSearchedOn problem seed) (SearchMeans problem) (verdict_means problem seed) (claim_numbers problem) answer.verdicts answer.each;
  own_evidence = search_is_evidence seed statement ending problem is answer;
}

-- what is owed
pub search_owes : (seed : ℕ) (statement : List ℕ)
    → OwesEnding (OverStatement statement (AnswersSearch seed)) (λ Object Arrow s ending. SaysSearched seed statement ending)
search_owes seed statement = owed_over statement (AnswersSearch seed) (λ Object Arrow s ending. SaysSearched seed statement ending)
    (record {
      one = search_ends seed;
      no_other = λ problem ending ending'. search_once seed ending ending' problem;
      own = λ problem ending answer. verdicts_status ending.status answer.verdicts (ap (λ (e : Ending). e.status) answer.says);
    })
    (λ Object Arrow s laws sound with_lemmas cancelling ending answers.
    over_stated statement (AnswersSearch seed) (PrintsSearched seed) ending (search_meant seed statement ending) answers)
