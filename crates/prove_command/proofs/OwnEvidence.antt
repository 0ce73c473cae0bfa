-- The report of `prove` is its own evidence.
use Rattle.prove_command.proofs.Prelude.{◌≡◌, inl, inr, ℕ, List, [], ◌∷◌, sym, subst, IsTrue, All, list_all, All-nil, All-cons, All-weaker, Poly, Model, Problem, claim_numbers, Outcome, Refutes, LeastBreaks, least_refutes, is_named, IsWritableModel, Verdict, report_of, IsVerdictOf, AreVerdictsOf, refuted_in, IsItsOwnEvidence, breaking_candidates_are_writable, run_is_evidence, Asked, IsVerdictOn, proved, not_derivable, refuted, undecided, AreVerdictsOn, Decides}
use Rattle.report_text.specs.declared.verdict.Verdict.TheVariants as verdict

module _ (problem : Problem) (asked : Asked) (names : IsTrue (list_all is_named problem.parts.quiver)) where
  -- a model that can be written, and that refutes its claim
  abbrev IsShown : Model → Type 0
  IsShown m = IsWritableModel problem.parts.quiver m × Refutes problem m

  least_shown : (claim : ℕ) (m : Model) → LeastBreaks problem claim asked.seed m → IsShown m
  least_shown claim m least =
      (breaking_candidates_are_writable problem claim asked.seed least.0 least.1 m names least.2.breaks, (least_refutes problem claim asked.seed m least).refutes)

  verdict_said : (claim : ℕ) (o : Outcome) (v : Verdict) → IsVerdictOn problem asked claim o v → IsVerdictOf problem.parts.quiver o v
  verdict_said claim o v (proved e is says) = subst (λ (x : Outcome). IsVerdictOf problem.parts.quiver x v) (sym is) says
  verdict_said claim o v (not_derivable rest is says) = subst (λ (x : Outcome). IsVerdictOf problem.parts.quiver x v) (sym is) says
  verdict_said claim o v (refuted halt m is on least says) =
      let model = least_refutes problem claim asked.seed m least in
      subst (λ (x : Outcome). IsVerdictOf problem.parts.quiver x v) (sym is) (inr (m, record { sides = model.sides; maps = model.maps }, says))
  verdict_said claim o v (undecided halt is none says) = subst (λ (x : Outcome). IsVerdictOf problem.parts.quiver x v) (sym is) (inl says)

  first_shown : (claim : ℕ) (o : Outcome) (v : Verdict) (verdicts : List Verdict) → IsVerdictOn problem asked claim o v → All IsShown (refuted_in verdicts) → All IsShown (refuted_in (v ∷ verdicts))
  first_shown claim o v verdicts (proved e is says) others = subst (λ (x : Verdict). All IsShown (refuted_in (x ∷ verdicts))) (sym says) others
  first_shown claim o v verdicts (not_derivable rest is says) others = subst (λ (x : Verdict). All IsShown (refuted_in (x ∷ verdicts))) (sym says) others
  first_shown claim o v verdicts (refuted halt m is on least says) others =
      subst (λ (x : Verdict). All IsShown (refuted_in (x ∷ verdicts))) (sym says) (All-cons IsShown m (refuted_in verdicts) (least_shown claim m least) others)
  first_shown claim o v verdicts (undecided halt is none says) others = subst (λ (x : Verdict). All IsShown (refuted_in (x ∷ verdicts))) (sym says) others

  -- all verdicts of a report
  pub record AreShown (outcomes : List Outcome) (verdicts : List Verdict) : Type 0 where
    pub said : AreVerdictsOf problem.parts.quiver outcomes verdicts
    pub models : All IsShown (refuted_in verdicts)

  all_shown : (claims : List ℕ) (outcomes : List Outcome) (verdicts : List Verdict) → AreVerdictsOn problem asked claims outcomes verdicts → AreShown outcomes verdicts
  all_shown [] [] [] are = record { said = tt; models = All-nil IsShown }
  all_shown [] [] (v ∷ verdicts) are = absurd are
  all_shown [] (o ∷ outcomes) verdicts are = absurd are
  all_shown (claim ∷ claims) [] verdicts are = absurd are
  all_shown (claim ∷ claims) (o ∷ outcomes) [] are = absurd are
  all_shown (claim ∷ claims) (o ∷ outcomes) (v ∷ verdicts) are =
      let others = all_shown claims outcomes verdicts are.1 in
      record { said = (verdict_said claim o v are.0, others.said); models = first_shown claim o v verdicts are.0 others.models }

  pub decided_is_evidence : (verdicts : List Verdict) (rules : List Poly) → Decides problem asked verdicts rules → IsItsOwnEvidence problem (report_of problem.parts.quiver rules verdicts) verdicts
  decided_is_evidence verdicts rules decides =
      let shown = all_shown (claim_numbers problem) decides.outcomes verdicts decides.are_verdicts in
      run_is_evidence problem names verdicts
      (All-weaker IsShown (IsWritableModel problem.parts.quiver) (λ m is. is.0) (refuted_in verdicts) shown.models)
      (All-weaker IsShown (Refutes problem) (λ m is. is.1) (refuted_in verdicts) shown.models)
      asked.budget asked.form decides.outcomes rules decides.are_outcomes shown.said decides.are_rules
