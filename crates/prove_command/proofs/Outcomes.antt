-- What is said of claims by their outcomes.
use Rattle.prove_command.proofs.Prelude.{◌≡◌, ◌⊎◌, inl, inr, ℕ, Bool, true, false, List, [], ◌∷◌, refl, sym, ap, subst, ◌∙◌, AllZip, Halt, Model, Problem, Outcome, NoneBreaks, LeastBreaks, least_once, none_least, least_or_none, Verdict, Asked, IsVerdictOn, proved, not_derivable, refuted, undecided, AreVerdictsOn}
use Rattle.claim_decider.specs.declared.outcome.Outcome.TheVariants as outcome
use Rattle.report_text.specs.declared.verdict.Verdict.TheVariants as verdict

-- one claim
module _ (problem : Problem) (asked : Asked) (claim : ℕ) where
  -- what is said of a claim that halted
  pub data OnHalted (halt : Halt) (v : Verdict) : Type 0 where
    broken : (m : Model) → asked.models ≡ true → LeastBreaks problem claim asked.seed m → v ≡ verdict.Refuted m → OnHalted halt v
    left : (asked.models ≡ true → NoneBreaks problem claim asked.seed) → v ≡ verdict.Undecided halt → OnHalted halt v

  -- what is said of it, by cases of its outcome
  abbrev pub OnOutcome : Outcome → Verdict → Type 0
  OnOutcome (outcome.Derived e) v = v ≡ verdict.Proved e
  OnOutcome (outcome.Closed rest) v = v ≡ verdict.NotDerivable rest
  OnOutcome (outcome.Halted halt) v = OnHalted halt v

  pub by_outcome : (o : Outcome) (v : Verdict) → IsVerdictOn problem asked claim o v → OnOutcome o v
  by_outcome o v (proved e is says) = subst (λ (x : Outcome). OnOutcome x v) (sym is) says
  by_outcome o v (not_derivable rest is says) = subst (λ (x : Outcome). OnOutcome x v) (sym is) says
  by_outcome o v (refuted halt m is on least says) = subst (λ (x : Outcome). OnOutcome x v) (sym is) (broken m on least says)
  by_outcome o v (undecided halt is none says) = subst (λ (x : Outcome). OnOutcome x v) (sym is) (left none says)

  halted_once : (halt : Halt) (v v' : Verdict) → OnHalted halt v → OnHalted halt v' → v ≡ v'
  halted_once halt v v' (broken m on least is) (broken m' on' least' is') = is ∙ ap (λ x. verdict.Refuted x) (least_once problem claim asked.seed m m' least least') ∙ sym is'
  halted_once halt v v' (broken m on least is) (left none is') = absurd (none_least problem claim asked.seed m (none on) least)
  halted_once halt v v' (left none is) (broken m on least is') = absurd (none_least problem claim asked.seed m (none on) least)
  halted_once halt v v' (left none is) (left none' is') = is ∙ sym is'

  one_verdict : (o : Outcome) (v v' : Verdict) → OnOutcome o v → OnOutcome o v' → v ≡ v'
  one_verdict (outcome.Derived e) v v' one other = one ∙ sym other
  one_verdict (outcome.Closed rest) v v' one other = one ∙ sym other
  one_verdict (outcome.Halted halt) v v' one other = halted_once halt v v' one other

  verdict_once : (o : Outcome) (v v' : Verdict) → IsVerdictOn problem asked claim o v → IsVerdictOn problem asked claim o v' → v ≡ v'
  verdict_once o v v' one other = one_verdict o v v' (by_outcome o v one) (by_outcome o v' other)

  halted_ends : (halt : Halt) (b : Bool) → asked.models ≡ b → (v : Verdict) × IsVerdictOn problem asked claim (outcome.Halted halt) v
  halted_ends halt false off =
      let not_on : asked.models ≡ true → ⊥ = λ on. let both : (let b : Bool = true in b) ≡ false = sym on ∙ off in absurd cc in
      (verdict.Undecided halt, undecided halt refl (λ on. absurd (not_on on)) refl)
  halted_ends halt true on = by (least_or_none problem claim asked.seed)
    where
      by : ((m : Model) × LeastBreaks problem claim asked.seed m) ⊎ NoneBreaks problem claim asked.seed → (v : Verdict) × IsVerdictOn problem asked claim (outcome.Halted halt) v
      by (inl found) = (verdict.Refuted found.0, refuted halt found.0 refl on found.1 refl)
      by (inr none) = (verdict.Undecided halt, undecided halt refl (λ _. none) refl)

  verdict_ends : (o : Outcome) → (v : Verdict) × IsVerdictOn problem asked claim o v
  verdict_ends (outcome.Derived e) = (verdict.Proved e, proved e refl refl)
  verdict_ends (outcome.Closed rest) = (verdict.NotDerivable rest, not_derivable rest refl refl)
  verdict_ends (outcome.Halted halt) = halted_ends halt asked.models refl

-- one verdict on each
module _ (problem : Problem) (asked : Asked) where
  pub verdicts_once : (claims : List ℕ) (os : List Outcome) (vs vs' : List Verdict) → AreVerdictsOn problem asked claims os vs → AreVerdictsOn problem asked claims os vs' → vs ≡ vs'
  verdicts_once [] [] [] [] one other = refl
  verdicts_once [] [] [] (v ∷ vs) one other = absurd other
  verdicts_once [] [] (v ∷ vs) vs' one other = absurd one
  verdicts_once [] (o ∷ os) vs vs' one other = absurd one
  verdicts_once (claim ∷ claims) [] vs vs' one other = absurd one
  verdicts_once (claim ∷ claims) (o ∷ os) [] vs' one other = absurd one
  verdicts_once (claim ∷ claims) (o ∷ os) (v ∷ vs) [] one other = absurd other
  verdicts_once (claim ∷ claims) (o ∷ os) (v ∷ vs) (v' ∷ vs') one other =
      let here = verdict_once problem asked claim o v v' one.0 other.0 in
      let rest = verdicts_once claims os vs vs' one.1 other.1 in
      λ i. here i ∷ rest i

  -- where each claim has an outcome
  module _ (R : ℕ → Outcome → Type 0) where
    pub verdicts_end : (claims : List ℕ) (os : List Outcome) → AllZip R claims os → (vs : List Verdict) × AreVerdictsOn problem asked claims os vs
    verdicts_end [] [] zipped = ([], tt)
    verdicts_end [] (o ∷ os) zipped = absurd zipped
    verdicts_end (claim ∷ claims) [] zipped = absurd zipped
    verdicts_end (claim ∷ claims) (o ∷ os) zipped =
        let here = verdict_ends problem asked claim o in
        let rest = verdicts_end claims os zipped.1 in
        (here.0 ∷ rest.0, (here.1, rest.1))

    -- what follows of an outcome and its verdict follows for each
    pub verdicts_follow : (S : ℕ → Verdict → Type 0) → ((claim : ℕ) (o : Outcome) (v : Verdict) → R claim o → IsVerdictOn problem asked claim o v → S claim v)
        → (claims : List ℕ) (os : List Outcome) (vs : List Verdict) → AllZip R claims os → AreVerdictsOn problem asked claims os vs → AllZip S claims vs
    verdicts_follow S each [] [] [] zipped are = tt
    verdicts_follow S each [] [] (v ∷ vs) zipped are = absurd are
    verdicts_follow S each [] (o ∷ os) vs zipped are = absurd zipped
    verdicts_follow S each (claim ∷ claims) [] vs zipped are = absurd zipped
    verdicts_follow S each (claim ∷ claims) (o ∷ os) [] zipped are = absurd are
    verdicts_follow S each (claim ∷ claims) (o ∷ os) (v ∷ vs) zipped are = (each claim o v zipped.0 are.0, verdicts_follow S each claims os vs zipped.1 are.1)
