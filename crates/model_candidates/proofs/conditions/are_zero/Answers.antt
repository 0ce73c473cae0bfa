use Rattle.model_candidates.proofs.Prelude.{rules, ◌≡◌, ◌<◌, ◌+◌, ℕ, ◌⊎◌, inl, inr, get_or, sym, subst, ◌∙◌, arith, true≢false, cases_eq, All-get_or, All-from_get_or, IsAssumption, IsZeroAtSignature, model_in}
use Rattle.model_candidates.proofs.KnownValues.{no_assumption}
use Rattle.model_candidates.proofs.conditions.are_zero.Goals as goal

pub is_condition_zero-requires-clause-condition : goal.is_condition_zero-requires-clause-condition
is_condition_zero-requires-clause-condition c =
    All-get_or (IsAssumption c.args.known.now.given.problem.now 0)
    c.args.conditions.now c.loop-place.place no_assumption c.loop-place-test.true c.requires.conditions

pub returns-then-not-is_condition_zero : goal.returns-then-not-is_condition_zero
returns-then-not-is_condition_zero c = (
  λ same. absurd (true≢false (sym same)),
  λ all. absurd (true≢false (sym (c.is_condition_zero.ensures.1 (All-get_or
      (IsZeroAtSignature c.args.known.now.given.problem.now (model_in c.args.known.now.given)) c.args.conditions.now
      c.loop-place.place no_assumption c.loop-place-test.true all)) ∙ c.if-not-is_condition_zero.true)),
)

pub loop-place-preserved : goal.loop-place-preserved
loop-place-preserved c = λ k inside. go k inside (cases_eq k c.loop-place.place)
  where
    go : (k : ℕ) → k < c.loop-place.place + 1 → (k ≡ c.loop-place.place) ⊎ (k ≡ c.loop-place.place → ⊥)
        → IsZeroAtSignature c.args.known.now.given.problem.now (model_in c.args.known.now.given) (get_or c.args.conditions.now k no_assumption)
    go k inside (inl same) =
        subst (λ n. IsZeroAtSignature c.args.known.now.given.problem.now (model_in c.args.known.now.given)
        (get_or c.args.conditions.now n no_assumption)) (sym same)
        (c.is_condition_zero.ensures.0 c.if-not-is_condition_zero.false)
    go k inside (inr other) = c.loop-place.invariant k (omega (arith, inside, other))

pub returns : goal.returns
returns c = (
  λ same. All-from_get_or (IsZeroAtSignature c.args.known.now.given.problem.now (model_in c.args.known.now.given)) c.args.conditions.now no_assumption
      (λ k inside. c.loop-place.invariant k (omega (arith, inside, c.loop-place-test.false))),
  λ all. search rules,
)
