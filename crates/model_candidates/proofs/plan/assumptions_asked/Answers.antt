use Rattle.model_candidates.proofs.Prelude.{rules, ◌≡◌, ◌<◌, Some, slice_get, ◌++◌, ◌∷◌, [], ℕ, Bool, true, false, cond, length, ap, sym, subst, ◌∙◌, true≢false, All, AllZip-long, Poly, all_push, all_front, last_in, letter_count, quiver_of, letters-quiver_of, Problem, IsTypedOf, posed_quiver, LinearAssumption, IsZeroIn, IsAssumption, IsZeroAtSignature, is_asked, item_at}
use Rattle.model_candidates.proofs.AskedAssumptions.{kept_more, signed_at, letters_within, is_assumption, zero_everywhere}
use Rattle.model_candidates.proofs.plan.assumptions_asked.Goals as goal
use Rattle.model_candidates.proofs.plan.assumptions_asked.Goals.{then-is_asked+in_ok-push, else-is_asked}

pub is_asked-requires-clause-quiver : goal.is_asked-requires-clause-quiver
is_asked-requires-clause-quiver c = posed_quiver c.args.problem.now.parts c.args.problem.now.posed

letters_of : (problem : Problem) (k : ℕ) {p : Poly} → slice_get problem.parts.assumptions k ≡ Some p
    → All (λ t. All (λ letter. letter < letter_count problem.parts.quiver) t.1) p.terms
letters_of problem k {p} here = subst (λ n. All (λ t. All (λ letter. letter < n) t.1) p.terms) (letters-quiver_of problem.parts.quiver)
    (letters_within p (signed_at problem k here))

pub is_asked-requires-clause-letters : goal.is_asked-requires-clause-letters
is_asked-requires-clause-letters c = letters_of c.args.problem.now c.loop-place.place
    (item_at c.as_slice-assumption-items.result.now c.args.problem.now.parts.assumptions c.loop-place.place c.assumption-item.result
    c.as_slice-assumption-items.ensures c.loop-place-test.true c.assumption-item.is)

pub at-sig-requires : goal.at-sig-requires
at-sig-requires c =
    let parts = c.args.problem.now.parts in
    let posed = c.args.problem.now.posed in
    subst (λ n. c.loop-place.place < n) (ap length c.as_slice-assumption-items.ensures
    ∙ sym (AllZip-long (IsTypedOf parts.quiver) parts.assumptions parts.sigs posed.assumptions_typed)) c.loop-place-test.true

pub loop-place-preserved : goal.loop-place-preserved
loop-place-preserved c =
    let problem = c.args.problem.now in
    let keep : Poly → Bool = λ r. is_asked (quiver_of problem.parts.quiver) problem.parts.solved c.args.known r.terms in
    let k = c.loop-place.place in
    let p = c.assumption-item.result in
    let here = item_at c.as_slice-assumption-items.result.now problem.parts.assumptions k p c.as_slice-assumption-items.ensures
    c.loop-place-test.true c.assumption-item.is in
    elim c.if-is_asked.branch [
      | then-is_asked+in_ok-push w ↦
          let sig = w.at-sig.result.now in
          let g : LinearAssumption = record { place = k; sig = sig } in
          let asked : keep p ≡ true = search rules in
          let pushed : c.if-is_asked.found ≡ c.loop-place.found ++ g ∷ [] = search rules in
          record {
            each = all_push (IsAssumption problem (cond c.args.known 0 1)) c.loop-place.found c.if-is_asked.found g c.loop-place.invariant.each
                (is_assumption problem c.args.known k here w.at-sig.ensures asked) pushed;
            all = λ m zero. kept_more (IsZeroIn problem m) keep problem.parts.assumptions k here
                (c.loop-place.invariant.all m (all_front (IsZeroAtSignature problem m) c.if-is_asked.found c.loop-place.found g
                pushed zero)) (λ again. zero_everywhere problem m k here w.at-sig.ensures
                (last_in (IsZeroAtSignature problem m) c.if-is_asked.found c.loop-place.found g pushed zero));
          }
      | else-is_asked w ↦
          let kept : c.if-is_asked.found ≡ c.loop-place.found = search rules in
          let other : keep p ≡ false = search rules in
          record {
            each = subst (All (IsAssumption problem (cond c.args.known 0 1))) (sym kept) c.loop-place.invariant.each;
            all = λ m zero. kept_more (IsZeroIn problem m) keep problem.parts.assumptions k here
                (c.loop-place.invariant.all m (subst (All (IsZeroAtSignature problem m)) kept zero))
                (λ asked. absurd (true≢false (sym asked ∙ other)));
          }
    ]
