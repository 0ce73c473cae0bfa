use Rattle.model_candidates.proofs.Prelude.{rules, ◌≡◌, ◌/◌, ◌%◌, ◌^◌, ◌++◌, ◌∷◌, [], ◌∙◌, ap, ap₂, sym, arith, map-range_with_len_more, pow_more, div-div-eq-div-mul, digit}
use Rattle.model_candidates.proofs.drawn_values.digits_of.Goals as goal

pub loop-place-preserved : goal.loop-place-preserved
loop-place-preserved c =
    let m = c.args.modulus in
    let k = c.args.candidate in
    let i = c.loop-place.place in
    let pushed : c.push.new.self ≡ c.loop-place.values ++ c.loop-place.rest % m ∷ [] = search rules in (
      pushed ∙ ap₂ (λ xs x. xs ++ x ∷ []) c.loop-place.invariant.0 (ap (λ r. r % m) c.loop-place.invariant.1) ∙ sym (map-range_with_len_more (digit m k) 0 i i (omega arith)),
      ap (λ r. r / m) c.loop-place.invariant.1 ∙ div-div-eq-div-mul k (m ^ i) m ∙ ap (λ n. k / n) (sym (pow_more m i)),
    )
