use Rattle.model_candidates.proofs.Prelude.{rules, ◌≡◌, cond, nat_eq, ◌++◌, ◌∷◌, [], sym, ap₂, ◌∙◌, arith, map-range_with_len_more}
use Rattle.model_candidates.proofs.unknowns.unit_values.Goals as goal

pub loop-k-preserved : goal.loop-k-preserved
loop-k-preserved c =
    let k = c.loop-k.k in
    let pushed : c.push.new.self ≡ c.loop-k.values ++ c.from.result ∷ [] = search rules in
    let value : c.from.result ≡ cond (nat_eq k c.args.place) 1 0 = search rules in
    pushed ∙ ap₂ (λ xs x. xs ++ x ∷ []) c.loop-k.invariant value
    ∙ sym (map-range_with_len_more (λ j. cond (nat_eq j c.args.place) 1 0) 0 k k (omega arith))
