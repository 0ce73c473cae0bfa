use Rattle.model_candidates.proofs.Prelude.{rules, ◌≡◌, ◌+◌, ◌*◌, ◌%◌, ◌++◌, ◌∷◌, [], ◌∙◌, ap, ap₂, sym, arith, map-range_with_len_more, advance, next, started, increment_of, multiplier_64, pcg32, word_of_stream}
use Rattle.model_candidates.proofs.Streams.{advance_more}
use Rattle.model_candidates.proofs.drawn_values.draws_of.Goals as goal

pub loop-place-preserved : goal.loop-place-preserved
loop-place-preserved c =
    let m = c.args.modulus in
    let first = c.args.candidate * c.args.count in
    let i = c.loop-place.place in
    let start = started 64 multiplier_64 c.args.seed (increment_of 64 c.args.number) in
    let word : c.next_word.result ≡ (pcg32 c.loop-place.stream).0 = search rules in
    let moved : c.next_word.new.self ≡ next 64 multiplier_64 c.loop-place.stream = search rules in
    let pushed : c.push.new.self ≡ c.loop-place.values ++ c.next_word.result % m ∷ [] = search rules in
    let more : first + i + 1 ≡ first + (i + 1) = omega arith in
    let drawn : c.next_word.result % m ≡ word_of_stream c.args.seed c.args.number (first + i) % m = ap (λ w. w % m) (word ∙ ap (λ g. (pcg32 g).0) c.loop-place.invariant.1) in (
      pushed ∙ ap₂ (λ xs x. xs ++ x ∷ []) c.loop-place.invariant.0 drawn
          ∙ sym (map-range_with_len_more (λ j. word_of_stream c.args.seed c.args.number (first + j) % m) 0 i i (omega arith)),
      moved ∙ ap (next 64 multiplier_64) c.loop-place.invariant.1 ∙ advance_more 64 multiplier_64 (first + i) start ∙ ap (λ n. advance 64 multiplier_64 n start) more,
    )
