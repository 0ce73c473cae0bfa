use Rattle.model_candidates.proofs.Prelude.{rules, ◌≡◌, ◌+◌, ◌≤◌, Bool, true, false, cond, get_or, take, refl, sym, ap₂, subst, ◌∙◌, arith, length-take-le}
use Rattle.model_candidates.proofs.SolvedEntries.{before_more, count_of, set_count_within}
use Rattle.model_candidates.proofs.unknowns.unknown_count.Goals as goal

at_most_one : (b : Bool) → cond b 1 0 ≤ 1
at_most_one true = omega arith
at_most_one false = omega arith

pub overflow_add-count : goal.overflow_add-count
overflow_add-count c =
    let flag : Bool = get_or c.args.solved.now c.loop-flag.flag-index false in
    let one : c.from-count.result ≡ cond flag 1 0 = search rules in
    let small : c.from-count.result ≤ 1 = subst (λ n. n ≤ 1) (sym one) (at_most_one flag) in
    omega (
      arith,
      small,
      c.loop-flag.invariant,
      set_count_within (take c.loop-flag.flag-index c.args.solved.now),
      length-take-le
          c.loop-flag.flag-index c.args.solved.now (omega (arith, c.loop-flag-test.true)),
      c.requires,
      c.loop-flag-test.true,
    )

pub loop-flag-preserved : goal.loop-flag-preserved
loop-flag-preserved c =
    let flag : Bool = get_or c.args.solved.now c.loop-flag.flag-index false in
    let one : c.from-count.result ≡ cond flag 1 0 = search rules in
    ap₂ ◌+◌ c.loop-flag.invariant (one ∙ count_of flag) ∙ sym (before_more c.args.solved.now flag c.loop-flag-test.true refl)
