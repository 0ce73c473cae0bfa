use Rattle.model_candidates.proofs.Prelude.{rules, true, false, ◌≡◌, ◌+◌, ◌∙◌, ap, ap₂, sym, length, arith, length-append, quiver_of, is_declared_map, map_entries, entries_before}
use Rattle.model_candidates.proofs.EntryPlaces.{entries_with, entries_without}
use Rattle.model_candidates.proofs.entries.entries_before.Goals as goal
use Rattle.model_candidates.proofs.entries.entries_before.Goals.{then-is_declared, else-is_declared}

pub loop-number-preserved : goal.loop-number-preserved
loop-number-preserved c =
    let q = quiver_of c.args.quiver.now in
    let s = c.args.shape.now in
    let n = c.loop-number.number in
    elim c.if-is_declared.branch [
      | then-is_declared w ↦
          let declared : is_declared_map q n ≡ true = search rules in
          let more = ap length (entries_with q s n declared) ∙ length-append (entries_before q s n) (map_entries q s n) in
          let sum : c.if-is_declared.count ≡ c.loop-number.count + w.map_entry_count-count.result = search rules in
          (sum ∙ ap₂ ◌+◌ c.loop-number.invariant.0 w.map_entry_count-count.ensures.count ∙ sym more, omega (arith, sum, c.loop-number.invariant.1, w.map_entry_count-count.ensures.few))
      | else-is_declared w ↦
          let other : is_declared_map q n ≡ false = search rules in
          let same : c.if-is_declared.count ≡ c.loop-number.count = search rules in
          (same ∙ c.loop-number.invariant.0 ∙ sym (ap length (entries_without q s n other)), omega (arith, same, c.loop-number.invariant.1))
    ]

pub returns-clause-count : goal.returns-clause-count
returns-clause-count c =
    let q = quiver_of c.args.quiver.now in
    let all : c.loop-number.number ≡ c.args.end = omega (arith, c.loop-number.auto.number-end, c.loop-number-test.false) in
    c.loop-number.invariant.0 ∙ ap (λ n. length (entries_before q c.args.shape.now n)) all
