use Rattle.model_candidates.proofs.Prelude.{rules, ◌≡◌, ◌++◌, true, false, Bool, length, map, replicate, sym, ap, ap₂, ◌∙◌, arith, map-append, All-from_recursion, All-weaker, recursion_from_All, letters, quiver_of, letters-quiver_of, Entry, is_declared_map, is_solved_map, map_entries, entries_before}
use Rattle.model_candidates.proofs.EntryPlaces.{entries_of_map, entries_with, entries_without}
use Rattle.model_candidates.proofs.SolvedLetters.{map-same}
use Rattle.model_candidates.proofs.plan.solved_flags.Goals as goal
use Rattle.model_candidates.proofs.plan.solved_flags.Goals.{then-is_declared+in_ok-push_flags, else-is_declared}

pub loop-number-preserved : goal.loop-number-preserved
loop-number-preserved c =
    let q = quiver_of c.args.quiver.now in
    let s = c.args.shape.now in
    let n = c.loop-number.number in
    let flag : Entry → Bool = λ x. is_solved_map c.args.solved.now x.map in
    elim c.if-is_declared.branch [
      | then-is_declared+in_ok-push_flags w ↦
          let declared : is_declared_map q n ≡ true = search rules in
          let own = map-same flag (map_entries q s n) (is_solved_map c.args.solved.now n)
          (recursion_from_All (λ x. flag x ≡ is_solved_map c.args.solved.now n) (map_entries q s n)
          (All-weaker (λ x. x.map ≡ n) (λ x. flag x ≡ is_solved_map c.args.solved.now n)
          (λ x is. ap (is_solved_map c.args.solved.now) is) (map_entries q s n)
          (All-from_recursion (λ x. x.map ≡ n) (map_entries q s n) (entries_of_map q s n)))) in
          let pushed : c.if-is_declared.flags ≡ c.loop-number.flags ++ replicate (length (map_entries q s n))
          (is_solved_map c.args.solved.now n) = search rules in
          pushed ∙ ap₂ ◌++◌ c.loop-number.invariant (sym own) ∙ sym (map-append flag (entries_before q s n) (map_entries q s n))
          ∙ ap (map flag) (sym (entries_with q s n declared))
      | else-is_declared w ↦
          let other : is_declared_map q n ≡ false = search rules in
          let same : c.if-is_declared.flags ≡ c.loop-number.flags = search rules in
          same ∙ c.loop-number.invariant ∙ ap (map flag) (sym (entries_without q s n other))
    ]

pub returns : goal.returns
returns c =
    let q = quiver_of c.args.quiver.now in
    let all : c.loop-number.number ≡ letters q = omega (
      arith,
      c.loop-number.auto.number-end,
      c.loop-number-test.false,
      c.letters-number-end.ensures.count,
      letters-quiver_of c.args.quiver.now,
    ) in
    c.loop-number.invariant ∙ ap (λ n. map (λ x. is_solved_map c.args.solved.now x.map) (entries_before q c.args.shape.now n)) all
