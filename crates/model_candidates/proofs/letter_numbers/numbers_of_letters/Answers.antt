use Rattle.model_candidates.proofs.Prelude.{rules, true, false, ◌≡◌, ◌<◌, ◌++◌, ◌∷◌, [], ℕ, Option, List, Some, None, cond, map, length, ap, ap₂, sym, ◌∙◌, arith, range_with_len, map-range_with_len_more, letters, quiver_of, letters-quiver_of, posed_quiver, is_solved, solved_flags, unknown_numbers, letter_numbers, letter_values}
use Rattle.model_candidates.proofs.CandidateModels.{is_declared}
use Rattle.model_candidates.proofs.GivenValues.{solved_maps}
use Rattle.model_candidates.proofs.LetterEntries.{has_solved_map, solved_map}
use Rattle.model_candidates.proofs.SolvedTerms.{number_of_each}
use Rattle.model_candidates.proofs.letter_numbers.numbers_of_letters.Goals as goal
use Rattle.model_candidates.proofs.letter_numbers.numbers_of_letters.Goals.{then-is_solved+in_ok-letter_values, else-is_solved}

pub is_solved-requires-clause-quiver : goal.is_solved-requires-clause-quiver
is_solved-requires-clause-quiver c = posed_quiver c.args.problem.now.parts c.args.problem.now.posed

pub letter_values-requires-clause-declared : goal.letter_values-requires-clause-declared
letter_values-requires-clause-declared c =
    let problem = c.args.problem.now in
    let q = quiver_of problem.parts.quiver in
    let quiver = posed_quiver problem.parts problem.posed in
    let a = c.loop-number.number in
    let letter : a < letters q = omega (arith, c.loop-number-test.true, c.letters-number-end.ensures.count, letters-quiver_of problem.parts.quiver) in
    let is : is_solved q problem.parts.solved a ≡ true = search rules in
    is_declared (solved_map problem.parts.solved (solved_maps problem)
    (has_solved_map quiver problem.parts.solved (solved_maps problem) letter is).is_solved)

pub letter_values-requires-clause-quiver : goal.letter_values-requires-clause-quiver
letter_values-requires-clause-quiver c = posed_quiver c.args.problem.now.parts c.args.problem.now.posed

pub letter_values-requires-clause-one_each : goal.letter_values-requires-clause-one_each
letter_values-requires-clause-one_each c =
    let problem = c.args.problem.now in
    ap length c.requires.own ∙ number_of_each (quiver_of problem.parts.quiver) c.args.shape.now problem.parts.solved

pub loop-number-preserved : goal.loop-number-preserved
loop-number-preserved c =
    let problem = c.args.problem.now in
    let q = quiver_of problem.parts.quiver in
    let s = c.args.shape.now in
    let solved = problem.parts.solved in
    let a = c.loop-number.number in
    let f : ℕ → Option (List ℕ) = letter_numbers q s solved in
    let values = letter_values q s (unknown_numbers (solved_flags q s solved)) a in
    let pushed : c.push.new.self ≡ c.loop-number.numbers ++ c.if-is_solved.of_letter ∷ [] = search rules in
    let number_is : c.if-is_solved.of_letter ≡ f a = elim c.if-is_solved.branch [
      | then-is_solved+in_ok-letter_values w ↦
          let is : is_solved q solved a ≡ true = search rules in
          let made : c.if-is_solved.of_letter ≡ Some (letter_values q s c.args.own.now a) = search rules in
          made ∙ ap (λ own. Some (letter_values q s own a)) c.requires.own ∙ ap (λ b. cond b (Some values) None) (sym is)
      | else-is_solved w ↦
          let other : is_solved q solved a ≡ false = search rules in
          let made : c.if-is_solved.of_letter ≡ None = search rules in
          made ∙ ap (λ b. cond b (Some values) None) (sym other)
    ] in
    pushed ∙ ap₂ (λ xs x. xs ++ x ∷ []) c.loop-number.invariant number_is ∙ sym (map-range_with_len_more f 0 a a (omega arith))

pub returns : goal.returns
returns c =
    let problem = c.args.problem.now in
    let q = quiver_of problem.parts.quiver in
    let all : c.loop-number.number ≡ letters q = omega (arith, c.loop-number.auto.number-end, c.loop-number-test.false, c.letters-number-end.ensures.count, letters-quiver_of problem.parts.quiver) in
    c.loop-number.invariant ∙ ap (λ n. map (letter_numbers q c.args.shape.now problem.parts.solved) (range_with_len 0 n)) all
