use Rattle.model_candidates.proofs.Prelude.{rules, ◌≡◌, ◌+◌, ◌*◌, ◌<◌, ◌≤◌, ◌++◌, ◌∷◌, [], ℕ, ℤ, List, true, length, get_or, take, drop, Some, Option, option_map, sym, ap, subst, ◌∙◌, arith, All, take_all, same_Some, length-map-range_with_len, source, target, letters, leads, letter_count, letters-quiver_of, matrices, term_is_path, representation_of, shape_side_limit, SolvedTerm, numbers_in, model_in, quiver_in, letter_numbers, letters_product, residue, listed, term_around, solved_term, letter_values}
use Rattle.model_candidates.proofs.GivenValues.{given_of}
use Rattle.model_candidates.proofs.ValueRows.{coefficient_at}
use Rattle.model_candidates.proofs.WordRows.{few_numbers}
use Rattle.model_candidates.proofs.SolvedTerms.{SolvedAt, path_over, solved_at, numbers_there}
use Rattle.model_candidates.proofs.solved_terms.push_term.Goals as goal
use Rattle.model_candidates.proofs.solved_terms.push_term.Goals.{After-letter-letter, After-from}

-- the letter at the place that is found
letter_is : (c : After-letter-letter) → c.letter-letter.result.0 ≡ get_or c.term.result.1.now c.in-Some.split 0
letter_is c = search rules

at_split : (c : After-letter-letter) → SolvedAt (quiver_in c.args.known.now.given) c.args.known.now.given.problem.now.parts.solved
    c.args.ends.source.0 c.args.ends.target.0 c.term.result.1.now c.in-Some.split
at_split c =
    let q = quiver_in c.args.known.now.given in
    let u = c.args.ends.source.0 in
    let v = c.args.ends.target.0 in
    solved_at q c.args.known.now.given.problem.now.parts.solved u v c.term.result.1.now
    (term_is_path q u v c.args.poly.now.terms c.args.poly.now.canonical c.requires.typed c.args.place (c.term.result.0, c.term.result.1.now)
    c.term.ensures) (sym c.in-Some.ensures)

-- the numbers that stand for it
numbers_at : (c : After-from) (d : Option (List ℕ)) → c.letter-letter.result.0 ≡ get_or c.term.result.1.now c.in-Some.split 0
    → SolvedAt (quiver_in c.args.known.now.given) c.args.known.now.given.problem.now.parts.solved
    c.args.ends.source.0 c.args.ends.target.0 c.term.result.1.now c.in-Some.split
    → get_or c.args.known.now.numbers.now c.from.result d
    ≡ Some (letter_values (quiver_in c.args.known.now.given) c.args.known.now.given.shape.now (numbers_in c.args.known.now)
    (get_or c.term.result.1.now c.in-Some.split 0))
numbers_at c d same at =
    let k = c.args.known.now in
    numbers_there (quiver_in k.given) k.given.shape.now k.given.problem.now.parts.solved d c.requires.known.numbers (c.from.ensures ∙ same)
    at.fit.letter at.there

pub solved_place-requires-clause-over : goal.solved_place-requires-clause-over
solved_place-requires-clause-over c =
    let q = quiver_in c.args.known.now.given in
    let u = c.args.ends.source.0 in
    let v = c.args.ends.target.0 in
    let w = c.term.result.1.now in
    let path = term_is_path q u v c.args.poly.now.terms c.args.poly.now.canonical c.requires.typed c.args.place (c.term.result.0, w)
    c.term.ensures in
    subst (λ n. All (λ a. a < n) w) (letters-quiver_of c.args.known.now.given.problem.now.parts.quiver) (path_over q u v w path)

pub signature_of-own-requires : goal.signature_of-own-requires
signature_of-own-requires c =
    let before = (goal.at.signature_of-own-requires c).After-letter-letter in
    let quiver = c.args.known.now.given.problem.now.parts.quiver in
    subst (λ a. a < letter_count quiver) (sym (letter_is before))
    (subst (λ n. get_or c.term.result.1.now c.in-Some.split 0 < n) (letters-quiver_of quiver) (at_split before).fit.letter)

pub product_of-requires-clause-leads : goal.product_of-requires-clause-leads
product_of-requires-clause-leads c =
    let before = (goal.at.product_of-requires-clause-leads c).After-letter-letter in
    let q = quiver_in c.args.known.now.given in
    subst (λ x. leads q x c.args.ends.target.0 (take c.in-Some.split c.term.result.1.now) ≡ true)
    (sym (c.signature_of-own.ensures.target ∙ ap (target q) (letter_is before))) (at_split before).fit.before

pub product_of-requires-2-clause-leads : goal.product_of-requires-2-clause-leads
product_of-requires-2-clause-leads c =
    let before = (goal.at.product_of-requires-2-clause-leads c).After-letter-letter in
    let q = quiver_in c.args.known.now.given in
    let u = c.args.ends.source.0 in
    let w = c.term.result.1.now in
    let split = c.in-Some.split in
    let source_is : c.signature_of-own.result.source.0 ≡ source q (get_or w split 0) = c.signature_of-own.ensures.source ∙ ap (source q)
    (letter_is before) in
    let all : take c.len-end.result w ≡ w = take_all c.len-end.result w (omega (arith, c.len-end.ensures.exact)) in
    subst (λ xs. leads q u c.signature_of-own.result.source.0 (drop (split + 1) xs) ≡ true) (sym all)
    (subst (λ x. leads q u x (drop (split + 1) w) ≡ true) (sym source_is) (at_split before).fit.behind)

pub returns : goal.returns
returns c = λ t there.
    let passed = goal.at.returns c in
    let before = passed.After-letter-letter in
    let k = c.args.known.now in
    let q = quiver_in k.given in
    let solved = k.given.problem.now.parts.solved in
    let u = c.args.ends.source.0 in
    let w = c.term.result.1.now in
    let split = c.in-Some.split in
    let s = k.given.shape.now in
    let m = model_in k.given in
    let numbers = numbers_in k in
    let term : ℤ × List ℕ = (c.term.result.0, w) in
    let f = representation_of q m in
    let target_is : c.signature_of-own.result.target.0 ≡ target q (get_or w split 0) =
    c.signature_of-own.ensures.target ∙ ap (target q) (letter_is before) in
    let all : take c.len-end.result w ≡ w = take_all c.len-end.result w (omega (arith, c.len-end.ensures.exact)) in
    let coefficient_is : get_or c.args.coefficients.now c.args.place 0 ≡ residue s.modulus c.term.result.0 =
    coefficient_at (given_of c.requires.known.given) u c.args.ends.target.0 c.requires.source c.requires.target c.args.poly.now.terms
    c.args.place term
    c.term.ensures c.args.coefficients.now c.requires.coefficients in
    let numbers_is : c.copy_of.result ≡ letter_values q s numbers (get_or w split 0) =
    c.copy_of.ensures ∙ c.as_slice.ensures
    ∙ same_Some _ _ (sym c.in-Some-numbers.is ∙ numbers_at passed.After-from c.index-known-from.result (letter_is before)
    (at_split before)) in
    let left_is = c.product_of.ensures ∙ ap (λ x. letters_product (matrices s.modulus) f x (take split w)) target_is in
    let right_is = c.product_of-2.ensures ∙ ap (λ xs. letters_product (matrices s.modulus) f u (drop (split + 1) xs)) all in
    let made : SolvedTerm = record {
      coefficient = get_or c.args.coefficients.now c.args.place 0;
      numbers = c.copy_of.result;
      left = c.product_of.result;
      right = c.product_of-2.result;
    } in
    let made_is : made ≡ term_around q s numbers m u term split =
    λ i. record { coefficient = coefficient_is i; numbers = numbers_is i; left = left_is i; right = right_is i } in
    let term_is : term ≡ t = same_Some term t (sym c.term.ensures ∙ there) in
    let one : Some made ≡ solved_term q s solved numbers m u t =
    subst (λ r. Some made ≡ solved_term q s solved numbers m u r) term_is
    (ap Some made_is ∙ ap (option_map (term_around q s numbers m u term)) c.in-Some.ensures) in
    let pushed : c.push.new.self ≡ c.args.terms.now ++ made ∷ [] = search rules in
    pushed ∙ ap (λ o. c.args.terms.now ++ listed o) one

pub bounds-known-from : goal.bounds-known-from
bounds-known-from c =
    let before = (goal.at.bounds-known-from c).After-letter-letter in
    let k = c.args.known.now in
    let q = quiver_in k.given in
    let at = at_split before in
    let same = letter_is before in
    let size : length k.numbers.now ≡ letters q =
    ap length c.requires.known.numbers
    ∙ length-map-range_with_len (letter_numbers q k.given.shape.now k.given.problem.now.parts.solved) 0 (letters q) in
    let inside : c.letter-letter.result.0 < length k.numbers.now = omega (arith, size, same, at.fit.letter) in
    subst (λ n. n < length k.numbers.now) (sym c.from.ensures) inside

pub returns-in_default-numbers : goal.returns-in_default-numbers
returns-in_default-numbers c =
    let passed = goal.at.returns-in_default-numbers c in
    let before = passed.After-letter-letter in
    absurd (c.in_default-numbers.not-Some _ (numbers_at passed.After-from c.index-known-from.result (letter_is before) (at_split before)))

pub copy_of-requires : goal.copy_of-requires
copy_of-requires c =
    let passed = goal.at.copy_of-requires c in
    let before = passed.After-letter-letter in
    let k = c.args.known.now in
    let found = sym c.in-Some-numbers.is ∙ numbers_at passed.After-from c.index-known-from.result (letter_is before) (at_split before) in
    subst (λ xs. length xs ≤ shape_side_limit * shape_side_limit) (sym (c.as_slice.ensures ∙ same_Some _ _ found))
    (few_numbers k.given c.requires.known.given (numbers_in k) (at_split before).fit.letter)
