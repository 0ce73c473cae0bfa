-- The adjoint of a letter is a letter.
use Rattle.block_text.proofs.Prelude.{◌≡◌, ◌<◌, ◌+◌, ℕ, true, false, List, [], ◌∷◌, arith, sym, subst, length, AllByRecursion, flat_map, All-from_recursion, All-get_or, star, Declaration, object, arrow, letter_count, LetterEntry, letter_table, letters_made, turns_from, no_letter, quiver_of, length-letter_table, star-quiver_of}

abbrev letters_from : ℕ → ℕ → ℕ → List Declaration → List LetterEntry
letters_from p v a ds = flat_map (λ t. letters_made t.declared t) (turns_from p v a ds)

stars_below : (n p v a : ℕ) (ds : List Declaration) → a + letter_count ds ≡ n → AllByRecursion (λ e. e.star < n) (letters_from p v a ds)
stars_below n p v a [] whole = tt
stars_below n p v a (object name ∷ ds) whole = (omega (arith, whole), stars_below n (p + 1) (v + 1) (a + 1) ds (omega (arith, whole)))
stars_below n p v a (arrow name x y true ∷ ds) whole = (omega (arith, whole), stars_below n (p + 1) (v + 0) (a + 1) ds (omega (arith, whole)))
stars_below n p v a (arrow name x y false ∷ ds) whole = (omega (arith, whole), (omega (arith, whole), stars_below n (p + 1) (v + 0) (a + 2) ds (omega (arith, whole))))

pub star_in_range : (ds : List Declaration) (a : ℕ) → a < letter_count ds → star (quiver_of ds) a < letter_count ds
star_in_range ds a below =
    let within : a < length (letter_table ds) = omega (arith, below, length-letter_table ds) in
    let entry = All-get_or (λ e. e.star < letter_count ds) (letter_table ds) a no_letter within
    (All-from_recursion _ (letter_table ds) (stars_below (letter_count ds) 0 0 0 ds (omega arith))) in
    subst (λ b. b < letter_count ds) (sym (star-quiver_of ds a below)) entry
