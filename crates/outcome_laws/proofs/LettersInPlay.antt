-- The generators of a problem have letters in play, and so have the overlap words of the rules of its runs.
use Rattle.outcome_laws.proofs.Prelude.{◌≡◌, ◌⊎◌, inl, inr, refl, sym, ap, subst, ℕ, Bool, true, false, cond, List, [], ◌∷◌, ◌∙◌, arith, ltb, ltb-true, All, AllZip, AllByRecursion, filter, list_all, range_with_len, and_parts, All-nil, All-cons, All-head, All-tail, All-from_recursion, Term, SamePolynomial, letter_count, quiver_of, AreInPlay, words_with_coefficients, Problem, polynomials, numbers, is_in_play, generators_in, Words, generator_words, IsGenerator, letters_in_play, contains-none, contains-cases, contains-first, contains-rest, Contains}
use Rattle.outcome_laws.proofs.Turns.{contains_number}
use Rattle.outcome_laws.proofs.ProblemPolynomials.{any_letter, generators_are}
use Rattle.outcome_laws.proofs.Squares.{AllIn}

-- what is in a list and passes a test is in the filtered list
contains_filter : (test : ℕ → Bool) (a : ℕ) (xs : List ℕ) → Contains xs a → test a ≡ true → Contains (filter test xs) a
contains_filter test a [] at passes = absurd (contains-none a at)
contains_filter test a (x ∷ xs) at passes = go (test x) refl (contains-cases x xs a at) (λ later. contains_filter test a xs later passes)
  where
    go : (b : Bool) → test x ≡ b → (x ≡ a) ⊎ Contains xs a → (Contains xs a → Contains (filter test xs) a) → Contains (cond b (x ∷ filter test xs) (filter test xs)) a
    go true is (inl same) later = subst (Contains (x ∷ filter test xs)) same (contains-first x (filter test xs))
    go false is (inl same) later = absurd (cc (sym is ∙ ap test same ∙ passes))
    go true is (inr inside) later = contains-rest x (filter test xs) a (later inside)
    go false is (inr inside) later = later inside

-- of a problem
module _ (problem : Problem) where
  abbrev pub problem_play : ℕ → Bool
  problem_play = is_in_play problem.parts.quiver problem.parts.starred (numbers problem.parts.marked)

  abbrev Generator : (ℕ → Bool) → List Term → Type 0
  Generator test = IsGenerator (quiver_of problem.parts.quiver) test (letter_count problem.parts.quiver)

  generator_in_play : (f g : List Term) → SamePolynomial f g → Words problem.parts problem.posed g → Generator any_letter f → Generator problem_play f
  generator_in_play f g same each is = record {
    shaped = is.shaped;
    over = is.over;
    typed = record {
      source = is.typed.source;
      target = is.typed.target;
      typed = is.typed.typed;
      in_play = record { at = λ w some. words_with_coefficients (AreInPlay problem_play) g (All-from_recursion (λ (t : Term). AreInPlay problem_play t.1) g each) w (λ none. some (same.at w ∙ none)) };
    };
  }

  along : (fs gs : List (List Term)) → AllZip SamePolynomial fs gs → AllByRecursion (Words problem.parts problem.posed) gs → All (Generator any_letter) fs → All (Generator problem_play) fs
  along [] [] same each are = All-nil (Generator problem_play)
  along [] (g ∷ gs) same each are = absurd same
  along (f ∷ fs) [] same each are = absurd same
  along (f ∷ fs) (g ∷ gs) same each are =
      All-cons (Generator problem_play) f fs (generator_in_play f g same.0 each.0 (All-head (Generator any_letter) f fs are)) (along fs gs same.1 each.1 (All-tail (Generator any_letter) f fs are))

  pub generators_in_play : All (Generator problem_play) (polynomials problem.generators)
  generators_in_play = along (polynomials problem.generators) (generators_in problem.parts) problem.closed.same (generator_words problem.parts problem.posed) (generators_are problem)

  -- words in play have their letters in the list
  pub all_in : (w : List ℕ) → AreInPlay problem_play w → AllIn (letters_in_play problem) w
  all_in [] is = tt
  all_in (a ∷ w) is =
      let parts = and_parts (problem_play a) (list_all problem_play w) is in
      let inside = ltb-true a (letter_count problem.parts.quiver) (and_parts (ltb a (letter_count problem.parts.quiver)) _ parts.0).0 in (
        contains_filter problem_play a (range_with_len 0 (letter_count problem.parts.quiver))
            (contains_number 0 (letter_count problem.parts.quiver) a (omega arith) (omega (arith, inside))) parts.0,
        all_in w parts.1,
      )
