-- Numbers of pairs that are counted by hand, and claims that have enough.
use Rattle.outcome_laws.proofs.Prelude.{◌≡◌, ◌≢◌, ℕ, ◌≤◌, pos, IsTrue, List, [], ◌∷◌, ◌++◌, length, map, take, refl, sym, ap, ◌∙◌, subst, arith, append-nil, ints, range_with_len, Term, coefficient_of, poly_multiple, poly_between, generator_at, overlap_places, asked_cmp, between-nothing, letter_count, is_below, Problem, polynomials, claim_at, short_ambiguities, enough_pairs, HasEnough}
use Rattle.word_orders.specs.declared.any.OrderSpec.TheVariants as asked

-- one letter, at most three: 1 + 4 + 9
one_letter : short_ambiguities 1 3 ≡ 14
one_letter = refl

-- two letters, at most two: 2 * 1 + 4 * 4
two_letters : short_ambiguities 2 2 ≡ 18
two_letters = refl

-- Thirty-four times one letter overlaps itself at 33 places, in words of 35 to 67 letters: one of each length, where the count has its square.
abbrev thirty_four : List ℕ
thirty_four = map (λ n. 0) (range_with_len 0 34)

overlaps_of_34 : map (λ place. length (take place thirty_four ++ thirty_four)) (overlap_places thirty_four thirty_four) ≡ range_with_len 35 33
overlaps_of_34 = refl

are_few : 33 ≤ short_ambiguities 1 67
are_few = omega arith

-- a claim that is a generator has enough in a budget of as many pairs as are enough for a word above its words
module _ (problem : Problem) (order : problem.parts.order ≡ asked.Degree) (number n : ℕ) (word : List ℕ) (same : claim_at problem number ≡ generator_at (polynomials problem.generators) n)
    (below : (w : List ℕ) → coefficient_of (generator_at (polynomials problem.generators) n) w ≢ pos 0 → IsTrue (is_below (letter_count problem.parts.quiver) (asked_cmp problem.parts.order) w word)) where
  whole : poly_multiple (pos 1) (poly_between [] (generator_at (polynomials problem.generators) n) []) ++ [] ≡ poly_multiple (pos 1) (claim_at problem number)
  whole = append-nil _ ∙ ap (poly_multiple (pos 1)) (between-nothing (generator_at (polynomials problem.generators) n) ∙ sym same)

  has_enough : HasEnough problem (record { pairs = enough_pairs problem word; steps = 1 }) number word
  has_enough = record {
    shown = record {
      order = order;
      follows = record {
        denominator = pos 1;
        rows = record { coefficient = pos 1; left = []; generator = n; right = [] } ∷ [];
        combination = record {
          combination = record { positive = omega (arith, ints); sum = record { at = λ w. ap (λ (p : List Term). coefficient_of p w) whole } };
          rows_below = ((λ w some. subst (λ u. IsTrue (is_below (letter_count problem.parts.quiver) (asked_cmp problem.parts.order) u word)) (sym (append-nil w)) (below w some)), tt);
        };
      };
    };
    enough = omega arith;
  }
