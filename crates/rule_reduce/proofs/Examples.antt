-- Normal forms with the letters a = 0 and b = 1, in the canonical order and by weights.
use Rattle.rule_reduce.proofs.Prelude.{◌≡◌, ℕ, zero, suc, pos, negsuc, List, [], ◌∷◌, Ok, Err, refl, product_of, Term, word_cmp, weight_cmp, IsCanonical, Rule, normal_form_of}
use Rattle.traced_rows.specs.declared.Origin.TheVariants as origin
use Rattle.rule_reduce.specs.declared.fault.ReduceFault.TheVariants as halt

-- 2 b - a
abbrev two_b : List Term
two_b = (pos 2, 1 ∷ []) ∷ (negsuc 0, 0 ∷ []) ∷ []

module _ (kept : IsCanonical two_b) where
  abbrev rule : Rule
  rule = record { leading = pos 2; lead = 1 ∷ []; poly = record { terms = two_b; canonical = kept } }

  -- 2 times 3 b is 3 a and 3 times the rule
  one_step : normal_form_of word_cmp (rule ∷ []) ((pos 3, 1 ∷ []) ∷ []) 1
      ≡ Ok (record { multiplier = pos 2; rest = (pos 3, 0 ∷ []) ∷ []; rows = record { coef = pos 3; left = []; from = origin.Rule 1; right = [] } ∷ []; used = 1 })
  one_step = refl

  no_step_is_left : normal_form_of word_cmp (rule ∷ []) ((pos 3, 1 ∷ []) ∷ []) 0 ≡ Err (halt.Steps 0)
  no_step_is_left = refl

  nothing_to_do : normal_form_of word_cmp (rule ∷ []) ((pos 1, 0 ∷ []) ∷ []) 0 ≡ Ok (record { multiplier = pos 1; rest = (pos 1, 0 ∷ []) ∷ []; rows = []; used = 0 })
  nothing_to_do = refl

  -- the multiplier fits, and the first coefficient does not
  first_coefficient : normal_form_of word_cmp (rule ∷ []) ((pos 170141183460469231731687303715884105727, 1 ∷ []) ∷ []) 1
      ≡ Err (halt.Overflow (product_of (pos 170141183460469231731687303715884105727) (pos 2)))
  first_coefficient = refl

  -- the greatest word a a a cannot be reduced, and of two places in b b the left one counts
  irreducible_word_above : normal_form_of word_cmp (rule ∷ []) ((pos 1, 0 ∷ 0 ∷ 0 ∷ []) ∷ (pos 4, 1 ∷ 1 ∷ []) ∷ []) 2
      ≡ Ok (record {
        multiplier = pos 1;
        rest = (pos 1, 0 ∷ 0 ∷ 0 ∷ []) ∷ (pos 1, 0 ∷ 0 ∷ []) ∷ [];
        rows = record { coef = pos 2; left = []; from = origin.Rule 1; right = 1 ∷ [] } ∷ record { coef = pos 1; left = 0 ∷ []; from = origin.Rule 1; right = [] } ∷ [];
        used = 2;
      })
  irreducible_word_above = refl

  -- of two rules for one word the one with the least number
  least_rule : normal_form_of word_cmp (rule ∷ rule ∷ []) ((pos 2, 1 ∷ []) ∷ []) 1
      ≡ Ok (record { multiplier = pos 1; rest = (pos 1, 0 ∷ []) ∷ []; rows = record { coef = pos 1; left = []; from = origin.Rule 1; right = [] } ∷ []; used = 1 })
  least_rule = refl

  -- where b weighs 5, the word b b comes before the longer word a a b; later factors multiply earlier rows
  abbrev weight : ℕ → ℕ
  weight zero = 1
  weight (suc n) = 5

  heavier_word_first : normal_form_of (weight_cmp weight) (rule ∷ []) ((pos 2, 0 ∷ 0 ∷ 1 ∷ []) ∷ (pos 2, 1 ∷ 1 ∷ []) ∷ []) 3
      ≡ Ok (record {
        multiplier = pos 2;
        rest = (pos 2, 0 ∷ 0 ∷ 0 ∷ []) ∷ (pos 1, 0 ∷ 0 ∷ []) ∷ [];
        rows = record { coef = pos 2; left = []; from = origin.Rule 1; right = 1 ∷ [] } ∷ record { coef = pos 2; left = 0 ∷ 0 ∷ []; from = origin.Rule 1; right = [] }
            ∷ record { coef = pos 1; left = 0 ∷ []; from = origin.Rule 1; right = [] } ∷ [];
        used = 3;
      })
  heavier_word_first = refl
