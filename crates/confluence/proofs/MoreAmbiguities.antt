-- Ambiguities of rules are ambiguities of more rules, with the same overlap words and S-polynomials.
use Rattle.confluence.proofs.Prelude.{◌≡◌, ◌+◌, ℕ, ℤ, neg_ℤ, int_div, length, take, drop, List, [], ◌++◌, Some, sym, ap₂, ◌∙◌, subst, All, poly_multiple, poly_between, generator_at, Compare, IsAdmissible, gcd_of, Row, Rule, IsRule, rule_at, polynomials_of, rule_at-polynomial, Ambiguity, IsAmbiguity, lead_at, joined_word, overlap_word_of, leading_at, first_row, second_row, ComesBelow, s_sum, IsResolved, lead_at-is, leading_at-is}
use Rattle.traced_rows.specs.declared.Origin.TheVariants as origin
use Rattle.confluence.proofs.MoreRules.{rule_at-more, below_more}

module _ (rules more : List Rule) (a : Ambiguity) (is : IsAmbiguity rules a) where
  pub ambiguity_more : IsAmbiguity (rules ++ more) a
  ambiguity_more = record {
    first = is.first;
    second = is.second;
    first_numbered = rule_at-more rules more a.i is.first is.first_numbered;
    second_numbered = rule_at-more rules more a.j is.second is.second_numbered;
    meets = is.meets;
  }

  lead-more : (n : ℕ) (g : Rule) → rule_at rules n ≡ Some g → lead_at (rules ++ more) n ≡ lead_at rules n
  lead-more n g numbered = lead_at-is (rules ++ more) n g (rule_at-more rules more n g numbered) ∙ sym (lead_at-is rules n g numbered)

  leading-more : (n : ℕ) (g : Rule) → rule_at rules n ≡ Some g → leading_at (rules ++ more) n ≡ leading_at rules n
  leading-more n g numbered = leading_at-is (rules ++ more) n g (rule_at-more rules more n g numbered) ∙ sym (leading_at-is rules n g numbered)

  poly-more : (n : ℕ) (g : Rule) → rule_at rules n ≡ Some g → generator_at (polynomials_of (rules ++ more)) n ≡ generator_at (polynomials_of rules) n
  poly-more n g numbered = rule_at-polynomial (rules ++ more) n g (rule_at-more rules more n g numbered) ∙ sym (rule_at-polynomial rules n g numbered)

  pub overlap_word-more : overlap_word_of (rules ++ more) a ≡ overlap_word_of rules a
  overlap_word-more = ap₂ (λ p q. joined_word a.kind p q a.place) (lead-more a.i is.first is.first_numbered) (lead-more a.j is.second is.second_numbered)

  -- the rows depend on the leading coefficients, on the leading words and on the overlap word
  pub first_row-more : first_row (rules ++ more) a ≡ first_row rules a
  first_row-more =
      ap₂ (λ k l. first_of k l (lead_at (rules ++ more) a.i) (overlap_word_of (rules ++ more) a)) (leading-more a.i is.first is.first_numbered) (leading-more a.j is.second is.second_numbered)
      ∙ ap₂ (λ u w. first_of (leading_at rules a.i) (leading_at rules a.j) u w) (lead-more a.i is.first is.first_numbered) overlap_word-more
    where
      first_of : ℤ → ℤ → List ℕ → List ℕ → Row
      first_of k l u w = record { coef = int_div l (gcd_of k l); left = []; from = origin.Rule a.i; right = drop (length u) w }

  pub second_row-more : second_row (rules ++ more) a ≡ second_row rules a
  second_row-more =
      ap₂ (λ k l. second_of k l (lead_at (rules ++ more) a.j) (overlap_word_of (rules ++ more) a)) (leading-more a.i is.first is.first_numbered) (leading-more a.j is.second is.second_numbered)
      ∙ ap₂ (λ u w. second_of (leading_at rules a.i) (leading_at rules a.j) u w) (lead-more a.j is.second is.second_numbered) overlap_word-more
    where
      second_of : ℤ → ℤ → List ℕ → List ℕ → Row
      second_of k l u w = record { coef = neg_ℤ (int_div k (gcd_of k l)); left = take a.place w; from = origin.Rule a.j; right = drop (a.place + length u) w }

  pub s_sum-more : s_sum (rules ++ more) a ≡ s_sum rules a
  s_sum-more =
      ap₂ (λ r t. poly_multiple r.coef (poly_between r.left (generator_at (polynomials_of (rules ++ more)) a.i) r.right) ++ (poly_multiple t.coef (poly_between t.left (generator_at (polynomials_of (rules ++ more)) a.j) t.right) ++ [])) first_row-more second_row-more
      ∙ ap₂ (λ p q. poly_multiple (first_row rules a).coef (poly_between (first_row rules a).left p (first_row rules a).right) ++ (poly_multiple (second_row rules a).coef (poly_between (second_row rules a).left q (second_row rules a).right) ++ []))
      (poly-more a.i is.first is.first_numbered) (poly-more a.j is.second is.second_numbered)

-- what is resolved stays resolved
pub resolved_more : (letters : ℕ) (compare : Compare) (rank : List ℕ → List ℕ) → IsAdmissible letters compare rank → (rules more : List Rule) → All (IsRule letters compare) rules → All (IsRule letters compare) (rules ++ more) → (a : Ambiguity)
    → IsResolved letters compare rules a → IsResolved letters compare (rules ++ more) a
resolved_more letters compare rank laws rules more are all_are a resolved =
    let is = resolved.ambiguity in
    record {
      ambiguity = ambiguity_more rules more a is;
      below = subst (λ w. ComesBelow letters compare (polynomials_of (rules ++ more)) w (s_sum (rules ++ more) a)) (sym (overlap_word-more rules more a is))
          (subst (λ p. ComesBelow letters compare (polynomials_of (rules ++ more)) (overlap_word_of rules a) p) (sym (s_sum-more rules more a is))
          (below_more letters compare rank laws rules more are all_are (overlap_word_of rules a) (s_sum rules a) resolved.below));
    }
