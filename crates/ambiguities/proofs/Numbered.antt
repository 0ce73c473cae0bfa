-- The ambiguities with one first rule, and those with all.
use Rattle.ambiguities.proofs.Prelude.{◌≡◌, ◌⊎◌, inl, inr, ℕ, ◌+◌, ◌<◌, ◌≤◌, List, length, sym, ◌∙◌, arith, cases_lt, Rule, Ambiguity, IsAmbiguity, IsGrown, IsAmbiguityFrom, IsOfFirst, IsOfPair}
use Rattle.ambiguities.proofs.Exactly.{grown-append, grown-same}
use Rattle.ambiguities.proofs.Numbers.{rule_at-first, rule_at-last}

module _ (rules : List Rule) where
  -- those with this first rule, and a second one between two numbers
  pub record IsOfSeconds (i low high : ℕ) (a : Ambiguity) : Type 0 where
    pub is : IsAmbiguity rules a
    pub first : a.i ≡ i
    pub above : low ≤ a.j
    pub below : a.j < high

  pub seconds-more : (i low j : ℕ) (old mid new : List Ambiguity) → low ≤ j → IsGrown (IsOfSeconds i low j) old mid → IsGrown (IsOfPair rules i j) mid new → IsGrown (IsOfSeconds i low (j + 1)) old new
  seconds-more i low j old mid new reached before pair =
      grown-append (IsOfSeconds i low j) (IsOfPair rules i j) (IsOfSeconds i low (j + 1)) old mid new before pair
      (λ a b among of. inr (among.first ∙ sym of.1, inl (omega (arith, among.below, of.2))))
      (λ a. (λ among. split a among (cases_lt a.j j), join a))
    where
      split : (a : Ambiguity) → IsOfSeconds i low (j + 1) a → (a.j < j) ⊎ (j ≤ a.j) → IsOfSeconds i low j a ⊎ IsOfPair rules i j a
      split a among (inl less) = inl (record { is = among.is; first = among.first; above = among.above; below = less })
      split a among (inr past) = inr (among.is, among.first, omega (arith, past, among.below))

      join : (a : Ambiguity) → IsOfSeconds i low j a ⊎ IsOfPair rules i j a → IsOfSeconds i low (j + 1) a
      join a (inl among) = record { is = among.is; first = among.first; above = among.above; below = omega (arith, among.below) }
      join a (inr of) = record { is = of.0; first = of.1; above = omega (arith, of.2, reached); below = omega (arith, of.2) }

  -- the second rules from `least` on are those that count
  pub seconds-all : (from i least high : ℕ) (old new : List Ambiguity) → length rules < high → (i < from → least ≡ from) → (from ≤ i → least ≡ 1) → IsGrown (IsOfSeconds i least high) old new → IsGrown (IsOfFirst from rules i) old new
  seconds-all from i least high old new past early late among = grown-same (IsOfSeconds i least high) (IsOfFirst from rules i) old new (λ a. (λ of. counts a of (cases_lt i from), λ among. counted a among (cases_lt i from))) among
    where
      counts : (a : Ambiguity) → IsOfFirst from rules i a → (i < from) ⊎ (from ≤ i) → IsOfSeconds i least high a
      counts a of (inl less) = record {
        is = of.0.0;
        first = of.1;
        above = second of.0.1;
        below = omega (arith, rule_at-last rules a.j of.0.0.second of.0.0.second_numbered);
      }
        where
          second : (from ≤ a.i) ⊎ (from ≤ a.j) → least ≤ a.j
          second (inl first) = absurd (omega (arith, first, of.1, less))
          second (inr reached) = omega (arith, early less, reached)
      counts a of (inr reached) = record {
        is = of.0.0;
        first = of.1;
        above = omega (arith, late reached, rule_at-first rules a.j of.0.0.second of.0.0.second_numbered);
        below = omega (arith, rule_at-last rules a.j of.0.0.second of.0.0.second_numbered);
      }

      counted : (a : Ambiguity) → IsOfSeconds i least high a → (i < from) ⊎ (from ≤ i) → IsOfFirst from rules i a
      counted a among (inl less) = ((among.is, inr (omega (arith, early less, among.above))), among.first)
      counted a among (inr reached) = ((among.is, inl (omega (arith, reached, among.first))), among.first)

  -- all first rules
  pub record IsUpTo (from high : ℕ) (a : Ambiguity) : Type 0 where
    pub is : IsAmbiguityFrom from rules a
    pub below : a.i < high

  pub firsts-more : (from i : ℕ) (old mid new : List Ambiguity) → IsGrown (IsUpTo from i) old mid → IsGrown (IsOfFirst from rules i) mid new → IsGrown (IsUpTo from (i + 1)) old new
  firsts-more from i old mid new before among =
      grown-append (IsUpTo from i) (IsOfFirst from rules i) (IsUpTo from (i + 1)) old mid new before among
      (λ a b up of. inl (omega (arith, up.below, of.1)))
      (λ a. (λ up. split a up (cases_lt a.i i), join a))
    where
      split : (a : Ambiguity) → IsUpTo from (i + 1) a → (a.i < i) ⊎ (i ≤ a.i) → IsUpTo from i a ⊎ IsOfFirst from rules i a
      split a up (inl less) = inl (record { is = up.is; below = less })
      split a up (inr past) = inr (up.is, omega (arith, past, up.below))

      join : (a : Ambiguity) → IsUpTo from i a ⊎ IsOfFirst from rules i a → IsUpTo from (i + 1) a
      join a (inl up) = record { is = up.is; below = omega (arith, up.below) }
      join a (inr of) = record { is = of.0; below = omega (arith, of.1) }

  pub firsts-all : (from high : ℕ) (old new : List Ambiguity) → length rules < high → IsGrown (IsUpTo from high) old new → IsGrown (IsAmbiguityFrom from rules) old new
  firsts-all from high old new past up = grown-same (IsUpTo from high) (IsAmbiguityFrom from rules) old new
      (λ a. (λ is. record { is = is; below = omega (arith, rule_at-last rules a.i is.0.first is.0.first_numbered) }, λ up_to. up_to.is)) up
