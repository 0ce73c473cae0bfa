-- the number of terms of a sum is the length of its table
use Rattle.cofactor_checker.proofs.Prelude.{◌≡◌, ◌≢◌, ℕ, ℤ, pos, List, [], ◌∷◌, map, not, Bool, true, false, ◌||◌, Option, Some, None, unwrap_or, is_some, sym, refl, ap, ◌∙◌, get, keys, hash_map_len, IsUnique, AllByRecursion, IsDistinct, Greater, length-map, All-head, All-tail, All-weaker, is_member, int_eq, false_from_ne_true, Decides-int_eq, length-keys_of, IsDistinct-cons, length-from_same_keys, is_some-lookup, word_cmp, word_eq, coefficient_of, word_eq-true, coefficient_other, term_count, Table, coefficient_at, IsTable, collected, coefficient_of-collected, descending-collected, nonzero-collected, first_coefficient, Descends, word_eq-turned, All}
use Rattle.cofactor_checker.proofs.Words.{word_eq_equivalence}
use Rattle.cofactor_checker.proofs.Descending.{apart_greater}

-- whether the word has a coefficient other than zero
abbrev has : List (ℤ × List ℕ) → List ℕ → Bool
has p w = not (int_eq (coefficient_of p w) (pos 0))

int_eq_zero : int_eq (pos 0) (pos 0) ≡ true
int_eq_zero = (Decides-int_eq (pos 0) (pos 0)).1 refl

-- in a descending list without zeros the words are those with such a coefficient
listed : (q : List (ℤ × List ℕ)) → Descends q → All (λ t. t.0 ≢ pos 0) q → (w : List ℕ) → is_member word_eq (map (λ t. t.1) q) w ≡ has q w
listed [] descends nonzero w = sym (ap not int_eq_zero)
listed (t ∷ q) descends nonzero w = go (word_eq t.1 w) refl (listed q descends.1 (All-tail (λ (u : ℤ × List ℕ). u.0 ≢ pos 0) t q nonzero) w)
  where
    go : (b : Bool) → word_eq t.1 w ≡ b → is_member word_eq (map (λ u. u.1) q) w ≡ has q w → (word_eq w t.1 || is_member word_eq (map (λ u. u.1) q) w) ≡ has (t ∷ q) w
    go true same later =
        let here : coefficient_of (t ∷ q) w ≡ t.0 =
        ap (coefficient_of (t ∷ q)) (sym (word_eq-true t.1 w same)) ∙ first_coefficient t q (All-weaker (λ u. word_cmp t.1 u.1 ≡ Greater) (λ u. word_eq u.1 t.1 ≡ false) (λ u greater. sym (word_eq-turned t.1 u.1) ∙ apart_greater t.1 u.1 greater) q descends.0) in
        ap (λ b. b || is_member word_eq (map (λ u. u.1) q) w) (word_eq-turned w t.1 ∙ same)
        ∙ sym (ap (λ k. not (int_eq k (pos 0))) here ∙ ap not (false_from_ne_true (int_eq t.0 (pos 0)) (λ zero. All-head (λ (u : ℤ × List ℕ). u.0 ≢ pos 0) t q nonzero ((Decides-int_eq t.0 (pos 0)).0 zero))))
    go false apart later =
        ap (λ b. b || is_member word_eq (map (λ u. u.1) q) w) (word_eq-turned w t.1 ∙ apart)
        ∙ later
        ∙ sym (ap (λ k. not (int_eq k (pos 0))) (coefficient_other w t q apart))

-- and no word stands twice
distinct : (q : List (ℤ × List ℕ)) → Descends q → IsDistinct word_eq (map (λ t. t.1) q)
unfolding IsDistinct
distinct [] descends = tt
distinct (t ∷ q) descends = IsDistinct-cons word_eq t.1 (map (λ u. u.1) q) (words q descends.0) (distinct q descends.1)
  where
    words : (q : List (ℤ × List ℕ)) → All (λ u. word_cmp t.1 u.1 ≡ Greater) q → AllByRecursion (λ v. word_eq t.1 v ≡ false) (map (λ u. u.1) q)
    words [] below = tt
    words (u ∷ q) below = (apart_greater t.1 u.1 (All-head (λ (x : ℤ × List ℕ). word_cmp t.1 x.1 ≡ Greater) u q below), words q (All-tail (λ (x : ℤ × List ℕ). word_cmp t.1 x.1 ≡ Greater) u q below))

module _ (m : Table) (p : List (ℤ × List ℕ)) (unique : IsUnique word_eq m) (kept : IsTable m) (sum : (w : List ℕ) → coefficient_at m w ≡ coefficient_of p w) where
  -- the words that are in the table
  stored : (w : List ℕ) → is_member word_eq (keys m) w ≡ has p w
  stored w =
      sym (is_some-lookup (word_eq w) m.entries) ∙ go (get word_eq m w) refl ∙ ap (λ k. not (int_eq k (pos 0))) (sum w)
    where
      go : (o : Option ℤ) → get word_eq m w ≡ o → is_some o ≡ not (int_eq (unwrap_or o (pos 0)) (pos 0))
      go None absent = sym (ap not int_eq_zero)
      go (Some k) there = sym (ap not (false_from_ne_true (int_eq k (pos 0)) (λ zero. kept.nonzero w (there ∙ ap Some ((Decides-int_eq k (pos 0)).0 zero)))))

  pub len-term_count : hash_map_len m ≡ term_count p
  len-term_count =
      sym (length-keys_of m.entries)
      ∙ length-from_same_keys word_eq_equivalence (keys m) (map (λ t. t.1) (collected p))
      unique
      (distinct (collected p) (descending-collected p))
      (λ w. stored w ∙ sym (listed (collected p) (descending-collected p) (nonzero-collected p) w ∙ ap (λ k. not (int_eq k (pos 0))) (coefficient_of-collected p w)))
      ∙ length-map (collected p) (λ t. t.1)
