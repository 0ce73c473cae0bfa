-- The children of one number after another.
use Rattle.rule_index.proofs.Prelude.{◌≡◌, ◌≢◌, ◌⊎◌, inl, inr, ℕ, ◌+◌, ◌<◌, ◌≤◌, List, length, get_or, set, take, refl, sym, ap, ◌∙◌, subst, arith, get_or-set_other, get_or-set_same, length-set, length-take, length-take-le, get_or-take, cases_lt, Node, IsChild, Lists, ListsBelow, IsAdvanced}

-- the children of the numbers before the place are at the front
pub record IsAdvancing (nodes : List Node) (letter : ℕ) (initial now : List ℕ) (place kept : ℕ) : Type 0 where
  pub len : length now ≡ length initial
  pub few : kept ≤ place
  pub rest : (i : ℕ) → place ≤ i → get_or now i 0 ≡ get_or initial i 0
  pub sound : (i : ℕ) → i < kept → (p : ℕ) × Lists initial p × IsChild nodes p letter (get_or now i 0)
  pub complete : (j k : ℕ) → j < place → IsChild nodes (get_or initial j 0) letter k → ListsBelow kept now k

module _ (nodes : List Node) (letter : ℕ) (initial now : List ℕ) (place kept : ℕ) (h : IsAdvancing nodes letter initial now place kept) where
  pub advance-skip : ((k : ℕ) → IsChild nodes (get_or now place 0) letter k → ⊥) → IsAdvancing nodes letter initial now (place + 1) kept
  advance-skip none = record {
    len = h.len;
    few = omega (arith, h.few);
    rest = λ i later. h.rest i (omega arith);
    sound = h.sound;
    complete = λ j k before child. elim (cases_lt j place) [
      | inl below ↦ h.complete j k below child
      | inr above ↦
          let here : j ≡ place = omega arith in
          absurd (none k (subst (λ p. IsChild nodes p letter k) (ap (λ i. get_or initial i 0) here ∙ sym (h.rest place (omega arith))) child))
    ];
  }

  pub advance-keep : (node : ℕ) → place < length initial → ((p j k : ℕ) → IsChild nodes p letter j → IsChild nodes p letter k → j ≡ k) → IsChild nodes (get_or now place 0) letter node
      → IsAdvancing nodes letter initial (set now kept node) (place + 1) (kept + 1)
  advance-keep node inside single is = record {
    len = length-set now kept node ∙ h.len;
    few = omega (arith, h.few);
    rest = λ i later. other i (omega (arith, h.few)) ∙ h.rest i (omega arith);
    sound = λ i before. sound i (cases_lt i kept) before;
    complete = λ j k before child. complete j k child (cases_lt j place) before;
  }
    where
      other : (i : ℕ) → i ≢ kept → get_or (set now kept node) i 0 ≡ get_or now i 0
      other i apart = get_or-set_other now kept i node 0 apart

      here : get_or (set now kept node) kept 0 ≡ node
      here = get_or-set_same now kept node 0 (omega (arith, h.few, h.len))

      is_child : IsChild nodes (get_or initial place 0) letter node
      is_child = subst (λ p. IsChild nodes p letter node) (h.rest place (omega arith)) is

      sound : (i : ℕ) → (i < kept) ⊎ (kept ≤ i) → i < kept + 1 → (p : ℕ) × Lists initial p × IsChild nodes p letter (get_or (set now kept node) i 0)
      sound i (inl below) before =
          let s = h.sound i below in
          (s.0, s.1, subst (λ k. IsChild nodes s.0 letter k) (sym (other i (omega arith))) s.2)
      sound i (inr above) before =
          let at : i ≡ kept = omega arith in
          (get_or initial place 0, (place, inside, refl), subst (λ k. IsChild nodes (get_or initial place 0) letter k) (sym (ap (λ j. get_or (set now kept node) j 0) at ∙ here)) is_child)

      complete : (j k : ℕ) → IsChild nodes (get_or initial j 0) letter k → (j < place) ⊎ (place ≤ j) → j < place + 1 → ListsBelow (kept + 1) (set now kept node) k
      complete j k child (inl below) before =
          let s = h.complete j k below child in
          let s_below : s.0 < kept = s.1 in
          (s.0, omega arith, other s.0 (omega arith) ∙ s.2)
      complete j k child (inr above) before =
          let at : j ≡ place = omega arith in
          (kept, omega arith, here ∙ single (get_or initial place 0) node k is_child (subst (λ p. IsChild nodes p letter k) (ap (λ i. get_or initial i 0) at) child))

  pub advance-done : length initial ≤ place → place ≤ length initial → IsAdvanced nodes letter initial (take kept now)
  advance-done done last = record {
    sound = λ k l.
        let below : l.0 < kept = fewer l.0 l.1 in
        let s = h.sound l.0 below in
        (s.0, s.1, subst (λ n. IsChild nodes s.0 letter n) (sym (get_or-take kept now l.0 0 below) ∙ l.2) s.2);
    complete = λ p k l child.
        let s = h.complete l.0 k (omega (arith, l.1)) (subst (λ q. IsChild nodes q letter k) (sym l.2) child) in
        (s.0, more s.0 s.1, get_or-take kept now s.0 0 s.1 ∙ s.2);
  }
    where
      fewer : (i : ℕ) → i < length (take kept now) → i < kept
      fewer i l = grind (arith, length-take {A = ℕ})

      kept_in : kept ≤ length now
      kept_in = omega (arith, h.few, h.len)

      more : (i : ℕ) → i < kept → i < length (take kept now)
      more i l = omega (arith, length-take-le kept now kept_in)
