-- Words without the letter at an end, and polynomials without it, which stay in their order.
use Rattle.cancel_rules.proofs.Prelude.{◌≡◌, ◌≢◌, ◌⊎◌, inl, inr, ℕ, suc, ◌-◌, ◌<◌, ◌≤◌, pos, Bool, true, false, List, [], ◌∷◌, ◌++◌, All, length, take, get_or, refl, sym, ap, ap₂, ◌∙◌, arith, length-drop, append-nil, length-take, All-head, All-tail, All-map, All-take, All-drop, take-append_seam, Term, word_eq, word_eq-true, word_eq-same, Greater, IsCoefficient, word_cmp, IsOver, word_cmp-around, IsCanonical, Descends, IsDescending-from_recursion, recursion_from_IsDescending, Side, with_letter, put_back, word_without, stripped, HasAtEnd}
use Rattle.std.proofs.Common.{length-append}
use Rattle.cancel_rules.specs.declared.cancellation.Side.TheVariants as side

-- the letter put on and taken off again
pub without_with : (end : Side) (a : ℕ) (w : List ℕ) → word_without end (with_letter end a w) ≡ w
without_with side.Left a w = refl
without_with side.Right a w =
    let long = length-append w (a ∷ []) in
    let short : length (w ++ a ∷ []) - 1 ≡ length w = omega arith in
    ap (λ n. take n (w ++ a ∷ [])) short ∙ take-append_seam w (a ∷ [])

module _ (end : Side) (a : ℕ) where
  -- what is left of a word is what is beside the letter
  pub rest_is : (w : List ℕ) (h : HasAtEnd end a w) → word_without end w ≡ h.rest
  rest_is w h = ap (word_without end) h.whole ∙ without_with end a h.rest

  pub whole_again : (w : List ℕ) → HasAtEnd end a w → with_letter end a (word_without end w) ≡ w
  whole_again w h = ap (with_letter end a) (rest_is w h) ∙ sym h.whole

  pub rest_some : (w : List ℕ) → HasAtEnd end a w → word_without end w ≢ []
  rest_some w h none = h.others (sym (rest_is w h) ∙ none)

  -- a word has the letter at the end, and others, or it has not
  pub at_end_or : (w : List ℕ) → HasAtEnd end a w ⊎ (HasAtEnd end a w → ⊥)
  at_end_or w = by (word_without end w) refl (word_eq w (with_letter end a (word_without end w))) refl
    where
      by : (rest : List ℕ) → word_without end w ≡ rest → (b : Bool) → word_eq w (with_letter end a (word_without end w)) ≡ b → HasAtEnd end a w ⊎ (HasAtEnd end a w → ⊥)
      by [] none b is = inr (λ h. rest_some w h none)
      by (c ∷ rest) some true is = inl (record { rest = word_without end w; others = λ none. apart c rest (sym some ∙ none); whole = word_eq-true w (with_letter end a (word_without end w)) is })
        where
          apart : (c : ℕ) (rest : List ℕ) → c ∷ rest ≡ [] → ⊥
          apart c rest same = absurd (cc)
      by (c ∷ rest) some false is = inr (λ h. clash (word_eq w (with_letter end a (word_without end w))) (ap (λ v. word_eq w v) (whole_again w h) ∙ word_eq-same w) is)
        where
          clash : (b : Bool) → b ≡ true → b ≡ false → ⊥
          clash b one other = absurd (cc)

  -- each word of a polynomial
  abbrev AtEnd : Term → Type 0
  AtEnd t = HasAtEnd end a t.1

  pub put_back_stripped : (p : List Term) → All AtEnd p → put_back end a (stripped end p) ≡ p
  put_back_stripped [] all = refl
  put_back_stripped (t ∷ p) all = ap₂ (λ w rest. (t.0, w) ∷ rest) (whole_again t.1 (All-head AtEnd t p all)) (put_back_stripped p (All-tail AtEnd t p all))

  pub words_left : (p : List Term) → All AtEnd p → All (λ t. t.1 ≢ []) (stripped end p)
  words_left p all = All-map (λ (t : Term). t.1 ≢ []) _ p (λ k t below. rest_some _ (all k t below))

  -- the order of words
  compared : (v w : List ℕ) → word_cmp (with_letter end a v) (with_letter end a w) ≡ word_cmp v w
  compared v w = by end
    where
      by : (end : Side) → word_cmp (with_letter end a v) (with_letter end a w) ≡ word_cmp v w
      by side.Left = ap₂ (λ x y. word_cmp (a ∷ x) (a ∷ y)) (sym (append-nil v)) (sym (append-nil w)) ∙ word_cmp-around (a ∷ []) v w []
      by side.Right = word_cmp-around [] v w (a ∷ [])

  above : (v w : List ℕ) → HasAtEnd end a v → HasAtEnd end a w → word_cmp v w ≡ Greater → word_cmp (word_without end v) (word_without end w) ≡ Greater
  above v w h k greater =
      sym (compared (word_without end v) (word_without end w)) ∙ ap₂ word_cmp (whole_again v h) (whole_again w k) ∙ greater

  descends : (p : List Term) → All AtEnd p → Descends p → Descends (stripped end p)
  descends [] all d = tt
  descends (t ∷ p) all d =
      let rest = All-tail AtEnd t p all in
      (All-map (λ (u : Term). word_cmp (word_without end t.1) u.1 ≡ Greater) _ p (λ k u below. above t.1 _ (All-head AtEnd t p all) (rest k u below) (d.0 k u below)), descends p rest d.1)

-- what else a polynomial keeps
module _ (end : Side) where
  shorter : (w : List ℕ) → length (word_without end w) ≤ length w
  shorter w = by end
    where
      by : (end : Side) → length (word_without end w) ≤ length w
      by side.Left = let long = length-drop 1 w in omega arith
      by side.Right = let long = length-take (length w - 1) w in grind arith

  short : (p : List Term) → All (λ t. length t.1 ≤ 500) p → All (λ t. length t.1 ≤ 500) (stripped end p)
  short p all = All-map (λ (t : Term). length t.1 ≤ 500) _ p (λ k t below. let less = shorter (get_or p k t).1 in let within = all k t below in omega (arith, less, within))

  as_many : (p : List Term) → length (stripped end p) ≡ length p
  as_many [] = refl
  as_many (t ∷ p) = ap suc (as_many p)

-- what is left of a polynomial is one
pub canonical_stripped : (end : Side) (a : ℕ) (p : List Term) → IsCanonical p → All (λ t. HasAtEnd end a t.1) p → IsCanonical (stripped end p)
canonical_stripped end a p canonical at_end =
    let few = canonical.few in
    let many = as_many end p in
    record {
      shaped = record {
        descending = IsDescending-from_recursion (stripped end p) (descends end a p at_end (recursion_from_IsDescending p canonical.shaped.descending));
        nonzero = All-map (λ (t : Term). t.0 ≢ pos 0) _ p canonical.shaped.nonzero;
        in_range = All-map (λ (t : Term). IsCoefficient t.0) _ p canonical.shaped.in_range;
      };
      short = short end p canonical.short;
      few = omega arith;
    }

-- and its letters are among those of the whole
module _ (letters : ℕ) where
  pub word_over : (end : Side) (w : List ℕ) → IsOver letters w → IsOver letters (word_without end w)
  word_over side.Left w over = All-drop (λ a. a < letters) 1 w over
  word_over side.Right w over = All-take (λ a. a < letters) (length w - 1) w over

  pub stripped_over : (end : Side) (p : List Term) → All (λ t. IsOver letters t.1) p → All (λ t. IsOver letters t.1) (stripped end p)
  stripped_over end p over = All-map (λ (t : Term). IsOver letters t.1) _ p (λ k t below. word_over end _ (over k t below))

-- one term more
pub stripped_push : (end : Side) (p : List Term) (t : Term) → stripped end (p ++ t ∷ []) ≡ stripped end p ++ (t.0, word_without end t.1) ∷ []
stripped_push end [] t = refl
stripped_push end (u ∷ p) t = ap (λ rest. (u.0, word_without end u.1) ∷ rest) (stripped_push end p t)
