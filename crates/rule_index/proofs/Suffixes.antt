-- The longest suffix of a word that is among some words.
use Rattle.rule_index.proofs.Prelude.{inl, inr, ◌≡◌, ℕ, zero, suc, ◌<◌, ◌≤◌, ◌||◌, ◌&&◌, Bool, true, false, nat_eq, List, [], ◌∷◌, ◌++◌, length, drop, refl, sym, ap, ap₂, ◌∙◌, subst, arith, eqb-true, eq-eqb, and_parts, cases_Bool, false_from_ne_true, or_left, or_parts, or_right, same_word, has, word_at, longest, ends_with}

pub same-true : (v w : List ℕ) → same_word v w ≡ true → v ≡ w
same-true [] [] e = refl
same-true [] (y ∷ w) e = absurd (cc)
same-true (x ∷ v) [] e = absurd (cc)
same-true (x ∷ v) (y ∷ w) e = let parts = and_parts (nat_eq x y) (same_word v w) e in ap₂ ◌∷◌ (eqb-true x y parts.0) (same-true v w parts.1)

pub same-itself : (v : List ℕ) → same_word v v ≡ true
same-itself [] = refl
same-itself (x ∷ v) = ap₂ ◌&&◌ (eq-eqb x x refl) (same-itself v)

pub has-push : (words : List (List ℕ)) (s w : List ℕ) → has (words ++ s ∷ []) w ≡ (has words w || same_word w s)
has-push [] s w = grind arith
has-push (v ∷ words) s w = let rest = has-push words s w in grind arith

pub has-at : (words : List (List ℕ)) (k : ℕ) → k < length words → has words (word_at words k) ≡ true
has-at [] k inside = absurd (omega arith)
has-at (v ∷ words) zero inside = or_left (same_word v v) (has words v) (same-itself v)
has-at (v ∷ words) (suc k) inside = or_right (same_word (word_at words k) v) (has words (word_at words k)) (has-at words k (omega arith))

pub record Place (words : List (List ℕ)) (w : List ℕ) : Type 0 where
  pub node : ℕ
  pub inside : node < length words
  pub word_is : word_at words node ≡ w

pub has-place : (words : List (List ℕ)) (w : List ℕ) → has words w ≡ true → Place words w
has-place [] w e = absurd (cc)
has-place (v ∷ words) w e = elim (cases_Bool (same_word w v)) [
  | inl s ↦ record { node = 0; inside = omega arith; word_is = sym (same-true w v s) }
  | inr s ↦
      let rest = has-place words w (sym (ap (λ b. b || has words w) s) ∙ e) in
      record { node = suc rest.node; inside = omega (arith, rest.inside); word_is = rest.word_is }
]

-- the words have the empty one, and each without its last letter
pub record IsClosed (words : List (List ℕ)) : Type 0 where
  pub front : (w : List ℕ) (c : ℕ) → has words (w ++ c ∷ []) ≡ true → has words w ≡ true

module _ (words : List (List ℕ)) where
  at_true : (x : ℕ) (t : List ℕ) → has words (x ∷ t) ≡ true → longest words (x ∷ t) ≡ x ∷ t
  at_true x t e = rw e refl

  at_false : (x : ℕ) (t : List ℕ) → has words (x ∷ t) ≡ false → longest words (x ∷ t) ≡ longest words t
  at_false x t e = rw e refl

  pub longest-itself : (t : List ℕ) → has words t ≡ true → longest words t ≡ t
  longest-itself [] e = refl
  longest-itself (x ∷ t) e = at_true x t e

  pub longest-short : (t : List ℕ) → length (longest words t) ≤ length t
  longest-short [] = omega arith
  longest-short (x ∷ t) = let later = longest-short t in grind arith

  -- one more letter can be appended to the longest suffix instead
  pub longest-more : IsClosed words → (t : List ℕ) (c : ℕ) → longest words (t ++ c ∷ []) ≡ longest words (longest words t ++ c ∷ [])
  longest-more closed [] c = refl
  longest-more closed (x ∷ t) c = elim (cases_Bool (has words (x ∷ t))) [
    | inl e ↦ ap (λ s. longest words (s ++ c ∷ [])) (sym (at_true x t e))
    | inr e ↦
        let absent = false_from_ne_true (has words (x ∷ (t ++ c ∷ []))) (λ f. cc (closed.front (x ∷ t) c f)) in
        at_false x (t ++ c ∷ []) absent ∙ longest-more closed t c ∙ ap (λ s. longest words (s ++ c ∷ [])) (sym (at_false x t e))
  ]

  -- a word of the words ends both or neither
  pub ends-longest : (t w : List ℕ) → has words w ≡ true → ends_with (longest words t) w ≡ ends_with t w
  ends-longest [] w e = refl
  ends-longest (x ∷ t) w e =
      let later = ends-longest t w e in
      let same = λ (s : same_word (x ∷ t) w ≡ true). subst (λ v. has words v ≡ true) (sym (same-true (x ∷ t) w s)) e in
      elim (cases_Bool (has words (x ∷ t))) [ inl h ↦ ap (λ v. ends_with v w) (at_true x t h) | inr h ↦ ap (λ v. ends_with v w) (at_false x t h) ∙ grind arith ]

pub ends-short : (t w : List ℕ) → ends_with t w ≡ true → length w ≤ length t
ends-short [] w e = omega (arith, ap length (same-true [] w e))
ends-short (x ∷ t) w e =
    let later = ends-short t w in
    let same = λ (s : same_word (x ∷ t) w ≡ true). ap length (same-true (x ∷ t) w s) in
    grind arith

-- with one word more
module _ (words : List (List ℕ)) (s : List ℕ) where
  abbrev more : List (List ℕ)
  more = words ++ s ∷ []

  has_both : (t : List ℕ) (b d : Bool) → has words t ≡ b → same_word t s ≡ d → has more t ≡ (b || d)
  has_both t b d e f = has-push words s t ∙ ap₂ ◌||◌ e f

  pub longest-other : (t : List ℕ) → ends_with t s ≡ false → longest more t ≡ longest words t
  longest-other [] e = refl
  longest-other (x ∷ t) e =
      let parts = or_parts (same_word (x ∷ t) s) (ends_with t s) e in
      let later = longest-other t parts.1 in
      let both = has-push words s (x ∷ t) in
      grind arith

  pub longest-new : (t : List ℕ) → ends_with t s ≡ true → length (longest words t) < length s → longest more t ≡ s
  longest-new [] e shorter = absurd (omega (arith, ap length (same-true [] s e)))
  longest-new (x ∷ t) e shorter =
      let later = longest-new t in
      let both = has-push words s (x ∷ t) in
      let same = same-true (x ∷ t) s in
      let short = ends-short (x ∷ t) s e in
      grind arith

  pub longest-old : (t : List ℕ) → ends_with t s ≡ true → length s ≤ length (longest words t) → longest more t ≡ longest words t
  longest-old [] e longer = refl
  longest-old (x ∷ t) e longer =
      let later = longest-old t in
      let both = has-push words s (x ∷ t) in
      let same = λ (f : same_word (x ∷ t) s ≡ true). ap length (same-true (x ∷ t) s f) in
      let short = longest-short words t in
      grind arith

-- the step from a word of the words by a letter
module _ (words : List (List ℕ)) (closed : IsClosed words) (c : ℕ) where
  pub step-none : (s : List ℕ) → has words (s ++ c ∷ []) ≡ false → 0 < length s → longest words (s ++ c ∷ []) ≡ longest words (longest words (drop 1 s) ++ c ∷ [])
  step-none [] e some = absurd (omega arith)
  step-none (x ∷ s) e some = at_false words x (s ++ c ∷ []) e ∙ longest-more words closed s c

  pub step-root : has words (c ∷ []) ≡ false → longest words (c ∷ []) ≡ []
  step-root e = at_false words c [] e
