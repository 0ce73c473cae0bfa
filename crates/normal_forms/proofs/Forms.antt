-- Lists of with_words with coefficients in a field, and sums over their terms.
use Rattle.std.proofs.Common.{◌≡◌, ℕ, ◌<◌, ◌≤◌, suc, refl, sym, ap, ap₂, subst, ◌∙◌, Bool, true, false, cond, List, [], ◌∷◌, ◌++◌, length, arith}
use Rattle.std.specs.List.{AllByRecursion}
use Rattle.definitions.proofs.Linear.{word_eq-true, word_eq-same}
use Rattle.definitions.proofs.UnitSound.{all-append}
use Rattle.definitions.specs.Poly.{Word, word_eq}
use Rattle.confluence.proofs.Inside.{strong}
use Rattle.confluence.proofs.TermWords.{each_weaker}
use Rattle.normal_forms.specs.Forms.{Form, with_words, multiple_form}
use Rattle.normal_forms.proofs.Field.{Field, numbers_of}
use Rattle.normal_forms.proofs.FieldLaws.{none_plus, times_one, plus_times, plus_cancel, times_none, none_times, minus_one, plus_swap, equal_from_rest}

pub words-append : {K : Type 0} (h : Word → Word) (p q : Form K) → with_words h (p ++ q) ≡ with_words h p ++ with_words h q
words-append h [] q = refl
words-append h (t ∷ p) q = ap (λ z. (t.0, h t.1) ∷ z) (words-append h p q)

pub words-words : {K : Type 0} (h j : Word → Word) (p : Form K) → with_words h (with_words j p) ≡ with_words (λ w. h (j w)) p
words-words h j [] = refl
words-words h j (t ∷ p) = ap (λ z. (t.0, h (j t.1)) ∷ z) (words-words h j p)

pub words-same : {K : Type 0} (h j : Word → Word) (p : Form K) → ((w : Word) → h w ≡ j w) → with_words h p ≡ with_words j p
words-same h j [] e = refl
words-same h j (t ∷ p) e = ap₂ (λ w z. (t.0, w) ∷ z) (e t.1) (words-same h j p e)

-- of a list and another one behind it
pub all_front : {A : Type 0} (P : A → Type 0) (p q : List A) → AllByRecursion P (p ++ q) → AllByRecursion P p
all_front P [] q a = tt
all_front P (x ∷ p) q a = (a.0, all_front P p q a.1)

pub all_back : {A : Type 0} (P : A → Type 0) (p q : List A) → AllByRecursion P (p ++ q) → AllByRecursion P q
all_back P [] q a = a
all_back P (x ∷ p) q a = all_back P p q a.1

-- what holds of each word
abbrev pub Each : {K : Type 0} → (Word → Type 0) → Form K → Type 0
Each P p = AllByRecursion (λ t. P t.1) p

pub each-append : {K : Type 0} (P : Word → Type 0) (p q : Form K) → Each P p → Each P q → Each P (p ++ q)
each-append P = all-append (λ t. P t.1)

pub each-weaker : {K : Type 0} (P Q : Word → Type 0) → ((w : Word) → P w → Q w) → (p : Form K) → Each P p → Each Q p
each-weaker P Q h = each_weaker (λ t. P t.1) (λ t. Q t.1) (λ t. h t.1)

module _ {K : Type 0} (k : Field K) where
  abbrev pub hit : Word → Word → K
  hit u w = cond (word_eq u w) k.one k.none

  abbrev pub sum : (Word → K) → Form K → K
  sum f [] = k.none
  sum f (t ∷ p) = k.plus (k.times t.0 (f t.1)) (sum f p)

  -- the coefficient of a word
  abbrev pub look : Form K → Word → K
  look p w = sum (λ u. hit u w) p

  abbrev pub scaled : K → Form K → Form K
  scaled = multiple_form (numbers_of k)

  pub sum-append : (f : Word → K) (p q : Form K) → sum f (p ++ q) ≡ k.plus (sum f p) (sum f q)
  sum-append f [] q = sym (none_plus k (sum f q))
  sum-append f (t ∷ p) q = ap (λ z. k.plus (k.times t.0 (f t.1)) z) (sum-append f p q) ∙ sym (k.plus_assoc (k.times t.0 (f t.1)) (sum f p) (sum f q))

  pub sum-scaled : (f : Word → K) (c : K) (p : Form K) → sum f (scaled c p) ≡ k.times c (sum f p)
  sum-scaled f c [] = sym (times_none k c)
  sum-scaled f c (t ∷ p) = ap₂ k.plus (k.times_assoc c t.0 (f t.1)) (sum-scaled f c p) ∙ sym (k.times_plus c (k.times t.0 (f t.1)) (sum f p))

  pub sum-words : (f : Word → K) (h : Word → Word) (p : Form K) → sum f (with_words h p) ≡ sum (λ u. f (h u)) p
  sum-words f h [] = refl
  sum-words f h (t ∷ p) = ap (λ z. k.plus (k.times t.0 (f (h t.1))) z) (sum-words f h p)

  -- the terms whose word isn't w
  abbrev pub without : Word → Form K → Form K
  without w [] = []
  without w (t ∷ p) = cond (word_eq t.1 w) (without w p) (t ∷ without w p)

  length-without : (w : Word) (p : Form K) → length (without w p) ≤ length p
  length-without w [] = omega arith
  length-without w (t ∷ p) = go (word_eq t.1 w) (length-without w p)
    where
      go : (b : Bool) → length (without w p) ≤ length p → length (cond b (without w p) (t ∷ without w p)) ≤ suc (length p)
      go true h = omega arith
      go false h = omega arith

  -- one word taken out of a sum
  pub sum-without : (f : Word → K) (w : Word) (p : Form K) → sum f p ≡ k.plus (k.times (look p w) (f w)) (sum f (without w p))
  sum-without f w [] = sym (ap (λ z. k.plus z k.none) (none_times k (f w)) ∙ k.plus_none k.none)
  sum-without f w (t ∷ p) = go (word_eq t.1 w) refl (sum-without f w p)
    where
      go : (b : Bool) → word_eq t.1 w ≡ b → sum f p ≡ k.plus (k.times (look p w) (f w)) (sum f (without w p))
          → k.plus (k.times t.0 (f t.1)) (sum f p) ≡ k.plus (k.times (k.plus (k.times t.0 (cond (word_eq t.1 w) k.one k.none)) (look p w)) (f w))
          (sum f (cond (word_eq t.1 w) (without w p) (t ∷ without w p)))
      go true e ih = rw e
          (ap₂ (λ x y. k.plus (k.times t.0 (f x)) y) (word_eq-true t.1 w e) ih
          ∙ sym (k.plus_assoc (k.times t.0 (f w)) (k.times (look p w) (f w)) (sum f (without w p)))
          ∙ ap (λ z. k.plus z (sum f (without w p)))
          (sym (plus_times k t.0 (look p w) (f w)) ∙ ap (λ z. k.times (k.plus z (look p w)) (f w)) (sym (times_one k t.0))))
      go false e ih = rw e
          (ap (λ z. k.plus (k.times t.0 (f t.1)) z) ih ∙ plus_swap k (k.times t.0 (f t.1)) (k.times (look p w) (f w)) (sum f (without w p))
          ∙ ap (λ z. k.plus (k.times z (f w)) (k.plus (k.times t.0 (f t.1)) (sum f (without w p))))
          (sym (ap (λ z. k.plus z (look p w)) (times_none k t.0) ∙ none_plus k (look p w))))

  pub look-without_same : (w : Word) (p : Form K) → look (without w p) w ≡ k.none
  look-without_same w [] = refl
  look-without_same w (t ∷ p) = go (word_eq t.1 w) refl (look-without_same w p)
    where
      go : (b : Bool) → word_eq t.1 w ≡ b → look (without w p) w ≡ k.none → look (cond (word_eq t.1 w) (without w p) (t ∷ without w p)) w ≡ k.none
      go true e ih = rw e ih
      go false e ih = rw e
          (ap (λ z. k.plus (k.times t.0 (cond z k.one k.none)) (look (without w p) w)) e ∙ ap (λ z. k.plus z (look (without w p) w)) (times_none k t.0)
          ∙ none_plus k (look (without w p) w) ∙ ih)

  -- lists with all coefficients none have the sum none
  pub sum-null : (f : Word → K) (p : Form K) → ((w : Word) → look p w ≡ k.none) → sum f p ≡ k.none
  sum-null f p = strong (λ n. (p : Form K) → length p ≡ n → ((w : Word) → look p w ≡ k.none) → sum f p ≡ k.none) step (length p) p refl
    where
      step : (n : ℕ) → ((m : ℕ) → m < n → (p : Form K) → length p ≡ m → ((w : Word) → look p w ≡ k.none) → sum f p ≡ k.none) → (p : Form K) → length p ≡ n
          → ((w : Word) → look p w ≡ k.none) → sum f p ≡ k.none
      step n ih [] e h = refl
      step n ih (t ∷ p) e h = sum-without f t.1 (t ∷ p) ∙ ap₂ (λ x y. k.plus (k.times x (f t.1)) y) (h t.1) rest
          ∙ ap (λ z. k.plus z k.none) (none_times k (f t.1)) ∙ k.plus_none k.none
        where
          smaller : length (without t.1 (t ∷ p)) < n
          smaller = rw (ap (λ b. cond b (without t.1 p) (t ∷ without t.1 p)) (word_eq-same t.1)) (omega (arith, length-without t.1 p, e))

          looks : (w : Word) → look (without t.1 (t ∷ p)) w ≡ k.none
          looks w = go (word_eq t.1 w) refl
            where
              go : (b : Bool) → word_eq t.1 w ≡ b → look (without t.1 (t ∷ p)) w ≡ k.none
              go true q = subst (λ x. look (without t.1 (t ∷ p)) x ≡ k.none) (word_eq-true t.1 w q) (look-without_same t.1 (t ∷ p))
              go false q = plus_cancel k (k.times (look (t ∷ p) t.1) (hit t.1 w)) (look (without t.1 (t ∷ p)) w) k.none
                  (sym (sum-without (λ u. hit u w) t.1 (t ∷ p)) ∙ h w
                  ∙ sym
                  (k.plus_none (k.times (look (t ∷ p) t.1) (hit t.1 w)) ∙ ap (λ b. k.times (look (t ∷ p) t.1) (cond b k.one k.none)) q
                  ∙ times_none k (look (t ∷ p) t.1)))

          rest : sum f (without t.1 (t ∷ p)) ≡ k.none
          rest = ih (length (without t.1 (t ∷ p))) smaller (without t.1 (t ∷ p)) refl looks

  -- a sum depends on the coefficients alone
  pub sum-same : (f : Word → K) (p q : Form K) → ((w : Word) → look p w ≡ look q w) → sum f p ≡ sum f q
  sum-same f p q h = equal_from_rest k (sum f p) (sum f q)
      (sym (difference f) ∙ sum-null f (p ++ scaled (k.minus k.one) q)
      (λ w. difference (λ u. hit u w) ∙ ap (λ z. k.plus z (k.minus (look q w))) (h w) ∙ k.plus_minus (look q w)))
    where
      difference : (j : Word → K) → sum j (p ++ scaled (k.minus k.one) q) ≡ k.plus (sum j p) (k.minus (sum j q))
      difference j = sum-append j p (scaled (k.minus k.one) q) ∙ ap (λ z. k.plus (sum j p) z) (sum-scaled j (k.minus k.one) q ∙ minus_one k (sum j q))

  -- the same coefficients
  pub record Alike (p q : Form K) : Type 0 where
    pub at : (w : Word) → look p w ≡ look q w

  pub alike-words : (h : Word → Word) (p q : Form K) → Alike p q → Alike (with_words h p) (with_words h q)
  alike-words h p q e = record { at = λ w. sum-words (λ u. hit u w) h p ∙ sum-same (λ u. hit (h u) w) p q e.at ∙ sym (sum-words (λ u. hit u w) h q) }

  pub alike-append : {p q r s : Form K} → Alike p q → Alike r s → Alike (p ++ r) (q ++ s)
  alike-append {p} {q} {r} {s} a b = record { at = λ w. sum-append (λ u. hit u w) p r ∙ ap₂ k.plus (a.at w) (b.at w) ∙ sym (sum-append (λ u. hit u w) q s) }

  pub alike-scaled : (c : K) {p q : Form K} → Alike p q → Alike (scaled c p) (scaled c q)
  alike-scaled c {p} {q} a = record { at = λ w. sum-scaled (λ u. hit u w) c p ∙ ap (λ z. k.times c z) (a.at w) ∙ sym (sum-scaled (λ u. hit u w) c q) }

  pub each-scaled : (P : Word → Type 0) (c : K) (p : Form K) → Each P p → Each P (scaled c p)
  each-scaled P c [] a = tt
  each-scaled P c (t ∷ p) a = (a.0, each-scaled P c p a.1)

  pub scaled-append : (c : K) (p q : Form K) → scaled c (p ++ q) ≡ scaled c p ++ scaled c q
  scaled-append c [] q = refl
  scaled-append c (t ∷ p) q = ap (λ z. (k.times c t.0, t.1) ∷ z) (scaled-append c p q)

  pub scaled-words : (c : K) (h : Word → Word) (p : Form K) → scaled c (with_words h p) ≡ with_words h (scaled c p)
  scaled-words c h [] = refl
  scaled-words c h (t ∷ p) = ap (λ z. (k.times c t.0, h t.1) ∷ z) (scaled-words c h p)
