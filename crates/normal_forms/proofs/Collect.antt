-- Sorted lists with no zero coefficient: how a list of terms is collected into one, and that the coefficients determine it.
use Rattle.std.proofs.Common.{◌≡◌, refl, sym, ap, ap₂, subst, ◌∙◌, Bool, true, false, cond, [], ◌∷◌, ◌⊎◌, inl, inr, true≢false}
use Rattle.std.proofs.lemmas.Bool.{false_from_ne_true}
use Rattle.definitions.proofs.Linear.{word_eq-true, word_eq-same}
use Rattle.definitions.specs.Poly.{Word, word_eq}
use Rattle.normal_forms.specs.Forms.{Form, put, insert_term, collected}
use Rattle.normal_forms.proofs.Field.{Field, numbers_of}
use Rattle.normal_forms.proofs.FieldLaws.{none_plus, times_one, plus_times, times_none, plus_swap}
use Rattle.normal_forms.proofs.Forms.{Each, hit, look, Alike}

-- a strict total order of words, as a test
pub record Sorting : Type 0 where
  pub below : Word → Word → Bool
  pub irreflexive : (w : Word) → below w w ≡ false
  pub transitive : (u v w : Word) → below u v ≡ true → below v w ≡ true → below u w ≡ true
  pub total : (v w : Word) → (v ≡ w) ⊎ ((below v w ≡ true) ⊎ (below w v ≡ true))

module _ {K : Type 0} (k : Field K) (o : Sorting) where
  -- all later words are above
  abbrev pub After : Word → Form K → Type 0
  After w p = Each (λ u. o.below w u ≡ true) p

  -- strictly ascending, with no zero coefficient
  abbrev pub IsForm : Form K → Type 0
  IsForm [] = Unit {0}
  IsForm (t ∷ p) = (k.is_none t.0 ≡ false) × After t.1 p × IsForm p

  abbrev pub put_term : (K × Word) → Form K → Form K
  put_term = put (numbers_of k) o.below

  abbrev pub insert : (K × Word) → Form K → Form K
  insert = insert_term (numbers_of k) o.below

  abbrev pub collect : Form K → Form K
  collect = collected (numbers_of k) o.below

  each-put : (P : Word → Type 0) (t : K × Word) (p : Form K) → P t.1 → Each P p → Each P (put_term t p)
  each-put P t p h e = elim (k.is_none t.0) as (λ b. Each P (cond b p (t ∷ p))) [ true ↦ e | false ↦ (h, e) ]

  each-insert : (P : Word → Type 0) (t : K × Word) (p : Form K) → P t.1 → Each P p → Each P (insert t p)
  each-insert P t [] h e = each-put P t [] h e
  each-insert P t (s ∷ p) h e = go (word_eq t.1 s.1) (o.below t.1 s.1) (each-insert P t p h e.1)
    where
      go : (b c : Bool) → Each P (insert t p) → Each P (cond b (put_term (k.plus t.0 s.0, s.1) p) (cond c (put_term t (s ∷ p)) (s ∷ insert t p)))
      go true c ih = each-put P (k.plus t.0 s.0, s.1) p e.0 e.1
      go false true ih = each-put P t (s ∷ p) h e
      go false false ih = (e.0, ih)

  pub each-collect : (P : Word → Type 0) (p : Form K) → Each P p → Each P (collect p)
  each-collect P [] e = tt
  each-collect P (t ∷ p) e = each-insert P t (collect p) e.0 (each-collect P p e.1)

  look-put : (t : K × Word) (p : Form K) (w : Word) → look k (put_term t p) w ≡ look k (t ∷ p) w
  look-put t p w = go (k.is_none t.0) refl
    where
      go : (b : Bool) → k.is_none t.0 ≡ b → look k (cond b p (t ∷ p)) w ≡ look k (t ∷ p) w
      go true e = sym
          (ap (λ z. k.plus (k.times z (hit k t.1 w)) (look k p w)) (k.is_none_true t.0 e)
          ∙ ap (λ z. k.plus z (look k p w)) (k.times_comm k.none (hit k t.1 w) ∙ times_none k (hit k t.1 w)) ∙ none_plus k (look k p w))
      go false e = refl

  look-insert : (t : K × Word) (p : Form K) (w : Word) → look k (insert t p) w ≡ look k (t ∷ p) w
  look-insert t [] w = look-put t [] w
  look-insert t (s ∷ p) w = go (word_eq t.1 s.1) refl (o.below t.1 s.1) (look-insert t p w)
    where
      go : (b : Bool) → word_eq t.1 s.1 ≡ b → (c : Bool) → look k (insert t p) w ≡ look k (t ∷ p) w
          → look k (cond b (put_term (k.plus t.0 s.0, s.1) p) (cond c (put_term t (s ∷ p)) (s ∷ insert t p))) w ≡ look k (t ∷ s ∷ p) w
      go true e c ih = look-put (k.plus t.0 s.0, s.1) p w ∙ ap (λ z. k.plus z (look k p w)) (plus_times k t.0 s.0 (hit k s.1 w))
          ∙ k.plus_assoc (k.times t.0 (hit k s.1 w)) (k.times s.0 (hit k s.1 w)) (look k p w)
          ∙ ap (λ x. k.plus (k.times t.0 (hit k x w)) (look k (s ∷ p) w)) (sym (word_eq-true t.1 s.1 e))
      go false e true ih = look-put t (s ∷ p) w
      go false e false ih = ap (λ z. k.plus (k.times s.0 (hit k s.1 w)) z) ih
          ∙ plus_swap k (k.times s.0 (hit k s.1 w)) (k.times t.0 (hit k t.1 w)) (look k p w)

  pub look-collect : (p : Form K) (w : Word) → look k (collect p) w ≡ look k p w
  look-collect [] w = refl
  look-collect (t ∷ p) w = look-insert t (collect p) w ∙ ap (λ z. k.plus (k.times t.0 (hit k t.1 w)) z) (look-collect p w)

  pub alike-collect : (p : Form K) → Alike k (collect p) p
  alike-collect p = record { at = look-collect p }

  after-more : {v : Word} (w : Word) (p : Form K) → o.below w v ≡ true → After v p → After w p
  after-more w [] e h = tt
  after-more {v} w (t ∷ p) e h = (o.transitive w v t.1 e h.0, after-more w p e h.1)

  form-put : (t : K × Word) (p : Form K) → After t.1 p → IsForm p → IsForm (put_term t p)
  form-put t p h f = (elim (k.is_none t.0) as (λ b. k.is_none t.0 ≡ b → IsForm (cond b p (t ∷ p))) [
    | true ↦ λ e. f
    | false ↦ λ e. (e, h, f)
  ]) refl

  form-insert : (t : K × Word) (p : Form K) → IsForm p → IsForm (insert t p)
  form-insert t [] f = form-put t [] tt f
  form-insert t (s ∷ p) f = go (word_eq t.1 s.1) refl (o.below t.1 s.1) refl (form-insert t p f.2)
    where
      above : word_eq t.1 s.1 ≡ false → o.below t.1 s.1 ≡ false → o.below s.1 t.1 ≡ true
      above e h = elim (o.total t.1 s.1) [
        | inl q ↦ absurd (true≢false (sym (subst (λ x. word_eq t.1 x ≡ true) q (word_eq-same t.1)) ∙ e))
        | inr (inl q) ↦ absurd (true≢false (sym q ∙ h))
        | inr (inr q) ↦ q
      ]

      go : (b : Bool) → word_eq t.1 s.1 ≡ b → (c : Bool) → o.below t.1 s.1 ≡ c → IsForm (insert t p)
          → IsForm (cond b (put_term (k.plus t.0 s.0, s.1) p) (cond c (put_term t (s ∷ p)) (s ∷ insert t p)))
      go true e c h ih = form-put (k.plus t.0 s.0, s.1) p f.1 f.2
      go false e true h ih = form-put t (s ∷ p) (h, after-more t.1 p h f.1) f
      go false e false h ih = (f.0, each-insert (λ u. o.below s.1 u ≡ true) t p (above e h) f.1, ih)

  pub form-collect : (p : Form K) → IsForm (collect p)
  form-collect [] = tt
  form-collect (t ∷ p) = form-insert t (collect p) (form-collect p)

  apart : (v w : Word) → o.below v w ≡ true → word_eq w v ≡ false
  apart v w h = false_from_ne_true (word_eq w v) (λ e. true≢false (sym h ∙ ap (λ x. o.below v x) (word_eq-true w v e) ∙ o.irreflexive v))

  pub look_other : (w : Word) (t : K × Word) (p : Form K) → word_eq t.1 w ≡ false → look k (t ∷ p) w ≡ look k p w
  look_other w t p e = ap (λ b. k.plus (k.times t.0 (cond b k.one k.none)) (look k p w)) e ∙ ap (λ z. k.plus z (look k p w)) (times_none k t.0)
      ∙ none_plus k (look k p w)

  pub none_before : (w : Word) (p : Form K) → After w p → look k p w ≡ k.none
  none_before w [] h = refl
  none_before w (t ∷ p) h = look_other w t p (apart w t.1 h.0) ∙ none_before w p h.1

  pub look_head : (t : K × Word) (p : Form K) → After t.1 p → look k (t ∷ p) t.1 ≡ t.0
  look_head t p h = ap (λ b. k.plus (k.times t.0 (cond b k.one k.none)) (look k p t.1)) (word_eq-same t.1)
      ∙ ap₂ k.plus (times_one k t.0) (none_before t.1 p h) ∙ k.plus_none t.0

  rests_alike : {t : K × Word} {p q : Form K} → After t.1 p → After t.1 q → Alike k (t ∷ p) (t ∷ q) → Alike k p q
  rests_alike {t} {p} {q} h j e = record { at = λ w. go w (word_eq t.1 w) refl }
    where
      go : (w : Word) (b : Bool) → word_eq t.1 w ≡ b → look k p w ≡ look k q w
      go w true i = ap (look k p) (sym (word_eq-true t.1 w i)) ∙ none_before t.1 p h ∙ sym (ap (look k q) (sym (word_eq-true t.1 w i)) ∙ none_before t.1 q j)
      go w false i = sym (look_other w t p i) ∙ e.at w ∙ look_other w t q i

  no_earlier : {t s : K × Word} {p q : Form K} → k.is_none t.0 ≡ false → After t.1 p → After s.1 q → Alike k (t ∷ p) (s ∷ q) → o.below t.1 s.1 ≡ true → ⊥
  no_earlier {t} {s} {p} {q} n h j e i = k.is_none_false t.0 n (sym (look_head t p h) ∙ e.at t.1 ∙ none_before t.1 (s ∷ q) (i, after-more t.1 q i j))

  pub form_unique : (p q : Form K) → IsForm p → IsForm q → Alike k p q → p ≡ q
  form_unique [] [] f g e = refl
  form_unique [] (s ∷ q) f g e = absurd (k.is_none_false s.0 g.0 (sym (look_head s q g.1) ∙ sym (e.at s.1)))
  form_unique (t ∷ p) [] f g e = absurd (k.is_none_false t.0 f.0 (sym (look_head t p f.1) ∙ e.at t.1))
  form_unique (t ∷ p) (s ∷ q) f g e = go (o.total t.1 s.1) (form_unique p q f.2 g.2)
    where
      go : (t.1 ≡ s.1) ⊎ ((o.below t.1 s.1 ≡ true) ⊎ (o.below s.1 t.1 ≡ true)) → (Alike k p q → p ≡ q) → ◌≡◌ {A = Form K} (t ∷ p) (s ∷ q)
      go (inr (inl i)) rest = absurd (no_earlier f.0 f.1 g.1 e i)
      go (inr (inr i)) rest = absurd (no_earlier g.0 g.1 f.1 (record { at = λ w. sym (e.at w) }) i)
      go (inl i) rest =
          let first : t.0 ≡ s.0 = sym (look_head t p f.1) ∙ e.at t.1 ∙ ap (look k (s ∷ q)) i ∙ look_head s q g.1 in
          let whole : t ≡ s = λ j. (first j, i j) in
          ap₂ ◌∷◌ whole (rest (rests_alike f.1 (subst (λ x. After x.1 q) (sym whole) g.1) (subst (λ x. Alike k (t ∷ p) (x ∷ q)) (sym whole) e)))
