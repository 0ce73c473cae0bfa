-- Numbers written in another way: what is made of them is written in that way too.
use Rattle.std.proofs.Common.{◌≡◌, ℕ, ◌+◌, ℤ, Bool, true, false, cond, List, [], ◌∷◌, ◌++◌, length, take, drop, Option, Some, None, refl, ap, ap₂, ◌∙◌, subst}
use Rattle.std.specs.Int.RustNames.{unsigned_abs}
use Rattle.definitions.specs.Poly.{Word, Term, word_eq}
use Rattle.rule_reduce.specs.declared.rule.Rule.{Rule}
use Rattle.normal_forms.specs.Forms.{Form, with_words, multiple_form, product_form, put, insert_term, collected}
use Rattle.normal_forms.specs.Numbers.{Numbers}
use Rattle.normal_forms.specs.RationalForms.{IsGrounded, grounded, first_rule, other_terms, form_where, lower_forms, form_by, word_form, rational_normal_form}

-- the operations go along
pub record IsHomomorphism {K L : Type 0} (k : Numbers K) (m : Numbers L) (h : K → L) : Type 0 where
  pub one : h k.one ≡ m.one
  pub plus : (a b : K) → h (k.plus a b) ≡ m.plus (h a) (h b)
  pub minus : (a : K) → h (k.minus a) ≡ m.minus (h a)
  pub times : (a b : K) → h (k.times a b) ≡ m.times (h a) (h b)
  pub int : (a : ℤ) → h (k.int a) ≡ m.int a
  pub part : (n : ℕ) → h (k.part n) ≡ m.part n
  pub is_none : (a : K) → k.is_none a ≡ m.is_none (h a)

-- the numbers of a sum of words written in another way
abbrev pub mapped : {K L : Type 0} → (K → L) → Form K → Form L
mapped h [] = []
mapped h (t ∷ p) = (h t.0, t.1) ∷ mapped h p

pub mapped-append : {K L : Type 0} (h : K → L) (p q : Form K) → mapped h (p ++ q) ≡ mapped h p ++ mapped h q
mapped-append h [] q = refl
mapped-append h (t ∷ p) q = ap (λ z. (h t.0, t.1) ∷ z) (mapped-append h p q)

mapped-words : {K L : Type 0} (h : K → L) (f : Word → Word) (p : Form K) → mapped h (with_words f p) ≡ with_words f (mapped h p)
mapped-words h f [] = refl
mapped-words h f (t ∷ p) = ap (λ z. (h t.0, f t.1) ∷ z) (mapped-words h f p)

module _ {K L : Type 0} (k : Numbers K) (m : Numbers L) (h : K → L) (is : IsHomomorphism k m h) where
  pub mapped-multiple : (c : K) (p : Form K) → mapped h (multiple_form k c p) ≡ multiple_form m (h c) (mapped h p)
  mapped-multiple c [] = refl
  mapped-multiple c (t ∷ p) = ap₂ (λ x z. (x, t.1) ∷ z) (is.times c t.0) (mapped-multiple c p)

  pub mapped-product : (p q : Form K) → mapped h (product_form k p q) ≡ product_form m (mapped h p) (mapped h q)
  mapped-product [] q = refl
  mapped-product (t ∷ p) q =
      mapped-append h (with_words (λ u. t.1 ++ u) (multiple_form k t.0 q)) (product_form k p q)
      ∙ ap₂ ◌++◌ (mapped-words h (λ u. t.1 ++ u) (multiple_form k t.0 q) ∙ ap (with_words (λ u. t.1 ++ u)) (mapped-multiple t.0 q)) (mapped-product p q)

  module _ (before : Word → Word → Bool) where
    mapped-put : (t : K × Word) (p : Form K) → mapped h (put k before t p) ≡ put m before (h t.0, t.1) (mapped h p)
    mapped-put t p = subst (λ b. mapped h (put k before t p) ≡ cond b (mapped h p) ((h t.0, t.1) ∷ mapped h p)) (is.is_none t.0) (go (k.is_none t.0))
      where
        go : (b : Bool) → mapped h (cond b p (t ∷ p)) ≡ cond b (mapped h p) ((h t.0, t.1) ∷ mapped h p)
        go true = refl
        go false = refl

    mapped-insert : (t : K × Word) (p : Form K) → mapped h (insert_term k before t p) ≡ insert_term m before (h t.0, t.1) (mapped h p)
    mapped-insert t [] = mapped-put t []
    mapped-insert t (s ∷ p) = go (word_eq t.1 s.1) (before t.1 s.1) (mapped-insert t p)
      where
        go : (b c : Bool) → mapped h (insert_term k before t p) ≡ insert_term m before (h t.0, t.1) (mapped h p)
            → mapped h (cond b (put k before (k.plus t.0 s.0, s.1) p) (cond c (put k before t (s ∷ p)) (s ∷ insert_term k before t p)))
            ≡ cond b (put m before (m.plus (h t.0) (h s.0), s.1) (mapped h p))
            (cond c (put m before (h t.0, t.1) ((h s.0, s.1) ∷ mapped h p)) ((h s.0, s.1) ∷ insert_term m before (h t.0, t.1) (mapped h p)))
        go true c rest = mapped-put (k.plus t.0 s.0, s.1) p ∙ ap (λ x. put m before (x, s.1) (mapped h p)) (is.plus t.0 s.0)
        go false true rest = mapped-put t (s ∷ p)
        go false false rest = ap (λ z. (h s.0, s.1) ∷ z) rest

    pub mapped-collected : (p : Form K) → mapped h (collected k before p) ≡ collected m before (mapped h p)
    mapped-collected [] = refl
    mapped-collected (t ∷ p) = mapped-insert t (collected k before p) ∙ ap (insert_term m before (h t.0, t.1)) (mapped-collected p)

  module _ (below : Word → Word → Bool) (rules : List Rule) where
    mapped-where : (b : Bool) (form : b ≡ true → Form K) (other : b ≡ true → Form L) → ((e : b ≡ true) → mapped h (form e) ≡ other e)
        → mapped h (form_where k below rules b form) ≡ form_where m below rules b other
    mapped-where true form other same = same refl
    mapped-where false form other same = refl

    mapped-lower : (M : Word) (form : (N : Word) → below N M ≡ true → Form K) (other : (N : Word) → below N M ≡ true → Form L)
        → ((N : Word) (e : below N M ≡ true) → mapped h (form N e) ≡ other N e)
        → (q : ℕ) (l r : Word) (p : List Term) → mapped h (lower_forms k below rules M form q l r p) ≡ lower_forms m below rules M other q l r p
    mapped-lower M form other same q l r [] = refl
    mapped-lower M form other same q l r (t ∷ p) =
        mapped-append h (multiple_form k d first) (lower_forms k below rules M form q l r p)
        ∙ ap₂ ◌++◌ (mapped-multiple d first ∙ ap₂ (multiple_form m) factor (mapped-where (below N M) (form N) (other N) (same N)))
        (mapped-lower M form other same q l r p)
      where
        N : Word
        N = l ++ (t.1 ++ r)

        d : K
        d = k.times (k.minus (k.int t.0)) (k.part q)

        first : Form K
        first = form_where k below rules (below N M) (form N)

        factor : h d ≡ m.times (m.minus (m.int t.0)) (m.part q)
        factor = is.times (k.minus (k.int t.0)) (k.part q) ∙ ap₂ m.times (is.minus (k.int t.0) ∙ ap m.minus (is.int t.0)) (is.part q)

    mapped-word : {M : Word} (a : IsGrounded below M) → mapped h (word_form k below rules M a) ≡ word_form m below rules M a
    mapped-word (grounded M lower) = go (first_rule rules M) (λ N e. mapped-word (lower N e))
      where
        go : (f : Option (Rule × ℕ))
            → ((N : Word) (e : below N M ≡ true) → mapped h (word_form k below rules N (lower N e)) ≡ word_form m below rules N (lower N e))
            → mapped h (form_by k below rules M (λ N e. word_form k below rules N (lower N e)) f) ≡ form_by m below rules M
            (λ N e. word_form m below rules N (lower N e)) f
        go None same = ap (λ x. (x, M) ∷ []) is.one
        go (Some f) same = mapped-lower M _ _ same (unsigned_abs f.0.leading) (take f.1 M) (drop (f.1 + length f.0.lead) M) (other_terms f.0)

    pub mapped-normal : (all : (w : Word) → IsGrounded below w) (p : Form K)
        → mapped h (rational_normal_form k below rules all p) ≡ rational_normal_form m below rules all (mapped h p)
    mapped-normal all [] = refl
    mapped-normal all (t ∷ p) =
        mapped-append h (multiple_form k t.0 (word_form k below rules t.1 (all t.1))) (rational_normal_form k below rules all p)
        ∙ ap₂ ◌++◌ (mapped-multiple t.0 (word_form k below rules t.1 (all t.1)) ∙ ap (multiple_form m (h t.0)) (mapped-word (all t.1)))
        (mapped-normal all p)
