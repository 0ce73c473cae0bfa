-- The maps between normal forms are the finite sums of normal words.
use Rattle.normal_forms.proofs.Prelude.{◌≡◌, ◌⊎◌, inl, inr, ℕ, suc, ◌<◌, Bool, true, false, cond, List, [], ◌∷◌, ◌++◌, length, map, refl, sym, ap, ap₂, subst, ◌∙◌, true≢false, eqb-true, eq-eqb, arith, All, AllByRecursion, Contains, length-append, All-weaker, Contains-tail, Word, word_eq, IsArrow, word_eq-true, word_eq-same, OccursAt, OccursNowhere, asked_cmp, letter_count, quiver_of, Rule, IsRule, leading-all, Parts, numbers, is_in_play, Fraction, IsLowest, is_zero, whole, Form, NormalMap, LeadsInPlay, IsNonzero, IsBasis, IsNormalMap, is_marked_in, normal_forms, fraction_at, IsNormalWord, IsListedMap, IsFiniteSum, HasOneMap, MapsAreFiniteSums}
use Rattle.normal_forms.proofs.Homomorphisms.{mapped}
use Rattle.normal_forms.proofs.Rationals.{Rational, rationals, zero_in_lowest, none_test, none_is_none, raw, raw-none, read, read_raw, raw_read}
use Rattle.normal_forms.proofs.FieldLaws.{none_plus, times_none, times_one}
use Rattle.normal_forms.proofs.Forms.{Each, each-weaker, hit, look, without, sum-without, look-without_same}
use Rattle.normal_forms.proofs.Collect.{IsForm, collect, form-collect, look-collect, form_unique, look_head, look_other, none_before}
use Rattle.normal_forms.proofs.CanonicalOrder.{canonical}
use Rattle.normal_forms.proofs.NormalCategory.{arrow_same}
use Rattle.normal_forms.proofs.Plain.{mapped_again, form_read, nonzero_raw, ascending_raw, each_raw}

-- no leading word occurs in the empty word
empty_is_irreducible : (p : Parts) (rules : List Rule) → All (IsRule (letter_count p.quiver) (asked_cmp p.order)) rules
    → All (λ g. OccursNowhere [] g.lead) rules
empty_is_irreducible p rules are =
    All-weaker (IsRule (letter_count p.quiver) (asked_cmp p.order)) (λ (g : Rule). OccursNowhere [] g.lead) (λ g is place at. none g is place at) rules are
  where
    none : (g : Rule) → IsRule (letter_count p.quiver) (asked_cmp p.order) g → (place : ℕ) → OccursAt [] g.lead place → ⊥
    none g is place at =
        absurd (omega (
          arith,
          ap length at.splits,
          length-append at.before (g.lead ++ at.after),
          length-append g.lead at.after,
          (leading-all (λ t. 0 < length t.1) (asked_cmp p.order) g.poly.terms (g.leading, g.lead) is.leading is.nonempty),
        ))

-- A word of a map is a normal word, and the other way.
module _ (p : Parts) (rules : List Rule) (u v : ℕ) where
  abbrev Leads : Word → Type 0
  Leads = LeadsInPlay (quiver_of p.quiver) (is_in_play p.quiver p.starred (numbers p.marked)) (is_marked_in p) u v

  abbrev HasNone : Word → Type 0
  HasNone w = All (λ g. OccursNowhere w g.lead) rules

  normal_word : (w : Word) → Leads w → HasNone w → IsNormalWord p rules u v w
  normal_word [] leads none = (eqb-true u v leads.leads, leads.unit refl)
  normal_word (a ∷ w) leads none = (leads.leads, leads.plays, none)

  word_leads : (w : Word) → IsNormalWord p rules u v w → Leads w
  word_leads [] normal = record { leads = eq-eqb u v normal.0; plays = tt; unit = λ e. subst (λ x. is_marked_in p x ≡ false) refl normal.1 }
  word_leads (a ∷ w) normal = record { leads = normal.0; plays = normal.1; unit = λ e. absurd (cc) }

  word_irreducible : HasNone [] → (w : Word) → IsNormalWord p rules u v w → HasNone w
  word_irreducible empty [] normal = empty
  word_irreducible empty (a ∷ w) normal = normal.2

  normal_words : (f : Form Fraction) → AllByRecursion (λ t. Leads t.1) f → AllByRecursion (λ t. HasNone t.1) f
      → AllByRecursion (λ t. IsNormalWord p rules u v t.1) f
  normal_words [] leads none = tt
  normal_words (t ∷ f) leads none = (normal_word t.1 leads.0 none.0, normal_words f leads.1 none.1)

module _ (p : Parts) (rules : List Rule) where
  listed_at : {m : NormalMap Fraction} → IsNormalMap p rules m → IsListedMap p rules m.source m.target m
  listed_at {m} is = record {
    source = refl;
    target = refl;
    fractions = is.nonzero;
    ascending = is.ascending;
    words = normal_words p rules m.source m.target m.form is.words is.irreducible;
  }

  normal_at : {m : NormalMap Fraction} → IsBasis p rules → m.source < (quiver_of p.quiver).objects → m.target < (quiver_of p.quiver).objects
      → IsListedMap p rules m.source m.target m → IsNormalMap p rules m
  normal_at {m} basis source target is = record {
    source_is_object = source;
    target_is_object = target;
    nonzero = is.fractions;
    ascending = is.ascending;
    words = each-weaker
        (IsNormalWord p rules m.source m.target) (Leads p rules m.source m.target) (word_leads p rules m.source m.target) m.form is.words;
    irreducible = each-weaker (IsNormalWord p rules m.source m.target) (HasNone p rules m.source m.target)
        (word_irreducible p rules m.source m.target (empty_is_irreducible p rules basis.are_rules)) m.form is.words;
  }

  to_list : {u v : ℕ} {m : NormalMap Fraction} → IsArrow (normal_forms p rules) u v m → IsListedMap p rules u v m
  to_list {v} {m} is = subst (λ x. IsListedMap p rules x v m) is.source
      (subst (λ y. IsListedMap p rules m.source y m) is.target (listed_at is.arrow.0))

  from_list : {u v : ℕ} → (normal_forms p rules).is_object u → (normal_forms p rules).is_object v → {m : NormalMap Fraction}
      → IsListedMap p rules u v m → IsArrow (normal_forms p rules) u v m
  from_list {u} here there {m} is = record {
    arrow = (
      normal_at here.1 (subst (λ x. x < (quiver_of p.quiver).objects) (sym is.source) here.0)
          (subst (λ x. x < (quiver_of p.quiver).objects) (sym is.target) there.0)
          (subst (λ x. IsListedMap p rules x m.target m) (sym is.source) (subst (λ y. IsListedMap p rules u y m) (sym is.target) is)),
      here.1,
    );
    source = is.source;
    target = is.target;
  }

-- The fractions of a list, as a function.
lowest_at : (f : Form Fraction) → AllByRecursion (λ t. IsNonzero t.0) f → (w : Word) → IsLowest (fraction_at f w).top (fraction_at f w).bottom
unfolding whole
lowest_at [] each w = zero_in_lowest
lowest_at (t ∷ f) each w = go (word_eq t.1 w) (lowest_at f each.1 w)
  where
    go : (b : Bool) → IsLowest (fraction_at f w).top (fraction_at f w).bottom
        → IsLowest (cond b t.0 (fraction_at f w)).top (cond b t.0 (fraction_at f w)).bottom
    go true later = each.0.lowest
    go false later = later

none_listed : (w : Word) → is_zero (fraction_at [] w).top ≡ true
unfolding whole
none_listed w = refl

words_at : (P : Word → Type 0) (f : Form Fraction) → AllByRecursion (λ t. P t.1) f → (w : Word) → is_zero (fraction_at f w).top ≡ false → P w
words_at P [] each w some = absurd (true≢false (sym (none_listed w) ∙ some))
words_at P (t ∷ f) each w some = go (word_eq t.1 w) refl (words_at P f each.1 w) some
  where
    go : (b : Bool) → word_eq t.1 w ≡ b → (is_zero (fraction_at f w).top ≡ false → P w) → is_zero (cond b t.0 (fraction_at f w)).top ≡ false → P w
    go true e later some = subst P (word_eq-true t.1 w e) each.0
    go false e later some = later some

contains_later : (x : Word) {w : Word} (ws : List Word) → Contains ws w → Contains (x ∷ ws) w
contains_later x ws at = (suc at.0, omega (arith, at.1), at.2)

abbrev listed_words : Form Fraction → List Word
listed_words f = map (λ t. t.1) f

contains_at : (f : Form Fraction) (w : Word) → is_zero (fraction_at f w).top ≡ false → Contains (listed_words f) w
contains_at [] w some = absurd (true≢false (sym (none_listed w) ∙ some))
contains_at (t ∷ f) w some = go (word_eq t.1 w) refl (contains_at f w) some
  where
    go : (b : Bool) → word_eq t.1 w ≡ b → (is_zero (fraction_at f w).top ≡ false → Contains (listed_words f) w)
        → is_zero (cond b t.0 (fraction_at f w)).top ≡ false → Contains (listed_words (t ∷ f)) w
    go true e later some = (0, omega arith, word_eq-true t.1 w e)
    go false e later some = contains_later t.1 (listed_words f) (later some)

-- The number beside a word in a sorted list is its coefficient.
fraction_raw : (f : Form Rational) → IsForm rationals canonical f → (w : Word) → fraction_at (mapped raw f) w ≡ raw (look rationals f w)
fraction_raw [] form w = sym raw-none
fraction_raw (t ∷ f) form w = go (word_eq t.1 w) refl (fraction_raw f form.2 w)
  where
    go : (b : Bool) → word_eq t.1 w ≡ b → fraction_at (mapped raw f) w ≡ raw (look rationals f w)
        → cond b (raw t.0) (fraction_at (mapped raw f) w) ≡ raw (look rationals (t ∷ f) w)
    go true e later = ap raw (sym (ap (look rationals (t ∷ f)) (sym (word_eq-true t.1 w e)) ∙ look_head rationals canonical t f form.1))
    go false e later = later ∙ ap raw (sym (look_other rationals canonical w t f e))

-- what holds of the words with a coefficient that isn't zero holds of all words of the list
each_of : (P : Word → Type 0) (f : Form Rational) → IsForm rationals canonical f → ((w : Word) → rationals.is_none (look rationals f w) ≡ false → P w)
    → Each P f
each_of P [] form holds = tt
each_of P (t ∷ f) form holds =
    (holds t.1 (ap rationals.is_none (look_head rationals canonical t f form.1) ∙ form.0), each_of P f form.2 (λ w some. holds w (later w some)))
  where
    later : (w : Word) → rationals.is_none (look rationals f w) ≡ false → rationals.is_none (look rationals (t ∷ f) w) ≡ false
    later w some = go (word_eq t.1 w) refl
      where
        go : (b : Bool) → word_eq t.1 w ≡ b → rationals.is_none (look rationals (t ∷ f) w) ≡ false
        go true e = absurd (true≢false
            (sym none_is_none
            ∙ ap rationals.is_none (sym (ap (look rationals f) (sym (word_eq-true t.1 w e)) ∙ none_before rationals canonical t.1 f form.1)) ∙ some))
        go false e = ap rationals.is_none (look_other rationals canonical w t f e) ∙ some

-- The words of a list, each once, with the values of a function.
module _ (value : Word → Rational) where
  abbrev gathered : List Word → Form Rational
  gathered [] = []
  gathered (w ∷ ws) = (value w, w) ∷ without rationals w (gathered ws)

  look-without_other : (w x : Word) (f : Form Rational) → word_eq w x ≡ false → look rationals (without rationals w f) x ≡ look rationals f x
  look-without_other w x f e = sym
      (sum-without rationals (λ y. hit rationals y x) w f
      ∙ ap (λ b. rationals.plus (rationals.times (look rationals f w) (cond b rationals.one rationals.none)) (look rationals (without rationals w f) x)) e
      ∙ ap (λ z. rationals.plus z (look rationals (without rationals w f) x)) (times_none rationals (look rationals f w))
      ∙ none_plus rationals (look rationals (without rationals w f) x))

  gathered_here : (w : Word) (ws : List Word) → look rationals (gathered (w ∷ ws)) w ≡ value w
  gathered_here w ws = ap
      (λ b. rationals.plus (rationals.times (value w) (cond b rationals.one rationals.none)) (look rationals (without rationals w (gathered ws)) w))
      (word_eq-same w)
      ∙ ap₂ rationals.plus (times_one rationals (value w)) (look-without_same rationals w (gathered ws)) ∙ rationals.plus_none (value w)

  gathered_at : (ws : List Word) {x : Word} → Contains ws x ⊎ (value x ≡ rationals.none) → look rationals (gathered ws) x ≡ value x
  gathered_at [] (inl at) = absurd (omega (arith, at.1))
  gathered_at [] (inr none) = sym none
  gathered_at (w ∷ ws) {x} at = go (word_eq w x) refl (gathered_at ws)
    where
      go : (b : Bool) → word_eq w x ≡ b → (Contains ws x ⊎ (value x ≡ rationals.none) → look rationals (gathered ws) x ≡ value x)
          → look rationals (gathered (w ∷ ws)) x ≡ value x
      go true e later = subst (λ y. look rationals (gathered (w ∷ ws)) y ≡ value y) (word_eq-true w x e) (gathered_here w ws)
      go false e later = look_other rationals canonical x (value w, w) (without rationals w (gathered ws)) e ∙ look-without_other w x (gathered ws) e
          ∙ later (elim at [
            | inl at ↦ inl (Contains-tail w ws x (λ same. true≢false (sym (subst (λ y. word_eq w y ≡ true) same (word_eq-same w)) ∙ e)) at)
            | inr none ↦ inr none
          ])

-- The map of a finite sum.
module _ (p : Parts) (rules : List Rule) (u v : ℕ) (here : (normal_forms p rules).is_object u) (there : (normal_forms p rules).is_object v)
    (f : Word → Fraction) (is : IsFiniteSum p rules u v f) where
  abbrev value : Word → Rational
  value w = read (f w)

  back : (w : Word) → raw (value w) ≡ f w
  back w = raw_read (f w) (is.lowest w)

  abbrev terms : Form Rational
  terms = collect rationals canonical (gathered value is.listed)

  sorted : IsForm rationals canonical terms
  sorted = form-collect rationals canonical (gathered value is.listed)

  is_none_is : (w : Word) → rationals.is_none (value w) ≡ is_zero (f w).top
  is_none_is w = none_test (value w) ∙ ap (λ x. is_zero x.top) (back w)

  look_is : (w : Word) → look rationals terms w ≡ value w
  look_is w = look-collect rationals canonical (gathered value is.listed) w ∙ gathered_at value is.listed (which (is_zero (f w).top) refl)
    where
      which : (b : Bool) → is_zero (f w).top ≡ b → Contains is.listed w ⊎ (value w ≡ rationals.none)
      which true e = inr (rationals.is_none_true (value w) (is_none_is w ∙ e))
      which false e = inl (is.finite w e)

  abbrev the_map : NormalMap Fraction
  the_map = record { source = u; target = v; form = mapped raw terms }

  the_list : IsListedMap p rules u v the_map
  the_list = record {
    source = refl;
    target = refl;
    fractions = nonzero_raw terms sorted;
    ascending = ascending_raw terms sorted;
    words = each_raw (IsNormalWord p rules u v) terms (each_of (IsNormalWord p rules u v) terms sorted
        (λ w some. is.words w (sym (ap rationals.is_none (look_is w) ∙ is_none_is w) ∙ some)));
  }

  the_fractions : (w : Word) → fraction_at the_map.form w ≡ f w
  the_fractions w = fraction_raw terms sorted w ∙ ap raw (look_is w) ∙ back w

  the_only : (m : NormalMap Fraction) → IsArrow (normal_forms p rules) u v m → ((w : Word) → fraction_at m.form w ≡ f w) → m ≡ the_map
  the_only m arrow same = arrow_same m the_map arrow.source arrow.target (sym again ∙ ap (mapped raw) exactly)
    where
      exact_terms : Form Rational
      exact_terms = mapped read m.form

      exact_sorted : IsForm rationals canonical exact_terms
      exact_sorted = form_read m.form arrow.arrow.0.nonzero arrow.arrow.0.ascending

      again : mapped raw exact_terms ≡ m.form
      again = mapped_again m.form arrow.arrow.0.nonzero

      exactly : exact_terms ≡ terms
      exactly = form_unique rationals canonical exact_terms terms exact_sorted sorted
          (record {
            at = (λ w. sym (read_raw (look rationals exact_terms w)) ∙ ap read (sym (fraction_raw exact_terms exact_sorted w) ∙ ap
                (λ z. fraction_at z w) again ∙ same w ∙ sym (ap raw (look_is w) ∙ back w)) ∙ read_raw (look rationals terms w));
          })

  one_map : HasOneMap p rules u v f
  one_map = record { map = the_map; is_map = from_list p rules here there the_list; fractions = the_fractions; only = the_only }

pub maps_are_finite_sums : MapsAreFiniteSums
maps_are_finite_sums p rules u v here there = record {
  lists = λ m. (to_list p rules, from_list p rules here there);
  sums = λ m arrow. let list = to_list p rules arrow in record {
    lowest = lowest_at m.form list.fractions;
    words = words_at (IsNormalWord p rules u v) m.form list.words;
    listed = listed_words m.form;
    finite = contains_at m.form;
  };
  maps = λ f is. one_map p rules u v here there f is;
}
