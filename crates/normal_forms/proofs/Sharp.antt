-- The representation by normal forms: each d cancels, what the rules generate is zero, and nothing else is.
use Rattle.std.proofs.Common.{◌≡◌, ℕ, ◌<◌, zero, suc, refl, sym, ap, ap₂, subst, ◌∙◌, Bool, true, false, cond, List, [], ◌∷◌, ◌++◌, ℤ, pos, negsuc, ◌*ℤ◌, true≢false, ltb, eqb-true, lt-ltb, ltb-true, arith}
use Rattle.std.proofs.Math.IntN.{ℤ_discrete}
use Rattle.std.proofs.lemmas.Int.{ints}
use Rattle.std.specs.List.{AllByRecursion}
use Rattle.definitions.proofs.Paths.{step, Step}
use Rattle.definitions.specs.Category.{Structure, IsArrow}
use Rattle.definitions.specs.Poly.{coefficient_of, Word, Term}
use Rattle.definitions.specs.Quiver.{letters, source, target, is_path, IsTyped}
use Rattle.definitions.specs.Representation.{Representation, Represents, Cancels, natural_multiple, multiple, path_value, word_value, value_at}
use Rattle.definitions.specs.Soundness.{HasValueZero, HasValueZeroAt}
use Rattle.word_orders.specs.Orders.{Order}
use Rattle.confluence.proofs.LedRules.{filtered, coefficient_of-filtered}
use Rattle.confluence.proofs.Meets.{Rules}
use Rattle.confluence.proofs.Spans.{Coefs, Span, nothing, more, part}
use Rattle.normal_forms.specs.Forms.{Form}
use Rattle.normal_forms.specs.Maps.{NormalMap, letter_map}
use Rattle.normal_forms.proofs.Field.{Field, numbers_of}
use Rattle.normal_forms.proofs.FieldLaws.{minus_plus, none_plus, minus_one, none_times, plus_times, minus_unique, minus_times, int_none, int_cancel}
use Rattle.normal_forms.proofs.Forms.{Each, hit, look, scaled, sum-scaled, Alike}
use Rattle.normal_forms.proofs.Collect.{look-collect, alike-collect, form-collect, form_unique}
use Rattle.normal_forms.proofs.Congruence.{lifted, look-lifted_one, look-append, look-row, row, AnyRow, Cong, alike, rows, cong_refl, cong_same, cong_left, cong_trans, cong_append, cong_scaled, cong_sym, cong_none_span}
use Rattle.normal_forms.proofs.Products.{product}
use Rattle.normal_forms.proofs.NormalCategory.{AllPlay, Ground, Facts, one_letter, arrow_same, Good, Like, Nf, rebuild, good_range, ranges, reduced, reduced_like, reduced_irreducible, reduced_good, reduced_same, same_form, normal_structure, product_left, product_right, identity_arrow, zero_arrow, add_arrow, negate_arrow, compose_words}

module _ {K : Type 0} (k : Field K) where
  -- a polynomial with integer coefficients, as one with coefficients in the field
  abbrev pub integral : List (ℤ × List ℕ) → Form K
  integral p = lifted k k.one p

  module _ (o : Order) (g : Rules o) where
    -- what a positive multiple of which is a sum of rows is like zero
    span_like : (f : Coefs) → Span (AnyRow o g) f → (p : Form K) → ((w : Word) → look k p w ≡ k.int (f w)) → Cong k o g p []
    span_like _ (nothing f h) p e = alike p [] (record { at = λ w. e w ∙ ap k.int (h w) ∙ int_none k })
    span_like _ (more f d b c (M, x) hd h) p e = rows p r [] (k.int c) x.left x.number x.right x.has (subst o.Range x.top x.range) (span_like d hd r at_rest)
        (record { at = whole })
      where
        r : Form K
        r = row k o g (k.minus (k.int c)) x.left x.number x.right ++ p

        at_row : (e : K) (w : Word) → look k (row k o g e x.left x.number x.right) w ≡ k.times e (k.int (b w))
        at_row e w = look-row k o g e x.left x.number x.right w ∙ ap (λ z. k.times e (k.int z)) (sym (x.is w))

        forth : (a z : K) → z ≡ k.plus a (k.plus (k.minus a) z)
        forth a z = sym (sym (k.plus_assoc a (k.minus a) z) ∙ ap (λ y. k.plus y z) (k.plus_minus a) ∙ none_plus k z)

        at_rest : (w : Word) → look k r w ≡ k.int (d w)
        at_rest w = look-append k (row k o g (k.minus (k.int c)) x.left x.number x.right) p w
            ∙ ap₂ k.plus (at_row (k.minus (k.int c)) w ∙ minus_times k (k.int c) (k.int (b w)))
            (e w ∙ ap k.int (h w) ∙ k.int_plus (c *ℤ b w) (d w) ∙ ap (λ z. k.plus z (k.int (d w))) (k.int_times c (b w)))
            ∙ minus_plus k (k.times (k.int c) (k.int (b w))) (k.int (d w))

        whole : (w : Word) → look k p w ≡ look k (row k o g (k.int c) x.left x.number x.right ++ r) w
        whole w = forth (k.times (k.int c) (k.int (b w))) (look k p w) ∙ sym
            (look-append k (row k o g (k.int c) x.left x.number x.right) r w ∙ ap₂ k.plus (at_row (k.int c) w)
            (look-append k (row k o g (k.minus (k.int c)) x.left x.number x.right) p w
            ∙ ap (λ z. k.plus z (look k p w)) (at_row (k.minus (k.int c)) w ∙ minus_times k (k.int c) (k.int (b w)))))
    span_like _ (part f d n hn hd h) p e = cong_left (record { at = shrunk })
        (cong_scaled (k.part n) (span_like d hd (scaled k (k.int (pos n)) p) grown))
      where
        grown : (w : Word) → look k (scaled k (k.int (pos n)) p) w ≡ k.int (d w)
        grown w = sum-scaled k (λ u. hit k u w) (k.int (pos n)) p ∙ ap (k.times (k.int (pos n))) (e w) ∙ sym (k.int_times (pos n) (f w))
            ∙ ap k.int (sym (h w))

        shrunk : (w : Word) → look k p w ≡ look k (scaled k (k.part n) (scaled k (k.int (pos n)) p)) w
        shrunk w = sym (sum-scaled k (λ u. hit k u w) (k.part n) (scaled k (k.int (pos n)) p)
            ∙ ap (k.times (k.part n)) (sum-scaled k (λ u. hit k u w) (k.int (pos n)) p) ∙ sym (k.times_assoc (k.part n) (k.int (pos n)) (look k p w))
            ∙ ap (λ z. k.times z (look k p w)) (k.times_comm (k.part n) (k.int (pos n)) ∙ k.part_is n hn) ∙ k.one_times (look k p w))

    pub ideal_like : (p : List Term) → Span (AnyRow o g) (coefficient_of p) → Cong k o g (lifted k k.one p) []
    ideal_like p h = span_like (coefficient_of p) h (lifted k k.one p) (look-lifted_one k p)

module _ {K : Type 0} (k : Field K) (s : Ground k) where
  abbrev pub S : Structure ℕ (NormalMap K)
  S = normal_structure k s

  -- a word as an arrow
  abbrev pub word_arrow : ℕ → ℕ → Word → NormalMap K
  word_arrow u v w = record { source = u; target = v; form = reduced k s ((k.one, w) ∷ []) }

  abbrev pub letter_arrow : ℕ → NormalMap K
  letter_arrow = letter_map (numbers_of k) s.sorting.below s.normal s.marked s.quiver s.play

  abbrev pub normal_representation : Representation ℕ (NormalMap K)
  normal_representation = record { object = λ v. v; arrow = letter_arrow }

  -- each term's word has its letters in play
  abbrev pub TermsPlay : List (ℤ × List ℕ) → Type 0
  TermsPlay p = AllByRecursion (λ t. AllPlay s.play t.1) p

  module _ (facts : Facts k s) where
    letter_good : {a : ℕ} → a < letters s.quiver → s.play a ≡ true → Good k s (source s.quiver a) (target s.quiver a) (a ∷ [])
    letter_good {a} h e =
        record { leads = one_letter s.quiver h refl refl; plays = (e, tt); unit = λ q. absurd (cc) }

    word_is_arrow : {u v : ℕ} {w : Word} → u < s.quiver.objects → v < s.quiver.objects → Good k s u v w → IsArrow S u v (word_arrow u v w)
    word_is_arrow {u} {v} {w} hu hv a =
        rebuild k s facts (word_arrow u v w) refl refl hu hv (form-collect k s.sorting (Nf k s ((k.one, w) ∷ [])))
        (reduced_irreducible k s facts ((k.one, w) ∷ []) (good_range k s facts u v w a, tt))
        (reduced_good k s facts u v ((k.one, w) ∷ []) (a, tt))

    letter_is_arrow : (a : ℕ) → a < letters s.quiver → IsArrow S (source s.quiver a) (target s.quiver a) (letter_arrow a)
    letter_is_arrow a h = go (s.play a) refl (ltb a s.quiver.objects) refl
      where
        su : source s.quiver a < s.quiver.objects
        su = facts.is_quiver.source_is_object a h

        ta : target s.quiver a < s.quiver.objects
        ta = facts.is_quiver.target_is_object a h

        go : (b : Bool) → s.play a ≡ b → (c : Bool) → ltb a s.quiver.objects ≡ c → IsArrow S (source s.quiver a) (target s.quiver a)
            (cond b (word_arrow (source s.quiver a) (target s.quiver a) (a ∷ []))
            (cond c (S.identity a) (S.zero (source s.quiver a) (target s.quiver a))))
        go true e c f = word_is_arrow su ta (letter_good h e)
        go false e true f = subst (λ z. IsArrow S z (target s.quiver a) (S.identity a))
            (sym (facts.is_quiver.identity_source a (ltb-true a s.quiver.objects f)))
            (subst (λ z. IsArrow S a z (S.identity a)) (sym (facts.is_quiver.identity_target a (ltb-true a s.quiver.objects f)))
            (identity_arrow k s facts a (ltb-true a s.quiver.objects f)))
        go false e false f = zero_arrow k s facts _ _ su ta

    letter_identity : (v : ℕ) → v < s.quiver.objects → letter_arrow v ≡ S.identity v
    letter_identity v h = go (s.play v) refl
      where
        go : (b : Bool) → s.play v ≡ b → cond b (word_arrow (source s.quiver v) (target s.quiver v) (v ∷ []))
            (cond (ltb v s.quiver.objects) (S.identity v) (S.zero (source s.quiver v) (target s.quiver v))) ≡ S.identity v
        go true e = arrow_same _ _ (facts.is_quiver.identity_source v h) (facts.is_quiver.identity_target v h)
            (ap (λ b. reduced k s ((k.one, cond b (v ∷ []) []) ∷ [])) (sym (facts.play_marked v h e)))
        go false e = ap (λ b. cond b (S.identity v) (S.zero (source s.quiver v) (target s.quiver v))) (lt-ltb v s.quiver.objects h)

    pub normal_represents : Represents S s.quiver normal_representation
    normal_represents = record { objects = λ v h. h; arrows = letter_is_arrow; identities = letter_identity }

    look-natural : (n : ℕ) (a : NormalMap K) (w : Word) → look k (natural_multiple S n a).form w ≡ k.times (k.int (pos n)) (look k a.form w)
    look-natural zero a w = sym (ap (λ z. k.times z (look k a.form w)) (int_none k) ∙ none_times k (look k a.form w))
    look-natural (suc n) a w = look-collect k s.sorting (a.form ++ (natural_multiple S n a).form) w
        ∙ look-append k a.form (natural_multiple S n a).form w
        ∙ ap₂ k.plus (sym (k.one_times (look k a.form w))) (look-natural n a w) ∙ sym (plus_times k k.one (k.int (pos n)) (look k a.form w))
        ∙ ap (λ z. k.times z (look k a.form w))
        (ap (λ z. k.plus z (k.int (pos n))) (sym k.int_one) ∙ sym (k.int_plus (pos 1) (pos n)) ∙ ap k.int (omega (arith, ints)))

    look-multiple : (c : ℤ) (a : NormalMap K) (w : Word) → look k (multiple S c a).form w ≡ k.times (k.int c) (look k a.form w)
    look-multiple (pos n) a w = look-natural n a w
    look-multiple (negsuc n) a w = look-collect k s.sorting (scaled k (k.minus k.one) (natural_multiple S (suc n) a).form) w
        ∙ sum-scaled k (λ u. hit k u w) (k.minus k.one) (natural_multiple S (suc n) a).form ∙ minus_one k _ ∙ ap k.minus (look-natural (suc n) a w)
        ∙ sym (minus_times k (k.int (pos (suc n))) (look k a.form w))
        ∙ ap (λ z. k.times z (look k a.form w))
        (sym (minus_unique k (k.int (pos (suc n))) (k.int (negsuc n)) (sym (k.int_plus (pos (suc n)) (negsuc n)) ∙ ap k.int (omega (arith, ints)) ∙ int_none k)))

    natural_arrow : {x y : ℕ} (n : ℕ) {a : NormalMap K} → IsArrow S x y a → IsArrow S x y (natural_multiple S n a)
    natural_arrow zero {a} h =
        record {
          arrow = (zero_arrow k s facts a.source a.target h.arrow.source_is_object h.arrow.target_is_object).arrow;
          source =
              h.source;
          target = h.target;
        }
    natural_arrow {x} {y} (suc n) {a} h = add_arrow k s facts x y a (natural_multiple S n a) h (natural_arrow n h)

    multiple_arrow : {x y : ℕ} (c : ℤ) {a : NormalMap K} → IsArrow S x y a → IsArrow S x y (multiple S c a)
    multiple_arrow (pos n) h = natural_arrow n h
    multiple_arrow {x} {y} (negsuc n) {a} h = negate_arrow k s facts x y (natural_multiple S (suc n) a) (natural_arrow (suc n) h)

    pub normal_cancels : {n : ℕ} → 0 < n → Cancels S (pos n)
    normal_cancels {n} h = record {
      at = λ a m e. arrow_same a _ refl refl (form_unique k s.sorting a.form [] m.sorted tt
          (record { at = λ w. int_cancel k (look k a.form w) h (sym (look-natural n a w) ∙ ap (λ z. look k z.form w) e) }));
    }

    path_arrow : {u : ℕ} (v : ℕ) {a : ℕ} (w : Word) → Good k s u v (a ∷ w) → path_value S normal_representation a w ≡ word_arrow u v (a ∷ w)
    path_arrow {u} v {a} [] h = ap (λ b. cond b (word_arrow (source s.quiver a) (target s.quiver a) (a ∷ []))
        (cond (ltb a s.quiver.objects) (S.identity a) (S.zero (source s.quiver a) (target s.quiver a)))) h.plays.0
        ∙ arrow_same _ _ (sym (eqb-true u (source s.quiver a) first.rest)) first.target refl
      where
        first : Step s.quiver u v a []
        first = step s.quiver u v a [] h.leads
    path_arrow {u} v {a} (b ∷ w) h = ap₂ S.compose at_letter (path_arrow (source s.quiver a) w rest) ∙ arrow_same _ _ refl first.target
        (reduced_same k s facts (ranges k s facts u (target s.quiver a) _ (product_good)) (good_range k s facts u v _ h, tt)
        (cong_trans (product_left k s facts (reduced k s A) A (reduced k s W)
        (ranges k s facts u (source s.quiver a) _ (reduced_good k s facts u (source s.quiver a) W (rest, tt)))
        (reduced_like k s facts (good_range k s facts _ _ _ (letter_good first.letter h.plays.0), tt))) (cong_trans
        (product_right k s facts A (reduced k s W) W (good_range k s facts _ _ _ (letter_good first.letter h.plays.0), tt)
        (reduced_like k s facts (good_range k s facts _ _ _ rest, tt)))
        (cong_same (ap (λ z. (z, a ∷ b ∷ w) ∷ []) (k.one_times k.one))))))
      where
        A : Form K
        A = (k.one, a ∷ []) ∷ []

        W : Form K
        W = (k.one, b ∷ w) ∷ []

        first : Step s.quiver u v a (b ∷ w)
        first = step s.quiver u v a (b ∷ w) h.leads

        rest : Good k s u (source s.quiver a) (b ∷ w)
        rest = record { leads = first.rest; plays = h.plays.1; unit = λ q. absurd (cc) }

        at_letter : letter_arrow a ≡ word_arrow (source s.quiver a) (target s.quiver a) (a ∷ [])
        at_letter = ap (λ b. cond b (word_arrow (source s.quiver a) (target s.quiver a) (a ∷ []))
            (cond (ltb a s.quiver.objects) (S.identity a) (S.zero (source s.quiver a) (target s.quiver a)))) h.plays.0

        product_good : Each (Good k s u (target s.quiver a)) (product k (reduced k s A) (reduced k s W))
        product_good = compose_words k s facts u (source s.quiver a) (target s.quiver a) (reduced k s A) (reduced k s W)
            (reduced_good k s facts _ _ A (letter_good first.letter h.plays.0, tt)) (reduced_good k s facts _ _ W (rest, tt))

    -- the terms whose words are paths of the signature
    abbrev kept : ℕ → ℕ → List (ℤ × List ℕ) → List (ℤ × List ℕ)
    kept u v = filtered (is_path s.quiver u v)

    kept_typed : {u v : ℕ} {p : List (ℤ × List ℕ)} → IsTyped s.quiver u v p → (w : List ℕ) → coefficient_of (kept u v p) w ≡ coefficient_of p w
    kept_typed {u} {v} {p} typed w = coefficient_of-filtered (is_path s.quiver u v) p w
        ∙ go (is_path s.quiver u v w) refl (ℤ_discrete (coefficient_of p w) (pos 0))
      where
        go : (b : Bool) → is_path s.quiver u v w ≡ b → Dec (coefficient_of p w ≡ pos 0) → cond b (coefficient_of p w) (pos 0) ≡ coefficient_of p w
        go true e d = refl
        go false e (yes z) = sym z
        go false e (no n) = absurd (true≢false (sym (typed.at w n) ∙ e))

    path_good : (u v : ℕ) (w : Word) → is_path s.quiver u v w ≡ true → AllPlay s.play w → Good k s u v w
    path_good u v [] e a = absurd (cc)
    path_good u v (b ∷ w) e a = record { leads = e; plays = a; unit = λ q. absurd (cc) }

    word_value_is : (u v : ℕ) (none : NormalMap K) (w : Word) → is_path s.quiver u v w ≡ true → AllPlay s.play w
        → word_value S normal_representation none w ≡ word_arrow u v w
    word_value_is u v none [] e a = absurd (cc)
    word_value_is u v none (b ∷ w) e a = path_arrow v w (path_good u v (b ∷ w) e a)

    value_arrow : {u v : ℕ} (p : List (ℤ × List ℕ)) → u < s.quiver.objects → v < s.quiver.objects → TermsPlay p
        → IsArrow S u v (value_at S s.quiver normal_representation u v p) × Like k s
        (value_at S s.quiver normal_representation u v p).form (integral k (kept u v p))
    value_arrow {u} {v} [] hu hv a = (zero_arrow k s facts u v hu hv, cong_refl [])
    value_arrow {u} {v} (t ∷ p) hu hv a = go (is_path s.quiver u v t.1) refl (value_arrow p hu hv a.1)
      where
        R : NormalMap K
        R = value_at S s.quiver normal_representation u v p

        M : NormalMap K
        M = multiple S t.0 (word_value S normal_representation (S.zero u v) t.1)

        go : (b : Bool) → is_path s.quiver u v t.1 ≡ b → IsArrow S u v R × Like k s R.form (integral k (kept u v p))
            → IsArrow S u v (cond b (S.add M R) R) × Like k s (cond b (S.add M R) R).form (integral k (cond b (t ∷ kept u v p) (kept u v p)))
        go false e ih = ih
        go true e ih = (
          add_arrow k s facts u v M R m_arrow ih.0,
          cong_left (alike-collect k s.sorting (M.form ++ R.form)) (cong_append m_like ih.1),
        )
          where
            is : word_value S normal_representation (S.zero u v) t.1 ≡ word_arrow u v t.1
            is = word_value_is u v (S.zero u v) t.1 e a.0

            good : Good k s u v t.1
            good = path_good u v t.1 e a.0

            m_arrow : IsArrow S u v M
            m_arrow = multiple_arrow t.0 (subst (λ z. IsArrow S u v z) (sym is) (word_is_arrow hu hv good))

            W : Form K
            W = (k.one, t.1) ∷ []

            m_like : Like k s M.form ((k.times k.one (k.int t.0), t.1) ∷ [])
            m_like = cong_left (record {
              at = λ w. ap (λ z. look k (multiple S t.0 z).form w) is ∙ look-multiple t.0 (word_arrow u v t.1) w
                  ∙ sym (sum-scaled k (λ u. hit k u w) (k.int t.0) (reduced k s W));
            }) (cong_trans
                (cong_scaled (k.int t.0) (reduced_like k s facts (good_range k s facts u v t.1 good, tt)))
                (cong_same (ap (λ z. (z, t.1) ∷ []) (k.times_comm (k.int t.0) k.one))))

    integral_typed : {u v : ℕ} {p : List (ℤ × List ℕ)} → IsTyped s.quiver u v p → Alike k (integral k (kept u v p)) (integral k p)
    integral_typed {u} {v} {p} typed = record { at = λ w. look-lifted_one k (kept u v p) w ∙ ap k.int (kept_typed typed w) ∙ sym (look-lifted_one k p w) }

    value_like : {u v : ℕ} {p : List (ℤ × List ℕ)} → u < s.quiver.objects → v < s.quiver.objects → TermsPlay p → IsTyped s.quiver u v p
        → Like k s (value_at S s.quiver normal_representation u v p).form (integral k p)
    value_like {p} hu hv a typed = cong_trans (value_arrow p hu hv a).1 (alike _ _ (integral_typed typed))

    pub ideal_zero : (p : List (ℤ × List ℕ)) → TermsPlay p → Span (AnyRow s.order s.rules) (coefficient_of p)
        → HasValueZero S s.quiver normal_representation p
    ideal_zero p a h = record { at = λ u v hu hv typed. is_zero u v hu hv typed }
      where
        is_zero : (u v : ℕ) → u < s.quiver.objects → v < s.quiver.objects → IsTyped s.quiver u v p
            → HasValueZeroAt S s.quiver normal_representation u v p
        is_zero u v hu hv typed = arrow_same _ _ at.source at.target (same_form k s facts at.arrow.sorted tt at.arrow.irreducible tt
            (cong_trans (value_like hu hv a typed) (ideal_like k s.order s.rules p h)))
          where
            at : IsArrow S u v (value_at S s.quiver normal_representation u v p)
            at = (value_arrow p hu hv a).0

    pub zero_ideal : {p : List (ℤ × List ℕ)} {u v : ℕ} → u < s.quiver.objects → v < s.quiver.objects → TermsPlay p → IsTyped s.quiver u v p
        → HasValueZeroAt S s.quiver normal_representation u v p → Span (AnyRow s.order s.rules) (coefficient_of p)
    zero_ideal {p} hu hv a typed e = cong_none_span k s.order s.rules p (cong_trans (cong_sym (value_like hu hv a typed))
        (cong_same (ap (λ z. z.form) e)))
