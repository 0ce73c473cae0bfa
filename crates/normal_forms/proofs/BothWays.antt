-- The maps of a category in pairs, one each way: a category with an involution, and the values of words and polynomials in it.
use Rattle.normal_forms.proofs.Prelude.{◌≡◌, ℕ, zero, suc, ℤ, pos, negsuc, Bool, true, false, cond, List, [], ◌∷◌, ◌++◌, refl, sym, ap, ap₂, subst, ◌∙◌, true≢false, false_from_ne_true, Poly, Structure, IsArrow, PreadditiveLaws, InvolutionLaws, Quiver, IsQuiver, source, star, leads, is_path, Representation, Represents, StarRepresents, Cancels, natural_multiple, multiple, path_value, word_value, value_at, adjoint_word, adjoint_poly, step, path_value-append, word_value_is_arrow, leads-star, is_path-adjoint_word, is_path-from_adjoint_word, both_ways, exchange, both_ways_representation}

pub both : {A B : Type 0} {a a' : A} {b b' : B} → a ≡ a' → b ≡ b' → ◌≡◌ {A = A × B} (a, b) (a', b')
both p q = λ i. (p i, q i)

module _ {Object Arrow : Type 0} (s : Structure Object Arrow) where
  there : {x y : Object} {a : Arrow × Arrow} → IsArrow (both_ways s) x y a → IsArrow s x y a.0
  there p = record { arrow = p.arrow.0; source = p.source; target = p.target }

  back : (x y : Object) (a : Arrow × Arrow) → IsArrow (both_ways s) x y a → IsArrow s y x a.1
  back x y a p = record { arrow = p.arrow.1.arrow; source = p.arrow.1.source ∙ p.target; target = p.arrow.1.target ∙ p.source }

  join : {x y : Object} {a b : Arrow} → IsArrow s x y a → IsArrow s y x b → IsArrow (both_ways s) x y (a, b)
  join p q = record {
    arrow = (p.arrow, record { arrow = q.arrow; source = q.source ∙ sym p.target; target = q.target ∙ sym p.source });
    source = p.source;
    target = p.target;
  }

  pub both_ways_laws : PreadditiveLaws s → PreadditiveLaws (both_ways s)
  both_ways_laws laws = record {
    source_is_object = λ a p. laws.source_is_object a.0 p.0;
    target_is_object = λ a p. laws.target_is_object a.0 p.0;
    identity_is_arrow = λ x p. join (laws.identity_is_arrow x p) (laws.identity_is_arrow x p);
    zero_is_arrow = λ x y p q. join (laws.zero_is_arrow x y p q) (laws.zero_is_arrow y x q p);
    add_is_arrow = λ x y a b p q. join (laws.add_is_arrow x y a.0 b.0 (there p) (there q))
        (laws.add_is_arrow y x a.1 b.1 (back x y a p) (back x y b q));
    negate_is_arrow = λ x y a p. join (laws.negate_is_arrow x y a.0 (there p)) (laws.negate_is_arrow y x a.1 (back x y a p));
    compose_is_arrow = λ x y z a b p q. join
        (laws.compose_is_arrow x y z a.0 b.0 (there p) (there q)) (laws.compose_is_arrow z y x b.1 a.1 (back x y b q) (back y z a p));
    compose_assoc = λ w x y z a b c p q r. both (laws.compose_assoc w x y z a.0 b.0 c.0 (there p) (there q) (there r))
        (sym (laws.compose_assoc z y x w c.1 b.1 a.1 (back w x c r) (back x y b q) (back y z a p)));
    identity_left = λ x y a p. both (laws.identity_left x y a.0 (there p)) (laws.identity_right y x a.1 (back x y a p));
    identity_right = λ x y a p. both (laws.identity_right x y a.0 (there p)) (laws.identity_left y x a.1 (back x y a p));
    add_assoc = λ x y a b c p q r. both (laws.add_assoc x y a.0 b.0 c.0 (there p) (there q) (there r))
        (laws.add_assoc y x a.1 b.1 c.1 (back x y a p) (back x y b q) (back x y c r));
    add_comm = λ x y a b p q. both (laws.add_comm x y a.0 b.0 (there p) (there q)) (laws.add_comm y x a.1 b.1 (back x y a p) (back x y b q));
    add_zero = λ x y a p. both (laws.add_zero x y a.0 (there p)) (laws.add_zero y x a.1 (back x y a p));
    add_negate = λ x y a p. both (laws.add_negate x y a.0 (there p)) (laws.add_negate y x a.1 (back x y a p));
    compose_add_left = λ x y z a b c p q r. both (laws.compose_add_left x y z a.0 b.0 c.0 (there p) (there q) (there r))
        (laws.compose_add_right z y x c.1 a.1 b.1 (back x y c r) (back y z a p) (back y z b q));
    compose_add_right = λ x y z a b c p q r. both (laws.compose_add_right x y z a.0 b.0 c.0 (there p) (there q) (there r))
        (laws.compose_add_left z y x b.1 c.1 a.1 (back x y b q) (back x y c r) (back y z a p));
  }

  pub exchange_laws : InvolutionLaws (both_ways s) exchange
  exchange_laws = record {
    star_is_arrow = λ x y a p. join (back x y a p) (there p);
    star_star = λ a p. refl;
    star_compose = λ x y z a b p q. refl;
    star_add = λ x y a b p q. refl;
    star_identity = λ x p. refl;
  }

  -- multiples
  natural_there : (n : ℕ) (a : Arrow × Arrow) → (natural_multiple (both_ways s) n a).0 ≡ natural_multiple s n a.0
  natural_there zero a = refl
  natural_there (suc n) a = ap (s.add a.0) (natural_there n a)

  multiple_there : (d : ℤ) (a : Arrow × Arrow) → (multiple (both_ways s) d a).0 ≡ multiple s d a.0
  multiple_there (pos n) a = natural_there n a
  multiple_there (negsuc n) a = ap s.negate (natural_there (suc n) a)

  zero_back : (a : Arrow × Arrow) → (both_ways s).is_arrow a → s.zero (s.target a.0) (s.source a.0) ≡ s.zero (s.source a.1) (s.target a.1)
  zero_back a p = ap₂ s.zero (sym p.1.source) (sym p.1.target)

  natural_back : (n : ℕ) (a : Arrow × Arrow) → (both_ways s).is_arrow a → (natural_multiple (both_ways s) n a).1 ≡ natural_multiple s n a.1
  natural_back zero a p = zero_back a p
  natural_back (suc n) a p = ap (s.add a.1) (natural_back n a p)

  multiple_back : (d : ℤ) (a : Arrow × Arrow) → (both_ways s).is_arrow a → (multiple (both_ways s) d a).1 ≡ multiple s d a.1
  multiple_back (pos n) a p = natural_back n a p
  multiple_back (negsuc n) a p = ap s.negate (natural_back (suc n) a p)

  pub both_ways_cancels : {d : ℤ} → Cancels s d → Cancels (both_ways s) d
  both_ways_cancels {d} cancels = record {
    at = λ a p e. both (cancels.at a.0 p.0 (sym (multiple_there d a) ∙ ap (λ z. z.0) e))
        (cancels.at a.1 p.1.arrow (sym (multiple_back d a p) ∙ ap (λ z. z.1) e ∙ zero_back a p) ∙ sym (zero_back a p));
  }

-- representations
module _ {Object Arrow : Type 0} {s : Structure Object Arrow} (laws : PreadditiveLaws s) (q : Quiver) (quiver : IsQuiver q) (f : Representation Object Arrow) (rep : Represents s q f) where
  abbrev g : Representation Object (Arrow × Arrow)
  g = both_ways_representation q f

  pub both_ways_represents : StarRepresents (both_ways s) exchange q (both_ways_representation q f)
  both_ways_represents = record {
    represents = record {
      objects = rep.objects;
      arrows = λ a h. join s (rep.arrows a h)
          (subst (λ x. IsArrow s (f.object x) (f.object (source q a)) (f.arrow (star q a))) (quiver.star_source a h)
          (subst (λ y. IsArrow s (f.object (source q (star q a))) (f.object y) (f.arrow (star q a))) (quiver.star_target a h)
          (rep.arrows (star q a) (quiver.star_is_letter a h))));
      identities = λ v h. both (rep.identities v h) (ap f.arrow (quiver.identity_star v h) ∙ rep.identities v h);
    };
    adjoints = λ a h map declared. both refl (ap f.arrow (quiver.star_star a h));
  }

  -- the first map of a value is the value
  path_there : (a : ℕ) (w : List ℕ) → (path_value (both_ways s) g a w).0 ≡ path_value s f a w
  path_there a [] = refl
  path_there a (b ∷ w) = ap (s.compose (f.arrow a)) (path_there b w)

  word_there : (u v : ℕ) (w : List ℕ)
      → (word_value (both_ways s) g ((both_ways s).zero (f.object u) (f.object v)) w).0 ≡ word_value s f (s.zero (f.object u) (f.object v)) w
  word_there u v [] = refl
  word_there u v (a ∷ w) = path_there a w

  pub value_there : (u v : ℕ) (p : Poly) → (value_at (both_ways s) q g u v p).0 ≡ value_at s q f u v p
  value_there u v [] = refl
  value_there u v (t ∷ p) = go (is_path q u v t.1) (value_there u v p)
    where
      word : Arrow × Arrow
      word = word_value (both_ways s) g ((both_ways s).zero (f.object u) (f.object v)) t.1

      go : (b : Bool) → (value_at (both_ways s) q g u v p).0 ≡ value_at s q f u v p
          → (cond b ((both_ways s).add (multiple (both_ways s) t.0 word) (value_at (both_ways s) q g u v p)) (value_at (both_ways s) q g u v p)).0
          ≡ cond b (s.add (multiple s t.0 (word_value s f (s.zero (f.object u) (f.object v)) t.1)) (value_at s q f u v p)) (value_at s q f u v p)
      go true rest = ap₂ s.add (multiple_there s t.0 word ∙ ap (multiple s t.0) (word_there u v t.1)) rest
      go false rest = rest

  -- the second is the value of the adjoint
  word_value-push : (u k m b : ℕ) (w : List ℕ) (none : Arrow) → is_path q k m w ≡ true → leads q u k (b ∷ []) ≡ true
      → word_value s f none (w ++ (b ∷ [])) ≡ s.compose (word_value s f none w) (f.arrow b)
  word_value-push u k m b [] none e h = absurd (cc)
  word_value-push u k m b (a ∷ w) none e h = path_value-append laws q f rep u k m a b w [] e h

  word_back : (u v : ℕ) (w : List ℕ) (none : Arrow × Arrow) (none' : Arrow) → is_path q u v w ≡ true
      → (word_value (both_ways s) g none w).1 ≡ word_value s f none' (adjoint_word q w)
  word_back u v [] none none' e = absurd (cc)
  word_back u v (a ∷ []) none none' e = refl
  word_back u v (a ∷ b ∷ w) none none' e =
      let first = step q u v a (b ∷ w) e in
      ap (λ z. s.compose z (f.arrow (star q a))) (word_back u (source q a) (b ∷ w) none none' first.rest)
      ∙ sym (word_value-push v (source q a) u (star q a) (adjoint_word q (b ∷ w)) none' (is_path-adjoint_word q quiver u (source q a) (b ∷ w) first.rest)
      (leads-star q quiver v a first.letter first.target))

  path_back : (u v : ℕ) (w : List ℕ) → is_path q v u (adjoint_word q w) ≡ is_path q u v w
  path_back u v w = (elim (is_path q u v w) as (λ b. is_path q u v w ≡ b → is_path q v u (adjoint_word q w) ≡ is_path q u v w) [
    | true ↦ λ e. is_path-adjoint_word q quiver u v w e ∙ sym e
    | false ↦ λ e. false_from_ne_true _ (λ h. true≢false (sym (is_path-from_adjoint_word q quiver u v w h) ∙ e)) ∙ sym e
  ]) refl

  pub value_back : (u v : ℕ) (p : Poly) → (value_at (both_ways s) q g u v p).1 ≡ value_at s q f v u (adjoint_poly q p)
  value_back u v [] = refl
  value_back u v (t ∷ p) = go (is_path q u v t.1) refl (value_back u v p)
      ∙ sym (ap (λ b. cond b (s.add (multiple s t.0 other) (value_at s q f v u (adjoint_poly q p))) (value_at s q f v u (adjoint_poly q p)))
      (path_back u v t.1))
    where
      none : Arrow × Arrow
      none = (both_ways s).zero (f.object u) (f.object v)

      word : Arrow × Arrow
      word = word_value (both_ways s) g none t.1

      other : Arrow
      other = word_value s f (s.zero (f.object v) (f.object u)) (adjoint_word q t.1)

      go : (b : Bool) → is_path q u v t.1 ≡ b → (value_at (both_ways s) q g u v p).1 ≡ value_at s q f v u (adjoint_poly q p)
          → (cond b ((both_ways s).add (multiple (both_ways s) t.0 word) (value_at (both_ways s) q g u v p)) (value_at (both_ways s) q g u v p)).1
          ≡ cond b (s.add (multiple s t.0 other) (value_at s q f v u (adjoint_poly q p))) (value_at s q f v u (adjoint_poly q p))
      go true e rest = ap₂ s.add
          (multiple_back s t.0 word (word_value_is_arrow (both_ways_laws s laws) q g both_ways_represents.represents u v t.1 none e).arrow
          ∙ ap (multiple s t.0) (word_back u v t.1 none (s.zero (f.object v) (f.object u)) e)) rest
      go false e rest = rest
