-- A category that is written in another way keeps its laws, its representations and their values.
use Rattle.std.proofs.Common.{◌≡◌, ℕ, zero, suc, ℤ, pos, negsuc, refl, sym, ap, ap₂, subst, ◌∙◌, Bool, true, false, cond, List, [], ◌∷◌}
use Rattle.definitions.specs.Category.{Structure, IsArrow, PreadditiveLaws}
use Rattle.definitions.specs.Poly.{Poly}
use Rattle.definitions.specs.Quiver.{Quiver, source, target, is_path}
use Rattle.definitions.specs.Representation.{Representation, Represents, Cancels, natural_multiple, multiple, path_value, word_value, value_at}
use Rattle.definitions.specs.Soundness.{HasValueZero, HasValueZeroAt}

-- The laws of a structure hold where they follow from a premise that each of its objects and arrows gives.
pub laws_from_premise : {Object Arrow : Type 0} {c : Structure Object Arrow} (P : Type 0) → ((x : Object) → c.is_object x → P)
    → ((a : Arrow) → c.is_arrow a → P) → (P → PreadditiveLaws c) → PreadditiveLaws c
laws_from_premise P object arrow laws = record {
  source_is_object = λ a h. (laws (arrow a h)).source_is_object a h;
  target_is_object = λ a h. (laws (arrow a h)).target_is_object a h;
  identity_is_arrow = λ x h. (laws (object x h)).identity_is_arrow x h;
  zero_is_arrow = λ x y h j. (laws (object x h)).zero_is_arrow x y h j;
  add_is_arrow = λ x y a b h j. (laws (arrow a h.arrow)).add_is_arrow x y a b h j;
  negate_is_arrow = λ x y a h. (laws (arrow a h.arrow)).negate_is_arrow x y a h;
  compose_is_arrow = λ x y z a b h j. (laws (arrow a h.arrow)).compose_is_arrow x y z a b h j;
  compose_assoc = λ w x y z a b d h j m. (laws (arrow a h.arrow)).compose_assoc w x y z a b d h j m;
  identity_left = λ x y a h. (laws (arrow a h.arrow)).identity_left x y a h;
  identity_right = λ x y a h. (laws (arrow a h.arrow)).identity_right x y a h;
  add_assoc = λ x y a b d h j m. (laws (arrow a h.arrow)).add_assoc x y a b d h j m;
  add_comm = λ x y a b h j. (laws (arrow a h.arrow)).add_comm x y a b h j;
  add_zero = λ x y a h. (laws (arrow a h.arrow)).add_zero x y a h;
  add_negate = λ x y a h. (laws (arrow a h.arrow)).add_negate x y a h;
  compose_add_left = λ x y z a b d h j m. (laws (arrow a h.arrow)).compose_add_left x y z a b d h j m;
  compose_add_right = λ x y z a b d h j m. (laws (arrow a h.arrow)).compose_add_right x y z a b d h j m;
}

-- A structure with the same objects, whose arrows are the images of those of the first, each of one: its operations are those of the first.
pub record IsImage {Object A B : Type 0} (s : Structure Object A) (c : Structure Object B) (up : A → B) (down : B → A) : Type 0 where
  pub back : (a : A) → down (up a) ≡ a
  pub object : (x : Object) → c.is_object x → s.is_object x
  pub image_object : (x : Object) → s.is_object x → c.is_object x
  pub arrow : (b : B) → c.is_arrow b → s.is_arrow (down b) × (up (down b) ≡ b)
  pub image_arrow : (a : A) → s.is_arrow a → c.is_arrow (up a)
  pub source : (a : A) → c.source (up a) ≡ s.source a
  pub target : (a : A) → c.target (up a) ≡ s.target a
  pub identity : (x : Object) → c.identity x ≡ up (s.identity x)
  pub zero : (x y : Object) → c.zero x y ≡ up (s.zero x y)
  pub add : (a b : A) → c.add (up a) (up b) ≡ up (s.add a b)
  pub negate : (a : A) → c.negate (up a) ≡ up (s.negate a)
  pub compose : (a b : A) → c.compose (up a) (up b) ≡ up (s.compose a b)

module _ {Object A B : Type 0} (s : Structure Object A) (c : Structure Object B) (up : A → B) (down : B → A) (i : IsImage s c up down) where
  -- an arrow is the image of one between the same objects
  record Under (x y : Object) (b : B) : Type 0 where
    arrow : A
    is_arrow : IsArrow s x y arrow
    same : up arrow ≡ b

  under : {x y : Object} {b : B} → IsArrow c x y b → Under x y b
  under {b} h =
      let below = i.arrow b h.arrow in
      record {
        arrow = down b;
        is_arrow = record {
          arrow = below.0;
          source = sym (i.source (down b)) ∙ ap c.source below.1 ∙ h.source;
          target = sym (i.target (down b))
              ∙ ap c.target below.1 ∙ h.target;
        };
        same = below.1;
      }

  pub image : {x y : Object} {a : A} → IsArrow s x y a → IsArrow c x y (up a)
  image {a} h = record { arrow = i.image_arrow a h.arrow; source = i.source a ∙ h.source; target = i.target a ∙ h.target }

  -- what holds of images holds of arrows
  on_arrow : (P : B → Type 0) {x y : Object} {b : B} → IsArrow c x y b → ((a : A) → IsArrow s x y a → P (up a)) → P b
  on_arrow P h each = let u = under h in subst P u.same (each u.arrow u.is_arrow)

  on_arrows : (P : B → B → Type 0) {x y u v : Object} {b d : B} → IsArrow c x y b → IsArrow c u v d
      → ((a e : A) → IsArrow s x y a → IsArrow s u v e → P (up a) (up e)) → P b d
  on_arrows P {d} h j each = on_arrow (λ b. P b d) h (λ a is. on_arrow (P (up a)) j (λ e too. each a e is too))

  on_three : (P : B → B → B → Type 0) {x y u v z w : Object} {b d f : B} → IsArrow c x y b → IsArrow c u v d → IsArrow c z w f
      → ((a e g : A) → IsArrow s x y a → IsArrow s u v e → IsArrow s z w g → P (up a) (up e) (up g)) → P b d f
  on_three P {f} h j m each =
      on_arrows (λ b d. P b d f) h j (λ a e is too. on_arrow (P (up a) (up e)) m (λ g third. each a e g is too third))

  pub image_laws : PreadditiveLaws s → PreadditiveLaws c
  image_laws laws = record {
    source_is_object = λ b h. let u = i.arrow b h in i.image_object (c.source b)
        (subst s.is_object (sym (i.source (down b)) ∙ ap c.source u.1) (laws.source_is_object (down b) u.0));
    target_is_object = λ b h. let u = i.arrow b h in i.image_object (c.target b)
        (subst s.is_object (sym (i.target (down b)) ∙ ap c.target u.1) (laws.target_is_object (down b) u.0));
    identity_is_arrow = λ x h. subst (IsArrow c x x) (sym (i.identity x)) (image (laws.identity_is_arrow x (i.object x h)));
    zero_is_arrow = λ x y h j. subst (IsArrow c x y) (sym (i.zero x y)) (image (laws.zero_is_arrow x y (i.object x h) (i.object y j)));
    add_is_arrow = λ x y a b h j. on_arrows (λ a b. IsArrow c x y (c.add a b)) h j
        (λ a b h j. subst (IsArrow c x y) (sym (i.add a b)) (image (laws.add_is_arrow x y a b h j)));
    negate_is_arrow = λ x y a h. on_arrow (λ a. IsArrow c x y (c.negate a)) h
        (λ a h. subst (IsArrow c x y) (sym (i.negate a)) (image (laws.negate_is_arrow x y a h)));
    compose_is_arrow = λ x y z a b h j. on_arrows (λ a b. IsArrow c x z (c.compose a b)) h j
        (λ a b h j. subst (IsArrow c x z) (sym (i.compose a b)) (image (laws.compose_is_arrow x y z a b h j)));
    compose_assoc =
        λ w x y z a b d h j m. on_three (λ a b d. c.compose (c.compose a b) d ≡ c.compose a (c.compose b d)) h j m (λ a b d h j m.
        ap (λ e. c.compose e (up d)) (i.compose a b) ∙ i.compose (s.compose a b) d ∙ ap up (laws.compose_assoc w x y z a b d h j m)
        ∙ sym (ap (c.compose (up a)) (i.compose b d) ∙ i.compose a (s.compose b d)));
    identity_left = λ x y a h. on_arrow (λ a. c.compose (c.identity y) a ≡ a) h
        (λ a h. ap (λ e. c.compose e (up a)) (i.identity y) ∙ i.compose (s.identity y) a ∙ ap up (laws.identity_left x y a h));
    identity_right = λ x y a h. on_arrow (λ a. c.compose a (c.identity x) ≡ a) h
        (λ a h. ap (c.compose (up a)) (i.identity x) ∙ i.compose a (s.identity x) ∙ ap up (laws.identity_right x y a h));
    add_assoc = λ x y a b d h j m. on_three (λ a b d. c.add (c.add a b) d ≡ c.add a (c.add b d)) h j m (λ a b d h j m.
        ap (λ e. c.add e (up d)) (i.add a b) ∙ i.add (s.add a b) d ∙ ap up (laws.add_assoc x y a b d h j m)
        ∙ sym (ap (c.add (up a)) (i.add b d) ∙ i.add a (s.add b d)));
    add_comm = λ x y a b h j. on_arrows (λ a b. c.add a b ≡ c.add b a) h j
        (λ a b h j. i.add a b ∙ ap up (laws.add_comm x y a b h j) ∙ sym (i.add b a));
    add_zero = λ x y a h. on_arrow (λ a. c.add a (c.zero x y) ≡ a) h
        (λ a h. ap (c.add (up a)) (i.zero x y) ∙ i.add a (s.zero x y) ∙ ap up (laws.add_zero x y a h));
    add_negate = λ x y a h. on_arrow (λ a. c.add a (c.negate a) ≡ c.zero x y) h
        (λ a h. ap (c.add (up a)) (i.negate a) ∙ i.add a (s.negate a) ∙ ap up (laws.add_negate x y a h) ∙ sym (i.zero x y));
    compose_add_left =
        λ x y z a b d h j m. on_three (λ a b d. c.compose (c.add a b) d ≡ c.add (c.compose a d) (c.compose b d)) h j m (λ a b d h j m.
        ap (λ e. c.compose e (up d)) (i.add a b) ∙ i.compose (s.add a b) d ∙ ap up (laws.compose_add_left x y z a b d h j m)
        ∙ sym (ap₂ c.add (i.compose a d) (i.compose b d) ∙ i.add (s.compose a d) (s.compose b d)));
    compose_add_right =
        λ x y z a b d h j m. on_three (λ a b d. c.compose a (c.add b d) ≡ c.add (c.compose a b) (c.compose a d)) h j m (λ a b d h j m.
        ap (c.compose (up a)) (i.add b d) ∙ i.compose a (s.add b d) ∙ ap up (laws.compose_add_right x y z a b d h j m)
        ∙ sym (ap₂ c.add (i.compose a b) (i.compose a d) ∙ i.add (s.compose a b) (s.compose a d)));
  }

  -- two arrows with one image are the same
  same_under : (a b : A) → up a ≡ up b → a ≡ b
  same_under a b e = sym (i.back a) ∙ ap down e ∙ i.back b

  zero_image : (a : A) → c.zero (c.source (up a)) (c.target (up a)) ≡ up (s.zero (s.source a) (s.target a))
  zero_image a = ap₂ c.zero (i.source a) (i.target a) ∙ i.zero (s.source a) (s.target a)

  natural_image : (n : ℕ) (a : A) → natural_multiple c n (up a) ≡ up (natural_multiple s n a)
  natural_image zero a = zero_image a
  natural_image (suc n) a = ap (c.add (up a)) (natural_image n a) ∙ i.add a (natural_multiple s n a)

  multiple_image : (n : ℤ) (a : A) → multiple c n (up a) ≡ up (multiple s n a)
  multiple_image (pos n) a = natural_image n a
  multiple_image (negsuc n) a = ap c.negate (natural_image (suc n) a) ∙ i.negate (natural_multiple s (suc n) a)

  pub image_cancels : {d : ℤ} → Cancels s d → Cancels c d
  image_cancels {d} cancels = record {
    at = λ b h. on_arrow (λ b. multiple c d b ≡ c.zero (c.source b) (c.target b) → b ≡ c.zero (c.source b) (c.target b)) (record { arrow = h; source = refl; target = refl })
        (λ a is e. ap up (cancels.at a is.arrow (same_under (multiple s d a) (s.zero (s.source a) (s.target a)) (sym (multiple_image d a) ∙ e ∙ zero_image a)))
        ∙ sym (zero_image a));
  }

  -- representations
  module _ (f : Representation Object A) (g : Representation Object B) (objects : (v : ℕ) → f.object v ≡ g.object v)
      (arrows : (a : ℕ) → g.arrow a ≡ up (f.arrow a)) where
    pub image_represents : {q : Quiver} → Represents s q f → Represents c q g
    image_represents {q} r = record {
      objects = λ v h. subst c.is_object (objects v) (i.image_object (f.object v) (r.objects v h));
      arrows = λ a h. subst (λ x. IsArrow c x (g.object (target q a)) (g.arrow a)) (objects (source q a))
          (subst (λ y. IsArrow c (f.object (source q a)) y (g.arrow a)) (objects (target q a))
          (subst (IsArrow c (f.object (source q a)) (f.object (target q a))) (sym (arrows a)) (image (r.arrows a h))));
      identities = λ v h. arrows v ∙ ap up (r.identities v h) ∙ sym (i.identity (f.object v)) ∙ ap c.identity (objects v);
    }

    path_image : (a : ℕ) (w : List ℕ) → path_value c g a w ≡ up (path_value s f a w)
    path_image a [] = arrows a
    path_image a (b ∷ w) = ap₂ c.compose (arrows a) (path_image b w) ∙ i.compose (f.arrow a) (path_value s f b w)

    zero_between : (u v : ℕ) → c.zero (g.object u) (g.object v) ≡ up (s.zero (f.object u) (f.object v))
    zero_between u v = sym (ap₂ c.zero (objects u) (objects v)) ∙ i.zero (f.object u) (f.object v)

    word_image : (u v : ℕ) (w : List ℕ) → word_value c g (c.zero (g.object u) (g.object v)) w ≡ up (word_value s f (s.zero (f.object u) (f.object v)) w)
    word_image u v [] = zero_between u v
    word_image u v (a ∷ w) = path_image a w

    value_image : (q : Quiver) (u v : ℕ) (p : Poly) → value_at c q g u v p ≡ up (value_at s q f u v p)
    value_image q u v [] = zero_between u v
    value_image q u v (t ∷ p) = go (is_path q u v t.1) (value_image q u v p)
      where
        word : A
        word = word_value s f (s.zero (f.object u) (f.object v)) t.1

        go : (b : Bool) → value_at c q g u v p ≡ up (value_at s q f u v p)
            → cond b (c.add (multiple c t.0 (word_value c g (c.zero (g.object u) (g.object v)) t.1)) (value_at c q g u v p)) (value_at c q g u v p)
            ≡ up (cond b (s.add (multiple s t.0 word) (value_at s q f u v p)) (value_at s q f u v p))
        go false rest = rest
        go true rest = ap₂ c.add (ap (multiple c t.0) (word_image u v t.1) ∙ multiple_image t.0 word) rest
            ∙ i.add (multiple s t.0 word) (value_at s q f u v p)

    pub zero_at_image : (q : Quiver) (u v : ℕ) (p : Poly) → HasValueZeroAt s q f u v p → HasValueZeroAt c q g u v p
    zero_at_image q u v p e = value_image q u v p ∙ ap up e ∙ sym (zero_between u v)

    pub image_value_zero : {q : Quiver} {p : Poly} → HasValueZero s q f p → HasValueZero c q g p
    image_value_zero {q} {p} none = record { at = λ u v hu hv typed. zero_at_image q u v p (none.at u v hu hv typed) }

    pub zero_at_under : (q : Quiver) (u v : ℕ) (p : Poly) → HasValueZeroAt c q g u v p → HasValueZeroAt s q f u v p
    zero_at_under q u v p e = same_under (value_at s q f u v p) (s.zero (f.object u) (f.object v)) (sym (value_image q u v p) ∙ e ∙ zero_between u v)
