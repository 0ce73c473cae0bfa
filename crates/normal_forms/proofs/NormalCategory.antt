-- The category of typed normal forms.
use Rattle.std.proofs.Common.{◌≡◌, ℕ, ◌<◌, refl, sym, ap, ap₂, subst, ◌∙◌, Bool, true, false, cond, List, [], ◌∷◌, ◌++◌, append_assoc, append-nil, true≢false, eqb, ltb, eq-eqb, eqb-true, lt-ltb, ◌&&◌}
use Rattle.std.proofs.lemmas.Bool.{and_from}
use Rattle.std.specs.List.{AllByRecursion}
use Rattle.std.specs.Prelude.{IsTrue}
use Rattle.definitions.proofs.Paths.{leads-append, fits_from_path, path_from_fits, Step, step}
use Rattle.definitions.proofs.UnitSound.{all-append}
use Rattle.definitions.specs.Category.{Structure, IsArrow, PreadditiveLaws}
use Rattle.definitions.specs.Poly.{Word, Term}
use Rattle.definitions.specs.Quiver.{Quiver, IsQuiver, letters, source, target, leads, is_path}
use Rattle.word_orders.specs.Orders.{Order}
use Rattle.confluence.proofs.Meets.{Rules, Resolved}
use Rattle.confluence.proofs.Resolve.{everything}
use Rattle.confluence.proofs.TermWords.{AllWords}
use Rattle.normal_forms.specs.Forms.{Form}
use Rattle.normal_forms.specs.Maps.{NormalMap, LeadsInPlay, structure_of}
use Rattle.normal_forms.proofs.Field.{Field, numbers_of}
use Rattle.confluence.proofs.Meets.{Parted as Rule}
use Rattle.normal_forms.proofs.FieldLaws.{times_one, minus_one}
use Rattle.normal_forms.proofs.Forms.{all_front, all_back, Each, each-append, each-weaker, each-scaled, hit, look, scaled, sum-append, sum-scaled, Alike, alike-append}
use Rattle.normal_forms.proofs.Collect.{Sorting, IsForm, collect, each-collect, look-collect, alike-collect, form-collect, form_unique}
use Rattle.normal_forms.proofs.Congruence.{alike_refl, alike_sym, alike_trans, alike_same, alike-swap, Cong, alike, cong_refl, cong_same, cong_left, cong_trans, cong_append, cong_scaled, cong_sym, Irreducible, irreducible_unique}
use Rattle.normal_forms.proofs.Normal.{Normal, normal_irreducible, normal_each, Kept, normal_cong}
use Rattle.normal_forms.proofs.Products.{product, product-append, product-product, product-none, each-product, cong_product_left, cong_product_right, cong_behind, cong_before, front, behind, product-behind}

abbrev pub AllPlay : (ℕ → Bool) → Word → Type 0
AllPlay play w = AllByRecursion (λ a. IsTrue (play a)) w

-- The words of a rule are paths of one signature, with letters in play.
pub record IsTypedRule (q : Quiver) (play : ℕ → Bool) (r : Rule) : Type 0 where
  pub source : ℕ
  pub target : ℕ
  pub lead_path : is_path q source target r.lead ≡ true
  pub lead_plays : AllPlay play r.lead
  pub tail : AllWords (λ w. (is_path q source target w ≡ true) × AllPlay play w) r.tail

-- What the category is made of: an order, rules, normal forms, an order for listing words, a quiver, and its letters in play and marked objects.
pub record Ground {K : Type 0} (k : Field K) : Type 1 where
  pub order : Order
  pub rules : Rules order
  pub normal : Form K → Form K
  pub sorting : Sorting
  pub quiver : Quiver
  pub play : ℕ → Bool
  pub marked : ℕ → Bool

-- The premises of the laws: the rules are resolved, typed and in play, and among their consequences are the relations of the identities.
pub record Facts {K : Type 0} (k : Field K) (s : Ground k) : Type 0 where
  pub normal_is : (p : Form K) → Each s.order.Range p → Normal k s.order s.rules p (s.normal p)
  pub resolved : Resolved s.order s.rules (everything s.order)
  pub join : (u v : Word) → s.order.Range u → s.order.Range v → s.order.Range (u ++ v)
  pub is_quiver : IsQuiver s.quiver
  pub play_range : (w : Word) → AllPlay s.play w → s.order.Range w
  pub typed : (i : ℕ) → s.rules.Has i → IsTypedRule s.quiver s.play (s.rules.rule i)
  pub marked_play : (v : ℕ) → v < s.quiver.objects → s.marked v ≡ true → s.play v ≡ true
  pub play_marked : (v : ℕ) → v < s.quiver.objects → s.play v ≡ true → s.marked v ≡ true
  pub unit_left : (v a : ℕ) → v < s.quiver.objects → s.marked v ≡ true → a < letters s.quiver → s.play a ≡ true → target s.quiver a ≡ v
      → Cong k s.order s.rules ((k.one, v ∷ a ∷ []) ∷ []) ((k.one, a ∷ []) ∷ [])
  pub unit_right : (v a : ℕ) → v < s.quiver.objects → s.marked v ≡ true → a < letters s.quiver → s.play a ≡ true → source s.quiver a ≡ v
      → Cong k s.order s.rules ((k.one, a ∷ v ∷ []) ∷ []) ((k.one, a ∷ []) ∷ [])

pub one_letter : (q : Quiver) {u v a : ℕ} → a < letters q → target q a ≡ v → source q a ≡ u → leads q u v (a ∷ []) ≡ true
one_letter q {u} {v} {a} h e f = and_from (ltb a (letters q)) (eqb (target q a) v && eqb u (source q a)) (lt-ltb a (letters q) h)
    (and_from (eqb (target q a) v) (eqb u (source q a)) (eq-eqb (target q a) v e) (eq-eqb u (source q a) (sym f)))

pub arrow_same : {K : Type 0} (a b : NormalMap K) → a.source ≡ b.source → a.target ≡ b.target → a.form ≡ b.form → a ≡ b
arrow_same a b e f h = λ i. record { source = e i; target = f i; form = h i }

module _ {K : Type 0} (k : Field K) (s : Ground k) where
  abbrev pub Good : ℕ → ℕ → Word → Type 0
  Good = LeadsInPlay s.quiver s.play s.marked

  abbrev pub Irr : Word → Type 0
  Irr = Irreducible k s.order s.rules

  abbrev pub Like : Form K → Form K → Type 0
  Like = Cong k s.order s.rules

  abbrev pub InRange : Word → Type 0
  InRange = s.order.Range

  -- the normal form, collected
  abbrev pub reduced : Form K → Form K
  reduced p = collect k s.sorting (s.normal p)

  abbrev pub Nf : Form K → Form K
  Nf p = s.normal p

  -- What a map is.
  pub record IsMap (a : NormalMap K) : Type 0 where
    pub source_is_object : a.source < s.quiver.objects
    pub target_is_object : a.target < s.quiver.objects
    pub sorted : IsForm k s.sorting a.form
    pub irreducible : Each Irr a.form
    pub words : Each (Good a.source a.target) a.form

  abbrev pub unit_word : ℕ → Word
  unit_word v = cond (s.marked v) (v ∷ []) []

  abbrev pub sum_form : Form K → Form K → Form K
  sum_form p q = collect k s.sorting (p ++ q)

  abbrev pub negative : Form K → Form K
  negative p = collect k s.sorting (scaled k (k.minus k.one) p)

  abbrev pub composite : Form K → Form K → Form K
  composite p q = reduced (product k p q)

  -- The category of normal forms.
  abbrev pub normal_structure : Structure ℕ (NormalMap K)
  normal_structure = structure_of (numbers_of k) s.sorting.below s.normal s.marked (λ v. v < s.quiver.objects) IsMap

  abbrev Played : ℕ → Type 0
  Played a = IsTrue (s.play a)

  module _ (facts : Facts k s) where
    pub good_range : (u v : ℕ) (w : Word) → Good u v w → InRange w
    good_range u v w h = facts.play_range w h.plays

    pub empty_range : InRange []
    empty_range = facts.play_range [] tt

    back_empty : (u v : Word) → u ++ v ≡ [] → v ≡ []
    back_empty [] v e = e
    back_empty (a ∷ u) v e = absurd (cc)

    pub good_join : (u m v : ℕ) (x y : Word) → Good m v x → Good u m y → Good u v (x ++ y)
    good_join u m v x y a b =
        record {
          leads = leads-append s.quiver u m v x y a.leads b.leads;
          plays =
              all-append Played x y a.plays b.plays;
          unit = λ e. b.unit (back_empty x y e);
        }

    pub path_leads : (u v : ℕ) (w : Word) → is_path s.quiver u v w ≡ true → leads s.quiver u v w ≡ true
    path_leads u v [] e = absurd (cc)
    path_leads u v (a ∷ w) e = e

    leads_path : (u v : ℕ) (l w r : Word) (x y : ℕ) → is_path s.quiver x y w ≡ true → leads s.quiver u v (l ++ (w ++ r)) ≡ true
        → is_path s.quiver u v (l ++ (w ++ r)) ≡ true
    leads_path u v [] [] r x y h e = absurd (cc)
    leads_path u v [] (a ∷ w) r x y h e = e
    leads_path u v (b ∷ l) w r x y h e = e

    path_some : (x y : ℕ) (l w r : Word) → is_path s.quiver x y w ≡ true → l ++ (w ++ r) ≡ [] → ⊥
    path_some x y l [] r h e = absurd (cc)
    path_some x y l (a ∷ w) r h e = cc (back_empty l ((a ∷ w) ++ r) e)

    pub good_kept : (u v : ℕ) → Kept k s.order s.rules (Good u v)
    good_kept u v i l r h a = go (s.rules.rule i).tail t.tail
      where
        t : IsTypedRule s.quiver s.play (s.rules.rule i)
        t = facts.typed i h

        go : (p : List Term) → AllWords (λ w. (is_path s.quiver t.source t.target w ≡ true) × AllPlay s.play w) p
            → AllWords (λ w. Good u v (l ++ (w ++ r))) p
        go [] e = tt
        go (x ∷ p) e = (
          record {
            leads = path_leads u v _ (path_from_fits s.quiver u v t.source t.target l x.1 r
                (fits_from_path s.quiver u v t.source t.target l (s.rules.rule i).lead r t.lead_path
                (leads_path u v l (s.rules.rule i).lead r t.source t.target t.lead_path a.leads)) e.0.0);
            plays = all-append Played l (x.1 ++ r) (all_front Played l _ a.plays)
                (all-append Played x.1 r e.0.1 (all_back Played (s.rules.rule i).lead r (all_back Played l _ a.plays)));
            unit = λ q. absurd (path_some t.source t.target l x.1 r e.0.0 q);
          },
          go p e.1,
        )

    pub ranges : (u v : ℕ) (p : Form K) → Each (Good u v) p → Each InRange p
    ranges u v p a = each-weaker (Good u v) InRange (good_range u v) p a

    pub reduced_like : {p : Form K} → Each InRange p → Like (reduced p) p
    reduced_like {p} a = cong_left (alike-collect k s.sorting _) (cong_sym (normal_cong k s.order s.rules (facts.normal_is p a) a))

    pub reduced_irreducible : (p : Form K) → Each InRange p → Each Irr (reduced p)
    reduced_irreducible p a = each-collect k s.sorting Irr _ (normal_irreducible k s.order s.rules (facts.normal_is p a))

    pub reduced_good : (u v : ℕ) (p : Form K) → Each (Good u v) p → Each (Good u v) (reduced p)
    reduced_good u v p a = each-collect k s.sorting (Good u v) _
        (normal_each k s.order s.rules (Good u v) (good_kept u v) (facts.normal_is p (ranges u v p a)) a)

    pub same_form : {p q : Form K} → IsForm k s.sorting p → IsForm k s.sorting q → Each Irr p → Each Irr q → Like p q → p ≡ q
    same_form {p} {q} f g i j e = form_unique k s.sorting p q f g (irreducible_unique k s.order s.rules facts.resolved i j e)

    pub words_at : (x y : ℕ) (a : NormalMap K) → IsArrow normal_structure x y a → Each (Good x y) a.form
    words_at x y a h = subst (λ z. Each (Good z y) a.form) h.source (subst (λ z. Each (Good a.source z) a.form) h.target h.arrow.words)

    pub rebuild : {x y : ℕ} (a : NormalMap K)
        → a.source ≡ x → a.target ≡ y → x < s.quiver.objects → y < s.quiver.objects → IsForm k s.sorting a.form
        → Each Irr a.form → Each (Good x y) a.form → IsArrow normal_structure x y a
    rebuild {x} a e f hx hy h i w = record {
      arrow = record {
        source_is_object = subst (λ z. z < s.quiver.objects) (sym e) hx;
        target_is_object = subst (λ z. z < s.quiver.objects) (sym f) hy;
        sorted = h;
        irreducible = i;
        words = subst (λ z. Each (Good z a.target) a.form) (sym e) (subst (λ z. Each (Good x z) a.form) (sym f) w);
      };
      source = e;
      target = f;
    }

    source_object : {x y : ℕ} {a : NormalMap K} → IsArrow normal_structure x y a → x < s.quiver.objects
    source_object h = subst (λ z. z < s.quiver.objects) h.source h.arrow.source_is_object

    target_object : {x y : ℕ} {a : NormalMap K} → IsArrow normal_structure x y a → y < s.quiver.objects
    target_object h = subst (λ z. z < s.quiver.objects) h.target h.arrow.target_is_object

    unit_good : {v : ℕ} → v < s.quiver.objects → Good v v (unit_word v)
    unit_good {v} h = go (s.marked v) refl
      where
        go : (b : Bool) → s.marked v ≡ b → Good v v (cond b (v ∷ []) [])
        go false e = record { leads = eq-eqb v v refl; plays = tt; unit = λ _. e }
        go true e = record { leads = identity_leads; plays = (facts.marked_play v h e, tt); unit = λ q. absurd (cc) }
          where
            identity_leads : leads s.quiver v v (v ∷ []) ≡ true
            identity_leads = one_letter s.quiver (facts.is_quiver.identity_is_letter v h) (facts.is_quiver.identity_target v h)
                (facts.is_quiver.identity_source v h)

    pub compose_words : (x y z : ℕ) (p q : Form K) → Each (Good y z) p → Each (Good x y) q → Each (Good x z) (product k p q)
    compose_words x y z p q a b = each-product k (Good y z) (Good x y) (Good x z) (λ u v p q. good_join x y z u v p q) p q a b

    compose_good : {x y z : ℕ} {a b : NormalMap K} → IsArrow normal_structure y z a → IsArrow normal_structure x y b
        → Each (Good x z) (product k a.form b.form)
    compose_good {x} {y} {z} {a} {b} ha hb = each-product k (Good y z) (Good x y) (Good x z) (λ u v p q. good_join x y z u v p q) a.form b.form
        (words_at y z a ha) (words_at x y b hb)

    pub compose_arrow : (x y z : ℕ) (a b : NormalMap K) → IsArrow normal_structure y z a → IsArrow normal_structure x y b
        → IsArrow normal_structure x z (normal_structure.compose a b)
    compose_arrow x y z a b ha hb = rebuild (normal_structure.compose a b) hb.source ha.target (source_object hb) (target_object ha)
        (form-collect k s.sorting (Nf (product k a.form b.form))) (reduced_irreducible (product k a.form b.form) (ranges x z _ good))
        (reduced_good x z (product k a.form b.form) good)
      where
        good : Each (Good x z) (product k a.form b.form)
        good = compose_good ha hb

    pub identity_arrow : (x : ℕ) → x < s.quiver.objects → IsArrow normal_structure x x (normal_structure.identity x)
    identity_arrow x h = rebuild (normal_structure.identity x) refl refl h h (form-collect k s.sorting (Nf ((k.one, unit_word x) ∷ [])))
        (reduced_irreducible ((k.one, unit_word x) ∷ []) (good_range x x _ (unit_good h), tt))
        (reduced_good x x ((k.one, unit_word x) ∷ []) (unit_good h, tt))

    pub zero_arrow : (x y : ℕ) → x < s.quiver.objects → y < s.quiver.objects → IsArrow normal_structure x y (normal_structure.zero x y)
    zero_arrow x y h i = rebuild (normal_structure.zero x y) refl refl h i tt tt tt

    pub add_arrow : (x y : ℕ) (a b : NormalMap K) → IsArrow normal_structure x y a → IsArrow normal_structure x y b
        → IsArrow normal_structure x y (normal_structure.add a b)
    add_arrow x y a b ha hb = rebuild (normal_structure.add a b) ha.source ha.target (source_object ha) (target_object ha)
        (form-collect k s.sorting (a.form ++ b.form))
        (each-collect k s.sorting Irr (a.form ++ b.form) (each-append Irr a.form b.form ha.arrow.irreducible hb.arrow.irreducible))
        (each-collect k s.sorting (Good x y) (a.form ++ b.form) (each-append (Good x y) a.form b.form (words_at x y a ha) (words_at x y b hb)))

    pub negate_arrow : (x y : ℕ) (a : NormalMap K) → IsArrow normal_structure x y a → IsArrow normal_structure x y (normal_structure.negate a)
    negate_arrow x y a ha = rebuild (normal_structure.negate a) ha.source ha.target (source_object ha) (target_object ha)
        (form-collect k s.sorting (scaled k (k.minus k.one) a.form))
        (each-collect k s.sorting Irr (scaled k (k.minus k.one) a.form) (each-scaled k Irr (k.minus k.one) a.form ha.arrow.irreducible))
        (each-collect k s.sorting (Good x y) (scaled k (k.minus k.one) a.form)
        (each-scaled k (Good x y) (k.minus k.one) a.form (words_at x y a ha)))

    pub reduced_same : {p q : Form K} → Each InRange p → Each InRange q → Like p q → reduced p ≡ reduced q
    reduced_same {p} {q} a b e = same_form (form-collect k s.sorting (Nf p)) (form-collect k s.sorting (Nf q))
        (reduced_irreducible p a) (reduced_irreducible q b) (cong_trans (reduced_like a) (cong_trans e (cong_sym (reduced_like b))))

    -- what is a map already is its own reduced form
    pub reduced_is : {p q : Form K} → Each InRange p → IsForm k s.sorting q → Each Irr q → Like p q → reduced p ≡ q
    reduced_is {p} a f i e = same_form (form-collect k s.sorting (Nf p)) f (reduced_irreducible p a) i (cong_trans (reduced_like a) e)

    pub product_left : (p p' q : Form K) → Each InRange q → Like p p' → Like (product k p q) (product k p' q)
    product_left p p' q a e = cong_product_left k s.order s.rules facts.join empty_range q a e

    pub product_right : (p q q' : Form K) → Each InRange p → Like q q' → Like (product k p q) (product k p q')
    product_right p q q' a e = cong_product_right k s.order s.rules facts.join empty_range p a e

    composition_assoc : (w x y z : ℕ) (a b c : NormalMap K) → IsArrow normal_structure y z a → IsArrow normal_structure x y b
        → IsArrow normal_structure w x c → normal_structure.compose (normal_structure.compose a b) c ≡ normal_structure.compose a
        (normal_structure.compose b c)
    composition_assoc w x y z a b c ha hb hc = arrow_same _ _ refl refl (reduced_same left_range right_range (cong_trans
        (product_left (reduced AB) AB c.form (ranges w x c.form (words_at w x c hc)) (reduced_like (ranges x z AB good_ab)))
        (cong_trans (cong_same (product-product k a.form b.form c.form))
        (product_right a.form BC (reduced BC) (ranges y z a.form (words_at y z a ha))
        (cong_sym (reduced_like (ranges w y BC good_bc)))))))
      where
        AB : Form K
        AB = product k a.form b.form

        BC : Form K
        BC = product k b.form c.form

        good_ab : Each (Good x z) AB
        good_ab = compose_good ha hb

        good_bc : Each (Good w y) BC
        good_bc = compose_good hb hc

        left_range : Each InRange (product k (reduced AB) c.form)
        left_range = ranges w z _ (compose_good (compose_arrow x y z a b ha hb) hc)

        right_range : Each InRange (product k a.form (reduced BC))
        right_range = ranges w z _ (compose_good ha (compose_arrow w x y b c hb hc))

    unit_front : (x : ℕ) {y : ℕ} (c : K) (w : Word) → y < s.quiver.objects → s.marked y ≡ true → Good x y w
        → Like ((k.times k.one c, y ∷ w) ∷ []) ((c, w) ∷ [])
    unit_front x {y} c [] hy m a = absurd (true≢false (sym m ∙ ap s.marked (sym (eqb-true x y a.leads)) ∙ a.unit refl))
    unit_front x {y} c (b ∷ w) hy m a = cong_trans (cong_same (ap (λ z. (z, y ∷ b ∷ w) ∷ []) (k.times_comm k.one c))) (cong_trans
        (cong_behind k s.order s.rules facts.join empty_range (facts.play_range w a.plays.1)
        (cong_scaled c (facts.unit_left y b hy m first.letter a.plays.0 first.target)))
        (cong_same (ap (λ z. (z, b ∷ w) ∷ []) (times_one k c))))
      where
        first : Step s.quiver x y b w
        first = step s.quiver x y b w a.leads

    unit_left_like : (x : ℕ) {y : ℕ} {p : Form K} → y < s.quiver.objects → Each (Good x y) p → Like (product k ((k.one, unit_word y) ∷ []) p) p
    unit_left_like x {y} {p} hy a = cong_trans (cong_same (append-nil (front k (k.one, unit_word y) p)))
        ((elim (s.marked y) as (λ b. s.marked y ≡ b → Like (front k (k.one, cond b (y ∷ []) []) p) p) [
          | false ↦ λ e. cong_same (plain p)
          | true ↦ λ e. with_letter e p a
        ]) refl)
      where
        plain : (p : Form K) → front k (k.one, []) p ≡ p
        plain [] = refl
        plain (t ∷ p) = ap₂ (λ x z. (x, t.1) ∷ z) (k.one_times t.0) (plain p)

        with_letter : s.marked y ≡ true → (p : Form K) → Each (Good x y) p → Like (front k (k.one, y ∷ []) p) p
        with_letter m [] a = cong_refl []
        with_letter m (t ∷ p) a = cong_append (unit_front x t.0 t.1 hy m a.0) (with_letter m p a.1)

    left_identity : (x y : ℕ) (a : NormalMap K) → IsArrow normal_structure x y a
        → normal_structure.compose (normal_structure.identity y) a ≡ a
    left_identity x y a ha = arrow_same _ a refl (sym ha.target) (reduced_is range ha.arrow.sorted ha.arrow.irreducible (cong_trans
        (product_left (reduced U) U a.form (ranges x y a.form (words_at x y a ha)) (reduced_like (good_range y y _ (unit_good hy), tt)))
        (unit_left_like x hy (words_at x y a ha))))
      where
        hy : y < s.quiver.objects
        hy = target_object ha

        U : Form K
        U = (k.one, unit_word y) ∷ []

        range : Each InRange (product k (reduced U) a.form)
        range = ranges x y _ (compose_good (identity_arrow y hy) ha)

    -- the last letter of a path
    pub record Last (x : ℕ) (w : Word) : Type 0 where
      pub before : Word
      pub last : ℕ
      pub is : w ≡ before ++ (last ∷ [])
      pub letter : last < letters s.quiver
      pub source : source s.quiver last ≡ x
      pub play : s.play last ≡ true
      pub plays : AllPlay s.play before

    last_of : (x y : ℕ) {b : ℕ} (w : Word) → leads s.quiver x y (b ∷ w) ≡ true → AllPlay s.play (b ∷ w) → Last x (b ∷ w)
    last_of x y {b} [] e a = record {
      before = [];
      last = b;
      is = refl;
      letter = (step s.quiver x y b [] e).letter;
      source = sym (eqb-true x (source s.quiver b) (step s.quiver x y b [] e).rest);
      play = a.0;
      plays = tt;
    }
    last_of x y {b} (c ∷ w) e a = more (last_of x (source s.quiver b) w (step s.quiver x y b (c ∷ w) e).rest a.1)
      where
        more : Last x (c ∷ w) → Last x (b ∷ c ∷ w)
        more l = record {
          before = b ∷ l.before;
          last = l.last;
          is = ap (λ z. b ∷ z) l.is;
          letter = l.letter;
          source = l.source;
          play = l.play;
          plays = (a.0, l.plays);
        }

    unit_back : {x : ℕ} (y : ℕ) (c : K) (w : Word) → x < s.quiver.objects → s.marked x ≡ true → Good x y w
        → Like ((k.times c k.one, w ++ (x ∷ [])) ∷ []) ((c, w) ∷ [])
    unit_back y c [] hx m a = absurd (true≢false (sym m ∙ a.unit refl))
    unit_back {x} y c (b ∷ w) hx m a = let l = last_of x y w a.leads a.plays in
        cong_trans (cong_same
        (ap (λ z. (k.times c k.one, z) ∷ []) (ap (λ z. z ++ (x ∷ [])) l.is ∙ append_assoc l.before (l.last ∷ []) (x ∷ []))))
        (cong_trans (cong_before k s.order s.rules facts.join empty_range (facts.play_range l.before l.plays)
        (cong_scaled c (facts.unit_right x l.last hx m l.letter l.play l.source)))
        (cong_same (ap₂ (λ y z. (y, z) ∷ []) (times_one k c) (sym l.is))))

    unit_right_like : {x : ℕ} (y : ℕ) {p : Form K} → x < s.quiver.objects → Each (Good x y) p → Like (product k p ((k.one, unit_word x) ∷ [])) p
    unit_right_like {x} y {p} hx a = (elim (s.marked x) as (λ b. s.marked x ≡ b → Like (product k p ((k.one, cond b (x ∷ []) []) ∷ [])) p) [
      | false ↦ λ e. cong_same (plain p)
      | true ↦ λ e. with_letter e p a
    ]) refl
      where
        plain : (p : Form K) → product k p ((k.one, []) ∷ []) ≡ p
        plain [] = refl
        plain (t ∷ p) = ap₂ (λ x z. x ∷ z) (λ i. (times_one k t.0 i, append-nil t.1 i)) (plain p)

        with_letter : s.marked x ≡ true → (p : Form K) → Each (Good x y) p → Like (product k p ((k.one, x ∷ []) ∷ [])) p
        with_letter m [] a = cong_refl []
        with_letter m (t ∷ p) a = cong_append (unit_back y t.0 t.1 hx m a.0) (with_letter m p a.1)

    right_identity : (x y : ℕ) (a : NormalMap K) → IsArrow normal_structure x y a
        → normal_structure.compose a (normal_structure.identity x) ≡ a
    right_identity x y a ha = arrow_same _ a (sym ha.source) refl (reduced_is range ha.arrow.sorted ha.arrow.irreducible (cong_trans
        (product_right a.form (reduced U) U (ranges x y a.form (words_at x y a ha)) (reduced_like (good_range x x _ (unit_good hx), tt)))
        (unit_right_like y hx (words_at x y a ha))))
      where
        hx : x < s.quiver.objects
        hx = source_object ha

        U : Form K
        U = (k.one, unit_word x) ∷ []

        range : Each InRange (product k a.form (reduced U))
        range = ranges x y _ (compose_good ha (identity_arrow x hx))

    pub collect_same : {p q : Form K} → Alike k p q → collect k s.sorting p ≡ collect k s.sorting q
    collect_same {p} {q} e = form_unique k s.sorting _ _ (form-collect k s.sorting p) (form-collect k s.sorting q)
        (alike_trans (alike-collect k s.sorting p) (alike_trans e (alike_sym (alike-collect k s.sorting q))))

    addition_assoc : (x y : ℕ) (a b c : NormalMap K) → normal_structure.add (normal_structure.add a b) c ≡ normal_structure.add a
        (normal_structure.add b c)
    addition_assoc x y a b c = arrow_same _ _ refl refl (collect_same
        (alike_trans (alike-append k (alike-collect k s.sorting (a.form ++ b.form)) (alike_refl c.form))
        (alike_trans (alike_same (append_assoc a.form b.form c.form)) (alike-append k (alike_refl a.form)
        (alike_sym (alike-collect k s.sorting (b.form ++ c.form)))))))

    addition_comm : (x y : ℕ) (a b : NormalMap K) → IsArrow normal_structure x y a → IsArrow normal_structure x y b
        → normal_structure.add a b ≡ normal_structure.add b a
    addition_comm x y a b ha hb = arrow_same _ _ (ha.source ∙ sym hb.source) (ha.target ∙ sym hb.target)
        (collect_same (alike-swap a.form b.form))

    addition_zero : (x y : ℕ) (a : NormalMap K) → IsArrow normal_structure x y a → normal_structure.add a (normal_structure.zero x y) ≡ a
    addition_zero x y a ha = arrow_same _ a refl refl
        (form_unique k s.sorting _ a.form (form-collect k s.sorting (a.form ++ [])) ha.arrow.sorted
        (alike_trans (alike-collect k s.sorting (a.form ++ [])) (alike_same (append-nil a.form))))

    addition_negate : (x y : ℕ) (a : NormalMap K) → IsArrow normal_structure x y a
        → normal_structure.add a (normal_structure.negate a) ≡ normal_structure.zero x y
    addition_negate x y a ha = arrow_same _ _ ha.source ha.target
        (form_unique k s.sorting _ [] (form-collect k s.sorting (a.form ++ negative a.form)) tt (record {
          at = λ w. look-collect k s.sorting (a.form ++ negative a.form) w ∙ sum-append k (λ u. hit k u w) a.form (negative a.form)
              ∙ ap (λ z. k.plus (look k a.form w) z)
              (look-collect k s.sorting (scaled k (k.minus k.one) a.form) w ∙ sum-scaled k (λ u. hit k u w) (k.minus k.one) a.form ∙ minus_one k (look k a.form w))
              ∙ k.plus_minus (look k a.form w);
        }))

    reduced_sum : {p : Form K} (q r : Form K) → Each InRange p → Each InRange q → Each InRange r → Like p (q ++ r)
        → reduced p ≡ sum_form (reduced q) (reduced r)
    reduced_sum q r a b c e = reduced_is a (form-collect k s.sorting (reduced q ++ reduced r))
        (each-collect k s.sorting Irr (reduced q ++ reduced r)
        (each-append Irr (reduced q) (reduced r) (reduced_irreducible q b) (reduced_irreducible r c)))
        (cong_trans e (cong_trans
        (cong_append (cong_sym (reduced_like b)) (cong_sym (reduced_like c)))
        (alike _ _ (alike_sym (alike-collect k s.sorting (reduced q ++ reduced r))))))

    product_right_sum : (p q r : Form K) → Alike k (product k p (q ++ r)) (product k p q ++ product k p r)
    product_right_sum p [] r = alike_same (sym (ap (λ z. z ++ product k p r) (product-none k p)))
    product_right_sum p (t ∷ q) r = alike_trans (product-behind k p t (q ++ r))
        (alike_trans (alike-append k (alike_refl (behind k t p)) (product_right_sum p q r))
        (alike_trans (alike_same (sym (append_assoc (behind k t p) (product k p q) (product k p r))))
        (alike-append k (alike_sym (product-behind k p t q)) (alike_refl (product k p r)))))

    composition_sum_left : (x y z : ℕ) (a b c : NormalMap K) → IsArrow normal_structure y z a → IsArrow normal_structure y z b
        → IsArrow normal_structure x y c → normal_structure.compose (normal_structure.add a b) c ≡ normal_structure.add
        (normal_structure.compose a c) (normal_structure.compose b c)
    composition_sum_left x y z a b c ha hb hc = arrow_same _ _ refl refl (reduced_sum (product k a.form c.form) (product k b.form c.form)
        (ranges x z _ (compose_good (add_arrow y z a b ha hb) hc)) (ranges x z _ (compose_good ha hc)) (ranges x z _ (compose_good hb hc))
        (cong_trans
        (product_left (sum_form a.form b.form) (a.form ++ b.form) c.form (ranges x y c.form (words_at x y c hc))
        (alike _ _ (alike-collect k s.sorting (a.form ++ b.form)))) (cong_same (product-append k a.form b.form c.form))))

    composition_sum_right : (x y z : ℕ) (a b c : NormalMap K) → IsArrow normal_structure y z a → IsArrow normal_structure x y b
        → IsArrow normal_structure x y c → normal_structure.compose a (normal_structure.add b c) ≡ normal_structure.add
        (normal_structure.compose a b) (normal_structure.compose a c)
    composition_sum_right x y z a b c ha hb hc = arrow_same _ _ refl refl (reduced_sum (product k a.form b.form) (product k a.form c.form)
        (ranges x z _ (compose_good ha (add_arrow x y b c hb hc))) (ranges x z _ (compose_good ha hb)) (ranges x z _ (compose_good ha hc))
        (cong_trans
        (product_right a.form (sum_form b.form c.form) (b.form ++ c.form) (ranges y z a.form (words_at y z a ha))
        (alike _ _ (alike-collect k s.sorting (b.form ++ c.form)))) (alike _ _ (product_right_sum a.form b.form c.form))))

    -- The laws of the category of normal forms.
    pub normal_laws : PreadditiveLaws normal_structure
    normal_laws = record {
      source_is_object = λ a h. h.source_is_object;
      target_is_object = λ a h. h.target_is_object;
      identity_is_arrow = identity_arrow;
      zero_is_arrow = zero_arrow;
      add_is_arrow = add_arrow;
      negate_is_arrow = negate_arrow;
      compose_is_arrow = compose_arrow;
      compose_assoc = composition_assoc;
      identity_left = left_identity;
      identity_right = right_identity;
      add_assoc = λ x y a b c _ _ _. addition_assoc x y a b c;
      add_comm = addition_comm;
      add_zero = addition_zero;
      add_negate = addition_negate;
      compose_add_left = composition_sum_left;
      compose_add_right = composition_sum_right;
    }
