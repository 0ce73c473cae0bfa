-- What a statement and its rules have to meet, and that the laws follow.
use Rattle.std.proofs.Common.{◌≡◌, ℕ, ◌<◌, ◌≤◌, refl, sym, ap, subst, ◌∙◌, Bool, true, false, ◌||◌, cond, List, [], ◌∷◌, ◌++◌, ◌⊎◌, inl, inr, true≢false, ltb, lt-ltb, ltb-true, arith, ◌&&◌}
use Rattle.std.proofs.lemmas.Bool.{and_parts, and_from, cases_lt}
use Rattle.std.specs.List.{AllByRecursion, list_any}
use Rattle.std.specs.Prelude.{nat_eq, nat_lt, nat_le, if◌then◌else◌}
use Rattle.definitions.specs.Generators.{generators_of, left_unit, right_unit}
use Rattle.definitions.specs.Poly.{Word, Term, coefficient_of}
use Rattle.definitions.specs.Quiver.{Quiver, IsQuiver, letters, source, target, star}
use Rattle.word_orders.specs.Orders.{Order}
use Rattle.confluence.proofs.Meets.{Rules, Resolved}
use Rattle.confluence.proofs.Resolve.{everything}
use Rattle.confluence.proofs.Spans.{Span}
use Rattle.normal_forms.specs.Forms.{Form}
use Rattle.normal_forms.proofs.Field.{Field}
use Rattle.normal_forms.proofs.Forms.{Each}
use Rattle.normal_forms.proofs.Collect.{Sorting}
use Rattle.normal_forms.proofs.Congruence.{AnyRow}
use Rattle.normal_forms.proofs.Normal.{Normal}
use Rattle.normal_forms.proofs.NormalCategory.{AllPlay, Ground, Facts, IsTypedRule}
use Rattle.normal_forms.proofs.Units.{unit_itself, unit_of_target, unit_of_source, unit_like}

-- a declared map, its adjoint where the statement is starred, or the identity of a marked object
abbrev pub in_play : ℕ → Quiver → Bool → List ℕ → ℕ → Bool
in_play count q starred marked a = nat_lt a count && (if nat_lt a q.objects then list_any (nat_eq a) marked else (starred || nat_le a (star q a)))

module _ {K : Type 0} (k : Field K) (o : Order) (g : Rules o) (normal : Form K → Form K) (sorting : Sorting) (count : ℕ) (q : Quiver) (starred : Bool)
    (marked : List ℕ) where
  abbrev pub ground : Ground k
  ground = record {
    order = o;
    rules = g;
    normal = normal;
    sorting = sorting;
    quiver = q;
    play = in_play count q starred marked;
    marked = λ v. list_any (nat_eq v) marked;
  }

  -- a positive multiple is a sum of rows over the rules
  abbrev pub IsGenerated : List Term → Type 0
  IsGenerated p = Span (AnyRow o g) (coefficient_of p)

  -- What is asked of the rules.
  pub record Conditions (assumptions : List (List Term)) : Type 0 where
    pub count_is : count ≡ letters q
    pub normal_is : (p : Form K) → Each o.Range p → Normal k o g p (normal p)
    pub resolved : Resolved o g (everything o)
    pub join : (u v : Word) → o.Range u → o.Range v → o.Range (u ++ v)
    pub is_quiver : IsQuiver q
    pub play_range : (w : Word) → AllPlay (in_play count q starred marked) w → o.Range w
    pub typed : (i : ℕ) → g.Has i → IsTypedRule q (in_play count q starred marked) (g.rule i)
    pub generated : AllByRecursion IsGenerated (generators_of q starred marked assumptions)

  -- which case of being in play
  pub record Plays (a : ℕ) : Type 0 where
    pub letter : a < count
    pub which : ((a < q.objects) × (list_any (nat_eq a) marked ≡ true)) ⊎ ((q.objects ≤ a) × ((starred || nat_le a (star q a)) ≡ true))

  plays_of : (a : ℕ) → in_play count q starred marked a ≡ true → Plays a
  plays_of a e = record { letter = ltb-true a count outer.0; which = go (ltb a q.objects) refl outer.1 }
    where
      outer : (ltb a count ≡ true) × (cond (ltb a q.objects) (list_any (nat_eq a) marked) (starred || nat_le a (star q a)) ≡ true)
      outer = and_parts (ltb a count) (cond (ltb a q.objects) (list_any (nat_eq a) marked) (starred || nat_le a (star q a))) e

      not_below : (a b : ℕ) → ltb a b ≡ false → b ≤ a
      not_below a b h = elim (cases_lt a b) [ inl l ↦ absurd (true≢false (sym (lt-ltb a b l) ∙ h)) | inr r ↦ r ]

      go : (b : Bool) → ltb a q.objects ≡ b → cond b (list_any (nat_eq a) marked) (starred || nat_le a (star q a)) ≡ true
          → ((a < q.objects) × (list_any (nat_eq a) marked ≡ true)) ⊎ ((q.objects ≤ a) × ((starred || nat_le a (star q a)) ≡ true))
      go true h m = inl (ltb-true a q.objects h, m)
      go false h m = inr (not_below a q.objects h, m)

  pub facts_of : (assumptions : List (List Term)) → Conditions assumptions → Facts k ground
  facts_of assumptions c = record {
    normal_is = c.normal_is;
    resolved = c.resolved;
    join = c.join;
    is_quiver = c.is_quiver;
    play_range = c.play_range;
    typed = c.typed;
    marked_play = λ v h m. and_from (ltb v count) _ (lt-ltb v count (subst (λ n. v < n) (sym c.count_is) (c.is_quiver.identity_is_letter v h)))
        (ap (λ b. cond b (list_any (nat_eq v) marked) (starred || nat_le v (star q v))) (lt-ltb v q.objects h) ∙ m);
    play_marked = λ v h e. by_mark v h (plays_of v e).which;
    unit_left = λ v a hv m ha e t. unit_like k (v ∷ a ∷ []) (a ∷ []) (left v a m (plays_of a e) t);
    unit_right = λ v a hv m ha e t. unit_like k (a ∷ v ∷ []) (a ∷ []) (right v a m (plays_of a e) t);
  }
    where
      by_mark : (v : ℕ) → v < q.objects → ((v < q.objects) × (list_any (nat_eq v) marked ≡ true)) ⊎
          ((q.objects ≤ v) × ((starred || nat_le v (star q v)) ≡ true)) → list_any (nat_eq v) marked ≡ true
      by_mark v h (inl x) = x.1
      by_mark v h (inr x) = absurd (omega (arith, h, x.0))

      left : (v a : ℕ) → list_any (nat_eq v) marked ≡ true → Plays a → target q a ≡ v → IsGenerated (left_unit v a)
      left v a m p t = elim p.which [
        | inl x ↦ subst (λ z. IsGenerated (left_unit v z)) (sym t ∙ c.is_quiver.identity_target a x.0)
            (unit_itself q starred marked assumptions IsGenerated c.generated v m)
        | inr x ↦ unit_of_target q starred marked assumptions IsGenerated c.generated m x.0 (subst (λ n. a < n) c.count_is p.letter) x.1 t
      ]

      right : (v a : ℕ) → list_any (nat_eq v) marked ≡ true → Plays a → source q a ≡ v → IsGenerated (right_unit v a)
      right v a m p t = elim p.which [
        | inl x ↦ subst (λ z. IsGenerated (right_unit v z)) (sym t ∙ c.is_quiver.identity_source a x.0)
            (unit_itself q starred marked assumptions IsGenerated c.generated v m)
        | inr x ↦ unit_of_source q starred marked assumptions IsGenerated c.generated m x.0 (subst (λ n. a < n) c.count_is p.letter) x.1 t
      ]
