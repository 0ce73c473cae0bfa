-- A claim of a starred statement that isn't zero isn't zero both ways: the generators have the adjoints of the assumptions.
use Rattle.normal_forms.proofs.Prelude.{◌≡◌, ℕ, ◌<◌, negsuc, Bool, true, false, cond, ◌||◌, List, [], ◌∷◌, refl, sym, ap, ◌∙◌, arith, ints, AllByRecursion, flat_map, Poly, SamePolynomial, poly_multiple, poly_eq, Structure, PreadditiveLaws, Quiver, IsQuiver, IsTyped, Representation, Represents, adjoint_poly, new_adjoint, units, generators_of, HasValueZero, coefficient_of-multiple, poly_eq-true, times, times-none, linear-scale, group_at, value_at-linear, word_at, word_at_is_arrow, typed-adjoint_poly, star_sound, quiver_of, Rule, Parts, IsPosed, numbers, polynomials, posed_quiver, marked_are_objects, zero_along, normal_forms, forms_representation, TellsFromZero, both_ways, both_ways_representation, SharpMeans, StarSharpMeans}
use Rattle.normal_forms.proofs.Forms.{all_front, all_back}
use Rattle.normal_forms.proofs.BothWays.{both, both_ways_laws, exchange_laws, both_ways_cancels, both_ways_represents, value_there, value_back}

module _ {Object Arrow : Type 0} {s : Structure Object Arrow} (laws : PreadditiveLaws s) (q : Quiver) (quiver : IsQuiver q) (f : Representation Object Arrow) (rep : Represents s q f) where
  abbrev Zero : Poly → Type 0
  Zero = HasValueZero s q f

  negative_is_zero : {p : Poly} → Zero p → Zero (poly_multiple (negsuc 0) p)
  negative_is_zero {p} vanish = record {
    at = λ u v in_u in_v typed.
        let group = group_at laws q f rep u v in_u in_v in
        let positive : IsTyped q u v p = record { at = λ w some. typed.at w (λ e. some (omega (arith, ints, (sym (coefficient_of-multiple (negsuc 0) p w) ∙ e)))) } in
        value_at-linear laws q f rep u v in_u in_v (poly_multiple (negsuc 0) p)
        ∙ linear-scale group (word_at laws q f rep u v) (word_at_is_arrow laws q f rep u v in_u in_v) (negsuc 0) p
        ∙ ap (times (s.zero (f.object u) (f.object v)) s.add s.negate (negsuc 0))
        (sym (value_at-linear laws q f rep u v in_u in_v p) ∙ vanish.at u v in_u in_v positive)
        ∙ times-none group (negsuc 0);
  }

  -- the adjoint of an assumption is a generator, or plus or minus the assumption
  adjoint_is_zero : {p : Poly} → Zero p → AllByRecursion Zero (new_adjoint q p) → Zero (adjoint_poly q p)
  adjoint_is_zero {p} vanish new = go (poly_eq (adjoint_poly q p) p) (poly_eq (adjoint_poly q p) (poly_multiple (negsuc 0) p)) refl refl new
    where
      same_is_zero : (r : Poly) → SamePolynomial (adjoint_poly q p) r → Zero r → Zero (adjoint_poly q p)
      same_is_zero r same none = (zero_along laws q f rep (adjoint_poly q p ∷ []) (r ∷ []) (same, tt) (none, tt)).0

      go : (b c : Bool) → poly_eq (adjoint_poly q p) p ≡ b → poly_eq (adjoint_poly q p) (poly_multiple (negsuc 0) p) ≡ c
          → AllByRecursion Zero (cond (b || c) [] (adjoint_poly q p ∷ [])) → Zero (adjoint_poly q p)
      go true c plus minus new = same_is_zero p (poly_eq-true (adjoint_poly q p) p plus) vanish
      go false true plus minus new =
          same_is_zero (poly_multiple (negsuc 0) p) (poly_eq-true (adjoint_poly q p) (poly_multiple (negsuc 0) p) minus) (negative_is_zero vanish)
      go false false plus minus new = new.0

  -- so each assumption is zero both ways
  pairs_are_zero : (ps : List Poly) → AllByRecursion Zero ps → AllByRecursion Zero (flat_map (new_adjoint q) ps)
      → AllByRecursion (HasValueZero (both_ways s) q (both_ways_representation q f)) ps
  pairs_are_zero [] vanish new = tt
  pairs_are_zero (p ∷ ps) vanish new = (
    record {
      at = λ u v in_u in_v typed. both (value_there laws q quiver f rep u v p ∙ vanish.0.at u v in_u in_v typed)
          (value_back laws q quiver f rep u v p
          ∙ (adjoint_is_zero vanish.0 (all_front Zero (new_adjoint q p) (flat_map (new_adjoint q) ps) new)).at
          v u in_v in_u (typed-adjoint_poly q quiver u v p typed));
    },
    pairs_are_zero ps vanish.1 (all_back Zero (new_adjoint q p) (flat_map (new_adjoint q) ps) new),
  )

  generators_both_ways : (marked : List ℕ) (assumptions : List Poly) → AllByRecursion (λ v. v < q.objects) marked
      → AllByRecursion Zero (generators_of q true marked assumptions)
      → AllByRecursion (HasValueZero (both_ways s) q (both_ways_representation q f)) (generators_of q true marked assumptions)
  generators_both_ways marked assumptions in_range zeros =
      let rest = all_back Zero assumptions _ zeros in
      (star_sound (both_ways_laws s laws) (exchange_laws s)).generators q true marked assumptions quiver in_range (both_ways_representation q f)
      (both_ways_represents laws q quiver f rep)
      (pairs_are_zero assumptions (all_front Zero assumptions _ zeros)
      (all_front Zero (flat_map (new_adjoint q) assumptions) (flat_map (units q true) marked) rest))

tells_both_ways : {Object Arrow : Type 0} {s : Structure Object Arrow} {q : Quiver} {f : Representation Object Arrow} (marked : List ℕ) (assumptions : List Poly) {claim : Poly}
    → IsQuiver q → AllByRecursion (λ v. v < q.objects) marked → (starred : Bool) → starred ≡ true
    → TellsFromZero s q f (generators_of q starred marked assumptions) claim
    → TellsFromZero (both_ways s) q (both_ways_representation q f) (generators_of q starred marked assumptions) claim
tells_both_ways marked assumptions quiver in_range false not_starred tells = absurd (cc)
tells_both_ways {s} {q} {f} marked assumptions {claim} quiver in_range true starred tells =
    let laws = tells.laws in
    let rep = tells.represents in
    record {
      laws = both_ways_laws s laws;
      cancels = λ n above. both_ways_cancels s (tells.cancels n above);
      represents = (both_ways_represents laws q quiver f rep).represents;
      zeros = generators_both_ways laws q quiver f rep marked assumptions in_range tells.zeros;
      claim = record {
        source = tells.claim.source;
        target = tells.claim.target;
        source_is_object = tells.claim.source_is_object;
        target_is_object = tells.claim.target_is_object;
        typed = tells.claim.typed;
        nonzero = λ e. tells.claim.nonzero (sym (value_there laws q quiver f rep tells.claim.source tells.claim.target claim) ∙ ap (λ z. z.0) e);
      };
    }

pub star_sharp_means : (p : Parts) (rules : List Rule) (claim : Poly) → IsPosed p → p.starred ≡ true → SharpMeans p rules claim → StarSharpMeans p rules claim
star_sharp_means p rules claim posed starred sharp =
    let q = quiver_of p.quiver in
    let quiver = posed_quiver p posed in
    record {
      tells = tells_both_ways (numbers p.marked) (polynomials p.assumptions) quiver (marked_are_objects p posed)
          p.starred starred sharp.tells;
      involution = exchange_laws (normal_forms p rules);
      represents = both_ways_represents sharp.tells.laws q quiver (forms_representation p rules) sharp.tells.represents;
    }
