-- What the generators of a problem mean: they are typed, star representations make them zero, and they say the same as those of the definition.
use Rattle.std.proofs.Common.{◌≡◌, ℕ, ◌<◌, ℤ, List, [], ◌∷◌, sym, refl, ap₂, ◌∙◌}
use Rattle.std.proofs.lemmas.List.Elements.{All-head, All-tail}
use Rattle.std.specs.List.{All, AllByRecursion, AllZip}
use Rattle.definitions.proofs.Coefficients.{Same_sym, Same_trans}
use Rattle.definitions.proofs.Linear.{linear_same}
use Rattle.definitions.proofs.Typed.{generators_typed}
use Rattle.definitions.proofs.Values.{group_at, value_at-linear, word_at, word_at_is_arrow}
use Rattle.definitions.specs.Category.{Structure, PreadditiveLaws}
use Rattle.definitions.specs.Poly.{SamePolynomial}
use Rattle.definitions.specs.Quiver.{Quiver, IsQuiver, IsTyped}
use Rattle.definitions.specs.Representation.{Representation, Represents, StarRepresents}
use Rattle.definitions.specs.Soundness.{HasSignature, HasValueZero, MakesZero, IsStarSound}
use Rattle.word_core.specs.declared.letter.Object.{Object}
use Rattle.nc_polynomial.proofs.Unique.{canonical_unique}
use Rattle.nc_polynomial.specs.declared.poly.Poly.{Poly}
use Rattle.quiver.proofs.Identities.{is_quiver}
use Rattle.quiver.specs.Declarations.{Declaration, object_count, quiver_of}
use Rattle.quiver.specs.declared.named.Sig.{Sig}
use Rattle.adjoint_rules.specs.Problem.{polynomials, numbers, IsTypedOf, HasObjects, IsPosed, IsClosed, generators_in, GeneratorsAreUnique}
use Rattle.adjoint_rules.specs.declared.parts.Parts.{Parts}

-- what holds of each polynomial holds of each of others that are the same
along : (P : List (ℤ × List ℕ) → Type 0) → ((r p : List (ℤ × List ℕ)) → SamePolynomial r p → P p → P r) → (rs ps : List (List (ℤ × List ℕ))) → AllZip SamePolynomial rs ps → AllByRecursion P ps → AllByRecursion P rs
along P same [] [] h k = tt
along P same [] (p ∷ ps) h k = absurd h
along P same (r ∷ rs) [] h k = absurd h
along P same (r ∷ rs) (p ∷ ps) h k = (same r p h.0 k.0, along P same rs ps h.1 k.1)

-- signatures
typed_same : (q : Quiver) (u v : ℕ) (r p : List (ℤ × List ℕ)) → SamePolynomial r p → IsTyped q u v p → IsTyped q u v r
typed_same q u v r p same typed = record { at = λ w c. typed.at w (λ e. c (same.at w ∙ e)) }

signature_same : (q : Quiver) (r p : List (ℤ × List ℕ)) → SamePolynomial r p → HasSignature q p → HasSignature q r
signature_same q r p same has = record {
  source = has.source;
  target = has.target;
  source_is_object = has.source_is_object;
  target_is_object = has.target_is_object;
  typed = typed_same q has.source has.target r p same has.typed;
}

signatures : (ds : List Declaration) (ps : List Poly) (sigs : List Sig) → AllZip (IsTypedOf ds) ps sigs → All (HasObjects ds) sigs → AllByRecursion (HasSignature (quiver_of ds)) (polynomials ps)
signatures ds [] [] h k = tt
signatures ds [] (s ∷ sigs) h k = absurd h
signatures ds (p ∷ ps) [] h k = absurd h
signatures ds (p ∷ ps) (s ∷ sigs) h k =
    let ends = All-head (HasObjects ds) s sigs k in (
      record { source = s.source.0; target = s.target.0; source_is_object = ends.source; target_is_object = ends.target; typed = h.0 },
      signatures ds ps sigs h.1 (All-tail (HasObjects ds) s sigs k),
    )

marked_below : (n : ℕ) (vs : List Object) → All (λ v. v.0 < n) vs → AllByRecursion (λ v. v < n) (numbers vs)
marked_below n [] h = tt
marked_below n (v ∷ vs) h = (All-head (λ w. w.0 < n) v vs h, marked_below n vs (All-tail (λ w. w.0 < n) v vs h))

module _ (p : Parts) (posed : IsPosed p) where
  pub posed_quiver : IsQuiver (quiver_of p.quiver)
  posed_quiver = is_quiver p.quiver posed.declared posed.objects_first

  pub assumptions_have_signatures : AllByRecursion (HasSignature (quiver_of p.quiver)) (polynomials p.assumptions)
  assumptions_have_signatures = signatures p.quiver p.assumptions p.sigs posed.assumptions_typed posed.assumption_ends

  pub claims_have_signatures : AllByRecursion (HasSignature (quiver_of p.quiver)) (polynomials p.claims)
  claims_have_signatures = signatures p.quiver p.claims p.claim_sigs posed.claims_typed posed.claim_ends

  pub marked_are_objects : AllByRecursion (λ v. v < object_count p.quiver) (numbers p.marked)
  marked_are_objects = marked_below (object_count p.quiver) p.marked posed.marked_objects

  -- each generator is typed
  pub generators_have_signatures : (generators : List Poly) → IsClosed p generators → AllByRecursion (HasSignature (quiver_of p.quiver)) (polynomials generators)
  generators_have_signatures generators closed =
      let q = quiver_of p.quiver in
      along (HasSignature q) (signature_same q) (polynomials generators) (generators_in p) closed.same
      (generators_typed q posed_quiver p.starred (numbers p.marked) (polynomials p.assumptions) marked_are_objects assumptions_have_signatures)

-- values
module _ {Object Arrow : Type 0} {s : Structure Object Arrow} (laws : PreadditiveLaws s) (q : Quiver) (f : Representation Object Arrow) (rep : Represents s q f) where
  zero_same : (r p : List (ℤ × List ℕ)) → SamePolynomial r p → HasValueZero s q f p → HasValueZero s q f r
  zero_same r p same vanish = record {
    at = λ u v in_u in_v typed.
        value_at-linear laws q f rep u v in_u in_v r
        ∙ linear_same (group_at laws q f rep u v in_u in_v) (word_at laws q f rep u v) (word_at_is_arrow laws q f rep u v in_u in_v) r p same
        ∙ sym (value_at-linear laws q f rep u v in_u in_v p)
        ∙ vanish.at u v in_u in_v (typed_same q u v p r (Same_sym r p same) typed);
  }

  pub zero_along : (rs ps : List (List (ℤ × List ℕ))) → AllZip SamePolynomial rs ps → AllByRecursion (HasValueZero s q f) ps → AllByRecursion (HasValueZero s q f) rs
  zero_along rs ps same vanish = along (HasValueZero s q f) zero_same rs ps same vanish

module _ {Object Arrow : Type 0} {s : Structure Object Arrow} (laws : PreadditiveLaws s) (p : Parts) (generators : List Poly) (closed : IsClosed p generators) where
  -- in each star representation the assumptions make the generators zero
  pub generators_are_zero : (adjoint : Arrow → Arrow) → IsStarSound s adjoint → IsPosed p → (f : Representation Object Arrow) → StarRepresents s adjoint (quiver_of p.quiver) f
      → AllByRecursion (HasValueZero s (quiver_of p.quiver) f) (polynomials p.assumptions) → AllByRecursion (HasValueZero s (quiver_of p.quiver) f) (polynomials generators)
  generators_are_zero adjoint sound posed f rep vanish =
      let q = quiver_of p.quiver in
      zero_along laws q f rep.represents (polynomials generators) (generators_in p) closed.same
      (sound.generators q p.starred (numbers p.marked) (polynomials p.assumptions) (posed_quiver p posed) (marked_are_objects p posed) f rep vanish)

  -- what the generators make zero is made zero by the generators of the definition
  pub makes_zero : (d : ℤ) (claim : List (ℤ × List ℕ)) → MakesZero s (quiver_of p.quiver) (polynomials generators) d claim → MakesZero s (quiver_of p.quiver) (generators_in p) d claim
  makes_zero d claim makes = record {
    zero = λ f rep cancels vanish. makes.zero f rep cancels
        (zero_along laws (quiver_of p.quiver) f rep (polynomials generators) (generators_in p) closed.same vanish);
  }

-- the generators are fixed
pub generators_are_unique : GeneratorsAreUnique
generators_are_unique p generators others closed other = go generators others (generators_in p) closed.same other.same
  where
    go : (gs hs : List Poly) (ps : List (List (ℤ × List ℕ))) → AllZip SamePolynomial (polynomials gs) ps → AllZip SamePolynomial (polynomials hs) ps → polynomials gs ≡ polynomials hs
    go [] [] [] h k = refl
    go [] (b ∷ hs) [] h k = absurd k
    go (a ∷ gs) hs [] h k = absurd h
    go [] hs (p ∷ ps) h k = absurd h
    go (a ∷ gs) [] (p ∷ ps) h k = absurd k
    go (a ∷ gs) (b ∷ hs) (p ∷ ps) h k =
        ap₂ ◌∷◌ (canonical_unique a.terms b.terms a.canonical b.canonical (Same_trans a.terms p b.terms h.0 (Same_sym b.terms p k.0))) (go gs hs ps h.1 k.1)
