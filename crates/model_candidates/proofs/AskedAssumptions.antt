-- The assumptions of a problem that are linear in its solved maps, found one after the other.
use Rattle.model_candidates.proofs.Prelude.{◌≡◌, ℕ, ◌+◌, ◌<◌, ℤ, pos, Bool, true, false, cond, not, ◌&&◌, List, [], ◌∷◌, ◌++◌, get_or, take, filter, Some, slice_get, option_map, refl, sym, ap, subst, ◌∙◌, All, AllByRecursion, and_parts, take_more, All-from_get_or, All-from_recursion, All-get_or, get_or_from_slice_get, slice_get-map, slice_get_within, Quiver, letters, IsTyped, is_path, HasSignature, HasValueZeroAt, all-append, Poly, Sig, quiver_of, letter_within, words_are_paths, matrices, Model, Problem, polynomials, IsTypedOf, HasObjects, assumptions_have_signatures, LinearAssumption, IsZeroIn, representation_of, is_linear, AreAsked, AreLinearAssumptions, IsAssumption, IsZeroAtSignature, has_few, is_asked, all_at, zip_at, zero_from_value}
use Rattle.model_candidates.proofs.AssumptionTerms.{all_kept, of_kept}

-- with one polynomial more
pub kept_more : (P : List (ℤ × List ℕ) → Type 0) (keep : Poly → Bool) (ps : List Poly) (k : ℕ) {p : Poly} → slice_get ps k ≡ Some p
    → AllByRecursion P (polynomials (filter keep (take k ps))) → (keep p ≡ true → P p.terms)
    → AllByRecursion P (polynomials (filter keep (take (k + 1) ps)))
kept_more P keep ps k {p} is before here =
    let more = take_more ps k p (slice_get_within ps k p is) ∙ ap (λ y. take k ps ++ y ∷ []) (get_or_from_slice_get ps k p p is) in
    let Kept : Poly → Type 0 = λ r. keep r ≡ true → P r.terms in
    all_kept P keep (take (k + 1) ps)
    (subst (AllByRecursion Kept) (sym more) (all-append Kept (take k ps) (p ∷ []) (of_kept P keep (take k ps) before) (here, tt)))

-- assumptions
pub letters_within : {q : Quiver} (p : Poly) → HasSignature q p.terms → All (λ t. All (λ letter. letter < letters q) t.1) p.terms
letters_within {q} p signed = All-from_get_or (λ t. All (λ letter. letter < letters q) t.1) p.terms (pos 0, []) (λ k inside.
    let t = get_or p.terms k (pos 0, []) in
    let path : is_path q signed.source signed.target t.1 ≡ true = All-get_or (λ r. is_path q signed.source signed.target r.1 ≡ true)
    p.terms k (pos 0, []) inside (words_are_paths q signed.source signed.target p.terms p.canonical signed.typed) in
    All-from_get_or (λ letter. letter < letters q) t.1 0 (λ place within. letter_within q signed.source signed.target t.1 place path
    within))

module _ (problem : Problem) where
  abbrev q : Quiver
  q = quiver_of problem.parts.quiver

  pub signed_at : (k : ℕ) {p : Poly} → slice_get problem.parts.assumptions k ≡ Some p → HasSignature q p.terms
  signed_at k {p} is = all_at (HasSignature q) (polynomials problem.parts.assumptions) k p.terms
      (All-from_recursion (HasSignature q) (polynomials problem.parts.assumptions) (assumptions_have_signatures problem.parts problem.posed))
      (slice_get-map (λ (r : Poly). r.terms) problem.parts.assumptions k ∙ ap (option_map (λ (r : Poly). r.terms)) is)

  pub terms_there : (k : ℕ) {p : Poly} → slice_get problem.parts.assumptions k ≡ Some p
      → get_or (polynomials problem.parts.assumptions) k [] ≡ p.terms
  terms_there k {p} is = get_or_from_slice_get (polynomials problem.parts.assumptions) k p.terms []
      (slice_get-map (λ (r : Poly). r.terms) problem.parts.assumptions k ∙ ap (option_map (λ (r : Poly). r.terms)) is)

  asked_few : (known : Bool) (p : List (ℤ × List ℕ)) → is_asked q problem.parts.solved known p ≡ true
      → has_few q problem.parts.solved (cond known 0 1) p ≡ true
  asked_few true p is = is
  asked_few false p is = (and_parts (has_few q problem.parts.solved 1 p) (not (has_few q problem.parts.solved 0 p)) is).0

  -- an assumption that is asked for, with its signature, is one of those
  pub is_assumption : (known : Bool) (k : ℕ) {p : Poly} {sig : Sig} → slice_get problem.parts.assumptions k ≡ Some p
      → slice_get problem.parts.sigs k ≡ Some sig → is_asked q problem.parts.solved known p.terms ≡ true
      → IsAssumption problem (cond known 0 1) (record { place = k; sig = sig })
  is_assumption known k {p} {sig} is at asked =
      let terms = terms_there k is in
      let ends = all_at (HasObjects problem.parts.quiver) problem.parts.sigs k sig problem.posed.assumption_ends at in
      record {
        place = slice_get_within problem.parts.assumptions k p is;
        few = subst (λ ts. has_few q problem.parts.solved (cond known 0 1) ts ≡ true) (sym terms) (asked_few known p.terms asked);
        source = ends.source;
        target = ends.target;
        typed = subst (IsTyped q sig.source.0 sig.target.0) (sym terms)
            (zip_at (IsTypedOf problem.parts.quiver) problem.parts.assumptions problem.parts.sigs k p sig problem.posed.assumptions_typed is at);
      }

  -- zero at its signature, it is zero
  pub zero_everywhere : (m : Model) (k : ℕ) {p : Poly} {sig : Sig} → slice_get problem.parts.assumptions k ≡ Some p
      → slice_get problem.parts.sigs k ≡ Some sig
      → IsZeroAtSignature problem m (record { place = k; sig = sig }) → IsZeroIn problem m p.terms
  zero_everywhere m k {p} {sig} is at vanishes =
      zero_from_value (matrices m.modulus) q (representation_of q m) p.terms p.canonical sig.source.0 sig.target.0
      (zip_at (IsTypedOf problem.parts.quiver) problem.parts.assumptions problem.parts.sigs k p sig problem.posed.assumptions_typed is at)
      (subst (HasValueZeroAt (matrices m.modulus) q (representation_of q m) sig.source.0 sig.target.0) (terms_there k is) vanishes)

  -- both kinds
  split : (P : List (ℤ × List ℕ) → Type 0) (ps : List Poly)
      → AllByRecursion (λ p. is_asked q problem.parts.solved true p.terms ≡ true → P p.terms) ps
      → AllByRecursion (λ p. is_asked q problem.parts.solved false p.terms ≡ true → P p.terms) ps
      → AllByRecursion (λ p. is_linear q problem.parts.solved p ≡ true → P p.terms) ps
  split P [] known other = tt
  split P (p ∷ ps) known other = (
    λ linear. elim (has_few q problem.parts.solved 0 p.terms) as
        (λ b. (b ≡ true → P p.terms) → ((has_few q problem.parts.solved 1 p.terms && not b) ≡ true → P p.terms) → P p.terms) [
          | true ↦ λ by_known by_other. by_known refl
          | false ↦ λ by_known by_other. by_other (ap (λ b. b && true) linear)
        ] known.0 other.0,
    split P ps known.1 other.1,
  )

  pub both_asked : {conditions equations : List LinearAssumption} → AreAsked problem true conditions → AreAsked problem false equations
      → AreLinearAssumptions problem conditions equations
  both_asked known other = record {
    each_condition = known.each;
    each = other.each;
    all = λ m holds zero.
        let ps = problem.parts.assumptions in
        all_kept (IsZeroIn problem m) (is_linear q problem.parts.solved) ps (split (IsZeroIn problem m) ps
        (of_kept (IsZeroIn problem m) (λ p. is_asked q problem.parts.solved true p.terms) ps (known.all m holds))
        (of_kept (IsZeroIn problem m) (λ p. is_asked q problem.parts.solved false p.terms) ps (other.all m zero)));
  }
