-- What the signature of a polynomial tells of its type.
use Rattle.cancel_rules.proofs.Prelude.{eqb-true, ◌≡◌, ◌≢◌, ℕ, ◌<◌, Bool, true, false, List, [], ◌∷◌, All, length, Option, Some, None, IfSome, IfNone, is_some, refl, sym, ap, subst, arith, Term, Quiver, IsQuiver, source, leads, is_path, IsTyped, HasSignature, step, Sig, HasPaths, clash}

module _ (q : Quiver) (quiver : IsQuiver q) where
  -- the ends of a path are objects
  source_in : (u v a : ℕ) (w : List ℕ) → leads q u v (a ∷ w) ≡ true → u < q.objects
  source_in u v a [] is =
      let s = step q u v a [] is in
      subst (λ n. n < q.objects) (sym (eqb-true u (source q a) s.rest)) (quiver.source_is_object a s.letter)
  source_in u v a (b ∷ w) is = source_in u (source q a) b w (step q u v a (b ∷ w) is).rest

  target_in : (u v a : ℕ) (w : List ℕ) → leads q u v (a ∷ w) ≡ true → v < q.objects
  target_in u v a w is = let s = step q u v a w is in subst (λ n. n < q.objects) s.target (quiver.target_is_object a s.letter)

  ends_in : (u v : ℕ) (w : List ℕ) → is_path q u v w ≡ true → (u < q.objects) × (v < q.objects)
  ends_in u v [] is = absurd (clash false is refl)
  ends_in u v (a ∷ w) is = (source_in u v a w is, target_in u v a w is)

  module _ (p : List Term) where
    first_word : (u v : ℕ) → (terms : List Term) → terms ≢ [] → All (λ t. is_path q u v t.1 ≡ true) terms → (u < q.objects) × (v < q.objects)
    first_word u v [] some paths = absurd (some refl)
    first_word u v (t ∷ terms) some paths = ends_in u v t.1 (paths 0 t (omega arith))

    -- of a polynomial with terms
    pub typed_tells : p ≢ [] → (o : Option Sig) → IfSome o (λ s. HasPaths q s.source.0 s.target.0 p) → IfSome o (λ s. IsTyped q s.source.0 s.target.0 p)
        → IfNone o ((u v : ℕ) → p ≢ [] → IsTyped q u v p → ⊥) → (b : Bool) → b ≡ is_some o → (b ≡ true → HasSignature q p) × (HasSignature q p → b ≡ true)
    typed_tells some (Some s) paths typed untyped b is =
        let ends = first_word s.source.0 s.target.0 p some paths.paths in
        (λ yes. record { source = s.source.0; target = s.target.0; source_is_object = ends.0; target_is_object = ends.1; typed = typed }, λ has. is)
    typed_tells some None paths typed untyped b is =
        (λ yes. absurd (clash b yes is), λ has. absurd (untyped has.source has.target some has.typed))

-- zero is typed of any two objects
pub zero_is_typed : (q : Quiver) → 0 < q.objects → (p : List Term) → length p ≡ 0 → HasSignature q p
zero_is_typed q some [] none = record { source = 0; target = 0; source_is_object = some; target_is_object = some; typed = record { at = λ w there. absurd (there refl) } }
zero_is_typed q some (t ∷ p) none = absurd (omega arith)

pub has_terms : (p : List Term) → length p ≢ 0 → p ≢ []
has_terms p some none = some (ap length none)
