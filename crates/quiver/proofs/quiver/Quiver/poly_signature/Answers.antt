use Rattle.quiver.proofs.Prelude.{rules, arith, ◌<◌, ◌≤◌, ◌+◌, ℕ, ℤ, List, length, get_or, sym, subst, ⊎_elim, eq-or-lt_of_le, get_or_from_slice_get, IsPath, IsOver, quiver_of, letter_count}
use Rattle.quiver.proofs.TypedTerms.{if_none, typed_from_paths, paths_from_typed, all_have_the_signature}
use Rattle.quiver.proofs.quiver.Quiver.poly_signature.Goals as goal

-- where the first word is no path there is no signature
pub returns-in_err-signature-clause-untyped : goal.returns-in_err-signature-clause-untyped
returns-in_err-signature-clause-untyped c = if_none c.from_residual.result (λ u v nonzero typed.
    let terms = c.args.poly.now.terms in
    let first : ℤ × List ℕ = (c.term.result.0, c.term.result.1.now) in
    let some : 0 < length terms = search rules in
    let has = paths_from_typed (quiver_of c.args.self.now) u v terms c.args.poly.now.canonical.shaped nonzero typed in
    c.in_err-signature.ensures.no_path u v (subst (λ t. IsPath (quiver_of c.args.self.now) u v t.1) (get_or_from_slice_get terms 0 first first c.term.ensures) (has.paths 0 first some)))

pub has_signature-requires : goal.has_signature-requires
has_signature-requires c =
    let terms = c.args.poly.now.terms in
    let term : ℤ × List ℕ = (c.term-in-loop-place.result.0, c.term-in-loop-place.result.1.now) in
    let below : c.loop-place.place < length terms = search rules in
    subst (λ t. IsOver (letter_count c.args.self.now) t.1) (get_or_from_slice_get terms c.loop-place.place term term c.term-in-loop-place.ensures) (c.requires c.loop-place.place term below)

-- all words would have the signature of the first
pub returns-then-not-has_signature-clause-no_paths : goal.returns-then-not-has_signature-clause-no_paths
returns-then-not-has_signature-clause-no_paths c = λ u v has.
    let q = quiver_of c.args.self.now in
    let terms = c.args.poly.now.terms in
    let signature = c.in_ok-signature.signature in
    let term : ℤ × List ℕ = (c.term-in-loop-place.result.0, c.term-in-loop-place.result.1.now) in
    let below : c.loop-place.place < length terms = search rules in
    let read = c.loop-place.invariant.paths 0 term (omega arith) in
    let all = all_have_the_signature q u v signature.source.0 signature.target.0 (get_or terms 0 term).1 terms has (has.paths 0 term (omega (arith, below))) read c.loop-place.place term below in
    let path : IsPath q signature.source.0 signature.target.0 term.1 = subst (λ t. IsPath q signature.source.0 signature.target.0 t.1) (get_or_from_slice_get terms c.loop-place.place term term c.term-in-loop-place.ensures) all in
    absurd (cc (c.has_signature.ensures.1 path, c.if-not-has_signature.true))

pub returns-then-not-has_signature-clause-untyped : goal.returns-then-not-has_signature-clause-untyped
returns-then-not-has_signature-clause-untyped c = λ u v nonzero typed.
    returns-then-not-has_signature-clause-no_paths c u v (paths_from_typed (quiver_of c.args.self.now) u v c.args.poly.now.terms c.args.poly.now.canonical.shaped nonzero typed)

pub loop-place-preserved : goal.loop-place-preserved
loop-place-preserved c =
    let q = quiver_of c.args.self.now in
    let terms = c.args.poly.now.terms in
    let signature = c.in_ok-signature.signature in
    let below : c.loop-place.place < length terms = search rules in
    let term : ℤ × List ℕ = (c.term-in-loop-place.result.0, c.term-in-loop-place.result.1.now) in
    let path : IsPath q signature.source.0 signature.target.0 term.1 = c.has_signature.ensures.0 c.if-not-has_signature.false in
    record {
      within = omega (arith, below);
      paths = λ k d h. ⊎_elim
          (λ here. subst (λ i. IsPath q signature.source.0 signature.target.0 (get_or terms i d).1) (sym here)
          (subst (λ t. IsPath q signature.source.0 signature.target.0 t.1) (sym (get_or_from_slice_get terms c.loop-place.place term d c.term-in-loop-place.ensures)) path))
          (λ earlier. c.loop-place.invariant.paths k d earlier)
          (eq-or-lt_of_le (last k h));
    }
  where
    last : (k : ℕ) → k < c.loop-place.place + 1 → k ≤ c.loop-place.place
    last k h = omega arith

pub returns-clause-typed : goal.returns-clause-typed
returns-clause-typed c =
    let signature = c.in_ok-signature.signature in
    let past : length c.args.poly.now.terms ≤ c.loop-place.place = search rules in
    typed_from_paths (quiver_of c.args.self.now) signature.source.0 signature.target.0 c.args.poly.now.terms (λ k d below. c.loop-place.invariant.paths k d (omega (arith, below, past)))
