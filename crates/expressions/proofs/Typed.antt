-- The words of an expression's polynomial are paths of its signature, and it has none where the expression is open.
use Rattle.expressions.proofs.Prelude.{◌≡◌, ◌<◌, ℕ, ℤ, pos, true, List, [], ◌∷◌, Option, Some, None, Ok, refl, sym, subst, ◌∙◌, and_parts, All-replicate, Poly, Quiver, IsQuiver, source, is_path, Sig, Named, Object, Map, Declaration, named_in, object_count, quiver_of, identity_in, ObjectsFirst, IsDeclared, letters-quiver_of, is_named, identity_is, is_quiver, typed_from_paths, Spot, Primary, Identity, Bracket, Term', Row_of-Factor, end_of-Factor, more_of-Factor, Sum, Sum', Row_of-Term, end_of-Term, more_of-Term, ◌>>=◌, is_map, is_object, letter_number, object_number, letter_of, object_of, are_names, are_names_of_terms, are_names_of_term, are_names_of_factors, are_names_of_primary, from_to, letter_signature, marked_signature, sides_signature, equation_signature, sum_at, letter_poly, marked_poly, scaled_by, equation_poly, EquationsAreTyped}
use Rattle.statement_syntax.specs.declared.tree.Primary.{Letter}
use Rattle.statement_syntax.specs.declared.tree.Term.{Term}
use Rattle.expressions.specs.Signatures as signatures
use Rattle.expressions.specs.Polynomials as polynomials
use Rattle.expressions.proofs.Sequences.{bound, same_value, OfValues, values-ok, values-bind}
use Rattle.expressions.proofs.Words.{weaker, words-difference}
use Rattle.expressions.proofs.Letters.{words-scaled_by}
use Rattle.expressions.proofs.TypedParts.{same_passed, IsPathOf, ArePathsOf, path-letter, AreSummands, no_summand, one_summand, typed-total, AreFactors, no_factor, one_factor, typed-product, typed-marked}

module _ (ds : List Declaration) (declared : IsDeclared ds) (first : ObjectsFirst ds) where
  abbrev q : Quiver
  q = quiver_of ds

  abbrev Typed : Option Sig → Poly → Type 0
  Typed = ArePathsOf q

  quiver : IsQuiver q
  quiver = is_quiver ds declared first

  one_typed : (s : Option Sig) (a : ℕ) → IsPathOf q s (a ∷ []) → Typed s (letter_poly a)
  one_typed s a path = All-replicate (λ (t : ℤ × List ℕ). IsPathOf q s t.1) 1 (pos 1, a ∷ []) path

  typed-letter : (o : Option Named) (name : List ℕ) → named_in ds name ≡ o → is_map o ≡ true → Typed (Some (letter_signature q (letter_number o))) (letter_poly (letter_number o))
  typed-letter None name e known = absurd (cc)
  typed-letter (Some (Object v)) name e known = absurd (cc)
  typed-letter (Some (Map a)) name e known = one_typed (Some (letter_signature q a.0)) a.0 (path-letter q a.0 (subst (λ n. a.0 < n) (sym (letters-quiver_of ds)) (is_named ds name (Map a) e).0))

  -- the identity of an object is a path from it to itself
  path-identity : (v : ℕ) → v < object_count ds → is_path q v v (identity_in ds v ∷ []) ≡ true
  path-identity v below =
      subst (λ a. is_path q v v (a ∷ []) ≡ true) (sym (identity_is ds first v below))
      (subst (λ x. is_path q x v (v ∷ []) ≡ true) (quiver.identity_source v below)
      (subst (λ x. is_path q (source q v) x (v ∷ []) ≡ true) (quiver.identity_target v below) (path-letter q v (quiver.identity_is_letter v below))))

  typed-identity : (o : Option Named) (name : List ℕ) → named_in ds name ≡ o → is_object o ≡ true → Typed (Some (from_to (object_number o) (object_number o))) (letter_poly (identity_in ds (object_number o)))
  typed-identity None name e known = absurd (cc)
  typed-identity (Some (Object v)) name e known = one_typed (Some (from_to v.0 v.0)) (identity_in ds v.0) (path-identity v.0 (is_named ds name (Object v) e).0)
  typed-identity (Some (Map a)) name e known = absurd (cc)

  -- by induction on the expression
  mutual
    pub typed-sum : (s : Sum) → are_names ds s ≡ true → OfValues (signatures.sum_signature ds s) (polynomials.sum_poly ds s) Typed
    typed-sum (Sum' at shape terms) known =
        values-bind (AreSummands q) Typed (signatures.terms_parts ds terms) (signatures.sum_from (Ok None)) (polynomials.summands ds terms) polynomials.total (typed-terms terms known) (typed-total q)

    typed-terms : {m : _} (k : Row_of-Term m) → are_names_of_terms ds k ≡ true → OfValues (signatures.terms_parts ds k) (polynomials.summands ds k) (AreSummands q)
    typed-terms end_of-Term known = values-ok (AreSummands q) [] [] no_summand
    typed-terms (more_of-Term t rest) known =
        let names = and_parts (are_names_of_term ds t) (are_names_of_terms ds rest) known in
        values-bind (λ part s. Typed part.1 s.1) (AreSummands q) _ _ _ _
        (values-bind Typed (λ part s. Typed part.1 s.1) (signatures.term_signature ds t) _ (polynomials.term_poly ds t) _ (typed-term t names.0) (λ o p. values-ok (λ part s. Typed part.1 s.1) _ _))
        (λ part s here. values-bind (AreSummands q) (AreSummands q) (signatures.terms_parts ds rest) _ (polynomials.summands ds rest) _ (typed-terms rest names.1)
        (λ parts ss later. values-ok (AreSummands q) (part ∷ parts) (s ∷ ss) (one_summand part s parts ss here later)))

    typed-term : (t : Term) → are_names_of_term ds t ≡ true → OfValues (signatures.term_signature ds t) (polynomials.term_poly ds t) Typed
    typed-term (Term' at negative literal shape factors) known o e r d =
        let product = bound (polynomials.factor_polys ds factors >>= polynomials.product_poly) (scaled_by literal) r d in
        let typed = values-bind (AreFactors q) Typed _ signatures.product_signature _ polynomials.product_poly (typed-factors factors known) (typed-product q) o e product.value product.is in
        words-scaled_by (IsPathOf q o) literal product.value typed r product.then

    typed-factors : {m : _} (k : Row_of-Factor m) → are_names_of_factors ds k ≡ true → OfValues (signatures.factors_parts ds k) (polynomials.factor_polys ds k) (AreFactors q)
    typed-factors end_of-Factor known = values-ok (AreFactors q) [] [] no_factor
    typed-factors (more_of-Factor at primary marks rest) known =
        let names = and_parts (are_names_of_primary ds primary) (are_names_of_factors ds rest) known in
        values-bind (λ part p. Typed part.1 p) (AreFactors q) _ _ _ _
        (λ part e p d.
        let marked = bound (signatures.primary_signature ds primary >>= marked_signature at marks) _ part e in
        subst (λ x. Typed x.1 p) (same_value _ part marked.then)
        (values-bind Typed Typed _ (marked_signature at marks) _ (marked_poly q marks) (typed-primary primary names.0) (typed-marked q quiver at marks) marked.value marked.is p d))
        (λ part p here. values-bind (AreFactors q) (AreFactors q) (signatures.factors_parts ds rest) _ (polynomials.factor_polys ds rest) _ (typed-factors rest names.1)
        (λ parts ps later. values-ok (AreFactors q) (part ∷ parts) (p ∷ ps) (one_factor part p parts ps here later)))

    typed-primary : (x : Primary) → are_names_of_primary ds x ≡ true → OfValues (signatures.primary_signature ds x) (polynomials.primary_poly ds x) Typed
    typed-primary (Letter n) known = values-ok Typed (Some (letter_signature q (letter_of ds n))) _ (typed-letter (named_in ds n.text) n.text refl known)
    typed-primary (Identity n) known = values-ok Typed (Some (from_to (object_of ds n) (object_of ds n))) _ (typed-identity (named_in ds n.text) n.text refl known)
    typed-primary (Bracket s) known = typed-sum s known

  -- an equation
  side-left : (l r : Spot) (s t : Option Sig) (e : Sig) → sides_signature l r s t ≡ Ok e → (w : List ℕ) → IsPathOf q s w → IsPathOf q (Some e) w
  side-left l r None t e h w path = absurd path
  side-left l r (Some s) None e h w path = subst (λ x. IsPathOf q (Some x) w) (same_value s e h) path
  side-left l r (Some s) (Some t) e h w path = subst (λ x. IsPathOf q (Some x) w) (same_passed s t _ _ _ h).1 path

  side-right : (l r : Spot) (s t : Option Sig) (e : Sig) → sides_signature l r s t ≡ Ok e → (w : List ℕ) → IsPathOf q t w → IsPathOf q (Some e) w
  side-right l r s None e h w path = absurd path
  side-right l r None (Some t) e h w path = subst (λ x. IsPathOf q (Some x) w) (same_value t e h) path
  side-right l r (Some s) (Some t) e h w path = let both = same_passed s t _ _ _ h in subst (λ x. IsPathOf q (Some x) w) (sym both.0 ∙ both.1) path

  typed-equation : (left right : Sum) → are_names ds left ≡ true → are_names ds right ≡ true → OfValues (equation_signature ds left right) (equation_poly ds left right) (λ e p. Typed (Some e) p)
  typed-equation left right left_names right_names =
      values-bind Typed (λ e p. Typed (Some e) p) (signatures.sum_signature ds left) _ (polynomials.sum_poly ds left) _ (typed-sum left left_names) (λ s m on_left.
      values-bind Typed (λ e p. Typed (Some e) p) (signatures.sum_signature ds right) _ (polynomials.sum_poly ds right) _ (typed-sum right right_names) (λ t n on_right e h p d.
      words-difference (IsPathOf q (Some e)) m n p (weaker (IsPathOf q s) (IsPathOf q (Some e)) (side-left (sum_at left) (sum_at right) s t e h) m on_left)
      (weaker (IsPathOf q t) (IsPathOf q (Some e)) (side-right (sum_at left) (sum_at right) s t e h) n on_right) d))

pub equations_are_typed : EquationsAreTyped
equations_are_typed ds left right s p declared first left_names right_names signature poly =
    typed_from_paths (quiver_of ds) s.source.0 s.target.0 p (typed-equation ds declared first left right left_names right_names s signature p poly)
