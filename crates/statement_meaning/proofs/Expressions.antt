-- The polynomial of an expression says its value.
use Rattle.statement_meaning.proofs.Prelude.{◌≡◌, ℕ, ◌<◌, ℤ, pos, negsuc, Bool, true, false, ◌||◌, List, [], ◌∷◌, Option, Some, None, Ok, refl, sym, ap, ap₂, subst, ◌∙◌, arith, or_left, or_right, and_parts, All-replicate, list_any, option_map, Structure, PreadditiveLaws, Poly, SamePolynomial, poly_multiple, Quiver, IsQuiver, letters, source, target, is_path, Representation, Represents, multiple, negated, scaled, products, multiple_result, finished-value, SamePolynomial-scaled, negated-multiple, Sig, Named, named_in, object_count, quiver_of, identity_in, ObjectsFirst, IsDeclared, letters-quiver_of, is_named, identity_is, is_quiver, Number, Primary, Letter, Identity, Bracket, Term, Term', Row_of-Factor, end_of-Factor, more_of-Factor, Sum, Sum', Row_of-Term, end_of-Term, more_of-Term, is_map, is_object, letter_number, object_number, letter_of, object_of, are_names, are_names_of_terms, are_names_of_term, are_names_of_factors, are_names_of_primary, is_adjoint, has_quote, has_quote_in_terms, has_quote_in_term, has_quote_in_factors, has_quote_in_primary, ◌>>=◌, Part, from_to, letter_signature, marked_signature, letter_poly, marked_poly, scaled_by, Summand, signed, bound, same_value, OfValues, values-ok, values-bind, path-letter, IsPathOf, typed-sum, Words, words-negated, words-multiple, Reading, plus, composite, marks_value, scaled_value, signed_value, sum_value, terms_value, term_value, factor_values, primary_value}
use Rattle.quiver.specs.declared.named.Named.TheVariants as variant
use Rattle.expressions.specs.Signatures as signatures
use Rattle.expressions.specs.Polynomials as polynomials
use Rattle.statement_meaning.proofs.Polynomials.{value_in, value-same, value-multiple, value-term}
use Rattle.statement_meaning.proofs.Denoted.{value_of, Denotes}
use Rattle.statement_meaning.proofs.Sums.{AreTerms, no_term, one_term, total_value, summed, total_is, denotes-summed}
use Rattle.statement_meaning.proofs.Products.{AreFactors, no_factor, one_factor, denotes-product}
use Rattle.statement_meaning.proofs.Marks.{AdjointsAre, denotes-marked}

module _ {Object Arrow : Type 0} (r : Reading Object Arrow) (laws : PreadditiveLaws r.category) (declared : IsDeclared r.names) (first : ObjectsFirst r.names)
    (rep : Represents r.category (quiver_of r.names) r.maps) where
  abbrev q : Quiver
  q = quiver_of r.names

  abbrev s : Structure Object Arrow
  s = r.category

  abbrev f : Representation Object Arrow
  f = r.maps

  quiver : IsQuiver q
  quiver = is_quiver r.names declared first

  -- a letter
  denotes-letter : (a : ℕ) → a < letters q → Denotes s q f (Some (letter_signature q a)) (letter_poly a) (Some (f.arrow a))
  denotes-letter a h =
      let u = source q a in
      let v = target q a in
      let in_u = quiver.source_is_object a h in
      let in_v = quiver.target_is_object a h in
      let path = path-letter q a h in
      let none = s.zero (f.object u) (f.object v) in
      let is_zero = laws.add_zero (f.object u) (f.object v) (f.arrow a) (rep.arrows a h) in
      record {
        source_below = in_u;
        target_below = in_v;
        paths = All-replicate (λ (t : ℤ × List ℕ). is_path q u v t.1 ≡ true) 1 (pos 1, a ∷ []) path;
        same = ap Some (sym (value-term laws q f rep u v in_u in_v (pos 1, a ∷ []) [] path ∙ ap (λ x. s.add x none) is_zero ∙ is_zero));
      }

  denotes-map : (o : Option Named) (name : List ℕ) → named_in r.names name ≡ o → is_map o ≡ true
      → Denotes s q f (Some (letter_signature q (letter_number o))) (letter_poly (letter_number o)) (Some (f.arrow (letter_number o)))
  denotes-map None name e known = absurd (cc)
  denotes-map (Some (variant.Object v)) name e known = absurd (cc)
  denotes-map (Some (variant.Map a)) name e known = denotes-letter a.0 (subst (λ n. a.0 < n) (sym (letters-quiver_of r.names)) (is_named r.names name (variant.Map a) e).0)

  -- the identity of an object
  denotes-unit : (v : ℕ) → v < object_count r.names → Denotes s q f (Some (from_to v v)) (letter_poly (identity_in r.names v)) (Some (s.identity (f.object v)))
  denotes-unit v below =
      subst (λ a. Denotes s q f (Some (from_to v v)) (letter_poly a) (Some (s.identity (f.object v)))) (sym (identity_is r.names first v below))
      (subst (λ x. Denotes s q f (Some (from_to v v)) (letter_poly v) (Some x)) (rep.identities v below)
      (subst (λ x. Denotes s q f (Some (from_to x v)) (letter_poly v) (Some (f.arrow v))) (quiver.identity_source v below)
      (subst (λ x. Denotes s q f (Some (from_to (source q v) x)) (letter_poly v) (Some (f.arrow v))) (quiver.identity_target v below)
      (denotes-letter v (quiver.identity_is_letter v below)))))

  denotes-identity : (o : Option Named) (name : List ℕ) → named_in r.names name ≡ o → is_object o ≡ true
      → Denotes s q f (Some (from_to (object_number o) (object_number o))) (letter_poly (identity_in r.names (object_number o))) (Some (s.identity (f.object (object_number o))))
  denotes-identity None name e known = absurd (cc)
  denotes-identity (Some (variant.Object v)) name e known = denotes-unit v.0 (is_named r.names name (variant.Object v) e).0
  denotes-identity (Some (variant.Map a)) name e known = absurd (cc)

  -- multiples
  denotes-multiple : (o : Option Sig) (k : ℤ) (p x : Poly) (a : Option Arrow) → Denotes s q f o p a → multiple_result k p ≡ Ok x → Denotes s q f o x (option_map (multiple s k) a)
  denotes-multiple None k p x a d e = (sym (finished-value (products k []) (scaled k []) x (subst (λ y. multiple_result k y ≡ Ok x) d.0 e)), ap (option_map (multiple s k)) d.1)
  denotes-multiple (Some i) k p x a d e = record {
    source_below = d.source_below;
    target_below = d.target_below;
    paths = words-multiple (λ w. is_path q i.source.0 i.target.0 w ≡ true) k p x d.paths e;
    same =
        ap (option_map (multiple s k)) d.same
        ∙ ap Some (sym (value-multiple laws q f rep i.source.0 i.target.0 d.source_below d.target_below k p))
        ∙ ap Some (sym (value-same laws q f rep i.source.0 i.target.0 d.source_below d.target_below x (poly_multiple k p)
        (subst (λ y. SamePolynomial y (poly_multiple k p)) (finished-value (products k p) (scaled k p) x e) (SamePolynomial-scaled k p))));
  }

  denotes-scaled : (o : Option Sig) (literal : Option Number) (p x : Poly) (a : Option Arrow) → Denotes s q f o p a → scaled_by literal p ≡ Ok x → Denotes s q f o x (scaled_value s literal a)
  denotes-scaled o None p x a d e = subst (λ y. Denotes s q f o y a) (same_value p x e) d
  denotes-scaled o (Some n) p x a d e = denotes-multiple o n.value p x a d e

  denotes-negated : (o : Option Sig) (p : Poly) (a : Option Arrow) → Denotes s q f o p a → Denotes s q f o (negated p) (option_map s.negate a)
  denotes-negated None p a d = (ap negated d.0, ap (option_map s.negate) d.1)
  denotes-negated (Some i) p a d =
      let u = i.source.0 in
      let v = i.target.0 in
      let x = value_of s q f i p in
      let once = laws.add_zero (f.object u) (f.object v) x (value_in laws q f rep u v d.source_below d.target_below p) in
      let x_in = value_in laws q f rep u v d.source_below d.target_below p in
      let ends = ap₂ s.zero x_in.source x_in.target in
      record {
        source_below = d.source_below;
        target_below = d.target_below;
        paths = words-negated (λ w. is_path q i.source.0 i.target.0 w ≡ true) p d.paths;
        same =
            ap (option_map s.negate) d.same
            ∙ ap Some (sym (ap s.negate (ap (s.add x) ends ∙ once)))
            ∙ ap Some (sym (value-multiple laws q f rep u v d.source_below d.target_below (negsuc 0) p))
            ∙ ap (λ y. Some (value_of s q f i y)) (sym (negated-multiple p));
      }

  denotes-signed : (o : Option Sig) (negative : Bool) (p : Poly) (a : Option Arrow) → Denotes s q f o p a → Denotes s q f o (signed (negative, p)) (signed_value s negative a)
  denotes-signed o false p a d = d
  denotes-signed o true p a d = denotes-negated o p a d

  -- the values of terms, in a list
  abbrev values : {m : _} → Row_of-Term m → List (Option Arrow)
  values end_of-Term = []
  values (more_of-Term t rest) = term_value r t ∷ values rest

  values-total : {m : _} (k : Row_of-Term m) → terms_value r k ≡ total_value s (values k)
  values-total end_of-Term = refl
  values-total (more_of-Term t rest) = ap (plus s (term_value r t)) (values-total rest)

  abbrev Adjoints : Type 0
  Adjoints = AdjointsAre s r.involution q f

  -- the sum is the polynomial of the terms one after another
  denotes-total : (o : Option Sig) (ss : List Summand) (x : Poly) (a : Option Arrow) → Words (IsPathOf q o) x → Denotes s q f o (summed ss) a → polynomials.total ss ≡ Ok x → Denotes s q f o x a
  denotes-total None ss [] a h d e = (refl, d.1)
  denotes-total None ss (t ∷ x) a h d e = absurd (h 0 t (omega arith))
  denotes-total (Some i) ss x a h d e = record {
    source_below = d.source_below;
    target_below = d.target_below;
    paths = h;
    same = d.same ∙ ap Some (sym (value-same laws q f rep i.source.0 i.target.0 d.source_below d.target_below x (summed ss) (total_is ss x e)));
  }

  -- by induction on the expression; the involution counts only where there is a quote
  mutual
    pub denotes-sum : (k : Sum) → are_names r.names k ≡ true → (has_quote k ≡ true → Adjoints) → (o : Option Sig) → signatures.sum_signature r.names k ≡ Ok o → (x : Poly) → polynomials.sum_poly r.names k ≡ Ok x
        → Denotes s q f o x (sum_value r k)
    denotes-sum (Sum' at shape terms) known adjoints o e x d =
        let parts = bound (signatures.terms_parts r.names terms) (signatures.sum_from (Ok None)) o e in
        let polys = bound (polynomials.summands r.names terms) polynomials.total x d in
        let whole = denotes-summed laws q f rep parts.value polys.value (values terms) o (denotes-terms terms known adjoints parts.value parts.is polys.value polys.is) parts.then in
        subst (Denotes s q f o x) (sym (values-total terms)) (denotes-total o polys.value x (total_value s (values terms)) (typed-sum r.names declared first (Sum' at shape terms) known o e x d) whole polys.then)

    denotes-terms : {m : _} (k : Row_of-Term m) → are_names_of_terms r.names k ≡ true → (has_quote_in_terms k ≡ true → Adjoints)
        → OfValues (signatures.terms_parts r.names k) (polynomials.summands r.names k) (λ parts ss. AreTerms laws q f rep parts ss (values k))
    denotes-terms end_of-Term known adjoints = values-ok (λ parts ss. AreTerms laws q f rep parts ss []) [] [] no_term
    denotes-terms (more_of-Term t rest) known adjoints =
        let names = and_parts (are_names_of_term r.names t) (are_names_of_terms r.names rest) known in
        let IsHere = λ (part : Part) (s' : Summand). Denotes s q f part.1 (signed s') (term_value r t) in
        let AreAll = λ (parts : List Part) (ss : List Summand). AreTerms laws q f rep parts ss (term_value r t ∷ values rest) in
        values-bind IsHere AreAll _ _ _ _
        (values-bind (λ o x. IsHere (signatures.term_at t, o) (polynomials.is_negative t, x)) IsHere (signatures.term_signature r.names t) _ (polynomials.term_poly r.names t) _
        (denotes-term t names.0 (λ h. adjoints (or_left (has_quote_in_term t) (has_quote_in_terms rest) h))) (λ o x. values-ok IsHere _ _))
        (λ part s' here. values-bind (λ parts ss. AreTerms laws q f rep parts ss (values rest)) AreAll (signatures.terms_parts r.names rest) _ (polynomials.summands r.names rest) _
        (denotes-terms rest names.1 (λ h. adjoints (or_right (has_quote_in_term t) (has_quote_in_terms rest) h)))
        (λ parts ss later. values-ok AreAll (part ∷ parts) (s' ∷ ss) (one_term part s' (term_value r t) parts ss (values rest) here later)))

    -- a term, with its sign
    denotes-term : (t : Term) → are_names_of_term r.names t ≡ true → (has_quote_in_term t ≡ true → Adjoints)
        → OfValues (signatures.term_signature r.names t) (polynomials.term_poly r.names t) (λ o x. Denotes s q f o (signed (polynomials.is_negative t, x)) (term_value r t))
    denotes-term (Term' at negative literal shape factors) known adjoints o e x d =
        let vs = factor_values r factors in
        let product = bound (polynomials.factor_polys r.names factors >>= polynomials.product_poly) (scaled_by literal) x d in
        let whole = values-bind (λ parts ps. AreFactors laws q f rep parts ps vs) (λ o x. Denotes s q f o x (composite s vs)) (signatures.factors_parts r.names factors) signatures.product_signature (polynomials.factor_polys r.names factors) polynomials.product_poly
        (denotes-factors factors known adjoints) (λ parts ps each o e x d. denotes-product laws q f rep parts ps vs o x each e d) o e product.value product.is in
        denotes-signed o negative x (scaled_value s literal (composite s vs)) (denotes-scaled o literal product.value x (composite s vs) whole product.then)

    denotes-factors : {m : _} (k : Row_of-Factor m) → are_names_of_factors r.names k ≡ true → (has_quote_in_factors k ≡ true → Adjoints)
        → OfValues (signatures.factors_parts r.names k) (polynomials.factor_polys r.names k) (λ parts ps. AreFactors laws q f rep parts ps (factor_values r k))
    denotes-factors end_of-Factor known adjoints = values-ok (λ parts ps. AreFactors laws q f rep parts ps []) [] [] no_factor
    denotes-factors (more_of-Factor at primary marks rest) known adjoints =
        let names = and_parts (are_names_of_primary r.names primary) (are_names_of_factors r.names rest) known in
        let here = has_quote_in_primary primary || list_any is_adjoint marks in
        let in_front = λ (h : here ≡ true). adjoints (or_left here (has_quote_in_factors rest) h) in
        let value = marks_value r marks (primary_value r primary) in
        let AreAll = λ (parts : List Part) (ps : List Poly). AreFactors laws q f rep parts ps (value ∷ factor_values r rest) in
        values-bind (λ part p. Denotes s q f part.1 p value) AreAll _ _ _ _
        (λ part e p d.
        let marked = bound (signatures.primary_signature r.names primary >>= marked_signature at marks) _ part e in
        subst (λ x. Denotes s q f x.1 p value) (same_value _ part marked.then)
        (values-bind (λ o x. Denotes s q f o x (primary_value r primary)) (λ o x. Denotes s q f o x value) (signatures.primary_signature r.names primary) (marked_signature at marks) (polynomials.primary_poly r.names primary) (marked_poly q marks)
        (denotes-primary primary names.0 (λ h. in_front (or_left (has_quote_in_primary primary) (list_any is_adjoint marks) h)))
        (λ o x. denotes-marked r laws q quiver rep at marks (λ h. in_front (or_right (has_quote_in_primary primary) (list_any is_adjoint marks) h)) o x (primary_value r primary)) marked.value marked.is p d))
        (λ part p first. values-bind (λ parts ps. AreFactors laws q f rep parts ps (factor_values r rest)) AreAll (signatures.factors_parts r.names rest) _ (polynomials.factor_polys r.names rest) _
        (denotes-factors rest names.1 (λ h. adjoints (or_right here (has_quote_in_factors rest) h)))
        (λ parts ps later. values-ok AreAll (part ∷ parts) (p ∷ ps) (one_factor part p value parts ps (factor_values r rest) first later)))

    denotes-primary : (k : Primary) → are_names_of_primary r.names k ≡ true → (has_quote_in_primary k ≡ true → Adjoints)
        → OfValues (signatures.primary_signature r.names k) (polynomials.primary_poly r.names k) (λ o x. Denotes s q f o x (primary_value r k))
    denotes-primary (Letter n) known adjoints =
        values-ok (λ o x. Denotes s q f o x (Some (f.arrow (letter_of r.names n)))) (Some (letter_signature q (letter_of r.names n))) _ (denotes-map (named_in r.names n.text) n.text refl known)
    denotes-primary (Identity n) known adjoints =
        values-ok (λ o x. Denotes s q f o x (Some (s.identity (f.object (object_of r.names n))))) (Some (from_to (object_of r.names n) (object_of r.names n))) _ (denotes-identity (named_in r.names n.text) n.text refl known)
    denotes-primary (Bracket k) known adjoints = denotes-sum k known adjoints
