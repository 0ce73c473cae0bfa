-- What holds of all letters that an expression writes holds of all letters of its polynomial.
use Rattle.expressions.proofs.Prelude.{◌≡◌, ◌<◌, ℕ, zero, suc, ℤ, pos, negsuc, Bool, true, false, List, [], ◌∷◌, ◌++◌, replicate, Option, Some, None, refl, eq-eqb, or_left, or_right, and_parts, All-nil, All-head, All-tail, All-append, All-push, All-replicate, All, AllByRecursion, list_any, Poly, term, star, adjoint_word, adjoint_poly, Letter, Named, Object, Map, Declaration, named_in, object_count, quiver_of, identity_in, is_named, Mark, Adjoint, Power, Number, Primary, letter, Identity, Bracket, Term', Row_of-Factor, end_of-Factor, more_of-Factor, Sum, Sum', Row_of-Term, end_of-Term, more_of-Term, is_map, is_object, letter_number, object_number, are_names, are_names_of_terms, are_names_of_term, are_names_of_factors, are_names_of_primary, is_adjoint, has_quote, has_quote_in_terms, has_quote_in_term, has_quote_in_factors, has_quote_in_primary, is_the_object, has_identity, has_identity_in_terms, has_identity_in_term, has_identity_in_factors, has_identity_in_primary, letter_poly, power_poly, mark_poly, marked_poly, product_from, product_poly, scaled_by, Summand, signed, total, sum_poly, summands, term_poly, factor_polys, primary_poly}
use Rattle.statement_syntax.specs.declared.tree.Term.{Term}
use Rattle.expressions.specs.Polynomials.{sum_step, sum_from}
use Rattle.expressions.proofs.Sequences.{OfValue, value-ok, value-bind}
use Rattle.expressions.proofs.Words.{Words, words-negated, words-sum, words-difference, words-multiple, words-collection, words-adjoint, words-product}

-- sums, multiples and products
module _ (P : List ℕ → Type 0) where
  pub words-signed : (s : Summand) → Words P s.1 → Words P (signed s)
  words-signed (false, p) h = h
  words-signed (true, p) h = words-negated P p h

  pub words-sum_step : (p : Poly) (s : Summand) → Words P p → Words P s.1 → OfValue (sum_step p s) (Words P)
  words-sum_step p (false, q) h k r e = words-sum P p q r h k e
  words-sum_step p (true, q) h k r e = words-difference P p q r h k e

  words-sum_from : (p : Poly) (ss : List Summand) → Words P p → AllByRecursion (λ s. Words P s.1) ss → OfValue (sum_from p ss) (Words P)
  words-sum_from p [] h k = value-ok (Words P) p h
  words-sum_from p (s ∷ ss) h k = value-bind (Words P) (Words P) (sum_step p s) (λ next. sum_from next ss) (words-sum_step p s h k.0) (λ next m. words-sum_from next ss m k.1)

  words-total : (ss : List Summand) → AllByRecursion (λ s. Words P s.1) ss → OfValue (total ss) (Words P)
  words-total [] h = value-ok (Words P) [] (All-nil _)
  words-total (s ∷ ss) h = words-sum_from (signed s) ss (words-signed s h.0) h.1

  pub words-scaled_by : (l : Option Number) (p : Poly) → Words P p → OfValue (scaled_by l p) (Words P)
  words-scaled_by None p h r e = value-ok (Words P) p h r e
  words-scaled_by (Some n) p h r e = words-multiple P n.value p r h e

  module _ (joined : (v w : List ℕ) → P v → P w → P (v ++ w)) where
    words-product_from : (p : Poly) (ps : List Poly) → Words P p → AllByRecursion (Words P) ps → OfValue (product_from p ps) (Words P)
    words-product_from p [] h k = value-ok (Words P) p h
    words-product_from p (q ∷ ps) h k =
        value-bind (Words P) (Words P) _ (λ next. product_from next ps) (λ r e. words-product P P P joined p q r h k.0 e) (λ next m. words-product_from next ps m k.1)

    pub words-product_poly : (ps : List Poly) → AllByRecursion (Words P) ps → OfValue (product_poly ps) (Words P)
    words-product_poly [] h = value-ok (Words P) [] (All-nil _)
    words-product_poly (p ∷ ps) h = words-product_from p ps h.0 h.1

    words-copies : (n : ℕ) (p : Poly) → Words P p → AllByRecursion (Words P) (replicate n p)
    words-copies zero p h = tt
    words-copies (suc n) p h = (h, words-copies n p h)

    pub words-power_poly : (exponent : ℤ) (p : Poly) → Words P p → OfValue (power_poly exponent p) (Words P)
    words-power_poly (pos (suc n)) p h = words-product_poly (replicate (suc n) p) (words-copies (suc n) p h)
    words-power_poly (pos zero) p h = value-ok (Words P) p h
    words-power_poly (negsuc n) p h = value-ok (Words P) p h

module _ (ds : List Declaration) (L : ℕ → Type 0) (maps : (name : List ℕ) (a : Letter) → named_in ds name ≡ Some (Map a) → L a.0) where
  abbrev pub Over : List ℕ → Type 0
  Over w = All L w

  -- adjoints of such letters are such letters
  abbrev pub IsClosed : Type 0
  IsClosed = (a : ℕ) → L a → L (star (quiver_of ds) a)

  -- the identity of the object v, where it occurs
  abbrev pub Identities : (ℕ → Bool) → Type 0
  Identities occurs = (v : ℕ) → v < object_count ds → occurs v ≡ true → L (identity_in ds v)

  over-adjoint_word : IsClosed → (w : List ℕ) → Over w → Over (adjoint_word (quiver_of ds) w)
  over-adjoint_word closed [] h = All-nil L
  over-adjoint_word closed (a ∷ w) h = All-push L (adjoint_word (quiver_of ds) w) (star (quiver_of ds) a) (over-adjoint_word closed w (All-tail L a w h)) (closed a (All-head L a w h))

  pub over-mark_poly : (m : Mark) → (is_adjoint m ≡ true → IsClosed) → (p : Poly) → Words Over p → OfValue (mark_poly (quiver_of ds) m p) (Words Over)
  over-mark_poly Adjoint closed p h r e =
      words-collection Over (adjoint_poly (quiver_of ds) p) r (words-adjoint Over Over (quiver_of ds) (over-adjoint_word (closed refl)) p h) e
  over-mark_poly (Power at exponent) closed p h r e = words-power_poly Over (All-append L) exponent.value p h r e

  over-marked_poly : (marks : List Mark) → (list_any is_adjoint marks ≡ true → IsClosed) → (p : Poly) → Words Over p → OfValue (marked_poly (quiver_of ds) marks p) (Words Over)
  over-marked_poly [] closed p h = value-ok (Words Over) p h
  over-marked_poly (m ∷ marks) closed p h =
      value-bind (Words Over) (Words Over) (mark_poly (quiver_of ds) m p) (marked_poly (quiver_of ds) marks) (over-mark_poly m (λ here. closed (or_left _ _ here)) p h)
      (over-marked_poly marks (λ more. closed (or_right _ _ more)))

  over-one : (a : ℕ) → L a → Words Over (letter_poly a)
  over-one a h = All-replicate (λ (t : term). Over t.1) 1 (pos 1, a ∷ []) (All-replicate L 1 a h)

  over-letter : (o : Option Named) (name : List ℕ) → named_in ds name ≡ o → is_map o ≡ true → Words Over (letter_poly (letter_number o))
  over-letter None name e known = absurd (cc)
  over-letter (Some (Object v)) name e known = absurd (cc)
  over-letter (Some (Map a)) name e known = over-one a.0 (maps name a e)

  over-identity : (o : Option Named) (name : List ℕ) → named_in ds name ≡ o → is_object o ≡ true → Identities (λ v. is_the_object v o) → Words Over (letter_poly (identity_in ds (object_number o)))
  over-identity None name e known ids = absurd (cc)
  over-identity (Some (Object v)) name e known ids = over-one (identity_in ds v.0) (ids v.0 (is_named ds name (Object v) e).0 (eq-eqb v.0 v.0 refl))
  over-identity (Some (Map a)) name e known ids = absurd (cc)

  abbrev AllOver : List Summand → Type 0
  AllOver ss = AllByRecursion (λ s. Words Over s.1) ss

  -- by induction on the expression
  mutual
    pub over-sum : (s : Sum) → are_names ds s ≡ true → Identities (λ v. has_identity ds v s) → (has_quote s ≡ true → IsClosed) → OfValue (sum_poly ds s) (Words Over)
    over-sum (Sum' at shape terms) known ids closed = value-bind AllOver (Words Over) (summands ds terms) total (over-terms terms known ids closed) (words-total Over)

    over-terms : {m : _} (k : Row_of-Term m) → are_names_of_terms ds k ≡ true → Identities (λ v. has_identity_in_terms ds v k) → (has_quote_in_terms k ≡ true → IsClosed)
        → OfValue (summands ds k) AllOver
    over-terms end_of-Term known ids closed = value-ok AllOver [] tt
    over-terms (more_of-Term t rest) known ids closed =
        let names = and_parts (are_names_of_term ds t) (are_names_of_terms ds rest) known in
        value-bind (λ s. Words Over s.1) AllOver _ _
        (value-bind (Words Over) (λ s. Words Over s.1) (term_poly ds t) _ (over-term t names.0 (λ v below h. ids v below (or_left _ _ h)) (λ h. closed (or_left _ _ h))) (λ p. value-ok (λ s. Words Over s.1) _))
        (λ s here. value-bind AllOver AllOver (summands ds rest) _ (over-terms rest names.1 (λ v below h. ids v below (or_right _ _ h)) (λ h. closed (or_right _ _ h)))
        (λ others later. value-ok AllOver (s ∷ others) (here, later)))

    over-term : (t : Term) → are_names_of_term ds t ≡ true → Identities (λ v. has_identity_in_term ds v t) → (has_quote_in_term t ≡ true → IsClosed) → OfValue (term_poly ds t) (Words Over)
    over-term (Term' at negative literal shape factors) known ids closed =
        value-bind (Words Over) (Words Over) _ (scaled_by literal)
        (value-bind (AllByRecursion (Words Over)) (Words Over) (factor_polys ds factors) product_poly (over-factors factors known ids closed) (words-product_poly Over (All-append L)))
        (words-scaled_by Over literal)

    over-factors : {m : _} (k : Row_of-Factor m) → are_names_of_factors ds k ≡ true → Identities (λ v. has_identity_in_factors ds v k) → (has_quote_in_factors k ≡ true → IsClosed)
        → OfValue (factor_polys ds k) (AllByRecursion (Words Over))
    over-factors end_of-Factor known ids closed = value-ok (AllByRecursion (Words Over)) [] tt
    over-factors (more_of-Factor at primary marks rest) known ids closed =
        let names = and_parts (are_names_of_primary ds primary) (are_names_of_factors ds rest) known in
        value-bind (Words Over) (AllByRecursion (Words Over)) _ _
        (value-bind (Words Over) (Words Over) (primary_poly ds primary) (marked_poly (quiver_of ds) marks)
        (over-primary primary names.0 (λ v below h. ids v below (or_left _ _ h)) (λ h. closed (or_left _ _ (or_left _ _ h)))) (over-marked_poly marks (λ h. closed (or_left _ _ (or_right _ _ h)))))
        (λ p here. value-bind (AllByRecursion (Words Over)) (AllByRecursion (Words Over)) (factor_polys ds rest) _
        (over-factors rest names.1 (λ v below h. ids v below (or_right _ _ h)) (λ h. closed (or_right _ _ h))) (λ others later. value-ok (AllByRecursion (Words Over)) (p ∷ others) (here, later)))

    pub over-primary : (x : Primary) → are_names_of_primary ds x ≡ true → Identities (λ v. has_identity_in_primary ds v x) → (has_quote_in_primary x ≡ true → IsClosed)
        → OfValue (primary_poly ds x) (Words Over)
    over-primary (letter n) known ids closed = value-ok (Words Over) _ (over-letter (named_in ds n.text) n.text refl known)
    over-primary (Identity n) known ids closed = value-ok (Words Over) _ (over-identity (named_in ds n.text) n.text refl known ids)
    over-primary (Bracket s) known ids closed = over-sum s known ids closed
