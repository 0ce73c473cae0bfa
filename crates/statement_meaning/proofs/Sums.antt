-- The value of a sum is the sum of the values of its terms.
use Rattle.statement_meaning.proofs.Prelude.{◌≡◌, ◌<◌, true, false, List, [], ◌∷◌, ◌++◌, Option, Some, None, Ok, ◌⊎◌, inl, inr, sym, refl, ap, subst, ◌∙◌, append-nil, append_assoc, All-nil, All-append, Structure, PreadditiveLaws, Poly, SamePolynomial, Quiver, is_path, Representation, Represents, Same_refl, Same_trans, SamePolynomial-append, negated, Sig, Part, Summand, signed, bound, same_value, same_passed, sum_passed, plus}
use Rattle.nc_polynomial.proofs.Units.{sum_value}
use Rattle.expressions.specs.Signatures as signatures
use Rattle.expressions.specs.Polynomials as polynomials
use Rattle.statement_meaning.proofs.Polynomials.{ArePaths, value-sum}
use Rattle.statement_meaning.proofs.Denoted.{value_of, DenotesAt, Denotes}

-- the terms one after another
abbrev pub summed : List Summand → Poly
summed [] = []
summed (s ∷ ss) = signed s ++ summed ss

-- the sum of values
abbrev pub total_value : {Object Arrow : Type 0} → Structure Object Arrow → List (Option Arrow) → Option Arrow
total_value s [] = None
total_value s (v ∷ vs) = plus s v (total_value s vs)

step_is : (sum : Poly) (t : Summand) (r : Poly) → polynomials.sum_step sum t ≡ Ok r → SamePolynomial r (sum ++ signed t)
step_is sum (false, p) r e = sum_value sum p r e
step_is sum (true, p) r e = sum_value sum (negated p) r e

sum_is : (sum : Poly) (ss : List Summand) (r : Poly) → polynomials.sum_from sum ss ≡ Ok r → SamePolynomial r (sum ++ summed ss)
sum_is sum [] r e = subst (SamePolynomial r) (sym (append-nil sum)) (subst (λ x. SamePolynomial r x) (sym (same_value sum r e)) (Same_refl r))
sum_is sum (t ∷ ss) r e =
    let step = bound (polynomials.sum_step sum t) (λ next. polynomials.sum_from next ss) r e in
    Same_trans r (step.value ++ summed ss) (sum ++ (signed t ++ summed ss)) (sum_is step.value ss r step.then)
    (subst (SamePolynomial (step.value ++ summed ss)) (append_assoc sum (signed t) (summed ss))
    (SamePolynomial-append step.value (sum ++ signed t) (summed ss) (summed ss) (step_is sum t step.value step.is) (Same_refl (summed ss))))

pub total_is : (ss : List Summand) (r : Poly) → polynomials.total ss ≡ Ok r → SamePolynomial r (summed ss)
total_is [] r e = subst (λ x. SamePolynomial r x) (sym (same_value [] r e)) (Same_refl r)
total_is (t ∷ ss) r e = sum_is (signed t) ss r e

module _ {Object Arrow : Type 0} {s : Structure Object Arrow} (laws : PreadditiveLaws s) (q : Quiver) (f : Representation Object Arrow) (rep : Represents s q f) where
  -- each term is denoted by its signed polynomial
  pub data AreTerms : List Part → List Summand → List (Option Arrow) → Type 0 where
    no_term : AreTerms [] [] []
    one_term : (part : Part) (t : Summand) (v : Option Arrow) (parts : List Part) (ss : List Summand) (vs : List (Option Arrow)) → Denotes s q f part.1 (signed t) v → AreTerms parts ss vs
        → AreTerms (part ∷ parts) (t ∷ ss) (v ∷ vs)

  -- what may be a sum of empty terms
  pub record Adds (e : Sig) (p : Poly) (a : Option Arrow) : Type 0 where
    pub paths : ArePaths q e.source.0 e.target.0 p
    pub same : ((p ≡ []) × (a ≡ None)) ⊎ (a ≡ Some (value_of s q f e p))

  module _ (e : Sig) (in_u : e.source.0 < q.objects) (in_v : e.target.0 < q.objects) where
    -- one more term before it
    added : (p r : Poly) (a b : Option Arrow) → DenotesAt s q f e p a → Adds e r b → DenotesAt s q f e (p ++ r) (plus s a b)
    added p r a b h m = record {
      source_below = in_u;
      target_below = in_v;
      paths = All-append (λ t. is_path q e.source.0 e.target.0 t.1 ≡ true) p r h.paths m.paths;
      same = ap (λ x. plus s x b) h.same ∙ go m.same;
    }
      where
        go : ((r ≡ []) × (b ≡ None)) ⊎ (b ≡ Some (value_of s q f e r)) → plus s (Some (value_of s q f e p)) b ≡ Some (value_of s q f e (p ++ r))
        go (inl empty) = ap (plus s (Some (value_of s q f e p))) empty.1 ∙ ap (λ x. Some (value_of s q f e x)) (sym (append-nil p) ∙ ap (λ x. p ++ x) (sym empty.0))
        go (inr same) = ap (plus s (Some (value_of s q f e p))) same ∙ ap Some (sym (value-sum laws q f rep e.source.0 e.target.0 in_u in_v p r))

    adds : (p r : Poly) (a b : Option Arrow) → DenotesAt s q f e p a → Adds e r b → Adds e (p ++ r) (plus s a b)
    adds p r a b h m = let whole = added p r a b h m in record { paths = whole.paths; same = inr whole.same }

    -- after a term of this signature
    rest : (parts : List Part) (ss : List Summand) (vs : List (Option Arrow)) (o : Option Sig) → AreTerms parts ss vs
        → signatures.sum_from (Ok (Some e)) parts ≡ Ok o → (o ≡ Some e) × Adds e (summed ss) (total_value s vs)
    rest _ _ _ o no_term m = (sym (same_value (Some e) o m), record { paths = All-nil _; same = inl (refl, refl) })
    rest _ _ _ o (one_term part t v parts ss vs here h) m = go part.1 here m (rest parts ss vs o h)
      where
        go : (x : Option Sig) → Denotes s q f x (signed t) v → signatures.sum_from (signatures.sum_step (Ok (Some e)) part.0 x) parts ≡ Ok o
            → (signatures.sum_from (Ok (Some e)) parts ≡ Ok o → (o ≡ Some e) × Adds e (summed ss) (total_value s vs))
            → (o ≡ Some e) × Adds e (signed t ++ summed ss) (plus s v (total_value s vs))
        go None d k more =
            let later = more k in
            (later.0, subst (λ p. Adds e (p ++ summed ss) (plus s v (total_value s vs))) (sym d.0) (subst (λ a. Adds e (summed ss) (plus s a (total_value s vs))) (sym d.1) later.1))
        go (Some x) d k more =
            let next = sum_passed (signatures.sum_step (Ok (Some e)) part.0 (Some x)) parts o k in
            let both = same_passed e x _ _ _ next.1 in
            let later = more (ap (λ t. signatures.sum_from (Ok t) parts) both.1 ∙ next.2) in
            (later.0, adds (signed t) (summed ss) v (total_value s vs) (subst (λ y. DenotesAt s q f y (signed t) v) (sym both.0) d) later.1)

  -- a sum whose terms are denoted is denoted by its terms one after another
  pub denotes-summed : (parts : List Part) (ss : List Summand) (vs : List (Option Arrow)) (o : Option Sig) → AreTerms parts ss vs
      → signatures.sum_from (Ok None) parts ≡ Ok o → Denotes s q f o (summed ss) (total_value s vs)
  denotes-summed _ _ _ o no_term m = subst (λ x. Denotes s q f x [] None) (same_value None o m) (refl, refl)
  denotes-summed _ _ _ o (one_term part t v parts ss vs here h) m = go part.1 here m (denotes-summed parts ss vs o h)
    where
      go : (x : Option Sig) → Denotes s q f x (signed t) v → signatures.sum_from (signatures.sum_step (Ok None) part.0 x) parts ≡ Ok o
          → (signatures.sum_from (Ok None) parts ≡ Ok o → Denotes s q f o (summed ss) (total_value s vs))
          → Denotes s q f o (signed t ++ summed ss) (plus s v (total_value s vs))
      go None d k more = subst (λ p. Denotes s q f o (p ++ summed ss) (plus s v (total_value s vs))) (sym d.0) (subst (λ a. Denotes s q f o (summed ss) (plus s a (total_value s vs))) (sym d.1) (more k))
      go (Some x) d k more =
          let later = rest x d.source_below d.target_below parts ss vs o h k in
          subst (λ y. Denotes s q f y (signed t ++ summed ss) (plus s v (total_value s vs))) (sym later.0)
          (added x d.source_below d.target_below (signed t) (summed ss) v (total_value s vs) d later.1)
