-- The loops over the terms of a sum, the factors of a term and the marks of a factor compute their polynomial.
use Rattle.expressions.proofs.Prelude.{◌≡◌, ◌<◌, ◌≤◌, ◌+◌, ℕ, List, [], ◌∷◌, ◌++◌, length, map, drop, get_or, Bool, Result, Ok, Err, MatchResult, refl, sym, ap, subst, ◌∙◌, arith, map-append, Poly, PolyFault, Explains, Declaration, Factor, out-Term, Sum, out-Sum, ◌>>=◌, product_poly, scaled_by, Summand, total, is_negative, sum_poly, term_poly, factor_poly}
use Rattle.nc_polynomial.specs.declared.fault.PolyFault.TheVariants as fault
use Rattle.nc_polynomial.specs.declared.poly.Poly as code
use Rattle.statement_syntax.specs.declared.tree.Term.{Term}
use Rattle.expressions.proofs.Trees.{each, summand, poly-sum, poly-term, sign-term}
use Rattle.expressions.proofs.Sequences.{made-none, made-next, made-fault, made-end}

-- a fault that is passed on is explained by what it comes from
pub explains-on : {A B : Type 0} (r : Result A PolyFault) (s : Result B PolyFault) (e : PolyFault) → ((f : PolyFault) → r ≡ Err f → s ≡ Err f) → Explains r e → Explains s e
explains-on r s (fault.Overflow o) on h = on (fault.Overflow o) h
explains-on r s (fault.Size z) on h = on (fault.Size z) h
explains-on r s (fault.Memory m) on h = h

-- what a call returned is the definition's result
abbrev pub Gives : Result Poly PolyFault → Result code.Poly PolyFault → Type 0
Gives r result = MatchResult result (λ p. r ≡ Ok p.terms) (Explains r)

-- the summands and the factors of the code as polynomials of the definitions
abbrev pub summands_of : List (Bool × code.Poly) → List Summand
summands_of ss = map (λ s. (s.0, s.1.terms)) ss

abbrev pub polys_of : List code.Poly → List Poly
polys_of ps = map (λ p. p.terms) ps

-- a sum
module _ (ds : List Declaration) (s : Sum) (terms : List Term) (whole : terms ≡ (out-Sum s).terms) (i : ℕ) (made : List (Bool × code.Poly))
    (before : (each (summand ds) (drop i terms) >>= λ rest. Ok (summands_of made ++ rest)) ≡ each (summand ds) terms) where
  sum_is : sum_poly ds s ≡ (each (summand ds) terms >>= total)
  sum_is = poly-sum ds s ∙ ap (λ ts. each (summand ds) ts >>= total) (sym whole)

  pub sum-end : length terms ≤ i → (result : Result code.Poly PolyFault) → Gives (total (summands_of made)) result → Gives (sum_poly ds s) result
  sum-end past result given =
      subst (λ r. Gives r result) (sym (sum_is ∙ ap (λ r. r >>= total) (made-end (summand ds) terms i (summands_of made) before past))) given

  module _ (t : Term) (inside : i < length terms) (item : t ≡ get_or terms i t) where
    pub sum-fault : (e : PolyFault) → Explains (term_poly ds t) e → Explains (sum_poly ds s) e
    sum-fault e h = explains-on (term_poly ds t) (sum_poly ds s) e
        (λ f k. sum_is ∙ ap (λ r. r >>= total) (made-fault (summand ds) terms i (summands_of made) before t inside item f (ap (λ r. r >>= λ p. Ok (is_negative t, p)) k))) h

    pub sum-next : (p : code.Poly) → term_poly ds t ≡ Ok p.terms → (more : List (Bool × code.Poly)) → more ≡ made ++ ((out-Term t).negative, p) ∷ []
        → (each (summand ds) (drop (i + 1) terms) >>= λ rest. Ok (summands_of more ++ rest)) ≡ each (summand ds) terms
    sum-next p h more pushed =
        let next : summands_of more ≡ summands_of made ++ (is_negative t, p.terms) ∷ [] =
        ap summands_of pushed ∙ map-append _ made (((out-Term t).negative, p) ∷ []) ∙ ap (λ b. summands_of made ++ (b, p.terms) ∷ []) (sym (sign-term t)) in
        ap (λ m. each (summand ds) (drop (i + 1) terms) >>= λ rest. Ok (m ++ rest)) next
        ∙ made-next (summand ds) terms i (summands_of made) before t inside item (is_negative t, p.terms) (ap (λ r. r >>= λ q. Ok (is_negative t, q)) h)

-- a product
module _ (ds : List Declaration) (t : Term) (factors : List Factor) (whole : factors ≡ (out-Term t).factors) (i : ℕ) (made : List code.Poly)
    (before : (each (factor_poly ds) (drop i factors) >>= λ rest. Ok (polys_of made ++ rest)) ≡ each (factor_poly ds) factors) where
  product_is : term_poly ds t ≡ ((each (factor_poly ds) factors >>= product_poly) >>= scaled_by (out-Term t).literal)
  product_is = poly-term ds t ∙ ap (λ fs. (each (factor_poly ds) fs >>= product_poly) >>= scaled_by (out-Term t).literal) (sym whole)

  product_ends : length factors ≤ i → term_poly ds t ≡ (product_poly (polys_of made) >>= scaled_by (out-Term t).literal)
  product_ends past = product_is ∙ ap (λ r. (r >>= product_poly) >>= scaled_by (out-Term t).literal) (made-end (factor_poly ds) factors i (polys_of made) before past)

  pub product-end : length factors ≤ i → (p : Poly) → product_poly (polys_of made) ≡ Ok p → (result : Result code.Poly PolyFault) → Gives (scaled_by (out-Term t).literal p) result → Gives (term_poly ds t) result
  product-end past p h result given =
      subst (λ r. Gives r result) (sym (product_ends past ∙ ap (λ r. r >>= scaled_by (out-Term t).literal) h)) given

  pub product-end_fault : length factors ≤ i → (e : PolyFault) → Explains (product_poly (polys_of made)) e → Explains (term_poly ds t) e
  product-end_fault past e h = explains-on (product_poly (polys_of made)) (term_poly ds t) e (λ f k. product_ends past ∙ ap (λ r. r >>= scaled_by (out-Term t).literal) k) h

  module _ (f : Factor) (inside : i < length factors) (item : f ≡ get_or factors i f) where
    pub product-fault : (e : PolyFault) → Explains (factor_poly ds f) e → Explains (term_poly ds t) e
    product-fault e h = explains-on (factor_poly ds f) (term_poly ds t) e
        (λ g k. product_is ∙ ap (λ r. (r >>= product_poly) >>= scaled_by (out-Term t).literal) (made-fault (factor_poly ds) factors i (polys_of made) before f inside item g k)) h

    pub product-next : (p : code.Poly) → factor_poly ds f ≡ Ok p.terms → (more : List code.Poly) → more ≡ made ++ p ∷ []
        → (each (factor_poly ds) (drop (i + 1) factors) >>= λ rest. Ok (polys_of more ++ rest)) ≡ each (factor_poly ds) factors
    product-next p h more pushed =
        let next : polys_of more ≡ polys_of made ++ p.terms ∷ [] = ap polys_of pushed ∙ map-append _ made (p ∷ []) in
        ap (λ m. each (factor_poly ds) (drop (i + 1) factors) >>= λ rest. Ok (m ++ rest)) next
        ∙ made-next (factor_poly ds) factors i (polys_of made) before f inside item p.terms h

-- a factor alone
module _ (ds : List Declaration) (t : Term) (factors : List Factor) (whole : factors ≡ (out-Term t).factors) (one : length factors ≡ 1) (f : Factor) (item : f ≡ get_or factors 0 f) where
  none : (each (factor_poly ds) (drop 0 factors) >>= λ rest. Ok (polys_of [] ++ rest)) ≡ each (factor_poly ds) factors
  none = made-none (factor_poly ds) factors

  pub alone-fault : (e : PolyFault) → Explains (factor_poly ds f) e → Explains (term_poly ds t) e
  alone-fault e why = product-fault ds t factors whole 0 [] none f (omega arith) item e why

  pub alone-end : (p : code.Poly) → factor_poly ds f ≡ Ok p.terms → (result : Result code.Poly PolyFault) → Gives (scaled_by (out-Term t).literal p.terms) result → Gives (term_poly ds t) result
  alone-end p h result given =
      product-end ds t factors whole 1 (p ∷ []) (product-next ds t factors whole 0 [] none f (omega arith) item p h (p ∷ []) refl) (omega arith) p.terms refl result given
