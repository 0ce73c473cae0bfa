-- What the definitions of signatures and of polynomials say of a sum and of a term, by lists in place of rows.
use Rattle.expressions.proofs.Prelude.{◌≡◌, ℕ, ◌<◌, length, get_or, Bool, true, false, ◌&&◌, ◌||◌, List, [], ◌∷◌, None, Result, Ok, refl, sym, ap, ◌∙◌, PolyFault, Declaration, quiver_of, Factor, Term', out-Term, outs-Term', Row_of-Factor, end_of-Factor, more_of-Factor, items-the_row-Factor, items_shown-the_row-Factor-1, Sum, Sum', out-Sum, Row_of-Term, end_of-Term, more_of-Term, items-the_row-Term, items_shown-the_row-Term-0, SignatureFault, of_sum, of_term, ◌>>=◌}
use Rattle.statement_syntax.specs.declared.tree.Term.{Term}
use Rattle.expressions.specs.Signatures as signatures
use Rattle.expressions.specs.Polynomials as polynomials

-- the results for all items, or the first fault
abbrev pub each : {A B E : Type 0} → (A → Result B E) → List A → Result (List B) E
each f [] = Ok []
each f (x ∷ xs) = f x >>= λ y. each f xs >>= λ ys. Ok (y ∷ ys)

-- one factor and one term
abbrev pub factor_part : List Declaration → Factor → Result signatures.Part SignatureFault
factor_part ds f = signatures.factor_signature ds f >>= λ s. Ok (f.at, s)

abbrev pub term_part : List Declaration → Term → Result signatures.Part SignatureFault
term_part ds t = signatures.term_signature ds t >>= λ s. Ok (signatures.term_at t, s)

abbrev pub summand : List Declaration → Term → Result polynomials.Summand PolyFault
summand ds t = polynomials.term_poly ds t >>= λ p. Ok (polynomials.is_negative t, p)

-- signatures
parts-factors : (ds : List Declaration) (n : _) (k : Row_of-Factor n) → signatures.factors_parts ds k ≡ each (factor_part ds) (items-the_row-Factor n k)
parts-factors ds n end_of-Factor = refl
parts-factors ds n (more_of-Factor at primary marks rest) =
    ap (λ r. ((signatures.primary_signature ds primary >>= signatures.marked_signature at marks) >>= λ s. Ok (at, s)) >>= λ part. r >>= λ parts. Ok (part ∷ parts)) (parts-factors ds _ rest)

parts-terms : (ds : List Declaration) (n : _) (k : Row_of-Term n) → signatures.terms_parts ds k ≡ each (term_part ds) (items-the_row-Term n k)
parts-terms ds n end_of-Term = refl
parts-terms ds n (more_of-Term t rest) =
    ap (λ r. (signatures.term_signature ds t >>= λ s. Ok (signatures.term_at t, s)) >>= λ part. r >>= λ parts. Ok (part ∷ parts)) (parts-terms ds _ rest)

pub signature-term : (ds : List Declaration) (t : Term) → signatures.term_signature ds t ≡ (each (factor_part ds) (out-Term t).factors >>= signatures.product_signature)
signature-term ds (Term' at negative literal shape factors) =
    ap (λ r. r >>= signatures.product_signature) (parts-factors ds _ factors ∙ of_term (each (factor_part ds)) at negative literal shape factors)

pub signature-sum : (ds : List Declaration) (s : Sum) → signatures.sum_signature ds s ≡ (each (term_part ds) (out-Sum s).terms >>= signatures.sum_from (Ok None))
signature-sum ds (Sum' at shape terms) =
    ap (λ r. r >>= signatures.sum_from (Ok None)) (parts-terms ds _ terms ∙ of_sum (each (term_part ds)) at shape terms)

pub place-term : (t : Term) → signatures.term_at t ≡ (out-Term t).at
place-term (Term' at negative literal shape factors) = ap (λ r. r.at) (sym (outs-Term' at negative literal shape factors))

-- polynomials
polys-factors : (ds : List Declaration) (n : _) (k : Row_of-Factor n) → polynomials.factor_polys ds k ≡ each (polynomials.factor_poly ds) (items-the_row-Factor n k)
polys-factors ds n end_of-Factor = refl
polys-factors ds n (more_of-Factor at primary marks rest) =
    ap (λ r. (polynomials.primary_poly ds primary >>= polynomials.marked_poly (quiver_of ds) marks) >>= λ p. r >>= λ others. Ok (p ∷ others)) (polys-factors ds _ rest)

polys-terms : (ds : List Declaration) (n : _) (k : Row_of-Term n) → polynomials.summands ds k ≡ each (summand ds) (items-the_row-Term n k)
polys-terms ds n end_of-Term = refl
polys-terms ds n (more_of-Term t rest) =
    ap (λ r. (polynomials.term_poly ds t >>= λ p. Ok (polynomials.is_negative t, p)) >>= λ s. r >>= λ others. Ok (s ∷ others)) (polys-terms ds _ rest)

pub poly-term : (ds : List Declaration) (t : Term) → polynomials.term_poly ds t ≡ ((each (polynomials.factor_poly ds) (out-Term t).factors >>= polynomials.product_poly) >>= polynomials.scaled_by (out-Term t).literal)
poly-term ds (Term' at negative literal shape factors) =
    ap (λ r. (r >>= polynomials.product_poly) >>= polynomials.scaled_by literal) (polys-factors ds _ factors ∙ ap (each (polynomials.factor_poly ds)) (sym (items_shown-the_row-Factor-1 shape factors)))
    ∙ ap (λ r. (each (polynomials.factor_poly ds) r.factors >>= polynomials.product_poly) >>= polynomials.scaled_by r.literal) (sym (outs-Term' at negative literal shape factors))

pub poly-sum : (ds : List Declaration) (s : Sum) → polynomials.sum_poly ds s ≡ (each (summand ds) (out-Sum s).terms >>= polynomials.total)
poly-sum ds (Sum' at shape terms) =
    ap (λ r. r >>= polynomials.total) (polys-terms ds _ terms ∙ of_sum (each (summand ds)) at shape terms)

pub sign-term : (t : Term) → polynomials.is_negative t ≡ (out-Term t).negative
sign-term (Term' at negative literal shape factors) = ap (λ r. r.negative) (sym (outs-Term' at negative literal shape factors))
