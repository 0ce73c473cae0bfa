-- The sum of the terms so far, in a loop that adds them up one by one.
use Rattle.expressions.proofs.Prelude.{◌≡◌, ◌<◌, ◌+◌, ℕ, true, false, Bool, List, [], ◌∷◌, ◌++◌, length, drop, get_or, Result, Ok, Err, IfOk, IfErr, MatchResult, refl, sym, ap, subst, ◌∙◌, map-append, Poly, PolyFault, sum_result, Explains, IsCanonical, sum_with_none, Declaration, out-Term, Sum, out-Sum, ◌>>=◌, Summand, signed, total, term_poly}
use Rattle.nc_polynomial.specs.declared.poly.Poly as code
use Rattle.statement_syntax.specs.declared.tree.Term.{Term}
use Rattle.expressions.specs.Polynomials.{sum_step, sum_from}
use Rattle.expressions.proofs.Trees.{each, summand}
use Rattle.expressions.proofs.Canonical.{canonical-negated}
use Rattle.expressions.proofs.PolynomialLoops.{summands_of, explains-on, sum-next}

step-signed : (sum : Poly) (s : Summand) → sum_step sum s ≡ sum_result sum (signed s)
step-signed sum (false, p) = refl
step-signed sum (true, p) = refl

pub canonical-signed : (s : Summand) → IsCanonical s.1 → IsCanonical (signed s)
canonical-signed (false, p) h = h
canonical-signed (true, p) h = canonical-negated p h

-- one more summand
from-next : (ss : List Summand) (s : Summand) (sum : Poly) → sum_from sum (ss ++ s ∷ []) ≡ (sum_from sum ss >>= λ p. sum_step p s)
from-next [] s sum = alone (sum_step sum s)
  where
    alone : (r : Result Poly PolyFault) → (r >>= λ p. Ok p) ≡ r
    alone (Ok p) = refl
    alone (Err e) = refl
from-next (x ∷ ss) s sum = go (sum_step sum x) (from-next ss s)
  where
    go : (r : Result Poly PolyFault) → ((p : Poly) → sum_from p (ss ++ s ∷ []) ≡ (sum_from p ss >>= λ q. sum_step q s))
        → (r >>= λ p. sum_from p (ss ++ s ∷ [])) ≡ ((r >>= λ p. sum_from p ss) >>= λ q. sum_step q s)
    go (Ok p) more = more p
    go (Err e) more = refl

-- the first summand added to zero is that summand
total-next : (ss : List (Bool × code.Poly)) (s : Bool × code.Poly) → total (summands_of (ss ++ s ∷ [])) ≡ (total (summands_of ss) >>= λ sum. sum_step sum (s.0, s.1.terms))
total-next [] s =
    let first : Summand = (s.0, s.1.terms) in
    sym (step-signed [] first ∙ sum_with_none (signed first) (canonical-signed first s.1.canonical))
total-next (x ∷ ss) s =
    ap (sum_from (signed (x.0, x.1.terms))) (map-append (λ (s : Bool × code.Poly). (s.0, s.1.terms)) ss (s ∷ [])) ∙ from-next (summands_of ss) (s.0, s.1.terms) (signed (x.0, x.1.terms))

-- a sum so far is this result, or its fault is explained by it
abbrev Comes : Result Poly PolyFault → Result Poly PolyFault → Type 0
Comes r so_far = MatchResult so_far (λ sum. r ≡ Ok sum) (Explains r)

-- the terms before this place have polynomials, and this is their sum so far
pub record SoFar (ds : List Declaration) (terms : List Term) (i : ℕ) (so_far : Result Poly PolyFault) : Type 0 where
  pub made : List (Bool × code.Poly)
  pub before : (each (summand ds) (drop i terms) >>= λ rest. Ok (summands_of made ++ rest)) ≡ each (summand ds) terms
  pub comes : Comes (total (summands_of made)) so_far
  pub canonical : IfOk so_far IsCanonical

-- a fault so far stays
comes-next : (r so_far next : Result Poly PolyFault) (f : Poly → Result Poly PolyFault) → Comes r so_far
    → IfOk so_far (λ sum. Comes (f sum) next) → IfErr so_far (λ e. next ≡ Err e) → Comes (r >>= f) next
comes-next r (Ok sum) next f is added stays = subst (λ q. Comes (q >>= f) next) (sym is) added
comes-next r (Err e) next f why added stays = subst (Comes (r >>= f)) (sym stays) (explains-on r (r >>= f) e (λ g is. ap (λ q. q >>= f) is) why)

module _ (ds : List Declaration) (s : Sum) (terms : List Term) (whole : terms ≡ (out-Sum s).terms) (i : ℕ) (so_far : Result Poly PolyFault) (h : SoFar ds terms i so_far)
    (t : Term) (inside : i < length terms) (item : t ≡ get_or terms i t) (p : code.Poly) (ok : term_poly ds t ≡ Ok p.terms) where
  abbrev last : Bool × code.Poly
  last = ((out-Term t).negative, p)

  pub so_far-next : (next : Result Poly PolyFault) → IfOk so_far (λ sum. Comes (sum_step sum ((out-Term t).negative, p.terms)) next) → IfErr so_far (λ e. next ≡ Err e)
      → IfOk next IsCanonical → SoFar ds terms (i + 1) next
  so_far-next next added stays canonical = record {
    made = h.made ++ last ∷ [];
    before = sum-next ds s terms whole i h.made h.before t inside item p ok (h.made ++ last ∷ []) refl;
    comes = subst (λ r. Comes r next) (sym (total-next h.made last)) (comes-next (total (summands_of h.made)) so_far next (λ sum. sum_step sum (last.0, p.terms)) h.comes added stays);
    canonical = canonical;
  }
