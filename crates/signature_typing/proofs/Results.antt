-- The polynomial of an equation is within the limits, and the fault of its arithmetic is no want of memory.
use Rattle.signature_typing.proofs.Prelude.{◌≡◌, ◌≢◌, ℕ, zero, suc, ◌≤◌, ℤ, pos, negsuc, Bool, true, false, cond, List, [], ◌∷◌, ◌++◌, length, replicate, nat_lt, Option, Some, None, Result, Ok, Err, refl, sym, ◌∙◌, arith, All, AllByRecursion, All-replicate, Overflow, IsCoefficient, first_overflow, Poly, term, poly_between, IsQuiver, adjoint_poly, adjoint_word-adjoint_word, PolyFault, Mark, Adjoint, Power, Primary, Identity, Bracket, Term, Term', Row_of-Factor, end_of-Factor, more_of-Factor, Number, Sum, Sum', Row_of-Term, end_of-Term, more_of-Term, scaled, products, negated, added, sums, unless_overflow, finished, sized, size_fault, has_long_word, sum_result, difference_result, multiple_result, combined, collected, additions, product_step, product_result, IsShaped, IsCanonical, shaped-between, or_first, first-append, canonical_none, canonical_sized, Descends, IsNonzero, IsInRange, descends_one, IsDescending-from_recursion, shaped-scaled, shaped-added, Declaration, quiver_of, identity_in, ◌>>=◌, letter_of, object_of, letter_poly, power_poly, mark_poly, marked_poly, product_poly, scaled_by, Summand, signed, total, sum_poly, summands, term_poly, factor_polys, primary_poly, equation_poly, canonical-negated, canonical-signed, canonical-adjoint}
use Rattle.nc_polynomial.specs.Faults.{IsMemory}
use Rattle.nc_polynomial.specs.Product as product
use Rattle.expressions.specs.Polynomials.{product_from, sum_step, sum_from}

-- a value with a property, or a fault that isn't want of memory
abbrev pub Gives : {A : Type 0} → (A → Type 0) → Result A PolyFault → Type 0
Gives P (Ok x) = P x
Gives P (Err e) = IsMemory e → ⊥

pub gives-bind : {A B : Type 0} (P : A → Type 0) (Q : B → Type 0) (r : Result A PolyFault) (f : A → Result B PolyFault) → Gives P r → ((x : A) → P x → Gives Q (f x)) → Gives Q (r >>= f)
gives-bind P Q (Ok x) f h k = k x h
gives-bind P Q (Err e) f h k = h

-- within the limits
pub canonical_by : (p : Poly) → Descends p → All (λ (t : term). t.0 ≢ pos 0) p → All (λ (t : term). IsCoefficient t.0) p
    → All (λ (t : term). length t.1 ≤ 500) p → length p ≤ 20000 → IsCanonical p
canonical_by p descends nonzero in_range short few = record {
  shaped = record {
    descending = IsDescending-from_recursion p descends;
    nonzero = nonzero;
    in_range = in_range;
  };
  short = short;
  few = few;
}

-- one operation
sized-gives : (p : Poly) → IsShaped p → Gives IsCanonical (sized p)
sized-gives p h = go (has_long_word p) (nat_lt 20000 (length p)) (canonical_sized p p h)
  where
    go : (long many : Bool) → (cond long (Err (size_fault true)) (cond many (Err (size_fault false)) (Ok p)) ≡ Ok p → IsCanonical p) → Gives IsCanonical (cond long (Err (size_fault true)) (cond many (Err (size_fault false)) (Ok p)))
    go true many k = λ m. m
    go false true k = λ m. m
    go false false k = k refl

finished-gives : (os : List Overflow) (p : Poly) → (first_overflow os ≡ None → IsShaped p) → Gives IsCanonical (finished os p)
finished-gives os p h = go (first_overflow os) h
  where
    go : (o : Option Overflow) → (o ≡ None → IsShaped p) → Gives IsCanonical (unless_overflow o (sized p))
    go None k = sized-gives p (k refl)
    go (Some o) k = λ m. m

sum-gives : (p q : Poly) → IsCanonical p → IsCanonical q → Gives IsCanonical (sum_result p q)
sum-gives p q h k = finished-gives (sums p q) (added p q) (λ e. shaped-added p q e h.shaped k.shaped)

difference-gives : (p q : Poly) → IsCanonical p → IsCanonical q → Gives IsCanonical (difference_result p q)
difference-gives p q h k = sum-gives p (negated q) h (canonical-negated q k)

multiple-gives : (k : ℤ) (p : Poly) → IsCanonical p → Gives IsCanonical (multiple_result k p)
multiple-gives k p h = finished-gives (products k p) (scaled k p) (λ e. shaped-scaled k p e h.shaped)

none_of : (xs ys : List Overflow) → first_overflow (xs ++ ys) ≡ None → (first_overflow xs ≡ None) × (first_overflow ys ≡ None)
none_of xs ys e = go (first_overflow xs) (sym (first-append xs ys) ∙ e)
  where
    go : (o : Option Overflow) → or_first o (first_overflow ys) ≡ None → (o ≡ None) × (first_overflow ys ≡ None)
    go None h = (refl, h)
    go (Some o) h = absurd (cc)

combined-gives : (a : ℤ) (p : Poly) (b : ℤ) (q : Poly) → IsShaped p → IsShaped q → Gives IsCanonical (combined a p b q)
combined-gives a p b q h k =
    finished-gives (products a p ++ (products b q ++ sums (scaled a p) (scaled b q))) (added (scaled a p) (scaled b q)) (λ e.
    let first = none_of (products a p) (products b q ++ sums (scaled a p) (scaled b q)) e in
    let second = none_of (products b q) (sums (scaled a p) (scaled b q)) first.1 in
    shaped-added (scaled a p) (scaled b q) second.1 (shaped-scaled a p first.0 h) (shaped-scaled b q second.0 k))

-- products
step-gives : (sum : Poly) (t : term) (q : Poly) → IsCanonical sum → IsCanonical q → Gives IsCanonical (product_step sum t q)
step-gives sum t q h k =
    gives-bind IsCanonical IsCanonical (sized (poly_between t.1 q [])) (λ moved. combined (pos 1) sum t.0 moved)
    (sized-gives (poly_between t.1 q []) (shaped-between t.1 [] q k.shaped))
    (λ moved m. combined-gives (pos 1) sum t.0 moved h.shaped m.shaped)

steps-give : (sum p q : Poly) → IsCanonical sum → IsCanonical q → Gives IsCanonical (product.product_from sum p q)
steps-give sum [] q h k = h
steps-give sum (t ∷ p) q h k =
    gives-bind IsCanonical IsCanonical (product_step sum t q) (λ next. product.product_from next p q)
    (step-gives sum t q h k) (λ next m. steps-give next p q m k)

product-gives : (p q : Poly) → IsCanonical q → Gives IsCanonical (product_result p q)
product-gives p q k = steps-give [] p q canonical_none k

product_from-gives : (p : Poly) (ps : List Poly) → IsCanonical p → AllByRecursion IsCanonical ps → Gives IsCanonical (product_from p ps)
product_from-gives p [] h k = h
product_from-gives p (q ∷ ps) h k = gives-bind IsCanonical IsCanonical (product_result p q) (λ next. product_from next ps) (product-gives p q k.0) (λ next m. product_from-gives next ps m k.1)

product_poly-gives : (ps : List Poly) → AllByRecursion IsCanonical ps → Gives IsCanonical (product_poly ps)
product_poly-gives [] h = canonical_none
product_poly-gives (p ∷ ps) h = product_from-gives p ps h.0 h.1

-- powers
repeated-canonical : (n : ℕ) (p : Poly) → IsCanonical p → AllByRecursion IsCanonical (replicate n p)
repeated-canonical zero p h = tt
repeated-canonical (suc n) p h = (h, repeated-canonical n p h)

power-gives : (exponent : ℤ) (p : Poly) → IsCanonical p → Gives IsCanonical (power_poly exponent p)
power-gives (pos (suc n)) p h = product_poly-gives (replicate (suc n) p) (repeated-canonical (suc n) p h)
power-gives (pos zero) p h = h
power-gives (negsuc n) p h = h

module _ (ds : List Declaration) (quiver : IsQuiver (quiver_of ds)) where
  mark-gives : (m : Mark) (p : Poly) → IsCanonical p → Gives IsCanonical (mark_poly (quiver_of ds) m p)
  mark-gives Adjoint p h =
      finished-gives (additions [] (adjoint_poly (quiver_of ds) p)) (collected (adjoint_poly (quiver_of ds) p))
      (λ e. (canonical-adjoint (quiver_of ds) (adjoint_word-adjoint_word (quiver_of ds) quiver) p h).shaped)
  mark-gives (Power at exponent) p h = power-gives exponent.value p h

  marked-gives : (marks : List Mark) (p : Poly) → IsCanonical p → Gives IsCanonical (marked_poly (quiver_of ds) marks p)
  marked-gives [] p h = h
  marked-gives (m ∷ marks) p h =
      gives-bind IsCanonical IsCanonical (mark_poly (quiver_of ds) m p) (marked_poly (quiver_of ds) marks) (mark-gives m p h) (marked-gives marks)

  letter-gives : (a : ℕ) → IsCanonical (letter_poly a)
  letter-gives a =
      let one : term = (pos 1, a ∷ []) in
      canonical_by (letter_poly a) (descends_one one) (All-replicate IsNonzero 1 one (λ e. cc)) (All-replicate IsInRange 1 one (omega arith)) (All-replicate (λ (t : term). length t.1 ≤ 500) 1 one (omega arith)) (omega arith)

  -- the parts of an expression
  abbrev AreCanonical : List Summand → Type 0
  AreCanonical ss = AllByRecursion (λ s. IsCanonical s.1) ss

  sum_step-gives : (p : Poly) (s : Summand) → IsCanonical p → IsCanonical s.1 → Gives IsCanonical (sum_step p s)
  sum_step-gives p (false, q) h k = sum-gives p q h k
  sum_step-gives p (true, q) h k = difference-gives p q h k

  sum_from-gives : (p : Poly) (ss : List Summand) → IsCanonical p → AreCanonical ss → Gives IsCanonical (sum_from p ss)
  sum_from-gives p [] h k = h
  sum_from-gives p (s ∷ ss) h k = gives-bind IsCanonical IsCanonical (sum_step p s) (λ next. sum_from next ss) (sum_step-gives p s h k.0) (λ next m. sum_from-gives next ss m k.1)

  total-gives : (ss : List Summand) → AreCanonical ss → Gives IsCanonical (total ss)
  total-gives [] h = canonical_none
  total-gives (s ∷ ss) h = sum_from-gives (signed s) ss (canonical-signed s h.0) h.1

  scaled_by-gives : (l : Option Number) (p : Poly) → IsCanonical p → Gives IsCanonical (scaled_by l p)
  scaled_by-gives None p h = h
  scaled_by-gives (Some n) p h = multiple-gives n.value p h

  -- by induction on the expression
  mutual
    sum_poly-gives : (s : Sum) → Gives IsCanonical (sum_poly ds s)
    sum_poly-gives (Sum' at shape terms) = gives-bind (λ ss. AllByRecursion (λ s. IsCanonical s.1) ss) IsCanonical (summands ds terms) total (summands-give terms) total-gives

    summands-give : {m : _} (k : Row_of-Term m) → Gives (λ ss. AllByRecursion (λ s. IsCanonical s.1) ss) (summands ds k)
    summands-give end_of-Term = tt
    summands-give (more_of-Term t rest) =
        gives-bind (λ (s : Summand). IsCanonical s.1) (λ ss. AllByRecursion (λ s. IsCanonical s.1) ss) _ _ (gives-bind IsCanonical (λ (s : Summand). IsCanonical s.1) (term_poly ds t) _ (term_poly-gives t) (λ p h. h))
        (λ s h. gives-bind (λ ss. AllByRecursion (λ s. IsCanonical s.1) ss) (λ ss. AllByRecursion (λ s. IsCanonical s.1) ss) (summands ds rest) _ (summands-give rest) (λ others k. (h, k)))

    term_poly-gives : (t : Term) → Gives IsCanonical (term_poly ds t)
    term_poly-gives (Term' at negative literal shape factors) =
        gives-bind IsCanonical IsCanonical (factor_polys ds factors >>= product_poly) (scaled_by literal) (gives-bind (AllByRecursion IsCanonical) IsCanonical (factor_polys ds factors) product_poly (factor_polys-give factors) product_poly-gives) (scaled_by-gives literal)

    factor_polys-give : {m : _} (k : Row_of-Factor m) → Gives (AllByRecursion IsCanonical) (factor_polys ds k)
    factor_polys-give end_of-Factor = tt
    factor_polys-give (more_of-Factor at primary marks rest) =
        gives-bind IsCanonical (AllByRecursion IsCanonical) _ _ (gives-bind IsCanonical IsCanonical (primary_poly ds primary) (marked_poly (quiver_of ds) marks) (primary_poly-gives primary) (marked-gives marks))
        (λ p h. gives-bind (AllByRecursion IsCanonical) (AllByRecursion IsCanonical) (factor_polys ds rest) _ (factor_polys-give rest) (λ others k. (h, k)))

    primary_poly-gives : (p : Primary) → Gives IsCanonical (primary_poly ds p)
    primary_poly-gives (Primary.Letter n) = letter-gives (letter_of ds n)
    primary_poly-gives (Identity n) = letter-gives (identity_in ds (object_of ds n))
    primary_poly-gives (Bracket s) = sum_poly-gives s

  pub equation_poly-gives : (left right : Sum) → Gives IsCanonical (equation_poly ds left right)
  equation_poly-gives left right =
      gives-bind IsCanonical IsCanonical (sum_poly ds left) _ (sum_poly-gives left) (λ p h.
      gives-bind IsCanonical IsCanonical (sum_poly ds right) _ (sum_poly-gives right) (λ r k. difference-gives p r h k))
