-- Terms above the first word of another list stand in front of the sum as they are.
use Rattle.rule_reduce.proofs.Prelude.{◌≡◌, ℕ, pos, ◌+ℤ◌, List, [], ◌∷◌, ◌++◌, take, drop, slice_get, IfSome, Result, Ok, Err, refl, sym, ap, ◌∙◌, subst, arith, All, Greater, ints, take-append-drop, All-tail, All-take, IsCoefficient, sum_of, Term, word_cmp, PolyFault, IsShaped, aligned, aligned_at, by_order, keep, totals, total_operations, IsNonzero, join, join-none, keep-nonzero, one-fits, total_from}
use Rattle.nc_polynomial.proofs.Shapes.{IsInRange}

-- one term above the first word of the other list
next_in_front : (t : Term) (p q : List Term) → IfSome (slice_get q 0) (λ u. word_cmp t.1 u.1 ≡ Greater) → aligned (t ∷ p) q ≡ (t.0, pos 0, t.1) ∷ aligned p q
next_in_front t p [] above = refl
next_in_front t p (y ∷ q) above = ap (λ o. by_order o ((pos 0, y.0, y.1) ∷ aligned_at t q (aligned p)) ((t.0, y.0, t.1) ∷ aligned p q) ((t.0, pos 0, t.1) ∷ aligned p (y ∷ q))) above

join-one : (t : Term) (p : List Term) (r : Result (List Term) PolyFault) → join (t ∷ []) (join p r) ≡ join (t ∷ p) r
join-one t p (Ok xs) = refl
join-one t p (Err e) = refl

abbrev IsAbove : List Term → Term → Type 0
IsAbove q t = IfSome (slice_get q 0) (λ u. word_cmp t.1 u.1 ≡ Greater)

-- what a front keeps and is
record IsFront (q p : List Term) : Type 0 where
  nonzero : All IsNonzero p
  in_range : All IsInRange p
  above : All (IsAbove q) p

front_stays : (q p r : List Term) → IsFront q p → total_from (aligned (p ++ r) q) ≡ join p (total_from (aligned r q))
front_stays q [] r is = sym (join-none (total_from (aligned r q)))
front_stays q (t ∷ p) r is =
    let rest = aligned (p ++ r) q in
    let same : t.0 +ℤ pos 0 ≡ t.0 = omega (arith, ints) in
    let fits : IsCoefficient (t.0 +ℤ pos 0) = subst IsCoefficient (sym same) (is.in_range 0 t (omega arith)) in
    ap total_from (next_in_front t (p ++ r) q (is.above 0 t (omega arith)))
    ∙ sym (join-none (total_from ((t.0, pos 0, t.1) ∷ rest)))
    ∙ one-fits (sum_of t.0 (pos 0)) (total_operations rest) t.1 [] (totals rest) fits
    ∙ ap (λ l. join l (total_from rest)) (ap (λ z. keep z t.1 []) same ∙ keep-nonzero t.0 t.1 [] (is.nonzero 0 t (omega arith)))
    ∙ ap (join (t ∷ [])) (front_stays q p r (record { nonzero = All-tail IsNonzero t p is.nonzero; in_range = All-tail IsInRange t p is.in_range; above = All-tail (IsAbove q) t p is.above }))
    ∙ join-one t p (total_from (aligned r q))

each_above : (q p : List Term) → IfSome (slice_get q 0) (λ u. All (λ t. word_cmp t.1 u.1 ≡ Greater) p) → All (IsAbove q) p
each_above [] p above = λ i t k. tt
each_above (y ∷ q) p above = above

pub in_front : (n : ℕ) (p q : List Term) → IsShaped p → IfSome (slice_get q 0) (λ u. All (λ t. word_cmp t.1 u.1 ≡ Greater) (take n p)) → total_from (aligned p q) ≡ join (take n p) (total_from (aligned (drop n p) q))
in_front n p q shaped above =
    ap (λ l. total_from (aligned l q)) (sym (take-append-drop n p))
    ∙ front_stays q (take n p) (drop n p) (record {
      nonzero = All-take IsNonzero n p shaped.nonzero;
      in_range = All-take IsInRange n p shaped.in_range;
      above = each_above q (take n p) above;
    })
