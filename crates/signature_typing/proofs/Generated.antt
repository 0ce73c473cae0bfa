-- What is asked of the parts of a statement has generators.
use Rattle.signature_typing.proofs.Prelude.{◌≡◌, ◌≤◌, ℕ, ℤ, pos, negsuc, Bool, ◌||◌, eqb, leb, List, [], ◌∷◌, ◌++◌, length, refl, sym, ap, subst, arith, cond_both, All-cons, All-replicate, AllByRecursion, AllZip, flat_map, range_with_len, Greater, word_cmp, Poly, SamePolynomial, poly_eq, poly_multiple, Quiver, IsQuiver, source, target, star, adjoint_poly, new_adjoint, left_unit, letter_units, units, generators_of, adjoint_word-adjoint_word, all-append, all-flat_map, collected, IsCanonical, IsNonzero, IsInRange, IsBelow, descends_one, coefficient_of-collected, Parts, polynomials, numbers, IsPosed, IsClosed, generators_in, posed_quiver, each_same, AllZip-append, quiver_of, canonical-adjoint}
use Rattle.nc_polynomial.specs.declared.poly.Poly as made
use Rattle.signature_typing.proofs.Results.{canonical_by}

-- polynomials of lists that are within the limits
pub record Made (ps : List Poly) : Type 0 where
  pub polys : List made.Poly
  pub are : polynomials polys ≡ ps

pub make : (ps : List Poly) → AllByRecursion IsCanonical ps → Made ps
make [] h = record { polys = []; are = refl }
make (p ∷ ps) h = let rest = make ps h.1 in record { polys = record { terms = p; canonical = h.0 } ∷ rest.polys; are = ap (λ others. p ∷ others) rest.are }

pub canonical_polynomials : (ps : List made.Poly) → AllByRecursion IsCanonical (polynomials ps)
canonical_polynomials [] = tt
canonical_polynomials (p ∷ ps) = (p.canonical, canonical_polynomials ps)

-- the relations of identities
canonical-unit : (u : List ℕ) (a : ℕ) → length u ≡ 2 → word_cmp u (a ∷ []) ≡ Greater → IsCanonical ((pos 1, u) ∷ (negsuc 0, a ∷ []) ∷ [])
canonical-unit u a two above =
    let first : ℤ × List ℕ = (pos 1, u) in
    let last : ℤ × List ℕ = (negsuc 0, a ∷ []) in
    let short : ℤ × List ℕ → Type 0 = λ t. length t.1 ≤ 500 in
    canonical_by (first ∷ last ∷ []) (All-replicate (IsBelow u) 1 last above, descends_one last) (All-cons IsNonzero first (last ∷ []) (λ e. cc) (All-replicate IsNonzero 1 last (λ e. cc)))
    (All-cons IsInRange first (last ∷ []) (omega arith) (All-replicate IsInRange 1 last (omega arith))) (All-cons short first (last ∷ []) (omega (arith, two)) (All-replicate short 1 last (omega arith))) (omega arith)

canonical-left : (v a : ℕ) → IsCanonical (left_unit v a)
canonical-left v a = canonical-unit (v ∷ a ∷ []) a refl refl

canonical-letter_units : (q : Quiver) (starred : Bool) (v a : ℕ) → AllByRecursion IsCanonical (letter_units q starred v a)
canonical-letter_units q starred v a =
    cond_both (starred || leb a (star q a)) _ [] (AllByRecursion IsCanonical)
    (λ _. all-append IsCanonical _ _ (cond_both (eqb (target q a) v) _ [] (AllByRecursion IsCanonical) (λ _. (canonical-left v a, tt)) (λ _. tt))
    (cond_both (eqb (source q a) v) _ [] (AllByRecursion IsCanonical) (λ _. (canonical-unit (a ∷ v ∷ []) a refl refl, tt)) (λ _. tt))) (λ _. tt)

canonical-units : (q : Quiver) (starred : Bool) (v : ℕ) → AllByRecursion IsCanonical (units q starred v)
canonical-units q starred v = (canonical-left v v, all-flat_map IsCanonical (letter_units q starred v) (λ a. canonical-letter_units q starred v a) (range_with_len q.objects _))

-- lists that say the same
record Closed (target : List Poly) : Type 0 where
  list : List Poly
  canonical : AllByRecursion IsCanonical list
  same : AllZip SamePolynomial list target

closed-itself : (ps : List Poly) → AllByRecursion IsCanonical ps → Closed ps
closed-itself ps h = record { list = ps; canonical = h; same = each_same ps }

closed-append : (ps qs : List Poly) → Closed ps → Closed qs → Closed (ps ++ qs)
closed-append ps qs c d = record { list = c.list ++ d.list; canonical = all-append IsCanonical c.list d.list c.canonical d.canonical; same = AllZip-append SamePolynomial c.list d.list ps qs c.same d.same }

module _ (q : Quiver) (quiver : IsQuiver q) where
  closed-adjoint : (p : Poly) → IsCanonical p → Closed (new_adjoint q p)
  closed-adjoint p h =
      cond_both (poly_eq (adjoint_poly q p) p || poly_eq (adjoint_poly q p) (poly_multiple (negsuc 0) p)) [] _ Closed (λ _. closed-itself [] tt) (λ _. record {
        list = collected (adjoint_poly q p) ∷ [];
        canonical = (canonical-adjoint q (adjoint_word-adjoint_word q quiver) p h, tt);
        same = (record { at = coefficient_of-collected (adjoint_poly q p) }, tt);
      })

  closed-adjoints : (ps : List Poly) → AllByRecursion IsCanonical ps → Closed (flat_map (new_adjoint q) ps)
  closed-adjoints [] h = closed-itself [] tt
  closed-adjoints (p ∷ ps) h = closed-append (new_adjoint q p) (flat_map (new_adjoint q) ps) (closed-adjoint p h.0) (closed-adjoints ps h.1)

  closed-generators : (starred : Bool) (marked : List ℕ) (ps : List Poly) → AllByRecursion IsCanonical ps → Closed (generators_of q starred marked ps)
  closed-generators starred marked ps h =
      closed-append ps _ (closed-itself ps h) (closed-append _ (flat_map (units q starred) marked)
      (cond_both starred (flat_map (new_adjoint q) ps) [] Closed (λ _. closed-adjoints ps h) (λ _. closed-itself [] tt))
      (closed-itself (flat_map (units q starred) marked) (all-flat_map IsCanonical (units q starred) (canonical-units q starred) marked)))

pub record Generators (p : Parts) : Type 0 where
  pub list : List made.Poly
  pub closed : IsClosed p list

pub generators_exist : (p : Parts) → IsPosed p → Generators p
generators_exist p posed =
    let c = closed-generators (quiver_of p.quiver) (posed_quiver p posed) p.starred (numbers p.marked) (polynomials p.assumptions) (canonical_polynomials p.assumptions) in
    let m = make c.list c.canonical in
    record { list = m.polys; closed = record { same = subst (λ l. AllZip SamePolynomial l (generators_in p)) (sym m.are) c.same } }
