-- Adjoints of words and polynomials by a list of letters.
use Rattle.nc_polynomial.proofs.Prelude.{◌≡◌, ◌≢◌, ℕ, ◌≤◌, ℤ, pos, ◌+ℤ◌, true, false, cond, inl, inr, List, [], ◌∷◌, ◌++◌, length, map, nat_le, sym, refl, ap, ap₂, subst, ◌∙◌, arith, append_assoc, cases_lt, and_from, leb-true, le-leb, append-nil, get_or_past, length-append, All-tail, +ℤ_comm, All, list_all, both_ways, BTreeMap, IsOrdered, btree_map_len, word_cmp, coefficient_in, IsCoefficient, Term, word_eq, coefficient_of, Quiver, adjoint_word, adjoint_poly, at_word, coefficient_of-append, word_eq-same, word_eq-true, reversed, IsCanonical, star_in, reversed_star, IsInvolution, IsAdjoint}
use Rattle.nc_polynomial.proofs.Shapes.{Descends, recursion_from_IsDescending}
use Rattle.nc_polynomial.proofs.Tables.{shaped-table, descending-table, nonzero-table, coefficient_of-table, length-reversed}
use Rattle.nc_polynomial.proofs.Distinct.{none_listed, distinct-descending, coefficient-ranged, words_listed}

abbrev pub adjoint_terms : List ℕ → List Term → List Term
adjoint_terms stars p = map (λ t. (t.0, reversed_star stars t.1)) p

-- in a quiver with these adjoints
word-quiver : (q : Quiver) (w : List ℕ) → reversed_star q.stars w ≡ adjoint_word q w
word-quiver q [] = refl
word-quiver q (a ∷ w) = ap (λ x. x ++ star_in q.stars a ∷ []) (word-quiver q w)

terms-quiver : (q : Quiver) (p : List Term) → adjoint_terms q.stars p ≡ adjoint_poly q p
terms-quiver q [] = refl
terms-quiver q (t ∷ p) = ap₂ (λ w (rest : List Term). (t.0, w) ∷ rest) (word-quiver q t.1) (terms-quiver q p)

pub adjoint_in : (stars : List ℕ) (p r : List Term) → ((w : List ℕ) → coefficient_of r w ≡ coefficient_of (adjoint_terms stars p) w) → IsAdjoint stars p r
adjoint_in stars p r same q e = record { at = λ w. same w ∙ ap (λ x. coefficient_of x w) (ap (λ s. adjoint_terms s p) (sym e) ∙ terms-quiver q p) }

-- words
reversed_star-append : (stars v w : List ℕ) → reversed_star stars (v ++ w) ≡ reversed_star stars w ++ reversed_star stars v
reversed_star-append stars [] w = sym (append-nil (reversed_star stars w))
reversed_star-append stars (a ∷ v) w =
    ap (λ x. x ++ star_in stars a ∷ []) (reversed_star-append stars v w) ∙ append_assoc (reversed_star stars w) (reversed_star stars v) (star_in stars a ∷ [])

pub length-reversed_star : (stars w : List ℕ) → length (reversed_star stars w) ≡ length w
length-reversed_star stars [] = refl
length-reversed_star stars (a ∷ w) =
    let behind = length-append (reversed_star stars w) (star_in stars a ∷ []) in
    let rest = length-reversed_star stars w in
    omega arith

module _ (stars : List ℕ) (involution : IsInvolution stars) where
  star_star : (a : ℕ) → star_in stars (star_in stars a) ≡ a
  star_star a = elim (cases_lt a (length stars)) [
    | inl h ↦ involution.twice a h
    | inr h ↦ let same : star_in stars a ≡ a = get_or_past stars a a h in ap (star_in stars) same ∙ same
  ]

  twice : (w : List ℕ) → reversed_star stars (reversed_star stars w) ≡ w
  twice [] = refl
  twice (a ∷ w) = reversed_star-append stars (reversed_star stars w) (star_in stars a ∷ []) ∙ ap₂ ◌∷◌ (star_star a) (twice w)

  word_eq-star : (v w : List ℕ) → word_eq (reversed_star stars v) w ≡ word_eq v (reversed_star stars w)
  word_eq-star v w = both_ways (word_eq (reversed_star stars v) w) (word_eq v (reversed_star stars w))
      (λ same. ap (word_eq v) (ap (reversed_star stars) (sym (word_eq-true (reversed_star stars v) w same)) ∙ twice v) ∙ word_eq-same v)
      (λ same. ap (λ x. word_eq x w) (ap (reversed_star stars) (word_eq-true v (reversed_star stars w) same) ∙ twice w) ∙ word_eq-same w)

  pub coefficient_of-adjoint_terms : (p : List Term) (w : List ℕ) → coefficient_of (adjoint_terms stars p) w ≡ coefficient_of p (reversed_star stars w)
  coefficient_of-adjoint_terms [] w = refl
  coefficient_of-adjoint_terms (t ∷ p) w =
      ap₂ (λ b x. cond b t.0 (pos 0) +ℤ x) (word_eq-star t.1 w) (coefficient_of-adjoint_terms p w)

  -- the adjoint of a new word is a new word
  pub new_word : (p : List Term) (t : Term) → All (λ u. word_eq u.1 t.1 ≡ false) p → coefficient_of (adjoint_terms stars p) (reversed_star stars t.1) ≡ pos 0
  new_word p t apart = coefficient_of-adjoint_terms p (reversed_star stars t.1) ∙ ap (coefficient_of p) (twice t.1) ∙ none_listed t.1 p apart

  -- the table of the adjoints
  pub in_range-adjoint : (p : List Term) → Descends p → All (λ t. IsCoefficient t.0) p → (w : List ℕ) → IsCoefficient (coefficient_of (adjoint_terms stars p) w)
  in_range-adjoint p d h w = subst IsCoefficient (sym (coefficient_of-adjoint_terms p w)) (coefficient-ranged p (distinct-descending p d) h (reversed_star stars w))

  pub short-adjoint : (p out : List Term) → All (λ t. length t.1 ≤ 500) p → Descends out → All (λ t. t.0 ≢ pos 0) out → ((w : List ℕ) → coefficient_of out w ≡ coefficient_of (adjoint_terms stars p) w) → All (λ t. length t.1 ≤ 500) out
  short-adjoint p out short d h same = words_listed (λ w. length w ≤ 500) out (distinct-descending out d) h (λ w there.
      elim (at_word (λ w. nat_le (length w) 500) p (reversed_star stars w) (each_short p short)) [
        | inl k ↦ subst (λ n. n ≤ 500) (length-reversed_star stars w) (leb-true (length (reversed_star stars w)) 500 k)
        | inr k ↦ absurd (there (same w ∙ coefficient_of-adjoint_terms p w ∙ k))
      ])
    where
      each_short : (q : List Term) → All (λ t. length t.1 ≤ 500) q → list_all (λ (t : Term). nat_le (length t.1) 500) q ≡ true
      each_short [] k = refl
      each_short (t ∷ q) k = and_from (nat_le (length t.1) 500) (list_all (λ (u : Term). nat_le (length u.1) 500) q) (le-leb (length t.1) 500 (k 0 t (omega arith))) (each_short q (All-tail (λ (u : Term). length u.1 ≤ 500) t q k))

-- a list of terms more
pub adjoint_terms-next : (stars : List ℕ) (p : List Term) (t : Term) (w : List ℕ) → coefficient_of (adjoint_terms stars (p ++ t ∷ [])) w ≡ coefficient_of ((t.0, reversed_star stars t.1) ∷ []) w +ℤ coefficient_of (adjoint_terms stars p) w
adjoint_terms-next stars p t w =
    ap (λ q. coefficient_of q w) (adjoint_terms-append p)
    ∙ coefficient_of-append (adjoint_terms stars p) ((t.0, reversed_star stars t.1) ∷ []) w
    ∙ +ℤ_comm (coefficient_of (adjoint_terms stars p) w) (coefficient_of ((t.0, reversed_star stars t.1) ∷ []) w)
  where
    adjoint_terms-append : (q : List Term) → adjoint_terms stars (q ++ t ∷ []) ≡ adjoint_terms stars q ++ (t.0, reversed_star stars t.1) ∷ []
    adjoint_terms-append [] = refl
    adjoint_terms-append (u ∷ q) = ap (λ rest. (u.0, reversed_star stars u.1) ∷ rest) (adjoint_terms-append q)

-- the terms of the table of the adjoints are a polynomial
pub canonical_table : (stars : List ℕ) → IsInvolution stars → (p : List Term) → IsCanonical p → (table : BTreeMap (List ℕ) ℤ) → IsOrdered word_cmp table → btree_map_len table ≤ length p
    → ((w : List ℕ) → coefficient_in table w ≡ coefficient_of (adjoint_terms stars p) w) → IsCanonical (reversed table.entries [])
canonical_table stars involution p h table ordered few same =
    let out = reversed table.entries [] in
    let falls = recursion_from_IsDescending p h.shaped.descending in
    let at_most = length-reversed table.entries [] in
    let enough : length p ≤ 20000 = h.few in
    record {
      shaped = shaped-table table ordered (λ w. subst IsCoefficient (sym (same w)) (in_range-adjoint stars involution p falls h.shaped.in_range w));
      short = short-adjoint stars involution p out h.short (descending-table table ordered) (nonzero-table table ordered) (λ w. coefficient_of-table table ordered w ∙ same w);
      few = omega arith;
    }
