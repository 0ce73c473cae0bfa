-- a row added to the sum, one term of the generator after another
use Rattle.cofactor_checker.proofs.Prelude.{◌≡◌, ℕ, ◌+◌, ◌<◌, ◌≤◌, ℤ, pos, ◌+ℤ◌, ◌*ℤ◌, List, [], ◌∷◌, ◌++◌, length, drop, get_or, false, cond, Some, None, sym, refl, ap, ◌∙◌, subst, arith, Greater, at_drop_more, at_drop_all, append_cancel_left, append_cancel_right, get_or_default, false_from_ne_true, tied_itself, +ℤ_idr, +ℤ_assoc, Overflow, IsCoefficient, product_of, sum_of, first_overflow, word_cmp, word_cmp_total, word_eq, coefficient_of, poly_multiple, poly_between, word_eq-true, IsDescending, Stop, adding_operations, IsStoppedBy, Table, coefficient_at, Adds}
use Rattle.cofactor_checker.proofs.First.{first-fits, first-fails, stopped_before}

-- words that are apart stay so between two others
pub apart_between : (l v w r : List ℕ) → word_cmp v w ≡ Greater → word_eq (l ++ (v ++ r)) (l ++ (w ++ r)) ≡ false
apart_between l v w r greater = false_from_ne_true _ (λ same.
    let inner = append_cancel_right v w r (append_cancel_left l (v ++ r) (w ++ r) (word_eq-true _ _ same)) in
    let equal = sym (ap (word_cmp v) inner) ∙ tied_itself word_cmp_total v in
    cc)

-- the terms of g before the place i are added to the first map as c l g r, those from there on are not
pub record AddsUpTo (start now : Table) (c : ℤ) (l : List ℕ) (g : List (ℤ × List ℕ)) (r : List ℕ) (i : ℕ) : Type 0 where
  pub ahead : (j : ℕ) (d : ℤ × List ℕ) → i ≤ j → j < length g → coefficient_at now (l ++ ((get_or g j d).1 ++ r)) ≡ coefficient_at start (l ++ ((get_or g j d).1 ++ r))
  pub first : first_overflow (adding_operations (coefficient_at start) c l (drop i g) r) ≡ first_overflow (adding_operations (coefficient_at start) c l g r)
  pub total : (w : List ℕ) → coefficient_at now w +ℤ coefficient_of (poly_multiple c (poly_between l (drop i g) r)) w ≡ coefficient_at start w +ℤ coefficient_of (poly_multiple c (poly_between l g r)) w

pub begins : (m : Table) (c : ℤ) (l : List ℕ) (g : List (ℤ × List ℕ)) (r : List ℕ) → AddsUpTo m m c l g r 0
begins m c l g r = record { ahead = λ j d from below. refl; first = refl; total = λ w. refl }

pub ends : (start now : Table) (c : ℤ) (l : List ℕ) (g : List (ℤ × List ℕ)) (r : List ℕ) (i : ℕ) → AddsUpTo start now c l g r i → length g ≤ i
    → Adds start now (poly_multiple c (poly_between l g r)) × (first_overflow (adding_operations (coefficient_at start) c l g r) ≡ None)
ends start now c l g r i added all = (record { at = λ w. at w }, sym added.first ∙ at_drop_all (λ x. first_overflow (adding_operations (coefficient_at start) c l x r)) g i all)
  where
    at : (w : List ℕ) → coefficient_at now w ≡ coefficient_at start w +ℤ coefficient_of (poly_multiple c (poly_between l g r)) w
    at w =
        sym (+ℤ_idr (coefficient_at now w))
        ∙ sym (ap (λ x. coefficient_at now w +ℤ x) (at_drop_all (λ x. coefficient_of (poly_multiple c (poly_between l x r)) w) g i all))
        ∙ added.total w

-- The turn of a term: it stands at the place i, and those before it are added.
pub record IsNextTerm (start now : Table) (c : ℤ) (l : List ℕ) (g : List (ℤ × List ℕ)) (r : List ℕ) (i : ℕ) (t : ℤ × List ℕ) : Type 0 where
  pub added : AddsUpTo start now c l g r i
  pub below : i < length g
  pub is : t ≡ get_or g i t

module _ {start now : Table} {c : ℤ} {l : List ℕ} {g : List (ℤ × List ℕ)} {r : List ℕ} {i : ℕ} {t : ℤ × List ℕ} (next : IsNextTerm start now c l g r i t) where
  -- the operations of the later terms
  abbrev later : List Overflow
  later = adding_operations (coefficient_at start) c l (drop (i + 1) g) r

  -- the sum of this term
  abbrev adding : Overflow
  adding = sum_of (coefficient_at now (l ++ (t.1 ++ r))) (c *ℤ t.0)

  -- the word has what it had at the start
  so_far : coefficient_at now (l ++ (t.1 ++ r)) ≡ coefficient_at start (l ++ (t.1 ++ r))
  so_far =
      ap (λ x. coefficient_at now (l ++ (x.1 ++ r))) next.is ∙ next.added.ahead i t (omega arith) next.below
      ∙ sym (ap (λ x. coefficient_at start (l ++ (x.1 ++ r))) next.is)

  -- the operations from this term on
  from_here : first_overflow (adding_operations (coefficient_at start) c l g r)
      ≡ first_overflow (product_of c t.0 ∷ adding ∷ later)
  from_here =
      sym next.added.first ∙ at_drop_more (λ x. first_overflow (adding_operations (coefficient_at start) c l x r)) g i t next.below
      ∙ sym (ap (λ x. first_overflow (adding_operations (coefficient_at start) c l (x ∷ drop (i + 1) g) r)) next.is)
      ∙ sym (ap (λ k. first_overflow (product_of c t.0 ∷ sum_of k (c *ℤ t.0) ∷ later)) so_far)

  pub product_fails : ¬ IsCoefficient (c *ℤ t.0) → first_overflow (adding_operations (coefficient_at start) c l g r) ≡ Some (product_of c t.0)
  product_fails fails = from_here ∙ first-fails (product_of c t.0) (adding ∷ later) fails

  -- this is its product, which fits, and this its word
  module _ (x : ℤ) (v : List ℕ) (x_is : x ≡ c *ℤ t.0) (v_is : v ≡ l ++ (t.1 ++ r)) (x_fits : IsCoefficient x) where
    fits : IsCoefficient (c *ℤ t.0)
    fits = rw x_is at x_fits

    pub sum_stopped : (e : Stop Overflow) → IsStoppedBy (first_overflow (sum_of (coefficient_at now v) x ∷ [])) e → IsStoppedBy (first_overflow (adding_operations (coefficient_at start) c l g r)) e
    sum_stopped e stopped = subst (λ o. IsStoppedBy o e) (sym (from_here ∙ first-fits (product_of c t.0) (adding ∷ later) fits)) (stopped_before adding later e (rw (x_is, v_is) at stopped))

    -- one term more
    pub goes_on : {new : Table} → IsDescending g → Adds now new ((x, v) ∷ []) → IsCoefficient (coefficient_at now v +ℤ x) → AddsUpTo start new c l g r (i + 1)
    goes_on {new = new} descending added sum_fits = record { ahead = ahead; first = first; total = total }
      where
        adds : Adds now new ((c *ℤ t.0, l ++ (t.1 ++ r)) ∷ [])
        adds = rw (x_is, v_is) at added

        ahead : (j : ℕ) (d : ℤ × List ℕ) → i + 1 ≤ j → j < length g → coefficient_at new (l ++ ((get_or g j d).1 ++ r)) ≡ coefficient_at start (l ++ ((get_or g j d).1 ++ r))
        ahead j d from inside =
            let u = get_or g j d in
            let greater : word_cmp t.1 u.1 ≡ Greater =
            ap (λ x. word_cmp x.1 u.1) next.is ∙ ap (λ y. word_cmp (get_or g i t).1 y.1) (get_or_default g j d t inside) ∙ descending i j t (omega arith) inside in
            let apart = apart_between l t.1 u.1 r greater in
            adds.at (l ++ (u.1 ++ r)) ∙ ap (λ b. coefficient_at now (l ++ (u.1 ++ r)) +ℤ (cond b (c *ℤ t.0) (pos 0) +ℤ pos 0)) apart ∙ +ℤ_idr (coefficient_at now (l ++ (u.1 ++ r))) ∙ next.added.ahead j d (omega arith) inside

        first : first_overflow (adding_operations (coefficient_at start) c l (drop (i + 1) g) r) ≡ first_overflow (adding_operations (coefficient_at start) c l g r)
        first = sym (from_here ∙ first-fits (product_of c t.0) (adding ∷ later) fits ∙ first-fits adding later (rw (x_is, v_is) at sum_fits))

        total : (w : List ℕ) → coefficient_at new w +ℤ coefficient_of (poly_multiple c (poly_between l (drop (i + 1) g) r)) w ≡ coefficient_at start w +ℤ coefficient_of (poly_multiple c (poly_between l g r)) w
        total w =
            let rest = coefficient_of (poly_multiple c (poly_between l (drop (i + 1) g) r)) w in
            let here = cond (word_eq (l ++ (t.1 ++ r)) w) (c *ℤ t.0) (pos 0) in
            let more : coefficient_of (poly_multiple c (poly_between l (drop i g) r)) w ≡ here +ℤ rest =
            at_drop_more (λ x. coefficient_of (poly_multiple c (poly_between l x r)) w) g i t next.below ∙ sym (ap (λ x. coefficient_of (poly_multiple c (poly_between l (x ∷ drop (i + 1) g) r)) w) next.is) in
            ap (λ k. k +ℤ rest) (adds.at w ∙ ap (λ k. coefficient_at now w +ℤ k) (+ℤ_idr here))
            ∙ +ℤ_assoc (coefficient_at now w) here rest
            ∙ sym (ap (λ k. coefficient_at now w +ℤ k) more)
            ∙ next.added.total w
