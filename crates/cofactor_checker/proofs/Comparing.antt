-- the sum compared with a multiple of the claim, from the least word on
use Rattle.cofactor_checker.proofs.Prelude.{◌≡◌, ◌≢◌, ℕ, zero, suc, ℤ, pos, negsuc, ◌+ℤ◌, ◌*ℤ◌, ◌<ℤ◌, List, [], ◌∷◌, ◌++◌, map, get_or, Bool, true, false, cond, Option, Some, None, unwrap_or, Result, Ok, Err, IfOk, sym, refl, ap, ap₂, ◌∙◌, subst, arith, All, append_assoc, BTreeMap, is_at, IsOrdered, AllByRecursion, IsStrictlySortedBy, keys_of, lookup, is_eq, Less, Equal, Greater, ints, AllocError, append-nil, All-nil, All-cons, All-head, All-tail, sorted_head, sorted_tail, +ℤ_idl, +ℤ_idr, +ℤ_comm, *ℤ-zero, first_overflow, IsCoefficient, word_cmp, word_cmp_total, word_cmp-same, word_cmp-turned, word_cmp-turned_back, word_cmp-trans, word_eq, coefficient_of, word_eq-same, word_eq-true, coefficient_other, coefficient_of-append, *ℤ-+ℤ, *ℤ_zero, coefficient_in, IsShaped, IsDescending, products, IsLeastDifference, IsComparison, Difference, IsRunning, word_eq-cmp, word_eq-turned, none_listed}
use Rattle.std.specs.BTreeMap.{get}
use Rattle.definitions.proofs.Linear.{coefficient_at}
use Rattle.cofactor_checker.proofs.First.{products_fit}
use Rattle.cofactor_checker.proofs.Descending.{apart_greater, weaker, above, coefficient_there, holds_between}

-- the entries of a map as terms
abbrev pub terms_of : List (List ℕ × ℤ) → List (ℤ × List ℕ)
terms_of es = map (λ e. (e.1, e.0)) es

-- a word below the first entry is in none
entries_absent : (w : List ℕ) (es : List (List ℕ × ℤ)) → AllByRecursion (λ k. word_cmp w k ≡ Less) (keys_of es) → coefficient_of (terms_of es) w ≡ pos 0
entries_absent w es below = none_listed w (terms_of es) (go es below)
  where
    go : (es : List (List ℕ × ℤ)) → AllByRecursion (λ k. word_cmp w k ≡ Less) (keys_of es) → All (λ t. word_eq t.1 w ≡ false) (terms_of es)
    go [] below = All-nil _
    go (e ∷ es) below = All-cons (λ t. word_eq t.1 w ≡ false) (e.1, e.0) (terms_of es) (apart_greater e.0 w (word_cmp-turned w e.0 below.0)) (go es below.1)

-- The entries of the map and the terms of the claim that are left differ by as much as the whole map and the whole claim.
pub record Compares (m : BTreeMap (List ℕ) ℤ) (d : ℤ) (claim rest : List (ℤ × List ℕ)) (entries : List (List ℕ × ℤ)) : Type 0 where
  pub same : (w : List ℕ) → d *ℤ coefficient_of claim w +ℤ coefficient_of (terms_of entries) w ≡ coefficient_in m w +ℤ d *ℤ coefficient_of rest w
  pub sorted : IsStrictlySortedBy word_cmp (keys_of entries)
  pub found : All (λ e. get word_cmp m e.0 ≡ Some e.1) entries
  pub passed : List (ℤ × List ℕ)
  pub splits : claim ≡ rest ++ passed

-- the multiple of the claim
abbrev wanted : ℤ → List (ℤ × List ℕ) → List ℕ → ℤ
wanted d claim w = d *ℤ coefficient_of claim w

-- The turn of a term: what is left of the claim ends in it.
pub record EndsIn (m : BTreeMap (List ℕ) ℤ) (d : ℤ) (claim greater : List (ℤ × List ℕ)) (t : ℤ × List ℕ) (entries : List (List ℕ × ℤ)) : Type 0 where
  pub compares : Compares m d claim (greater ++ t ∷ []) entries
  pub running : IsRunning m
  pub shaped : IsShaped claim
  pub positive : pos 0 <ℤ d
  pub fits : first_overflow (products d claim) ≡ None

module _ {m : BTreeMap (List ℕ) ℤ} {d : ℤ} {claim : List (ℤ × List ℕ)} where
  -- neither has anything at w
  agree_below : {rest : List (ℤ × List ℕ)} {entries : List (List ℕ × ℤ)} → Compares m d claim rest entries → (w : List ℕ)
      → coefficient_of (terms_of entries) w ≡ pos 0 → coefficient_of rest w ≡ pos 0 → wanted d claim w ≡ coefficient_in m w
  agree_below {rest = rest} compares w no_entry no_term =
      let same = compares.same w in
      let none : d *ℤ coefficient_of rest w ≡ pos 0 = ap (λ k. d *ℤ k) no_term ∙ *ℤ-zero d in
      omega (arith, ints)

  -- an entry is left
  module _ {rest : List (ℤ × List ℕ)} {e : List ℕ × ℤ} {es : List (List ℕ × ℤ)} (compares : Compares m d claim rest (e ∷ es)) where
    -- it is what the map has at its word
    first_found : get word_cmp m e.0 ≡ Some e.1
    first_found = All-head (λ x. get word_cmp m x.0 ≡ Some x.1) e es compares.found

    entry_is : coefficient_in m e.0 ≡ e.1
    entry_is = ap (λ o. unwrap_or o (pos 0)) first_found

    later_keys : AllByRecursion (λ k. word_cmp e.0 k ≡ Less) (keys_of es)
    later_keys = sorted_head word_cmp e.0 (keys_of es) compares.sorted

    below_entries : (w : List ℕ) → word_cmp w e.0 ≡ Less → coefficient_of (terms_of (e ∷ es)) w ≡ pos 0
    below_entries w less = entries_absent w (e ∷ es) (less, weaker (λ k after. word_cmp_total.trans w e.0 k less after) (keys_of es) later_keys)

    -- and no other entry is
    later_absent : coefficient_of (terms_of (e ∷ es)) e.0 ≡ e.1
    later_absent = coefficient_at e.0 (e.1, e.0) (terms_of es) (word_eq-same e.0) ∙ ap (λ k. e.1 +ℤ k) (entries_absent e.0 es later_keys) ∙ +ℤ_idr e.1

    -- the first entry, where the claim has nothing up to its word
    entry_differs : IsRunning m → coefficient_of rest e.0 ≡ pos 0 → ((w : List ℕ) → word_cmp w e.0 ≡ Less → coefficient_of rest w ≡ pos 0)
        → IsLeastDifference (wanted d claim) (coefficient_in m) e.0 (pos 0) e.1
    entry_differs running none_there none_below = record {
      wanted_there =
          let same = compares.same e.0 in
          let none : d *ℤ coefficient_of rest e.0 ≡ pos 0 = ap (λ k. d *ℤ k) none_there ∙ *ℤ-zero d in
          let entry = later_absent in
          let is = entry_is in
          omega (arith, ints);
      found_there = entry_is;
      differ = λ none. running.nonzero e.0 (first_found ∙ ap Some (sym none));
      least = λ w less. agree_below compares w (below_entries w less) (none_below w less);
    }

  -- nothing of the claim is left
  pub entry_left : {e : List ℕ × ℤ} {es : List (List ℕ × ℤ)} → IsRunning m → Compares m d claim [] (e ∷ es)
      → IsLeastDifference (wanted d claim) (coefficient_in m) e.0 (pos 0) e.1
  entry_left running compares = entry_differs compares running refl (λ w less. refl)

  module _ {greater : List (ℤ × List ℕ)} {t : ℤ × List ℕ} {entries : List (List ℕ × ℤ)} (turn : EndsIn m d claim greater t entries) where
    -- the whole claim, at the term
    split : claim ≡ greater ++ t ∷ turn.compares.passed
    split = turn.compares.splits ∙ append_assoc greater (t ∷ []) turn.compares.passed

    descending : IsDescending (greater ++ t ∷ turn.compares.passed)
    descending = subst IsDescending split turn.shaped.descending

    -- what holds of all terms of the claim
    term_holds : (P : ℤ × List ℕ → Type 0) → All P claim → P t
    term_holds P all = holds_between P greater t turn.compares.passed (subst (All P) split all)

    pub product_fits : IsCoefficient (d *ℤ t.0)
    product_fits = term_holds (λ u. IsCoefficient (d *ℤ u.0)) (products_fit d claim turn.fits)

    terms_above : All (λ u. word_cmp u.1 t.1 ≡ Greater) greater
    terms_above = above greater t turn.compares.passed descending

    wanted_is : wanted d claim t.1 ≡ d *ℤ t.0
    wanted_is = ap (λ p. d *ℤ coefficient_of p t.1) split ∙ ap (λ k. d *ℤ k) (coefficient_there greater t turn.compares.passed descending)

    -- a word below the last term is in none of those left
    below_terms : (w : List ℕ) → word_cmp w t.1 ≡ Less → coefficient_of (greater ++ t ∷ []) w ≡ pos 0
    below_terms w less =
        let least = word_cmp-turned w t.1 less in
        coefficient_of-append greater (t ∷ []) w
        ∙ ap₂ ◌+ℤ◌ (none_listed w greater (λ k d inside. let u = (get_or greater k d).1 in apart_greater u w (word_cmp-trans u t.1 w (terms_above k d inside) least)))
        (none_listed w (t ∷ []) (All-cons (λ u. word_eq u.1 w ≡ false) t [] (apart_greater t.1 w least) (All-nil _)))

    last_there : coefficient_of (greater ++ t ∷ []) t.1 ≡ t.0
    last_there =
        coefficient_of-append greater (t ∷ []) t.1
        ∙ ap₂ ◌+ℤ◌ (none_listed t.1 greater (λ k d inside. apart_greater (get_or greater k d).1 t.1 (terms_above k d inside)))
        (coefficient_at t.1 t [] (word_eq-same t.1) ∙ +ℤ_idr t.0)
        ∙ +ℤ_idl t.0

    -- the last term, where the map has nothing up to its word
    term_differs : coefficient_of (terms_of entries) t.1 ≡ pos 0 → ((w : List ℕ) → word_cmp w t.1 ≡ Less → coefficient_of (terms_of entries) w ≡ pos 0)
        → IsLeastDifference (wanted d claim) (coefficient_in m) t.1 (d *ℤ t.0) (pos 0)
    term_differs none_there none_below = record {
      wanted_there = wanted_is;
      found_there =
          let same = turn.compares.same t.1 in
          let rest : d *ℤ coefficient_of (greater ++ t ∷ []) t.1 ≡ d *ℤ t.0 = ap (λ k. d *ℤ k) last_there in
          let want = wanted_is in
          omega (arith, ints);
      differ = λ none. term_holds (λ u. u.0 ≢ pos 0) turn.shaped.nonzero (no_zero d t.0 turn.positive none);
      least = λ w less. agree_below turn.compares w (none_below w less) (below_terms w less);
    }
      where
        no_zero : (k x : ℤ) → pos 0 <ℤ k → k *ℤ x ≡ pos 0 → x ≡ pos 0
        no_zero (pos (suc n)) x positive none = *ℤ_zero n x none
        no_zero (pos zero) x positive none = absurd (omega (arith, ints))
        no_zero (negsuc n) x positive none = absurd (omega (arith, ints))

  -- no entry is left
  pub term_left : {greater : List (ℤ × List ℕ)} {t : ℤ × List ℕ} → EndsIn m d claim greater t []
      → IsLeastDifference (wanted d claim) (coefficient_in m) t.1 (d *ℤ t.0) (pos 0)
  term_left turn = term_differs turn refl (λ w less. refl)

  module _ {greater : List (ℤ × List ℕ)} {t : ℤ × List ℕ} {e : List ℕ × ℤ} {es : List (List ℕ × ℤ)} (turn : EndsIn m d claim greater t (e ∷ es)) where
    -- the next entry is below the next term
    pub entry_first : word_cmp e.0 t.1 ≡ Less → IsLeastDifference (wanted d claim) (coefficient_in m) e.0 (pos 0) e.1
    entry_first less = entry_differs turn.compares turn.running (below_terms turn e.0 less) (λ w lesser. below_terms turn w (word_cmp_total.trans w e.0 t.1 lesser less))

    -- the next term is below the next entry
    pub term_first : word_cmp e.0 t.1 ≡ Greater → IsLeastDifference (wanted d claim) (coefficient_in m) t.1 (d *ℤ t.0) (pos 0)
    term_first higher =
        let less = word_cmp-turned_back e.0 t.1 higher in
        term_differs turn (below_entries turn.compares t.1 less) (λ w lesser. below_entries turn.compares w (word_cmp_total.trans w t.1 e.0 lesser less))

    -- both have the word, with different coefficients
    pub both_differ : word_cmp e.0 t.1 ≡ Equal → d *ℤ t.0 ≢ e.1 → IsLeastDifference (wanted d claim) (coefficient_in m) e.0 (d *ℤ t.0) e.1
    both_differ equal differ =
        let one_word : e.0 ≡ t.1 = word_cmp-same e.0 t.1 equal in
        record {
          wanted_there = ap (wanted d claim) one_word ∙ wanted_is turn;
          found_there = entry_is turn.compares;
          differ = differ;
          least = λ w less. agree_below turn.compares w (below_entries turn.compares w less) (below_terms turn w (ap (word_cmp w) (sym one_word) ∙ less));
        }

    -- both have it with the same coefficient
    pub both_agree : word_cmp e.0 t.1 ≡ Equal → d *ℤ t.0 ≡ e.1 → Compares m d claim greater es
    both_agree equal agree = record {
      same = λ w. same w;
      sorted = sorted_tail word_cmp e.0 (keys_of es) turn.compares.sorted;
      found = All-tail (λ x. get word_cmp m x.0 ≡ Some x.1) e es turn.compares.found;
      passed = t ∷ turn.compares.passed;
      splits = split turn;
    }
      where
        same : (w : List ℕ) → d *ℤ coefficient_of claim w +ℤ coefficient_of (terms_of es) w ≡ coefficient_in m w +ℤ d *ℤ coefficient_of greater w
        same w =
            let both = turn.compares.same w in
            let last : d *ℤ coefficient_of (greater ++ t ∷ []) w ≡ d *ℤ coefficient_of greater w +ℤ d *ℤ (cond (word_eq t.1 w) t.0 (pos 0) +ℤ pos 0) =
            ap (λ k. d *ℤ k) (coefficient_of-append greater (t ∷ []) w) ∙ *ℤ-+ℤ d (coefficient_of greater w) (cond (word_eq t.1 w) t.0 (pos 0) +ℤ pos 0) in
            let first : coefficient_of (terms_of (e ∷ es)) w ≡ d *ℤ (cond (word_eq t.1 w) t.0 (pos 0) +ℤ pos 0) +ℤ coefficient_of (terms_of es) w =
            ap (λ x. cond (word_eq x w) e.1 (pos 0) +ℤ coefficient_of (terms_of es) w) (word_cmp-same e.0 t.1 equal) ∙ ap (λ k. k +ℤ coefficient_of (terms_of es) w) (one (word_eq t.1 w)) in
            omega (arith, ints)
          where
            one : (b : Bool) → cond b e.1 (pos 0) ≡ d *ℤ (cond b t.0 (pos 0) +ℤ pos 0)
            one true = sym agree ∙ ap (λ k. d *ℤ k) (sym (+ℤ_idr t.0))
            one false = sym (*ℤ-zero d)

-- the entries of an ordered map, as terms, have its coefficients
entries_are : (w : List ℕ) (es : List (List ℕ × ℤ)) → IsStrictlySortedBy word_cmp (keys_of es) → coefficient_of (terms_of es) w ≡ unwrap_or (lookup (is_at (word_cmp w)) es) (pos 0)
entries_are w [] sorted = refl
entries_are w (e ∷ es) sorted = go (word_eq e.0 w) refl (entries_are w es (sorted_tail word_cmp e.0 (keys_of es) sorted))
  where
    tests : is_eq (word_cmp w e.0) ≡ word_eq e.0 w
    tests = sym (word_eq-cmp w e.0) ∙ word_eq-turned w e.0

    go : (b : Bool) → word_eq e.0 w ≡ b → coefficient_of (terms_of es) w ≡ unwrap_or (lookup (is_at (word_cmp w)) es) (pos 0)
        → coefficient_of (terms_of (e ∷ es)) w ≡ unwrap_or (lookup (is_at (word_cmp w)) (e ∷ es)) (pos 0)
    go true same rest =
        coefficient_at w (e.1, e.0) (terms_of es) same
        ∙ ap (λ k. e.1 +ℤ k) (entries_absent w es (subst (λ v. AllByRecursion (λ k. word_cmp v k ≡ Less) (keys_of es)) (word_eq-true e.0 w same) (sorted_head word_cmp e.0 (keys_of es) sorted)))
        ∙ +ℤ_idr e.1
        ∙ sym (ap (λ b. unwrap_or (cond b (Some e.1) (lookup (is_at (word_cmp w)) es)) (pos 0)) (tests ∙ same))
    go false apart rest =
        coefficient_other w (e.1, e.0) (terms_of es) apart ∙ rest
        ∙ sym (ap (λ b. unwrap_or (cond b (Some e.1) (lookup (is_at (word_cmp w)) es)) (pos 0)) (tests ∙ apart))

-- before anything is compared
pub begins : (m : BTreeMap (List ℕ) ℤ) (d : ℤ) (claim : List (ℤ × List ℕ)) → IsOrdered word_cmp m → All (λ e. get word_cmp m e.0 ≡ Some e.1) m.entries → Compares m d claim claim m.entries
begins m d claim ordered found = record {
  same = λ w. let is = entries_are w m.entries ordered in ap (λ k. d *ℤ coefficient_of claim w +ℤ k) is ∙ +ℤ_comm (d *ℤ coefficient_of claim w) (coefficient_in m w);
  sorted = ordered;
  found = found;
  passed = [];
  splits = sym (append-nil claim);
}

-- what a call that makes a difference returns
pub told : {multiple found : List ℕ → ℤ} {w : List ℕ} {want got : ℤ} (r : Result (Option Difference) AllocError) → IsLeastDifference multiple found w want got
    → IfOk r (λ d. d ≡ Some (record { word = w; want = want; got = got })) → IfOk r (IsComparison multiple found)
told {multiple = multiple} {found = found} (Ok d) differs is = subst (IsComparison multiple found) (sym is) differs
told (Err e) differs is = tt
