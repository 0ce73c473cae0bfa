-- The terms of a table of words.
use Rattle.std.proofs.Common.{◌≡◌, ◌≢◌, ℕ, zero, suc, ◌+◌, ◌≤◌, ℤ, pos, negsuc, ◌+ℤ◌, length, false, cond, List, [], ◌∷◌, get_or, ◌++◌, map, Some, None, unwrap_or, sym, refl, ap, subst, ◌∙◌, arith, append_assoc, inl, inr}
use Rattle.std.proofs.Math.IntN.{+ℤ_idr}
use Rattle.std.proofs.lemmas.Bool.{cases_Bool, cond_both}
use Rattle.std.proofs.lemmas.Int.{ints}
use Rattle.std.proofs.lemmas.List.Elements.{All-nil, All-cons, All-tail, All-map}
use Rattle.std.specs.BTreeMap.{BTreeMap, IsOrdered}
use Rattle.std.specs.Cmp.{Equal-is}
use Rattle.std.specs.List.{All, AllByRecursion as ByRecursion}
use Rattle.std.specs.List.Sorted.{IsStrictlySortedBy}
use Rattle.std.specs.Map.{keys_of, lookup}
use Rattle.std.specs.Ordering.{is_eq}
use Rattle.std.specs.declared.cmp.Ordering.TheVariants.{Less, Greater}
use Rattle.definitions.proofs.Linear.{word_eq-true, coefficient_other}
use Rattle.definitions.specs.Poly.{Term, word_eq, coefficient_of}
use Rattle.coef_int.specs.Range.{IsCoefficient}
use Rattle.word_core.proofs.Order.{word_cmp-turned, word_cmp-same, word_cmp-itself}
use Rattle.word_core.specs.Canonical.{word_cmp}
use Rattle.nc_polynomial.specs.Ascending.{reversed}
use Rattle.nc_polynomial.specs.Collected.{coefficient_in}
use Rattle.nc_polynomial.specs.Running.{IsRunning, terms_in}
use Rattle.nc_polynomial.specs.Shape.{IsShaped}
use Rattle.nc_polynomial.specs.Terms.{keep}
use Rattle.nc_polynomial.proofs.Checked.{keep-append, keep-nonzero}
use Rattle.nc_polynomial.proofs.CoefficientLaws.{coefficient_of-keep}
use Rattle.nc_polynomial.proofs.Shapes.{Descends, IsBelow, IsNonzero, IsDescending-from_recursion, descending-keep, all-keep}
use Rattle.nc_polynomial.proofs.Words.{word_eq-cmp, word_eq-turned}
use Rattle.nc_polynomial.proofs.Distinct.{first_coefficient, ranged-descending}

abbrev pub Entry : Type 0
Entry = List ℕ × ℤ

-- an entry with its coefficient first
abbrev pub term_of : Entry → Term
term_of e = (e.1, e.0)

pub reversed-append : (entries : List Entry) (e : Entry) (later : List Term) → reversed (entries ++ e ∷ []) later ≡ keep e.1 e.0 (reversed entries later)
reversed-append [] e later = refl
reversed-append (x ∷ entries) e later = reversed-append entries e (keep x.1 x.0 later)

-- the last entry is moved to the end of the terms
pub reversed-step : (old new : List Entry) (w : List ℕ) (c : ℤ) (out : List Term) → old ≡ new ++ (w, c) ∷ [] → (out ++ keep c w []) ++ reversed new [] ≡ out ++ reversed old []
reversed-step old new w c out e =
    append_assoc out (keep c w []) (reversed new [])
    ∙ ap (λ rest. out ++ rest) (sym (keep-append c w (reversed new [])) ∙ sym (reversed-append new (w, c) []) ∙ ap (λ es. reversed es []) (sym e))

-- each word is below all later words
abbrev pub Ascends : List Entry → Type 0
Ascends [] = Unit {0}
Ascends (e ∷ entries) = All (λ x. word_cmp e.0 x.0 ≡ Less) entries × Ascends entries

pub ascends : (entries : List Entry) → IsStrictlySortedBy word_cmp (keys_of entries) → Ascends entries
unfolding IsStrictlySortedBy
ascends [] sorted = tt
ascends (e ∷ entries) sorted = (below entries sorted.0, ascends entries sorted.1)
  where
    below : (later : List Entry) → ByRecursion (λ w. word_cmp e.0 w ≡ Less) (keys_of later) → All (λ x. word_cmp e.0 x.0 ≡ Less) later
    below [] h = All-nil (λ (x : Entry). word_cmp e.0 x.0 ≡ Less)
    below (x ∷ later) h = All-cons (λ (y : Entry). word_cmp e.0 y.0 ≡ Less) x later h.0 (below later h.1)

-- all words of the entries are above all words of the terms
abbrev pub AreAbove : List Entry → List Term → Type 0
AreAbove entries later = All (λ e. All (λ t. word_cmp e.0 t.1 ≡ Greater) later) entries

pub descending-reversed : (entries : List Entry) (later : List Term) → Ascends entries → AreAbove entries later → Descends later → Descends (reversed entries later)
descending-reversed [] later up above down = down
descending-reversed (e ∷ entries) later up above down =
    let here = above 0 e (omega arith) in
    descending-reversed entries (keep e.1 e.0 later) up.1
    (λ i x k. all-keep (IsBelow (get_or entries i x).0) e.1 e.0 later (λ z. word_cmp-turned e.0 (get_or entries i x).0 (up.0 i x k)) (above (suc i) x (omega arith)))
    (descending-keep e.1 e.0 later here down)

pub nonzero-reversed : (entries : List Entry) (later : List Term) → All (λ t. t.0 ≢ pos 0) later → All (λ t. t.0 ≢ pos 0) (reversed entries later)
nonzero-reversed [] later h = h
nonzero-reversed (e ∷ entries) later h = nonzero-reversed entries (keep e.1 e.0 later) (all-keep IsNonzero e.1 e.0 later (λ z. z) h)

pub coefficient_of-reversed : (entries : List Entry) (later : List Term) (w : List ℕ) → coefficient_of (reversed entries later) w ≡ coefficient_of (map term_of entries) w +ℤ coefficient_of later w
coefficient_of-reversed [] later w = omega (arith, ints)
coefficient_of-reversed (e ∷ entries) later w =
    let first = cond (word_eq e.0 w) e.1 (pos 0) in
    let all : coefficient_of (reversed entries (keep e.1 e.0 later)) w ≡ coefficient_of (map term_of entries) w +ℤ coefficient_of (keep e.1 e.0 later) w = coefficient_of-reversed entries (keep e.1 e.0 later) w in
    let kept : coefficient_of (keep e.1 e.0 later) w ≡ first +ℤ coefficient_of later w = coefficient_of-keep e.1 e.0 later w in
    omega (arith, ints)

-- an ascending list names each word once
apart : (v : List ℕ) (entries : List Entry) → All (λ x. word_cmp v x.0 ≡ Less) entries → All (λ u. word_eq u.1 v ≡ false) (map term_of entries)
apart v entries h = All-map (λ (u : Term). word_eq u.1 v ≡ false) term_of entries (λ i x k. word_eq-cmp (get_or entries i x).0 v ∙ ap is_eq (word_cmp-turned v (get_or entries i x).0 (h i x k)))

-- what is listed at a word is its coefficient
pub lookup-coefficient : (w : List ℕ) (entries : List Entry) → Ascends entries → unwrap_or (lookup (λ k. is_eq (word_cmp w k)) entries) (pos 0) ≡ coefficient_of (map term_of entries) w
lookup-coefficient w [] up = refl
lookup-coefficient w (e ∷ entries) up =
    cond_both (is_eq (word_cmp w e.0)) _ _ (λ o. unwrap_or o (pos 0) ≡ coefficient_of (map term_of (e ∷ entries)) w)
    (λ same. sym (ap (coefficient_of (map term_of (e ∷ entries))) (word_eq-true w e.0 (word_eq-cmp w e.0 ∙ same)) ∙ first_coefficient (term_of e) (map term_of entries) (apart e.0 entries up.0)))
    (λ other. lookup-coefficient w entries up.1 ∙ sym (coefficient_other w (term_of e) (map term_of entries) (word_eq-turned e.0 w ∙ word_eq-cmp w e.0 ∙ other)))

-- the whole table
module _ (table : BTreeMap (List ℕ) ℤ) (sorted : IsOrdered word_cmp table) where
  up_table : Ascends table.entries
  up_table = ascends table.entries sorted

  pub descending-table : Descends (reversed table.entries [])
  descending-table = descending-reversed table.entries [] up_table (λ i x k. All-nil (IsBelow (get_or table.entries i x).0)) tt

  pub nonzero-table : All (λ t. t.0 ≢ pos 0) (reversed table.entries [])
  nonzero-table = nonzero-reversed table.entries [] (All-nil IsNonzero)

  pub coefficient_of-table : (w : List ℕ) → coefficient_of (reversed table.entries []) w ≡ coefficient_in table w
  coefficient_of-table w =
      coefficient_of-reversed table.entries [] w ∙ +ℤ_idr (coefficient_of (map term_of table.entries) w) ∙ sym (lookup-coefficient w table.entries up_table)

  pub shaped-table : ((w : List ℕ) → IsCoefficient (coefficient_in table w)) → IsShaped (reversed table.entries [])
  shaped-table in_range = record {
    descending = IsDescending-from_recursion (reversed table.entries []) descending-table;
    nonzero = nonzero-table;
    in_range = ranged-descending (reversed table.entries []) descending-table (λ w. subst IsCoefficient (sym (coefficient_of-table w)) (in_range w));
  }

pub length-keep : (z : ℤ) (w : List ℕ) (p : List Term) → length (keep z w p) ≤ length p + 1
length-keep (pos zero) w p = omega arith
length-keep (pos (suc n)) w p = omega arith
length-keep (negsuc n) w p = omega arith

pub length-reversed : (entries : List Entry) (later : List Term) → length (reversed entries later) ≤ length entries + length later
length-reversed [] later = omega arith
length-reversed (e ∷ entries) later =
    let rest = length-reversed entries (keep e.1 e.0 later) in
    let first = length-keep e.1 e.0 later in
    omega arith

-- a word below all listed ones isn't listed
lookup-below : (v : List ℕ) (entries : List Entry) → All (λ x. word_cmp v x.0 ≡ Less) entries → lookup (λ k. is_eq (word_cmp v k)) entries ≡ None
lookup-below v [] h = refl
lookup-below v (e ∷ entries) h = ap (λ o. cond (is_eq o) (Some e.1) (lookup (λ k. is_eq (word_cmp v k)) entries)) (h 0 e (omega arith)) ∙ lookup-below v entries (All-tail (λ (x : Entry). word_cmp v x.0 ≡ Less) e entries h)

nonzero-entries : (entries : List Entry) → Ascends entries → ((w : List ℕ) → lookup (λ k. is_eq (word_cmp w k)) entries ≢ Some (pos 0)) → All (λ e. e.1 ≢ pos 0) entries
nonzero-entries [] up h = All-nil (λ (x : Entry). x.1 ≢ pos 0)
nonzero-entries (e ∷ entries) up h = All-cons (λ (x : Entry). x.1 ≢ pos 0) e entries
    (λ zero. h e.0 (ap (λ b. cond b (Some e.1) (lookup (λ k. is_eq (word_cmp e.0 k)) entries)) (ap is_eq (word_cmp-itself e.0)) ∙ ap Some zero))
    (nonzero-entries entries up.1 (λ w there. elim (cases_Bool (is_eq (word_cmp w e.0))) [
      | inl same ↦
          let word = word_cmp-same w e.0 ((Equal-is (word_cmp w e.0)).0 same) in
          let none = lookup-below w entries (subst (λ v. All (λ (x : Entry). word_cmp v x.0 ≡ Less) entries) (sym word) up.0) in
          cc
      | inr other ↦ h w (ap (λ b. cond b (Some e.1) (lookup (λ k. is_eq (word_cmp w k)) entries)) other ∙ there)
    ]))

length-all : (entries : List Entry) (later : List Term) → All (λ e. e.1 ≢ pos 0) entries → length (reversed entries later) ≡ length entries + length later
length-all [] later h = omega arith
length-all (e ∷ entries) later h =
    let rest = length-all entries (keep e.1 e.0 later) (All-tail (λ (x : Entry). x.1 ≢ pos 0) e entries h) in
    let first = ap length (keep-nonzero e.1 e.0 later (h 0 e (omega arith))) in
    omega arith

module _ (table : BTreeMap (List ℕ) ℤ) (sorted : IsOrdered word_cmp table) (running : IsRunning table) where
  pub shaped-running : IsShaped (terms_in table)
  shaped-running = shaped-table table sorted running.in_range

  -- each entry is a term
  pub length-running : length (terms_in table) ≡ length table.entries
  length-running =
      let all = length-all table.entries [] (nonzero-entries table.entries (ascends table.entries sorted) running.nonzero) in
      omega arith
