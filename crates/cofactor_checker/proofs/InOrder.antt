-- the entries of the table, moved one after another into a map in the order of the words
use Rattle.cofactor_checker.proofs.Prelude.{◌≡◌, ◌≢◌, ℕ, ℤ, pos, ◌+ℤ◌, List, [], ◌∷◌, Bool, true, false, cond, Option, Some, None, IfSome, unwrap_or, sym, refl, ap, ◌∙◌, subst, arith, ints, All-values_from_lookup, IsDistinct-head, IsDistinct-tail, +ℤ_idl, +ℤ_idr, BTreeMap, Updates, IsEmpty, is_at, All-nil, All-cons, All-head, All-tail, get, IsUnique, AllByRecursion, IsDistinct, keys_of, values_of, lookup, IsCoefficient, word_cmp, word_eq, coefficient_of, word_eq-true, coefficient_other, coefficient_in, first_coefficient, adds_from_update, running_from_update, word_eq-turned, IsRunning, Table, coefficient_at, IsTable, All}
use Rattle.nc_polynomial.specs.Running.{Adds}
use Rattle.cofactor_checker.proofs.Comparing.{terms_of}
use Rattle.cofactor_checker.proofs.Words.{word_eq_equivalence}

abbrev Entry : Type 0
Entry = List ℕ × ℤ

-- what a list of different words has at a word
turned : (w : List ℕ) (es : List Entry) → AllByRecursion (λ k. word_eq w k ≡ false) (keys_of es) → All (λ t. word_eq t.1 w ≡ false) (terms_of es)
turned w [] apart = All-nil _
turned w (e ∷ es) apart = All-cons (λ t. word_eq t.1 w ≡ false) (e.1, e.0) (terms_of es) (word_eq-turned e.0 w ∙ apart.0) (turned w es apart.1)

listed_at : (w : List ℕ) (es : List Entry) → IsDistinct word_eq (keys_of es) → unwrap_or (lookup (word_eq w) es) (pos 0) ≡ coefficient_of (terms_of es) w
listed_at w [] distinct = refl
listed_at w (e ∷ es) distinct = go (word_eq w e.0) refl (listed_at w es (IsDistinct-tail word_eq e.0 (keys_of es) distinct))
  where
    later : All (λ t. word_eq t.1 e.0 ≡ false) (terms_of es)
    later = turned e.0 es (IsDistinct-head word_eq e.0 (keys_of es) distinct)

    go : (b : Bool) → word_eq w e.0 ≡ b → unwrap_or (lookup (word_eq w) es) (pos 0) ≡ coefficient_of (terms_of es) w
        → unwrap_or (cond (word_eq w e.0) (Some e.1) (lookup (word_eq w) es)) (pos 0) ≡ coefficient_of (terms_of (e ∷ es)) w
    go true same rest =
        ap (λ b. unwrap_or (cond b (Some e.1) (lookup (word_eq w) es)) (pos 0)) same
        ∙ sym (ap (coefficient_of (terms_of (e ∷ es))) (word_eq-true w e.0 same) ∙ first_coefficient (e.1, e.0) (terms_of es) later)
    go false other rest =
        ap (λ b. unwrap_or (cond b (Some e.1) (lookup (word_eq w) es)) (pos 0)) other
        ∙ rest
        ∙ sym (coefficient_other w (e.1, e.0) (terms_of es) (word_eq-turned e.0 w ∙ other))

-- a coefficient that may stand in the table
abbrev Fits : ℤ → Type 0
Fits c = (c ≢ pos 0) × IsCoefficient c

-- The map and the entries that are left have together what the table has, and no word of these is in the map.
pub record Moves (table : Table) (rest : List Entry) (sum : BTreeMap (List ℕ) ℤ) : Type 0 where
  pub total : (w : List ℕ) → coefficient_in sum w +ℤ coefficient_of (terms_of rest) w ≡ coefficient_at table w
  pub distinct : IsDistinct word_eq (keys_of rest)
  pub fit : All Fits (values_of rest)
  pub fresh : AllByRecursion (λ e. coefficient_in sum e.0 ≡ pos 0) rest

-- before the first entry
pub begins : (table : Table) (sum : BTreeMap (List ℕ) ℤ) → IsTable table → IsUnique word_eq table → IsEmpty sum → Moves table table.entries sum
begins table sum kept unique empty = record {
  total = λ w. ap (λ k. k +ℤ coefficient_of (terms_of table.entries) w) (nothing w) ∙ +ℤ_idl (coefficient_of (terms_of table.entries) w) ∙ sym (listed_at w table.entries unique);
  distinct = unique;
  fit = All-values_from_lookup word_eq_equivalence Fits table.entries unique (λ w. fits w (get word_eq table w) refl);
  fresh = all table.entries;
}
  where
    nothing : (w : List ℕ) → coefficient_in sum w ≡ pos 0
    nothing w = ap (λ es. unwrap_or (lookup (is_at (word_cmp w)) es) (pos 0)) empty

    all : (es : List Entry) → AllByRecursion (λ e. coefficient_in sum e.0 ≡ pos 0) es
    all [] = tt
    all (e ∷ es) = (nothing e.0, all es)

    fits : (w : List ℕ) (o : Option ℤ) → get word_eq table w ≡ o → IfSome o Fits
    fits w None there = tt
    fits w (Some c) there = (λ zero. kept.nonzero w (there ∙ ap Some zero), subst (λ o. IsCoefficient (unwrap_or o (pos 0))) there (kept.in_range w))

-- one entry more
module _ {table : Table} {e : Entry} {es : List Entry} {sum : BTreeMap (List ℕ) ℤ} (moves : Moves table (e ∷ es) sum) (new : BTreeMap (List ℕ) ℤ) (update : Updates word_cmp sum new e.0 (Some e.1)) where
  adds : Adds sum new ((e.1, e.0) ∷ [])
  adds = adds_from_update sum new e.0 (Some e.1) update e.1 (sym (ap (λ k. k +ℤ e.1) moves.fresh.0 ∙ +ℤ_idl e.1))

  first_fits : Fits e.1
  first_fits = All-head Fits e.1 (values_of es) moves.fit

  pub running_more : IsRunning sum → IsRunning new
  running_more running = running_from_update sum new e.0 (Some e.1) update running (λ zero. first_fits.0 (ap (λ o. unwrap_or o e.1) zero)) first_fits.1

  pub moves_more : Moves table es new
  moves_more = record { total = total; distinct = IsDistinct-tail word_eq e.0 (keys_of es) moves.distinct; fit = All-tail Fits e.1 (values_of es) moves.fit; fresh = fresh es (IsDistinct-head word_eq e.0 (keys_of es) moves.distinct) moves.fresh.1 }
    where
      total : (w : List ℕ) → coefficient_in new w +ℤ coefficient_of (terms_of es) w ≡ coefficient_at table w
      total w =
          let here = cond (word_eq e.0 w) e.1 (pos 0) in
          let added : coefficient_in new w ≡ coefficient_in sum w +ℤ (here +ℤ pos 0) = adds.at w in
          let before : coefficient_in sum w +ℤ (here +ℤ coefficient_of (terms_of es) w) ≡ coefficient_at table w = moves.total w in
          omega (arith, ints)

      fresh : (xs : List Entry) → AllByRecursion (λ k. word_eq e.0 k ≡ false) (keys_of xs) → AllByRecursion (λ x. coefficient_in sum x.0 ≡ pos 0) xs → AllByRecursion (λ x. coefficient_in new x.0 ≡ pos 0) xs
      fresh [] apart none = tt
      fresh (x ∷ xs) apart none = (adds.at x.0 ∙ ap (λ b. coefficient_in sum x.0 +ℤ (cond b e.1 (pos 0) +ℤ pos 0)) apart.0 ∙ +ℤ_idr (coefficient_in sum x.0) ∙ none.0, fresh xs apart.1 none.1)

-- behind the last one
pub ends : {table : Table} {rest : List Entry} {sum : BTreeMap (List ℕ) ℤ} → Moves table rest sum → rest ≡ [] → (w : List ℕ) → coefficient_in sum w ≡ coefficient_at table w
ends {sum = sum} moves none w = sym (+ℤ_idr (coefficient_in sum w)) ∙ sym (ap (λ es. coefficient_in sum w +ℤ coefficient_of (terms_of es) w) none) ∙ moves.total w
