-- Declarations of different names.
use Rattle.statement_names.proofs.Prelude.{◌≡◌, ◌≢◌, ℕ, true, false, cond, not, is_some, List, [], ◌∷◌, ◌++◌, Option, Some, None, refl, ap, ap₂, sym, subst, ◌∙◌, arith, IsEquivalence, IsDistinct, filter, keys_of, lookup, option_or, bytes_eq, map-append, IsPermutation-filter_both, IsPermutation-map, option_filter, lookup-filter-values, IsDistinct-push, IsDistinct-head, IsDistinct-tail, IsDistinct-IsPermutation, is_some-lookup, bytes_eq-Decides, Kind, Object, Map, kind_in, is_kind}
use Rattle.statement_names.proofs.Each.{Each, Each-right}
use Rattle.statement_names.proofs.KindsFound.{same_bytes, kind_in-append}

-- no name is declared twice
abbrev pub Apart : List (List ℕ × Kind) → Type 0
Apart ds = IsDistinct bytes_eq (keys_of ds)

-- tests of names
pub own_bytes : (xs : List ℕ) → bytes_eq xs xs ≡ true
own_bytes xs = (bytes_eq-Decides xs xs).1 refl

pub differ_by : (xs ys : List ℕ) → bytes_eq xs ys ≡ false → xs ≢ ys
differ_by xs ys other = λ same. let own : bytes_eq xs ys ≡ true = (bytes_eq-Decides xs ys).1 same in cc

bytes_turned : (xs ys : List ℕ) → bytes_eq xs ys ≡ bytes_eq ys xs
bytes_turned xs ys = grind (arith, same_bytes xs ys, same_bytes ys xs, own_bytes xs)

pub bytes_equivalence : IsEquivalence bytes_eq
bytes_equivalence = record {
  refl = own_bytes;
  symm = bytes_turned;
  congr = λ xs ys zs same. ap (λ names. bytes_eq names zs) (same_bytes xs ys same);
}

pub both_none : {A : Type 0} (o p : Option A) → option_or o p ≡ None → (o ≡ None) × (p ≡ None)
both_none None p none = (refl, none)
both_none (Some x) p none = cc

-- a new name after others
pub Apart-none : Apart []
unfolding IsDistinct
Apart-none = tt

pub Apart-push : (xs : List (List ℕ × Kind)) (d : List ℕ × Kind) → Apart xs → kind_in xs d.0 ≡ None → Apart (xs ++ d ∷ [])
Apart-push xs d apart fresh =
    subst (IsDistinct bytes_eq) (sym (map-append (λ e. e.0) xs (d ∷ [])))
    (IsDistinct-push bytes_equivalence (keys_of xs) d.0 apart (sym (is_some-lookup (bytes_eq d.0) xs) ∙ ap is_some fresh))

-- a name is not among those before it
pub fresh_before : {X : Type 0} (xs ys : List (List ℕ × X)) (d : List ℕ × X) → IsDistinct bytes_eq (keys_of (xs ++ d ∷ ys)) → lookup (bytes_eq d.0) xs ≡ None
fresh_before [] ys d apart = refl
fresh_before (x ∷ xs) ys d apart =
    let keys = keys_of (xs ++ d ∷ ys) in
    let others = subst (Each (λ q. bytes_eq x.0 q ≡ false)) (map-append (λ e. e.0) xs (d ∷ ys)) (IsDistinct-head bytes_eq x.0 keys apart) in
    let differ = (Each-right (λ q. bytes_eq x.0 q ≡ false) (keys_of xs) (d.0 ∷ keys_of ys) others).0 in
    ap₂ (λ b found. cond b (Some x.1) found) (bytes_turned d.0 x.0 ∙ differ) (fresh_before xs ys d (IsDistinct-tail bytes_eq x.0 keys apart))

-- those that are declared as this kind
abbrev pub among : Kind → List (List ℕ × Kind) → List (List ℕ × Kind)
among kind ds = filter (λ d. is_kind (Some d.1) kind) ds

-- objects before maps
abbrev pub sorted : List (List ℕ × Kind) → List (List ℕ × Kind)
sorted ds = among Object ds ++ among Map ds

-- the same is found there
pub kind_in-among : (kind : Kind) (ds : List (List ℕ × Kind)) → Apart ds → (q : List ℕ)
    → kind_in (among kind ds) q ≡ option_filter (λ k. is_kind (Some k) kind) (kind_in ds q)
kind_in-among kind ds apart q = lookup-filter-values bytes_equivalence (λ k. is_kind (Some k) kind) q ds apart

pub kind_in-sorted : (ds : List (List ℕ × Kind)) → Apart ds → (q : List ℕ) → kind_in (sorted ds) q ≡ kind_in ds q
kind_in-sorted ds apart q =
    kind_in-append (among Object ds) (among Map ds) q ∙ ap₂ option_or (kind_in-among Object ds apart q) (kind_in-among Map ds apart q) ∙ either (kind_in ds q)
  where
    either : (found : Option Kind) → option_or (option_filter (λ k. is_kind (Some k) Object) found) (option_filter (λ k. is_kind (Some k) Map) found) ≡ found
    either None = refl
    either (Some Object) = refl
    either (Some Map) = refl

pub Apart-sorted : (ds : List (List ℕ × Kind)) → Apart ds → Apart (sorted ds)
Apart-sorted ds apart =
    let both = IsPermutation-filter_both (λ d. is_kind (Some d.1) Object) (λ d. is_kind (Some d.1) Map) (λ d. other d.1) ds in
    IsDistinct-IsPermutation bytes_eq bytes_turned (keys_of ds) (keys_of (sorted ds)) (IsPermutation-map (λ d. d.0) ds (sorted ds) both) apart
  where
    other : (kind : Kind) → is_kind (Some kind) Map ≡ not (is_kind (Some kind) Object)
    other Object = refl
    other Map = refl
