-- Files by their places, and the shelf that keeps them.
use Rattle.flow_io.proofs.Prelude.{◌≡◌, ℕ, suc, List, [], ◌∷◌, Bool, true, false, Some, slice_get, slice_index, set, if◌then◌else◌, subst, refl, bytes_eq, next_count, Holds, Files, place_of, file_under, ShelfState, with_load, with_fault}

-- the file at the place of a name is held under the name
pub file_under-place_of : (files : Files) (name : List ℕ) (file : List ℕ × List ℕ) → slice_get files (place_of files name) ≡ Some file → file_under files name ≡ Holds file.1
file_under-place_of [] name file here = cc
file_under-place_of (first ∷ rest) name file here = cases (file_under-place_of rest name file) (bytes_eq first.0 name) here
  where
    cases : (slice_get rest (place_of rest name) ≡ Some file → file_under rest name ≡ Holds file.1)
        → (b : Bool) → slice_get (first ∷ rest) (if b then 0 else suc (place_of rest name)) ≡ Some file → (if b then Holds first.1 else file_under rest name) ≡ Holds file.1
    cases later true here = cc
    cases later false here = later here

-- the same, of a number that is known to be that place
pub file_under-at : (files : Files) (name : List ℕ) (at : ℕ) → at ≡ place_of files name → (file : List ℕ × List ℕ) → slice_get files at ≡ Some file → file_under files name ≡ Holds file.1
file_under-at files name at is file here = file_under-place_of files name file (let P : ℕ → Type 0 = λ n. slice_get files n ≡ Some file in subst P is here)

-- a shelf on which a load was counted, and a fault at the name's place
pub is_with_fault : (s : ShelfState) (name : List ℕ) (loads place : ℕ) (old new : List ℕ)
    → loads ≡ next_count s.loads → place ≡ place_of s.files name → old ≡ s.counts → new ≡ set old place (next_count (slice_index old place))
    → record { files = s.files; failing = s.failing; loads = loads; counts = new } ≡ with_fault (with_load s) name
is_with_fault s name loads place old new loads_are place_is old_is new_is = rw (loads_are, new_is, place_is, old_is) refl
