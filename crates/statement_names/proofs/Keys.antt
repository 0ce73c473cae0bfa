-- The names of a map are the bytes of its keys.
use Rattle.statement_names.proofs.Prelude.{◌≡◌, Option, ap₂, sym, Bool, false, is_some, if◌then◌else◌, List, [], ◌∷◌, ◌++◌, map, None, Some, cond, refl, ap, ◌∙◌, ℕ, zero, suc, ◌&&◌, nat_lt, length, take, position, string_bytes, Global, String, arith, position_or_len, keys_of, lookup, nat_tests, bytes_eq, string_eq, map-append, take-map, insert_entry, insert_entry-new, Kind, Inside, kind_in, with_kind}
use Rattle.statement_names.proofs.Clean.{absent_from}

abbrev pub bytes_of : List (String Global × Kind) → List (List ℕ × Kind)
bytes_of entries = map (λ e. (string_bytes e.0, e.1)) entries

-- a look-up by a key's bytes is one in the list of bytes
pub lookup-bytes : (name : List ℕ) (entries : List (String Global × Kind)) → lookup (λ k. bytes_eq name (string_bytes k)) entries ≡ lookup (bytes_eq name) (bytes_of entries)
lookup-bytes name [] = refl
lookup-bytes name (e ∷ entries) = ap (cond (bytes_eq name (string_bytes e.0)) (Some e.1)) (lookup-bytes name entries)

-- a name that isn't there goes last
pub bytes_inserted : (q : Inside) (new : List (String Global × Kind)) (kinds : List (List ℕ × Kind)) (key : String Global) (name : List ℕ) (kind : Kind)
    → string_bytes key ≡ name
    → new ≡ insert_entry string_eq q.kinds.entries key kind → bytes_of q.kinds.entries ≡ kinds → is_some (kind_in kinds name) ≡ false → bytes_of new ≡ with_kind kinds name kind
bytes_inserted q new kinds key name kind key_is new_is view_is fresh =
    let absent : lookup (λ k. bytes_eq (string_bytes key) (string_bytes k)) q.kinds.entries ≡ None =
    lookup-bytes (string_bytes key) q.kinds.entries ∙ ap₂ (λ n ks. lookup (bytes_eq n) ks) key_is view_is ∙ absent_from (kind_in kinds name) fresh in
    ap bytes_of (new_is ∙ insert_entry-new string_eq q.kinds key kind absent)
    ∙ map-append (λ e. (string_bytes e.0, e.1)) q.kinds.entries ((key, kind) ∷ [])
    ∙ ap₂ (λ ks n. ks ++ (n, kind) ∷ []) view_is key_is
    ∙ ap (λ b. if b then kinds else kinds ++ (name, kind) ∷ []) (sym fresh)

-- a place is there, and below this
abbrev pub is_below : Option ℕ → ℕ → Bool
is_below (Some place) count = nat_lt place count
is_below None count = false

below_same : (there : Bool) (place count : ℕ) → is_below (cond there (Some place) None) count ≡ (there && nat_lt place count)
below_same there place count = grind arith

module _ {K X : Type 0} (test : K → Bool) where
  first_place : (entries : List (K × X)) (count : ℕ)
      → is_some (lookup test (take count entries)) ≡ (nat_lt (position_or_len test (keys_of entries)) (length (keys_of entries)) && nat_lt (position_or_len test (keys_of entries)) count)
  first_place [] zero = refl
  first_place [] (suc count) = refl
  first_place (e ∷ entries) zero = grind (arith, nat_tests)
  first_place (e ∷ entries) (suc count) = grind (arith, nat_tests, first_place entries count)

-- a name is among the first declarations where its place is below their number
pub among_first : (name : List ℕ) (entries : List (String Global × Kind)) (count : ℕ)
    → is_some (kind_in (take count (bytes_of entries)) name) ≡ is_below (position (λ k. bytes_eq name (string_bytes k)) (keys_of entries)) count
among_first name entries count =
    let test : String Global → Bool = λ k. bytes_eq name (string_bytes k) in
    let place = position_or_len test (keys_of entries) in
    ap (λ ks. is_some (kind_in ks name)) (take-map (λ e. (string_bytes e.0, e.1)) count entries)
    ∙ ap is_some (sym (lookup-bytes name (take count entries)))
    ∙ first_place test entries count
    ∙ sym (below_same (nat_lt place (length (keys_of entries))) place count)
