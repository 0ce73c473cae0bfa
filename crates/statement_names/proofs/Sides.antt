-- The sides that pairs of names and literals give to objects.
use Rattle.statement_names.proofs.Prelude.{◌≡◌, ◌≢◌, ℕ, ◌+◌, ◌<◌, ◌≤◌, Bool, true, false, cond, IsTrue, List, [], ◌∷◌, ◌++◌, length, map, take, drop, get_or, set, Option, Some, None, unwrap_or, refl, ap, ap₂, sym, subst, ◌∙◌, arith, get_or-set_same, get_or-set_other, IsDistinct, keys_of, lookup, option_or, bytes_eq, map-map, ext_get_or, map-append, take_all, Named, named, Name, Number, length-map-range_with_len, get_or-map-range_with_len, Declaration, object_count, object_name, named_in, IsDeclared, is_named, is_object, object_number, object_of, value_of, side_in, sides_of}
use Rattle.statement_names.proofs.Apart.{own_bytes, fresh_before}
use Rattle.statement_names.proofs.Found.{named_object}
use Rattle.statement_names.proofs.Fresh.{apart_of}
use Rattle.statement_names.proofs.Items.{take_next, map_split}
use Rattle.statement_names.proofs.KindsFound.{same_bytes, lookup-append, option_or-nothing}

pub sides_from : (ds : List Declaration) (pairs : List (Name × Number)) (i : ℕ) (sides : List ℕ) → length pairs ≤ i → length sides ≡ object_count ds
    → ((v : ℕ) → v < object_count ds → get_or sides v 1 ≡ side_in (take i pairs) (object_name ds v)) → sides ≡ sides_of ds pairs
sides_from ds pairs i sides done size given =
    let side = λ (v : ℕ). side_in pairs (object_name ds v) in
    ext_get_or 1 sides (sides_of ds pairs) (size ∙ sym (length-map-range_with_len side 0 (object_count ds))) (λ v inside.
    let below : v < object_count ds = omega (arith, inside, size) in
    let here : 0 + v ≡ v = omega arith in
    given v below ∙ ap (λ ps. side_in ps (object_name ds v)) (take_all i pairs done)
    ∙ sym (get_or-map-range_with_len side 0 (object_count ds) v v 1 below here))

-- one pair more
abbrev given_side : Name × Number → List ℕ × ℕ
given_side p = (p.0.text, value_of p.1.value)

object_is : (found : Option Named) → IsTrue (is_object found) → found ≡ Some (named.Object (record { 0 = object_number found }))
object_is (Some (named.Object v)) e = refl
object_is (Some (named.Map a)) e = absurd (cc)
object_is None e = absurd (cc)

some_object : (v w : ℕ) → ◌≡◌ {A = Option Named} (Some (named.Object (record { 0 = v }))) (Some (named.Object (record { 0 = w }))) → v ≡ w
some_object v w e = ap object_number e

module _ (ds : List Declaration) (declared : IsDeclared ds) (pairs : List (Name × Number)) (i : ℕ) (p : Name × Number) (below : i < length pairs) (at : p ≡ get_or pairs i p)
    (once : IsDistinct bytes_eq (map (λ q. q.0.text) pairs)) (is : IsTrue (is_object (named_in ds p.0.text))) where
  apart : IsDistinct bytes_eq (keys_of (map given_side (take i pairs) ++ given_side p ∷ map given_side (drop (i + 1) pairs)))
  apart =
      subst (λ gs. IsDistinct bytes_eq (keys_of gs)) (map_split pairs i p below at given_side [])
      (subst (IsDistinct bytes_eq) (sym (map-map (λ g. g.0) given_side pairs)) once)

  -- the object that the pair names has the pair's name, and no other has
  own_name : object_name ds (object_of ds p.0) ≡ p.0.text
  own_name = (is_named ds p.0.text (named.Object (record { 0 = object_of ds p.0 })) (object_is (named_in ds p.0.text) is)).1

  only_name : (v : ℕ) → v < object_count ds → object_name ds v ≡ p.0.text → v ≡ object_of ds p.0
  only_name v in_range same =
      some_object v (object_of ds p.0)
      (sym (named_object ds (apart_of ds declared.distinct) v in_range) ∙ ap (named_in ds) same ∙ object_is (named_in ds p.0.text) is)

  side_next : (q : List ℕ) → side_in (take (i + 1) pairs) q ≡ unwrap_or (option_or (lookup (bytes_eq q) (map given_side (take i pairs))) (cond (bytes_eq q p.0.text) (Some (value_of p.1.value)) None)) 1
  side_next q =
      ap (λ ps. side_in ps q) (take_next pairs i p below at)
      ∙ ap (λ gs. unwrap_or (lookup (bytes_eq q) gs) 1) (map-append given_side (take i pairs) (p ∷ []))
      ∙ ap (λ found. unwrap_or found 1) (lookup-append (bytes_eq q) (map given_side (take i pairs)) (given_side p ∷ []))

  pub side_put : (sides : List ℕ) → length sides ≡ object_count ds → ((v : ℕ) → v < object_count ds → get_or sides v 1 ≡ side_in (take i pairs) (object_name ds v))
      → (v : ℕ) → v < object_count ds → get_or (set sides (object_of ds p.0) (value_of p.1.value)) v 1 ≡ side_in (take (i + 1) pairs) (object_name ds v)
  side_put sides size given v in_range = go (bytes_eq (object_name ds v) p.0.text) refl
    where
      go : (b : Bool) → bytes_eq (object_name ds v) p.0.text ≡ b → get_or (set sides (object_of ds p.0) (value_of p.1.value)) v 1 ≡ side_in (take (i + 1) pairs) (object_name ds v)
      go true named =
          let text : object_name ds v ≡ p.0.text = same_bytes (object_name ds v) p.0.text named in
          let here : v ≡ object_of ds p.0 = only_name v in_range text in
          let fits : object_of ds p.0 < length sides = subst (λ n. object_of ds p.0 < n) (sym size) (subst (λ n. n < object_count ds) here in_range) in
          let new : lookup (bytes_eq (object_name ds v)) (map given_side (take i pairs)) ≡ None =
          ap (λ q. lookup (bytes_eq q) (map given_side (take i pairs))) text
          ∙ fresh_before (map given_side (take i pairs)) (map given_side (drop (i + 1) pairs)) (given_side p) apart in
          ap (λ w. get_or (set sides (object_of ds p.0) (value_of p.1.value)) w 1) here
          ∙ get_or-set_same sides (object_of ds p.0) (value_of p.1.value) 1 fits
          ∙ sym (side_next (object_name ds v) ∙ ap₂ (λ found b. unwrap_or (option_or found (cond b (Some (value_of p.1.value)) None)) 1) new named)
      go false other =
          let elsewhere : v ≢ object_of ds p.0 = λ here.
          let named : bytes_eq (object_name ds v) p.0.text ≡ true =
          ap (λ w. bytes_eq (object_name ds w) p.0.text) here ∙ ap (λ q. bytes_eq q p.0.text) own_name ∙ own_bytes p.0.text in
          cc in
          get_or-set_other sides (object_of ds p.0) v (value_of p.1.value) 1 elsewhere
          ∙ given v in_range
          ∙ sym (side_next (object_name ds v) ∙ ap (λ b. unwrap_or (option_or (lookup (bytes_eq (object_name ds v)) (map given_side (take i pairs))) (cond b (Some (value_of p.1.value)) None)) 1) other
          ∙ ap (λ found. unwrap_or found 1) (option_or-nothing (lookup (bytes_eq (object_name ds v)) (map given_side (take i pairs)))))
