-- Letters that are written are read.
use Rattle.block_text.proofs.Prelude.{◌≡◌, ◌<◌, ◌+◌, ◌-◌, ℕ, Bool, true, false, cond, nat_eq, ◌&&◌, List, [], ◌∷◌, ◌++◌, Option, Some, None, arith, refl, sym, ap, length, take, drop, get_or, codes, list_all, ends_with, starts_with, ne_eqb, true_from_ne_false, drop_more, drop_all, take_at, drop_at, length-append, list_all_at, star, Named, Object, Map, Declaration, named_in, letter_name, identity_in, quiver_of, Spelled, is_name, name_in, without_brackets, spelled_by, letter_named, letter_of, spelled_as, letter_text}
use Rattle.block_text.proofs.NameBytes.{is_name_byte, IsNameText, name_text, differs}

abbrev spelling : List ℕ → Bool → Bool → Spelled
spelling name identity adjoint = record { name = name; identity = identity; adjoint = adjoint }

name_found : (name : List ℕ) → is_name name ≡ true → name_in name ≡ Some name
name_found name known = rw known refl

-- the last character
last_of : (text : List ℕ) → 0 < length text → drop (length text - 1) text ≡ get_or text (length text - 1) 0 ∷ []
last_of text some =
    let within : length text - 1 < length text = omega (arith, some) in
    rw (drop_more text (length text - 1) 0 within, drop_all (length text - 1 + 1) text (omega arith)) refl

byte_at : (text : List ℕ) (i : ℕ) → list_all is_name_byte text ≡ true → i < length text → is_name_byte (get_or text i 0) ≡ true
byte_at text i all within =
    true_from_ne_false (is_name_byte (get_or text i 0)) (λ no. absurd (let some : list_all is_name_byte text ≡ false = list_all_at is_name_byte text i 0 within no in cc))

-- a name ends and begins with none of the marks
pub not_ended : (name : List ℕ) (mark : ℕ) → IsNameText name → is_name_byte mark ≡ false → ends_with nat_eq name (mark ∷ []) ≡ false
not_ended name mark text other =
    let last = byte_at name (length name - 1) text.bytes (omega (arith, text.some)) in
    let apart : nat_eq mark (get_or name (length name - 1) 0) ≡ false = ne_eqb mark (get_or name (length name - 1) 0) (λ e. differs (get_or name (length name - 1) 0) mark last other (sym e)) in
    rw (last_of name text.some, apart) refl

pub not_begun : (name : List ℕ) (mark : ℕ) → IsNameText name → is_name_byte mark ≡ false → starts_with nat_eq name (mark ∷ []) ≡ false
not_begun [] mark text other = absurd (omega (arith, text.some))
not_begun (b ∷ bs) mark text other =
    let first = byte_at (b ∷ bs) 0 text.bytes text.some in
    let apart : nat_eq mark b ≡ false = ne_eqb mark b (λ e. differs b mark first other (sym e)) in
    rw apart refl

-- a text ends with the character that is appended to it
pub ended_by : (front : List ℕ) (last mark : ℕ) → ends_with nat_eq (front ++ last ∷ []) (mark ∷ []) ≡ (nat_eq mark last && true)
ended_by front last mark =
    let count : length front ≡ length (front ++ last ∷ []) - 1 = omega (arith, length-append front (last ∷ [])) in
    rw (drop_at front (last ∷ []) (length (front ++ last ∷ []) - 1) count) refl

pub without_last : (front : List ℕ) (last : ℕ) → take (length (front ++ last ∷ []) - 1) (front ++ last ∷ []) ≡ front
without_last front last = take_at front (last ∷ []) (length (front ++ last ∷ []) - 1) (omega (arith, length-append front (last ∷ [])))

-- the three forms of a letter
bare : (name : List ℕ) (adjoint : Bool) → is_name name ≡ true → IsNameText name → without_brackets adjoint name ≡ Some (spelling name false adjoint)
bare name adjoint known text = rw (not_begun name 91 text refl, name_found name known) refl

pub spelled_map : (name : List ℕ) → is_name name ≡ true → spelled_by name ≡ Some (spelling name false false)
spelled_map name known = let text = name_text name known in rw (not_ended name 39 text refl) (bare name false known text)

pub spelled_adjoint : (name : List ℕ) → is_name name ≡ true → spelled_by (name ++ codes "'") ≡ Some (spelling name false true)
spelled_adjoint name known = let text = name_text name known in rw (ended_by name 39 39, without_last name 39) (bare name true known text)

pub spelled_identity : (name : List ℕ) → is_name name ≡ true → spelled_by (codes "[" ++ name ++ codes "]") ≡ Some (spelling name true false)
spelled_identity name known =
    let inside : take (length (91 ∷ (name ++ 93 ∷ [])) - 2) (name ++ 93 ∷ []) ≡ name = take_at name (93 ∷ []) (length (91 ∷ (name ++ 93 ∷ [])) - 2) (omega (arith, length-append name (93 ∷ []))) in
    rw (ended_by (91 ∷ name) 93 39, ended_by (91 ∷ name) 93 93, inside, name_found name known) refl

-- the letter comes from what its name stands for
abbrev pub Comes : List Declaration → ℕ → Option Named → Type 0
Comes ds a None = ⊥
Comes ds a (Some (Object v)) = identity_in ds v.0 ≡ a
Comes ds a (Some (Map b)) = (nat_eq a b.0 ≡ true → b.0 ≡ a) × (nat_eq a b.0 ≡ false → star (quiver_of ds) b.0 ≡ a)

map_by : (ds : List Declaration) (a : ℕ) (name : List ℕ) (named : Named) (b : ℕ) (same : Bool) → nat_eq a b ≡ same → is_name name ≡ true
    → named_in ds name ≡ Some named → letter_named ds false named ≡ Some b
    → (nat_eq a b ≡ true → b ≡ a) → (nat_eq a b ≡ false → star (quiver_of ds) b ≡ a) → letter_of ds (cond same name (name ++ codes "'")) ≡ Some a
map_by ds a name named b true is known found letter own adjoint = rw (spelled_map name known, found, letter) (ap Some (own is))
map_by ds a name named b false is known found letter own adjoint = rw (spelled_adjoint name known, found, letter) (ap Some (adjoint is))

letter_by : (ds : List Declaration) (a : ℕ) (name : List ℕ) (found : Option Named) → named_in ds name ≡ found → is_name name ≡ true → Comes ds a found → letter_of ds (spelled_as name a found) ≡ Some a
letter_by ds a name None is known comes = absurd comes
letter_by ds a name (Some (Object v)) is known comes = rw (spelled_identity name known, is) (ap Some comes)
letter_by ds a name (Some (Map b)) is known comes = map_by ds a name (Map b) b.0 _ refl known is refl comes.0 comes.1

pub letter_read : (ds : List Declaration) (a : ℕ) → is_name (letter_name ds a) ≡ true → Comes ds a (named_in ds (letter_name ds a)) → letter_of ds (letter_text ds a) ≡ Some a
letter_read ds a known comes = letter_by ds a (letter_name ds a) _ refl known comes
