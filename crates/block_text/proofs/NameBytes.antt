-- The bytes of a name are letters, digits, _ and bytes that are not ASCII.
use Rattle.block_text.proofs.Prelude.{◌≡◌, ◌≢◌, ◌<◌, ◌==◌, ℕ, suc, Bool, true, false, ◌&&◌, ◌||◌, List, [], ◌∷◌, arith, refl, sym, ap, ◌∙◌, subst, length, drop, get_or, eqb-true, nat_le, is_ascii_alphanumeric, encode_utf8, list_all, IsUtf8, is_utf8, chars, encode_utf8_all, and_parts, leb-false, append-nil, length-append, list_all-append, IsUtf8-from_is_utf8, chars-encodes, inside_one, length-encode, len_utf8_bounds, is_xid_start, is_xid_continue, is_xid_continue-ascii, is_xid_start-is_xid_continue, starts_name, begins_name, is_name}

abbrev pub is_name_byte : ℕ → Bool
is_name_byte b = nat_le 128 b || (is_ascii_alphanumeric b || (b == 95))

all_from_places : (p : ℕ → Bool) (xs : List ℕ) → ((k : ℕ) → k < length xs → p (get_or xs k 0) ≡ true) → list_all p xs ≡ true
all_from_places p [] each = refl
all_from_places p (x ∷ xs) each = rw (each 0 (omega arith), all_from_places p xs (λ k within. each (suc k) (omega (arith, within)))) refl

byte_by : (c b : ℕ) (large : Bool) → nat_le 128 b ≡ large → is_xid_continue c ≡ true → (b < 128 → c ≡ b) → is_name_byte b ≡ true
byte_by c b true is continues same = rw is refl
byte_by c b false is continues same =
    let low : b < 128 = leb-false 128 b is in
    let ascii : (is_ascii_alphanumeric b || (b == 95)) ≡ true = sym (is_xid_continue-ascii b low) ∙ subst (λ (x : ℕ). is_xid_continue x ≡ true) (same low) continues in
    rw (is, ascii) refl

-- the bytes of a character that continues a name
character_bytes : (c : ℕ) → is_xid_continue c ≡ true → list_all is_name_byte (encode_utf8 c) ≡ true
character_bytes c continues =
    all_from_places is_name_byte (encode_utf8 c) (λ k within. byte_by c (get_or (encode_utf8 c) k 0) _ refl continues
    (λ low. inside_one c [] (encode_utf8 c) k (sym (append-nil (encode_utf8 c))) within low))

text_bytes : (cs : List ℕ) → list_all is_xid_continue cs ≡ true → list_all is_name_byte (encode_utf8_all cs) ≡ true
text_bytes [] all = refl
text_bytes (c ∷ cs) all =
    let parts : (is_xid_continue c ≡ true) × (list_all is_xid_continue cs ≡ true) = and_parts _ _ all in
    rw (list_all-append is_name_byte (encode_utf8 c) (encode_utf8_all cs), character_bytes c parts.0, text_bytes cs parts.1) refl

start_by : (c : ℕ) (starts : Bool) → is_xid_start c ≡ starts → (starts || (c == 95)) ≡ true → is_xid_continue c ≡ true
start_by c true is known = is_xid_start-is_xid_continue c is
start_by c false is known =
    let low : c ≡ 95 = eqb-true c 95 known in
    subst (λ (x : ℕ). is_xid_continue x ≡ true) (sym low) (is_xid_continue-ascii 95 (omega arith))

-- one or more such bytes, and UTF-8
pub record IsNameText (text : List ℕ) : Type 0 where
  pub utf8 : IsUtf8 text
  pub bytes : list_all is_name_byte text ≡ true
  pub some : 0 < length text

text_of_chars : (cs text : List ℕ) → IsUtf8 text → encode_utf8_all cs ≡ text → (begins_name cs && list_all is_xid_continue (drop 1 cs)) ≡ true → IsNameText text
text_of_chars [] text utf8 spells known = absurd (cc)
text_of_chars (c ∷ cs) text utf8 spells known =
    let parts : (starts_name c ≡ true) × (list_all is_xid_continue cs ≡ true) = and_parts _ _ known in
    let all : list_all is_xid_continue (c ∷ cs) ≡ true = rw (start_by c _ refl parts.0, parts.1) refl in
    subst IsNameText spells (record {
      utf8 = subst IsUtf8 (sym spells) utf8;
      bytes = text_bytes (c ∷ cs) all;
      some = grind (arith, length-append (encode_utf8 c) (encode_utf8_all cs), length-encode c, len_utf8_bounds c);
    })

pub name_text : (name : List ℕ) → is_name name ≡ true → IsNameText name
name_text name known =
    let parts = and_parts _ _ known in
    let inner : (is_utf8 name ≡ true) × ((begins_name (chars name) && list_all is_xid_continue (drop 1 (chars name))) ≡ true) = and_parts _ _ parts.1 in
    let utf8 : IsUtf8 name = IsUtf8-from_is_utf8 name inner.0 in
    let spells : encode_utf8_all utf8.0 ≡ name = utf8.1.1 in
    let characters : chars name ≡ utf8.0 = ap chars (sym spells) ∙ chars-encodes utf8.0 utf8.1.0 in
    text_of_chars utf8.0 name utf8 spells (subst (λ (cs : List ℕ). (begins_name cs && list_all is_xid_continue (drop 1 cs)) ≡ true) characters inner.1)

-- it is none of the other ASCII characters
pub differs : (b k : ℕ) → is_name_byte b ≡ true → is_name_byte k ≡ false → b ≢ k
differs b k byte other = λ e. absurd (let same : is_name_byte k ≡ true = subst (λ (x : ℕ). is_name_byte x ≡ true) e byte in cc)
