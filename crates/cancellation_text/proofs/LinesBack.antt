-- Letters that are called monic or epic, and cancellations, that are written are lines of tokens.
use Rattle.cancellation_text.proofs.Prelude.{◌≡◌, ◌<◌, ◌^◌, ℕ, Bool, true, false, cond, nat_eq, List, [], ◌∷◌, ◌++◌, Some, arith, refl, sym, ap, ◌∙◌, codes, IsTrue, length, decimal, list_all, append_assoc, append-nil, Letter, Declaration, IsDeclared, letter_name, Side, Left, Right, IsLineText, is_inside, is_named, is_name, Line, is_plain, is_skipped, tokens_of, letter_text, IsTextOf, text_of_tokens, IsSpelled, letter_is_spelled, not_ended, ended_by, without_last, name_text, decimal_text, IsWrittenLetter, letter_written, are_low, line_text-append, literal, plain_name, IsToken, token_read, name_token, plain_token, IsMapLetter, called_word, side_word, called_line, cancel_line, is_map_letter, known_letter, called_of, cancel_by, called_text, cancel_text}

-- what is read of a letter of a map that is written
pub record IsWrittenMap (ds : List Declaration) (a : Letter) : Type 0 where
  pub written : IsWrittenLetter ds a.0
  pub letter : IsTrue (is_map_letter (letter_text ds a.0))
  pub known : known_letter ds (letter_text ds a.0) ≡ Some a

-- a map by its name, or its adjoint with a ' after it
map_letter : (name : List ℕ) (own : Bool) → is_name name ≡ true → is_map_letter (cond own name (name ++ codes "'")) ≡ true
map_letter name true known = let text = name_text name known in rw (not_ended name 39 text refl) known
map_letter name false known = rw (ended_by name 39 39, without_last name 39) known

pub map_written : (ds : List Declaration) → IsDeclared ds → IsTrue (list_all is_named ds) → (a : Letter) → IsMapLetter ds a → IsWrittenMap ds a
map_written ds declared known a of_map =
    let spelled : IsSpelled ds a.0 = letter_is_spelled ds a.0 declared known of_map.in_quiver in
    let written : IsWrittenLetter ds a.0 = letter_written ds a.0 spelled in
    record {
      written = written;
      letter = rw of_map.stands (map_letter (letter_name ds a.0) (nat_eq a.0 of_map.map.0) spelled.name);
      known = rw written.read refl;
    }

-- a text of one token
record IsOne (token : List ℕ) : Type 0 where
  line : IsLineText token
  is : IsToken token

word : (text : List ℕ) → are_low text ≡ true → list_all is_inside text ≡ true → list_all is_plain text ≡ true → 0 < length text → IsOne text
word text low inside plain some = record { line = literal text low inside; is = plain_token text plain some }

number_is_one : (n : ℕ) → n < 10 ^ 64 → IsOne (decimal n)
number_is_one n small = let text = decimal_text n small in record { line = (plain_name (decimal n) text).line; is = name_token (decimal n) text }

letter_is_one : (ds : List Declaration) (a : Letter) → IsWrittenMap ds a → IsOne (letter_text ds a.0)
letter_is_one ds a of_map = record { line = of_map.written.text.line; is = of_map.written.token }

called_is_one : (side : Side) → IsOne (called_word side)
called_is_one Left = word (codes "monic") refl refl refl (omega arith)
called_is_one Right = word (codes "epic") refl refl refl (omega arith)

side_is_one : (side : Side) → IsOne (side_word side)
side_is_one Left = word (codes "left") refl refl refl (omega arith)
side_is_one Right = word (codes "right") refl refl refl (omega arith)

-- a text of tokens with a blank between each two
record AreSpaced (text : List ℕ) (line : Line) : Type 0 where
  inside : IsLineText text
  are : tokens_of text ≡ line

last : (token : List ℕ) → IsOne token → AreSpaced token (token ∷ [])
last token one = record { inside = one.line; are = ap tokens_of (sym (append-nil token)) ∙ token_read token [] one.is refl }

before : (token text : List ℕ) (line : Line) → IsOne token → AreSpaced text line → AreSpaced (token ++ (codes " " ++ text)) (token ∷ line)
before token text line one more = record {
  inside = line_text-append token (codes " " ++ text) one.line (line_text-append (codes " ") text (literal (codes " ") refl refl) more.inside);
  are = token_read token (codes " " ++ text) one.is refl ∙ ap (λ ts. token ∷ ts) more.are;
}

called_stands : (side : Side) (letter : List ℕ) → is_skipped (called_line (called_of letter side)) ≡ false
called_stands Left letter = refl
called_stands Right letter = refl

module _ (ds : List Declaration) (a : Letter) (side : Side) (of_map : IsWrittenMap ds a) where
  abbrev letter : List ℕ
  letter = letter_text ds a.0

  pub called_is_text : IsTextOf (called_text ds side a) (called_line (called_of letter side) ∷ [])
  called_is_text =
      let spaced = before (called_word side) letter (letter ∷ []) (called_is_one side) (last letter (letter_is_one ds a of_map)) in
      simp append_assoc (simp append_assoc at (text_of_tokens (called_word side ++ (codes " " ++ letter)) (called_line (called_of letter side)) spaced.inside spaced.are (called_stands side letter)))

  pub cancel_is_text : (number from : ℕ) → number < 10 ^ 64 → from < 2 ^ 32 → IsTextOf (cancel_text ds number a side from) (cancel_line (cancel_by (decimal number) letter (decimal from) side) ∷ [])
  cancel_is_text number from small below =
      let item = last (decimal from) (number_is_one from (omega (arith, below))) in
      let sided = before (side_word side) _ _ (side_is_one side) item in
      let lettered = before letter _ _ (letter_is_one ds a of_map) sided in
      let spaced = before (codes "cancel") _ _ (word (codes "cancel") refl refl refl (omega arith)) (before (decimal number) _ _ (number_is_one number small) lettered) in
      simp append_assoc (simp append_assoc at (text_of_tokens _ (cancel_line (cancel_by (decimal number) letter (decimal from) side)) spaced.inside spaced.are refl))
