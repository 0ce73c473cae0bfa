-- What is written is text without line ends, and its letters and words are tokens.
use Rattle.block_text.proofs.Prelude.{◌≡◌, ◌<◌, ℕ, zero, suc, Bool, true, false, cond, nat_eq, nat_lt, List, [], ◌∷◌, ◌++◌, Option, Some, None, arith, refl, subst, length, IsTrue, map, get_or, codes, ltb-true, AllByRecursion, list_all, All-head, All-tail, IsUtf8, IsAscii, and_parts, ne_eqb, length-append, list_all-append, IsUtf8-nil, IsUtf8-append, IsUtf8-from_ascii, Named, Object, Map, IsOver, Declaration, named_in, letter_count, letter_name, IsDeclared, is_plain, is_name, is_letter, letter_of, word_of, is_close, spelled_as, letter_text, word_text, is_inside, is_named, IsLineText}
use Rattle.block_text.proofs.LettersBack.{Comes, letter_read, spelled_map, spelled_adjoint, spelled_identity}
use Rattle.block_text.proofs.LetterNames.{IsSpelled, letter_is_spelled}
use Rattle.block_text.proofs.NameBytes.{IsNameText, name_text}
use Rattle.block_text.proofs.NumbersBack.{bytes_inside}
use Rattle.block_text.proofs.TokensBack.{IsToken, bytes_plain, plain_token}

-- text without line ends
pub line_text-append : (xs ys : List ℕ) → IsLineText xs → IsLineText ys → IsLineText (xs ++ ys)
line_text-append xs ys left right = record {
  utf8 = IsUtf8-append xs ys left.utf8 right.utf8;
  inside = rw (list_all-append is_inside xs ys, left.inside, right.inside) refl;
}

abbrev pub are_low : List ℕ → Bool
are_low text = list_all (λ b. nat_lt b 128) text

pub low_is_ascii : (text : List ℕ) → are_low text ≡ true → IsAscii text
low_is_ascii [] low = λ i. omega arith
low_is_ascii (b ∷ bs) low = λ i. low_at b bs (and_parts _ _ low).0 (low_is_ascii bs (and_parts (nat_lt b 128) (are_low bs) low).1) i
  where
    low_at : (b : ℕ) (bs : List ℕ) → nat_lt b 128 ≡ true → IsAscii bs → (i : ℕ) → get_or (b ∷ bs) i 0 < 128
    low_at b bs first rest zero = ltb-true b 128 first
    low_at b bs first rest (suc i) = rest i

-- text that is written out
pub ascii : (text : List ℕ) → are_low text ≡ true → IsUtf8 text
ascii text low = IsUtf8-from_ascii text (low_is_ascii text low)

pub literal : (text : List ℕ) → are_low text ≡ true → list_all is_inside text ≡ true → IsLineText text
literal text low inside = record { utf8 = ascii text low; inside = inside }

-- a token that is plain text
pub record IsPlainText (text : List ℕ) : Type 0 where
  pub line : IsLineText text
  pub plain : list_all is_plain text ≡ true

plain_append : (xs ys : List ℕ) → IsPlainText xs → IsPlainText ys → IsPlainText (xs ++ ys)
plain_append xs ys left right = record {
  line = line_text-append xs ys left.line right.line;
  plain = rw (list_all-append is_plain xs ys, left.plain, right.plain) refl;
}

pub plain_name : (text : List ℕ) → IsNameText text → IsPlainText text
plain_name text name = record {
  line = record { utf8 = name.utf8; inside = bytes_inside text name.bytes };
  plain = bytes_plain text name.bytes;
}

abbrev mark : ℕ → List ℕ
mark b = b ∷ []

-- what is read of a letter that is written
pub record IsWrittenLetter (ds : List Declaration) (a : ℕ) : Type 0 where
  pub text : IsPlainText (letter_text ds a)
  pub token : IsToken (letter_text ds a)
  pub letter : is_letter (letter_text ds a) ≡ true
  pub read : letter_of ds (letter_text ds a) ≡ Some a

-- the same without what it is read as
record IsLetterText (text : List ℕ) : Type 0 where
  plain : IsPlainText text
  some : 0 < length text
  letter : is_letter text ≡ true

map_text : (name : List ℕ) (same : Bool) → is_name name ≡ true → IsLetterText (cond same name (name ++ codes "'"))
map_text name true known =
    let text = name_text name known in
    record { plain = plain_name name text; some = text.some; letter = rw (spelled_map name known) refl }
map_text name false known =
    let text = name_text name known in
    record {
      plain = plain_append name (mark 39) (plain_name name text) (record { line = record { utf8 = ascii (mark 39) refl; inside = refl }; plain = refl });
      some = omega (arith, length-append name (mark 39));
      letter = rw (spelled_adjoint name known) refl;
    }

text_by : (ds : List Declaration) (a : ℕ) (name : List ℕ) (found : Option Named) → is_name name ≡ true → Comes ds a found → IsLetterText (spelled_as name a found)
text_by ds a name None known comes = absurd comes
text_by ds a name (Some (Object v)) known comes =
    let text = name_text name known in
    record {
      plain = plain_append (91 ∷ name) (mark 93) (plain_append (mark 91) name (record { line = record { utf8 = ascii (mark 91) refl; inside = refl }; plain = refl }) (plain_name name text))
          (record { line = record { utf8 = ascii (mark 93) refl; inside = refl }; plain = refl });
      some = omega arith;
      letter = rw (spelled_identity name known) refl;
    }
text_by ds a name (Some (Map b)) known comes = map_text name _ known

pub letter_written : (ds : List Declaration) (a : ℕ) → IsSpelled ds a → IsWrittenLetter ds a
letter_written ds a spelled =
    let text = text_by ds a (letter_name ds a) (named_in ds (letter_name ds a)) spelled.name spelled.comes in
    record {
      text = text.plain;
      token = plain_token (letter_text ds a) text.plain.plain text.some;
      letter = text.letter;
      read = letter_read ds a spelled.name spelled.comes;
    }

-- words
not_close : (token : List ℕ) → IsToken token → is_close token ≡ false
not_close token is =
    let apart : nat_eq is.first 41 ≡ false = ne_eqb is.first 41 (λ e. absurd (let plain : is_plain 41 ≡ true = subst (λ (c : ℕ). is_plain c ≡ true) e is.plain in cc)) in
    rw (is.is, apart) refl

-- what is read of a word that is written
pub record IsWrittenWord (ds : List Declaration) (w : List ℕ) : Type 0 where
  pub line : IsLineText (word_text ds w)
  pub tokens : AllByRecursion IsToken (map (letter_text ds) w)
  pub letters : list_all is_letter (map (letter_text ds) w) ≡ true
  pub unclosed : AllByRecursion (λ t. is_close t ≡ false) (map (letter_text ds) w)
  pub read : word_of ds (map (letter_text ds) w) ≡ Some w

joined_line : (ds : List Declaration) (a : ℕ) (w : List ℕ) → IsLineText (letter_text ds a) → IsLineText (word_text ds w) → IsLineText (word_text ds (a ∷ w))
joined_line ds a [] here rest = here
joined_line ds a (b ∷ w) here rest =
    line_text-append (letter_text ds a) (32 ∷ word_text ds (b ∷ w)) here (line_text-append (mark 32) (word_text ds (b ∷ w)) (record { utf8 = ascii (mark 32) refl; inside = refl }) rest)

pub word_written : (ds : List Declaration) (w : List ℕ) → AllByRecursion (IsWrittenLetter ds) w → IsWrittenWord ds w
word_written ds [] each = record {
  line = record { utf8 = IsUtf8-nil; inside = refl };
  tokens = tt;
  letters = refl;
  unclosed = tt;
  read = refl;
}
word_written ds (a ∷ w) each =
    let rest = word_written ds w each.1 in
    record {
      line = joined_line ds a w each.0.text.line rest.line;
      tokens = (each.0.token, rest.tokens);
      letters = rw (each.0.letter, rest.letters) refl;
      unclosed = (not_close (letter_text ds a) each.0.token, rest.unclosed);
      read = rw (each.0.read, rest.read) refl;
    }

-- the letters of a word over a quiver
module _ (ds : List Declaration) (declared : IsDeclared ds) (known : IsTrue (list_all is_named ds)) where
  pub letters_written : (w : List ℕ) → IsOver (letter_count ds) w → AllByRecursion (IsWrittenLetter ds) w
  letters_written [] over = tt
  letters_written (a ∷ w) over = (
    letter_written ds a (letter_is_spelled ds a declared known (All-head (λ b. b < letter_count ds) a w over)),
    letters_written w (All-tail (λ b. b < letter_count ds) a w over),
  )
