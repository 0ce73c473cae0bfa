-- The line of a letter after a word, or of the word alone, is read and read back.
use Rattle.block_lines.proofs.Prelude.{◌≡◌, ◌&&◌, ◌<◌, ◌++◌, ◌∷◌, [], ℕ, true, false, List, Option, Some, None, IfSome, IsTrue, refl, sym, ap, ◌∙◌, subst, codes, list_all, and_parts, cond_some, same_Some, Letter, Declaration, letter_count, IsDeclared, Flaw, UnknownName, is_named, is_inside, is_letter, letter_of, letter_line, may_be_letter, letter_said, letter_behind, letter_token, letter_read, letter_line_text, Line, is, is_end, tokens_of, is_skipped, letter_text, text_of_tokens, letter_is_spelled, letter_in_range, is_word, is_same, option_map_some, are_low, line_text-append, literal, letter_written, token_read}
use Rattle.std.proofs.lemmas.List.{append-nil}
use Rattle.block_lines.proofs.SectionBlocks.{IsLineWritten}
use Rattle.block_lines.proofs.SectionReaders.{IsLineReader, said_reader}

module _ (word : List ℕ) where
  letter_is : (line : Line) (o : Option (List ℕ)) → letter_token word line ≡ Some o → (line ≡ letter_line word o) × IsTrue (may_be_letter o)
  letter_is [] o read = absurd (cc)
  letter_is (first ∷ []) o read =
      let found = cond_some (is word first) None o read in
      subst (λ (p : Option (List ℕ)). (first ∷ [] ≡ letter_line word p) × IsTrue (may_be_letter p)) found.1 (ap (λ w. w ∷ []) (is_word word first found.0), refl)
  letter_is (first ∷ token ∷ []) o read =
      let found = cond_some (is word first && is_letter token) (Some token) o read in
      let parts = and_parts (is word first) (is_letter token) found.0 in
      subst (λ (p : Option (List ℕ)). (first ∷ token ∷ [] ≡ letter_line word p) × IsTrue (may_be_letter p)) found.1 (ap (λ w. w ∷ token ∷ []) (is_word word first parts.0), parts.1)
  letter_is (first ∷ token ∷ more ∷ tokens) o read = absurd (cc)

  letter_there : (o : Option (List ℕ)) → IsTrue (may_be_letter o) → letter_token word (letter_line word o) ≡ Some o
  letter_there None fits = rw (is_same word) refl
  letter_there (Some token) fits = rw (is_same word, fits) refl

  letter_goes_on : is (codes "end") word ≡ false → (o : Option (List ℕ)) → IsTrue (may_be_letter o) → is_end (letter_line word o) ≡ false
  letter_goes_on other None fits = other
  letter_goes_on other (Some token) fits = refl

  pub letter_reader : {Bound : Type 0} (flaw_of : Bound → Flaw) (bounds : List Bound) (bound : Bound) (ds : List Declaration) → flaw_of bound ≡ UnknownName → is (codes "end") word ≡ false
      → IsLineReader flaw_of bounds (letter_behind bound ds word) (letter_read ds word)
  letter_reader flaw_of bounds bound ds told other =
      said_reader flaw_of bounds bound UnknownName (letter_line word) (λ o. IsTrue (may_be_letter o)) (letter_token word) (letter_said ds) told letter_is letter_there (letter_goes_on other) None refl None refl

-- the letter is one of the quiver
pub letter_known : (ds : List Declaration) (o : Option (List ℕ)) (a : Option Letter) → letter_said ds o ≡ Some a → IfSome a (λ b. b.0 < letter_count ds)
letter_known ds None a read = subst (λ b. IfSome b (λ c. c.0 < letter_count ds)) (same_Some None a read) tt
letter_known ds (Some token) a read =
    option_map_some (λ b. Some (record { 0 = b })) (letter_of ds token) a read
    (λ b found same. subst (λ c. IfSome c (λ d. d.0 < letter_count ds)) same (letter_in_range ds token b found))

-- a line that is written, by the word
module _ {Bound : Type 0} (bound : Bound) (ds : List Declaration) (word : List ℕ) (low : are_low word ≡ true) (inside : list_all is_inside word ≡ true) (alone : tokens_of word ≡ word ∷ [])
    (split : (token : List ℕ) → tokens_of ((word ++ codes " ") ++ token) ≡ word ∷ tokens_of token) (stands : (line : Line) → is_skipped (word ∷ line) ≡ false) (declared : IsDeclared ds) (known : IsTrue (list_all is_named ds)) where
  pub letter_line_written : (a : Option Letter) → IfSome a (λ b. b.0 < letter_count ds) → IsLineWritten (letter_behind bound ds word) (letter_line_text ds word a) a
  letter_line_written None below = record {
    tokens = None;
    text_is = text_of_tokens word (letter_line word None) (literal word low inside) alone (stands []);
    is = refl;
    keeps = λ b same. (None, refl);
    says = refl;
  }
  letter_line_written (Some a) below =
      let token = letter_text ds a.0 in
      let written = letter_written ds a.0 (letter_is_spelled ds a.0 declared known below) in
      let tokens : tokens_of ((word ++ codes " ") ++ token) ≡ letter_line word (Some token) =
      split token ∙ ap (λ ts. word ∷ ts) (ap tokens_of (sym (append-nil token)) ∙ token_read token [] written.token refl) in
      let said : letter_said ds (Some token) ≡ Some (Some a) = rw written.read refl in
      record {
        tokens = Some token;
        text_is = text_of_tokens ((word ++ codes " ") ++ token) (letter_line word (Some token))
            (line_text-append (word ++ codes " ") token (line_text-append word (codes " ") (literal word low inside) (literal (codes " ") refl refl)) written.text.line) tokens (stands (token ∷ []));
        is = written.letter;
        keeps = λ b same. (Some a, said);
        says = said;
      }
