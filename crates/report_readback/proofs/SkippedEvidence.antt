-- Evidence that is written is a block of another kind to a reader that skips certificates.
use Rattle.report_readback.proofs.Prelude.{◌≡◌, ◌<◌, ◌^◌, ℕ, suc, ℤ, true, false, not, List, [], ◌∷◌, ◌++◌, refl, sym, subst, map, codes, IsTrue, decimal, signed_decimal, All, list_all, flat_map, append_assoc, All-nil, All-cons, All-head, All-tail, All-append, All-map, All-filter, Declaration, IsDeclared, Evidence, Format, Lemma, LemmaRow, tokens_of, is_skipped, is_end, Line, OtherTokens, claim_line, content, end_line, row_line, denominator_line, opening_text, lemma_row_text, scaled_text, lemmas_text, evidence_text, is_named, IsLineText, ended, IsBodyLine, IsWritableEvidence, rows_written, IsTextOf, no_text, text-append, text_of_line, IsWrittenLemma, lemmas_written, begins_no_end, text_of_other, over_generator, IsWrittenRow, trees, rows_are_text, end_is_text, IsSize, size_written, head_text, opening_is_text, literal, line_text-append, is_other_head, IsOtherBlock, other_words, model_kind, HasModels}
use Rattle.traced_rows.specs.declared.evidence.Evidence.TheVariants as evidence
use Rattle.traced_rows.specs.declared.evidence.Format.TheVariants as format
use Rattle.certificate_text.specs.Blocks.{head_line}
use Rattle.report_readback.proofs.Numerals.{decimal_is_line, signed_is_line}

-- the text is one such block
pub record IsSkipped (others : List (List ℕ)) (text : List ℕ) : Type 0 where
  pub block : OtherTokens
  pub is : IsTextOf text (block.head ∷ (block.lines ++ end_line ∷ []))
  pub of_other_kind : IsOtherBlock others block

pub skipped_has_none : (ds : List Declaration) (text : List ℕ) → IsSkipped other_words text → HasModels ds text []
skipped_has_none ds text skipped = text_of_other (model_kind ds) text skipped.block skipped.is skipped.of_other_kind

-- the line is not `end`
abbrev GoesOn : Line → Type 0
GoesOn line = is_end line ≡ false

-- whole lines of which none is `end`
record IsBody (text : List ℕ) : Type 0 where
  listed : List Line
  is : IsTextOf text listed
  go_on : All GoesOn listed

nothing_is_body : IsBody []
nothing_is_body = record { listed = []; is = no_text; go_on = All-nil GoesOn }

body-append : (xs ys : List ℕ) → IsBody xs → IsBody ys → IsBody (xs ++ ys)
body-append xs ys left right = record {
  listed = left.listed ++ right.listed;
  is = text-append xs ys left.listed right.listed left.is right.is;
  go_on = All-append GoesOn left.listed right.listed left.go_on right.go_on;
}

-- the tokens of lines of which none is `end`
pub lines_go_on : (lines : List (List ℕ)) → All IsBodyLine lines → All GoesOn (content lines)
lines_go_on lines each =
    All-filter (λ line. not (is_skipped line)) GoesOn (map tokens_of lines) (All-map GoesOn tokens_of lines (λ k line below. (each k line below).goes_on))

line_is_body : (line : List ℕ) → IsBodyLine line → IsBody (ended line)
line_is_body line body = record { listed = content (line ∷ []); is = text_of_line line body.text; go_on = lines_go_on (line ∷ []) (All-cons IsBodyLine line [] body (All-nil IsBodyLine)) }

-- evidence
module _ {X : Type 0} (ds : List Declaration) (shown : X → LemmaRow) where
  rows_are_body : (rows : List X) → All (λ row. IsWrittenRow ds (shown row)) rows → IsBody (flat_map (λ row. lemma_row_text ds (shown row)) rows)
  rows_are_body rows written = record {
    listed = map row_line (trees ds shown rows);
    is = rows_are_text ds shown rows written;
    go_on = All-map GoesOn row_line (trees ds shown rows) (λ k row below. refl);
  }

grouped : (front word scale end listed : List ℕ) → front ++ (word ++ scale ++ end ++ listed) ≡ (((front ++ word) ++ scale) ++ end) ++ listed
grouped front word scale end listed = simp append_assoc refl

-- the scale after other words, and the rows
scaled_is_body : (ds : List Declaration) (front : List ℕ) (l : Lemma) → IsWrittenLemma ds l → IsLineText front → is_end (tokens_of ((front ++ codes " scale ") ++ signed_decimal l.scale)) ≡ false
    → IsBody (front ++ scaled_text ds l)
scaled_is_body ds front l written line goes_on =
    let text : IsLineText ((front ++ codes " scale ") ++ signed_decimal l.scale) =
    line_text-append (front ++ codes " scale ") (signed_decimal l.scale) (line_text-append front (codes " scale ") line (literal (codes " scale ") refl refl)) (signed_is_line l.scale) in
    subst IsBody (sym (grouped front (codes " scale ") (signed_decimal l.scale) (codes "\n") (flat_map (lemma_row_text ds) l.rows)))
    (body-append (ended ((front ++ codes " scale ") ++ signed_decimal l.scale)) (flat_map (lemma_row_text ds) l.rows)
    (line_is_body ((front ++ codes " scale ") ++ signed_decimal l.scale) (record { text = text; goes_on = goes_on }))
    (rows_are_body ds (λ (row : LemmaRow). row) l.rows written.rows))

lemmas_are_body : (ds : List Declaration) (number : ℕ) (lemmas : List Lemma) → All (IsWrittenLemma ds) lemmas → IsBody (lemmas_text ds number lemmas)
lemmas_are_body ds number [] written = nothing_is_body
lemmas_are_body ds number (l ∷ lemmas) written =
    let front = line_text-append (codes "lemma ") (decimal number) (literal (codes "lemma ") refl refl) (decimal_is_line number) in
    body-append (codes "lemma " ++ decimal number ++ scaled_text ds l) (lemmas_text ds (suc number) lemmas)
    (scaled_is_body ds (codes "lemma " ++ decimal number) l (All-head (IsWrittenLemma ds) l lemmas written) front
    (begins_no_end (codes "lemma") (tokens_of ((decimal number ++ codes " scale ") ++ signed_decimal l.scale)) refl))
    (lemmas_are_body ds (suc number) lemmas (All-tail (IsWrittenLemma ds) l lemmas written))

goal_is_body : (ds : List Declaration) (l : Lemma) → IsWrittenLemma ds l → IsBody (codes "goal" ++ scaled_text ds l)
goal_is_body ds l written = scaled_is_body ds (codes "goal") l written (literal (codes "goal") refl refl) refl

pub certificates_are_others : (form : Format) → is_other_head other_words (head_line form) ≡ true
certificates_are_others format.Plain = refl
certificates_are_others format.Lemmas = refl

regrouped : (opening lemmas goal end : List ℕ) → opening ++ lemmas ++ (goal ++ end) ≡ opening ++ (lemmas ++ goal) ++ end
regrouped opening lemmas goal end = simp append_assoc refl

-- for a reader that skips blocks that begin with these words, of which that of certificates is one
module _ (others : List (List ℕ)) (is_other : (form : Format) → is_other_head others (head_line form) ≡ true) where
  certificate_is_skipped : (form : Format) (claim : ℕ) (denominator : ℤ) (body : List ℕ) → claim < 2 ^ 32 → IsSize denominator → IsBody body
      → IsSkipped others (opening_text (head_text form ++ codes "\nclaim ") claim denominator ++ body ++ codes "end\n")
  certificate_is_skipped form claim denominator body small size lines =
      let front = claim_line (decimal claim) ∷ denominator_line (signed_decimal denominator) ∷ [] in
      record {
        block = record { head = head_line form; lines = front ++ lines.listed };
        is = text-append _ _ _ _ (text-append _ _ _ _ (opening_is_text form claim denominator small size) lines.is) end_is_text;
        of_other_kind = record { head = is_other form; lines = All-append GoesOn front lines.listed (λ k line below. front_goes_on k line below) lines.go_on };
      }
    where
      front_goes_on : All GoesOn (claim_line (decimal claim) ∷ denominator_line (signed_decimal denominator) ∷ [])
      front_goes_on =
          All-cons GoesOn (claim_line (decimal claim)) (denominator_line (signed_decimal denominator) ∷ []) refl
          (All-cons GoesOn (denominator_line (signed_decimal denominator)) [] refl (All-nil GoesOn))

  pub evidence_is_skipped : (ds : List Declaration) (e : Evidence) → IsDeclared ds → IsTrue (list_all is_named ds) → IsWritableEvidence ds e → IsSkipped others (evidence_text ds e)
  evidence_is_skipped ds (evidence.Plain c) declared known writable =
      certificate_is_skipped format.Plain c.claim c.denominator _ writable.claim (size_written c.denominator writable.denominator)
      (rows_are_body ds over_generator c.rows (rows_written ds declared known c writable))
  evidence_is_skipped ds (evidence.Lemmas c) declared known writable =
      let written = lemmas_written ds c declared known writable in
      let opening = opening_text (head_text format.Lemmas ++ codes "\nclaim ") c.claim c.denominator in
      subst (IsSkipped others) (sym (regrouped opening (lemmas_text ds 1 c.lemmas) (codes "goal" ++ scaled_text ds c.goal) (codes "end\n")))
      (certificate_is_skipped format.Lemmas c.claim c.denominator (lemmas_text ds 1 c.lemmas ++ (codes "goal" ++ scaled_text ds c.goal)) writable.claim
      (size_written c.denominator writable.denominator)
      (body-append (lemmas_text ds 1 c.lemmas) (codes "goal" ++ scaled_text ds c.goal) (lemmas_are_body ds 1 c.lemmas written.lemmas) (goal_is_body ds c.goal written.goal)))
