-- A certificate of format 2 that is written is a block of evidence text.
use Rattle.certificate_text.proofs.Prelude.{◌≡◌, ◌<◌, ◌+◌, ◌^◌, ℕ, suc, false, List, [], ◌∷◌, ◌++◌, None, arith, refl, sym, ap, ◌∙◌, subst, length, map, codes, IsTrue, decimal, signed_decimal, All, AllZip, list_all, flat_map, sum_by, append_assoc, length-append, length-map, All-nil, All-cons, All-head, All-tail, All-weaker, sum_by-cons, sum_by_push, Declaration, IsDeclared, LemmaRow, Lemma, LemmaCertificate, row_count, letters_of_lemmas, tokens_of, is_skipped, integer_limit, Line, claim_line, end_line, RowTokens, ScaledTokens, LemmaTokens, lemmas, row_line, lemma_lines, goal_lines, certificate_lines, head_line, denominator_line, IsScaled, AreLemmas, names, numbers, words, rows, letters, letters_in, IsWithin, IsLemmaRowOf, IsScaledOf, certificate_kind, lemma_row_text, scaled_text, lemma_text, lemmas_text, goal_text, lemma_certificate_text, is_named, IsLineText, IsWritableLemmaRow, IsWritableLemma, IsWritableByLemmas, IsTextOf, no_text, text-append, IsWritten, decimal_text, text_of_number, end_is_text, line_text-append, literal, plain_name, token_read, name_token}
use Rattle.traced_rows.specs.declared.evidence.Evidence.TheVariants as evidence
use Rattle.traced_rows.specs.declared.evidence.Format.TheVariants as format
use Rattle.certificate_text.proofs.BlocksBack.{lemma_row_written}
use Rattle.certificate_text.proofs.RowsBack.{row_tree, IsWrittenRow, lemma_row_says, AreRows, rows-append, rows_within, letters_in-append, zip_by, trees, rows_are_text, rows_are_rows, letters_in-trees}
use Rattle.certificate_text.proofs.SizesBack.{IsSize, size_written, head_written, number_is_value, opening_is_text}
use Rattle.certificate_text.proofs.OpenBlocks.{RowPlace, IsLeading, lead_place, rows_of}

-- what is known of a lemma that is written
pub record IsWrittenLemma (ds : List Declaration) (l : Lemma) : Type 0 where
  pub size : IsSize l.scale
  pub rows : All (IsWrittenRow ds) l.rows

abbrev pub scaled_tree : List Declaration → Lemma → ScaledTokens
scaled_tree ds l = record { scale = signed_decimal l.scale; rows = trees ds (λ (row : LemmaRow). row) l.rows }

grouped : (front word scale end listed : List ℕ) → front ++ (word ++ scale ++ end ++ listed) ≡ (((front ++ word) ++ scale) ++ end) ++ listed
grouped front word scale end listed = simp append_assoc refl

module _ (ds : List Declaration) (l : Lemma) (written : IsWrittenLemma ds l) where
  -- the scale after other words, and the rows
  scaled_is_text : (front : List ℕ) (before : Line) → IsLineText front
      → tokens_of ((front ++ codes " scale ") ++ signed_decimal l.scale) ≡ before ++ tokens_of (signed_decimal l.scale) → is_skipped (before ++ signed_decimal l.scale ∷ []) ≡ false
      → IsTextOf (front ++ scaled_text ds l) ((before ++ signed_decimal l.scale ∷ []) ∷ map row_line (scaled_tree ds l).rows)
  scaled_is_text front before line split stands =
      let head = text_of_number (front ++ codes " scale ") before (signed_decimal l.scale) (line_text-append front (codes " scale ") line (literal (codes " scale ") refl refl)) written.size.text split stands in
      let listed = rows_are_text ds (λ (row : LemmaRow). row) l.rows written.rows in
      subst (λ (text : List ℕ). IsTextOf text ((before ++ signed_decimal l.scale ∷ []) ∷ map row_line (scaled_tree ds l).rows))
      (sym (grouped front (codes " scale ") (signed_decimal l.scale) (10 ∷ []) (flat_map (lemma_row_text ds) l.rows)))
      (text-append _ _ _ _ head listed)

  pub of_rows : AreRows ds (scaled_tree ds l).rows
  of_rows = rows_are_rows ds (λ (row : LemmaRow). row) l.rows written.rows

  pub is_scaled : IsScaled (scaled_tree ds l)
  is_scaled = record { scale = written.size.number; rows = of_rows.each }

  pub says : IsScaledOf ds (scaled_tree ds l) l
  says = record {
    scale = written.size.value;
    rows = zip_by (IsLemmaRowOf ds) (row_tree ds) l.rows (All-weaker (IsWrittenRow ds) (λ row. IsLemmaRowOf ds (row_tree ds row) row) (lemma_row_says ds) l.rows written.rows);
  }

pub goal_is_text : (ds : List Declaration) (l : Lemma) → IsWrittenLemma ds l → IsTextOf (goal_text ds l) (goal_lines (scaled_tree ds l) ++ end_line ∷ [])
goal_is_text ds l written = text-append _ _ _ _ (scaled_is_text ds l written (codes "goal") (codes "goal" ∷ codes "scale" ∷ []) (literal (codes "goal") refl refl) refl refl) end_is_text

-- lemmas one after another
abbrev pub lemma_tree : List Declaration → ℕ → Lemma → LemmaTokens
lemma_tree ds number l = record { number = decimal number; scaled = scaled_tree ds l }

pub lemma_is_text : (ds : List Declaration) (number : ℕ) (l : Lemma) → number < 10 ^ 64 → IsWrittenLemma ds l → IsTextOf (lemma_text ds number l) (lemma_lines (lemma_tree ds number l))
lemma_is_text ds number l small written =
    let text = decimal_text number small in
    let line = line_text-append (codes "lemma ") (decimal number) (literal (codes "lemma ") refl refl) (plain_name (decimal number) text).line in
    let behind = codes " scale " ++ signed_decimal l.scale in
    let split : tokens_of ((decimal number ++ codes " scale ") ++ signed_decimal l.scale) ≡ decimal number ∷ codes "scale" ∷ tokens_of (signed_decimal l.scale) =
    ap tokens_of (append_assoc (decimal number) (codes " scale ") (signed_decimal l.scale)) ∙ token_read (decimal number) behind (name_token (decimal number) text) refl in
    scaled_is_text ds l written (codes "lemma " ++ decimal number) (codes "lemma" ∷ decimal number ∷ codes "scale" ∷ []) line (ap (λ ts. codes "lemma" ∷ ts) split) refl

-- what is read of lemmas with this number and the next ones, and how many they are
record AreLemmasBack (ds : List Declaration) (number : ℕ) (ls : List Lemma) : Type 0 where
  tokens : List LemmaTokens
  text_is : IsTextOf (lemmas_text ds number ls) (flat_map lemma_lines tokens)
  numbered : AreLemmas number tokens
  rows : AreRows ds (rows_of tokens)
  scales : All (λ l. IsWithin integer_limit l.scaled.scale) tokens
  say : AllZip (λ l lemma. IsScaledOf ds l.scaled lemma) tokens ls
  count : length tokens ≡ length ls
  count_rows : length (rows_of tokens) ≡ row_count ls
  count_letters : letters_in (rows_of tokens) ≡ letters_of_lemmas ls

lemmas_back : (ds : List Declaration) (number : ℕ) (ls : List Lemma) → number + length ls < 10 ^ 64 → All (IsWrittenLemma ds) ls → AreLemmasBack ds number ls
lemmas_back ds number [] small each = record {
  tokens = [];
  text_is = no_text;
  numbered = tt;
  rows = record { each = All-nil _; names = All-nil _; numbers = All-nil _; words = All-nil _ };
  scales = All-nil _;
  say = tt;
  count = refl;
  count_rows = refl;
  count_letters = refl;
}
lemmas_back ds number (l ∷ ls) small each =
    let one = All-head (IsWrittenLemma ds) l ls each in
    let more = lemmas_back ds (suc number) ls (omega (arith, small)) (All-tail (IsWrittenLemma ds) l ls each) in
    let next : suc number ≡ number + 1 = omega arith in
    let listed = (scaled_tree ds l).rows in record {
      tokens = lemma_tree ds number l ∷ more.tokens;
      text_is = text-append _ _ _ _ (lemma_is_text ds number l (omega (arith, small)) one) more.text_is;
      numbered = (number_is_value number (omega (arith, small)), is_scaled ds l one, subst (λ n. AreLemmas n more.tokens) next more.numbered);
      rows = rows-append ds listed (rows_of more.tokens) (of_rows ds l one) more.rows;
      scales = All-cons (λ l. IsWithin integer_limit l.scaled.scale) (lemma_tree ds number l) more.tokens one.size.within more.scales;
      say = (says ds l one, more.say);
      count = ap suc more.count;
      count_rows = length-append listed (rows_of more.tokens) ∙ rw (length-map, more.count_rows, sum_by-cons (λ (l : Lemma). length l.rows) l ls) refl;
      count_letters =
          letters_in-append listed (rows_of more.tokens)
          ∙ rw (letters_in-trees ds (λ (row : LemmaRow). row) l.rows, more.count_letters, sum_by-cons (λ (l : Lemma). sum_by (λ (r : LemmaRow). length r.left + length r.right) l.rows) l ls) refl;
    }

-- what is known of a certificate that is written
pub record AreWritten (ds : List Declaration) (c : LemmaCertificate) : Type 0 where
  pub lemmas : All (IsWrittenLemma ds) c.lemmas
  pub goal : IsWrittenLemma ds c.goal

pub lemma_written : (ds : List Declaration) → IsDeclared ds → IsTrue (list_all is_named ds) → (l : Lemma) → IsWritableLemma ds l → IsWrittenLemma ds l
lemma_written ds declared known l fits = record {
  size = size_written l.scale fits.scale;
  rows = All-weaker (IsWritableLemmaRow ds) (IsWrittenRow ds) (lemma_row_written ds declared known) l.rows fits.rows;
}

pub lemmas_written : (ds : List Declaration) (c : LemmaCertificate) → IsDeclared ds → IsTrue (list_all is_named ds) → IsWritableByLemmas ds c → AreWritten ds c
lemmas_written ds c declared known writable = record {
  lemmas = All-weaker (IsWritableLemma ds) (IsWrittenLemma ds) (lemma_written ds declared known) c.lemmas writable.lemmas;
  goal = lemma_written ds declared known c.goal writable.goal;
}

module _ (ds : List Declaration) (c : LemmaCertificate) (writable : IsWritableByLemmas ds c) (written : AreWritten ds c) where
  back : AreLemmasBack ds 1 c.lemmas
  back = lemmas_back ds 1 c.lemmas (omega (arith, writable.few_lemmas)) written.lemmas

  -- after the first line of the goal
  abbrev leading : IsLeading format.Lemmas ds c.claim c.denominator c.lemmas c.goal.scale None
  leading = record {
    read = tt;
    head = head_written c.claim c.denominator writable.claim (size_written c.denominator writable.denominator);
    done = record { tokens = back.tokens; numbered = back.numbered; scales = back.scales; values = back.say };
    next = tt;
    few = rw back.count writable.few_lemmas;
    digits = signed_decimal c.goal.scale;
    number = written.goal.size.number;
    value = written.goal.size.value;
  }

  abbrev place : RowPlace format.Lemmas ds format.Lemmas
  place = lead_place format.Lemmas ds leading

  abbrev goal_rows : List RowTokens
  goal_rows = (scaled_tree ds c.goal).rows

  block_is_text : IsTextOf (lemma_certificate_text ds c) (certificate_lines (place.block goal_rows) ++ end_line ∷ [])
  block_is_text =
      let opening = opening_is_text format.Lemmas c.claim c.denominator writable.claim (size_written c.denominator writable.denominator) in
      let whole = text-append _ _ _ _ (text-append _ _ _ _ opening back.text_is) (goal_is_text ds c.goal written.goal) in
      subst (λ (ls : List Line). IsTextOf (lemma_certificate_text ds c) (head_line format.Lemmas ∷ claim_line leading.head.claim ∷ denominator_line leading.head.denominator ∷ ls))
      (sym (append_assoc (flat_map lemma_lines back.tokens) (goal_lines (scaled_tree ds c.goal)) (end_line ∷ []))) whole

  row_total : length (rows_of back.tokens ++ goal_rows) ≡ row_count (c.lemmas ++ c.goal ∷ [])
  row_total = length-append (rows_of back.tokens) goal_rows ∙ rw (back.count_rows, length-map, sum_by_push (λ (l : Lemma). length l.rows) c.lemmas c.goal) refl

  letter_total : letters_in (rows_of back.tokens ++ goal_rows) ≡ letters_of_lemmas (c.lemmas ++ c.goal ∷ [])
  letter_total =
      letters_in-append (rows_of back.tokens) goal_rows
      ∙ rw (
        back.count_letters,
        letters_in-trees ds (λ (row : LemmaRow). row) c.goal.rows,
        sum_by_push (λ (l : Lemma). sum_by (λ (r : LemmaRow). length r.left + length r.right) l.rows) c.lemmas c.goal,
      ) refl

  pub certificate_written : IsWritten (certificate_kind format.Lemmas ds) (lemma_certificate_text ds c) (evidence.Lemmas c)
  certificate_written =
      let all = rows-append ds (rows_of back.tokens) goal_rows back.rows (of_rows ds c.goal written.goal) in record {
        tree = place.block goal_rows;
        text_is = block_is_text;
        is_tree = place.is_block goal_rows (of_rows ds c.goal written.goal).each;
        keeps = λ bound. place.keeps bound goal_rows (rows_within ds (rows_of back.tokens ++ goal_rows) all (rw row_total writable.few_rows) (rw letter_total writable.letters) bound);
        says = record { claim = leading.head.claim_value; denominator = leading.head.denominator_value; lemmas = back.say; goal = says ds c.goal written.goal };
      }
