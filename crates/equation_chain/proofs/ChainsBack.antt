-- Chains that are written are blocks of chain text.
use Rattle.equation_chain.proofs.Prelude.{◌≡◌, ◌<◌, ◌+◌, ◌^◌, ℕ, List, [], ◌∷◌, ◌++◌, Some, Ok, arith, refl, sym, ap, ◌∙◌, subst, length, map, codes, IsTrue, decimal, signed_decimal, All, AllZip, list_all, flat_map, append_assoc, All-nil, All-cons, All-head, All-tail, Declaration, IsDeclared, CertRow, is_named, IsLineText, number_within, number_limit, end_line, IsPolynomialLine, tokens_of, letter_text, word_text, poly_text, IsTextOf, no_text, text-append, text_of_tokens, end_is_text, IsInteger, integer_read, decimal_text, decimal_number, decimal_within, IsWritten, is_written_line, poly_is_line, are_read_back, IsWrittenWord, word_written, letters_written, line_text-append, literal, plain_name, IsToken, token_read, tokens_read, name_token, RowTokens, row_values, IsPlainRow, opening_text, row_tree, over_generator, IsSize, size_written, headed_is_text, ChainTerms, StepTokens, ChainTokens, said_line, use_line, step_lines, chain_lines, lines_in, chain_kind, text_of, IsReadableStep, IsReadableLine, IsReadable, ChainsAreReadBack, line_text, use_text, steps_text, lines_text, chain_text}
use Rattle.definitions.specs.Poly.{Poly}

-- the text of a step without its LF
abbrev step_text : List Declaration → CertRow → List ℕ
step_text ds step =
    codes "use " ++ (signed_decimal step.coef ++ (codes " (" ++ (word_text ds step.left ++ (codes ") " ++ (decimal step.generator ++ (codes " (" ++ (word_text ds step.right ++ codes ")")))))))

step_ended : (ds : List Declaration) (step : CertRow) → use_text ds step ≡ step_text ds step ++ 10 ∷ []
step_ended ds step = simp append_assoc refl

line_ended : (text : List ℕ) → codes "line " ++ (text ++ codes "\n") ≡ (codes "line " ++ text) ++ 10 ∷ []
line_ended text = refl

-- the end of a block
block_ended : (opening lines : List ℕ) → (opening ++ (lines ++ codes "end")) ++ codes "\n" ≡ opening ++ (lines ++ codes "end\n")
block_ended opening lines = simp append_assoc refl

abbrev step_tree : List Declaration → CertRow → RowTokens
step_tree ds step = row_tree ds (over_generator step)

abbrev trees : List Declaration → List CertRow → List Poly → List StepTokens
trees ds [] lines = []
trees ds (step ∷ steps) [] = []
trees ds (step ∷ steps) (line ∷ lines) = record { step = step_tree ds step; line = tokens_of (poly_text ds line) } ∷ trees ds steps lines

module _ (ds : List Declaration) (declared : IsDeclared ds) (known : IsTrue (list_all is_named ds)) where
  -- a step
  module _ (step : CertRow) (readable : IsReadableStep ds step) where
    integer : IsInteger step.coef
    integer = integer_read step.coef readable.coefficient

    left : IsWrittenWord ds step.left
    left = word_written ds step.left (letters_written ds declared known step.left readable.letters.left)

    right : IsWrittenWord ds step.right
    right = word_written ds step.right (letters_written ds declared known step.right readable.letters.right)

    small : step.generator < 10 ^ 64
    small = let below = readable.generator in omega (arith, below)

    number_token : IsToken (decimal step.generator)
    number_token = name_token (decimal step.generator) (decimal_text step.generator small)

    -- what follows each part
    abbrev after_number : List ℕ
    after_number = codes " (" ++ (word_text ds step.right ++ codes ")")

    abbrev after_left : List ℕ
    after_left = codes ") " ++ (decimal step.generator ++ after_number)

    abbrev after_coefficient : List ℕ
    after_coefficient = codes " (" ++ (word_text ds step.left ++ after_left)

    step_tokens : tokens_of (step_text ds step) ≡ use_line (step_tree ds step)
    step_tokens =
        let last = tokens_read (map (letter_text ds) step.right) (codes ")") right.tokens refl in
        let number = token_read (decimal step.generator) after_number number_token refl in
        let first = tokens_read (map (letter_text ds) step.left) after_left left.tokens refl in
        let coefficient = token_read (signed_decimal step.coef) after_coefficient integer.token refl in
        ap (λ ts. codes "use" ∷ ts) (coefficient
        ∙ ap (λ ts. signed_decimal step.coef ∷ codes "(" ∷ ts) (first
        ∙ ap (λ ts. map (letter_text ds) step.left ++ (codes ")" ∷ ts)) (number
        ∙ ap (λ ts. decimal step.generator ∷ codes "(" ∷ ts) last)))

    step_inside : IsLineText (step_text ds step)
    step_inside =
        let coefficient : IsLineText (signed_decimal step.coef) = record { utf8 = integer.utf8; inside = integer.inside } in
        let number = (plain_name (decimal step.generator) (decimal_text step.generator small)).line in
        let last = line_text-append (word_text ds step.right) (codes ")") right.line (literal (codes ")") refl refl) in
        let opened_again = line_text-append (codes " (") _ (literal (codes " (") refl refl) last in
        let numbered = line_text-append (decimal step.generator) _ number opened_again in
        let shut = line_text-append (codes ") ") _ (literal (codes ") ") refl refl) numbered in
        let first = line_text-append (word_text ds step.left) _ left.line shut in
        let opened = line_text-append (codes " (") _ (literal (codes " (") refl refl) first in
        let multiplied = line_text-append (signed_decimal step.coef) _ coefficient opened in
        line_text-append (codes "use ") _ (literal (codes "use ") refl refl) multiplied

    step_is_text : IsTextOf (use_text ds step) (use_line (step_tree ds step) ∷ [])
    step_is_text =
        subst (λ (text : List ℕ). IsTextOf text (use_line (step_tree ds step) ∷ [])) (sym (step_ended ds step))
        (text_of_tokens (step_text ds step) (use_line (step_tree ds step)) step_inside step_tokens refl)

    step_is_row : IsPlainRow (step_tree ds step)
    step_is_row = record { row = rw (integer.number, left.letters, decimal_number step.generator small, right.letters) refl; generator = refl }

    step_says : row_values ds (step_tree ds step) ≡ Ok step
    step_says =
        let within : number_within number_limit (decimal step.generator) ≡ Some step.generator =
        (let below = readable.generator in decimal_within number_limit step.generator (omega (arith, below)) small) in
        rw (left.read, right.read, integer.value, within) refl

  -- a line
  module _ (line : Poly) (readable : IsReadableLine ds line) where
    line_is_text : IsTextOf (line_text ds line) (said_line (tokens_of (poly_text ds line)) ∷ [])
    line_is_text =
        let inside = poly_is_line ds declared known line (λ k d below. (readable.canonical.shaped.in_range k d below, readable.letters k d below)) in
        subst (λ (text : List ℕ). IsTextOf text (said_line (tokens_of (poly_text ds line)) ∷ [])) (sym (line_ended (poly_text ds line)))
        (text_of_tokens (codes "line " ++ poly_text ds line) (said_line (tokens_of (poly_text ds line)))
        (line_text-append (codes "line ") (poly_text ds line) (literal (codes "line ") refl refl) inside) refl refl)

    line_says : IsPolynomialLine ds (tokens_of (poly_text ds line)) line
    line_says = is_written_line ds declared known line (record { canonical = readable.canonical; over = readable.letters; some = readable.nonempty })

  -- steps, each with the line after it
  steps_are_text : (steps : List CertRow) (lines : List Poly) → All (IsReadableStep ds) steps → All (IsReadableLine ds) lines
      → IsTextOf (steps_text ds steps lines) (flat_map step_lines (trees ds steps lines))
  steps_are_text [] lines each all = no_text
  steps_are_text (step ∷ steps) [] each all = no_text
  steps_are_text (step ∷ steps) (line ∷ lines) each all =
      text-append (use_text ds step ++ line_text ds line) (steps_text ds steps lines) (use_line (step_tree ds step) ∷ said_line (tokens_of (poly_text ds line)) ∷ []) (flat_map step_lines (trees ds steps lines))
      (text-append (use_text ds step) (line_text ds line) (use_line (step_tree ds step) ∷ []) (said_line (tokens_of (poly_text ds line)) ∷ []) (step_is_text step (All-head (IsReadableStep ds) step steps each)) (line_is_text line (All-head (IsReadableLine ds) line lines all)))
      (steps_are_text steps lines (All-tail (IsReadableStep ds) step steps each) (All-tail (IsReadableLine ds) line lines all))

  trees_are_plain : (steps : List CertRow) (lines : List Poly) → All (IsReadableStep ds) steps → All (λ s. IsPlainRow s.step) (trees ds steps lines)
  trees_are_plain [] lines each = All-nil _
  trees_are_plain (step ∷ steps) [] each = All-nil _
  trees_are_plain (step ∷ steps) (line ∷ lines) each =
      All-cons (λ s. IsPlainRow s.step) _ (trees ds steps lines) (step_is_row step (All-head (IsReadableStep ds) step steps each)) (trees_are_plain steps lines (All-tail (IsReadableStep ds) step steps each))

  steps_say : (steps : List CertRow) (lines : List Poly) → length lines ≡ length steps → All (IsReadableStep ds) steps → AllZip (λ s step. row_values ds s.step ≡ Ok step) (trees ds steps lines) steps
  steps_say [] lines same each = tt
  steps_say (step ∷ steps) [] same each = absurd (omega (arith, same))
  steps_say (step ∷ steps) (line ∷ lines) same each = (step_says step (All-head (IsReadableStep ds) step steps each), steps_say steps lines (omega (arith, same)) (All-tail (IsReadableStep ds) step steps each))

  lines_say : (steps : List CertRow) (lines : List Poly) → length lines ≡ length steps → All (IsReadableLine ds) lines → AllZip (IsPolynomialLine ds) (map (λ s. s.line) (trees ds steps lines)) lines
  lines_say [] [] same all = tt
  lines_say [] (line ∷ lines) same all = absurd (omega (arith, same))
  lines_say (step ∷ steps) [] same all = tt
  lines_say (step ∷ steps) (line ∷ lines) same all = (line_says line (All-head (IsReadableLine ds) line lines all), lines_say steps lines (omega (arith, same)) (All-tail (IsReadableLine ds) line lines all))

  -- a chain of a first line and others
  module _ (c : ChainTerms) (readable : IsReadable ds c) where
    size : IsSize c.denominator
    size = size_written c.denominator readable.denominator

    claim_small : c.claim < 10 ^ 64
    claim_small = let below = readable.claim in omega (arith, below)

    claim_value : number_within number_limit (decimal c.claim) ≡ Some c.claim
    claim_value = let below = readable.claim in decimal_within number_limit c.claim (omega (arith, below)) claim_small

    head_is_text : IsTextOf (codes "chain 1\n") ((codes "chain" ∷ codes "1" ∷ []) ∷ [])
    head_is_text = text_of_tokens (codes "chain 1") (codes "chain" ∷ codes "1" ∷ []) (literal (codes "chain 1") refl refl) refl refl

    abbrev chain_tree : Poly → List Poly → ChainTokens
    chain_tree first later = record {
      claim = decimal c.claim;
      denominator = signed_decimal c.denominator;
      first = tokens_of (poly_text ds first);
      steps = trees ds c.steps later;
    }

    written_by : (lines : List Poly) → c.lines ≡ lines → All (IsReadableLine ds) lines → length lines ≡ length c.steps + 1 → IsWritten (chain_kind ds) (text_of ds c) c
    written_by [] are all long = absurd (omega (arith, long))
    written_by (first ∷ later) are all long = record {
      tree = chain_tree first later;
      text_is = subst (λ (text : List ℕ). IsTextOf text (chain_lines (chain_tree first later) ++ end_line ∷ [])) (sym whole) block_is_text;
      is_tree = record {
        claim = decimal_number c.claim claim_small;
        denominator = size.number;
        steps = trees_are_plain c.steps later readable.steps;
      };
      keeps = λ bound. absurd bound;
      says = record {
        claim = claim_value;
        denominator = size.value;
        steps = steps_say c.steps later as_many readable.steps;
        lines = subst (AllZip (IsPolynomialLine ds) (lines_in (chain_tree first later))) (sym are) (line_says first (All-head (IsReadableLine ds) first later all), lines_say c.steps later as_many (All-tail (IsReadableLine ds) first later all));
      };
    }
      where
        as_many : length later ≡ length c.steps
        as_many = omega (arith, long)

        opening : List ℕ
        opening = opening_text (codes "chain 1\nclaim ") c.claim c.denominator

        whole : text_of ds c ≡ opening ++ (lines_text ds c.steps (first ∷ later) ++ codes "end\n")
        whole = ap (λ ls. chain_text ds c.claim c.denominator c.steps ls ++ codes "\n") are ∙ block_ended opening (lines_text ds c.steps (first ∷ later))

        block_is_text : IsTextOf (opening ++ (lines_text ds c.steps (first ∷ later) ++ codes "end\n")) (chain_lines (chain_tree first later) ++ end_line ∷ [])
        block_is_text =
            let opened = headed_is_text (codes "chain 1") (codes "chain" ∷ codes "1" ∷ []) c.claim c.denominator head_is_text readable.claim size in
            text-append _ _ _ _ opened (text-append _ _ _ _ (text-append _ _ _ _ (line_is_text first (All-head (IsReadableLine ds) first later all)) (steps_are_text c.steps later readable.steps (All-tail (IsReadableLine ds) first later all))) end_is_text)

    pub chain_written : IsWritten (chain_kind ds) (text_of ds c) c
    chain_written = written_by c.lines refl readable.lines readable.long

pub chains_are_read_back : ChainsAreReadBack
chains_are_read_back ds declared known = are_read_back (chain_kind ds) (text_of ds) (IsReadable ds) refl (chain_written ds declared known)
