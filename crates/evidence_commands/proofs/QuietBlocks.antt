-- No line of a block of evidence begins with #.
use Rattle.evidence_commands.proofs.Prelude.{◌≡◌, ◌<◌, ◌+◌, ◌/◌, ◌%◌, ◌==◌, ℕ, zero, suc, ℤ, pos, negsuc, Bool, true, false, not, cond, List, [], ◌∷◌, ◌++◌, Option, Some, None, arith, refl, map, get_or, flat_map, codes, nat_eq, IsTrue, decimal, zip, signed_decimal, digits, digits_onto, digit_glyph, is_negative, unsigned_abs, list_all, range_with_len, and_parts, lt-ltb, ne_eqb, list_all-append, Term, Overflow, word_limit, term_limit, row_limit, Cause, CertRow, CertFrom, LemmaRow, Lemma, Evidence, Plain, Lemmas, Matrix, entry_at, Model, Named, Object, Map, Declaration, name_of, named_in, name_at, object_name, letter_name, spelled_as, letter_text, word_text, factor_text, term_text, first_text, later_text, poly_text, is_named, name_text, bytes_inside, inside_is_before_end, opening_text, evidence_text, lemmas_text, rule_line, basis_text, model_text, numbered_text, sides_text, maps_text, overflow_text, cause_text, line_text, use_text, steps_text, lines_text, chain_text}
use Rattle.definitions.specs.Poly.{Poly}
use Rattle.nc_polynomial.specs.declared.poly.Poly as made
use Rattle.cofactor_trace.specs.Limits.{letter_limit}
use Rattle.cofactor_trace.specs.declared.halt.Cause.TheVariants as cause
use Rattle.traced_rows.specs.declared.evidence.CertFrom.TheVariants as over
use Rattle.certificate_text.specs.Written as certificate
use Rattle.model_text.specs.Written as model
use Rattle.evidence_commands.proofs.QuietTexts.{lacks, is_quiet, ends_line, IsQuiet, quiet-append, inside_is_quiet, quiet-flat_map}

-- texts without line ends
pub lacks-append : (stop : ℕ) (xs ys : List ℕ) → lacks stop xs ≡ true → lacks stop ys ≡ true → lacks stop (xs ++ ys) ≡ true
lacks-append stop xs ys left right = rw (list_all-append (λ c. not (c == stop)) xs ys, left, right) refl

either : (P : List ℕ → Type 0) (b : Bool) (xs ys : List ℕ) → P xs → P ys → P (cond b xs ys)
either P true xs ys left right = left
either P false xs ys left right = right

abbrev IsPart : List ℕ → Type 0
IsPart text = lacks 10 text ≡ true

lacks-flat_map : {X : Type 0} (text_of : X → List ℕ) → ((x : X) → IsPart (text_of x)) → (xs : List X) → IsPart (flat_map text_of xs)
lacks-flat_map text_of each [] = refl
lacks-flat_map text_of each (x ∷ xs) = lacks-append 10 (text_of x) (flat_map text_of xs) (each x) (lacks-flat_map text_of each xs)

-- numbers have neither line ends nor blanks
digit_lacks : (stop : ℕ) → stop < 48 → (d : ℕ) → d < 10 → (text : List ℕ) → lacks stop text ≡ true → lacks stop (digit_glyph false d ∷ text) ≡ true
digit_lacks stop low d below text is = rw (lt-ltb d 10 below, ne_eqb (48 + d) stop (λ e. omega (arith, e, low)), is) refl

digits_lack : (stop : ℕ) → stop < 48 → (k n : ℕ) (text : List ℕ) → lacks stop text ≡ true → lacks stop (digits_onto k 10 false n text) ≡ true
digits_lack stop low zero n text is = is
digits_lack stop low (suc k) n text is =
    let below : n % 10 < 10 = omega arith in
    let here : lacks stop (digit_glyph false (n % 10) ∷ text) ≡ true = digit_lacks stop low (n % 10) below text is in
    either (λ t. lacks stop t ≡ true) (n / 10 == 0) _ _ here (digits_lack stop low k (n / 10) (digit_glyph false (n % 10) ∷ text) here)

pub decimal_lacks : (stop : ℕ) → stop < 48 → (n : ℕ) → lacks stop (decimal n) ≡ true
unfolding digits
decimal_lacks stop low n = digits_lack stop low 64 n [] refl

pub number_is_part : (n : ℕ) → IsPart (decimal n)
number_is_part n = decimal_lacks 10 (omega arith) n

pub integer_is_part : (z : ℤ) → IsPart (signed_decimal z)
integer_is_part (pos n) = number_is_part n
integer_is_part (negsuc n) = lacks-append 10 (45 ∷ []) (decimal (suc n)) refl (number_is_part (suc n))

-- why a search or a test stops
numbered : (label : List ℕ) (n : ℕ) → IsPart label → IsPart (label ++ decimal n)
numbered label n is = lacks-append 10 label (decimal n) is (number_is_part n)

overflow_is_part : (o : Overflow) → IsPart (overflow_text o)
overflow_is_part o =
    lacks-append 10 (signed_decimal o.left ++ cond o.product (codes " times ") (codes " plus ")) (signed_decimal o.right) (lacks-append 10 (signed_decimal o.left) (cond o.product (codes " times ") (codes " plus ")) (integer_is_part o.left) (either IsPart o.product (codes " times ") (codes " plus ") refl refl))
    (integer_is_part o.right)

pub cause_is_part : (c : Cause) → IsPart (cause_text c)
cause_is_part (cause.Pairs spent) = numbered (codes "pairs ") spent refl
cause_is_part (cause.Steps limit) = numbered (codes "steps ") limit refl
cause_is_part (cause.Size letters) =
    either IsPart letters (codes "size letters " ++ decimal word_limit) (codes "size terms " ++ decimal term_limit) (numbered (codes "size letters ") word_limit refl) (numbered (codes "size terms ") term_limit refl)
cause_is_part (cause.Rows letters) =
    either IsPart letters (codes "rows letters " ++ decimal letter_limit) (codes "rows " ++ decimal row_limit) (numbered (codes "rows letters ") letter_limit refl) (numbered (codes "rows ") row_limit refl)
cause_is_part (cause.Overflow o) = lacks-append 10 (codes "overflow ") (overflow_text o) refl (overflow_is_part o)

-- names, words and polynomials, where each declaration has a name of the language
module _ (ds : List Declaration) (known : IsTrue (list_all is_named ds)) where
  names_are_parts : (ds : List Declaration) → list_all is_named ds ≡ true → (place : ℕ) → IsPart (get_or (map name_of ds) place [])
  names_are_parts [] known place = refl
  names_are_parts (d ∷ ds) known zero =
      inside_is_before_end (name_of d) (bytes_inside (name_of d) (name_text (name_of d) (and_parts (is_named d) (list_all is_named ds) known).0).bytes)
  names_are_parts (d ∷ ds) known (suc place) = names_are_parts ds (and_parts (is_named d) (list_all is_named ds) known).1 place

  pub name_is_part : (place : ℕ) → IsPart (name_at ds place)
  name_is_part place = names_are_parts ds known place

  spelled_is_part : (name : List ℕ) (a : ℕ) (found : Option Named) → IsPart name → IsPart (spelled_as name a found)
  spelled_is_part name a None is = refl
  spelled_is_part name a (Some (Object v)) is = lacks-append 10 (codes "[" ++ name) (codes "]") (lacks-append 10 (codes "[") name refl is) refl
  spelled_is_part name a (Some (Map b)) is = either IsPart (nat_eq a b.0) name (name ++ codes "'") is (lacks-append 10 name (codes "'") is refl)

  pub letter_is_part : (a : ℕ) → IsPart (letter_text ds a)
  letter_is_part a = spelled_is_part (letter_name ds a) a (named_in ds (letter_name ds a)) (name_is_part _)

  pub word_is_part : (word : List ℕ) → IsPart (word_text ds word)
  word_is_part [] = refl
  word_is_part (a ∷ []) = letter_is_part a
  word_is_part (a ∷ b ∷ word) = lacks-append 10 (letter_text ds a) (32 ∷ word_text ds (b ∷ word)) (letter_is_part a) (word_is_part (b ∷ word))

  factor_is_part : (n : ℕ) → IsPart (factor_text n)
  factor_is_part n = either IsPart (n == 1) [] (decimal n ++ codes " ") refl (lacks-append 10 (decimal n) (codes " ") (number_is_part n) refl)

  term_is_part : (t : Term) → IsPart (term_text ds t)
  term_is_part t = lacks-append 10 (factor_text (unsigned_abs t.0)) (word_text ds t.1) (factor_is_part (unsigned_abs t.0)) (word_is_part t.1)

  later_is_part : (t : Term) → IsPart (later_text ds t)
  later_is_part t = lacks-append 10 (cond (is_negative t.0) (codes " - ") (codes " + ")) (term_text ds t) (either IsPart (is_negative t.0) (codes " - ") (codes " + ") refl refl) (term_is_part t)

  pub poly_is_part : (p : Poly) → IsPart (poly_text ds p)
  poly_is_part [] = refl
  poly_is_part (t ∷ terms) =
      lacks-append 10 (first_text ds t) (flat_map (later_text ds) terms) (lacks-append 10 (cond (is_negative t.0) (codes "- ") []) (term_text ds t) (either IsPart (is_negative t.0) (codes "- ") [] refl refl) (term_is_part t))
      (lacks-flat_map (later_text ds) later_is_part terms)

-- lines, none of which begins with #
abbrev pub AreQuiet : List ℕ → Type 0
AreQuiet text = IsQuiet true true text

pub nothing_is_quiet : AreQuiet []
nothing_is_quiet = record { quiet = refl; ends = refl }

-- more of a line
goes_on : (start : Bool) (xs part : List ℕ) → IsQuiet start false xs → IsPart part → IsQuiet start false (xs ++ part)
goes_on start xs part is inner = quiet-append start false false xs part is (inside_is_quiet part inner)

-- what is written out, in a line
written : (start end : Bool) (xs text : List ℕ) → IsQuiet start false xs → is_quiet false text ≡ true → ends_line false text ≡ end → IsQuiet start end (xs ++ text)
written start end xs text is quiet ends = quiet-append start false end xs text is (record { quiet = quiet; ends = ends })

begun : (text : List ℕ) → is_quiet true text ≡ true → ends_line true text ≡ false → IsQuiet true false text
begun text quiet ends = record { quiet = quiet; ends = ends }

end_is_quiet : AreQuiet (codes "end\n")
end_is_quiet = record { quiet = refl; ends = refl }

numbered_is_quiet : (word : List ℕ) (n : ℕ) → is_quiet true word ≡ true → ends_line true word ≡ false → AreQuiet (numbered_text word n)
numbered_is_quiet word n quiet ends = written true true (word ++ decimal n) (codes "\n") (goes_on true word (decimal n) (begun word quiet ends) (number_is_part n)) refl refl

opening_is_quiet : (head : List ℕ) (claim : ℕ) (d : ℤ) → is_quiet true head ≡ true → ends_line true head ≡ false → AreQuiet (opening_text head claim d)
opening_is_quiet head claim d quiet ends =
    written true true _ (codes "\n")
    (goes_on true _ (signed_decimal d) (written true false _ (codes "\ndenominator ") (goes_on true head (decimal claim) (begun head quiet ends) (number_is_part claim)) refl refl) (integer_is_part d)) refl refl

module _ (ds : List Declaration) (known : IsTrue (list_all is_named ds)) where
  -- a word and an integer, two words in brackets and an origin between them
  row_is_quiet : (head : List ℕ) (z : ℤ) (left origin right : List ℕ) → is_quiet true head ≡ true → ends_line true head ≡ false → IsPart left → IsPart origin → IsPart right
      → AreQuiet (head ++ signed_decimal z ++ codes " (" ++ left ++ codes ") " ++ origin ++ codes " (" ++ right ++ codes ")\n")
  row_is_quiet head z left origin right quiet ends in_left in_origin in_right =
      written true true _ (codes ")\n")
      (goes_on true _ right
      (written true false _ (codes " (")
      (goes_on true _ origin
      (written true false _ (codes ") ")
      (goes_on true _ left (written true false _ (codes " (") (goes_on true head (signed_decimal z) (begun head quiet ends) (integer_is_part z)) refl refl) in_left)
      refl refl) in_origin) refl refl) in_right) refl refl

  cert_row_is_quiet : (row : CertRow) → AreQuiet (certificate.row_text ds row)
  cert_row_is_quiet row =
      row_is_quiet (codes "row ") row.coef (word_text ds row.left) (decimal row.generator) (word_text ds row.right) refl refl (word_is_part ds known row.left) (number_is_part row.generator)
      (word_is_part ds known row.right)

  origin_is_part : (from : CertFrom) → IsPart (certificate.origin_text from)
  origin_is_part (over.Generator n) = number_is_part n
  origin_is_part (over.Lemma n) = lacks-append 10 (codes "lemma ") (decimal n) refl (number_is_part n)

  lemma_row_is_quiet : (row : LemmaRow) → AreQuiet (certificate.lemma_row_text ds row)
  lemma_row_is_quiet row =
      row_is_quiet (codes "row ") row.coef (word_text ds row.left) (certificate.origin_text row.from) (word_text ds row.right) refl refl (word_is_part ds known row.left) (origin_is_part row.from)
      (word_is_part ds known row.right)

  scaled_is_quiet : (l : Lemma) → IsQuiet false true (certificate.scaled_text ds l)
  scaled_is_quiet l =
      let scale : IsQuiet false true (codes " scale " ++ signed_decimal l.scale ++ codes "\n") =
      written false true _ (codes "\n") (goes_on false (codes " scale ") (signed_decimal l.scale) (record { quiet = refl; ends = refl }) (integer_is_part l.scale)) refl refl in
      quiet-append false true true (codes " scale " ++ signed_decimal l.scale ++ codes "\n") (flat_map (certificate.lemma_row_text ds) l.rows) scale
      (quiet-flat_map (certificate.lemma_row_text ds) lemma_row_is_quiet l.rows)

  lemmas_are_quiet : (number : ℕ) (lemmas : List Lemma) → AreQuiet (lemmas_text ds number lemmas)
  lemmas_are_quiet number [] = nothing_is_quiet
  lemmas_are_quiet number (l ∷ lemmas) =
      quiet-append true true true (certificate.lemma_text ds number l) (lemmas_text ds (suc number) lemmas)
      (quiet-append true false true (codes "lemma " ++ decimal number) (certificate.scaled_text ds l) (goes_on true (codes "lemma ") (decimal number) (begun (codes "lemma ") refl refl) (number_is_part number)) (scaled_is_quiet l))
      (lemmas_are_quiet (suc number) lemmas)

  goal_is_quiet : (l : Lemma) → AreQuiet (certificate.goal_text ds l)
  goal_is_quiet l =
      quiet-append true true true (codes "goal" ++ certificate.scaled_text ds l) (codes "end\n")
      (quiet-append true false true (codes "goal") (certificate.scaled_text ds l) (begun (codes "goal") refl refl) (scaled_is_quiet l)) end_is_quiet

  pub evidence_is_quiet : (e : Evidence) → AreQuiet (evidence_text ds e)
  evidence_is_quiet (Plain c) =
      quiet-append true true true _ (codes "end\n")
      (quiet-append true true true (opening_text (codes "certificate 1\nclaim ") c.claim c.denominator) (flat_map (certificate.row_text ds) c.rows)
      (opening_is_quiet (codes "certificate 1\nclaim ") c.claim c.denominator refl refl) (quiet-flat_map (certificate.row_text ds) cert_row_is_quiet c.rows)) end_is_quiet
  evidence_is_quiet (Lemmas c) =
      quiet-append true true true _ (certificate.goal_text ds c.goal)
      (quiet-append true true true (opening_text (codes "certificate 2\nclaim ") c.claim c.denominator) (lemmas_text ds 1 c.lemmas)
      (opening_is_quiet (codes "certificate 2\nclaim ") c.claim c.denominator refl refl) (lemmas_are_quiet 1 c.lemmas)) (goal_is_quiet c.goal)

  rule_is_quiet : (p : made.Poly) → AreQuiet (rule_line ds p)
  rule_is_quiet p = written true true _ (codes "\n") (goes_on true (codes "rule ") (poly_text ds p.terms) (begun (codes "rule ") refl refl) (poly_is_part ds known p.terms)) refl refl

  pub basis_is_quiet : (rules : List made.Poly) (claim : ℕ) (rest : made.Poly) → AreQuiet (basis_text ds rules claim rest)
  basis_is_quiet rules claim rest =
      let front : AreQuiet (codes "basis 1\nclaim " ++ decimal claim ++ codes "\n") = numbered_is_quiet (codes "basis 1\nclaim ") claim refl refl in
      let ruled = quiet-append true true true (codes "basis 1\nclaim " ++ decimal claim ++ codes "\n") (flat_map (rule_line ds) rules) front (quiet-flat_map (rule_line ds) rule_is_quiet rules) in
      written true true _ (codes "\nend\n") (goes_on true _ (poly_text ds rest.terms) (quiet-append true true false _ (codes "rest ") ruled (begun (codes "rest ") refl refl)) (poly_is_part ds known rest.terms)) refl refl

  -- models
  between_is_part : (sign : List ℕ) (place : ℕ) → IsPart sign → IsPart (model.between sign place)
  between_is_part sign place is = either IsPart (place == 0) [] sign refl is

  matrix_is_part : (x : Matrix) → IsPart (model.rows_text x)
  matrix_is_part x =
      lacks-flat_map (model.part_text x) (λ row.
      lacks-append 10 (model.between (codes " ; ") row) (model.row_text x row) (between_is_part (codes " ; ") row refl)
      (lacks-flat_map (model.entry_text x row) (λ column.
      lacks-append 10 (model.between (codes " ") column) (decimal (entry_at x row column)) (between_is_part (codes " ") column refl) (number_is_part (entry_at x row column)))
      (range_with_len 0 x.columns))) (range_with_len 0 x.rows)

  side_is_quiet : (v n : ℕ) → AreQuiet (model.side_text ds v n)
  side_is_quiet v n =
      written true true _ (codes "\n")
      (goes_on true _ (decimal n) (written true false _ (codes " ") (goes_on true (codes "side ") (object_name ds v) (begun (codes "side ") refl refl) (name_is_part ds known _)) refl refl) (number_is_part n)) refl refl

  map_is_quiet : (a : ℕ) (found : Option Matrix) → AreQuiet (model.map_text ds a found)
  map_is_quiet a None = nothing_is_quiet
  map_is_quiet a (Some x) =
      either AreQuiet (model.is_map ds a) (codes "map " ++ letter_name ds a ++ codes " = " ++ model.rows_text x ++ codes "\n") []
      (written true true _ (codes "\n")
      (goes_on true _ (model.rows_text x) (written true false _ (codes " = ") (goes_on true (codes "map ") (letter_name ds a) (begun (codes "map ") refl refl) (name_is_part ds known _)) refl refl) (matrix_is_part x)) refl refl)
      nothing_is_quiet

  pub model_is_quiet : (m : Model) → AreQuiet (model_text ds m)
  model_is_quiet m =
      let claim = numbered_is_quiet (codes "claim ") m.claim refl refl in
      let modulus = numbered_is_quiet (codes "modulus ") m.modulus refl refl in
      let first : AreQuiet (codes "model 1\n") = record { quiet = refl; ends = refl } in
      quiet-append true true true _ (codes "end\n")
      (quiet-append true true true _ (maps_text ds m.maps)
      (quiet-append true true true (model.head_text m) (sides_text ds m.sides)
      (quiet-append true true true _ (numbered_text (codes "modulus ") m.modulus) (quiet-append true true true (codes "model 1\n") (numbered_text (codes "claim ") m.claim) first claim) modulus)
      (quiet-flat_map (λ v. model.side_text ds v (get_or m.sides v 1)) (λ v. side_is_quiet v (get_or m.sides v 1)) (range_with_len 0 _)))
      (quiet-flat_map (λ a. model.map_text ds a (get_or m.maps a None)) (λ a. map_is_quiet a (get_or m.maps a None)) (range_with_len 0 _))) end_is_quiet

  -- chains
  line_is_quiet : (p : Poly) → AreQuiet (line_text ds p)
  line_is_quiet p =
      quiet-append true false true (codes "line ") (poly_text ds p ++ codes "\n") (begun (codes "line ") refl refl)
      (quiet-append false false true (poly_text ds p) (codes "\n") (inside_is_quiet (poly_text ds p) (poly_is_part ds known p)) (record { quiet = refl; ends = refl }))

  use_is_quiet : (step : CertRow) → AreQuiet (use_text ds step)
  use_is_quiet step =
      row_is_quiet (codes "use ") step.coef (word_text ds step.left) (decimal step.generator) (word_text ds step.right) refl refl (word_is_part ds known step.left) (number_is_part step.generator)
      (word_is_part ds known step.right)

  steps_are_quiet : (steps : List CertRow) (lines : List Poly) → AreQuiet (steps_text ds steps lines)
  steps_are_quiet steps lines =
      quiet-flat_map (λ (s : CertRow × Poly). use_text ds s.0 ++ line_text ds s.1) (λ s. quiet-append true true true (use_text ds s.0) (line_text ds s.1) (use_is_quiet s.0) (line_is_quiet s.1)) (zip steps lines)

  lines_are_quiet : (steps : List CertRow) (lines : List Poly) → AreQuiet (lines_text ds steps lines)
  lines_are_quiet steps [] = nothing_is_quiet
  lines_are_quiet steps (line ∷ lines) = quiet-append true true true (line_text ds line) (steps_text ds steps lines) (line_is_quiet line) (steps_are_quiet steps lines)

  -- its last line without the end of it
  pub chain_is_quiet : (claim : ℕ) (d : ℤ) (steps : List CertRow) (lines : List Poly) → AreQuiet (chain_text ds claim d steps lines ++ codes "\n")
  chain_is_quiet claim d steps lines =
      written true true _ (codes "\n")
      (quiet-append true true false (opening_text (codes "chain 1\nclaim ") claim d) (lines_text ds steps lines ++ codes "end") (opening_is_quiet (codes "chain 1\nclaim ") claim d refl refl)
      (quiet-append true true false (lines_text ds steps lines) (codes "end") (lines_are_quiet steps lines) (record { quiet = refl; ends = refl }))) refl refl
