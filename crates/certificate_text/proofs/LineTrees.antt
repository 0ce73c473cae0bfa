-- A line that is read is the line of what is read.
use Rattle.certificate_text.proofs.Prelude.{◌≡◌, ℕ, Bool, true, false, not, cond, ◌&&◌, List, [], ◌∷◌, ◌++◌, Some, None, IsTrue, refl, sym, ap, ap₂, ◌∙◌, subst, codes, option_and_then, and_parts, option_and_then_some, cond_some, Format, Plain, Lemmas, is_number, is, bracketed, Line, RowTokens, is_plain_head, is_lemmas_head, is_value, scale_digits, lemma_digits, goal_digits, row_end, number_part, origin_part, row_parts, is_row, row_tokens, origin_tokens, row_line, head_line, IsPlainRow, by_test, cond_option, Parts, is_word, pair_is, number_is, bracketed_is}

-- words
pub plain_head_is : (line : Line) → is_plain_head line ≡ true → line ≡ head_line Plain
plain_head_is line same = pair_is (codes "certificate") (codes "1") line same

pub lemmas_head_is : (line : Line) → is_lemmas_head line ≡ true → line ≡ head_line Lemmas
lemmas_head_is line same = pair_is (codes "certificate") (codes "2") line same

-- lemma K scale S, with this K
pub lemma_is : (number : ℕ) (line : Line) (s : List ℕ) → lemma_digits number line ≡ Some s
    → (k : List ℕ) × (line ≡ codes "lemma" ∷ k ∷ codes "scale" ∷ s ∷ []) × IsTrue (is_value number k) × IsTrue (is_number s)
lemma_is number [] s read = absurd (cc)
lemma_is number (word ∷ []) s read = absurd (cc)
lemma_is number (word ∷ k ∷ tokens) s read =
    let found = cond_option (is (codes "lemma") word && is_value number k) (scale_digits tokens) s read in
    let parts = and_parts (is (codes "lemma") word) (is_value number k) found.0 in
    let scale = number_is (codes "scale") tokens s found.1 in
    (k, ap₂ (λ x y. x ∷ k ∷ y) (is_word (codes "lemma") word parts.0) scale.0, parts.1, scale.1)

-- goal scale S
pub goal_is : (line : Line) (s : List ℕ) → goal_digits line ≡ Some s → (line ≡ codes "goal" ∷ codes "scale" ∷ s ∷ []) × IsTrue (is_number s)
goal_is [] s read = absurd (cc)
goal_is (word ∷ tokens) s read =
    let found = cond_option (is (codes "goal") word) (scale_digits tokens) s read in
    let scale = number_is (codes "scale") tokens s found.1 in
    (ap₂ (λ x y. x ∷ y) (is_word (codes "goal") word found.0) scale.0, scale.1)

-- rows
abbrev made : List ℕ → List (List ℕ) → Bool → List ℕ → List (List ℕ) → RowTokens
made coefficient left lemma number right = record { coefficient = coefficient; left = left; lemma = lemma; number = number; right = right }

row_end_is : (coefficient : List ℕ) (left : Line) (lemma : Bool) (number : List ℕ) (right behind : Line) (r : RowTokens) → row_end coefficient left lemma number right behind ≡ Some r
    → (behind ≡ []) × (made coefficient left lemma number right ≡ r)
row_end_is coefficient left lemma number right [] r read = (refl, cc)
row_end_is coefficient left lemma number right (token ∷ behind) r read = absurd (cc)

-- the tokens after the first bracket, without `lemma`, are those of a row
number_part_is : (coefficient : List ℕ) (left : Line) (lemma : Bool) (tokens : Line) (r : RowTokens) → number_part coefficient left lemma tokens ≡ Some r
    → (number : List ℕ) × (right : Line) × (made coefficient left lemma number right ≡ r) × (tokens ≡ number ∷ codes "(" ∷ (right ++ codes ")" ∷ []))
number_part_is coefficient left lemma [] r read = absurd (cc)
number_part_is coefficient left lemma (number ∷ tokens) r read =
    option_and_then_some (λ (right : Parts). row_end coefficient left lemma number right.0 right.1) (bracketed tokens) r read (λ right found ended.
    let end = row_end_is coefficient left lemma number right.0 right.1 r ended in
    (number, right.0, end.1, ap (λ ts. number ∷ ts) (bracketed_is tokens right found ∙ ap (λ (behind : Line). codes "(" ∷ (right.0 ++ codes ")" ∷ behind)) end.0)))

-- the line of the row after the first bracket
abbrev origin_line : RowTokens → Line
origin_line r = origin_tokens r ++ (codes "(" ∷ (r.right ++ codes ")" ∷ []))

abbrev IsBehind : List ℕ → Line → Line → RowTokens → Type 0
IsBehind coefficient left tokens r = (r.coefficient ≡ coefficient) × (r.left ≡ left) × (tokens ≡ origin_line r)

behind_is : (coefficient : List ℕ) (left tokens : Line) (r : RowTokens) → origin_part coefficient left tokens ≡ Some r → IsBehind coefficient left tokens r
behind_is coefficient left [] r read = absurd (cc)
behind_is coefficient left (word ∷ tokens) r read =
    by_test (is (codes "lemma") word) _ _ (Some r) read
    (λ there read_on.
    let origin = number_part_is coefficient left true tokens r read_on in
    subst (IsBehind coefficient left (word ∷ tokens)) origin.2 (refl, refl, ap₂ (λ t ts. t ∷ ts) (is_word (codes "lemma") word there) origin.3))
    (λ absent read_on.
    let origin = number_part_is coefficient left false (word ∷ tokens) r read_on in subst (IsBehind coefficient left (word ∷ tokens)) origin.2 (refl, refl, origin.3))

parts_are : (line : Line) (r : RowTokens) → row_parts line ≡ Some r → line ≡ row_line r
parts_are [] r read = absurd (cc)
parts_are (word ∷ []) r read = absurd (cc)
parts_are (word ∷ coefficient ∷ tokens) r read =
    let found = cond_option (is (codes "row") word) (option_and_then (λ (left : Parts). origin_part coefficient left.0 left.1) (bracketed tokens)) r read in
    option_and_then_some (λ (left : Parts). origin_part coefficient left.0 left.1) (bracketed tokens) r found.1 (λ left there rest.
    let behind = behind_is coefficient left.0 left.1 r rest in
    let bracket : tokens ≡ codes "(" ∷ (r.left ++ codes ")" ∷ origin_line r) = bracketed_is tokens left there ∙ ap₂ (λ (l ts : Line). codes "(" ∷ (l ++ codes ")" ∷ ts)) (sym behind.1) behind.2 in
    ap₂ (λ w (ts : Line). w ∷ ts) (is_word (codes "row") word found.0) (ap₂ (λ (c : List ℕ) (ts : Line). c ∷ ts) (sym behind.0) bracket))

-- a row of a certificate of this format
abbrev pub IsRowOf : Format → RowTokens → Type 0
IsRowOf Plain r = IsPlainRow r
IsRowOf Lemmas r = IsTrue (is_row r)

-- the line of a row
pub row_is : (form : Format) (line : Line) (r : RowTokens) → row_tokens form line ≡ Some r → (line ≡ row_line r) × IsRowOf form r
row_is Plain line r read =
    option_and_then_some (λ s. cond (not s.lemma && is_row s) (Some s) None) (row_parts line) r read (λ s found kept.
    let known = cond_some (not s.lemma && is_row s) s r kept in
    let parts = and_parts (not s.lemma) (is_row s) known.0 in
    subst (λ (t : RowTokens). (line ≡ row_line t) × IsPlainRow t) known.1 (parts_are line s found, record { row = parts.1; generator = not_true s.lemma parts.0 }))
  where
    not_true : (b : Bool) → not b ≡ true → b ≡ false
    not_true true same = absurd (cc)
    not_true false same = refl
row_is Lemmas line r read =
    option_and_then_some (λ s. cond (is_row s) (Some s) None) (row_parts line) r read (λ s found kept.
    let known = cond_some (is_row s) s r kept in subst (λ (t : RowTokens). (line ≡ row_line t) × IsTrue (is_row t)) known.1 (parts_are line s found, known.0))
