-- The lines of letters that are called monic or epic, and of cancellations: what is read of one, and how one is read.
use Rattle.cancellation_text.proofs.Prelude.{◌≡◌, ℕ, ◌&&◌, List, [], ◌∷◌, Some, None, IsTrue, if◌then◌else◌, refl, ap, ap₂, subst, codes, option_map, and_parts, option_and_then_some, Side, Left, Right, is_number, Line, is, two_tokens, is_word, by_test, option_map_some, cond_option, is_value, CalledTokens, CancelTokens, cancel, called_word, side_word, called_line, cancel_line, is_map_letter, IsItem, called_side, side_of, called_of, called_pair, called_tokens, cancel_by, cancel_pair, cancel_tokens}

abbrev Pair : Type 0
Pair = List ℕ × List ℕ

two_are : (line : Line) (pair : Pair) → two_tokens line ≡ Some pair → line ≡ pair.0 ∷ pair.1 ∷ []
two_are [] pair read = absurd (cc)
two_are (a ∷ []) pair read = absurd (cc)
two_are (a ∷ b ∷ []) pair read = let same : (a, b) ≡ pair = cc in subst (λ (p : Pair). a ∷ b ∷ [] ≡ p.0 ∷ p.1 ∷ []) same refl
two_are (a ∷ b ∷ c ∷ line) pair read = absurd (cc)

-- one of two words, by the side that it stands for
side_is : (word_of : Side → List ℕ) (word : List ℕ) (side : Side) → (if is (word_of Left) word then Some Left else if is (word_of Right) word then Some Right else None) ≡ Some side → word ≡ word_of side
side_is word_of word side read =
    by_test (is (word_of Left) word) _ _ (Some side) read
    (λ there made. let same : Left ≡ side = cc in subst (λ (s : Side). word ≡ word_of s) same (is_word (word_of Left) word there))
    (λ absent read_on. by_test (is (word_of Right) word) _ _ (Some side) read_on
    (λ there made. let same : Right ≡ side = cc in subst (λ (s : Side). word ≡ word_of s) same (is_word (word_of Right) word there))
    (λ none made. absurd (cc)))

-- letters that are called monic or epic
pub record IsCalled (line : Line) (c : CalledTokens) : Type 0 where
  pub line_is : line ≡ called_line c
  pub letter : IsTrue (is_map_letter c.letter)

pub called_is : (line : Line) (c : CalledTokens) → called_tokens line ≡ Some c → IsCalled line c
called_is line c read =
    option_and_then_some called_pair (two_tokens line) c read (λ pair two kept.
    let found = cond_option (is_map_letter pair.1) (option_map (called_of pair.1) (called_side pair.0)) c kept in
    option_map_some (called_of pair.1) (called_side pair.0) c found.1 (λ side word same.
    let words : pair.0 ∷ pair.1 ∷ [] ≡ called_word side ∷ pair.1 ∷ [] = ap (λ w. w ∷ pair.1 ∷ []) (side_is called_word pair.0 side word) in
    let line_is : line ≡ called_word side ∷ pair.1 ∷ [] = rw (two_are line pair two) words in
    subst (IsCalled line) same (record { line_is = line_is; letter = found.0 })))

called_read_by : (side : Side) (letter : List ℕ) → IsTrue (is_map_letter letter) → called_tokens (called_word side ∷ letter ∷ []) ≡ Some (called_of letter side)
called_read_by Left letter known = rw known refl
called_read_by Right letter known = rw known refl

pub called_read : (c : CalledTokens) → IsTrue (is_map_letter c.letter) → called_tokens (called_line c) ≡ Some c
called_read c known = called_read_by c.side c.letter known

-- cancellations
pub record IsCancel (n : ℕ) (line : Line) (c : CancelTokens) : Type 0 where
  pub line_is : line ≡ cancel_line c
  pub is_item : IsItem n (cancel c)

pub cancel_is : (n : ℕ) (line : Line) (c : CancelTokens) → cancel_tokens n line ≡ Some c → IsCancel n line c
cancel_is n [] c read = absurd (cc)
cancel_is n (word ∷ []) c read = absurd (cc)
cancel_is n (word ∷ number ∷ []) c read = absurd (cc)
cancel_is n (word ∷ number ∷ letter ∷ tokens) c read =
    let front = cond_option (is (codes "cancel") word && (is_value n number && is_map_letter letter)) _ c read in
    let words = and_parts (is (codes "cancel") word) (is_value n number && is_map_letter letter) front.0 in
    let parts = and_parts (is_value n number) (is_map_letter letter) words.1 in
    option_and_then_some (cancel_pair number letter) (two_tokens tokens) c front.1 (λ pair two kept.
    let found = cond_option (is_number pair.1) (option_map (cancel_by number letter pair.1) (side_of pair.0)) c kept in
    option_map_some (cancel_by number letter pair.1) (side_of pair.0) c found.1 (λ side there same.
    let behind : tokens ≡ side_word side ∷ pair.1 ∷ [] = rw (two_are tokens pair two) (ap (λ w. w ∷ pair.1 ∷ []) (side_is side_word pair.0 side there)) in
    subst (IsCancel n (word ∷ number ∷ letter ∷ tokens)) same (record {
      line_is = ap₂ (λ w ts. w ∷ number ∷ letter ∷ ts) (is_word (codes "cancel") word words.0) behind;
      is_item = (parts.0, parts.1, found.0);
    })))

cancel_read_by : (n : ℕ) (number letter item : List ℕ) (side : Side) → IsTrue (is_value n number) → IsTrue (is_map_letter letter) → IsTrue (is_number item)
    → cancel_tokens n (codes "cancel" ∷ number ∷ letter ∷ side_word side ∷ item ∷ []) ≡ Some (cancel_by number letter item side)
cancel_read_by n number letter item Left next known digits = rw (next, known, digits) refl
cancel_read_by n number letter item Right next known digits = rw (next, known, digits) refl

pub cancel_read : (n : ℕ) (c : CancelTokens) → IsItem n (cancel c) → cancel_tokens n (cancel_line c) ≡ Some c
cancel_read n c is = cancel_read_by n c.number c.letter c.item c.side is.0 is.1 is.2
