-- Words are written letter by letter, and only by the texts of their letters.
use Rattle.block_text.proofs.Prelude.{◌≡◌, ◌<◌, ◌+◌, ◌==◌, ℕ, false, List, [], ◌∷◌, ◌++◌, arith, refl, ap, ap₂, length, take, map, get_or, codes, ne_eqb, append_assoc, take_more, map-append, length-map, length-take-le, All-head, All-tail, is_negative, unsigned_abs, All, flat_map, join_with_byte, if◌then◌else◌, Poly, Term, IsOver, gap_text, factor_text, word_by, later_by, poly_by}

-- one more part after others
join_behind : (x : List ℕ) (xs : List (List ℕ)) (y : List ℕ) → join_with_byte 32 ((x ∷ xs) ++ y ∷ []) ≡ join_with_byte 32 (x ∷ xs) ++ (32 ∷ []) ++ y
join_behind x [] y = rw append_assoc refl
join_behind x (z ∷ xs) y = rw (join_behind z xs y) (simp append_assoc refl)

join_more : (xs : List (List ℕ)) (y : List ℕ) → join_with_byte 32 (xs ++ y ∷ []) ≡ join_with_byte 32 xs ++ gap_text (length xs) ++ y
join_more [] y = refl
join_more (x ∷ xs) y =
    let some : (length (x ∷ xs) == 0) ≡ false = ne_eqb (length (x ∷ xs)) 0 (λ e. omega (arith, e)) in
    rw some (join_behind x xs y)

word_more : (spell : ℕ → List ℕ) (w : List ℕ) (place a : ℕ) → place < length w → a ≡ get_or w place 0
    → word_by spell (take (place + 1) w) ≡ word_by spell (take place w) ++ gap_text place ++ spell a
word_more spell w place a within read =
    let split : take (place + 1) w ≡ take place w ++ get_or w place 0 ∷ [] = take_more w place 0 within in
    let count : length (map spell (take place w)) ≡ place = rw length-map (length-take-le place w (omega (arith, within))) in
    rw (split, ← read, map-append, join_more, count) refl

-- the blank and then the letter are appended to what is written
pub letter_put : (spell : ℕ → List ℕ) (w : List ℕ) (place a : ℕ) (front before with_gap after : List ℕ)
    → before ≡ front ++ word_by spell (take place w) → with_gap ≡ before ++ gap_text place → after ≡ with_gap ++ spell a
    → place < length w → a ≡ get_or w place 0 → after ≡ front ++ word_by spell (take (place + 1) w)
letter_put spell w place a front before with_gap after before_is gap_is after_is within read =
    rw (after_is, gap_is, before_is, word_more spell w place a within read) (simp append_assoc refl)

-- two ways to spell that agree on the letters write the same
module _ (count : ℕ) (one other : ℕ → List ℕ) (same : (a : ℕ) → a < count → one a ≡ other a) where
  letters_agree : (w : List ℕ) → IsOver count w → map one w ≡ map other w
  letters_agree [] over = refl
  letters_agree (a ∷ w) over = ap₂ (λ (t : List ℕ) (ts : List (List ℕ)). t ∷ ts) (same a (All-head (λ b. b < count) a w over)) (letters_agree w (All-tail (λ b. b < count) a w over))

  pub words_agree : (w : List ℕ) → IsOver count w → word_by one w ≡ word_by other w
  words_agree w over = ap (join_with_byte 32) (letters_agree w over)

  abbrev IsTermOver : Term → Type 0
  IsTermOver t = IsOver count t.1

  -- a term after its sign
  term_agrees : (sign : List ℕ) (t : Term) → IsTermOver t → sign ++ (factor_text (unsigned_abs t.0) ++ word_by one t.1) ≡ sign ++ (factor_text (unsigned_abs t.0) ++ word_by other t.1)
  term_agrees sign t over = ap (λ (w : List ℕ). sign ++ (factor_text (unsigned_abs t.0) ++ w)) (words_agree t.1 over)

  terms_agree : (p : Poly) → All IsTermOver p → flat_map (later_by one) p ≡ flat_map (later_by other) p
  terms_agree [] all = refl
  terms_agree (t ∷ p) all =
      ap₂ ◌++◌ (term_agrees (if is_negative t.0 then codes " - " else codes " + ") t (All-head IsTermOver t p all)) (terms_agree p (All-tail IsTermOver t p all))

  pub polys_agree : (p : Poly) → All IsTermOver p → poly_by one p ≡ poly_by other p
  polys_agree [] all = refl
  polys_agree (t ∷ p) all =
      ap₂ ◌++◌ (term_agrees (if is_negative t.0 then codes "- " else []) t (All-head IsTermOver t p all)) (terms_agree p (All-tail IsTermOver t p all))
