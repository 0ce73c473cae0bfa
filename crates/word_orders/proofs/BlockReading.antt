-- What a block says of the letters, when one more letter is read.
use Rattle.word_orders.proofs.Prelude.{◌≡◌, ◌≢◌, ◌⊎◌, inl, inr, ◌<◌, ◌≤◌, ◌||◌, ℕ, zero, suc, Bool, true, false, List, [], ◌∷◌, ◌++◌, Some, None, length, get_or, set, replicate, nat_eq, nat_lt, nat_le, refl, sym, ap, ◌∙◌, arith, if◌then◌else◌, nat_tests, eqb_tells, leb_tells, get_or-set_at, get_or-set_other, length-set, length-replicate, list_any-append, Letter, OrderFault, RepeatedLetter, NoSuchLetter, letter_fault, block_fault, HasNoFault, Explains, is_listed, is_in, fault_in_block}
use Rattle.word_orders.proofs.FirstFault.{HasNoFault-nil, HasNoFault-more, Explains-first}

-- a table with nothing in it
pub get_or-replicate_default : {A : Type 0} (n k : ℕ) (d : A) → get_or (replicate n d) k d ≡ d
get_or-replicate_default zero k d = refl
get_or-replicate_default (suc n) zero d = refl
get_or-replicate_default (suc n) (suc k) d = get_or-replicate_default n k d

some_not_none : {A : Type 0} (x : A) → Some x ≡ None → ⊥
some_not_none x e = cc

-- a letter in which nothing is wrong is below the number, and is not repeated
pub letter_fault-none : (letters : ℕ) (repeated : Bool) (letter : Letter) → letter_fault letters repeated letter ≡ None → (letter.0 < letters) × (repeated ≡ false)
letter_fault-none letters repeated letter none = go (leb_tells letters letter.0) repeated none
  where
    tested : (b : Bool) (t : Bool) → nat_lt letter.0 letters ≡ t → letter_fault letters b letter ≡ None → (if t then (if b then Some (RepeatedLetter letter) else None) else Some (NoSuchLetter letter)) ≡ None
    tested b t is e = sym (ap (λ t. if t then (if b then Some (RepeatedLetter letter) else None) else Some (NoSuchLetter letter)) is) ∙ e

    go : ((nat_le letters letter.0 ≡ true) × (letters ≤ letter.0)) ⊎ ((nat_le letters letter.0 ≡ false) × (letter.0 < letters)) → (b : Bool) → letter_fault letters b letter ≡ None → (letter.0 < letters) × (b ≡ false)
    go (inl above) b e = absurd (some_not_none (NoSuchLetter letter) (tested b false (grind (arith, nat_tests)) e))
    go (inr below) true e = absurd (some_not_none (RepeatedLetter letter) (tested true true (grind (arith, nat_tests)) e))
    go (inr below) false e = (below.1, refl)

or-false : (b : Bool) → (b || false) ≡ b
or-false true = refl
or-false false = refl

or-true : (b : Bool) → (b || true) ≡ true
or-true true = refl
or-true false = refl

-- one more letter at the end
is_listed-more : (block : List Letter) (letter : Letter) (number : ℕ) → is_listed (block ++ (letter ∷ [])) number ≡ (is_listed block number || nat_eq letter.0 number)
is_listed-more block letter number =
    list_any-append (λ l. nat_eq l.0 number) block (letter ∷ []) ∙ ap (λ b. is_listed block number || b) (or-false (nat_eq letter.0 number))

-- the table takes the letter in
is_listed-put : (block : List Letter) (letter : Letter) (table : List Bool)
    → ((number : ℕ) → get_or table number false ≡ is_listed block number) → letter.0 < length table
    → (number : ℕ) → get_or (set table letter.0 true) number false ≡ is_listed (block ++ (letter ∷ [])) number
is_listed-put block letter table listed in_table number = go (eqb_tells letter.0 number) ∙ sym (is_listed-more block letter number)
  where
    go : ((nat_eq letter.0 number ≡ true) × (letter.0 ≡ number)) ⊎ ((nat_eq letter.0 number ≡ false) × (letter.0 ≢ number))
        → get_or (set table letter.0 true) number false ≡ (is_listed block number || nat_eq letter.0 number)
    go (inl same) =
        get_or-set_at table letter.0 number true false (sym same.1) in_table
        ∙ sym (or-true (is_listed block number))
        ∙ ap (λ b. is_listed block number || b) (sym same.0)
    go (inr other) =
        get_or-set_other table letter.0 number true false (λ e. other.1 (sym e))
        ∙ listed number
        ∙ sym (or-false (is_listed block number))
        ∙ ap (λ b. is_listed block number || b) (sym other.0)

-- the table has the letters that the block has, and nothing is wrong with the block
pub record ReadsBlock (letters : ℕ) (block : List Letter) (table : List Bool) : Type 0 where
  pub length : length table ≡ letters
  pub listed : (number : ℕ) → get_or table number false ≡ is_listed block number
  pub sound : HasNoFault (block_fault letters) block

pub ReadsBlock-empty : (letters : ℕ) → ReadsBlock letters [] (replicate letters false)
ReadsBlock-empty letters = record {
  length = length-replicate letters false;
  listed = λ number. get_or-replicate_default letters number false;
  sound = HasNoFault-nil (block_fault letters);
}

module _ (letters : ℕ) (block : List Letter) (table : List Bool) (reads : ReadsBlock letters block table) where
  -- the table finds in a letter what the block finds
  block_fault-in : (letter : Letter) → fault_in_block table letter ≡ block_fault letters block letter
  block_fault-in letter =
      ap (λ n. letter_fault n (is_in table letter.0) letter) reads.length
      ∙ ap (λ b. letter_fault letters b letter) (reads.listed letter.0)

  pub ReadsBlock-more : (letter : Letter) → fault_in_block table letter ≡ None → ReadsBlock letters (block ++ (letter ∷ [])) (set table letter.0 true)
  ReadsBlock-more letter none =
      let right = letter_fault-none (length table) (is_in table letter.0) letter none in
      record {
        length = length-set table letter.0 true ∙ reads.length;
        listed = is_listed-put block letter table reads.listed right.0;
        sound = HasNoFault-more (block_fault letters) block letter reads.sound (sym (block_fault-in letter) ∙ none);
      }

  pub ReadsBlock-fault : (letter : Letter) (after : List Letter) (fault : OrderFault) → fault_in_block table letter ≡ Some fault → Explains (block_fault letters) (block ++ (letter ∷ after)) fault
  ReadsBlock-fault letter after fault found = Explains-first (block_fault letters) (block ++ (letter ∷ after)) fault (record {
    before = block;
    item = letter;
    after = after;
    splits = refl;
    sound_before = reads.sound;
    is_fault = sym (block_fault-in letter) ∙ found;
  })
