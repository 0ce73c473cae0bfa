-- What a list of weights says of the letters, when one more entry is read.
use Rattle.word_orders.proofs.Prelude.{◌≡◌, ◌≢◌, ◌⊎◌, inl, inr, ◌<◌, ℕ, Bool, true, false, List, [], ◌∷◌, ◌++◌, Option, Some, None, length, map, is_some, get_or, set, replicate, nat_eq, ◌||◌, refl, sym, ap, ◌∙◌, if◌then◌else◌, eqb_tells, get_or-set_other, length-set, length-replicate, get_or-set_at, find-append, option_or, option_map, find, Letter, OrderFault, letter_fault, weight_fault, entry_fault, HasNoFault, Explains, fault_in, is_listed, listed_weight}
use Rattle.word_orders.proofs.BlockReading.{get_or-replicate_default, letter_fault-none}
use Rattle.word_orders.proofs.FirstFault.{HasNoFault-nil, HasNoFault-more, Explains-first}

-- a letter is listed exactly where it is given a weight
some_behind : (first : Bool) (entry : Letter × ℕ) (found : Option (Letter × ℕ)) (rest : Bool) → is_some (option_map (λ e. e.1) found) ≡ rest
    → is_some (option_map (λ e. e.1) (if first then Some entry else found)) ≡ (first || rest)
some_behind true entry found rest same = refl
some_behind false entry found rest same = same

is_some-listed_weight : (weights : List (Letter × ℕ)) (number : ℕ) → is_some (listed_weight weights number) ≡ is_listed (map (λ e. e.0) weights) number
is_some-listed_weight [] number = refl
is_some-listed_weight (entry ∷ weights) number = some_behind (nat_eq entry.0.0 number) entry (find (λ e. nat_eq e.0.0 number) weights) _ (is_some-listed_weight weights number)

-- an entry in which nothing is wrong has a letter in which nothing is wrong
option_or-nothing : {A : Type 0} (one other : Option A) → option_or one other ≡ None → one ≡ None
option_or-nothing None other none = refl
option_or-nothing (Some x) other none = none

weight_fault-none : (letters : ℕ) (repeated : Bool) (entry : Letter × ℕ) → weight_fault letters repeated entry ≡ None → (entry.0.0 < letters) × (repeated ≡ false)
weight_fault-none letters repeated entry none = letter_fault-none letters repeated entry.0 (option_or-nothing (letter_fault letters repeated entry.0) _ none)

-- one entry more at the end
map_option_or : (one other : Option (Letter × ℕ)) → option_map (λ e. e.1) (option_or one other) ≡ option_or (option_map (λ e. e.1) one) (option_map (λ e. e.1) other)
map_option_or None other = refl
map_option_or (Some e) other = refl

map_if : (b : Bool) (entry : Letter × ℕ) → option_map (λ e. e.1) (if b then Some entry else None) ≡ (if b then Some entry.1 else None)
map_if true entry = refl
map_if false entry = refl

listed_weight-more : (weights : List (Letter × ℕ)) (entry : Letter × ℕ) (number : ℕ) → listed_weight (weights ++ (entry ∷ [])) number ≡ option_or (listed_weight weights number) (if nat_eq entry.0.0 number then Some entry.1 else None)
listed_weight-more weights entry number =
    ap (option_map (λ e. e.1)) (find-append (λ e. nat_eq e.0.0 number) weights (entry ∷ []))
    ∙ map_option_or (find (λ e. nat_eq e.0.0 number) weights) _
    ∙ ap (option_or (listed_weight weights number)) (map_if (nat_eq entry.0.0 number) entry)

option_or-none : (o : Option ℕ) → option_or o None ≡ o
option_or-none None = refl
option_or-none (Some x) = refl

option_or-free : (o : Option ℕ) (other : Option ℕ) → is_some o ≡ false → option_or o other ≡ other
option_or-free None other free = refl
option_or-free (Some x) other free = absurd (cc)

-- the table takes the entry in
listed_weight-put : (weights : List (Letter × ℕ)) (entry : Letter × ℕ) (table : List (Option ℕ))
    → ((number : ℕ) → get_or table number None ≡ listed_weight weights number)
    → entry.0.0 < length table → is_some (get_or table entry.0.0 None) ≡ false
    → (number : ℕ) → get_or (set table entry.0.0 (Some entry.1)) number None ≡ listed_weight (weights ++ (entry ∷ [])) number
listed_weight-put weights entry table listed in_table free number = go (eqb_tells entry.0.0 number) ∙ sym (listed_weight-more weights entry number)
  where
    go : ((nat_eq entry.0.0 number ≡ true) × (entry.0.0 ≡ number)) ⊎ ((nat_eq entry.0.0 number ≡ false) × (entry.0.0 ≢ number))
        → get_or (set table entry.0.0 (Some entry.1)) number None ≡ option_or (listed_weight weights number) (if nat_eq entry.0.0 number then Some entry.1 else None)
    go (inl same) =
        let free_here = ap is_some (sym (listed number) ∙ ap (λ n. get_or table n None) (sym same.1)) ∙ free in
        get_or-set_at table entry.0.0 number (Some entry.1) None (sym same.1) in_table
        ∙ sym (option_or-free (listed_weight weights number) (Some entry.1) free_here)
        ∙ ap (λ b. option_or (listed_weight weights number) (if b then Some entry.1 else None)) (sym same.0)
    go (inr other) =
        get_or-set_other table entry.0.0 number (Some entry.1) None (λ e. other.1 (sym e))
        ∙ listed number
        ∙ sym (option_or-none (listed_weight weights number))
        ∙ ap (λ b. option_or (listed_weight weights number) (if b then Some entry.1 else None)) (sym other.0)

-- the table gives the letters what the list gives them, and nothing is wrong with the list
pub record ReadsWeights (letters : ℕ) (weights : List (Letter × ℕ)) (table : List (Option ℕ)) : Type 0 where
  pub length : length table ≡ letters
  pub listed : (number : ℕ) → get_or table number None ≡ listed_weight weights number
  pub sound : HasNoFault (entry_fault letters) weights

pub ReadsWeights-empty : (letters : ℕ) → ReadsWeights letters [] (replicate letters None)
ReadsWeights-empty letters = record {
  length = length-replicate letters None;
  listed = λ number. get_or-replicate_default letters number None;
  sound = HasNoFault-nil (entry_fault letters);
}

module _ (letters : ℕ) (weights : List (Letter × ℕ)) (table : List (Option ℕ)) (reads : ReadsWeights letters weights table) where
  -- the table finds in an entry what the list finds
  entry_fault-in : (entry : Letter × ℕ) → fault_in table entry ≡ entry_fault letters weights entry
  entry_fault-in entry =
      ap (λ n. weight_fault n (is_some (get_or table entry.0.0 None)) entry) reads.length
      ∙ ap (λ o. weight_fault letters (is_some o) entry) (reads.listed entry.0.0)
      ∙ ap (λ b. weight_fault letters b entry) (is_some-listed_weight weights entry.0.0)

  pub ReadsWeights-more : (entry : Letter × ℕ) → fault_in table entry ≡ None → ReadsWeights letters (weights ++ (entry ∷ [])) (set table entry.0.0 (Some entry.1))
  ReadsWeights-more entry none =
      let right = weight_fault-none (length table) (is_some (get_or table entry.0.0 None)) entry none in
      record {
        length = length-set table entry.0.0 (Some entry.1) ∙ reads.length;
        listed = listed_weight-put weights entry table reads.listed right.0 right.1;
        sound = HasNoFault-more (entry_fault letters) weights entry reads.sound (sym (entry_fault-in entry) ∙ none);
      }

  pub ReadsWeights-fault : (entry : Letter × ℕ) (after : List (Letter × ℕ)) (fault : OrderFault) → fault_in table entry ≡ Some fault → Explains (entry_fault letters) (weights ++ (entry ∷ after)) fault
  ReadsWeights-fault entry after fault found = Explains-first (entry_fault letters) (weights ++ (entry ∷ after)) fault (record {
    before = weights;
    item = entry;
    after = after;
    splits = refl;
    sound_before = reads.sound;
    is_fault = sym (entry_fault-in entry) ∙ found;
  })
