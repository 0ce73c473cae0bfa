-- Blocks of waiting ambiguities, and what is put among them.
use Rattle.std.specs.Prelude.{◌≡◌, ℕ, ◌+◌, ◌-◌, ◌<◌, ◌≤◌, false, List, [], ◌∷◌, ◌++◌, length, take, drop, slice_index_or, slice_set}
use Rattle.std.specs.List.{All, AllPairs, insert, remove, flat_map}
use Rattle.std.specs.List.Sorted.{IsPermutation}
use Rattle.std.specs.Ordering.{is_lt}
use Rattle.std.specs.declared.cmp.Ordering.TheVariants.{Less}
use Rattle.word_core.specs.Letters.{IsOver}
use Rattle.word_orders.specs.Admissible.{Compare}
use Rattle.ambiguities.specs.declared.waiting.Waiting.{Waiting}
use Rattle.ambiguities.specs.Order.{waiting_cmp}

-- The first one isn't above the second one.
abbrev pub IsUpTo : Compare → Waiting → Waiting → Type 0
IsUpTo compare v w = is_lt (waiting_cmp compare w v) ≡ false

-- the last one of a list, and another one where there is none
abbrev pub last_of : List Waiting → Waiting → Waiting
last_of items d = slice_index_or items (length items - 1) d

-- the ambiguities of all blocks
abbrev pub joined : List (List Waiting) → List Waiting
joined = flat_map (λ b. b)

-- the blocks with one more ambiguity in the block with this number, at this place
abbrev pub put_at : ℕ × ℕ → Waiting → List (List Waiting) → List (List Waiting)
put_at at w blocks = slice_set blocks at.0 (insert (slice_index_or blocks at.0 []) at.1 w)

-- the blocks without it
abbrev pub taken_out : ℕ × ℕ → List (List Waiting) → List (List Waiting)
taken_out at blocks = slice_set blocks at.0 (remove (slice_index_or blocks at.0 []) at.1)

-- the blocks without what was put at these places, one after another
abbrev pub restored : List (ℕ × ℕ) → List (List Waiting) → List (List Waiting)
restored [] blocks = blocks
restored (at ∷ places) blocks = taken_out at (restored places blocks)

-- It is inserted after what isn't above it and before what is.
pub record IsPut (compare : Compare) (from : ℕ) (w : Waiting) (old new : List (List Waiting)) (at : ℕ × ℕ) : Type 0 where
  pub reached : from ≤ at.0
  pub number : at.0 < length old
  pub place : at.1 ≤ length (slice_index_or old at.0 [])
  pub is : new ≡ put_at at w old
  pub block_before : (d : Waiting) → from < at.0 → IsUpTo compare (last_of (slice_index_or old (at.0 - 1) []) d) w
  pub block_above : (d : Waiting) → at.0 + 1 < length old → waiting_cmp compare w (last_of (slice_index_or old at.0 []) d) ≡ Less
  pub before : (d : Waiting) → 0 < at.1 → IsUpTo compare (slice_index_or (slice_index_or old at.0 []) (at.1 - 1) d) w
  pub above : (d : Waiting) → at.1 < length (slice_index_or old at.0 []) → waiting_cmp compare w (slice_index_or (slice_index_or old at.0 []) at.1 d) ≡ Less

-- The first blocks stay, and these ambiguities are inserted into the others, in order where those were in order before.
pub record IsFilled (letters : ℕ) (compare : Compare) (from : ℕ) (items : List Waiting) (old new : List (List Waiting)) : Type 0 where
  pub front : take from new ≡ take from old
  pub count : length new ≡ length old
  pub moved : IsPermutation (joined (drop from old) ++ items) (joined (drop from new))
  pub sorted : AllPairs (IsUpTo compare) (joined (drop from old)) → AllPairs (IsUpTo compare) (joined (drop from new))
  pub nonempty : All (λ b. 0 < length b) new
  pub over : All (All (λ w. IsOver letters w.word)) new
