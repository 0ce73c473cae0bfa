-- The keys by which ambiguities are sorted.
use Rattle.std.specs.Prelude.{ℕ, ◌+◌, ◌*◌, List, length, slice_index_or}
use Rattle.std.specs.Ordering.{nat_cmp, then_cmp, on}
use Rattle.std.specs.declared.cmp.Ordering.{Ordering}
use Rattle.word_core.specs.Canonical.{word_cmp}
use Rattle.rule_reduce.specs.declared.rule.Rule.{Rule}
use Rattle.ambiguities.specs.declared.ambiguity.Ambiguity.{Ambiguity}
use Rattle.ambiguities.specs.Ambiguities.{overlap_word_of}
use Rattle.ambiguities.specs.declared.key.Key.{Key}
use Rattle.ambiguities.specs.Order.{waiting_cmp, waiting_of}

-- the first four letters, each below 2 ^ 16, as one number, with 0 for those that the word lacks
abbrev pub front_of : List ℕ → ℕ
front_of w = (slice_index_or w 0 0 * 65536 + slice_index_or w 1 0) * 4294967296 + (slice_index_or w 2 0 * 65536 + slice_index_or w 3 0)

-- the ambiguity with its overlap word, the number of that word which is compared first, and the number of its first letters
abbrev pub key_of : (List ℕ → ℕ) → List Rule → Ambiguity → Key
key_of measure rules a = record { measure = measure (overlap_word_of rules a); front = front_of (overlap_word_of rules a); waiting = waiting_of rules a }

-- by these numbers and the word's length between them, then by the word canonically, then as the ambiguities
abbrev pub key_cmp : Key → Key → Ordering
key_cmp = then_cmp (then_cmp (then_cmp (on (λ k. k.measure) nat_cmp) (on (λ k. length k.waiting.word) nat_cmp)) (on (λ k. k.front) nat_cmp))
    (on (λ k. k.waiting) (waiting_cmp word_cmp))
