-- The canonical order of words is total, agrees with equality, and never puts a longer word below a shorter one.
use Rattle.std.proofs.Common.{◌≡◌, ◌⊎◌, inl, inr, ℕ, ◌<◌, ◌≤◌, List, length, refl, ap, ◌∙◌, arith}
use Rattle.std.proofs.lemmas.Bool.Decides.{nat_tests}
use Rattle.std.proofs.lemmas.Cmp.{ranked, tied_itself}
use Rattle.std.proofs.lemmas.Map.Lookups.{exact_bytes}
use Rattle.std.specs.Ordering.{nat_cmp, ordering_then, ordering_reverse}
use Rattle.std.specs.Cmp.Lexicographic.{slice_cmp}
use Rattle.std.specs.declared.cmp.Ordering.{Ordering}
use Rattle.std.specs.declared.cmp.Ordering.TheVariants.{Less, Equal, Greater}
use Rattle.word_core.specs.Canonical.{word_cmp, word_cmp_total}

-- agrees with equality
pub word_cmp-same : (u v : List ℕ) → word_cmp u v ≡ Equal → u ≡ v
word_cmp-same u v h = go (nat_cmp (length u) (length v)) h
  where
    go : (o : Ordering) → ordering_then o (slice_cmp nat_cmp u v) ≡ Equal → u ≡ v
    go Less e = cc
    go Greater e = cc
    go Equal e = exact_bytes u v e

pub word_cmp-itself : (u : List ℕ) → word_cmp u u ≡ Equal
word_cmp-itself u = tied_itself word_cmp_total u

-- turned round
pub word_cmp-turned : (u v : List ℕ) → word_cmp u v ≡ Less → word_cmp v u ≡ Greater
word_cmp-turned u v h = word_cmp_total.antisymm v u ∙ ap ordering_reverse h

pub word_cmp-turned_back : (u v : List ℕ) → word_cmp u v ≡ Greater → word_cmp v u ≡ Less
word_cmp-turned_back u v h = word_cmp_total.antisymm v u ∙ ap ordering_reverse h

-- transitive, upward and downward
pub word_cmp-less_trans : (u v w : List ℕ) → word_cmp u v ≡ Less → word_cmp v w ≡ Less → word_cmp u w ≡ Less
word_cmp-less_trans u v w h k = word_cmp_total.trans u v w h k

pub word_cmp-trans : (u v w : List ℕ) → word_cmp u v ≡ Greater → word_cmp v w ≡ Greater → word_cmp u w ≡ Greater
word_cmp-trans u v w h k = word_cmp-turned w u (word_cmp-less_trans w v u (word_cmp-turned_back v w k) (word_cmp-turned_back u v h))

-- of two words one is the other, or below it, or above it
pub word_cmp-cases : (u v : List ℕ) → (u ≡ v) ⊎ ((word_cmp u v ≡ Less) ⊎ (word_cmp v u ≡ Less))
word_cmp-cases u v = go (word_cmp u v) refl
  where
    go : (o : Ordering) → word_cmp u v ≡ o → (u ≡ v) ⊎ ((word_cmp u v ≡ Less) ⊎ (word_cmp v u ≡ Less))
    go Less e = inr (inl e)
    go Equal e = inl (word_cmp-same u v e)
    go Greater e = inr (inr (word_cmp-turned_back u v e))

-- lengths count first
pub word_cmp-shorter : (u v : List ℕ) → length u < length v → word_cmp u v ≡ Less
word_cmp-shorter u v shorter = grind (arith, nat_tests)

pub word_cmp-length : (u v : List ℕ) → word_cmp u v ≡ Less → length u ≤ length v
word_cmp-length u v below = go (nat_cmp (length u) (length v)) refl below
  where
    go : (o : Ordering) → o ≡ nat_cmp (length u) (length v) → ordering_then o (slice_cmp nat_cmp u v) ≡ Less → length u ≤ length v
    go Less e _ = let shorter : length u < length v = ranked (length u) (length v) Less e in omega arith
    go Equal e _ = let same : length u ≡ length v = ranked (length u) (length v) Equal e in omega arith
    go Greater e h = absurd (cc)
