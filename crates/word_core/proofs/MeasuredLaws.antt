-- An order stays admissible where a number that adds up over the letters is compared first.
use Rattle.std.proofs.Common.{◌≡◌, ◌⊎◌, inl, inr, ◌<◌, ◌++◌, ◌+◌, ℕ, Bool, cond, List, [], ◌∷◌, refl, sym, ap, ap₂, ◌∙◌, arith}
use Rattle.std.proofs.lemmas.Cmp.{nat_cmp_total, on_total, then_total, ranked}
use Rattle.std.proofs.lemmas.List.Sums.{sum_by-append}
use Rattle.std.specs.List.{sum_by, count_by}
use Rattle.std.specs.Ordering.{nat_cmp, ordering_then}
use Rattle.std.specs.declared.cmp.Ordering.{Ordering}
use Rattle.std.specs.declared.cmp.Ordering.TheVariants.{Less, Equal, Greater}
use Rattle.word_core.specs.Canonical.{word_cmp, word_cmp_total}
use Rattle.word_core.proofs.Order.{word_cmp-same}
use Rattle.word_core.specs.Admissible.{Compare, IsAdmissible}
use Rattle.word_core.specs.Rank.{rank_of}
use Rattle.word_core.specs.Measured.{measured_cmp, weight_cmp, weight_rank, block_cmp, block_rank}
use Rattle.word_core.proofs.CanonicalLaws.{nat_cmp-shifted, word_cmp-around, word_cmp-least, word_cmp-ranked}

module _ (measure : List ℕ → ℕ) (adds : (u v : List ℕ) → measure (u ++ v) ≡ measure u + measure v) where
  abbrev measured : Compare
  measured = measured_cmp measure

  measured-same : (u v : List ℕ) → measured u v ≡ Equal → u ≡ v
  measured-same u v level = go (nat_cmp (measure u) (measure v)) level
    where
      go : (o : Ordering) → ordering_then o (word_cmp u v) ≡ Equal → u ≡ v
      go Less e = cc
      go Greater e = cc
      go Equal e = word_cmp-same u v e

  measured-least : (u : List ℕ) → (u ≡ []) ⊎ (measured [] u ≡ Less)
  measured-least u = go (word_cmp-least u) (nat_cmp (measure []) (measure u)) refl
    where
      none : measure [] ≡ 0
      none = omega (arith, adds [] [])

      go : (u ≡ []) ⊎ (word_cmp [] u ≡ Less) → (o : Ordering) → o ≡ nat_cmp (measure []) (measure u) → (u ≡ []) ⊎ (measured [] u ≡ Less)
      go (inl empty) o e = inl empty
      go (inr below) Less e = inr (ap (λ p. ordering_then p (word_cmp [] u)) (sym e))
      go (inr below) Equal e = inr (ap (λ p. ordering_then p (word_cmp [] u)) (sym e) ∙ below)
      go (inr below) Greater e = let negative : measure u < measure [] = ranked (measure []) (measure u) Greater e in absurd (omega (arith, none))

  measure-around : (l u r : List ℕ) → measure (l ++ (u ++ r)) ≡ measure l + (measure u + measure r)
  measure-around l u r = adds l (u ++ r) ∙ ap (λ n. measure l + n) (adds u r)

  measured-around : (l u v r : List ℕ) → measured (l ++ (u ++ r)) (l ++ (v ++ r)) ≡ measured u v
  measured-around l u v r =
      ap₂ ordering_then
      (ap₂ nat_cmp (measure-around l u r) (measure-around l v r) ∙ nat_cmp-shifted (measure l) (measure r) (measure u) (measure v))
      (word_cmp-around l u v r)

  measured-admissible : (letters : ℕ) → IsAdmissible letters measured (λ w. measure w ∷ rank_of letters w)
  measured-admissible letters = record {
    total = then_total (on_total measure nat_cmp_total) word_cmp_total;
    same = measured-same;
    least = measured-least;
    around = λ l u v r below. measured-around l u v r ∙ below;
    rank_short = λ u. omega arith;
    rank_length = λ u v. refl;
    ranked = λ u v u_over v_over. ap (ordering_then (nat_cmp (measure u) (measure v))) (word_cmp-ranked letters u v u_over v_over);
  }

-- by weights
pub weight_cmp-admissible : (weight : ℕ → ℕ) (letters : ℕ) → IsAdmissible letters (weight_cmp weight) (weight_rank weight letters)
weight_cmp-admissible weight letters = measured-admissible (sum_by weight) (sum_by-append weight) letters

-- by a block
pub block_cmp-admissible : (is_in_block : ℕ → Bool) (letters : ℕ) → IsAdmissible letters (block_cmp is_in_block) (block_rank is_in_block letters)
block_cmp-admissible is_in_block letters = measured-admissible (count_by is_in_block) (sum_by-append (λ a. cond (is_in_block a) 1 0)) letters
