-- Both leading words occur in the overlap word.
use Rattle.std.proofs.Common.{◌≡◌, ℕ, ◌+◌, ◌≤◌, List, [], ◌++◌, length, take, drop, Some, refl, sym, ap, ap₂, ◌∙◌, subst, arith}
use Rattle.std.proofs.lemmas.List.{append-nil, append_assoc, take_at}
use Rattle.std.proofs.lemmas.Option.{same_Some}
use Rattle.word_core.proofs.Places.{OccursAt-length}
use Rattle.word_core.specs.Occurrence.{OccursAt}
use Rattle.word_core.specs.Overlap.{OverlapsAt}
use Rattle.rule_reduce.proofs.WordsKept.{split_at}
use Rattle.rule_reduce.specs.RuleLists.{rule_at}
use Rattle.rule_reduce.specs.declared.rule.Rule.{Rule}
use Rattle.ambiguities.specs.Ambiguities.{MeetsAs, IsAmbiguity, lead_at, joined_word, overlap_word_of}
use Rattle.ambiguities.specs.SPolynomials.{leading_at, first_row, second_row}
use Rattle.ambiguities.specs.declared.ambiguity.Ambiguity.{Ambiguity}
use Rattle.ambiguities.specs.declared.ambiguity.Kind.{Kind}
use Rattle.ambiguities.specs.declared.ambiguity.Kind.TheVariants.{Overlap, Inclusion}

pub record HasBoth (w p q : List ℕ) (place : ℕ) : Type 0 where
  pub first : OccursAt w p 0
  pub second : OccursAt w q place

-- the overlap ends as the second word does
overlapped : (p q : List ℕ) (place : ℕ) → OverlapsAt p q place → HasBoth (take place p ++ q) p q place
overlapped p q place at =
    let front : take place p ≡ at.before = ap (take place) at.left_splits ∙ take_at at.before at.shared place at.at_place in
    let whole : take place p ++ q ≡ p ++ at.after = ap₂ ◌++◌ front at.right_splits ∙ sym (append_assoc at.before at.shared at.after) ∙ ap (λ u. u ++ at.after) (sym at.left_splits) in
    record {
      first = record { before = []; after = at.after; splits = whole; at_place = refl };
      second = record { before = take place p; after = []; splits = ap (λ u. take place p ++ u) (sym (append-nil q)); at_place = ap length front ∙ at.at_place };
    }

joined : (kind : Kind) (i j : ℕ) (p q : List ℕ) (place : ℕ) → MeetsAs kind i j p q place → HasBoth (joined_word kind p q place) p q place
joined Overlap i j p q place meets = overlapped p q place meets
joined Inclusion i j p q place meets = record { first = record { before = []; after = []; splits = sym (append-nil p); at_place = refl }; second = meets.1 }

-- of the rules with the numbers
pub lead_at-is : (rules : List Rule) (n : ℕ) (g : Rule) → rule_at rules n ≡ Some g → lead_at rules n ≡ g.lead
lead_at-is rules n g is = rw is refl

pub leading_at-is : (rules : List Rule) (n : ℕ) (g : Rule) → rule_at rules n ≡ Some g → leading_at rules n ≡ g.leading
leading_at-is rules n g is = rw is refl

module _ (rules : List Rule) (a : Ambiguity) (is : IsAmbiguity rules a) where
  pub overlap_word-is : overlap_word_of rules a ≡ joined_word a.kind is.first.lead is.second.lead a.place
  overlap_word-is = ap₂ (λ p q. joined_word a.kind p q a.place) (lead_at-is rules a.i is.first is.first_numbered) (lead_at-is rules a.j is.second is.second_numbered)

  pub both : HasBoth (overlap_word_of rules a) is.first.lead is.second.lead a.place
  both = subst (λ w. HasBoth w is.first.lead is.second.lead a.place) (sym overlap_word-is) (joined a.kind a.i a.j is.first.lead is.second.lead a.place is.meets)

  -- the overlap word is what is before the leading word in a row, the leading word, and what follows it
  pub first_splits : overlap_word_of rules a ≡ (first_row rules a).left ++ (is.first.lead ++ (first_row rules a).right)
  first_splits =
      let behind : 0 + length is.first.lead ≡ length (lead_at rules a.i) = omega (arith, ap length (lead_at-is rules a.i is.first is.first_numbered)) in
      split_at (overlap_word_of rules a) is.first.lead 0 both.first ∙ ap (λ n. is.first.lead ++ drop n (overlap_word_of rules a)) behind

  pub second_splits : overlap_word_of rules a ≡ (second_row rules a).left ++ (is.second.lead ++ (second_row rules a).right)
  second_splits =
      split_at (overlap_word_of rules a) is.second.lead a.place both.second
      ∙ ap (λ q. take a.place (overlap_word_of rules a) ++ (is.second.lead ++ drop (a.place + length q) (overlap_word_of rules a))) (sym (lead_at-is rules a.j is.second is.second_numbered))

  -- the first leading word ends inside the overlap word
  pub first_fits : (g : Rule) → rule_at rules a.i ≡ Some g → (word : List ℕ) → word ≡ overlap_word_of rules a → length g.lead ≤ length word
  first_fits g numbered word word_is =
      let same : is.first ≡ g = same_Some is.first g (sym is.first_numbered ∙ numbered) in
      let fits = OccursAt-length (overlap_word_of rules a) is.first.lead 0 both.first in
      rw word_is (subst (λ (f : Rule). length f.lead ≤ length (overlap_word_of rules a)) same (omega (arith, fits)))

  -- the second leading word ends inside the overlap word
  pub second_fits : (h : Rule) → rule_at rules a.j ≡ Some h → (word : List ℕ) → word ≡ overlap_word_of rules a → a.place + length h.lead ≤ length word
  second_fits h numbered word word_is =
      let same : is.second ≡ h = same_Some is.second h (sym is.second_numbered ∙ numbered) in
      let fits = OccursAt-length (overlap_word_of rules a) is.second.lead a.place both.second in
      rw word_is (subst (λ (f : Rule). a.place + length f.lead ≤ length (overlap_word_of rules a)) same fits)
