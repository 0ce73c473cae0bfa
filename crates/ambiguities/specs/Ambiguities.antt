-- Ambiguities of rules: words in which two leading words share letters.
use Rattle.std.specs.Prelude.{◌≡◌, ◌≢◌, ℕ, List, [], ◌++◌, take, Some, unwrap_or}
use Rattle.std.specs.Option.{option_map}
use Rattle.word_core.specs.Occurrence.{OccursAt}
use Rattle.word_core.specs.Overlap.{OverlapsAt}
use Rattle.rule_reduce.specs.declared.rule.Rule.{Rule}
use Rattle.rule_reduce.specs.RuleLists.{rule_at}
use Rattle.ambiguities.specs.declared.ambiguity.Kind.{Kind}
use Rattle.ambiguities.specs.declared.ambiguity.Kind.TheVariants.{Overlap, Inclusion}
use Rattle.ambiguities.specs.declared.ambiguity.Ambiguity.{Ambiguity}

-- An overlap of the words p and q: the suffix of p from the place on is a prefix of q, and all of neither word.
-- An inclusion: q occurs in p at the place, and their rules differ.
abbrev pub MeetsAs : Kind → ℕ → ℕ → List ℕ → List ℕ → ℕ → Type 0
MeetsAs Overlap i j p q place = OverlapsAt p q place
MeetsAs Inclusion i j p q place = (i ≢ j) × OccursAt p q place

-- The leading words of the two rules meet at the place.
pub record IsAmbiguity (rules : List Rule) (a : Ambiguity) : Type 0 where
  pub first : Rule
  pub second : Rule
  pub first_numbered : rule_at rules a.i ≡ Some first
  pub second_numbered : rule_at rules a.j ≡ Some second
  pub meets : MeetsAs a.kind a.i a.j first.lead second.lead a.place

-- the leading word of the rule with this number, or the empty word where there is none
abbrev pub lead_at : List Rule → ℕ → List ℕ
lead_at rules number = unwrap_or (option_map (λ g. g.lead) (rule_at rules number)) []

-- of an overlap of p and q the letters of p before the place and then q, of an inclusion p
abbrev pub joined_word : Kind → List ℕ → List ℕ → ℕ → List ℕ
joined_word Overlap p q place = take place p ++ q
joined_word Inclusion p q place = p

-- the word in which both leading words occur
abbrev pub overlap_word_of : List Rule → Ambiguity → List ℕ
overlap_word_of rules a = joined_word a.kind (lead_at rules a.i) (lead_at rules a.j) a.place
