-- The leading words of rules, sorted letter by letter.
use Rattle.std.specs.Prelude.{◌≡◌, ◌≢◌, ℕ, suc, true, false, nat_lt, List, [], ◌∷◌, drop, Some}
use Rattle.std.specs.Cmp.Lexicographic.{slice_cmp}
use Rattle.std.specs.List.Sorted.{IsPartitionPoint}
use Rattle.std.specs.Option.{option_map}
use Rattle.std.specs.Ordering.{is_lt, nat_cmp}
use Rattle.rule_reduce.specs.declared.rule.Rule.{Rule}
use Rattle.rule_reduce.specs.RuleLists.{rule_at}
use Rattle.ambiguities.specs.Listed.{ListsExactly}
use Rattle.closed_checker.specs.declared.table.Lead.{Lead}

-- it is the leading word of the rule with the number
abbrev pub IsLeadOf : List Rule → Lead → Type 0
IsLeadOf rules lead = option_map (λ g. g.lead) (rule_at rules lead.number) ≡ Some lead.letters

-- the second word isn't below the first letter by letter, and they are of two rules
abbrev pub StandsBefore : Lead → Lead → Type 0
StandsBefore first second = (is_lt (slice_cmp nat_cmp second.letters first.letters) ≡ false) × (first.number ≢ second.number)

-- The table has the leading words of all rules, each once, sorted letter by letter.
abbrev pub IsTableOf : List Rule → List Lead → Type 0
IsTableOf rules table = ListsExactly StandsBefore (IsLeadOf rules) table

-- one more than the first letter, and 0 of the empty word
abbrev pub rank_of : List ℕ → ℕ
rank_of [] = 0
rank_of (letter ∷ letters) = suc letter

-- that of what follows the first letters, as many as the depth says
abbrev pub rank_at : ℕ → List ℕ → ℕ
rank_at depth letters = rank_of (drop depth letters)

-- so many of the words, the first ones, have a rank below the bound at the depth, and no others
abbrev pub IsRankPoint : ℕ → ℕ → List Lead → ℕ → Type 0
IsRankPoint depth bound = IsPartitionPoint (λ l. nat_lt (rank_at depth l.letters) bound ≡ true) (λ l. nat_lt (rank_at depth l.letters) bound ≡ false)
