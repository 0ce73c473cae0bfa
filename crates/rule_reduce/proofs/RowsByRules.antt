-- Each row is a multiple of a rule.
use Rattle.std.proofs.Common.{◌≡◌, ℕ, zero, suc, ◌<◌, ◌≤◌, List, length, Some, arith}
use Rattle.std.proofs.lemmas.List.Elements.{All-nil}
use Rattle.std.proofs.lemmas.Option.{slice_get_within}
use Rattle.std.specs.List.{All}
use Rattle.traced_rows.specs.declared.Row.{Row}
use Rattle.rule_reduce.specs.Laws.{IsByRule, RowsAreByRules}
use Rattle.rule_reduce.specs.NormalForms.{start_of}
use Rattle.rule_reduce.specs.RuleLists.{rule_at}
use Rattle.rule_reduce.specs.Steps.{move_row, move_of}
use Rattle.rule_reduce.specs.declared.rule.Rule.{Rule}
use Rattle.rule_reduce.proofs.Rows.{all-multiplied}
use Rattle.rule_reduce.proofs.Runs.{reduction_keeps}

-- the number of a rule is that of a place
pub number_within : (rules : List Rule) (n : ℕ) (g : Rule) → rule_at rules n ≡ Some g → (0 < n) × (n ≤ length rules)
number_within rules zero g has = absurd (cc)
number_within rules (suc n) g has = let within = slice_get_within rules n g has in (omega arith, omega arith)

pub rows_are_by_rules : RowsAreByRules
rows_are_by_rules compare rules p steps s ends =
    (reduction_keeps (λ t. All (λ row. IsByRule (length rules) row.from) t.rows) compare rules
    (λ c g t chosen has before. all-multiplied (λ row. IsByRule (length rules) row.from) (λ by row held. held) (move_of c g).by t.rows (move_row (move_of c g)) before (number_within rules c.number g has))
    steps steps (start_of p) s ends (All-nil (λ (row : Row). IsByRule (length rules) row.from))).kept
