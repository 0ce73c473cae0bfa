-- The rows of a step.
use Rattle.std.proofs.Common.{ℤ, List, [], ◌∷◌, ◌++◌, get_or, map}
use Rattle.std.proofs.lemmas.List.Elements.{All-push, All-map}
use Rattle.std.specs.List.{All}
use Rattle.traced_rows.specs.declared.Row.{Row}
use Rattle.rule_reduce.specs.Steps.{multiplied_row}

-- what multiplying a row keeps is kept by the rows of a step
pub all-multiplied : (P : Row → Type 0) → ((by : ℤ) (row : Row) → P row → P (multiplied_row by row)) → (by : ℤ) (rows : List Row) (last : Row) → All P rows → P last → All P (map (multiplied_row by) rows ++ last ∷ [])
all-multiplied P kept by rows last each held = All-push P (map (multiplied_row by) rows) last (All-map P (multiplied_row by) rows (λ i row k. kept by (get_or rows i row) (each i row k))) held
