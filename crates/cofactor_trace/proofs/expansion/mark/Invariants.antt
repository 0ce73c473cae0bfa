use Rattle.cofactor_trace.proofs.Prelude.{◌≡◌, ℕ, ◌+◌, ◌<◌, ◌≤◌, ◌^◌, ◌||◌, false, drop, get_or, length, list_any, is_rule}
use Rattle.cofactor_trace.proofs.expansion.mark.Given as goal

-- what is marked so far, and what the rows that are left name
abbrev pub invariant-loop-row : goal.invariant-loop-row
invariant-loop-row l = record {
  marks : (place : ℕ) → place < length l.fn.named
      → get_or l.named place false || list_any (λ r. is_rule (place + 1) r.from) (drop l.row-index l.rows)
      ≡ get_or l.fn.named place false || list_any (λ r. is_rule (place + 1) r.from) l.rows;
  far : (place : ℕ) → 2 ^ 32 ≤ place + 1 → get_or l.named place false ≡ get_or l.fn.named place false;
}
