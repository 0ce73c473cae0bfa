use Rattle.cofactor_trace.proofs.Prelude.{◌≡◌, ℕ, ◌+◌, ◌<◌, ◌≤◌, ◌^◌, false, get_or, All}
use Rattle.cofactor_trace.proofs.NeededLaws.{IsMarked}
use Rattle.cofactor_trace.proofs.expansion.needed_numbers.Given as goal

abbrev pub invariant-loop-place : goal.invariant-loop-place
invariant-loop-place l = record {
  marked : IsMarked l.made l.target l.place l.named l.numbers.items;
  far : (k : ℕ) → 2 ^ 32 ≤ k + 1 → get_or l.named k false ≡ false;
  in_range : All (λ n. n < 2 ^ 32) l.numbers.items;
}
