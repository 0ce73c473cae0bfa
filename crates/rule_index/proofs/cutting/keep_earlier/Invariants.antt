use Rattle.rule_index.proofs.Prelude.{◌≡◌, ℕ, ◌<◌, ◌≤◌, length, get_or, None, earlier}
use Rattle.rule_index.proofs.cutting.keep_earlier.Given as goal

-- the places so far are kept where they are earlier, and the others as they were
abbrev pub invariant-loop-node : goal.invariant-loop-node
invariant-loop-node l = record {
  len : length l.leasts ≡ length l.initial.leasts;
  rest : (k : ℕ) → l.node ≤ k → get_or l.leasts k None ≡ get_or l.initial.leasts k None;
  each : (k : ℕ) → k < l.node → get_or l.leasts k None ≡ earlier l.count (get_or l.initial.leasts k None);
}
