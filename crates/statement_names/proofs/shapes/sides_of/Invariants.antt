use Rattle.statement_names.proofs.Prelude.{◌≡◌, ℕ, ◌<◌, length, get_or, take, object_count, object_name, side_in}
use Rattle.statement_names.proofs.shapes.sides_of.Given as goal

abbrev pub invariant-loop-pair : goal.invariant-loop-pair
invariant-loop-pair l = record {
  size : length l.sides.items ≡ object_count l.quiver;
  given : (v : ℕ) → v < object_count l.quiver → get_or l.sides.items v 1 ≡ side_in (take l.pair-index l.pairs) (object_name l.quiver v);
}
