use Rattle.flow_io.proofs.Prelude.{◌≡◌, ◌+◌, drop, place_of, file_under}
use Rattle.flow_io.proofs.memory_shelf.place_in.Given as goal

-- the same is told of the name by the files that are left
abbrev pub invariant-loop-place : goal.invariant-loop-place
invariant-loop-place l = record {
  place : l.place + place_of (drop l.place l.files) l.name ≡ place_of l.files l.name;
  told : file_under (drop l.place l.files) l.name ≡ file_under l.files l.name;
}
