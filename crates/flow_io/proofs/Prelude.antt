-- What the proofs here take from std, from the crates below and from this crate's definitions, each name once.
pub use Rattle.std.proofs.Common.{Bool, List, None, Option, Some, [], ap, append_assoc, arith, drop, false, if◌then◌else◌, inl, inr, length, length-drop, refl, rules, set, slice_get, slice_index, subst, suc, sym, take, true, vec_len, ℕ, ◌++◌, ◌+◌, ◌-◌, ◌<◌, ◌∙◌, ◌∷◌, ◌≡◌, ◌≤◌}
pub use Rattle.std.proofs.Math.Seq.{take-add}
pub use Rattle.std.proofs.lemmas.Grind.{common_steps}
pub use Rattle.std.proofs.lemmas.List.{drop-drop, take_all, with_items_is}
pub use Rattle.std.specs.Io.KnownBytes.{Appends, Consumes}
pub use Rattle.std.specs.Str.{bytes_eq}
pub use Rattle.flow_io.specs.Causes.{next_count}
pub use Rattle.flow_io.specs.Files.{Files, file_under, place_of}
pub use Rattle.flow_io.specs.MemoryShelf.{LoadFails, ShelfState, with_fault, with_load}
pub use Rattle.flow_io.specs.Told.{Holds}
