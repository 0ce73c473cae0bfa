-- What the proofs here take from std, from the crates below and from this crate's definitions, each name once.
pub use Rattle.std.proofs.Common.{IfOk, List, [], ap, arith, drop, get_or, length, min, subst, sym, take, ℕ, ◌%◌, ◌*◌, ◌++◌, ◌+◌, ◌-◌, ◌/◌, ◌<◌, ◌∙◌, ◌∷◌, ◌≡◌, ◌≤◌}
pub use Rattle.std.proofs.Math.Nat.{div-add-mod', le-mul_of_pos_right, mul-add, mul_comm}
pub use Rattle.std.proofs.lemmas.List.{take-append-drop, take_more}
pub use Rattle.std.proofs.lemmas.Nat.{le-div}
pub use Rattle.std.specs.List.{AllZip}
