-- What the proofs here take from std, from the crates below and from this crate's definitions, each name once.
pub use Rattle.std.proofs.Common.{of_z, rules, to_z, ℤ, ◌≡◌}
pub use Rattle.coef_int.specs.Range.{IsCoefficient}
