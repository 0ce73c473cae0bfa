-- What the proofs here take from std, from the crates below and from this crate's definitions, each name once.
pub use Rattle.std.proofs.Common.{ap, arith, of_z, pos, rules, subst, suc, sym, to_z, ℕ, ◌<ℤ◌, ◌<◌, ◌^◌, ◌∙◌, ◌≡◌}
pub use Rattle.std.proofs.lemmas.Int.{ints}
pub use Rattle.std.proofs.lemmas.Nat.Gcd.{IsGcd-from_mod, IsGcd-from_zero}
pub use Rattle.std.specs.Int.{IsGcd}
pub use Rattle.std.specs.Int.RustNames.{unsigned_abs}
pub use Rattle.coef_int.specs.Divisor.{gcd_within}
