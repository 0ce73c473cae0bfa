pub use Rattle.definitions.specs.Poly
pub use Rattle.word_core.specs.Letters
pub use Rattle.word_orders.specs.Admissible
pub use Rattle.nc_polynomial.specs.Content
pub use Rattle.cofactor_trace.specs.Needed
pub use Rattle.rule_reduce.specs.RuleLists
pub mod Making
pub mod Records
