-- The types that definitions and proofs of the crate name. A type has a small name too where its variants are written after it.
pub use Rattle.statement_tokens.specs.declared.place.Spot.{Spot}
pub use Rattle.statement_tokens.specs.declared.fault.Placed.{Placed}
pub use Rattle.statement_syntax.specs.declared.tree.Factor.{Factor}
pub use Rattle.statement_syntax.specs.declared.tree.Mark.{Mark}
pub use Rattle.statement_syntax.specs.declared.tree.Mark.TheVariants.{Adjoint, Power}
pub use Rattle.statement_syntax.specs.declared.tree.Number.{Number}
pub use Rattle.statement_syntax.specs.declared.tree.Primary.{Primary, Identity, Bracket}
pub use Rattle.statement_syntax.specs.declared.tree.Statement.{Statement}
pub use Rattle.statement_syntax.specs.declared.tree.StatementKind.{StatementKind, StatementKind as statement}
pub use Rattle.statement_syntax.specs.declared.tree.Sum.{Sum, Sum', Row_of-Term, end_of-Term, more_of-Term, out-roll-Sum}
pub use Rattle.statement_syntax.specs.declared.tree.Term.{Term, Term', Row_of-Factor, end_of-Factor, more_of-Factor, out-roll-Term}
pub use Rattle.quiver.specs.declared.named.Named.{Named, Named as named}
pub use Rattle.quiver.specs.declared.named.Sig.{Sig}
pub use Rattle.nc_polynomial.specs.declared.fault.PolyFault.{PolyFault, PolyFault as polynomial}
pub use Rattle.abbreviations.specs.declared.written.Equation.{Equation}
pub use Rattle.expressions.specs.declared.fault.SignatureFault.{SignatureFault}
pub use Rattle.adjoint_rules.specs.declared.parts.Parts.{Parts}
pub use Rattle.adjoint_rules.specs.declared.problem.Problem.{Problem}
pub use Rattle.lists.specs.declared.stop.Stop.{Stop, Stop as stop}
pub use Rattle.signature_typing.specs.declared.fault.TypeFault.{TypeFault}
pub use Rattle.signature_typing.specs.declared.fault.TypeFault.TheVariants.{Fault, Memory}
