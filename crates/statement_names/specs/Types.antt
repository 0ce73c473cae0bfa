-- The types that definitions and proofs of the crate name. A type has a small name too where its variants are written after it.
pub use Rattle.statement_tokens.specs.declared.place.Spot.{Spot}
pub use Rattle.statement_syntax.specs.declared.tree.Factor.{Factor}
pub use Rattle.statement_syntax.specs.declared.tree.Mark.{Mark}
pub use Rattle.statement_syntax.specs.declared.tree.Mark.TheVariants.{Adjoint, Power}
pub use Rattle.statement_syntax.specs.declared.tree.Name.{Name}
pub use Rattle.statement_syntax.specs.declared.tree.Number.{Number}
pub use Rattle.statement_syntax.specs.declared.tree.Primary.{Primary, Identity, Bracket}
pub use Rattle.statement_syntax.specs.declared.tree.Statement.{Statement}
pub use Rattle.statement_syntax.specs.declared.tree.StatementKind.{StatementKind, StatementKind as statement}
pub use Rattle.statement_syntax.specs.declared.tree.Sum.{Sum, Sum', Row_of-Term, end_of-Term, more_of-Term, out-Sum, items-the_row-Term, out-roll-Sum}
pub use Rattle.statement_syntax.specs.declared.tree.Term.{Term, Term', Row_of-Factor, end_of-Factor, more_of-Factor, out-Term, items-the_row-Factor}
pub use Rattle.statement_syntax.specs.declared.tree.Term.{out-roll-Term}
pub use Rattle.word_core.specs.declared.letter.Letter.{Letter}
pub use Rattle.word_orders.specs.declared.any.OrderSpec.{OrderSpec}
pub use Rattle.word_orders.specs.declared.any.OrderSpec.TheVariants.{Degree, Weight, Block}
pub use Rattle.quiver.specs.declared.named.Named.{Named, Named as named}
pub use Rattle.abbreviations.specs.declared.written.Equation.{Equation}
pub use Rattle.adjoint_rules.specs.declared.parts.Shape.{Shape}
pub use Rattle.statement_tokens.specs.declared.fault.Fault.TheVariants.{Unknown, Double, TooMany, NotSquare, BadNumber}
pub use Rattle.statement_tokens.specs.declared.fault.Placed.{Placed}
pub use Rattle.statement_tokens.specs.Fault.{placed}
pub use Rattle.lists.specs.declared.stop.Stop.{Stop, Stop as stop}
pub use Rattle.statement_names.specs.declared.kinds.Kind.{Kind}
pub use Rattle.statement_names.specs.declared.kinds.Kind.TheVariants.{Object, Map}
pub use Rattle.statement_names.specs.declared.survey.Survey.{Survey}
