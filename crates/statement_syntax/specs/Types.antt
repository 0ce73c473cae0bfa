-- The types that the code declares, and those of tokens, with the variants that are named without their type.
pub use Rattle.statement_tokens.specs.declared.place.Spot.{Spot}
pub use Rattle.statement_tokens.specs.declared.token.Token.{Token}
pub use Rattle.statement_tokens.specs.declared.token.TokenKind.{TokenKind}
pub use Rattle.statement_tokens.specs.declared.language.Language.{Language}
pub use Rattle.statement_tokens.specs.declared.language.Language.TheVariants.{First, Second}
pub use Rattle.statement_tokens.specs.declared.scan.Item.{Item}
pub use Rattle.statement_tokens.specs.declared.fault.Fault.{Fault}
pub use Rattle.statement_tokens.specs.declared.fault.Fault.TheVariants.{BadToken, Expected, LiteralTooLarge, TooDeep}
pub use Rattle.statement_tokens.specs.declared.fault.Placed.{Placed}
pub use Rattle.lists.specs.declared.stop.Stop.{Stop, Stop as stop}
pub use Rattle.statement_tokens.specs.declared.scanner.Scanner.{Scanner}
pub use Rattle.statement_syntax.specs.declared.tree.Name.{Name}
pub use Rattle.statement_syntax.specs.declared.tree.Number.{Number}
pub use Rattle.statement_syntax.specs.declared.tree.Mark.{Mark}
pub use Rattle.statement_syntax.specs.declared.tree.Mark.TheVariants.{Adjoint, Power}
pub use Rattle.statement_syntax.specs.declared.tree.Sum.{Sum, roll-Sum, out-Sum, out-roll-Sum}
pub use Rattle.statement_syntax.specs.declared.tree.Term.{Term, roll-Term, out-Term, out-roll-Term}
pub use Rattle.statement_syntax.specs.declared.tree.Factor.{Factor, roll-Factor, out-Factor}
pub use Rattle.statement_syntax.specs.declared.tree.Primary.{Primary, Letter, Identity, Bracket}
pub use Rattle.statement_syntax.specs.declared.tree.Statement.{Statement}
pub use Rattle.statement_syntax.specs.declared.tree.StatementKind.{StatementKind}
pub use Rattle.statement_syntax.specs.declared.expression.Head.{Head}
pub use Rattle.statement_syntax.specs.declared.expression.OpenProduct.{OpenProduct}
pub use Rattle.statement_syntax.specs.declared.expression.Part.{Part}
pub use Rattle.statement_syntax.specs.declared.expression.Part.TheVariants.{Nothing, Scaled, Product}
pub use Rattle.statement_syntax.specs.declared.expression.Focus.{Focus}
pub use Rattle.statement_syntax.specs.declared.expression.Focus.TheVariants.{Outside}
pub use Rattle.statement_syntax.specs.declared.expression.Level.{Level}
pub use Rattle.statement_syntax.specs.declared.expression.Reading.{Reading}
pub use Rattle.statement_syntax.specs.declared.line.ListWord.{ListWord}
pub use Rattle.statement_syntax.specs.declared.line.ListWord.TheVariants.{Object, Solve, Eliminate}
pub use Rattle.statement_syntax.specs.declared.line.SidesWord.{SidesWord}
pub use Rattle.statement_syntax.specs.declared.line.SidesWord.TheVariants.{Assume, Claim}
pub use Rattle.statement_syntax.specs.declared.line.PairWord.{PairWord}
pub use Rattle.statement_syntax.specs.declared.line.PairWord.TheVariants.{Pinv, Inverse, Inner}
pub use Rattle.statement_syntax.specs.declared.line.Opening.{Opening}
pub use Rattle.statement_syntax.specs.declared.line.MapRest.{MapRest}
pub use Rattle.statement_syntax.specs.declared.line.Pairs.{Pairs}
pub use Rattle.statement_syntax.specs.declared.line.Line.{Line}
pub use Rattle.statement_syntax.specs.declared.read.Progress.{Progress}
pub use Rattle.statement_syntax.specs.declared.fault.SyntaxFault.{SyntaxFault}
