-- The types that the code declares, with the variants that are named without their type.
pub use Rattle.statement_tokens.specs.declared.place.Spot.{Spot}
pub use Rattle.statement_tokens.specs.declared.token.Token.{Token}
pub use Rattle.statement_tokens.specs.declared.token.TokenKind.{TokenKind}
pub use Rattle.statement_tokens.specs.declared.language.Language.{Language}
pub use Rattle.statement_tokens.specs.declared.language.Language.TheVariants.{First, Second}
pub use Rattle.statement_tokens.specs.declared.scan.Item.{Item}
pub use Rattle.statement_tokens.specs.declared.scan.Class.{Class}
pub use Rattle.statement_tokens.specs.declared.fault.Fault.{Fault}
pub use Rattle.statement_tokens.specs.declared.fault.Fault.TheVariants.{BadToken, LiteralTooLarge}
pub use Rattle.statement_tokens.specs.declared.fault.Placed.{Placed}
pub use Rattle.lists.specs.declared.stop.Stop.{Stop, Stop as stop}
pub use Rattle.statement_tokens.specs.declared.scanner.Scanner.{Scanner}
