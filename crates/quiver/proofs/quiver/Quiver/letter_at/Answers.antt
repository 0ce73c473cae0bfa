use Rattle.quiver.proofs.Prelude.{arith}
use Rattle.quiver.proofs.Fields.{letters_len, letter_at-field}
use Rattle.quiver.proofs.quiver.Quiver.letter_at.Goals as goal

pub index-requires : goal.index-requires
index-requires c = omega (arith, c.requires, c.from.ensures, letters_len c.self.inside c.args.self.now c.self.view_is c.self.invariant)

pub returns-clause-entry : goal.returns-clause-entry
returns-clause-entry c = letter_at-field c.self.inside c.args.self.now c.self.view_is c.self.invariant c.args.letter.0 c.index.result.now c.requires (rw (← c.from.ensures) c.index.ensures)
