use Rattle.library_tests.proofs.Prelude.{values_told, read_values_are, letter_known, shift_kind, shift_steps, HasLetter}
use Rattle.library_tests.proofs.ShiftLaws.{reader}
use Rattle.library_tests.proofs.shifts.read_shifts.Goals as goal

pub returns-clause-exact : goal.returns-clause-exact
returns-clause-exact c =
    values_told (shift_kind c.args.quiver.now) (shift_steps c.args.quiver.now) (reader c.args.quiver.now) c.args.bytes.now c.read_blocks.result (rw c.shift_blocks.ensures at c.read_blocks.ensures)

pub returns-clause-letters : goal.returns-clause-letters
returns-clause-letters c =
    read_values_are (shift_kind c.args.quiver.now) (shift_steps c.args.quiver.now) (reader c.args.quiver.now) (HasLetter c.args.quiver.now) (λ t s _ _ says. letter_known c.args.quiver.now t.0 s.0 says.0)
    c.args.bytes.now c.read_blocks.result (rw c.shift_blocks.ensures at c.read_blocks.ensures)
