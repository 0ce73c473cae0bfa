use Rattle.library_tests.proofs.Prelude.{are_told, shift_kind, shift_steps}
use Rattle.library_tests.proofs.ShiftLaws.{reader}
use Rattle.library_tests.proofs.shifts.texts_are_told.Goals as goal

pub returns : goal.returns
returns c = λ ds. are_told (shift_kind ds) (shift_steps ds) (reader ds)
