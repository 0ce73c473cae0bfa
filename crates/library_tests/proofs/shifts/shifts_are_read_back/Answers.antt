use Rattle.library_tests.proofs.ShiftLaws as lemma
use Rattle.library_tests.proofs.shifts.shifts_are_read_back.Goals as goal

pub returns : goal.returns
returns c = lemma.shifts_are_read_back
