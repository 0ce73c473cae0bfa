-- The program's values as the definitions see them.
use Rattle.block_text.specs.declared.letter.Spelled as code_letter
use Rattle.block_text.specs.Letters.{Spelled}

abbrev pub spelled : code_letter.Spelled → Spelled
spelled s = record { name = s.name.now; identity = s.identity; adjoint = s.adjoint }
