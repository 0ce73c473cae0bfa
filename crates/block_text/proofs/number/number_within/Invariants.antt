use Rattle.block_text.proofs.Prelude.{◌≡◌, drop, digits_value, digits_value_after}
use Rattle.block_text.proofs.number.number_within.Given as goal

-- what the digits that are left make of the value
abbrev pub invariant-loop-byte : goal.invariant-loop-byte
invariant-loop-byte l = digits_value_after 10 l.value (drop l.byte-index l.digits) ≡ digits_value 10 l.digits
