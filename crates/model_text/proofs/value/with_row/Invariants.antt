use Rattle.model_text.proofs.Prelude.{◌≡◌, true, length, list_all, is_number, tokens_of, after, values_below}
use Rattle.model_text.proofs.value.with_row.Given as goal

-- the values so far, before those that are left
abbrev pub invariant-loop-number : goal.invariant-loop-number
invariant-loop-number l = record {
  same : after l.values.items (values_below l.modulus (tokens_of l.rest)) ≡ after l.fn.values.items (values_below l.modulus (tokens_of l.row));
  numbers : list_all is_number (tokens_of l.rest) ≡ true;
}

abbrev pub decreases-loop-number : goal.decreases-loop-number
decreases-loop-number l = length l.rest
