-- How large rows are. A count stops at the greatest number of the machine.
use Rattle.std.specs.Prelude.{ℕ, ◌+◌, ◌-◌, ◌^◌, ◌||◌, min, true, false, List, length, Option, Some, None, nat_lt, if◌then◌else◌}
use Rattle.std.specs.List.{fold}
use Rattle.traced_rows.specs.declared.certificate.CertRow.{CertRow}
use Rattle.cofactor_trace.specs.declared.fault.ExpandFault.{ExpandFault}
use Rattle.cofactor_trace.specs.declared.fault.ExpandFault.TheVariants as fault
use Rattle.cofactor_trace.specs.declared.size.Size.{Size}
use Rattle.nc_polynomial.specs.Limits.{word_limit}
use Rattle.cofactor_trace.specs.Limits.{row_limit, letter_limit}

-- a sum that stops at the greatest number
abbrev pub counted : ℕ → ℕ → ℕ
counted m n = min (m + n) (2 ^ 64 - 1)

-- with one more row
abbrev pub measured : Size → CertRow → Size
measured size r = record {
  long = size.long || (nat_lt word_limit (length r.left) || nat_lt word_limit (length r.right));
  rows = counted size.rows 1;
  letters = counted size.letters (length r.left + length r.right);
}

abbrev pub measured_all : Size → List CertRow → Size
measured_all = fold measured

-- the first limit that is exceeded
abbrev pub limit_of : Size → Option ExpandFault
limit_of size = if size.long then Some fault.Size
    else (if nat_lt row_limit size.rows then Some (fault.Rows false)
    else (if nat_lt letter_limit size.letters then Some (fault.Rows true) else None))
