-- How many rows and letters records have. A count stops at the greatest number of the machine.
use Rattle.std.specs.Prelude.{ℕ, true, false, List, length, Option, Some, None, nat_lt, if◌then◌else◌}
use Rattle.std.specs.List.{fold}
use Rattle.traced_rows.specs.declared.Row.{Row}
use Rattle.traced_rows.specs.declared.Made.{Made}
use Rattle.cofactor_trace.specs.declared.fault.GatherFault.{GatherFault}
use Rattle.cofactor_trace.specs.declared.fault.GatherFault.TheVariants as fault
use Rattle.cofactor_trace.specs.declared.extent.Extent.{Extent}
use Rattle.cofactor_trace.specs.Sizes.{counted}
use Rattle.cofactor_trace.specs.Limits.{row_limit, letter_limit}

-- with one more row
abbrev pub letters_with : ℕ → Row → ℕ
letters_with letters r = counted (counted letters (length r.left)) (length r.right)

-- with one more record
abbrev pub extended : Extent → Made → Extent
extended extent m = record { rows = counted extent.rows (length m.rows); letters = fold letters_with extent.letters m.rows }

abbrev pub extended_all : Extent → List Made → Extent
extended_all = fold extended

-- no rows
abbrev pub no_extent : Extent
no_extent = record { rows = 0; letters = 0 }

-- the first limit that is exceeded
abbrev pub limit_of : Extent → Option GatherFault
limit_of extent = if nat_lt row_limit extent.rows then Some (fault.Rows false)
    else (if nat_lt letter_limit extent.letters then Some (fault.Rows true) else None)
