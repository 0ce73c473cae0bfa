-- The table in which rows are added up.
use Rattle.std.specs.Prelude.{ℤ, pos, ◌+ℤ◌, List, [], ◌∷◌, ◌++◌, Result, Ok, Err, if◌then◌else◌, unwrap_or, ⊤}
use Rattle.std.specs.List.{fold}
use Rattle.std.specs.Map.{lookup}
use Rattle.std.specs.BTreeMap.{insert_entry, is_at}
use Rattle.coef_int.specs.declared.Overflow.{Overflow}
use Rattle.coef_int.specs.Range.{IsCoefficient, is_coefficient}
use Rattle.coef_int.specs.Operations.{sum_of}
use Rattle.traced_rows.specs.declared.certificate.CertRow.{CertRow}
use Rattle.cofactor_trace.specs.declared.table.Multiple.{Multiple}
use Rattle.cofactor_trace.specs.Multiples.{multiple_of, multiple_cmp}
use Rattle.cofactor_trace.specs.Gathered.{kept_row}

-- a sum, or the first overflow on the way to it
abbrev pub Sum : Type 0
Sum = Result ℤ Overflow

-- it is a coefficient
abbrev pub IsInRange : Sum → Type 0
IsInRange (Ok so_far) = IsCoefficient so_far
IsInRange (Err o) = ⊤

-- a number added to a sum, unless that has overflowed
abbrev pub added : Sum → ℤ → Sum
added (Ok so_far) c = if is_coefficient (so_far +ℤ c) then Ok (so_far +ℤ c) else Err (sum_of so_far c)
added (Err o) c = Err o

-- multiples with their sums
abbrev pub Entries : Type 0
Entries = List (Multiple × Sum)

-- the sum of a multiple, or 0 where it isn't listed
abbrev pub sum_in : Entries → Multiple → Sum
sum_in entries m = unwrap_or (lookup (is_at (multiple_cmp m)) entries) (Ok (pos 0))

-- with one more row
abbrev pub with_row : Entries → CertRow → Entries
with_row entries r = insert_entry multiple_cmp entries (multiple_of r) (added (sum_in entries (multiple_of r)) r.coef)

-- with the rows
abbrev pub with_rows : Entries → List CertRow → Entries
with_rows = fold with_row

-- a row before others, or the overflow
abbrev pub before : Sum → Multiple → Result (List CertRow) Overflow → Result (List CertRow) Overflow
before (Err o) m rest = Err o
before (Ok c) m (Err o) = Err o
before (Ok c) m (Ok rows) = Ok (kept_row c m ++ rows)

-- the rows of the entries whose sum isn't zero, or the first overflow of an entry
abbrev pub rows_in : Entries → Result (List CertRow) Overflow
rows_in [] = Ok []
rows_in (e ∷ entries) = before e.1 e.0 (rows_in entries)
