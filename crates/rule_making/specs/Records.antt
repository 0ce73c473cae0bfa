-- Rules with their records, and the rows that a record may have.
use Rattle.std.specs.Prelude.{◌≡◌, ℕ, List, length}
use Rattle.std.specs.List.{All}
use Rattle.coef_int.specs.Range.{IsCoefficient}
use Rattle.cofactor_trace.specs.Needed.{IsAmongFirst, AreRecords}
use Rattle.traced_rows.specs.declared.Row.{Row}
use Rattle.rule_making.specs.Making.{Recorded}

-- The coefficients of the rows are in range, and they are over generators and the first rules, by this count.
pub record AreRows (count : ℕ) (rows : List Row) : Type 0 where
  pub in_range : All (λ r. IsCoefficient r.coef) rows
  pub named : All (λ r. IsAmongFirst count r.from) rows

-- Each rule has a record, which names only generators and earlier rules.
pub record HasRecords (r : Recorded) : Type 0 where
  pub one_each : length r.made ≡ length r.rules
  pub records : AreRecords r.made
