-- The rows of a certificate as rows over its generators.
use Rattle.std.specs.Prelude.{List, map}
use Rattle.traced_rows.specs.declared.certificate.CertRow.{CertRow}
use Rattle.definitions.specs.Combination.{Row}

-- the same integer, words and number of a generator
abbrev pub row_of : CertRow → Row
row_of r = record { coefficient = r.coef; left = r.left; generator = r.generator; right = r.right }

abbrev pub rows_of : List CertRow → List Row
rows_of = map row_of
