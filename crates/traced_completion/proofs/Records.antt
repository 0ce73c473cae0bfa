-- Rows of records name what is there before.
use Rattle.traced_completion.proofs.Prelude.{◌≤◌, ℕ, ℤ, List, [], ◌∷◌, map, arith, All-weaker, All-map, All-append, Origin, Row, IsAmongFirst, State, multiplied_row, negated_rows, AreRows, AreNamed, negated_named, First, generator_rows, less_rows, first_rows, second_rows, IsKept, IsKeptFirst, all_one}
use Rattle.traced_rows.specs.declared.Origin.TheVariants as origin

less_named : (count : ℕ) (rows : List Row) (by : ℤ) (taken : List Row) → AreNamed count rows → AreNamed count taken → AreNamed count (less_rows rows by taken)
less_named count rows by taken named also =
    All-append (λ (r : Row). IsAmongFirst count r.from) (map (multiplied_row by) rows) (negated_rows taken)
    (All-map (λ (r : Row). IsAmongFirst count r.from) (multiplied_row by) rows named) (negated_named count taken also)

pub second_named : (letters count : ℕ) (f : First) (s : State) → IsKeptFirst letters count f → IsKept letters count s → AreNamed count (second_rows f s)
second_named letters count f s first second =
    less_named count (first_rows f) s.multiplier s.rows (less_named count f.rows f.reduced.multiplier f.reduced.rows first.rows.named first.reduced.rows.named) second.rows.named

-- what names the first rules names them among more rules
among_more : (count more : ℕ) → count ≤ more → (o : Origin) → IsAmongFirst count o → IsAmongFirst more o
among_more count more most (origin.Generator n) named = tt
among_more count more most (origin.Rule n) named = (named.0, omega (arith, named.1, most))

-- so do rows, and what a first reduction keeps
rows_more : (count more : ℕ) → count ≤ more → (rows : List Row) → AreRows count rows → AreRows more rows
rows_more count more most rows are = record {
  in_range = are.in_range;
  named = All-weaker (λ (r : Row). IsAmongFirst count r.from) (λ (r : Row). IsAmongFirst more r.from) (λ r named. among_more count more most r.from named) rows are.named;
}

pub first_more : (letters count more : ℕ) → count ≤ more → (f : First) → IsKeptFirst letters count f → IsKeptFirst letters more f
first_more letters count more most f kept = record {
  rows = rows_more count more most f.rows kept.rows;
  reduced = record {
    multiplier = kept.reduced.multiplier;
    rows = rows_more count more most f.reduced.rows kept.reduced.rows;
    nonempty = kept.reduced.nonempty;
    over = kept.reduced.over;
  };
}

-- those of a generator
pub generator_named : (count number : ℕ) (multiplier : ℤ) (taken : List Row) → AreNamed count taken → AreNamed count (generator_rows number multiplier taken)
generator_named count number multiplier taken named =
    All-append (λ (r : Row). IsAmongFirst count r.from) (record { coef = multiplier; left = []; from = origin.Generator number; right = [] } ∷ []) (negated_rows taken)
    (all_one (λ (r : Row). IsAmongFirst count r.from) (record { coef = multiplier; left = []; from = origin.Generator number; right = [] }) tt) (negated_named count taken named)
