-- The table of replacements of rules, by their numbers.
use Rattle.std.specs.Prelude.{◌≡◌, ◌-◌, ◌<ℤ◌, pos, List, map, length, get_or, false}
use Rattle.std.specs.List.{AllByRecursion}
use Rattle.std.specs.Borrow.{Bor}
use Rattle.coef_int.specs.Range.{IsCoefficient}
use Rattle.traced_rows.specs.declared.Origin.TheVariants as origin
use Rattle.traced_rows.specs.declared.Made.{Made}
use Rattle.traced_rows.specs.declared.evidence.CertFrom.TheVariants as cert
use Rattle.cofactor_trace.specs.declared.replacement.Replacement.{Replacement}
use Rattle.cofactor_trace.specs.Needed.{needed_rules}
use Rattle.cofactor_trace.specs.Lemmas.{Naming, naming_of, lemma_at}

-- the records that are pointed to
abbrev pub records : List (Bor Made) → List Made
records pointers = map (λ m. m.now) pointers

-- the scale is positive, and a coefficient
abbrev pub IsScaled : Made → Type 0
IsScaled m = (pos 0 <ℤ m.scale) × IsCoefficient m.scale

-- a generator is kept, and a rule becomes the entry of the table at its place
abbrev pub named_in : List Replacement → Naming
named_in table (origin.Generator n) = record { negative = false; from = cert.Generator n }
named_in table (origin.Rule n) = get_or table (n - 1) (lemma_at 0)

-- the table has the replacement of each needed rule
pub record NamesRules (made : List Made) (target : Made) (table : List Replacement) : Type 0 where
  pub sized : length table ≡ length made
  pub named : AllByRecursion (λ e. named_in table (origin.Rule e.0) ≡ naming_of made target (origin.Rule e.0)) (needed_rules made target)
