-- The rules that a record needs, and their expansions one after another.
use Rattle.std.specs.Prelude.{◌≡◌, ◌≤◌, ◌<ℤ◌, ℕ, suc, pos, List, [], ◌∷◌, map, Bool, false, nat_eq, slice_get, Some, Result, Ok, Err}
use Rattle.std.specs.Prelude.{if◌then◌else◌, unwrap_or, ⊤}
use Rattle.std.specs.List.{All, list_any}
use Rattle.std.specs.Map.{lookup}
use Rattle.std.specs.BTreeMap.{insert_entry, is_at}
use Rattle.std.specs.Ordering.{nat_cmp}
use Rattle.coef_int.specs.Range.{IsCoefficient}
use Rattle.traced_rows.specs.declared.Origin.{Origin}
use Rattle.traced_rows.specs.declared.Origin.TheVariants as origin
use Rattle.traced_rows.specs.declared.Made.{Made}
use Rattle.traced_rows.specs.declared.certificate.Cofactors.{Cofactors}
use Rattle.cofactor_trace.specs.declared.fault.ExpandFault.{ExpandFault}
use Rattle.cofactor_trace.specs.Expansion.{Known, record_expansion}

-- a generator, or one of the first rules, by this count
abbrev pub IsAmongFirst : ℕ → Origin → Type 0
IsAmongFirst count (origin.Generator n) = ⊤
IsAmongFirst count (origin.Rule n) = (1 ≤ n) × (n ≤ count)

-- The scale is positive, numbers are coefficients, and the rows name generators and the first rules, by this count.
pub record IsRecord (count : ℕ) (m : Made) : Type 0 where
  pub positive : pos 0 <ℤ m.scale
  pub scale_in : IsCoefficient m.scale
  pub coefficients_in : All (λ r. IsCoefficient r.coef) m.rows
  pub earlier : All (λ r. IsAmongFirst count r.from) m.rows

-- the record of each rule names only generators and earlier rules
pub record AreRecords (made : List Made) : Type 0 where
  pub at : (place : ℕ) (m : Made) → slice_get made place ≡ Some m → IsRecord place m

-- whether it is the rule with this number
abbrev pub is_rule : ℕ → Origin → Bool
is_rule number (origin.Generator n) = false
is_rule number (origin.Rule n) = nat_eq number n

-- whether a row of one of the records names the rule
abbrev pub is_named : ℕ → List Made → Bool
is_named number records = list_any (λ m. list_any (λ r. is_rule number r.from) m.rows) records

-- a number and the record of the rule with this number
abbrev pub Numbered : Type 0
Numbered = ℕ × Made

-- Of the rules from a number on, ascending, those that the rows of the target name, and those that the rows of a needed rule
-- name, where each rule names only earlier rules.
abbrev pub needed_from : Made → ℕ → List Made → List Numbered
needed_from target number [] = []
needed_from target number (m ∷ made) =
    let later = needed_from target (suc number) made in
    if is_named number (target ∷ map (λ e. e.1) later) then (number, m) ∷ later else later

abbrev pub needed_rules : List Made → Made → List Numbered
needed_rules made target = needed_from target 1 made

-- the expansions of rules, by their numbers
abbrev pub Expansions : Type 0
Expansions = List (ℕ × Cofactors)

-- no rows
abbrev pub none : Cofactors
none = record { denominator = pos 1; rows = [] }

-- a generator expands to itself, a rule as the list says
abbrev pub known_from : Expansions → Known
known_from expansions (origin.Generator n) = record { denominator = pos 1; rows = record { coef = pos 1; left = []; generator = n; right = [] } ∷ [] }
known_from expansions (origin.Rule n) = unwrap_or (lookup (is_at (nat_cmp n)) expansions) none

-- the next result, of a value, or the fault
abbrev pub and_then : {A B : Type 0} → Result A ExpandFault → (A → Result B ExpandFault) → Result B ExpandFault
and_then (Ok x) next = next x
and_then (Err e) next = Err e

-- the target's expansion after those of the rules, one after another
abbrev pub expansion_from : Expansions → List Numbered → Made → Result Cofactors ExpandFault
expansion_from expansions [] target = record_expansion (known_from expansions) target
expansion_from expansions (e ∷ rest) target =
    and_then (record_expansion (known_from expansions) e.1) (λ c. expansion_from (insert_entry nat_cmp expansions e.0 c) rest target)

abbrev pub expansion_of : List Made → Made → Result Cofactors ExpandFault
expansion_of made target = expansion_from [] (needed_rules made target) target
