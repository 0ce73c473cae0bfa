-- A certificate with lemmas, gathered from records: its lemmas are the rules that are needed, except those that are just a
-- generator or its negative.
use Rattle.std.specs.Prelude.{ℕ, ℤ, pos, negsuc, neg_ℤ, List, [], ◌∷◌, ◌++◌, map, filter, length, ◌+◌, ◌-◌, suc, ◌&&◌, Bool, true, false}
use Rattle.std.specs.Prelude.{nat_eq, nat_lt, Option, Some, None, Result, Ok, if◌then◌else◌, slice_get, unwrap_or, is_none}
use Rattle.std.specs.List.{sum_by}
use Rattle.std.specs.Option.{option_map, option_and_then}
use Rattle.std.specs.Ordering.{int_eq}
use Rattle.coef_int.specs.Operations.{first_overflow}
use Rattle.traced_rows.specs.declared.Origin.{Origin}
use Rattle.traced_rows.specs.declared.Origin.TheVariants as origin
use Rattle.traced_rows.specs.declared.Row.{Row}
use Rattle.traced_rows.specs.declared.Made.{Made}
use Rattle.traced_rows.specs.declared.evidence.CertFrom.TheVariants as cert
use Rattle.traced_rows.specs.declared.evidence.LemmaRow.{LemmaRow}
use Rattle.traced_rows.specs.declared.evidence.Lemma.{Lemma}
use Rattle.traced_rows.specs.declared.evidence.LemmaCertificate.{LemmaCertificate}
use Rattle.cofactor_trace.specs.declared.fault.GatherFault.{GatherFault}
use Rattle.cofactor_trace.specs.declared.fault.GatherFault.TheVariants as fault
use Rattle.cofactor_trace.specs.declared.replacement.Replacement.{Replacement}
use Rattle.cofactor_trace.specs.Expansion.{common_multiple, multiple_products, unless}
use Rattle.cofactor_trace.specs.Needed.{Numbered, needed_rules}
use Rattle.cofactor_trace.specs.Limits.{row_limit, letter_limit}

-- the generator, or its negative, where the integer is 1 or -1
abbrev pub signed_generator : ℤ → Origin → Option Replacement
signed_generator coef (origin.Generator n) =
    if int_eq coef (pos 1) then Some (record { negative = false; from = cert.Generator n })
    else (if int_eq coef (negsuc 0) then Some (record { negative = true; from = cert.Generator n }) else None)
signed_generator coef (origin.Rule n) = None

-- the generator or its negative that a list of one row is, where its words are empty
abbrev pub single_row : List Row → Option Replacement
single_row [] = None
single_row (r ∷ []) = if nat_eq (length r.left) 0 && nat_eq (length r.right) 0 then signed_generator r.coef r.from else None
single_row (r ∷ (s ∷ rows)) = None

-- the generator or its negative that a direct rule is: its record has scale 1 and one row, with coefficient 1 or -1 and empty words
abbrev pub direct_of : Made → Option Replacement
direct_of m = if int_eq m.scale (pos 1) then single_row m.rows else None

-- whether the rule with the record is a lemma where it is needed: it isn't direct
abbrev pub is_lemma : Made → Bool
is_lemma m = is_none (direct_of m)

-- the rules of the lemmas, ascending: those that are needed and not direct
abbrev pub lemma_rules : List Made → Made → List Numbered
lemma_rules made target = filter (λ e. is_lemma e.1) (needed_rules made target)

-- their records
abbrev pub lemma_records : List Made → Made → List Made
lemma_records made target = map (λ e. e.1) (lemma_rules made target)

-- the place of the rule among them, counted from 1
abbrev pub lemma_number : ℕ → List Numbered → ℕ
lemma_number n [] = 1
lemma_number n (e ∷ rules) = if nat_eq n e.0 then 1 else suc (lemma_number n rules)

-- what generators and rules are replaced by
abbrev pub Naming : Type 0
Naming = Origin → Replacement

-- the lemma with the number
abbrev pub lemma_at : ℕ → Replacement
lemma_at number = record { negative = false; from = cert.Lemma number }

-- a generator is kept, a direct rule becomes its generator or the negative of that, and each other rule its lemma
abbrev pub naming_of : List Made → Made → Naming
naming_of made target (origin.Generator n) = record { negative = false; from = cert.Generator n }
naming_of made target (origin.Rule n) = unwrap_or (option_and_then direct_of (slice_get made (n - 1))) (lemma_at (lemma_number n (lemma_rules made target)))

-- the integer, or its negative
abbrev pub signed : Bool → ℤ → ℤ
signed negative z = if negative then neg_ℤ z else z

-- the row, with its generator or rule replaced
abbrev pub lemma_row : Naming → Row → LemmaRow
lemma_row naming r = record { coef = signed (naming r.from).negative r.coef; left = r.left; from = (naming r.from).from; right = r.right }

abbrev pub lemma_of : Naming → Made → Lemma
lemma_of naming m = record { scale = m.scale; rows = map (lemma_row naming) m.rows }

-- how many rows and letters the lemmas have
abbrev pub row_count : List Lemma → ℕ
row_count lemmas = sum_by (λ l. length l.rows) lemmas

abbrev pub letter_count : List Lemma → ℕ
letter_count lemmas = sum_by (λ l. sum_by (λ r. length r.left + length r.right) l.rows) lemmas

-- the first limit that is exceeded: 200,000 rows, 1,000,000 letters
abbrev pub limit_fault : List Lemma → Option GatherFault
limit_fault lemmas = if nat_lt row_limit (row_count lemmas) then Some (fault.Rows false)
    else (if nat_lt letter_limit (letter_count lemmas) then Some (fault.Rows true) else None)

-- the first product of their common denominator that overflows
abbrev pub scale_fault : List ℤ → Option GatherFault
scale_fault scales = option_map fault.Overflow (first_overflow (multiple_products (pos 1) scales))

-- The lemmas and the target as their goal, unless a limit is exceeded, or else a product of the least common multiple of the scales,
-- which is the denominator, overflows.
abbrev pub gathered_of : ℕ → List Made → Made → Result LemmaCertificate GatherFault
gathered_of claim made target =
    let lemmas = map (lemma_of (naming_of made target)) (lemma_records made target) in
    let goal = lemma_of (naming_of made target) target in
    let scales = map (λ l. l.scale) (lemmas ++ goal ∷ []) in
    unless (limit_fault (lemmas ++ goal ∷ [])) (unless (scale_fault scales)
    (Ok (record { claim = claim; denominator = common_multiple (pos 1) scales; lemmas = lemmas; goal = goal })))
