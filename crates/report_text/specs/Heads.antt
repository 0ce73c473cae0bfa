-- The head line of each verdict.
use Rattle.std.specs.Prelude.{ℕ, ◌+◌, ℤ, List, [], ◌++◌, length, decimal, codes, if◌then◌else◌, Option, Some, None}
use Rattle.std.specs.Fmt.{signed_decimal}
use Rattle.std.specs.List.{flat_map}
use Rattle.coef_int.specs.declared.Overflow.{Overflow}
use Rattle.nc_polynomial.specs.Limits.{word_limit, term_limit}
use Rattle.cofactor_trace.specs.Limits.{row_limit, letter_limit}
use Rattle.traced_rows.specs.LemmaRows.{denominator_of}
use Rattle.quiver.specs.Declarations.{Declaration}
use Rattle.traced_rows.specs.declared.evidence.Evidence.{Evidence}
use Rattle.traced_rows.specs.declared.evidence.Evidence.TheVariants as format
use Rattle.traced_rows.specs.declared.evidence.LemmaCertificate.{LemmaCertificate}
use Rattle.cofactor_trace.specs.declared.halt.Halt.{Halt}
use Rattle.cofactor_trace.specs.declared.halt.Cause.{Cause}
use Rattle.cofactor_trace.specs.declared.halt.Cause.TheVariants as cause
use Rattle.cofactor_trace.specs.declared.halt.Place.{Place}
use Rattle.cofactor_trace.specs.declared.halt.Place.TheVariants as place
use Rattle.block_text.specs.Written.{word_text}
use Rattle.report_text.specs.declared.verdict.Verdict.{Verdict}
use Rattle.report_text.specs.declared.verdict.Verdict.TheVariants as verdict

-- how many rows the lemmas and the goal have
abbrev pub lemma_row_count : LemmaCertificate → ℕ
lemma_row_count c = length (flat_map (λ l. l.rows) c.lemmas) + length c.goal.rows

abbrev pub row_count : Evidence → ℕ
row_count (format.Plain c) = length c.rows
row_count (format.Lemmas c) = lemma_row_count c

abbrev pub denominator_text : ℤ → List ℕ
denominator_text denominator = codes " proved denominator " ++ signed_decimal denominator

abbrev pub proved_text : Evidence → List ℕ
proved_text e = denominator_text (denominator_of e) ++ (codes " rows " ++ decimal (row_count e))

-- undecided
abbrev pub overflow_text : Overflow → List ℕ
overflow_text o = signed_decimal o.left ++ (if o.product then codes " times " else codes " plus ") ++ signed_decimal o.right

-- the budget that was used up, the limit that was exceeded, or the operands of the product or sum that is no coefficient
abbrev pub cause_text : Cause → List ℕ
cause_text (cause.Pairs spent) = codes "pairs " ++ decimal spent
cause_text (cause.Steps limit) = codes "steps " ++ decimal limit
cause_text (cause.Size letters) = if letters then codes "size letters " ++ decimal word_limit else codes "size terms " ++ decimal term_limit
cause_text (cause.Rows letters) = if letters then codes "rows letters " ++ decimal letter_limit else codes "rows " ++ decimal row_limit
cause_text (cause.Overflow o) = codes "overflow " ++ overflow_text o

abbrev pub place_text : Place → List ℕ
place_text place.Run = []
place_text (place.Round number) = codes " at round " ++ decimal number
place_text (place.Claim number) = codes " at claim after round " ++ decimal number
place_text (place.Certificate number) = codes " at certificate after round " ++ decimal number

-- the least overlap word that is pending
abbrev pub least_text : List Declaration → Option (List ℕ) → List ℕ
least_text ds None = []
least_text ds (Some word) = codes " least " ++ word_text ds word

abbrev pub undecided_text : List Declaration → Halt → List ℕ
undecided_text ds h = codes " undecided " ++ cause_text h.cause ++ place_text h.place ++ least_text ds h.least

-- not derivable
abbrev pub not_derivable_text : ℕ → List ℕ
not_derivable_text rules = codes " not derivable rules " ++ decimal rules

-- not refuted
abbrev pub not_refuted_text : ℕ → List ℕ
not_refuted_text candidates = codes " not refuted candidates " ++ decimal candidates

-- the verdict on a claim; the number is that of the rules
abbrev pub said_of : List Declaration → ℕ → Verdict → List ℕ
said_of ds rules (verdict.Proved e) = proved_text e
said_of ds rules (verdict.NotDerivable rest) = not_derivable_text rules
said_of ds rules (verdict.Refuted m) = codes " refuted"
said_of ds rules (verdict.Undecided h) = undecided_text ds h
said_of ds rules (verdict.NotRefuted candidates) = not_refuted_text candidates

abbrev pub head_line : List Declaration → ℕ → ℕ → Verdict → List ℕ
head_line ds rules claim v = codes "# claim " ++ decimal claim ++ said_of ds rules v ++ codes "\n"
