-- The report of the verdicts on claims, and its status.
use Rattle.std.specs.Prelude.{ℕ, suc, Bool, true, false, List, [], ◌∷◌, ◌++◌, length, if◌then◌else◌, Option, Some, None, ⊤}
use Rattle.std.specs.List.{list_all, list_any}
use Rattle.word_core.specs.Letters.{IsOver}
use Rattle.nc_polynomial.specs.declared.poly.Poly.{Poly}
use Rattle.quiver.specs.Declarations.{Declaration, letter_count}
use Rattle.block_lines.specs.Written.{basis_text}
use Rattle.quiver.specs.Over.{IsPolyOver}
use Rattle.certificate_text.specs.Written.{evidence_text, IsEvidenceOver}
use Rattle.model_text.specs.Written.{model_text, HasPlaces}
use Rattle.report_text.specs.declared.verdict.Verdict.{Verdict}
use Rattle.report_text.specs.declared.verdict.Verdict.TheVariants as verdict
use Rattle.report_text.specs.Heads.{head_line}

-- the block of a verdict
abbrev pub block_text : List Declaration → List Poly → ℕ → Verdict → List ℕ
block_text ds rules claim (verdict.Proved e) = evidence_text ds e
block_text ds rules claim (verdict.NotDerivable rest) = basis_text ds rules claim rest
block_text ds rules claim (verdict.Refuted m) = model_text ds m
block_text ds rules claim (verdict.Undecided h) = []
block_text ds rules claim (verdict.NotRefuted candidates) = []

-- the verdicts on the claim with this number and the next ones, each by its head line and its block
abbrev pub report_from : List Declaration → List Poly → ℕ → List Verdict → List ℕ
report_from ds rules claim [] = []
report_from ds rules claim (v ∷ verdicts) = head_line ds (length rules) claim v ++ block_text ds rules claim v ++ report_from ds rules (suc claim) verdicts

abbrev pub report_of : List Declaration → List Poly → List Verdict → List ℕ
report_of ds rules verdicts = report_from ds rules 1 verdicts

-- only the head lines
abbrev pub heads_from : List Declaration → ℕ → ℕ → List Verdict → List ℕ
heads_from ds rules claim [] = []
heads_from ds rules claim (v ∷ verdicts) = head_line ds rules claim v ++ heads_from ds rules (suc claim) verdicts

abbrev pub heads_of : List Declaration → List Poly → List Verdict → List ℕ
heads_of ds rules verdicts = heads_from ds (length rules) 1 verdicts

-- the status
abbrev pub is_proved : Verdict → Bool
is_proved (verdict.Proved e) = true
is_proved (verdict.NotDerivable rest) = false
is_proved (verdict.Refuted m) = false
is_proved (verdict.Undecided h) = false
is_proved (verdict.NotRefuted candidates) = false

abbrev pub is_refuted : Verdict → Bool
is_refuted (verdict.Proved e) = false
is_refuted (verdict.NotDerivable rest) = false
is_refuted (verdict.Refuted m) = true
is_refuted (verdict.Undecided h) = false
is_refuted (verdict.NotRefuted candidates) = false

abbrev pub is_undecided : Verdict → Bool
is_undecided (verdict.Proved e) = false
is_undecided (verdict.NotDerivable rest) = false
is_undecided (verdict.Refuted m) = false
is_undecided (verdict.Undecided h) = true
is_undecided (verdict.NotRefuted candidates) = false

abbrev pub is_not_refuted : Verdict → Bool
is_not_refuted (verdict.Proved e) = false
is_not_refuted (verdict.NotDerivable rest) = false
is_not_refuted (verdict.Refuted m) = false
is_not_refuted (verdict.Undecided h) = false
is_not_refuted (verdict.NotRefuted candidates) = true

-- 12 where some claim is undecided; else 13 where some is not refuted; else 11 where some is refuted; else 0 where each is proved; else 10
abbrev pub status_of : List Verdict → ℕ
status_of verdicts =
    if list_any is_undecided verdicts then 12
    else (if list_any is_not_refuted verdicts then 13
    else (if list_any is_refuted verdicts then 11
    else (if list_all is_proved verdicts then 0 else 10)))

-- what can be written
abbrev pub IsLeastOver : List Declaration → Option (List ℕ) → Type 0
IsLeastOver ds None = ⊤
IsLeastOver ds (Some word) = IsOver (letter_count ds) word

-- the letters of a verdict are letters of the quiver; a model has a side for each object and an entry for each letter
abbrev pub IsVerdictOver : List Declaration → Verdict → Type 0
IsVerdictOver ds (verdict.Proved e) = IsEvidenceOver ds e
IsVerdictOver ds (verdict.NotDerivable rest) = IsPolyOver ds rest
IsVerdictOver ds (verdict.Refuted m) = HasPlaces ds m
IsVerdictOver ds (verdict.Undecided h) = IsLeastOver ds h.least
IsVerdictOver ds (verdict.NotRefuted candidates) = ⊤
