-- A report is comments, certificates and blocks of other kinds, and is read as its certificates.
use Rattle.report_readback.proofs.Prelude.{◌≡◌, ◌≤◌, ℕ, suc, List, [], ◌∷◌, ◌++◌, arith, refl, sym, ap, ap₂, ◌∙◌, subst, length, IsTrue, All, list_all, flat_map, flat_map-append, append-nil, append_assoc, nil_from_length, All-nil, All-cons, All-head, All-tail, All-append, AllZip-long, Poly, Declaration, IsDeclared, Evidence, Lemmas, no_block, own_in, none, IsPolyOver, IsCertificateOf, HasCertificates, is_named, certificate, comment, other, IsOfFormat, Part, part_text, IsPart, evidence_in, are_parts_read_back, Verdict, head_line, block_text, report_from, report_of, IsReadAs, proved_in, IsWritableVerdict, ReportsReadBack}
use Rattle.traced_rows.specs.declared.evidence.Evidence.TheVariants as evidence
use Rattle.certificate_text.specs.Evidence.{IsFirstFault}
use Rattle.report_text.specs.declared.verdict.Verdict.TheVariants as verdict
use Rattle.report_readback.proofs.Heads.{told_of, head_is_comment, told_is_line}
use Rattle.report_readback.proofs.Bases.{basis_head, basis_lines, basis_is_part, basis_is}
use Rattle.report_readback.proofs.Models.{model_head, model_lines, model_is_part, model_is}

-- the parts of a report
abbrev block_parts : List Declaration → List Poly → ℕ → Verdict → List Part
block_parts ds rules claim (verdict.Proved e) = certificate e ∷ []
block_parts ds rules claim (verdict.NotDerivable rest) = other basis_head (basis_lines ds rules claim rest) ∷ []
block_parts ds rules claim (verdict.Refuted m) = other model_head (model_lines ds m) ∷ []
block_parts ds rules claim (verdict.Undecided h) = []
block_parts ds rules claim (verdict.NotRefuted candidates) = []

abbrev parts_from : List Declaration → List Poly → ℕ → List Verdict → List Part
parts_from ds rules claim [] = []
parts_from ds rules claim (v ∷ verdicts) = comment (told_of ds (length rules) claim v) ∷ (block_parts ds rules claim v ++ parts_from ds rules (suc claim) verdicts)

block_is_parts : (ds : List Declaration) (rules : List Poly) (claim : ℕ) (v : Verdict) → block_text ds rules claim v ≡ flat_map (part_text ds) (block_parts ds rules claim v)
block_is_parts ds rules claim (verdict.Proved e) = sym (append-nil (part_text ds (certificate e)))
block_is_parts ds rules claim (verdict.NotDerivable rest) = basis_is_part ds rules claim rest ∙ sym (append-nil (part_text ds (other basis_head (basis_lines ds rules claim rest))))
block_is_parts ds rules claim (verdict.Refuted m) = model_is_part ds m ∙ sym (append-nil (part_text ds (other model_head (model_lines ds m))))
block_is_parts ds rules claim (verdict.Undecided h) = refl
block_is_parts ds rules claim (verdict.NotRefuted candidates) = refl

report_is_parts : (ds : List Declaration) (rules : List Poly) (claim : ℕ) (verdicts : List Verdict) → report_from ds rules claim verdicts ≡ flat_map (part_text ds) (parts_from ds rules claim verdicts)
report_is_parts ds rules claim [] = refl
report_is_parts ds rules claim (v ∷ verdicts) =
    let head = head_line ds (length rules) claim v in
    append_assoc head (block_text ds rules claim v) (report_from ds rules (suc claim) verdicts)
    ∙ ap (λ text. head ++ text) (ap₂ ◌++◌ (block_is_parts ds rules claim v) (report_is_parts ds rules (suc claim) verdicts)
    ∙ sym (flat_map-append (part_text ds) (block_parts ds rules claim v) (parts_from ds rules (suc claim) verdicts)))
    ∙ ap (λ text. text ++ flat_map (part_text ds) (block_parts ds rules claim v ++ parts_from ds rules (suc claim) verdicts)) (head_is_comment ds (length rules) claim v)

-- the certificates among them
parts_have : (ds : List Declaration) (rules : List Poly) (claim : ℕ) (verdicts : List Verdict) → evidence_in (parts_from ds rules claim verdicts) ≡ proved_in verdicts
parts_have ds rules claim [] = refl
parts_have ds rules claim (verdict.Proved e ∷ verdicts) = ap (λ es. e ∷ es) (parts_have ds rules (suc claim) verdicts)
parts_have ds rules claim (verdict.NotDerivable rest ∷ verdicts) = parts_have ds rules (suc claim) verdicts
parts_have ds rules claim (verdict.Refuted m ∷ verdicts) = parts_have ds rules (suc claim) verdicts
parts_have ds rules claim (verdict.Undecided h ∷ verdicts) = parts_have ds rules (suc claim) verdicts
parts_have ds rules claim (verdict.NotRefuted candidates ∷ verdicts) = parts_have ds rules (suc claim) verdicts

few_proved : (verdicts : List Verdict) → length (proved_in verdicts) ≤ length verdicts
few_proved [] = omega arith
few_proved (verdict.Proved e ∷ verdicts) = omega (arith, few_proved verdicts)
few_proved (verdict.NotDerivable rest ∷ verdicts) = omega (arith, few_proved verdicts)
few_proved (verdict.Refuted m ∷ verdicts) = omega (arith, few_proved verdicts)
few_proved (verdict.Undecided h ∷ verdicts) = omega (arith, few_proved verdicts)
few_proved (verdict.NotRefuted candidates ∷ verdicts) = omega (arith, few_proved verdicts)

of_some_format : (e : Evidence) → IsOfFormat Lemmas e
of_some_format (evidence.Plain c) = tt
of_some_format (evidence.Lemmas c) = tt

module _ (ds : List Declaration) (rules : List Poly) (declared : IsDeclared ds) (known : IsTrue (list_all is_named ds)) (over : All (IsPolyOver ds) rules) where
  block_parts_are : (claim : ℕ) (v : Verdict) → IsWritableVerdict ds v → All (IsPart Lemmas ds) (block_parts ds rules claim v)
  block_parts_are claim (verdict.Proved e) writable = All-cons (IsPart Lemmas ds) (certificate e) [] (of_some_format e, writable) (All-nil (IsPart Lemmas ds))
  block_parts_are claim (verdict.NotDerivable rest) writable =
      All-cons (IsPart Lemmas ds) (other basis_head (basis_lines ds rules claim rest)) [] (basis_is ds declared known rules claim rest over writable) (All-nil (IsPart Lemmas ds))
  block_parts_are claim (verdict.Refuted m) writable = All-cons (IsPart Lemmas ds) (other model_head (model_lines ds m)) [] (model_is ds declared known m) (All-nil (IsPart Lemmas ds))
  block_parts_are claim (verdict.Undecided h) writable = All-nil (IsPart Lemmas ds)
  block_parts_are claim (verdict.NotRefuted candidates) writable = All-nil (IsPart Lemmas ds)

  parts_are : (claim : ℕ) (verdicts : List Verdict) → All (IsWritableVerdict ds) verdicts → All (IsPart Lemmas ds) (parts_from ds rules claim verdicts)
  parts_are claim [] writable = All-nil (IsPart Lemmas ds)
  parts_are claim (v ∷ verdicts) writable =
      let here = All-head (IsWritableVerdict ds) v verdicts writable in
      All-cons (IsPart Lemmas ds) (comment (told_of ds (length rules) claim v)) (block_parts ds rules claim v ++ parts_from ds rules (suc claim) verdicts) (told_is_line ds declared known (length rules) claim v here)
      (All-append (IsPart Lemmas ds) (block_parts ds rules claim v) (parts_from ds rules (suc claim) verdicts) (block_parts_are claim v here)
      (parts_are (suc claim) verdicts (All-tail (IsWritableVerdict ds) v verdicts writable)))

-- what is read
no_certificate : (ds : List Declaration) (bytes : List ℕ) → HasCertificates Lemmas ds bytes [] → IsFirstFault Lemmas ds bytes no_block
no_certificate ds bytes has =
    let nothing : own_in has.blocks ≡ [] = nil_from_length (own_in has.blocks) (sym (AllZip-long (IsCertificateOf ds) (own_in has.blocks) [] has.says)) in
    none has.utf8 (record { blocks = has.blocks; are_blocks = has.are_blocks; none = nothing }) refl

-- certificates are what is read, or that there are none
pub read_as : (ds : List Declaration) (bytes : List ℕ) (es : List Evidence) → HasCertificates Lemmas ds bytes es → IsReadAs ds bytes es
read_as ds bytes es has = record {
  has = has;
  some = λ some. record { has = has; some = some };
  none = λ nothing. no_certificate ds bytes (subst (HasCertificates Lemmas ds bytes) nothing has);
}

pub reports_read_back : ReportsReadBack
reports_read_back ds rules verdicts declared known over writable few =
    let parts = parts_from ds rules 1 verdicts in
    let have : evidence_in parts ≡ proved_in verdicts = parts_have ds rules 1 verdicts in
    let read : HasCertificates Lemmas ds (flat_map (part_text ds) parts) (evidence_in parts) =
    are_parts_read_back Lemmas ds declared known parts (parts_are ds rules declared known over 1 verdicts writable) (omega (arith, few, few_proved verdicts, ap length have)) in
    read_as ds (report_of ds rules verdicts) (proved_in verdicts)
    (subst (HasCertificates Lemmas ds (report_of ds rules verdicts)) have (subst (λ (bytes : List ℕ). HasCertificates Lemmas ds bytes (evidence_in parts)) (sym (report_is_parts ds rules 1 verdicts)) read))
