-- A report is read as the bases of the claims that aren't derivable.
use Rattle.command_runs.proofs.Prelude.{◌≡◌, ◌≤◌, ◌+◌, ℕ, suc, true, List, [], ◌∷◌, ◌++◌, arith, refl, sym, ap, ◌∙◌, subst, length, map, IsTrue, All, list_all, length-append, length-map, map-append, nil_from_length, All-nil, All-cons, All-head, All-tail, Poly, Declaration, IsDeclared, Format, Model, no_block, content, block_limit, tokens_of, is_whole, is_named, comment, other, own_in, is_other_head, HasBlocks, none, no_text, whole_append, text_without_blocks, text_of_block, text_of_other, joined, inside_is_before_end, comment_is_text, other_is_text, zip_length, part_text, certificate_head, Basis, IsWritableBasis, text_of, basis_kind, by_terms, HasBases, IsFirstFault, basis_written, reader, model_text, Verdict, head_line, block_text, report_from, report_of, IsWritableVerdict, told_of, told_is_line, model_head, model_lines, model_is_part, model_is, IsSkipped, lines_go_on, evidence_is_skipped, IsReadAsBases, basis_by, bases_from, ReportsReadBackAsBases}
use Rattle.traced_rows.specs.declared.evidence.Format.TheVariants as format
use Rattle.block_lines.specs.Bases.{other_words}
use Rattle.report_text.specs.declared.verdict.Verdict.TheVariants as verdict

-- texts with their bases

-- whole lines that have these bases
record IsTextWith (ds : List Declaration) (text : List ℕ) (bases : List Basis) : Type 0 where
  whole : is_whole text ≡ true
  has : HasBases ds text bases

nothing_has : (ds : List Declaration) → IsTextWith ds [] []
nothing_has ds = record { whole = refl; has = text_without_blocks (basis_kind ds) [] no_text }

skipped : (ds : List Declaration) (text : List ℕ) → IsSkipped other_words text → IsTextWith ds text []
skipped ds text is = record { whole = is.is.whole; has = text_of_other (basis_kind ds) text is.block is.is is.of_other_kind }

with-append : (ds : List Declaration) (xs ys : List ℕ) (first last : List Basis) → IsTextWith ds xs first → IsTextWith ds ys last
    → length first + length last ≤ block_limit → IsTextWith ds (xs ++ ys) (first ++ last)
with-append ds xs ys first last left right few = record {
  whole = whole_append xs ys left.whole right.whole;
  has = subst (HasBlocks (basis_kind ds) (xs ++ ys)) (sym (map-append by_terms first last))
      (joined (basis_kind ds) xs ys (map by_terms first) (map by_terms last) left.whole left.has right.has
      (omega (arith, few, length-map first by_terms, length-map last by_terms)));
}

-- one claim

-- the bases of the first claim alone
abbrev bases_at : List Poly → ℕ → Verdict → List Basis
bases_at rules claim v = bases_from rules claim (v ∷ [])

bases-first : (rules : List Poly) (claim : ℕ) (v : Verdict) (verdicts : List Verdict)
    → bases_at rules claim v ++ bases_from rules (suc claim) verdicts ≡ bases_from rules claim (v ∷ verdicts)
bases-first rules claim (verdict.Proved e) verdicts = refl
bases-first rules claim (verdict.NotDerivable rest) verdicts = refl
bases-first rules claim (verdict.Refuted m) verdicts = refl
bases-first rules claim (verdict.Undecided h) verdicts = refl
bases-first rules claim (verdict.NotRefuted candidates) verdicts = refl

few_bases : (rules : List Poly) (claim : ℕ) (verdicts : List Verdict) → length (bases_from rules claim verdicts) ≤ length verdicts
few_bases rules claim [] = omega arith
few_bases rules claim (verdict.Proved e ∷ verdicts) = omega (arith, few_bases rules (suc claim) verdicts)
few_bases rules claim (verdict.NotDerivable rest ∷ verdicts) = omega (arith, few_bases rules (suc claim) verdicts)
few_bases rules claim (verdict.Refuted m ∷ verdicts) = omega (arith, few_bases rules (suc claim) verdicts)
few_bases rules claim (verdict.Undecided h ∷ verdicts) = omega (arith, few_bases rules (suc claim) verdicts)
few_bases rules claim (verdict.NotRefuted candidates ∷ verdicts) = omega (arith, few_bases rules (suc claim) verdicts)

certificates_are_others : (form : Format) → is_other_head other_words (certificate_head form) ≡ true
certificates_are_others format.Plain = refl
certificates_are_others format.Lemmas = refl

module _ (ds : List Declaration) (rules : List Poly) (declared : IsDeclared ds) (known : IsTrue (list_all is_named ds)) where
  abbrev Writable : Basis → Type 0
  Writable = IsWritableBasis ds

  -- the bases of the first claim, and of the other ones
  first_bases : (claim : ℕ) (v : Verdict) (verdicts : List Verdict) → All Writable (bases_from rules claim (v ∷ verdicts))
      → All Writable (bases_at rules claim v)
  first_bases claim (verdict.Proved e) verdicts each = All-nil Writable
  first_bases claim (verdict.NotDerivable rest) verdicts each =
      All-cons Writable (basis_by rules claim rest) [] (All-head Writable (basis_by rules claim rest) (bases_from rules (suc claim) verdicts) each)
      (All-nil Writable)
  first_bases claim (verdict.Refuted m) verdicts each = All-nil Writable
  first_bases claim (verdict.Undecided h) verdicts each = All-nil Writable
  first_bases claim (verdict.NotRefuted candidates) verdicts each = All-nil Writable

  later_bases : (claim : ℕ) (v : Verdict) (verdicts : List Verdict) → All Writable (bases_from rules claim (v ∷ verdicts))
      → All Writable (bases_from rules (suc claim) verdicts)
  later_bases claim (verdict.Proved e) verdicts each = each
  later_bases claim (verdict.NotDerivable rest) verdicts each = All-tail Writable (basis_by rules claim rest) (bases_from rules (suc claim) verdicts) each
  later_bases claim (verdict.Refuted m) verdicts each = each
  later_bases claim (verdict.Undecided h) verdicts each = each
  later_bases claim (verdict.NotRefuted candidates) verdicts each = each

  head_has : (claim : ℕ) (v : Verdict) → IsWritableVerdict ds v → IsTextWith ds (head_line ds (length rules) claim v) []
  head_has claim v writable =
      let told = told_of ds (length rules) claim v in
      let line = told_is_line ds declared known (length rules) claim v writable in
      let is = comment_is_text told line.utf8 (inside_is_before_end told line.inside) in
      record { whole = is.whole; has = text_without_blocks (basis_kind ds) (part_text ds (comment told)) is }

  model_has : (m : Model) → IsTextWith ds (model_text ds m) []
  model_has m =
      let is = model_is ds declared known m in
      let lines = model_lines ds m in
      subst (λ (text : List ℕ). IsTextWith ds text []) (sym (model_is_part ds m))
      (skipped ds (part_text ds (other model_head lines)) (record {
        block = record { head = tokens_of model_head; lines = content lines };
        is = other_is_text other_words model_head lines (reader ds).words is.0 refl is.2;
        of_other_kind = record { head = refl; lines = lines_go_on lines is.2 };
      }))

  basis_has : (b : Basis) → Writable b → IsTextWith ds (text_of ds b) (b ∷ [])
  basis_has b writable =
      let written = basis_written ds declared known b writable in
      record { whole = written.text_is.whole; has = text_of_block (basis_kind ds) (text_of ds b) (by_terms b) written }

  block_has : (claim : ℕ) (v : Verdict) → IsWritableVerdict ds v → All Writable (bases_at rules claim v)
      → IsTextWith ds (block_text ds rules claim v) (bases_at rules claim v)
  block_has claim (verdict.Proved e) writable each = skipped ds _ (evidence_is_skipped other_words certificates_are_others ds e declared known writable)
  block_has claim (verdict.NotDerivable rest) writable each = basis_has (basis_by rules claim rest) (All-head Writable (basis_by rules claim rest) [] each)
  block_has claim (verdict.Refuted m) writable each = model_has m
  block_has claim (verdict.Undecided h) writable each = nothing_has ds
  block_has claim (verdict.NotRefuted candidates) writable each = nothing_has ds

  report_has : (claim : ℕ) (verdicts : List Verdict) → All (IsWritableVerdict ds) verdicts → All Writable (bases_from rules claim verdicts)
      → length (bases_from rules claim verdicts) ≤ block_limit → IsTextWith ds (report_from ds rules claim verdicts) (bases_from rules claim verdicts)
  report_has claim [] writable each few = nothing_has ds
  report_has claim (v ∷ verdicts) writable each few =
      let here = All-head (IsWritableVerdict ds) v verdicts writable in
      let head = head_line ds (length rules) claim v in
      let own = bases_at rules claim v in
      let others = bases_from rules (suc claim) verdicts in
      let count : length own + length others ≡ length (bases_from rules claim (v ∷ verdicts)) =
      sym (length-append own others) ∙ ap length (bases-first rules claim v verdicts) in
      let first = with-append ds head (block_text ds rules claim v) [] own (head_has claim v here) (block_has claim v here (first_bases claim v verdicts each))
      (omega (arith, few, count)) in
      let rest = report_has (suc claim) verdicts (All-tail (IsWritableVerdict ds) v verdicts writable) (later_bases claim v verdicts each)
      (omega (arith, few, count)) in
      subst (IsTextWith ds (report_from ds rules claim (v ∷ verdicts))) (bases-first rules claim v verdicts)
      (with-append ds (head ++ block_text ds rules claim v) (report_from ds rules (suc claim) verdicts) own others first rest (omega (arith, few, count)))

-- what is read

no_basis : (ds : List Declaration) (bytes : List ℕ) → HasBases ds bytes [] → IsFirstFault ds bytes no_block
no_basis ds bytes has =
    let nothing : own_in has.blocks ≡ [] = nil_from_length (own_in has.blocks) (zip_length (basis_kind ds).Says (own_in has.blocks) [] has.says) in
    none has.utf8 (record { blocks = has.blocks; are_blocks = has.are_blocks; none = nothing }) refl

-- bases are what is read, or that there are none
read_as_bases : (ds : List Declaration) (bytes : List ℕ) (bases : List Basis) → HasBases ds bytes bases → IsReadAsBases ds bytes bases
read_as_bases ds bytes bases has = record {
  has = has;
  some = λ some. record { has = has; some = omega (arith, some, length-map bases by_terms) };
  none = λ nothing. no_basis ds bytes (subst (HasBases ds bytes) nothing has);
}

pub reports_read_back_as_bases : ReportsReadBackAsBases
reports_read_back_as_bases ds rules verdicts declared known over writable each few =
    read_as_bases ds (report_of ds rules verdicts) (bases_from rules 1 verdicts)
    (report_has ds rules declared known 1 verdicts writable each (omega (arith, few, few_bases rules 1 verdicts))).has
