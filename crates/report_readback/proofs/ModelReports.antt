-- A report is read as the models of the claims that are refuted.
use Rattle.report_readback.proofs.Prelude.{◌≡◌, ◌≤◌, ◌+◌, ℕ, suc, true, List, [], ◌∷◌, ◌++◌, arith, refl, sym, ap, ◌∙◌, subst, length, IsTrue, All, list_all, length-append, nil_from_length, All-nil, All-cons, All-head, All-tail, Poly, Declaration, IsDeclared, Model, no_block, content, block_limit, tokens_of, is_whole, is_named, comment, other, basis_text, IsPolyOver, part_text, no_text, whole_append, own_in, none, text_without_blocks, joined, inside_is_before_end, comment_is_text, other_is_text, zip_length, model_value, other_words, model_kind, HasModels, IsFirstFault, IsWritableModel, model_is_whole, model_has, reader, Verdict, head_line, block_text, report_from, report_of, IsWritableVerdict, IsReadAsModels, refuted_in, ReportsReadBackAsModels}
use Rattle.report_text.specs.declared.verdict.Verdict.TheVariants as verdict
use Rattle.report_readback.proofs.Heads.{told_of, told_is_line}
use Rattle.report_readback.proofs.Bases.{basis_head, basis_lines, basis_is_part, basis_is}
use Rattle.report_readback.proofs.SkippedEvidence.{IsSkipped, skipped_has_none, lines_go_on, certificates_are_others, evidence_is_skipped}

-- whole lines that have these models
record IsTextWith (ds : List Declaration) (text : List ℕ) (ms : List Model) : Type 0 where
  whole : is_whole text ≡ true
  has : HasModels ds text ms

skipped : (ds : List Declaration) (text : List ℕ) → IsSkipped other_words text → IsTextWith ds text []
skipped ds text is = record { whole = is.is.whole; has = skipped_has_none ds text is }

with-append : (ds : List Declaration) (xs ys : List ℕ) (first last : List Model) → IsTextWith ds xs first → IsTextWith ds ys last → length first + length last ≤ block_limit → IsTextWith ds (xs ++ ys) (first ++ last)
with-append ds xs ys first last left right few = record { whole = whole_append xs ys left.whole right.whole; has = joined (model_kind ds) xs ys first last left.whole left.has right.has few }

-- one claim
refuted-first : (v : Verdict) (verdicts : List Verdict) → refuted_in (v ∷ []) ++ refuted_in verdicts ≡ refuted_in (v ∷ verdicts)
refuted-first (verdict.Proved e) verdicts = refl
refuted-first (verdict.NotDerivable rest) verdicts = refl
refuted-first (verdict.Refuted m) verdicts = refl
refuted-first (verdict.Undecided h) verdicts = refl
refuted-first (verdict.NotRefuted candidates) verdicts = refl

few_refuted : (verdicts : List Verdict) → length (refuted_in verdicts) ≤ length verdicts
few_refuted [] = omega arith
few_refuted (verdict.Proved e ∷ verdicts) = omega (arith, few_refuted verdicts)
few_refuted (verdict.NotDerivable rest ∷ verdicts) = omega (arith, few_refuted verdicts)
few_refuted (verdict.Refuted m ∷ verdicts) = omega (arith, few_refuted verdicts)
few_refuted (verdict.Undecided h ∷ verdicts) = omega (arith, few_refuted verdicts)
few_refuted (verdict.NotRefuted candidates ∷ verdicts) = omega (arith, few_refuted verdicts)

-- the models of the first claim, and of the other ones
first_models : (ds : List Declaration) (v : Verdict) (verdicts : List Verdict) → All (IsWritableModel ds) (refuted_in (v ∷ verdicts)) → All (IsWritableModel ds) (refuted_in (v ∷ []))
first_models ds (verdict.Proved e) verdicts each = All-nil (IsWritableModel ds)
first_models ds (verdict.NotDerivable rest) verdicts each = All-nil (IsWritableModel ds)
first_models ds (verdict.Refuted m) verdicts each = All-cons (IsWritableModel ds) m [] (All-head (IsWritableModel ds) m (refuted_in verdicts) each) (All-nil (IsWritableModel ds))
first_models ds (verdict.Undecided h) verdicts each = All-nil (IsWritableModel ds)
first_models ds (verdict.NotRefuted candidates) verdicts each = All-nil (IsWritableModel ds)

later_models : (ds : List Declaration) (v : Verdict) (verdicts : List Verdict) → All (IsWritableModel ds) (refuted_in (v ∷ verdicts)) → All (IsWritableModel ds) (refuted_in verdicts)
later_models ds (verdict.Proved e) verdicts each = each
later_models ds (verdict.NotDerivable rest) verdicts each = each
later_models ds (verdict.Refuted m) verdicts each = All-tail (IsWritableModel ds) m (refuted_in verdicts) each
later_models ds (verdict.Undecided h) verdicts each = each
later_models ds (verdict.NotRefuted candidates) verdicts each = each

module _ (ds : List Declaration) (rules : List Poly) (declared : IsDeclared ds) (known : IsTrue (list_all is_named ds)) (over : All (IsPolyOver ds) rules) where
  head_has : (claim : ℕ) (v : Verdict) → IsWritableVerdict ds v → IsTextWith ds (head_line ds (length rules) claim v) []
  head_has claim v writable =
      let line = told_is_line ds declared known (length rules) claim v writable in
      let is = comment_is_text (told_of ds (length rules) claim v) line.utf8 (inside_is_before_end (told_of ds (length rules) claim v) line.inside) in
      record { whole = is.whole; has = text_without_blocks (model_kind ds) (part_text ds (comment (told_of ds (length rules) claim v))) is }

  basis_has : (claim : ℕ) (rest : Poly) → IsPolyOver ds rest → IsTextWith ds (basis_text ds rules claim rest) []
  basis_has claim rest rest_over =
      let is = basis_is ds declared known rules claim rest over rest_over in
      let lines = basis_lines ds rules claim rest in
      subst (λ (text : List ℕ). IsTextWith ds text []) (sym (basis_is_part ds rules claim rest))
      (skipped ds (part_text ds (other basis_head lines))
      (record { block = record { head = tokens_of basis_head; lines = content lines }; is = other_is_text other_words basis_head lines (reader ds).words is.0 refl is.2; of_other_kind = record { head = refl; lines = lines_go_on lines is.2 } }))

  block_has : (claim : ℕ) (v : Verdict) → IsWritableVerdict ds v → All (IsWritableModel ds) (refuted_in (v ∷ [])) → IsTextWith ds (block_text ds rules claim v) (refuted_in (v ∷ []))
  block_has claim (verdict.Proved e) writable each = skipped ds _ (evidence_is_skipped other_words certificates_are_others ds e declared known writable)
  block_has claim (verdict.NotDerivable rest) writable each = basis_has claim rest writable
  block_has claim (verdict.Refuted m) writable each =
      let is = All-head (IsWritableModel ds) m [] each in
      record { whole = model_is_whole ds declared known m is; has = model_has ds declared known m is }
  block_has claim (verdict.Undecided h) writable each = record { whole = refl; has = text_without_blocks (model_kind ds) [] no_text }
  block_has claim (verdict.NotRefuted candidates) writable each = record { whole = refl; has = text_without_blocks (model_kind ds) [] no_text }

  report_has : (claim : ℕ) (verdicts : List Verdict) → All (IsWritableVerdict ds) verdicts → All (IsWritableModel ds) (refuted_in verdicts) → length (refuted_in verdicts) ≤ block_limit
      → IsTextWith ds (report_from ds rules claim verdicts) (refuted_in verdicts)
  report_has claim [] writable each few = record { whole = refl; has = text_without_blocks (model_kind ds) [] no_text }
  report_has claim (v ∷ verdicts) writable each few =
      let here = All-head (IsWritableVerdict ds) v verdicts writable in
      let head = head_line ds (length rules) claim v in
      let own = refuted_in (v ∷ []) in
      let count : length own + length (refuted_in verdicts) ≡ length (refuted_in (v ∷ verdicts)) = sym (length-append own (refuted_in verdicts)) ∙ ap length (refuted-first v verdicts) in
      let first = with-append ds head (block_text ds rules claim v) [] own (head_has claim v here) (block_has claim v here (first_models ds v verdicts each)) (omega (arith, few, count)) in
      let rest = report_has (suc claim) verdicts (All-tail (IsWritableVerdict ds) v verdicts writable) (later_models ds v verdicts each) (omega (arith, few, count)) in
      subst (IsTextWith ds (report_from ds rules claim (v ∷ verdicts))) (refuted-first v verdicts)
      (with-append ds (head ++ block_text ds rules claim v) (report_from ds rules (suc claim) verdicts) own (refuted_in verdicts) first rest (omega (arith, few, count)))

-- what is read
no_model : (ds : List Declaration) (bytes : List ℕ) → HasModels ds bytes [] → IsFirstFault ds bytes no_block
no_model ds bytes has =
    let nothing : own_in has.blocks ≡ [] = nil_from_length (own_in has.blocks) (zip_length (λ b m. m ≡ model_value ds b) (own_in has.blocks) [] has.says) in
    none has.utf8 (record { blocks = has.blocks; are_blocks = has.are_blocks; none = nothing }) refl

-- models are what is read, or that there are none
read_as_models : (ds : List Declaration) (bytes : List ℕ) (ms : List Model) → HasModels ds bytes ms → IsReadAsModels ds bytes ms
read_as_models ds bytes ms has = record {
  has = has;
  some = λ some. record { has = has; some = some };
  none = λ nothing. no_model ds bytes (subst (HasModels ds bytes) nothing has);
}

pub reports_read_back_as_models : ReportsReadBackAsModels
reports_read_back_as_models ds rules verdicts declared known over writable each few =
    read_as_models ds (report_of ds rules verdicts) (refuted_in verdicts)
    (report_has ds rules declared known over 1 verdicts writable each (omega (arith, few, few_refuted verdicts))).has
