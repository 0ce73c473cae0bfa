-- The head line of a verdict is a comment.
use Rattle.report_readback.proofs.Prelude.{◌≡◌, ℕ, List, ◌++◌, Option, Some, None, refl, codes, IsTrue, decimal, signed_decimal, list_all, Overflow, word_limit, term_limit, row_limit, letter_limit, Declaration, IsDeclared, Evidence, Halt, Cause, Place, denominator_of, comment, is_named, IsLineText, part_text, nothing_is_line, word_is_line, literal, line_text-append, Verdict, row_count, denominator_text, proved_text, overflow_text, cause_text, place_text, least_text, undecided_text, said_of, head_line, IsLeastOver, IsWritableVerdict}
use Rattle.cofactor_trace.specs.declared.halt.Cause.TheVariants as cause
use Rattle.cofactor_trace.specs.declared.halt.Place.TheVariants as place
use Rattle.report_text.specs.declared.verdict.Verdict.TheVariants as verdict
use Rattle.report_readback.proofs.Numerals.{either, decimal_is_line, signed_is_line}

-- a text and then a number
labelled_is_line : (label : List ℕ) (n : ℕ) → IsLineText label → IsLineText (label ++ decimal n)
labelled_is_line label n is = line_text-append label (decimal n) is (decimal_is_line n)

proved_is_line : (e : Evidence) → IsLineText (proved_text e)
proved_is_line e =
    line_text-append (denominator_text (denominator_of e)) (codes " rows " ++ decimal (row_count e))
    (line_text-append (codes " proved denominator ") (signed_decimal (denominator_of e)) (literal (codes " proved denominator ") refl refl) (signed_is_line (denominator_of e)))
    (labelled_is_line (codes " rows ") (row_count e) (literal (codes " rows ") refl refl))

overflow_is_line : (o : Overflow) → IsLineText (overflow_text o)
overflow_is_line o =
    let operator = either IsLineText o.product (codes " times ") (codes " plus ") (literal (codes " times ") refl refl) (literal (codes " plus ") refl refl) in
    line_text-append _ (signed_decimal o.right) (line_text-append (signed_decimal o.left) _ (signed_is_line o.left) operator) (signed_is_line o.right)

cause_is_line : (c : Cause) → IsLineText (cause_text c)
cause_is_line (cause.Pairs spent) = labelled_is_line (codes "pairs ") spent (literal (codes "pairs ") refl refl)
cause_is_line (cause.Steps limit) = labelled_is_line (codes "steps ") limit (literal (codes "steps ") refl refl)
cause_is_line (cause.Size letters) = either IsLineText letters (codes "size letters " ++ decimal word_limit) (codes "size terms " ++ decimal term_limit)
    (labelled_is_line (codes "size letters ") word_limit (literal (codes "size letters ") refl refl))
    (labelled_is_line (codes "size terms ") term_limit (literal (codes "size terms ") refl refl))
cause_is_line (cause.Rows letters) = either IsLineText letters (codes "rows letters " ++ decimal letter_limit) (codes "rows " ++ decimal row_limit)
    (labelled_is_line (codes "rows letters ") letter_limit (literal (codes "rows letters ") refl refl))
    (labelled_is_line (codes "rows ") row_limit (literal (codes "rows ") refl refl))
cause_is_line (cause.Overflow o) = line_text-append (codes "overflow ") (overflow_text o) (literal (codes "overflow ") refl refl) (overflow_is_line o)

place_is_line : (p : Place) → IsLineText (place_text p)
place_is_line place.Run = nothing_is_line
place_is_line (place.Round number) = labelled_is_line (codes " at round ") number (literal (codes " at round ") refl refl)
place_is_line (place.Claim number) = labelled_is_line (codes " at claim after round ") number (literal (codes " at claim after round ") refl refl)
place_is_line (place.Certificate number) = labelled_is_line (codes " at certificate after round ") number (literal (codes " at certificate after round ") refl refl)

-- what follows the #
abbrev pub told_of : List Declaration → ℕ → ℕ → Verdict → List ℕ
told_of ds rules claim v = codes " claim " ++ decimal claim ++ said_of ds rules v

pub head_is_comment : (ds : List Declaration) (rules claim : ℕ) (v : Verdict) → head_line ds rules claim v ≡ part_text ds (comment (told_of ds rules claim v))
head_is_comment ds rules claim v = refl

module _ (ds : List Declaration) (declared : IsDeclared ds) (known : IsTrue (list_all is_named ds)) where
  least_is_line : (least : Option (List ℕ)) → IsLeastOver ds least → IsLineText (least_text ds least)
  least_is_line None over = nothing_is_line
  least_is_line (Some word) over = line_text-append (codes " least ") _ (literal (codes " least ") refl refl) (word_is_line ds declared known word over)

  undecided_is_line : (h : Halt) → IsLeastOver ds h.least → IsLineText (undecided_text ds h)
  undecided_is_line h over =
      line_text-append _ (least_text ds h.least)
      (line_text-append _ (place_text h.place) (line_text-append (codes " undecided ") (cause_text h.cause) (literal (codes " undecided ") refl refl) (cause_is_line h.cause)) (place_is_line h.place))
      (least_is_line h.least over)

  said_is_line : (rules : ℕ) (v : Verdict) → IsWritableVerdict ds v → IsLineText (said_of ds rules v)
  said_is_line rules (verdict.Proved e) writable = proved_is_line e
  said_is_line rules (verdict.NotDerivable rest) writable = labelled_is_line (codes " not derivable rules ") rules (literal (codes " not derivable rules ") refl refl)
  said_is_line rules (verdict.Refuted m) writable = literal (codes " refuted") refl refl
  said_is_line rules (verdict.Undecided h) writable = undecided_is_line h writable
  said_is_line rules (verdict.NotRefuted candidates) writable = labelled_is_line (codes " not refuted candidates ") candidates (literal (codes " not refuted candidates ") refl refl)

  pub told_is_line : (rules claim : ℕ) (v : Verdict) → IsWritableVerdict ds v → IsLineText (told_of ds rules claim v)
  told_is_line rules claim v writable =
      line_text-append _ (said_of ds rules v) (labelled_is_line (codes " claim ") claim (literal (codes " claim ") refl refl)) (said_is_line rules v writable)
