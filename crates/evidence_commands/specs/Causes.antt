-- The lines of a report on certificates that are accepted or refused.
use Rattle.std.specs.Prelude.{⊤, ℕ, ℤ, Bool, List, ◌++◌, codes, decimal, if◌then◌else◌, Option, Some, None}
use Rattle.std.specs.Fmt.{signed_decimal}
use Rattle.word_core.specs.Letters.{IsOver}
use Rattle.quiver.specs.Declarations.{Declaration, letter_count}
use Rattle.cofactor_checker.specs.declared.refusal.Refusal.{Refusal}
use Rattle.cofactor_checker.specs.declared.refusal.Refusal.TheVariants as refusal
use Rattle.cofactor_checker.specs.Rows.{sum_limit}
use Rattle.cofactor_checker.specs.Lemmas.{kept_limit}
use Rattle.block_text.specs.Written.{word_text}

abbrev pub operation_text : Bool → List ℕ
operation_text product = if product then codes " times " else codes " plus "

-- the text of an accepted certificate
abbrev pub claim_text : ℕ → ℤ → List ℕ
claim_text claim denominator = codes "accepted claim " ++ (decimal claim ++ (codes " denominator " ++ signed_decimal denominator))

-- why a block is refused; no line says that memory is short
abbrev pub cause_text : List Declaration → Refusal → Option (List ℕ)
cause_text ds refusal.NoSuchClaim = Some (codes "C1")
cause_text ds (refusal.NoSuchGenerator row) = Some (codes "C2 row " ++ decimal row)
cause_text ds refusal.ZeroDenominator = Some (codes "C3")
cause_text ds (refusal.Overflow row o) =
    Some (codes "C4 row " ++ (decimal row ++ (codes " " ++ (signed_decimal o.left ++ (operation_text o.product ++ signed_decimal o.right)))))
cause_text ds (refusal.Size row) = Some (codes "C5 row " ++ (decimal row ++ (codes " limit " ++ decimal sum_limit)))
cause_text ds (refusal.Differs word want got) =
    Some (codes "C6 word " ++ (word_text ds word ++ (codes " want " ++ (signed_decimal want ++ (codes " got " ++ signed_decimal got)))))
cause_text ds (refusal.NoSuchLemma row) = Some (codes "C7 row " ++ decimal row)
cause_text ds (refusal.NotDivisible lemma word got) =
    Some (codes "C8 lemma " ++ (decimal lemma ++ (codes " word " ++ (word_text ds word ++ (codes " got " ++ signed_decimal got)))))
cause_text ds (refusal.LemmaSize lemma) = Some (codes "C9 lemma " ++ decimal lemma)
cause_text ds (refusal.LooseScale lemma) = Some (codes "C10 lemma " ++ decimal lemma)
cause_text ds (refusal.Kept row) = Some (codes "C11 row " ++ (decimal row ++ (codes " limit " ++ decimal kept_limit)))
cause_text ds (refusal.Memory failed) = None

-- the letters that the text of a refusal names are letters of the quiver
abbrev pub HasLetters : List Declaration → Refusal → Type 0
HasLetters ds (refusal.Differs word want got) = IsOver (letter_count ds) word
HasLetters ds (refusal.NotDivisible lemma word got) = IsOver (letter_count ds) word
HasLetters ds other = ⊤
