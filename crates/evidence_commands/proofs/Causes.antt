-- Which refusals of certificates have a text, and that it is a line.
use Rattle.evidence_commands.proofs.Prelude.{◌≡◌, ℕ, List, Some, refl, codes, IsTrue, IfSome, list_all, Declaration, Refusal, IsMemory, sum_limit, kept_limit, is_named}
use Rattle.cofactor_checker.specs.declared.refusal.Refusal.TheVariants as refusal
use Rattle.evidence_commands.specs.Causes.{cause_text}
use Rattle.evidence_commands.proofs.Parts.{IsPart, lit, then, num, int, overflow, word}

-- a refusal that has a line is no want of memory
pub told : (ds : List Declaration) (r : Refusal) (cause : List ℕ) → cause_text ds r ≡ Some cause → IsMemory r → ⊥
told ds (refusal.Memory failed) cause is memory = absurd cc
told ds other cause is memory = memory

-- a refusal that isn't want of memory has a text
pub refusal_text : (ds : List Declaration) (r : Refusal) → (IsMemory r → ⊥) → (cause : List ℕ) × (cause_text ds r ≡ Some cause)
refusal_text ds (refusal.Memory failed) h = absurd (h tt)
refusal_text ds other h = (_, refl)

-- which is a line, where each declaration has a name of the language
module _ (ds : List Declaration) (known : IsTrue (list_all is_named ds)) where
  pub caused : (r : Refusal) → IfSome (cause_text ds r) IsPart
  caused refusal.NoSuchClaim = lit (codes "C1") refl
  caused (refusal.NoSuchGenerator row) = then (lit (codes "C2 row ") refl) (num row)
  caused refusal.ZeroDenominator = lit (codes "C3") refl
  caused (refusal.Overflow row o) = overflow (codes "C4 row ") row o (lit (codes "C4 row ") refl)
  caused (refusal.Size row) = then (lit (codes "C5 row ") refl) (then (num row) (then (lit (codes " limit ") refl) (num sum_limit)))
  caused (refusal.Differs w want got) =
      then (lit (codes "C6 word ") refl) (then (word ds known w) (then (lit (codes " want ") refl) (then (int want) (then (lit (codes " got ") refl) (int got)))))
  caused (refusal.NoSuchLemma row) = then (lit (codes "C7 row ") refl) (num row)
  caused (refusal.NotDivisible lemma w got) =
      then (lit (codes "C8 lemma ") refl) (then (num lemma) (then (lit (codes " word ") refl) (then (word ds known w) (then (lit (codes " got ") refl) (int got)))))
  caused (refusal.LemmaSize lemma) = then (lit (codes "C9 lemma ") refl) (num lemma)
  caused (refusal.LooseScale lemma) = then (lit (codes "C10 lemma ") refl) (num lemma)
  caused (refusal.Kept row) = then (lit (codes "C11 row ") refl) (then (num row) (then (lit (codes " limit ") refl) (num kept_limit)))
  caused (refusal.Memory failed) = tt
