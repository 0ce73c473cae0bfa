-- Texts without line ends, of which lines are put together.
use Rattle.evidence_commands.proofs.Prelude.{◌≡◌, ℕ, ℤ, Bool, true, false, List, ◌++◌, Option, Some, refl, subst, codes, IsTrue, decimal, IfSome, signed_decimal, list_all, Overflow, Poly, Declaration, word_text, poly_text, is_named, operation_text}
use Rattle.evidence_commands.proofs.QuietTexts.{lacks}
use Rattle.evidence_commands.proofs.QuietBlocks.{lacks-append, number_is_part, integer_is_part, word_is_part, poly_is_part}

-- a text without line ends
pub record IsPart (text : List ℕ) : Type 0 where
  pub is : lacks 10 text ≡ true

-- what is written out
pub lit : (text : List ℕ) → lacks 10 text ≡ true → IsPart text
lit text is = record { is = is }

pub then : {xs ys : List ℕ} → IsPart xs → IsPart ys → IsPart (xs ++ ys)
then {xs} {ys} left right = record { is = lacks-append 10 xs ys left.is right.is }

pub num : (n : ℕ) → IsPart (decimal n)
num n = record { is = number_is_part n }

pub int : (z : ℤ) → IsPart (signed_decimal z)
int z = record { is = integer_is_part z }

-- the cause that is printed
pub told_is_part : (o : Option (List ℕ)) (cause : List ℕ) → IfSome o IsPart → o ≡ Some cause → lacks 10 cause ≡ true
told_is_part o cause is same = let P : Option (List ℕ) → Type 0 = λ x. IfSome x IsPart in let part : IsPart cause = subst P same is in part.is

operation : (product : Bool) → IsPart (operation_text product)
operation true = lit (codes " times ") refl
operation false = lit (codes " plus ") refl

pub overflow : (code : List ℕ) (row : ℕ) (o : Overflow) → IsPart code → IsPart (code ++ (decimal row ++ (codes " " ++ (signed_decimal o.left ++ (operation_text o.product ++ signed_decimal o.right)))))
overflow code row o is = then is (then (num row) (then (lit (codes " ") refl) (then (int o.left) (then (operation o.product) (int o.right)))))

module _ (ds : List Declaration) (known : IsTrue (list_all is_named ds)) where
  pub word : (w : List ℕ) → IsPart (word_text ds w)
  word w = record { is = word_is_part ds known w }

  pub poly : (p : Poly) → IsPart (poly_text ds p.terms)
  poly p = record { is = poly_is_part ds known p.terms }
