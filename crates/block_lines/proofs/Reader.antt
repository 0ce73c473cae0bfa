-- The reader of bases owes what a reader of blocks owes.
use Rattle.block_lines.proofs.Prelude.{◌≡◌, true, not, List, Some, refl, map, codes, list_all, Declaration, number_limit, bound_of, before, same_flaw, IsReader, PolynomialBound, names, writing, numbers, terms, words, polynomial_before, polynomial_behind, polynomial_read, Bound, on_polynomial, bounds, flaw_of, part, other_words, basis_kind, rule_limit, basis_steps}
use Rattle.block_lines.proofs.PolynomialReader.{polynomial_reader}
use Rattle.block_lines.proofs.SectionBlocks.{number_read, block_read}
use Rattle.block_lines.proofs.SectionReaders.{IsLineReader, none_read, line_read, lines_read}
use Rattle.block_lines.specs.BasisLines.{rules}

-- each has a bound of its own
told : (b : Bound) → bound_of flaw_of bounds (flaw_of b) ≡ Some b
told (on_polynomial names) = refl
told (on_polynomial writing) = refl
told (on_polynomial numbers) = refl
told (on_polynomial terms) = refl
told (on_polynomial words) = refl
told rules = refl

-- the bounds on polynomials count in their order, before the other
pub order : (b : PolynomialBound) → before flaw_of bounds (on_polynomial b) ≡ map on_polynomial (polynomial_before b)
order names = refl
order writing = refl
order numbers = refl
order terms = refl
order words = refl

last : (b : Bound) → list_all (λ c. not (same_flaw (flaw_of rules) (flaw_of c))) (before flaw_of bounds b) ≡ true
last (on_polynomial names) = refl
last (on_polynomial writing) = refl
last (on_polynomial numbers) = refl
last (on_polynomial terms) = refl
last (on_polynomial words) = refl
last rules = refl

module _ (ds : List Declaration) where
  rule_read : IsLineReader flaw_of bounds (polynomial_behind ds part (codes "rule")) (polynomial_read ds (codes "rule"))
  rule_read = polynomial_reader ds flaw_of bounds part on_polynomial (λ b. refl) (λ b. refl) order (codes "rule") refl

  rest_read : IsLineReader flaw_of bounds (polynomial_behind ds part (codes "rest")) (polynomial_read ds (codes "rest"))
  rest_read = polynomial_reader ds flaw_of bounds part on_polynomial (λ b. refl) (λ b. refl) order (codes "rest") refl

  pub reader : IsReader (basis_kind ds) (basis_steps ds)
  reader =
      block_read flaw_of bounds (codes "basis") (codes "1") other_words
      (line_read flaw_of bounds (number_read flaw_of bounds (on_polynomial numbers) (codes "claim") number_limit refl)
      (lines_read flaw_of bounds rule_read (line_read flaw_of bounds rest_read (none_read flaw_of bounds)) (codes "rule") rule_limit rules refl last (λ t fit. refl) (λ t fit. refl)))
      told (refl, refl) refl refl
