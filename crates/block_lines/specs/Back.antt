-- Bases that are written are read back, whatever texts are before and after them.
use Rattle.std.specs.Prelude.{◌<◌, ◌≤◌, ◌^◌, ℕ, List, length, IsTrue}
use Rattle.std.specs.List.{All, list_all}
use Rattle.nc_polynomial.specs.declared.poly.Poly.{Poly}
use Rattle.quiver.specs.Declarations.{Declaration, IsDeclared}
use Rattle.block_text.specs.Back.{is_named}
use Rattle.block_text.specs.Laws.{IsReadBetween, AreReadInParts}
use Rattle.adjoint_rules.specs.declared.basis.Basis.{Basis}
use Rattle.block_lines.specs.Bases.{other_words, HasBases}
use Rattle.adjoint_rules.specs.Bases.{IsBasisOver}
use Rattle.adjoint_rules.specs.Limits.{rule_limit}
use Rattle.block_lines.specs.Written.{basis_text}

-- no word of the polynomial is empty
abbrev pub HasLetters : Poly → Type 0
HasLetters p = All (λ t. 0 < length t.1) p.terms

-- a basis over the quiver, with no empty word, with a claim and with rules within their limits
pub record IsWritableBasis (ds : List Declaration) (b : Basis) : Type 0 where
  pub claim : b.claim < 2 ^ 32
  pub few : length b.rules ≤ rule_limit
  pub over : IsBasisOver ds b
  pub rules : All HasLetters b.rules
  pub rest : HasLetters b.rest

abbrev pub text_of : List Declaration → Basis → List ℕ
text_of ds b = basis_text ds b.rules b.claim b.rest

-- A basis that is written between whole lines and other lines is read as it is, after the bases of the lines before it
-- and before those of the lines after it.
abbrev pub BasesAreReadBack : Type 0
BasesAreReadBack = (ds : List Declaration) → IsDeclared ds → IsTrue (list_all is_named ds) → IsReadBetween (HasBases ds) (text_of ds) (IsWritableBasis ds)

-- The bases of a text of written bases, comments and blocks of other kinds are those bases, in their order.
abbrev pub ArePartsReadBack : Type 0
ArePartsReadBack = (ds : List Declaration) → IsDeclared ds → IsTrue (list_all is_named ds)
    → AreReadInParts (HasBases ds) (text_of ds) (IsWritableBasis ds) other_words
