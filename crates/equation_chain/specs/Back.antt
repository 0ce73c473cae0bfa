-- Chains that are written are read back, whatever texts are before and after them.
use Rattle.std.specs.Prelude.{◌≡◌, ℕ, ◌+◌, ◌<◌, ◌^◌, List, [], ◌++◌, length, IsTrue, codes}
use Rattle.std.specs.List.{All, list_all}
use Rattle.coef_int.specs.Range.{IsCoefficient}
use Rattle.word_core.specs.Letters.{IsOver}
use Rattle.nc_polynomial.specs.Shape.{IsCanonical}
use Rattle.quiver.specs.Declarations.{Declaration, letter_count, IsDeclared}
use Rattle.traced_rows.specs.declared.certificate.CertRow.{CertRow}
use Rattle.traced_rows.specs.declared.certificate.Certificate.{Certificate}
use Rattle.adjoint_rules.specs.declared.problem.Problem.{Problem}
use Rattle.block_text.specs.Back.{is_named}
use Rattle.block_text.specs.Laws.{AreReadBack}
use Rattle.certificate_text.specs.Back.{IsWritableInteger}
use Rattle.certificate_text.specs.Evidence.{IsCheckable, IsRowOver}
use Rattle.definitions.specs.Poly.{Poly}
use Rattle.equation_chain.specs.Blocks.{ChainTerms, HasChains}
use Rattle.equation_chain.specs.Faults.{IsExplained}
use Rattle.equation_chain.specs.Lines.{lines_of}
use Rattle.equation_chain.specs.Steps.{steps_of}
use Rattle.equation_chain.specs.Written.{chain_text}

-- the text of a chain, with the LF that ends it
abbrev pub text_of : List Declaration → ChainTerms → List ℕ
text_of ds c = chain_text ds c.claim c.denominator c.steps c.lines ++ codes "\n"

-- numbers in range, and letters of the quiver
pub record IsReadableStep (ds : List Declaration) (step : CertRow) : Type 0 where
  pub coefficient : IsCoefficient step.coef
  pub generator : step.generator < 2 ^ 32
  pub letters : IsRowOver ds step

-- a canonical polynomial in letters of the quiver, without the empty word
pub record IsReadableLine (ds : List Declaration) (line : Poly) : Type 0 where
  pub canonical : IsCanonical line
  pub letters : All (λ t. IsOver (letter_count ds) t.1) line
  pub nonempty : All (λ t. 0 < length t.1) line

-- one line more than steps
pub record IsReadable (ds : List Declaration) (c : ChainTerms) : Type 0 where
  pub claim : c.claim < 2 ^ 32
  pub denominator : IsWritableInteger c.denominator
  pub steps : All (IsReadableStep ds) c.steps
  pub lines : All (IsReadableLine ds) c.lines
  pub long : length c.lines ≡ length c.steps + 1

-- Such a chain that is written is read as it is, between whole lines and other lines; so are the chains of a text of chains and comments.
abbrev pub ChainsAreReadBack : Type 0
ChainsAreReadBack = (ds : List Declaration) → IsDeclared ds → IsTrue (list_all is_named ds) → AreReadBack (HasChains ds) (text_of ds) (IsReadable ds) []

-- A text has at most one list of chains, whatever the quiver.
abbrev pub ChainsAreUnique : Type 0
ChainsAreUnique = (ds : List Declaration) (bytes : List ℕ) (one other : List ChainTerms) → HasChains ds bytes one → HasChains ds bytes other → one ≡ other

-- So two chains with the same text are the same chain.
abbrev pub TextsTellChains : Type 0
TextsTellChains = (ds : List Declaration) (one other : ChainTerms) → IsDeclared ds → IsTrue (list_all is_named ds)
    → IsReadable ds one → IsReadable ds other → text_of ds one ≡ text_of ds other → one ≡ other

-- the chain of a certificate, as `explain` prints it
abbrev pub chain_of : Problem → Certificate → ChainTerms
chain_of problem c = record { claim = c.claim; denominator = c.denominator; steps = steps_of problem c; lines = lines_of problem c }

-- Each explained certificate has a readable chain, where its numbers and letters are as in a certificate that is read.
abbrev pub ExplainedIsReadable : Type 0
ExplainedIsReadable = (problem : Problem) (c : Certificate) → IsCheckable problem.parts.quiver c → IsExplained problem c
    → IsReadable problem.parts.quiver (chain_of problem c)
