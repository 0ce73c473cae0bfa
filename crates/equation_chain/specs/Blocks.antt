-- Chains as text: blocks of a line, and of a step and a line in turn.
use Rattle.std.specs.Prelude.{◌≡◌, ⊤, ℕ, ℤ, List, [], ◌∷◌, drop, map, IsTrue, Some, Ok, codes}
use Rattle.std.specs.List.{All, AllZip, flat_map}
use Rattle.definitions.specs.Poly.{Poly}
use Rattle.quiver.specs.Declarations.{Declaration}
use Rattle.traced_rows.specs.declared.certificate.CertRow.{CertRow}
use Rattle.block_text.specs.Kind.{Kind, kind_of}
use Rattle.block_text.specs.Letters.{is_number, number_within}
use Rattle.block_text.specs.Lines.{Line, number_limit, claim_line, integer_of}
use Rattle.block_text.specs.PolynomialBack.{IsPolynomialLine}
use Rattle.block_text.specs.Texts.{HasBlocks}
use Rattle.certificate_text.specs.Lines.{RowTokens, row_values}
use Rattle.certificate_text.specs.Blocks.{row_line, denominator_line, IsPlainRow}

-- a chain, with its lines as lists of terms
pub record ChainTerms : Type 0 where
  pub claim : ℕ
  pub denominator : ℤ
  pub steps : List CertRow
  pub lines : List Poly

-- the tokens of a step, and those of the polynomial after it
pub record StepTokens : Type 0 where
  pub step : RowTokens
  pub line : Line

-- the same of a chain, with those of its first polynomial
pub record ChainTokens : Type 0 where
  pub claim : List ℕ
  pub denominator : List ℕ
  pub first : Line
  pub steps : List StepTokens

-- line POLYNOMIAL
abbrev pub said_line : Line → Line
said_line polynomial = codes "line" ∷ polynomial

-- use C (LETTERS) G (LETTERS), which is a row except its first word
abbrev pub use_line : RowTokens → Line
use_line r = codes "use" ∷ drop 1 (row_line r)

abbrev pub step_lines : StepTokens → List Line
step_lines s = use_line s.step ∷ said_line s.line ∷ []

-- all but the line that ends it
abbrev pub chain_lines : ChainTokens → List Line
chain_lines b =
    (codes "chain" ∷ codes "1" ∷ []) ∷ claim_line b.claim ∷ denominator_line b.denominator ∷ said_line b.first ∷ flat_map step_lines b.steps

-- a claim, a denominator and steps over generators
pub record IsChainBlock (b : ChainTokens) : Type 0 where
  pub claim : IsTrue (is_number b.claim)
  pub denominator : IsTrue (is_number b.denominator)
  pub steps : All (λ s. IsPlainRow s.step) b.steps

-- its polynomials
abbrev pub lines_in : ChainTokens → List Line
lines_in b = b.first ∷ map (λ s. s.line) b.steps

-- The numbers, the letters and the polynomials are those of the chain.
pub record SaysChain (ds : List Declaration) (b : ChainTokens) (c : ChainTerms) : Type 0 where
  pub claim : number_within number_limit b.claim ≡ Some c.claim
  pub denominator : integer_of b.denominator ≡ Ok c.denominator
  pub steps : AllZip (λ s step. row_values ds s.step ≡ Ok step) b.steps c.steps
  pub lines : AllZip (IsPolynomialLine ds) (lines_in b) c.lines

-- Chains are a kind of block, in whose texts there are no other kinds, and which has no bounds of its own.
abbrev pub chain_kind : List Declaration → Kind ChainTerms
chain_kind ds = kind_of {Bound = ⊥} chain_lines IsChainBlock [] [] (λ bound. absurd bound) (λ bound b. ⊤) (SaysChain ds)

-- The bytes are UTF-8, their lines are blocks, and these are their chains, in order.
abbrev pub HasChains : List Declaration → List ℕ → List ChainTerms → Type 0
HasChains ds = HasBlocks (chain_kind ds)
