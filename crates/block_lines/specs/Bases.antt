-- Bases in evidence text: those of bytes, or the first fault of the bytes.
use Rattle.std.specs.Prelude.{ℕ, List, [], ◌∷◌, map, codes}
use Rattle.std.specs.List.{All}
use Rattle.nc_polynomial.specs.Shape.{IsCanonical}
use Rattle.quiver.specs.Declarations.{Declaration}
use Rattle.block_text.specs.Fault.{Fault}
use Rattle.block_text.specs.Kind.{Kind}
use Rattle.block_text.specs.Texts as texts
use Rattle.block_text.specs.Texts.{HasBlocks, IsBlocks}
use Rattle.block_lines.specs.Sections.{block_kind}
use Rattle.adjoint_rules.specs.declared.basis.Basis.{Basis}
use Rattle.block_lines.specs.BasisLines.{bounds, flaw_of, BasisTerms, basis_lines}

-- blocks of these kinds aren't read
abbrev pub other_words : List (List ℕ)
other_words = codes "certificate" ∷ codes "model" ∷ codes "cancellation" ∷ []

-- basis 1, and its lines
abbrev pub basis_kind : List Declaration → Kind BasisTerms
basis_kind ds = block_kind (codes "basis") (codes "1") other_words bounds flaw_of (basis_lines ds)

-- a basis by the terms of its polynomials
abbrev pub by_terms : Basis → BasisTerms
by_terms b = (b.claim, (map (λ p. p.terms) b.rules, (b.rest.terms, tt)))

-- The bytes are UTF-8, their lines are blocks within all bounds, and these are the bases among them.
abbrev pub HasBases : List Declaration → List ℕ → List Basis → Type 0
HasBases ds bytes bases = HasBlocks (basis_kind ds) bytes (map by_terms bases)

-- There is at least one.
abbrev pub IsBases : List Declaration → List ℕ → List Basis → Type 0
IsBases ds bytes bases = IsBlocks (basis_kind ds) bytes (map by_terms bases)

-- the first fault of the bytes
abbrev pub IsFirstFault : List Declaration → List ℕ → Fault → Type 0
IsFirstFault ds = texts.IsFirstFault (basis_kind ds)

-- The terms are those of polynomials.
pub record AreCanonical (b : BasisTerms) : Type 0 where
  pub rules : All IsCanonical b.1.0
  pub rest : IsCanonical b.1.1.0
