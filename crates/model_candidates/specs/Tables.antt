-- The tables by which values of the entries are tested, for private functions.
use Rattle.std.specs.Prelude.{◌≡◌, map}
use Rattle.quiver.specs.Declarations.{quiver_of}
use Rattle.adjoint_rules.specs.declared.parts.Shape.{Shape}
use Rattle.adjoint_rules.specs.declared.problem.Problem.{Problem}
use Rattle.model_candidates.specs.declared.tables.Tables.{Tables}
use Rattle.model_candidates.specs.LetterTables.{letter_tables}
use Rattle.model_candidates.specs.Residues.{residues}

-- Those of the letters, and the coefficients of the assumptions and of the claims modulo the modulus.
pub record AreTables (problem : Problem) (s : Shape) (t : Tables) : Type 0 where
  pub letters : t.letters ≡ letter_tables (quiver_of problem.parts.quiver) s
  pub assumptions : t.assumptions ≡ map (λ p. residues s.modulus p.terms) problem.parts.assumptions
  pub claims : t.claims ≡ map (λ p. residues s.modulus p.terms) problem.parts.claims
