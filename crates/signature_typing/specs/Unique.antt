-- A file has one problem.
use Rattle.std.specs.Prelude.{◌≡◌, List}
use Rattle.signature_typing.specs.Types.{Statement, Problem}
use Rattle.adjoint_rules.specs.Problem.{polynomials}
use Rattle.signature_typing.specs.Typing.{IsProblemOf}

-- Two problems have the same parts and the same generators.
pub record AreSame (p q : Problem) : Type 0 where
  pub quiver : p.parts.quiver ≡ q.parts.quiver
  pub order : p.parts.order ≡ q.parts.order
  pub starred : p.parts.starred ≡ q.parts.starred
  pub marked : p.parts.marked ≡ q.parts.marked
  pub assumptions : polynomials p.parts.assumptions ≡ polynomials q.parts.assumptions
  pub signatures : p.parts.sigs ≡ q.parts.sigs
  pub claims : polynomials p.parts.claims ≡ polynomials q.parts.claims
  pub claim_signatures : p.parts.claim_sigs ≡ q.parts.claim_sigs
  pub shapes : p.parts.shapes ≡ q.parts.shapes
  pub solved : p.parts.solved ≡ q.parts.solved
  pub generators : polynomials p.generators ≡ polynomials q.generators

abbrev pub ProblemIsUnique : Type 0
ProblemIsUnique = (statements : List Statement) (p q : Problem) → IsProblemOf statements p → IsProblemOf statements q → AreSame p q
