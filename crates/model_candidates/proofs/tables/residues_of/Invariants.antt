use Rattle.model_candidates.proofs.Prelude.{◌≡◌, take, residues}
use Rattle.model_candidates.proofs.tables.residues_of.Given as goal

-- those of the terms that were passed
abbrev pub invariant-loop-place : goal.invariant-loop-place
invariant-loop-place l = l.found ≡ residues l.fn.modulus (take l.place l.poly.terms)
