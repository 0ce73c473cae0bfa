use Rattle.model_candidates.proofs.Prelude.{arith, quiver_of, posed_quiver}
use Rattle.model_candidates.proofs.CandidateModels.{modulus_of_shape}
use Rattle.model_candidates.proofs.tables.tables_of.Goals as goal

pub letter_tables-requires-clause-quiver : goal.letter_tables-requires-clause-quiver
letter_tables-requires-clause-quiver c = posed_quiver c.args.problem.now.parts c.args.problem.now.posed

pub residues_of_each-requires : goal.residues_of_each-requires
residues_of_each-requires c =
    let parts = c.args.problem.now.parts in
    let least = (modulus_of_shape (quiver_of parts.quiver) c.args.shape.now (posed_quiver parts c.args.problem.now.posed) c.requires).at_least in
    omega (arith, least)

pub residues_of_each-requires-2 : goal.residues_of_each-requires-2
residues_of_each-requires-2 c =
    let parts = c.args.problem.now.parts in
    let least = (modulus_of_shape (quiver_of parts.quiver) c.args.shape.now (posed_quiver parts c.args.problem.now.posed) c.requires).at_least in
    omega (arith, least)
