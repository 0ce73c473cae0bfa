use Rattle.model_candidates.proofs.Prelude.{◌^◌, nat_le, ap, subst, ◌∙◌, quiver_of, Plan, exhaustive_limit, FitsShape, set_count, solved_flags, posed_quiver}
use Rattle.model_candidates.proofs.NumberedShapes.{one_shape, posed_shape}
use Rattle.model_candidates.proofs.plan.plan_of.Goals as goal

pub entry_count-entries-requires-clause-quiver : goal.entry_count-entries-requires-clause-quiver
entry_count-entries-requires-clause-quiver c = posed_quiver c.args.problem.now.parts c.args.problem.now.posed

pub entry_count-entries-requires-clause-shape : goal.entry_count-entries-requires-clause-shape
entry_count-entries-requires-clause-shape c = posed_shape c.args.problem.now _ c.at-form.ensures

pub solved_flags-requires-clause-quiver : goal.solved_flags-requires-clause-quiver
solved_flags-requires-clause-quiver c = posed_quiver c.args.problem.now.parts c.args.problem.now.posed

pub solved_flags-requires-clause-shape : goal.solved_flags-requires-clause-shape
solved_flags-requires-clause-shape c = posed_shape c.args.problem.now _ c.at-form.ensures

pub numbers_of_letters-requires-clause-shape : goal.numbers_of_letters-requires-clause-shape
numbers_of_letters-requires-clause-shape c = posed_shape c.args.problem.now _ c.at-form.ensures

pub tables_of-requires : goal.tables_of-requires
tables_of-requires c = posed_shape c.args.problem.now _ c.at-form.ensures

pub returns-clause-plan : goal.returns-clause-plan
returns-clause-plan c =
    let problem = c.args.problem.now in
    let q = quiver_of problem.parts.quiver in
    let form = c.at-form.result.now in
    let plan : Plan = record {
      number = c.args.shape;
      entries = c.entry_count-entries.result;
      exhaustive = c.is_exhaustive.result;
      unknowns = c.unknown_count-unknowns.result;
      solved = c.in_ok-solved.solved;
      numbers = c.in_ok-numbers.numbers;
      assumptions = c.in_ok-assumptions.assumptions;
      tables = c.in_ok-tables.tables;
    } in
    record {
      least = c.requires.least;
      most = c.requires.most;
      fits = λ s numbered. subst (λ t. FitsShape problem t plan) (one_shape c.at-form.ensures numbered) record {
        entries = c.entry_count-entries.ensures.count;
        exhaustive = c.is_exhaustive.ensures ∙ ap (λ n. nat_le (form.modulus ^ n) exhaustive_limit) c.entry_count-entries.ensures.count;
        solved = c.in_ok-solved.ensures ∙ ap (solved_flags q form) c.as_slice.ensures;
        unknowns = c.unknown_count-unknowns.ensures ∙ ap set_count c.as_slice-2.ensures;
        numbers = c.in_ok-numbers.ensures;
        assumptions = c.in_ok-assumptions.ensures;
        tables = c.in_ok-tables.ensures;
      };
    }
