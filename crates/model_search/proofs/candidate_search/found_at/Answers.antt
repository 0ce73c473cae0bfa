use Rattle.model_search.proofs.Prelude.{refl}
use Rattle.model_search.proofs.Breaking.{breaks_as_named}
use Rattle.model_search.proofs.candidate_search.found_at.Goals as goal

pub returns : goal.returns
returns c =
    let pass = c.args.pass.now in record {
      shape_is = refl;
      candidate_is = refl;
      breaks = breaks_as_named pass.problem.now c.args.claim pass.plan.now.number pass.seed c.args.candidate c.in_ok-model.field-0
          c.in_ok-model.ensures.candidate c.requires.breaks c.in-Some.model c.in-Some.is;
    }
