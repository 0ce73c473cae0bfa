use Rattle.equation_chain.proofs.Prelude.{quiver_of}
use Rattle.equation_chain.proofs.Leads.{three_lead, three_misfit}
use Rattle.equation_chain.proofs.step.source_of.Goals as goal

pub returns-clause-leads : goal.returns-clause-leads
returns-clause-leads c =
    three_lead (quiver_of c.args.quiver.now) c.args.target.0 c.in_ok-middle.middle.0 c.in_ok-inner.inner.0 c.args.left.now c.args.word.now c.args.right.now
    c.in_ok-middle.ensures.leads c.in_ok-inner.ensures.leads c.start_of-3.result c.start_of-3.ensures.leads

pub returns-clause-misfits : goal.returns-clause-misfits
returns-clause-misfits c =
    three_misfit (quiver_of c.args.quiver.now) c.args.target.0 c.in_ok-middle.middle.0 c.in_ok-inner.inner.0 c.args.left.now c.args.word.now c.args.right.now
    c.in_ok-middle.ensures.leads c.in_ok-inner.ensures.leads c.start_of-3.result c.start_of-3.ensures.misfits
