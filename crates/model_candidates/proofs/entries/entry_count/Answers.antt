use Rattle.model_candidates.proofs.Prelude.{length, ap, sym, ◌∙◌, quiver_of, letters-quiver_of, entries_before}
use Rattle.model_candidates.proofs.entries.entry_count.Goals as goal

pub returns-clause-count : goal.returns-clause-count
returns-clause-count c =
    c.entries_before.ensures.count
    ∙ ap (λ n. length (entries_before (quiver_of c.args.quiver.now) c.args.shape.now n)) (c.letters.ensures.count ∙ sym (letters-quiver_of c.args.quiver.now))
