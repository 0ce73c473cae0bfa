use Rattle.block_text.proofs.Prelude.{sym, ◌∙◌}
use Rattle.block_text.proofs.Closing.{closed_at, never_closed}
use Rattle.block_text.proofs.bracket.closed.Goals as goal

pub returns-in-Some : goal.returns-in-Some
returns-in-Some c = sym (closed_at c.args.line.now c.in-Some.place (sym c.close_place.ensures.first ∙ c.in-Some.is) c.in-Some.ensures.within)

pub returns-in-None : goal.returns-in-None
returns-in-None c = sym (never_closed c.args.line.now (sym c.close_place.ensures.first ∙ c.in-None.is))
