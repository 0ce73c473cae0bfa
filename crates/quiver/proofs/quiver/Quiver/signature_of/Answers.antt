use Rattle.quiver.proofs.Prelude.{sym, ap, subst, ◌<◌, object_count}
use Rattle.quiver.proofs.Letters.{letter_is}
use Rattle.quiver.proofs.quiver.Quiver.signature_of.Goals as goal

pub returns-clause-source_in_range : goal.returns-clause-source_in_range
returns-clause-source_in_range c =
    let letter = letter_is c.args.self.now c.letter_at.ensures.declared c.args.letter.0 c.requires in
    subst (λ v. v < object_count c.args.self.now) (ap (λ e. e.source) (sym c.letter_at.ensures.entry)) letter.source_is_object

pub returns-clause-target_in_range : goal.returns-clause-target_in_range
returns-clause-target_in_range c =
    let letter = letter_is c.args.self.now c.letter_at.ensures.declared c.args.letter.0 c.requires in
    subst (λ v. v < object_count c.args.self.now) (ap (λ e. e.target) (sym c.letter_at.ensures.entry)) letter.target_is_object
