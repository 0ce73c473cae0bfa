use Rattle.quiver.proofs.Prelude.{sym, ap, subst, ◌<◌, ◌∙◌, letter_count}
use Rattle.quiver.proofs.Letters.{star-quiver_of, letter_is, in_range_from_table}
use Rattle.quiver.proofs.quiver.Quiver.star_of.Goals as goal

pub returns-clause-star : goal.returns-clause-star
returns-clause-star c = ap (λ e. e.star) c.letter_at.ensures.entry ∙ sym (star-quiver_of c.args.self.now c.args.letter.0 c.requires)

pub returns-clause-in_range : goal.returns-clause-in_range
returns-clause-in_range c =
    let letter = letter_is c.args.self.now c.letter_at.ensures.declared c.args.letter.0 c.requires in
    subst (λ a. a < letter_count c.args.self.now) (ap (λ e. e.star) (sym c.letter_at.ensures.entry)) (in_range_from_table c.args.self.now _ letter.star_is_letter)
