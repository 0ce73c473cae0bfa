use Rattle.quiver.proofs.Prelude.{sym, ap, subst, ◌<◌, ◌∙◌, letter_count}
use Rattle.quiver.proofs.Identities.{identity_in_range, identity_is}
use Rattle.quiver.proofs.quiver.Quiver.identity_of.Goals as goal

pub returns-clause-in_range : goal.returns-clause-in_range
returns-clause-in_range c =
    subst (λ a. a < letter_count c.args.self.now) (ap (λ e. e.identity) (sym c.object_at.ensures.entry)) (identity_in_range c.args.self.now c.args.object.0 c.requires)

pub returns-clause-objects_first : goal.returns-clause-objects_first
returns-clause-objects_first c = λ first. ap (λ e. e.identity) c.object_at.ensures.entry ∙ identity_is c.args.self.now first c.args.object.0 c.requires
