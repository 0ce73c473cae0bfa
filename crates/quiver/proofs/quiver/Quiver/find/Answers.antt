use Rattle.quiver.proofs.Prelude.{◌≡◌, ◌∙◌, sym, refl, Option, Some, None, IfSome, Named, IsNamed}
use Rattle.quiver.proofs.Fields.{named_in-names}
use Rattle.quiver.proofs.Found.{is_named}
use Rattle.quiver.proofs.quiver.Quiver.find.Goals as goal

pub returns-clause-exact : goal.returns-clause-exact
returns-clause-exact c = c.copied.ensures ∙ c.get.ensures.value ∙ named_in-names c.self.inside c.args.self.now c.self.view_is c.self.invariant c.args.name.now

pub returns-clause-named : goal.returns-clause-named
returns-clause-named c = go c.copied.result refl
  where
    go : (found : Option Named) → c.copied.result ≡ found → IfSome found (IsNamed c.args.self.now c.args.name.now)
    go None e = tt
    go (Some named) e = is_named c.args.self.now c.args.name.now named (sym (returns-clause-exact c) ∙ e)
