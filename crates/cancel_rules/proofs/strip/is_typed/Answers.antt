use Rattle.cancel_rules.proofs.Prelude.{rules, ◌≡◌, ◌≢◌, length, quiver_of}
use Rattle.cancel_rules.proofs.Signed.{typed_tells, zero_is_typed, has_terms}
use Rattle.cancel_rules.proofs.strip.is_typed.Goals as goal

pub returns-then-terms-eq0 : goal.returns-then-terms-eq0
returns-then-terms-eq0 c =
    let none : length c.args.poly.now.terms ≡ 0 = search rules in
    (λ is. zero_is_typed (quiver_of c.args.quiver.now) c.requires.object c.args.poly.now.terms none, λ has. search rules)

pub returns-else-terms-eq0 : goal.returns-else-terms-eq0
returns-else-terms-eq0 c =
    let some : length c.args.poly.now.terms ≢ 0 = search rules in
    let tells = c.poly_signature.ensures in
    typed_tells (quiver_of c.args.quiver.now) c.requires.quiver c.args.poly.now.terms (has_terms c.args.poly.now.terms some) c.poly_signature.result tells.paths tells.typed tells.untyped c.is_some.result c.is_some.ensures
