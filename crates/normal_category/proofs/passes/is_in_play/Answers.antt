use Rattle.normal_category.proofs.Prelude.{◌<◌, nat_eq, ap, ◌∙◌, arith, list_any, Object, letter_count, object_count}
use Rattle.normal_category.proofs.PassedRules.{object_in_play}
use Rattle.normal_category.proofs.passes.is_in_play.Goals as goal

pub returns-then-from-objects : goal.returns-then-from-objects
returns-then-from-objects c =
    let p = c.args.parts.now in
    let a = c.args.letter.0 in
    let letter : a < letter_count p.quiver = omega (arith, c.if-from-letters.false, c.from.ensures, c.letters.ensures.count) in
    let object : a < object_count p.quiver = omega (arith, c.if-from-objects.true, c.from-else-from-letters.ensures, c.objects.ensures.count) in
    object_in_play p.quiver p.starred p.marked a c.is_marked.result letter object
    (c.is_marked.ensures ∙ ap (list_any (λ (v : Object). nat_eq a v.0)) c.as_slice.ensures)
