use Rattle.cofactor_checker.proofs.Prelude.{rules, ◌≡◌, All, length, take, refl, sym, subst, arith, to_z, of_z, slice_get_read}
use mir.Syntax.{w128}
use Rattle.cofactor_checker.proofs.Each.{all_whole, clash}
use Rattle.cofactor_checker.proofs.scales.first_loose.Goals as goal

pub returns-then-not-is_tight-clause-loose : goal.returns-then-not-is_tight-clause-loose
returns-then-not-is_tight-clause-loose g c =
    let items = c.args.items.now in
    let i = c.loop-item.item-index in
    let is : to_z w128 (of_z w128 c.args.denominator) ≡ c.args.denominator = search rules in (
      record {
        before = i;
        item = c.item-item.result;
        there = slice_get_read items (length items) i c.item-item.result refl c.loop-item-test.true c.item-item.is;
        earlier = subst (λ z. All (g.I.Scaled.tight z) (take i items)) is c.loop-item.invariant.tight;
        fails = λ tight. clash c.is_tight.result (c.is_tight.ensures.1 (subst (λ z. g.I.Scaled.tight z c.item-item.result) (sym is) tight)) c.if-not-is_tight.true;
      },
      omega arith,
    )

pub returns-clause-tight : goal.returns-clause-tight
returns-clause-tight g c =
    let is : to_z w128 (of_z w128 c.args.denominator) ≡ c.args.denominator = search rules in
    all_whole (g.I.Scaled.tight c.args.denominator) c.args.items.now c.loop-item.item-index (omega arith) (subst (λ z. All (g.I.Scaled.tight z) (take c.loop-item.item-index c.args.items.now)) is c.loop-item.invariant.tight)
