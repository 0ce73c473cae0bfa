use Rattle.block_text.proofs.Prelude.{rules, ◌≡◌, ◌++◌, later_by}
use Rattle.block_text.proofs.Puts.{each_put}
use Rattle.block_text.proofs.poly.put_later_terms.Goals as goal

pub loop-term-preserved : goal.loop-term-preserved
loop-term-preserved g c =
    let later = later_by (g.L.Letters.text c.args.letters.now) in
    let put : c.put_term.new.out.items ≡ c.loop-term.out.items ++ later c.term-item.result = search rules in
    each_put later c.args.terms.now c.loop-term.term-index c.term-item.result c.args.out.now.items c.loop-term.out.items c.put_term.new.out.items
    c.loop-term-test.true c.term-item.is c.loop-term.invariant put
