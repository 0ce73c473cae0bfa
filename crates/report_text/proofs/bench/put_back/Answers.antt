use Rattle.report_text.proofs.Prelude.{rules, ◌≡◌, ◌++◌, ◌+◌, ◌-◌, codes, numbered}
use Rattle.report_text.proofs.Ranges.{text_put}
use Rattle.report_text.proofs.bench.put_back.Goals as goal

pub loop-place-preserved : goal.loop-place-preserved
loop-place-preserved c =
    let put : c.put_numbered.new.out.items ≡ c.loop-place.out.items ++ numbered (codes " r") (c.args.size - (0 + c.loop-place.place)) = search rules in
    text_put (λ place. numbered (codes " r") (c.args.size - place)) 0 c.loop-place.place c.args.out.now.items c.loop-place.out.items c.put_numbered.new.out.items c.loop-place.invariant put
