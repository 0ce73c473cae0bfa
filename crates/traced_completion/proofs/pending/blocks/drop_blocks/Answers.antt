use Rattle.traced_completion.proofs.Prelude.{rules, ◌≡◌, ◌-◌, ◌++◌, length, take, drop, ◌∙◌, take_at, length-drop}
use Rattle.traced_completion.proofs.pending.blocks.drop_blocks.Goals as goal

pub returns : goal.returns
returns c =
    let items = c.args.blocks.now.items in
    let cut : c.truncate.new.self.items ≡ take (length items - c.args.count) (drop c.args.count items ++ take c.args.count items) = search rules in
    cut ∙ take_at (drop c.args.count items) (take c.args.count items) (length items - c.args.count) (length-drop c.args.count items)
