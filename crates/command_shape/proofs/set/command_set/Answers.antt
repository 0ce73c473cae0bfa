use Rattle.command_shape.proofs.Prelude.{command_set}
use Rattle.command_shape.proofs.set.command_set.Goals as goal

pub returns : goal.returns
unfolding command_set
returns c =
    let one = c.with_command-set.ensures.app _ _ c.bare_command.ensures.app c.prove_command.ensures.app in
    let two = c.with_command-set-2.ensures.app _ _ one c.pair_command.ensures.app in
    let three = c.with_command-set-3.ensures.app _ _ two c.refute_command.ensures.app in
    let four = c.with_command-set-4.ensures.app _ _ three c.pair_command-2.ensures.app in
    let five = c.with_command-set-5.ensures.app _ _ four c.bench_command.ensures.app in
    c.with_evidence.ensures _ five
