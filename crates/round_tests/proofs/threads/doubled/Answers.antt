use Rattle.round_tests.proofs.Prelude.{◌*◌, IfOk-weaker, AllZip-map}
use Rattle.round_tests.proofs.threads.doubled.Goals as goal

-- answers in the job's relation are its values
pub returns : goal.returns
returns g c = IfOk-weaker c.map_in_order.result _ _ (λ answers agree. AllZip-map (λ number. 2 * number) c.args.numbers.now answers.items agree) c.map_in_order.ensures.answers
