use Rattle.cofactor_checker.proofs.Prelude.{rules, ◌≡◌, unsigned_abs}
use Rattle.cofactor_checker.proofs.Each.{divides_tells}
use Rattle.cofactor_checker.proofs.scales.divides.Goals as goal

pub returns : goal.returns
returns c =
    let value : c.unsigned_abs.result ≡ unsigned_abs c.args.value = search rules in
    let by : c.unsigned_abs-2.result ≡ unsigned_abs c.args.by = search rules in
    rw (value, by) (divides_tells (unsigned_abs c.args.by) (unsigned_abs c.args.value))
