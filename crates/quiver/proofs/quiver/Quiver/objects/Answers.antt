use Rattle.quiver.proofs.Prelude.{arith}
use Rattle.quiver.proofs.Fields.{are_declared, objects_len}
use Rattle.quiver.proofs.Identities.{is_quiver}
use Rattle.quiver.proofs.quiver.Quiver.objects.Goals as goal

pub returns-clause-count : goal.returns-clause-count
returns-clause-count c = omega (arith, c.len.ensures, objects_len c.self.inside c.args.self.now c.self.view_is c.self.invariant)

pub returns-clause-quiver : goal.returns-clause-quiver
returns-clause-quiver c = is_quiver c.args.self.now (are_declared c.self.inside c.args.self.now c.self.view_is c.self.invariant)

-- few enough for a u32
pub overflow_cast-result : goal.overflow_cast-result
overflow_cast-result c =
    let count = objects_len c.self.inside c.args.self.now c.self.view_is c.self.invariant in
    let few = (are_declared c.self.inside c.args.self.now c.self.view_is c.self.invariant).few_objects in
    omega (arith, c.len.ensures, count, few)
