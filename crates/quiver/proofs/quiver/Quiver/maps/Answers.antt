use Rattle.quiver.proofs.Prelude.{arith, ◌≡◌, length, object_count}
use Rattle.quiver.proofs.Counts.{objects_and_maps}
use Rattle.quiver.proofs.Fields.{are_declared, objects_len, names_len}
use Rattle.quiver.proofs.quiver.Quiver.maps.Goals as goal

declared : (c : goal.After-len-2) → c.len.result ≡ length c.args.self.now
declared c = omega (arith, c.len.ensures.len, names_len c.self.inside c.args.self.now c.self.view_is)

objects : (c : goal.After-len-2) → c.len-2.result ≡ object_count c.args.self.now
objects c = omega (arith, c.len-2.ensures, objects_len c.self.inside c.args.self.now c.self.view_is c.self.invariant)

pub overflow_sub-result : goal.overflow_sub-result
overflow_sub-result c = omega (arith, declared c, objects c, objects_and_maps c.args.self.now)

-- few enough for a u32
pub overflow_cast-result : goal.overflow_cast-result
overflow_cast-result c =
    let few = (are_declared c.self.inside c.args.self.now c.self.view_is c.self.invariant).few_maps in
    omega (arith, declared c, objects c, objects_and_maps c.args.self.now, few)

pub returns : goal.returns
returns c = omega (arith, declared c, objects c, objects_and_maps c.args.self.now)
