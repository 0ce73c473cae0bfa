use Rattle.quiver.proofs.Prelude.{arith}
use Rattle.quiver.proofs.Fields.{objects_len, object_at-field}
use Rattle.quiver.proofs.quiver.Quiver.object_at.Goals as goal

pub index-requires : goal.index-requires
index-requires c = omega (arith, c.requires, c.from.ensures, objects_len c.self.inside c.args.self.now c.self.view_is c.self.invariant)

pub returns : goal.returns
returns c = record {
  entry = object_at-field c.self.inside c.args.self.now c.self.view_is c.self.invariant c.args.object.0 c.index.result.now c.requires (rw (← c.from.ensures) c.index.ensures);
}
