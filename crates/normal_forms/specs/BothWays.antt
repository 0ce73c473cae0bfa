-- The category of the maps of a category in pairs, one each way, and its involution.
use Rattle.definitions.specs.Category.{Structure, IsArrow}
use Rattle.definitions.specs.Quiver.{Quiver, star}
use Rattle.definitions.specs.Representation.{Representation}

-- The objects stay. A map from x to y is one from x to y with one from y to x beside it, and the second maps are composed the other way round.
abbrev pub both_ways : {Object Arrow : Type 0} → Structure Object Arrow → Structure Object (Arrow × Arrow)
both_ways s = record {
  is_object = s.is_object;
  is_arrow = λ a. s.is_arrow a.0 × IsArrow s (s.target a.0) (s.source a.0) a.1;
  source = λ a. s.source a.0;
  target = λ a. s.target a.0;
  identity = λ x. (s.identity x, s.identity x);
  zero = λ x y. (s.zero x y, s.zero y x);
  add = λ a b. (s.add a.0 b.0, s.add a.1 b.1);
  negate = λ a. (s.negate a.0, s.negate a.1);
  compose = λ a b. (s.compose a.0 b.0, s.compose b.1 a.1);
}

-- the adjoint of such a map
abbrev pub exchange : {Arrow : Type 0} → Arrow × Arrow → Arrow × Arrow
exchange a = (a.1, a.0)

-- a letter goes to the map that it went to, with that of its adjoint beside it
abbrev pub both_ways_representation : {Object Arrow : Type 0} → Quiver → Representation Object Arrow → Representation Object (Arrow × Arrow)
both_ways_representation q f = record { object = f.object; arrow = λ a. (f.arrow a, f.arrow (star q a)) }
