use Rattle.normal_forms.proofs.MapSums.{maps_are_finite_sums}
use Rattle.normal_forms.proofs.laws.maps_are_finite_sums.Goals as goal

pub returns : goal.returns
returns c = record { maps = maps_are_finite_sums }
