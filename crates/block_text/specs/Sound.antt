-- A fact about the block that is open at the place, if one is.
use Rattle.std.specs.Prelude.{⊤}
use Rattle.block_text.specs.declared.place.Place.{Place}
use Rattle.block_text.specs.declared.place.Place.TheVariants as at

abbrev pub IsSound : {Begun : Type 0} → (Begun → Type 0) → Place Begun → Type 0
IsSound Holds at.Outside = ⊤
IsSound Holds at.Skipped = ⊤
IsSound Holds (at.Inside begun) = Holds begun
