-- The first fault of a declaration.
use Rattle.std.specs.Prelude.{◌≡◌, ℕ, ◌&&◌, Bool, not, nat_eq, nat_le, if◌then◌else◌, is_some, List, Option, None, Some}
use Rattle.lists.specs.declared.stop.Stop.{Stop}
use Rattle.lists.specs.declared.stop.Stop.TheVariants as stop
use Rattle.quiver.specs.declared.fault.QuiverFault.{QuiverFault}
use Rattle.quiver.specs.declared.fault.QuiverFault.TheVariants.{DoubleName, TooMany, NotSquare}
use Rattle.quiver.specs.Declarations.{Declaration, named_in, object_count, map_count}
use Rattle.quiver.specs.Limits.{object_limit, map_limit}

abbrev pub is_named : List Declaration → List ℕ → Bool
is_named ds name = is_some (named_in ds name)

-- of an object with this name
abbrev pub object_fault : List Declaration → List ℕ → Option QuiverFault
object_fault ds name =
    if is_named ds name then Some DoubleName
    else if nat_le object_limit (object_count ds) then Some (TooMany object_limit)
    else None

-- of a map with this name and these ends, which is to be its own adjoint or not
abbrev pub map_fault : List Declaration → List ℕ → ℕ → ℕ → Bool → Option QuiverFault
map_fault ds name u v selfmade =
    if is_named ds name then Some DoubleName
    else if nat_le map_limit (map_count ds) then Some (TooMany map_limit)
    else if selfmade && not (nat_eq u v) then Some NotSquare
    else None

-- The fault is the one that is found; want of memory only where there is none.
abbrev pub Explains : Option QuiverFault → Stop QuiverFault → Type 0
Explains found (stop.Fault fault) = found ≡ Some fault
Explains found (stop.Memory e) = found ≡ None
