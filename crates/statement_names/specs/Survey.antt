-- How the program finds the first fault: occurrence by occurrence, with how much more of each there may be.
use Rattle.std.specs.Prelude.{ℕ, ◌+◌, ◌-◌, if◌then◌else◌, is_some, List, [], ◌∷◌, ◌++◌, map, fold, take}
use Rattle.std.specs.Prelude.{Option, Some, None, Result, Ok, Err}
use Rattle.statement_names.specs.Types.{Placed, Kind, Object, Map, Survey, Name, StatementKind, statement}
use Rattle.statement_names.specs.Occurrences.{Occurrence, declares_object, declares_map, begins_order, begins_assumptions, begins_claim, begins_shape}
use Rattle.statement_names.specs.Faults.{kind_in, Counted, Objects, Maps, Orders, Assumptions, Claims, Shapes, fault_of}
use Rattle.quiver.specs.Limits.{object_limit}

-- what a statement declares
abbrev pub kinded : Kind → List Name → List (List ℕ × Kind)
kinded kind names = map (λ n. (n.text, kind)) names

abbrev pub kinds_by : StatementKind → List (List ℕ × Kind)
kinds_by (statement.Objects names) = kinded Object names
kinds_by (statement.Maps names source target selfmade) = kinded Map names
kinds_by kind = []

-- a name with what it is declared as, unless it is declared already
abbrev pub with_kind : List (List ℕ × Kind) → List ℕ → Kind → List (List ℕ × Kind)
with_kind declared name kind = if is_some (kind_in declared name) then declared else declared ++ (name, kind) ∷ []

-- more declarations, each unless its name is declared already
abbrev pub with_kinds : List (List ℕ × Kind) → List (List ℕ × Kind) → List (List ℕ × Kind)
with_kinds declared more = fold (λ kinds d. with_kind kinds d.0 d.1) declared more

-- how many names are declared so far, by the room that they took
abbrev pub declared_count : Survey → ℕ
declared_count s = (object_limit - s.objects) + (s.map_limit - s.maps)

-- what is declared so far: the first of all declarations of the file
abbrev pub declared_before : Survey → List (List ℕ × Kind)
declared_before s = take (declared_count s) s.kinds

-- how many more of each there may be
abbrev pub room_of : Survey → Counted → ℕ
room_of s Objects = s.objects
room_of s Maps = s.maps
room_of s Orders = s.orders
room_of s Assumptions = s.assumptions
room_of s Claims = s.claims
room_of s Shapes = s.shapes

-- the fault of an occurrence
abbrev pub fault_at : Survey → Occurrence → Option Placed
fault_at s o = fault_of (record { most_maps = s.map_limit; kind = kind_in s.kinds; declared = declared_before s; room = room_of s }) o

-- the survey after it
abbrev pub behind : Survey → Occurrence → Survey
behind s (declares_object name) = record s { objects = s.objects - 1 }
behind s (declares_map name source target selfmade) = record s { maps = s.maps - 1 }
behind s (begins_order at) = record s { orders = s.orders - 1 }
behind s (begins_assumptions count at) = record s { assumptions = s.assumptions - count }
behind s (begins_claim at) = record s { claims = s.claims - 1 }
behind s (begins_shape at) = record s { shapes = s.shapes - 1 }
behind s o = s

abbrev pub goes_on : Option Placed → Result Survey Placed → Result Survey Placed
goes_on (Some fault) later = Err fault
goes_on None later = later

-- the survey after all of some occurrences, or their first fault
abbrev pub run : Survey → List Occurrence → Result Survey Placed
run s [] = Ok s
run s (o ∷ os) = goes_on (fault_at s o) (run (behind s o) os)

-- the survey that a search ends with, or its fault
abbrev pub outcome : {A : Type 0} → Survey → Result A Placed → Result Survey Placed
outcome s (Ok x) = Ok s
outcome s (Err fault) = Err fault

-- the names of a list of declarations
abbrev pub names_in : List (List ℕ × Kind) → List (List ℕ)
names_in declared = map (λ d. d.0) declared
