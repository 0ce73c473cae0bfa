-- The first fault of the names, literals and first words of a file.
use Rattle.std.specs.Prelude.{ℕ, ℤ, ◌-◌, pos, negsuc, Bool, true, false, ◌&&◌, not, nat_lt, nat_le, if◌then◌else◌, is_some, List, []}
use Rattle.std.specs.Prelude.{◌∷◌, ◌++◌, Option, Some, None, sum_by}
use Rattle.std.specs.List.{flat_map, list_any}
use Rattle.std.specs.Map.{lookup}
use Rattle.std.specs.Option.{option_or}
use Rattle.std.specs.Str.{bytes_eq}
use Rattle.definitions.specs.Moduli.{is_field_modulus}
use Rattle.statement_names.specs.Types.{Name, Statement, Placed, placed, Unknown, Double, TooMany, NotSquare, BadNumber, Kind, Object, Map}
use Rattle.statement_names.specs.Occurrences.{Occurrence, declares_object, declares_map, uses, lists, counts, modulus, begins_order}
use Rattle.statement_names.specs.Occurrences.{begins_assumptions, begins_claim, begins_shape, occurrences_of}
use Rattle.quiver.specs.Limits.{object_limit}
use Rattle.adjoint_rules.specs.Limits.{assumption_limit, claim_limit, shape_limit}
use Rattle.statement_names.specs.Limits.{map_limit_of}
use Rattle.statement_names.specs.Uses.{Use}

-- what occurrences declare
abbrev pub declared_by : Occurrence → List (List ℕ × Kind)
declared_by (declares_object name) = (name.text, Object) ∷ []
declared_by (declares_map name source target selfmade) = (name.text, Map) ∷ []
declared_by o = []

abbrev pub declared_in : List Occurrence → List (List ℕ × Kind)
declared_in os = flat_map declared_by os

-- what a file may have only a limited number of
pub data Counted : Type 0 where
  Objects : Counted
  Maps : Counted
  Orders : Counted
  Assumptions : Counted
  Claims : Counted
  Shapes : Counted

-- how many there may be, where at most this many maps may be declared
abbrev pub limit_of : ℕ → Counted → ℕ
limit_of most_maps Objects = object_limit
limit_of most_maps Maps = most_maps
limit_of most_maps Orders = 1
limit_of most_maps Assumptions = assumption_limit
limit_of most_maps Claims = claim_limit
limit_of most_maps Shapes = shape_limit

-- how many of them an occurrence declares or begins
abbrev pub amount : Counted → Occurrence → ℕ
amount Objects (declares_object name) = 1
amount Maps (declares_map name source target selfmade) = 1
amount Orders (begins_order at) = 1
amount Assumptions (begins_assumptions count at) = count
amount Claims (begins_claim at) = 1
amount Shapes (begins_shape at) = 1
amount counted o = 0

-- what a name is declared as, by its first declaration
abbrev pub kind_in : List (List ℕ × Kind) → List ℕ → Option Kind
kind_in declared name = lookup (bytes_eq name) declared

-- the tests
abbrev pub is_kind : Option Kind → Kind → Bool
is_kind (Some Object) Object = true
is_kind (Some Map) Map = true
is_kind found kind = false

-- two different objects
abbrev pub are_two_objects : (List ℕ → Option Kind) → List ℕ → List ℕ → Bool
are_two_objects kind u v = is_kind (kind u) Object && (is_kind (kind v) Object && not (bytes_eq u v))

abbrev pub is_among : List (List ℕ) → List ℕ → Bool
is_among names name = list_any (bytes_eq name) names

-- the value of a literal, which has no sign
abbrev pub value_of : ℤ → ℕ
value_of (pos n) = n
value_of (negsuc n) = 0

abbrev pub is_between : ℕ → ℕ → ℕ → Bool
is_between least most n = nat_le least n && nat_le n most

-- the fault where there is no room for this many more
abbrev pub short_of : ℕ → ℕ → Placed → Option Placed
short_of room more fault = if nat_lt room more then Some fault else None

-- a name that is declared already, or no room for it
abbrev pub declared_fault : List (List ℕ × Kind) → ℕ → ℕ → Name → Option Placed
declared_fault declared room limit name =
    if is_some (kind_in declared name.text) then Some (placed Double name.at) else short_of room 1 (placed (TooMany limit) name.at)

-- a name that isn't declared, or is of the other kind
abbrev pub used_fault : (List ℕ → Option Kind) → Use → Option Placed
used_fault kind u = if is_kind (kind u.name.text) u.kind then None else Some (placed Unknown u.name.at)

-- the first fault, or else the later one where something is wrong
abbrev pub or_else : Option Placed → Bool → Placed → Option Placed
or_else (Some fault) wrong later = Some fault
or_else None wrong later = if wrong then Some later else None

abbrev pub number_fault : Bool → Placed → Option Placed
number_fault good fault = if good then None else Some fault

-- What is known before an occurrence: how many maps the file may declare, what each of its names is declared as,
-- what is declared so far, and how many more there may be.
pub record Known : Type 0 where
  pub most_maps : ℕ
  pub kind : List ℕ → Option Kind
  pub declared : List (List ℕ × Kind)
  pub room : Counted → ℕ

-- its fault
abbrev pub fault_of : Known → Occurrence → Option Placed
fault_of k (declares_object name) = declared_fault k.declared (k.room Objects) object_limit name
fault_of k (declares_map name source target selfmade) =
    or_else (declared_fault k.declared (k.room Maps) k.most_maps name) (selfmade && are_two_objects k.kind source target) (placed NotSquare name.at)
fault_of k (uses u) = used_fault k.kind u
fault_of k (lists front u) = or_else (used_fault k.kind u) (is_among front u.name.text) (placed Double u.name.at)
fault_of k (counts most n) = number_fault (is_between 1 most (value_of n.value)) (placed BadNumber n.at)
fault_of k (modulus n) = number_fault (is_field_modulus (value_of n.value)) (placed BadNumber n.at)
fault_of k (begins_order at) = short_of (k.room Orders) 1 (placed Double at)
fault_of k (begins_assumptions count at) = short_of (k.room Assumptions) count (placed (TooMany assumption_limit) at)
fault_of k (begins_claim at) = short_of (k.room Claims) 1 (placed (TooMany claim_limit) at)
fault_of k (begins_shape at) = short_of (k.room Shapes) 1 (placed (TooMany shape_limit) at)

-- what is known after some occurrences, for which room was taken
abbrev pub known_behind : ℕ → (List ℕ → Option Kind) → List Occurrence → Known
known_behind most_maps kind before = record {
  most_maps = most_maps;
  kind = kind;
  declared = declared_in before;
  room = λ counted. limit_of most_maps counted - sum_by (amount counted) before;
}

-- the first fault of some occurrences, after all those before them
abbrev pub first_fault : ℕ → (List ℕ → Option Kind) → List Occurrence → List Occurrence → Option Placed
first_fault most_maps kind before [] = None
first_fault most_maps kind before (o ∷ os) = option_or (fault_of (known_behind most_maps kind before) o) (first_fault most_maps kind (before ++ o ∷ []) os)

-- what each name of a file is declared as
abbrev pub kind_within : List Statement → List ℕ → Option Kind
kind_within statements = kind_in (declared_in (occurrences_of statements))

-- the first fault of the file
abbrev pub name_fault_of : List Statement → Option Placed
name_fault_of statements = first_fault (map_limit_of statements) (kind_within statements) [] (occurrences_of statements)
