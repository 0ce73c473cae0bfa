-- What a file declares.
use Rattle.std.specs.Prelude.{IsTrue, List, [], ◌++◌, map}
use Rattle.std.specs.List.{flat_map}
use Rattle.statement_names.specs.Types.{Statement, StatementKind, statement}
use Rattle.quiver.specs.Declarations.{Declaration, object, arrow, named_in, IsDeclared}
use Rattle.abbreviations.specs.Names.{is_object, object_of}

-- the objects of a statement
abbrev pub objects_in : StatementKind → List Declaration
objects_in (statement.Objects names) = map (λ n. object n.text) names
objects_in kind = []

-- the maps of a statement, between these objects
abbrev pub maps_in : List Declaration → StatementKind → List Declaration
maps_in objects (statement.Maps names source target selfmade) =
    map (λ n. arrow n.text (object_of objects source) (object_of objects target) selfmade) names
maps_in objects kind = []

-- both ends of its maps are objects
abbrev pub HasEnds : List Declaration → StatementKind → Type 0
HasEnds ds (statement.Maps names source target selfmade) = IsTrue (is_object (named_in ds source.text)) × IsTrue (is_object (named_in ds target.text))
HasEnds ds kind = Unit {0}

-- they are the first of a quiver's declarations
abbrev pub AreFirst : List Declaration → Type 0
AreFirst ds = (more : List Declaration) × IsDeclared (ds ++ more)

-- first all objects, and then all maps, in the order of the file
abbrev pub declared_objects : List Statement → List Declaration
declared_objects statements = flat_map (λ s. objects_in s.kind) statements

abbrev pub declared_maps : List Declaration → List Statement → List Declaration
declared_maps objects statements = flat_map (λ s. maps_in objects s.kind) statements

abbrev pub declarations_of : List Statement → List Declaration
declarations_of statements = declared_objects statements ++ declared_maps (declared_objects statements) statements
