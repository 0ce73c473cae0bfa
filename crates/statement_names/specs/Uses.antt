-- Names where one of an object or of a map is expected.
use Rattle.statement_names.specs.Types.{Name, Kind, Object, Map}

pub record Use : Type 0 where
  pub kind : Kind
  pub name : Name

abbrev pub use_of : Kind → Name → Use
use_of kind name = record { kind = kind; name = name }

abbrev pub object_use : Name → Use
object_use name = use_of Object name

abbrev pub map_use : Name → Use
map_use name = use_of Map name
