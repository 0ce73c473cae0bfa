-- How the fields of a quiver represent its declarations.
use Rattle.std.specs.Prelude.{◌≡◌, ℕ, nat_eq, List, map, get_or, string_bytes, String}
use Rattle.std.specs.declared.alloc.Global.{Global}
use Rattle.std.specs.String.{string_eq}
use Rattle.indexmap.specs.IndexMap.{insert_entry}
use Rattle.quiver.specs.declared.named.Named.{Named}
use Rattle.quiver.specs.declared.named.Named.TheVariants.{Object, Map}
use Rattle.quiver.specs.declared.quiver.Quiver.TheInside.{Inside}
use Rattle.quiver.specs.declared.quiver.ObjectEntry as code_object
use Rattle.quiver.specs.declared.quiver.LetterEntry as code_letter
use Rattle.quiver.specs.Declarations.{Declaration, object, arrow, ObjectEntry, LetterEntry, no_letter, object_table, letter_table, naming_table, IsDeclared}

-- the fields as tables of numbers
abbrev pub object_entry : code_object.ObjectEntry → ObjectEntry
object_entry e = record { identity = e.identity.0; declaration = e.declaration }

abbrev pub letter_entry : code_letter.LetterEntry → LetterEntry
letter_entry e = record { source = e.ends.source.0; target = e.ends.target.0; star = e.star.0; declaration = e.declaration }

abbrev pub objects_in : Inside → List ObjectEntry
objects_in q = map object_entry q.objects.items

abbrev pub letters_in : Inside → List LetterEntry
letters_in q = map letter_entry q.letters.items

abbrev pub names_in : Inside → List (List ℕ × Named)
names_in q = map (λ e. (string_bytes e.0, e.1)) q.names.entries

-- the declaration of a name: a map has the ends of its letter, and is its own adjoint where the letter is
abbrev pub letter_in : List LetterEntry → ℕ → LetterEntry
letter_in letters a = get_or letters a no_letter

abbrev pub declared_as : List LetterEntry → List ℕ → Named → Declaration
declared_as letters name (Object v) = object name
declared_as letters name (Map a) =
    let e = letter_in letters a.0 in arrow name e.source e.target (nat_eq e.star a.0)

abbrev pub declarations_by : List LetterEntry → List (List ℕ × Named) → List Declaration
declarations_by letters names = map (λ n. declared_as letters n.0 n.1) names

abbrev pub declarations : Inside → List Declaration
declarations q = declarations_by (letters_in q) (names_in q)

-- The tables are those of the declarations.
pub record IsKept (q : Inside) : Type 0 where
  pub objects : objects_in q ≡ object_table (declarations q)
  pub letters : letters_in q ≡ letter_table (declarations q)
  pub names : names_in q ≡ naming_table (declarations q)
  pub declared : IsDeclared (declarations q)

-- The second names are the first ones with one more: this name, which stands for this.
pub record IsNameMore (old new : List (String Global × Named)) (name : List ℕ) (named : Named) : Type 0 where
  pub key : String Global
  pub key_is : string_bytes key ≡ name
  pub entries : new ≡ insert_entry string_eq old key named
