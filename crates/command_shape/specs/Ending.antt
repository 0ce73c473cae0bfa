-- How a run ends: its status and the bytes of its report.
use Rattle.std.specs.Prelude.{ℕ, List, [], ◌∷◌, ◌++◌, codes, decimal}

pub record Ending : Type 0 where
  pub status : ℕ
  pub report : List ℕ

-- a line ends with a line feed
abbrev pub line : List ℕ → List ℕ
line text = text ++ 10 ∷ []

-- the usage line, for words that are no call
abbrev pub usage : List ℕ → Ending
usage text = record { status = 2; report = line text }

abbrev pub load_failed : List ℕ → Ending
load_failed name = record { status = 4; report = codes "# load failed " ++ line name }

abbrev pub too_long : List ℕ → ℕ → Ending
too_long name limit = record { status = 4; report = codes "# too long " ++ (name ++ (codes " limit " ++ line (decimal limit))) }

-- the statement is refused, for what the text says
abbrev pub refused_statement : List ℕ → Ending
refused_statement text = record { status = 3; report = line text }

-- the evidence text is refused
abbrev pub refused_evidence : List ℕ → Ending
refused_evidence text = record { status = 7; report = line text }
