-- How a reader finds the letter that a token spells as it is written. Only the reader's functions and proofs use it.
use Rattle.std.specs.Prelude.{ℕ, ◌&&◌, Bool, true, false, List, nat_eq, Option, Some, None, if◌then◌else◌}
use Rattle.std.specs.Option.{option_and_then}
use Rattle.definitions.specs.Quiver.{star}
use Rattle.quiver.specs.Declarations.{Declaration, named_in, quiver_of}
use Rattle.block_text.specs.Letters.{Spelled, letter_named}

-- the adjoint of a letter, if it is another one
abbrev pub other_star : List Declaration → ℕ → Option ℕ
other_star ds a = if nat_eq (star (quiver_of ds) a) a then None else Some (star (quiver_of ds) a)

-- no ' is written after a letter that is its own adjoint
abbrev pub marked : List Declaration → Bool → ℕ → Option ℕ
marked ds true a = other_star ds a
marked ds false a = Some a

abbrev pub written_by : List Declaration → Spelled → Option ℕ
written_by ds s =
    if s.identity && s.adjoint then None
    else option_and_then (marked ds s.adjoint) (option_and_then (letter_named ds s.identity) (named_in ds s.name))
