-- What the matches of a taken command hold.
use Rattle.std.specs.Prelude.{◌≡◌, ◌⊎◌, ℕ, List, Option, Some, None, codes}
use Rattle.clap.specs.Values.{IsUnsignedIn}
use Rattle.clap.specs.Words.{Row, Text, first_of, one_of}
use Rattle.in_order_parallel.specs.Limits.{worker_limit}
use Rattle.command_shape.specs.declared.evidence.EvidenceCommand.{EvidenceCommand}
use Rattle.command_shape.specs.CommandSet.{name_of}
use Rattle.command_shape.specs.Limits.{pair_limit, step_limit, seed_limit, format_limit, size_limit}

abbrev pub HasText : Text → List Row → Type 0
HasText id rows = (t : Text) × (first_of id rows ≡ Some t)

-- a text that `u64` reads as a number in this range
abbrev pub HasNumber : Text → ℕ → ℕ → List Row → Type 0
HasNumber id least most rows = (t : Text) × (one_of id rows ≡ Some t) × IsUnsignedIn least most t

abbrev pub HasFlag : Text → List Row → Type 0
HasFlag id rows = (one_of id rows ≡ Some (codes "true")) ⊎ (one_of id rows ≡ Some (codes "false"))

pub record HasProve (rows : List Row) : Type 0 where
  pub file : HasText (codes "file") rows
  pub pairs : HasNumber (codes "pairs") 1 pair_limit rows
  pub steps : HasNumber (codes "steps") 1 step_limit rows
  pub workers : HasNumber (codes "workers") 1 worker_limit rows
  pub seed : HasNumber (codes "seed") 0 seed_limit rows
  pub format : HasNumber (codes "format") 1 format_limit rows
  pub models : HasFlag (codes "no-models") rows

pub record HasRefute (rows : List Row) : Type 0 where
  pub file : HasText (codes "file") rows
  pub workers : HasNumber (codes "workers") 1 worker_limit rows
  pub seed : HasNumber (codes "seed") 0 seed_limit rows

pub record HasBench (rows : List Row) : Type 0 where
  pub size : HasNumber (codes "size") 1 size_limit rows
  pub workers : HasNumber (codes "workers") 1 worker_limit rows

pub record HasPair (rows : List Row) : Type 0 where
  pub statement : HasText (codes "statement") rows
  pub evidence : HasText (codes "evidence") rows

-- the name of a command of evidence
abbrev pub IsEvidenceName : Text → Type 0
IsEvidenceName name = (command : EvidenceCommand) × (name ≡ name_of command)

abbrev pub HasCommand : Text → List Row → Type 0
HasCommand name rows = ((name ≡ codes "prove") × HasProve rows) ⊎ ((name ≡ codes "refute") × HasRefute rows)
    ⊎ ((name ≡ codes "bench") × HasBench rows) ⊎ (IsEvidenceName name × HasPair rows)

abbrev pub MatchesHave : Option (Text × List Row) → Type 0
MatchesHave None = ⊥
MatchesHave (Some m) = HasCommand m.0 m.1
