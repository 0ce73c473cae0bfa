-- The calls that words name.
use Rattle.std.specs.Prelude.{List, String, string_bytes, map}
use Rattle.std.specs.declared.alloc.Global.{Global}
use Rattle.clap.specs.Words.{subcommand_of}
use Rattle.command_shape.specs.CommandSet.{command_set}
use Rattle.command_shape.specs.CommandSet as set
use Rattle.command_shape.specs.Calls.{MatchesGive}
use Rattle.command_shape.specs.declared.call.Call.{Call}

-- clap's stated function of the command set takes the words
abbrev pub IsTaken : List (String Global) → Type 0
IsTaken words = set.IsTaken (map string_bytes words)

-- and its result is the call
pub record IsCalled (words : List (String Global)) (call : Call) : Type 0 where
  pub taken : IsTaken words
  pub names : MatchesGive (subcommand_of command_set (map string_bytes words)) call
