-- A sink in memory, by its state.
use Rattle.std.specs.Prelude.{ℕ, ◌≡◌, ◌+◌, ◌<◌, ◌⊎◌, min, List, [], ◌++◌, length, take, Bool, true, false, Contains, Result, MatchResult}
use Rattle.flow_io.specs.declared.sink.SinkFault.{SinkFault}
use Rattle.flow_io.specs.Causes.{next_count}

-- the bytes it took, how many it takes a put and in all, the numbers of the calls that fail, how many calls and faults
-- there were, and whether it is finished
pub record SinkState : Type 0 where
  pub bytes : List ℕ
  pub most_per_put : ℕ
  pub room : ℕ
  pub failing : List ℕ
  pub calls : ℕ
  pub faults : ℕ
  pub finished : Bool

-- a sink that took nothing and was not called
abbrev pub new_sink : ℕ → ℕ → List ℕ → SinkState
new_sink most_per_put room failing = record {
  bytes = [];
  most_per_put = most_per_put;
  room = room;
  failing = failing;
  calls = 0;
  faults = 0;
  finished = false;
}

-- the sink with one more call; the new count is the number of that call
abbrev pub with_call : SinkState → SinkState
with_call s = record s { calls = next_count s.calls }

-- the sink with one more fault
abbrev pub with_fault : SinkState → SinkState
with_fault s = record s { faults = next_count s.faults }

-- the number of the next call is listed
abbrev pub IsToFail : SinkState → Type 0
IsToFail s = Contains s.failing (next_count s.calls)

-- how many bytes of a piece it takes at once
abbrev pub at_once : SinkState → List ℕ → ℕ
at_once s piece = min (length piece) s.most_per_put

-- the next put fails: its number is listed, or there is no room for it
abbrev pub PutFails : SinkState → List ℕ → Type 0
PutFails s piece = IsToFail s ⊎ (s.room < length s.bytes + at_once s piece)

-- the result of a put, and the sink after it
abbrev pub PutGives : SinkState → List ℕ → Result ℕ SinkFault → SinkState → Type 0
PutGives old piece result new =
    MatchResult result
    (λ count. ¬ PutFails old piece × (count ≡ at_once old piece)
    × (new ≡ record (with_call old) { bytes = old.bytes ++ take count piece; finished = false }))
    (λ _. PutFails old piece × (new ≡ with_fault (with_call old)))

-- the result of a finish, and the sink after it
abbrev pub FinishGives : SinkState → Result (Unit {0}) SinkFault → SinkState → Type 0
FinishGives old result new =
    MatchResult result
    (λ _. ¬ IsToFail old × (new ≡ record (with_call old) { finished = true }))
    (λ _. IsToFail old × (new ≡ with_fault (with_call old)))
