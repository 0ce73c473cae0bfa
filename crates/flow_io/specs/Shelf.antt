-- The result of one load.
use Rattle.std.specs.Prelude.{ℕ, ◌≡◌, ◌+◌, ◌≤◌, length, Result, Ok, Err, MatchResult, Vec}
use Rattle.std.specs.declared.alloc.Global.{Global}
use Rattle.flow_io.specs.declared.shelf.ShelfFault.{ShelfFault}
use Rattle.flow_io.specs.declared.shelf.ShelfFault.TheVariants.{Failed, TooLong, Memory}
use Rattle.flow_io.specs.Causes.{next_count, Rose}
use Rattle.flow_io.specs.Told.{Told, AreWhole, MayExceed}

-- why a load gave no file: by what is told of the file, its limit, and the count of its name before and now
abbrev pub HasShelfCause : Told → ℕ → ℕ → ℕ → ShelfFault → Type 0
HasShelfCause told most before now Failed = Rose before now
HasShelfCause told most before now (TooLong got) = MayExceed told most × (got ≡ most + 1)
HasShelfCause told most before now (Memory _) = Unit {0}

-- a load returns the whole file, within its limit, or why there is none
abbrev pub LoadAnswers : Told → ℕ → ℕ → ℕ → Result (Vec ℕ Global) ShelfFault → Type 0
LoadAnswers told most before now result =
    MatchResult result (λ bytes. AreWhole told bytes.items × (length bytes.items ≤ most)) (HasShelfCause told most before now)

-- the count of faults goes up by one where a load failed, and is unchanged otherwise
abbrev pub CountsLoad : ℕ → ℕ → Result (Vec ℕ Global) ShelfFault → Type 0
CountsLoad before now (Ok bytes) = now ≡ before
CountsLoad before now (Err Failed) = now ≡ next_count before
CountsLoad before now (Err (TooLong got)) = now ≡ before
CountsLoad before now (Err (Memory _)) = now ≡ before
