-- The files of a call: which were loaded, and how a run ends at one that wasn't.
use Rattle.std.specs.Prelude.{ℕ, ◌≡◌, ◌<◌, ◌≤◌, ◌⊎◌, List, [], ◌∷◌, ◌++◌, length}
use Rattle.std.specs.List.{AllZip, AllByRecursion}
use Rattle.flow_io.specs.Causes.{Rose}
use Rattle.flow_io.specs.Told.{Told, Absent, Holds, AreWhole, MayExceed}
use Rattle.command_shape.specs.declared.files.FileWord.{FileWord}
use Rattle.command_shape.specs.Ending.{Ending, load_failed, too_long}

-- the counts that rose between two states of a shelf
abbrev pub RoseAt : (List ℕ → ℕ) → (List ℕ → ℕ) → List ℕ → Type 0
RoseAt before now name = Rose (before name) (now name)

-- the bytes that were loaded under a name, by what the shelf tells of it
abbrev pub AreLoaded : Told → ℕ → List ℕ → Type 0
AreLoaded told limit bytes = AreWhole told bytes × (length bytes ≤ limit)

-- a file that couldn't be loaded, and how the run ends there
abbrev pub EndsAtFile : Told → Type 0 → List ℕ → ℕ → Ending → Type 0
EndsAtFile told rose name limit ending = (rose × (ending ≡ load_failed name)) ⊎ (MayExceed told limit × (ending ≡ too_long name limit))

-- The files in their order: the run ends at the first that couldn't be loaded, or as `next` says of the contents of all of them.
abbrev pub AfterFiles : (List ℕ → Told) → (List ℕ → Type 0) → List FileWord → (List (List ℕ) → Ending → Type 0) → Ending → Type 0
AfterFiles told rose [] next ending = next [] ending
AfterFiles told rose (file ∷ files) next ending =
    EndsAtFile (told file.name) (rose file.name) file.name file.limit ending
    ⊎ ((bytes : List ℕ) × AreLoaded (told file.name) file.limit bytes × AfterFiles told rose files (λ contents. next (bytes ∷ contents)) ending)

-- all of the files were loaded, and these are their contents
abbrev pub WereLoaded : (List ℕ → Told) → List FileWord → List (List ℕ) → Type 0
WereLoaded told files contents = AllZip (λ file bytes. AreLoaded (told file.name) file.limit bytes) files contents

-- the shelf holds these bytes, within the file's limit, and no load of it failed
pub record IsHeld (told : List ℕ → Told) (rose : List ℕ → Type 0) (file : FileWord) (bytes : List ℕ) : Type 0 where
  pub held : told file.name ≡ Holds bytes
  pub fits : length bytes ≤ file.limit
  pub steady : rose file.name → ⊥

-- the shelf holds all of the files so, and these are their contents
abbrev pub AreHeld : (List ℕ → Told) → (List ℕ → Type 0) → List FileWord → List (List ℕ) → Type 0
AreHeld told rose files contents = AllZip (IsHeld told rose) files contents

-- the file is one of the files, and those before it were loaded
pub record IsReached (told : List ℕ → Told) (files : List FileWord) (file : FileWord) : Type 0 where
  pub before : List FileWord
  pub after : List FileWord
  pub splits : files ≡ before ++ file ∷ after
  pub contents : List (List ℕ)
  pub loaded : WereLoaded told before contents

-- the shelf tells that a file is missing, and none before it is too long
pub record IsMissing (told : List ℕ → Told) (files : List FileWord) : Type 0 where
  pub before : List FileWord
  pub file : FileWord
  pub after : List FileWord
  pub splits : files ≡ before ++ file ∷ after
  pub missing : told file.name ≡ Absent
  pub short : AllByRecursion (λ other. MayExceed (told other.name) other.limit → ⊥) before

-- the shelf tells that this is the first file above its limit, and no load up to it failed
pub record IsFirstTooLong (told : List ℕ → Told) (rose : List ℕ → Type 0) (files : List FileWord) (file : FileWord) : Type 0 where
  pub before : List FileWord
  pub after : List FileWord
  pub splits : files ≡ before ++ file ∷ after
  pub bytes : List ℕ
  pub held : told file.name ≡ Holds bytes
  pub long : file.limit < length bytes
  pub steady : rose file.name → ⊥
  pub short : AllByRecursion (λ other. (rose other.name → ⊥) × (MayExceed (told other.name) other.limit → ⊥)) before
