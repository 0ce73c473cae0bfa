-- The files of a call, with the statement and the evidence in them.
use Rattle.std.specs.Prelude.{ℕ, List, [], ◌≡◌, length, get_or}
use Rattle.command_shape.specs.declared.call.Call.{Call}
use Rattle.command_shape.specs.declared.call.Call.TheVariants.{Prove, Refute, Bench, Evidence}
use Rattle.report_text.specs.Bench.{bench_statement}
use Rattle.command_shape.specs.declared.files.FileWord.{FileWord}
use Rattle.command_shape.specs.FileWords.{statement_file, pair_files}

-- the files of a call, in the order in which they are loaded
abbrev pub files_of : Call → List FileWord
files_of (Prove p) = statement_file p.file
files_of (Refute p) = statement_file p.file
files_of (Bench b) = []
files_of (Evidence command p) = pair_files p.statement p.evidence

-- as many contents as files
abbrev pub AreContents : Call → List (List ℕ) → Type 0
AreContents call contents = length contents ≡ length (files_of call)

-- the statement that a call without files makes
abbrev pub written_by : Call → List ℕ
written_by (Bench b) = bench_statement b.size
written_by _ = []

-- the statement of a call: the first of its contents, or the one that it makes
abbrev pub statement_of : Call → List (List ℕ) → List ℕ
statement_of call contents = get_or contents 0 (written_by call)

-- its text of evidence: the second of its contents, or none
abbrev pub evidence_of : List (List ℕ) → List ℕ
evidence_of contents = get_or contents 1 []
