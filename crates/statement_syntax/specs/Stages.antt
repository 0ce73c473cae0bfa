-- The results of the stages of reading, in their order.
use Rattle.std.specs.Prelude.{◌≡◌, ◌⊎◌, ℕ, length, List, [], ◌∷◌, ◌++◌, Result, Ok, Err, drop}
use Rattle.std.specs.Global.{Vec}
use Rattle.std.specs.Str.{IsUtf8, chars}
use Rattle.statement_syntax.specs.Types.{Token, Language, First, Second, Statement, StatementKind as statement, Spot, Fault, Stop, stop}
use Rattle.statement_syntax.specs.Types.{Progress, Line as line, SyntaxFault, SyntaxFault as refusal, Scanner, Placed}
use Rattle.lists.specs.Stop.{Explains}
use Rattle.statement_syntax.specs.Steps.{run}
use Rattle.statement_syntax.specs.Lines.{file_step}
use Rattle.statement_tokens.specs.Language.{language_of}
use Rattle.statement_tokens.specs.Tokens.{AreTokens}
use Rattle.statement_tokens.specs.Scanned.{Tells, Leaves, with_front}
use Rattle.statement_syntax.specs.Fault.{TellsFirstFault, IsWantOfMemory, fault_at}

-- the refusal of a step that fails at this place
abbrev pub IsRefusal : Stop Fault → Spot → SyntaxFault → Type 0
IsRefusal (stop.Fault f) at refused = refused ≡ fault_at f at
IsRefusal (stop.Memory error) at refused = IsWantOfMemory refused

-- bytes to characters
abbrev pub CharactersRead : List ℕ → Result (Vec ℕ) SyntaxFault → Type 0
CharactersRead bytes (Ok text) = IsUtf8 bytes × (text.items ≡ chars bytes)
CharactersRead bytes (Err e) = TellsFirstFault bytes e

-- the statement of the line that names the second language
abbrev pub first_statements : Language → List Token → List Statement
first_statements First ts = []
first_statements Second [] = []
first_statements Second (word ∷ ts) = record { at = word.at; kind = statement.Language } ∷ []

-- the tokens after that line
abbrev pub behind_first : Language → List Token → List Token
behind_first First ts = ts
behind_first Second ts = drop 3 ts

-- what has been read of a file before the loop, and the tokens that the loop reads
abbrev pub begun : List Token → Progress
begun ts = record { statements = first_statements (language_of ts) ts; line = line.Start }

abbrev pub left : List Token → List Token
left ts = behind_first (language_of ts) ts

-- the loop reached this token, and stopped at it
pub record StoppedAt (ts : List Token) (refused : SyntaxFault) : Type 0 where
  pub front : List Token
  pub token : Token
  pub rest : List Token
  pub splits : left ts ≡ front ++ token ∷ rest
  pub progress : Progress
  pub ran : run (file_step (language_of ts)) (begun ts) front ≡ Ok progress
  pub misfit : Fault
  pub stops : file_step (language_of ts) progress token ≡ Err misfit
  pub tells : refused ≡ fault_at misfit token.at

-- the loop reached the end with these statements
abbrev pub AllRead : List Token → List Statement → Type 0
AllRead ts statements = (p : Progress) × (run (file_step (language_of ts)) (begun ts) (left ts) ≡ Ok p) × (statements ≡ p.statements)

abbrev pub Refused : List Token → SyntaxFault → Type 0
Refused ts (refusal.Memory e) = Unit {0}
Refused ts (refusal.Fault code line column) = StoppedAt ts (refusal.Fault code line column)

-- what has been read of a file that begins with these tokens: its lines, or why the file was refused
abbrev pub IsReadSoFar : List Token → Result Progress SyntaxFault → Type 0
IsReadSoFar ts (Ok p) = run (file_step (language_of ts)) (begun ts) (left ts) ≡ Ok p
IsReadSoFar ts (Err e) = Refused ts e

-- one more token, which changes nothing where the file was refused at an earlier one
abbrev pub Goes : Language → Result Progress SyntaxFault → Token → Result Progress SyntaxFault → Type 0
Goes language (Ok p) token (Ok next) = file_step language p token ≡ Ok next
Goes language (Ok p) token (Err e) = (why : Stop Fault) × Explains (λ fault. file_step language p token ≡ Err fault) why × IsRefusal why token.at e
Goes language (Err e) token read = read ≡ Err e

-- these three tokens are before those that a scanner leaves, or are all where there are fewer
abbrev pub IsFront : List Token → Scanner → Scanner → Type 0
IsFront ts start scanner =
    ((read : Result (List Token) Placed) → Leaves ts scanner read → Leaves [] start (with_front ts read)) × ((length ts ≡ 3) ⊎ Leaves ts scanner (Ok []))

-- the fault of the text is returned
abbrev pub IsFault : Result (List Token) Placed → SyntaxFault → Type 0
IsFault whole (refusal.Memory e) = Unit {0}
IsFault whole (refusal.Fault code line column) =
    (placed : Placed) × (whole ≡ Err placed) × (refusal.Fault code line column ≡ fault_at placed.fault placed.at)

-- the fault that a scanner leaves is returned
abbrev pub LeavesFault : Scanner → SyntaxFault → Type 0
LeavesFault scanner e = (whole : Result (List Token) Placed) × Leaves [] scanner whole × IsFault whole e

-- its tokens are read, or the first that does not fit or its first fault is returned
abbrev pub TextRead : List ℕ → Result (List Statement) SyntaxFault → Type 0
TextRead text (Ok statements) = (ts : List Token) × AreTokens text ts × AllRead ts statements
TextRead text (Err e) =
    ((whole : Result (List Token) Placed) × Tells text whole × IsFault whole e) ⊎ ((ts : List Token) × AreTokens text ts × Refused ts e)
