-- The first fault of bytes that are no statements.
use Rattle.std.specs.Prelude.{◌≡◌, ℕ, List, [], ◌∷◌, ◌++◌}
use Rattle.std.specs.Str.{IsUtf8, chars}
use Rattle.std.specs.Str.Lossy.{utf8_valid_len}
use Rattle.statement_syntax.specs.Types.{Spot, Token, Fault, Fault as fault, Placed, Stop, stop, SyntaxFault, SyntaxFault as refusal, Language}
use Rattle.statement_tokens.specs.Fault.{code_of}
use Rattle.statement_tokens.specs.Language.{language_of}
use Rattle.statement_tokens.specs.Tokens.{AreTokens, IsFirstScanFault}
use Rattle.statement_syntax.specs.Grammar.{StatedLine, IsFileOf, file_tokens, FileFits}

-- the tokens are a prefix of some file of the language
abbrev pub GoesOn : Language → List Token → Type 0
GoesOn language front = (more : List Token) × (lines : List StatedLine) × IsFileOf language lines × (front ++ more ≡ file_tokens lines)

-- the tokens are a prefix of some file of the language with at most 64 nested round brackets
abbrev pub GoesOnWithin : Language → List Token → Type 0
GoesOnWithin language front = (more : List Token) × (lines : List StatedLine) × IsFileOf language lines × FileFits lines × (front ++ more ≡ file_tokens lines)

-- all tokens are good, and this is the first after which they are no prefix of a file of their language within the limit
pub record IsMisfit (bytes : List ℕ) (at : Spot) : Type 0 where
  pub utf8 : IsUtf8 bytes
  pub front : List Token
  pub token : Token
  pub rest : List Token
  pub tokens : AreTokens (chars bytes) (front ++ token ∷ rest)
  pub place : token.at ≡ at
  pub before : GoesOnWithin (language_of (front ++ token ∷ rest)) front
  pub there : GoesOnWithin (language_of (front ++ token ∷ rest)) (front ++ token ∷ []) → ⊥

-- after the token of the misfit too the tokens are a prefix of some file of the language, whatever the limit
abbrev pub GoesOnPast : (bytes : List ℕ) (at : Spot) → IsMisfit bytes at → Type 0
GoesOnPast bytes at m = GoesOn (language_of (m.front ++ m.token ∷ m.rest)) (m.front ++ m.token ∷ [])

-- The fault is the first of the bytes, at this place.
pub data IsFirstFault (bytes : List ℕ) (f : Fault) (at : Spot) : Type 0 where
  -- the place is the number of valid bytes
  not_utf8 : f ≡ fault.NotUtf8 → (IsUtf8 bytes → ⊥) → at ≡ record { line = 0; column = utf8_valid_len bytes } → IsFirstFault bytes f at
  -- a bad token, or a literal that is too large
  no_token : IsUtf8 bytes → IsFirstScanFault (chars bytes) f at → IsFirstFault bytes f at
  expected : f ≡ fault.Expected → (m : IsMisfit bytes at) → (GoesOnPast bytes at m → ⊥) → IsFirstFault bytes f at
  too_deep : f ≡ fault.TooDeep → (m : IsMisfit bytes at) → GoesOnPast bytes at m → IsFirstFault bytes f at

-- the refusal has the first fault of the bytes
abbrev pub TellsFirstFault : List ℕ → SyntaxFault → Type 0
TellsFirstFault bytes (refusal.Fault code line column) = (f : Fault) × (code ≡ code_of f) × IsFirstFault bytes f (record { line = line; column = column })
-- want of memory is always allowed
TellsFirstFault bytes (refusal.Memory e) = Unit {0}

abbrev pub IsWantOfMemory : SyntaxFault → Type 0
IsWantOfMemory (refusal.Fault code line column) = ⊥
IsWantOfMemory (refusal.Memory e) = Unit {0}

abbrev pub fault_at : Fault → Spot → SyntaxFault
fault_at f at = refusal.Fault (code_of f) at.line at.column

-- the refusal has the scanner's error; want of memory is always allowed
abbrev pub TellsScan : Stop Placed → SyntaxFault → Type 0
TellsScan (stop.Fault placed) refused = refused ≡ fault_at placed.fault placed.at
TellsScan (stop.Memory error) refused = IsWantOfMemory refused
