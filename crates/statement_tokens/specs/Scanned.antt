-- What a scanner has left of its text, and the tokens that it returns.
use Rattle.std.specs.Prelude.{◌<◌, ◌+◌, ◌*◌, ℕ, zero, suc, length, List, [], ◌∷◌, ◌++◌, Option, Some, None, Result, Ok, Err}
use Rattle.statement_tokens.specs.Tokens.{AreTokensBehind, IsFaultBehind}
use Rattle.statement_tokens.specs.Types.{Spot, Token, Placed, Stop, stop, Scanner}

-- after these tokens, the text from this place on has these tokens, or this first fault
abbrev pub TellsBehind : List Token → Spot → ℕ → List ℕ → Result (List Token) Placed → Type 0
TellsBehind before at past text (Ok tokens) = AreTokensBehind before at past text tokens
TellsBehind before at past text (Err placed) = IsFaultBehind before at past text placed.fault placed.at

-- the text has these tokens, or this first fault
abbrev pub Tells : List ℕ → Result (List Token) Placed → Type 0
Tells text read = TellsBehind [] (record { line = 1; column = 1 }) 0 text read

-- what a scanner has not read, after it returned these tokens, has these tokens, or this first fault
abbrev pub Leaves : List Token → Scanner → Result (List Token) Placed → Type 0
Leaves before scanner read = TellsBehind before scanner.at scanner.past scanner.text.now read

-- what it has left is what the text has
abbrev pub HasWhole : List ℕ → Scanner → Type 0
HasWhole text scanner = (read : Result (List Token) Placed) → Leaves [] scanner read → Tells text read

infixl 10 ◌>>=◌
abbrev pub ◌>>=◌ : {A B F : Type 0} → Result A F → (A → Result B F) → Result B F
(Ok x) >>= f = f x
(Err e) >>= f = Err e

-- these tokens before those that are read
abbrev pub with_front : List Token → Result (List Token) Placed → Result (List Token) Placed
with_front front read = read >>= λ tokens. Ok (front ++ tokens)

-- it returns the first token that it had left, or None where there was none, or the fault; want of memory is always allowed
abbrev pub Hands : List Token → Scanner → Result (Option Token) (Stop Placed) → Scanner → Type 0
Hands before old (Ok (Some token)) new =
    (read : Result (List Token) Placed) → Leaves (before ++ token ∷ []) new read → Leaves before old (with_front (token ∷ []) read)
Hands before old (Ok None) new = Leaves before old (Ok []) × Leaves before new (Ok [])
Hands before old (Err (stop.Fault placed)) new = Leaves before old (Err placed)
Hands before old (Err (stop.Memory error)) new = Unit {0}

abbrev pub one_if_some : ℕ → ℕ
one_if_some zero = 0
one_if_some (suc n) = 1

-- at most how many tokens it can still return: one for each character and, where the line has one, its end
abbrev pub most_tokens : Scanner → ℕ
most_tokens scanner = length scanner.text.now * 2 + one_if_some scanner.past

abbrev pub Lessens : ℕ → ℕ → Result (Option Token) (Stop Placed) → Type 0
Lessens old new (Ok (Some token)) = new < old
Lessens old new read = Unit {0}
