-- What a reader makes of the lines of a proof that cancels letters. Only the reader's functions and proofs use it; such texts are in Cancellations.
use Rattle.std.specs.Prelude.{ℕ, ◌+◌, ◌&&◌, Bool, List, [], ◌∷◌, ◌++◌, length, nat_eq, nat_le, ℤ, Option, Some, None, Result, Ok, Err, if◌then◌else◌, codes}
use Rattle.std.specs.List.{list_any}
use Rattle.std.specs.Option.{option_map, option_and_then}
use Rattle.word_core.specs.declared.letter.Letter.{Letter}
use Rattle.quiver.specs.Declarations.{Declaration}
use Rattle.traced_rows.specs.declared.evidence.Lemma.{Lemma}
use Rattle.cofactor_trace.specs.Limits.{row_limit}
use Rattle.cancel_rules.specs.declared.cancellation.Side.{Side}
use Rattle.cancel_rules.specs.declared.cancellation.Side.TheVariants.{Left, Right}
use Rattle.cancel_rules.specs.declared.cancellation.Item.{Item}
use Rattle.cancel_rules.specs.declared.cancellation.Item.TheVariants as item
use Rattle.cancel_rules.specs.declared.cancellation.Cancellation.{Cancellation}
use Rattle.block_text.specs.declared.fault.Flaw.{Flaw}
use Rattle.block_text.specs.declared.fault.Flaw.TheVariants.{BadLine, UnknownName, NumberTooLarge, TooMany}
use Rattle.block_text.specs.Fault.{◌>>=◌, asked}
use Rattle.block_text.specs.Letters.{is_number, number_within}
use Rattle.block_text.specs.Lines.{Line, number_limit, is, is_pair, begins, claim_of}
use Rattle.block_text.specs.Steps.{Steps}
use Rattle.block_text.specs.Tokens.{two_tokens}
use Rattle.certificate_text.specs.declared.place.Size.{Size}
use Rattle.certificate_text.specs.Lines.{is_value, denominator_of, lemma_scale_of, goal_scale_of, no_rows}
use Rattle.certificate_text.specs.Reading.{lemma_of, lemma_row}
use Rattle.cancellation_text.specs.declared.place.Opened.{Opened}
use Rattle.cancellation_text.specs.declared.place.Stage.{Stage}
use Rattle.cancellation_text.specs.declared.place.Stage.TheVariants as at
use Rattle.cancellation_text.specs.Blocks.{CalledTokens, CancelTokens, is_map_letter, known_letter}
use Rattle.cancellation_text.specs.Cancellations.{other_words}

-- the side on which a letter of this word is cancelled
abbrev pub called_side : List ℕ → Option Side
called_side word = if is (codes "monic") word then Some Left else if is (codes "epic") word then Some Right else None

abbrev pub side_of : List ℕ → Option Side
side_of word = if is (codes "left") word then Some Left else if is (codes "right") word then Some Right else None

abbrev pub called_of : List ℕ → Side → CalledTokens
called_of letter side = record { side = side; letter = letter }

-- a word and a letter
abbrev pub called_pair : List ℕ × List ℕ → Option CalledTokens
called_pair pair = if is_map_letter pair.1 then option_map (called_of pair.1) (called_side pair.0) else None

-- the tokens of `monic LETTER` or `epic LETTER`
abbrev pub called_tokens : Line → Option CalledTokens
called_tokens line = option_and_then called_pair (two_tokens line)

abbrev pub cancel_by : List ℕ → List ℕ → List ℕ → Side → CancelTokens
cancel_by number letter item side = record { number = number; letter = letter; side = side; item = item }

-- a side and a number
abbrev pub cancel_pair : List ℕ → List ℕ → List ℕ × List ℕ → Option CancelTokens
cancel_pair number letter pair = if is_number pair.1 then option_map (cancel_by number letter pair.1) (side_of pair.0) else None

-- the tokens of `cancel K LETTER left J` or `cancel K LETTER right J`, with this K
abbrev pub cancel_tokens : ℕ → Line → Option CancelTokens
cancel_tokens n [] = None
cancel_tokens n (word ∷ []) = None
cancel_tokens n (word ∷ number ∷ []) = None
cancel_tokens n (word ∷ number ∷ letter ∷ tokens) =
    if is (codes "cancel") word && (is_value n number && is_map_letter letter) then option_and_then (cancel_pair number letter) (two_tokens tokens) else None

-- the cancellation after so many items, of which there are at most as many as rows
abbrev pub cancel_of : List Declaration → ℕ → CancelTokens → Result Item Flaw
cancel_of ds before c =
    asked UnknownName (known_letter ds c.letter) >>= λ a.
    (asked NumberTooLarge (number_within number_limit c.item) >>= λ n.
    if nat_le row_limit before then Err (TooMany row_limit) else Ok (item.Cancel a c.side n))

abbrev pub is_called : Letter → List Letter → Bool
is_called a letters = list_any (λ b. nat_eq b.0 a.0) letters

-- one more, which is none of them
abbrev pub one_more : List Letter → Letter → Result (List Letter) Flaw
one_more letters a = if is_called a letters then Err BadLine else Ok (letters ++ a ∷ [])

-- those that are cancelled on this side
abbrev pub letters_on : Opened → Side → List Letter
letters_on o Left = o.monic
letters_on o Right = o.epic

-- the new letters on this side, and the old ones on the other
abbrev pub on_left : Side → List Letter → List Letter → List Letter
on_left Left new old = new
on_left Right new old = old

abbrev pub on_right : Side → List Letter → List Letter → List Letter
on_right Left new old = old
on_right Right new old = new

-- the same with others on this side
abbrev pub with_letters : Opened → Side → List Letter → Opened
with_letters o side letters = record {
  claim = o.claim;
  denominator = o.denominator;
  monic = on_left side letters o.monic;
  epic = on_right side letters o.epic;
  items = o.items;
  size = o.size;
}

abbrev pub called : List Declaration → Opened → CalledTokens → Result Stage Flaw
called ds o c =
    asked UnknownName (known_letter ds c.letter) >>= λ a.
    (one_more (letters_on o c.side) a >>= λ letters. Ok (at.Called (with_letters o c.side letters)))

-- after the denominator
abbrev pub begun : ℕ → ℤ → Opened
begun claim denominator = record { claim = claim; denominator = denominator; monic = []; epic = []; items = []; size = no_rows }

-- the same with one item more
abbrev pub with_item : Opened → Item → Opened
with_item o i = record { claim = o.claim; denominator = o.denominator; monic = o.monic; epic = o.epic; items = o.items ++ i ∷ []; size = o.size }

-- the same with another size
abbrev pub resized : Opened → Size → Opened
resized o size = record { claim = o.claim; denominator = o.denominator; monic = o.monic; epic = o.epic; items = o.items; size = size }

-- a lemma begins
abbrev pub lemma_begun : Opened → Line → Result Stage Flaw
lemma_begun o line = lemma_scale_of (length o.items) line >>= λ scale. Ok (at.Lemma o (lemma_of scale []))

-- the goal begins
abbrev pub goal_begun : Opened → Line → Result Stage Flaw
goal_begun o line = goal_scale_of line >>= λ scale. Ok (at.Goal o (lemma_of scale []))

-- a cancellation, where the line is one, or else a lemma
abbrev pub cancelled : List Declaration → Opened → Line → Option CancelTokens → Result Stage Flaw
cancelled ds o line (Some c) = cancel_of ds (length o.items) c >>= λ i. Ok (at.Cancelled (with_item o i))
cancelled ds o line None = lemma_begun o line

-- the next item, or the goal
abbrev pub item_or_goal : List Declaration → Opened → Line → Result Stage Flaw
item_or_goal ds o line =
    if begins (codes "goal") line then goal_begun o line
    else cancelled ds o line (cancel_tokens (length o.items + 1) line)

-- a letter that is called monic or epic, where the line is one
abbrev pub calling : List Declaration → Opened → Line → Option CalledTokens → Result Stage Flaw
calling ds o line (Some c) = called ds o c
calling ds o line None = item_or_goal ds o line

-- a row of the lemma, or what follows it
abbrev pub in_lemma : List Declaration → Opened → Lemma → Line → Result Stage Flaw
in_lemma ds o l line =
    if begins (codes "row") line then (lemma_row ds o.size l line >>= λ grown. Ok (at.Lemma (resized o grown.0) grown.1))
    else item_or_goal ds (with_item o (item.Lemma l)) line

-- a row of the goal
abbrev pub in_goal : List Declaration → Opened → Lemma → Line → Result Stage Flaw
in_goal ds o goal line = lemma_row ds o.size goal line >>= λ grown. Ok (at.Goal (resized o grown.0) grown.1)

-- cancellation 1
abbrev pub begin : Line → Option Stage
begin line = if is_pair (codes "cancellation") (codes "1") line then Some at.Headed else None

abbrev pub next : List Declaration → Stage → Line → Result Stage Flaw
next ds at.Headed line = claim_of line >>= λ n. Ok (at.Claimed n)
next ds (at.Claimed n) line = denominator_of line >>= λ d. Ok (at.Called (begun n d))
next ds (at.Called o) line = calling ds o line (called_tokens line)
next ds (at.Lemma o l) line = in_lemma ds o l line
next ds (at.Cancelled o) line = item_or_goal ds o line
next ds (at.Goal o goal) line = in_goal ds o goal line

-- the proof with this goal
abbrev pub proof_of : Opened → Lemma → Cancellation
proof_of o goal = record { claim = o.claim; denominator = o.denominator; monic = o.monic; epic = o.epic; items = o.items; goal = goal }

abbrev pub finish : Stage → Option Cancellation
finish at.Headed = None
finish (at.Claimed n) = None
finish (at.Called o) = None
finish (at.Lemma o l) = None
finish (at.Cancelled o) = None
finish (at.Goal o goal) = Some (proof_of o goal)

abbrev pub cancellation_steps : List Declaration → Steps Stage Cancellation
cancellation_steps ds = record { others = other_words; begin = begin; next = next ds; finish = finish }
