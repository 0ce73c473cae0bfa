-- The step of the reader from what has been read of a line to what has been read with one more token.
use Rattle.std.specs.Prelude.{ℕ, Bool, true, false, List, [], ◌∷◌, ◌++◌, Option, Some, None, Result, Ok, Err, bytes_eq, if◌then◌else◌, codes}
use Rattle.statement_syntax.specs.Types.{Spot, Token, TokenKind, TokenKind as kind, Language, First, Second, Name, Number, Sum, Statement, StatementKind}
use Rattle.statement_syntax.specs.Types.{StatementKind as statement, Fault, Expected, Reading, Nothing, ListWord, Object, Solve, Eliminate, SidesWord, Assume}
use Rattle.statement_syntax.specs.Types.{Claim, PairWord, Pinv, Inverse, Inner, Opening, Opening as opening, MapRest, MapRest as rest, Pairs, Line}
use Rattle.statement_syntax.specs.Types.{Line as line, Progress}
use Rattle.statement_syntax.specs.Steps.{◌>>=◌, outside, empty_head, token_step, whole_sum}
pub use Rattle.statement_syntax.specs.Steps.{name_in, number_in}
use Rattle.statement_syntax.specs.Tree.{list_kind, sides_kind, pair_kind}

abbrev pub Lined : Type 0
Lined = Result Line Fault

abbrev pub named : List ℕ → Spot → Name
named text at = record { text = text; at = at }

-- choices by the next token
abbrev pub on_colon : {A : Type 0} → A → A → TokenKind → A
on_colon found other kind.Colon = found
on_colon found other k = other

abbrev pub on_arrow : {A : Type 0} → A → A → TokenKind → A
on_arrow found other kind.Arrow = found
on_arrow found other k = other

abbrev pub on_equals : {A : Type 0} → A → A → TokenKind → A
on_equals found other kind.Equals = found
on_equals found other k = other

abbrev pub on_end : {A : Type 0} → A → A → TokenKind → A
on_end found other kind.End = found
on_end found other k = other

-- a word that begins a statement in both languages
abbrev pub common_opening : List ℕ → Option Opening
common_opening word =
    if bytes_eq word (codes "object") then Some (opening.List Object)
    else (if bytes_eq word (codes "solve") then Some (opening.List Solve)
    else (if bytes_eq word (codes "map") then Some opening.Map
    else (if bytes_eq word (codes "assume") then Some (opening.Sides Assume)
    else (if bytes_eq word (codes "claim") then Some (opening.Sides Claim)
    else (if bytes_eq word (codes "pinv") then Some (opening.Pair Pinv)
    else (if bytes_eq word (codes "inverse") then Some (opening.Pair Inverse)
    else (if bytes_eq word (codes "inner") then Some (opening.Pair Inner)
    else (if bytes_eq word (codes "projection") then Some opening.Projection
    else (if bytes_eq word (codes "order") then Some opening.Order
    else (if bytes_eq word (codes "model") then Some opening.Model
    else None))))))))))

abbrev pub opening_in : Language → List ℕ → Option Opening
opening_in First word = common_opening word
opening_in Second word = if bytes_eq word (codes "eliminate") then Some (opening.List Eliminate) else common_opening word

abbrev pub start_reading : Reading
start_reading = outside [] empty_head Nothing

abbrev pub opened : Opening → Spot → Line
opened (opening.List w) at = line.List w at []
opened opening.Map at = line.Map at [] rest.Names
opened (opening.Sides w) at = line.Sides w at None start_reading
opened (opening.Pair w) at = line.Pair w at None
opened opening.Projection at = line.Projection at
opened opening.Order at = line.Order at
opened opening.Model at = line.Model at

abbrev pub begun : Option Opening → Spot → Lined
begun None at = Err Expected
begun (Some o) at = Ok (opened o at)

abbrev pub start_step : Language → TokenKind → Spot → Lined
start_step language (kind.Name x) at = begun (opening_in language x) at
start_step language k at = Err Expected

-- the other tokens
abbrev pub is_word : TokenKind → List ℕ → Bool
is_word (kind.Name x) word = bytes_eq x word
is_word k word = false

abbrev pub whole : Spot → StatementKind → Line
whole at kind = line.Whole (record { at = at; kind = kind })

abbrev pub list_step : ListWord → Spot → List Name → TokenKind → Spot → Lined
list_step w at names k t = name_in k t >>= λ n. Ok (line.List w at (names ++ n ∷ []))

abbrev pub colon_after : Spot → List Name → Lined
colon_after at [] = Err Expected
colon_after at (n ∷ ns) = Ok (line.Map at (n ∷ ns) rest.Colon)

abbrev pub map_names_step : Spot → List Name → TokenKind → Spot → Lined
map_names_step at names k t = on_colon (colon_after at names) (name_in k t >>= λ n. Ok (line.Map at (names ++ n ∷ []) rest.Names)) k

abbrev pub map_step : Spot → List Name → MapRest → TokenKind → Spot → Lined
map_step at names rest.Names k t = map_names_step at names k t
map_step at names rest.Colon k t = name_in k t >>= λ n. Ok (line.Map at names (rest.Source n))
map_step at names (rest.Source s) k t = on_arrow (Ok (line.Map at names (rest.Arrow s))) (Err Expected) k
map_step at names (rest.Arrow s) k t = name_in k t >>= λ n. Ok (line.Map at names (rest.Target s n))
map_step at names (rest.Target s e) k t = if is_word k (codes "self") then Ok (whole at (statement.Maps names s e true)) else Err Expected

abbrev pub left_end : SidesWord → Spot → Reading → Lined
left_end w at r = whole_sum r >>= λ left. Ok (line.Sides w at (Some left) start_reading)

abbrev pub sides_step : SidesWord → Spot → Option Sum → Reading → TokenKind → Spot → Lined
sides_step w at (Some left) r k t = token_step r k t >>= λ x. Ok (line.Sides w at (Some left) x)
sides_step w at None r k t = on_equals (left_end w at r) (token_step r k t >>= λ x. Ok (line.Sides w at None x)) k

abbrev pub pair_with : PairWord → Spot → Option Name → Name → Line
pair_with w at None n = line.Pair w at (Some n)
pair_with w at (Some m) n = whole at (pair_kind w m n)

abbrev pub pair_step : PairWord → Spot → Option Name → TokenKind → Spot → Lined
pair_step w at first k t = name_in k t >>= λ n. Ok (pair_with w at first n)

abbrev pub no_pairs : Pairs
no_pairs = record { whole = []; half = None }

abbrev pub pairs_by : List (Name × Number) → Option Name → TokenKind → Spot → Result Pairs Fault
pairs_by ps None k t = name_in k t >>= λ n. Ok (record { whole = ps; half = Some n })
pairs_by ps (Some n) k t = number_in k t >>= λ m. Ok (record { whole = ps ++ (n, m) ∷ []; half = None })

abbrev pub pairs_step : Pairs → TokenKind → Spot → Result Pairs Fault
pairs_step p k t = pairs_by p.whole p.half k t

abbrev pub order_step : Spot → TokenKind → Lined
order_step at k =
    if is_word k (codes "degree") then Ok (whole at statement.Degree)
    else (if is_word k (codes "weight") then Ok (line.Weights at no_pairs) else Err Expected)

abbrev pub projection_step : Spot → TokenKind → Spot → Lined
projection_step at k t = name_in k t >>= λ n. Ok (whole at (statement.Projection n))

-- it holds no expression
abbrev pub IsPlain : Line → Type 0
IsPlain (line.Sides w at left r) = ⊥
IsPlain l = Unit {0}

-- nothing that it holds is kept in the next state
abbrev pub IsBare : Line → Type 0
IsBare (line.List w at names) = ⊥
IsBare (line.Map at names r) = ⊥
IsBare (line.Sides w at left r) = ⊥
IsBare (line.Pair w at first) = ⊥
IsBare (line.Weights at ps) = ⊥
IsBare (line.Shape at m ps) = ⊥
IsBare l = Unit {0}

abbrev pub line_step : Language → Line → TokenKind → Spot → Lined
line_step language line.Start k t = start_step language k t
line_step language (line.List w at names) k t = list_step w at names k t
line_step language (line.Map at names r) k t = map_step at names r k t
line_step language (line.Sides w at left r) k t = sides_step w at left r k t
line_step language (line.Pair w at first) k t = pair_step w at first k t
line_step language (line.Projection at) k t = projection_step at k t
line_step language (line.Order at) k t = order_step at k
line_step language (line.Weights at ps) k t = pairs_step ps k t >>= λ p. Ok (line.Weights at p)
line_step language (line.Model at) k t = number_in k t >>= λ m. Ok (line.Shape at m no_pairs)
line_step language (line.Shape at m ps) k t = pairs_step ps k t >>= λ p. Ok (line.Shape at m p)
line_step language (line.Whole s) k t = Err Expected

abbrev pub list_end : ListWord → List Name → Result StatementKind Fault
list_end w [] = Err Expected
list_end w (n ∷ ns) = Ok (list_kind w (n ∷ ns))

abbrev pub map_end : List Name → MapRest → Result StatementKind Fault
map_end names (rest.Target s t) = Ok (statement.Maps names s t false)
map_end names r = Err Expected

abbrev pub sides_end : SidesWord → Option Sum → Reading → Result StatementKind Fault
sides_end w None r = Err Expected
sides_end w (Some left) r = whole_sum r >>= λ right. Ok (sides_kind w left right)

abbrev pub pairs_end : List (Name × Number) → Option Name → Result (List (Name × Number)) Fault
pairs_end ps None = Ok ps
pairs_end ps (Some n) = Err Expected

abbrev pub whole_pairs : Pairs → Result (List (Name × Number)) Fault
whole_pairs p = pairs_end p.whole p.half

abbrev pub weights_by : List (Name × Number) → Result StatementKind Fault
weights_by [] = Err Expected
weights_by (p ∷ ps) = Ok (statement.Weight (p ∷ ps))

abbrev pub weights_end : Pairs → Result StatementKind Fault
weights_end p = whole_pairs p >>= weights_by

abbrev pub shape_end : Number → Pairs → Result StatementKind Fault
shape_end m p = whole_pairs p >>= λ ps. Ok (statement.Shape m ps)

abbrev pub statement_by : Spot → Result StatementKind Fault → Result Statement Fault
statement_by at r = r >>= λ kind. Ok (record { at = at; kind = kind })

abbrev pub line_end : Line → Result Statement Fault
line_end (line.List w at names) = statement_by at (list_end w names)
line_end (line.Map at names r) = statement_by at (map_end names r)
line_end (line.Sides w at left r) = statement_by at (sides_end w left r)
line_end (line.Weights at ps) = statement_by at (weights_end ps)
line_end (line.Shape at m ps) = statement_by at (shape_end m ps)
line_end (line.Whole s) = Ok s
line_end l = Err Expected

-- a whole file: the statements of its lines, and the line that is read
abbrev pub ended : Progress → Result Progress Fault
ended p = line_end p.line >>= λ s. Ok (record { statements = p.statements ++ s ∷ []; line = line.Start })

abbrev pub within_line : Language → Progress → TokenKind → Spot → Result Progress Fault
within_line language p k at = line_step language p.line k at >>= λ l. Ok (record { statements = p.statements; line = l })

abbrev pub file_step : Language → Progress → Token → Result Progress Fault
file_step language p t = on_end (ended p) (within_line language p t.kind t.at) t.kind
