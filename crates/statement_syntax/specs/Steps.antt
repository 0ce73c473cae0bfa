-- The steps of the reader of expressions, one token after another.
use Rattle.std.specs.Prelude.{ℤ, zero, Bool, true, false, List, [], ◌∷◌, ◌++◌, length, Option, Some, None, Result, Ok, Err, pos, nat_lt, if◌then◌else◌}
use Rattle.statement_syntax.specs.Types.{Spot, Token, TokenKind, TokenKind as kind, Name, Number, Mark, Adjoint, Power, Primary, Letter, Identity, Bracket}
use Rattle.statement_syntax.specs.Types.{Term, out-Term, Head, Level, Reading, Focus, Focus as focus, Fault, Expected, TooDeep}
use Rattle.statement_syntax.specs.Types.{Sum, Part, Nothing, Scaled, Product}
use Rattle.statement_syntax.specs.Limits.{bracket_limit}
pub use Rattle.statement_syntax.specs.Nodes.{name_with, factor_of, term_of, sum_of, marked_factor}

abbrev pub part_with : Part → Primary → Spot → Part
part_with Nothing p at = Product (record { at = at; literal = None; factors = []; last = factor_of at p [] })
part_with (Scaled n) p at = Product (record { at = n.at; literal = Some n; factors = []; last = factor_of at p [] })
part_with (Product q) p at = Product (record q { factors = q.factors ++ q.last ∷ []; last = factor_of at p [] })

infixl 10 ◌>>=◌
abbrev pub ◌>>=◌ : {A B : Type 0} → Result A Fault → (A → Result B Fault) → Result B Fault
(Ok x) >>= f = f x
(Err e) >>= f = Err e

-- the items one after another, by what each of them does
unfoldable pub run : {S : Type 0} → (S → Token → Result S Fault) → S → List Token → Result S Fault
run step state [] = Ok state
run step state (t ∷ ts) = step state t >>= λ next. run step next ts

abbrev pub lone_term : ℤ → Number → Bool → Result Term Fault
lone_term (pos zero) n negative = Ok (term_of n.at negative (Some n) [])
lone_term z n negative = Err Expected

abbrev pub ended_part : Part → Bool → Result Term Fault
ended_part Nothing negative = Err Expected
ended_part (Scaled n) negative = lone_term n.value n negative
ended_part (Product q) negative = Ok (term_of q.at negative q.literal (q.factors ++ q.last ∷ []))

abbrev pub at_or : Option Spot → Spot → Spot
at_or None at = at
at_or (Some at) other = at

abbrev pub sum_at : Head → Term → Spot
sum_at head t = at_or head.at (out-Term t).at

abbrev pub sum_with : Head → Term → Sum
sum_with head t = sum_of (sum_at head t) (head.terms ++ t ∷ [])

abbrev pub mark_step : Part → Mark → Result Part Fault
mark_step (Product q) mark = Ok (Product (record q { last = marked_factor q.last mark }))
mark_step part mark = Err Expected

abbrev pub sign_by : Head → Result Term Fault → Bool → Result Head Fault
sign_by head (Ok t) negative = Ok (record { at = Some (sum_at head t); terms = head.terms ++ t ∷ []; negative = negative })
sign_by head (Err e) negative = Err e

abbrev pub lead_by : Head → Option Spot → Spot → Bool → Result Head Fault
lead_by head None at negative = Ok (record { at = Some at; terms = head.terms; negative = negative })
lead_by head (Some first) at negative = Err Expected

abbrev pub sign_step : Head → Part → Spot → Bool → Result Head Fault
sign_step head Nothing at negative = lead_by head head.at at negative
sign_step head part at negative = sign_by head (ended_part part head.negative) negative

abbrev pub outside : List Level → Head → Part → Reading
outside levels head part = record { levels = levels; head = head; part = part; focus = focus.Outside }

abbrev pub close_by : List Level → Sum → Result Reading Fault
close_by [] s = Err Expected
close_by (level ∷ levels) s = Ok (outside levels level.head (part_with level.part (Bracket s) level.at))

abbrev pub close_step : List Level → Head → Part → Result Reading Fault
close_step levels head part = do
  t ← ended_part part head.negative
  close_by levels (sum_with head t)

abbrev pub signed_step : List Level → Head → Part → Spot → Bool → Result Reading Fault
signed_step levels head part at negative = sign_step head part at negative >>= λ h. Ok (outside levels h Nothing)

abbrev pub empty_head : Head
empty_head = record { at = None; terms = []; negative = false }

abbrev pub open_step : List Level → Head → Part → Spot → Result Reading Fault
open_step levels head part at =
    if nat_lt (length levels) bracket_limit then Ok (outside (record { head = head; part = part; at = at } ∷ levels) empty_head Nothing) else Err TooDeep

abbrev pub literal_step : List Level → Head → Part → Number → Result Reading Fault
literal_step levels head Nothing n = Ok (outside levels head (Scaled n))
literal_step levels head part n = Err Expected

-- the literal is next
abbrev pub caret_step : List Level → Head → Part → Spot → Result Reading Fault
caret_step levels head (Product q) at = Ok (record { levels = levels; head = head; part = Nothing; focus = focus.Raised q at })
caret_step levels head part at = Err Expected

abbrev pub outside_step : List Level → Head → Part → TokenKind → Spot → Result Reading Fault
outside_step levels head part (kind.Name x) at = Ok (outside levels head (part_with part (Letter (record { text = x; at = at })) at))
outside_step levels head part (kind.Literal n) at = literal_step levels head part (record { value = n; at = at })
outside_step levels head part kind.Plus at = signed_step levels head part at false
outside_step levels head part kind.Minus at = signed_step levels head part at true
outside_step levels head part kind.Open at = open_step levels head part at
outside_step levels head part kind.Close at = close_step levels head part
outside_step levels head part kind.OpenSquare at = Ok (record { levels = levels; head = head; part = part; focus = focus.Square at })
outside_step levels head part kind.Quote at = mark_step part Adjoint >>= λ p. Ok (outside levels head p)
outside_step levels head part kind.Caret at = caret_step levels head part at
outside_step levels head part k at = Err Expected

abbrev pub name_in : TokenKind → Spot → Result Name Fault
name_in (kind.Name x) at = Ok (name_with x at)
name_in k at = Err Expected

abbrev pub number_in : TokenKind → Spot → Result Number Fault
number_in (kind.Literal n) at = Ok (record { value = n; at = at })
number_in k at = Err Expected

abbrev pub square_step : List Level → Head → Part → Spot → TokenKind → Spot → Result Reading Fault
square_step levels head part left k at = name_in k at >>= λ n. Ok (record { levels = levels; head = head; part = part; focus = focus.Named left n })

abbrev pub named_step : List Level → Head → Part → Spot → Name → TokenKind → Result Reading Fault
named_step levels head part left n kind.CloseSquare = Ok (outside levels head (part_with part (Identity n) left))
named_step levels head part left n k = Err Expected

abbrev pub focus_step : List Level → Head → Part → Focus → TokenKind → Spot → Result Reading Fault
focus_step levels head part focus.Outside k at = outside_step levels head part k at
focus_step levels head part (focus.Square left) k at = square_step levels head part left k at
focus_step levels head part (focus.Named left n) k at = named_step levels head part left n k
focus_step levels head part (focus.Raised q caret) k at =
    number_in k at >>= λ n. Ok (outside levels head (Product (record q { last = marked_factor q.last (Power caret n) })))

abbrev pub token_step : Reading → TokenKind → Spot → Result Reading Fault
token_step r k at = focus_step r.levels r.head r.part r.focus k at

abbrev pub whole_by : List Level → Head → Part → Focus → Result Sum Fault
whole_by [] head part focus.Outside = ended_part part head.negative >>= λ t. Ok (sum_with head t)
whole_by levels head part f = Err Expected

abbrev pub whole_sum : Reading → Result Sum Fault
whole_sum r = whole_by r.levels r.head r.part r.focus
