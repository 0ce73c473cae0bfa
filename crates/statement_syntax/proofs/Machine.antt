-- Reading tokens one by one: what has been read of an expression that isn't at its end.
use Rattle.statement_syntax.proofs.Prelude.{zero, List, [], ◌∷◌, ◌++◌, Option, Some, None, ℤ, pos, Spot, Token, kind, Name, Number, Lead, no_sign, Sign, Expr, first, joined, Product, zero_alone, factors, Factors, one, beside, plain, marked, raised, Prime, sign_token, name_token, number_token, lead_tokens, signed_token, literal_tokens, expr_tokens, factors_tokens}

-- the sum before the term that is read
pub data Head : Type 0 where
  led : Lead → Head
  after : Expr → Sign → Head

-- what has been read of the term
pub data Part : Type 0 where
  nothing : Part
  scaled : Number → Part
  product : Option Number → Factors → Part

-- inside square brackets, after a caret with the product before it, or neither
pub data Focus : Type 0 where
  outside : Focus
  square : Spot → Focus
  named : Spot → Name → Focus
  behind_caret : Option Number → Factors → Spot → Focus

-- an open round bracket, with what is before it
pub record Level : Type 0 where
  pub head : Head
  pub part : Part
  pub at : Spot

pub record State : Type 0 where
  pub levels : List Level
  pub head : Head
  pub part : Part
  pub focus : Focus

abbrev pub at_outside : List Level → Head → Part → State
at_outside levels head part = record { levels = levels; head = head; part = part; focus = outside }

abbrev pub fresh : List Level → State
fresh levels = at_outside levels (led no_sign) nothing

abbrev pub add : Part → Prime → Part
add nothing p = product None (one (plain p))
add (scaled n) p = product (Some n) (one (plain p))
add (product l fs) p = product l (beside fs (plain p))

abbrev pub with_mark : Factors → Spot → Factors
with_mark (one f) at = one (marked f at)
with_mark (beside fs f) at = beside fs (marked f at)

abbrev pub with_power : Factors → Spot → Number → Factors
with_power (one f) at n = one (raised f at n)
with_power (beside fs f) at n = beside fs (raised f at n)

-- a literal alone is a term only where its value is 0
abbrev pub lone_literal : ℤ → Spot → Option Product
lone_literal (pos zero) at = Some (zero_alone at)
lone_literal z at = None

-- the term, where it may end here
abbrev pub whole_term : Part → Option Product
whole_term nothing = None
whole_term (scaled n) = lone_literal n.value n.at
whole_term (product l fs) = Some (factors l fs)

-- the sum so far with this term
abbrev pub with_term : Head → Product → Expr
with_term (led l) t = first l t
with_term (after e s) t = joined e s t

-- the expression, where it may end here
abbrev pub end_by : List Level → Head → Focus → Option Product → Option Expr
end_by [] head outside (Some t) = Some (with_term head t)
end_by levels head focus t = None

abbrev pub whole : State → Option Expr
whole st = end_by st.levels st.head st.focus (whole_term st.part)

-- the tokens that a state has read
abbrev pub head_tokens : Head → List Token
head_tokens (led l) = lead_tokens l
head_tokens (after e s) = expr_tokens e ++ signed_token s ∷ []

abbrev pub part_tokens : Part → List Token
part_tokens nothing = []
part_tokens (scaled n) = number_token n ∷ []
part_tokens (product l fs) = literal_tokens l ++ factors_tokens fs

-- after a caret the product is in the focus
abbrev pub kept_tokens : Part → Focus → List Token
kept_tokens part (behind_caret l fs caret) = []
kept_tokens part focus = part_tokens part

abbrev pub focus_tokens : Focus → List Token
focus_tokens outside = []
focus_tokens (square left) = sign_token kind.OpenSquare left ∷ []
focus_tokens (named left n) = sign_token kind.OpenSquare left ∷ name_token n ∷ []
focus_tokens (behind_caret l fs caret) = literal_tokens l ++ factors_tokens fs ++ sign_token kind.Caret caret ∷ []

abbrev pub level_tokens : List Level → List Token
level_tokens [] = []
level_tokens (level ∷ levels) = level_tokens levels ++ head_tokens level.head ++ part_tokens level.part ++ sign_token kind.Open level.at ∷ []

abbrev pub state_tokens : State → List Token
state_tokens st = level_tokens st.levels ++ head_tokens st.head ++ kept_tokens st.part st.focus ++ focus_tokens st.focus
