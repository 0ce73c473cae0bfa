-- The grammar: a production is a constructor, with the places of its words and signs; and the tokens of each tree.
use Rattle.std.specs.Prelude.{ℕ, zero, suc, List, [], ◌∷◌, ◌++◌, map, Option, Some, None, pos, codes}
use Rattle.std.specs.List.{flat_map}
use Rattle.statement_syntax.specs.Types.{Spot, ListWord, Object, Solve, Eliminate, SidesWord, Assume, Claim, PairWord, Pinv, Inverse, Inner, Language, First}
use Rattle.statement_syntax.specs.Types.{Second, Token, TokenKind, TokenKind as kind, Name, Number}
use Rattle.statement_syntax.specs.Limits.{bracket_limit}

-- a leading sign, or none
pub data Lead : Type 0 where
  no_sign : Lead
  lead_plus : Spot → Lead
  lead_minus : Spot → Lead

-- a sign between terms
pub data Sign : Type 0 where
  plus : Spot → Sign
  minus : Spot → Sign

mutual
  -- E = [ "+" | "-" ] term | E ( "+" | "-" ) term
  pub data Expr : Type 0 where
    first : Lead → Product → Expr
    joined : Expr → Sign → Product → Expr

  -- term = literal of value 0 | [ literal ] factor { factor }
  pub data Product : Type 0 where
    zero_alone : Spot → Product
    factors : Option Number → Factors → Product

  pub data Factors : Type 0 where
    one : Marked → Factors
    beside : Factors → Marked → Factors

  -- factor = primary { "'" | "^" literal }; only the second language has carets as tokens
  pub data Marked : Type 0 where
    plain : Prime → Marked
    marked : Marked → Spot → Marked
    raised : Marked → Spot → Number → Marked

  -- primary = name | "[" name "]" | "(" E ")"
  pub data Prime : Type 0 where
    name : Name → Prime
    identity : Spot → Name → Spot → Prime
    bracket : Spot → Expr → Spot → Prime

abbrev pub sign_token : TokenKind → Spot → Token
sign_token k at = record { at = at; kind = k }

abbrev pub name_token : Name → Token
name_token n = record { at = n.at; kind = kind.Name n.text }

abbrev pub number_token : Number → Token
number_token n = record { at = n.at; kind = kind.Literal n.value }

abbrev pub lead_tokens : Lead → List Token
lead_tokens no_sign = []
lead_tokens (lead_plus at) = sign_token kind.Plus at ∷ []
lead_tokens (lead_minus at) = sign_token kind.Minus at ∷ []

abbrev pub signed_token : Sign → Token
signed_token (plus at) = sign_token kind.Plus at
signed_token (minus at) = sign_token kind.Minus at

abbrev pub literal_tokens : Option Number → List Token
literal_tokens None = []
literal_tokens (Some n) = number_token n ∷ []

abbrev pub zero_at : Spot → Number
zero_at at = record { value = pos 0; at = at }

-- the tokens of an expression
abbrev mutual
  pub expr_tokens : Expr → List Token
  expr_tokens (first l t) = lead_tokens l ++ product_tokens t
  expr_tokens (joined e s t) = expr_tokens e ++ signed_token s ∷ product_tokens t

  pub product_tokens : Product → List Token
  product_tokens (zero_alone at) = number_token (zero_at at) ∷ []
  product_tokens (factors l fs) = literal_tokens l ++ factors_tokens fs

  pub factors_tokens : Factors → List Token
  factors_tokens (one f) = marked_tokens f
  factors_tokens (beside fs f) = factors_tokens fs ++ marked_tokens f

  pub marked_tokens : Marked → List Token
  marked_tokens (plain p) = prime_tokens p
  marked_tokens (marked f at) = marked_tokens f ++ sign_token kind.Quote at ∷ []
  marked_tokens (raised f at n) = marked_tokens f ++ sign_token kind.Caret at ∷ number_token n ∷ []

  pub prime_tokens : Prime → List Token
  prime_tokens (name n) = name_token n ∷ []
  prime_tokens (identity left n right) = sign_token kind.OpenSquare left ∷ name_token n ∷ sign_token kind.CloseSquare right ∷ []
  prime_tokens (bracket left e right) = sign_token kind.Open left ∷ (expr_tokens e ++ sign_token kind.Close right ∷ [])

-- at most this many round brackets are nested
abbrev mutual
  pub ExprFits : Expr → ℕ → Type 0
  ExprFits (first l t) d = ProductFits t d
  ExprFits (joined e s t) d = ExprFits e d × ProductFits t d

  pub ProductFits : Product → ℕ → Type 0
  ProductFits (zero_alone at) d = Unit {0}
  ProductFits (factors l fs) d = FactorsFit fs d

  pub FactorsFit : Factors → ℕ → Type 0
  FactorsFit (one f) d = MarkedFits f d
  FactorsFit (beside fs f) d = FactorsFit fs d × MarkedFits f d

  pub MarkedFits : Marked → ℕ → Type 0
  MarkedFits (plain p) d = PrimeFits p d
  MarkedFits (marked f at) d = MarkedFits f d
  MarkedFits (raised f at n) d = MarkedFits f d

  pub PrimeFits : Prime → ℕ → Type 0
  PrimeFits (name n) d = Unit {0}
  PrimeFits (identity left n right) d = Unit {0}
  PrimeFits (bracket left e right) zero = ⊥
  PrimeFits (bracket left e right) (suc d) = ExprFits e d

-- the words before a list of names, before two sides and before two names
abbrev pub list_text : ListWord → List ℕ
list_text Object = codes "object"
list_text Solve = codes "solve"
list_text Eliminate = codes "eliminate"

abbrev pub sides_text : SidesWord → List ℕ
sides_text Assume = codes "assume"
sides_text Claim = codes "claim"

abbrev pub pair_text : PairWord → List ℕ
pair_text Pinv = codes "pinv"
pair_text Inverse = codes "inverse"
pair_text Inner = codes "inner"

-- an optional last word
pub data Ending : Type 0 where
  no_word : Ending
  self_word : Spot → Ending

-- a statement with the places of its words and signs; a list has a first item
pub data Stated : Type 0 where
  -- object NAME .. | solve NAME .. | eliminate NAME ..
  listed : ListWord → Spot → Name → List Name → Stated
  -- map NAME .. : NAME -> NAME [self]
  mapped : Spot → Name → List Name → Spot → Name → Spot → Name → Ending → Stated
  -- assume E = E | claim E = E
  sides : SidesWord → Spot → Expr → Spot → Expr → Stated
  -- pinv NAME NAME | inverse NAME NAME | inner NAME NAME
  paired : PairWord → Spot → Name → Name → Stated
  -- projection NAME
  projected : Spot → Name → Stated
  -- order degree
  by_degree : Spot → Spot → Stated
  -- order weight NAME LITERAL ..
  by_weight : Spot → Spot → Name × Number → List (Name × Number) → Stated
  -- model LITERAL NAME LITERAL .., also with no pair
  modelled : Spot → Number → List (Name × Number) → Stated
  -- language LITERAL, with a literal of value 2
  second_language : Spot → Spot → Stated

abbrev pub two_at : Spot → Number
two_at at = record { value = pos 2; at = at }

abbrev pub word_token : List ℕ → Spot → Token
word_token word at = sign_token (kind.Name word) at

abbrev pub names_tokens : List Name → List Token
names_tokens ns = map name_token ns

abbrev pub pairs_tokens : List (Name × Number) → List Token
pairs_tokens ps = flat_map (λ p. name_token p.0 ∷ number_token p.1 ∷ []) ps

abbrev pub ending_tokens : Ending → List Token
ending_tokens no_word = []
ending_tokens (self_word at) = word_token (codes "self") at ∷ []

-- the tokens of a statement
abbrev pub stated_tokens : Stated → List Token
stated_tokens (listed w at n ns) = word_token (list_text w) at ∷ names_tokens (n ∷ ns)
stated_tokens (mapped at n ns colon s arrow t end) =
    word_token (codes "map") at ∷ (names_tokens (n ∷ ns) ++ sign_token kind.Colon colon ∷ name_token s ∷ sign_token kind.Arrow arrow
    ∷ name_token t ∷ ending_tokens end)
stated_tokens (sides w at d equals e) = word_token (sides_text w) at ∷ (expr_tokens d ++ sign_token kind.Equals equals ∷ expr_tokens e)
stated_tokens (paired w at m n) = word_token (pair_text w) at ∷ name_token m ∷ name_token n ∷ []
stated_tokens (projected at n) = word_token (codes "projection") at ∷ name_token n ∷ []
stated_tokens (by_degree at word) = word_token (codes "order") at ∷ word_token (codes "degree") word ∷ []
stated_tokens (by_weight at word p ps) = word_token (codes "order") at ∷ word_token (codes "weight") word ∷ pairs_tokens (p ∷ ps)
stated_tokens (second_language at number) = word_token (codes "language") at ∷ number_token (two_at number) ∷ []
stated_tokens (modelled at m ps) = word_token (codes "model") at ∷ number_token m ∷ pairs_tokens ps

-- at most as many round brackets as the limit are nested
abbrev pub StatedFits : Stated → Type 0
StatedFits (sides w at d equals e) = ExprFits d bracket_limit × ExprFits e bracket_limit
StatedFits s = Unit {0}

-- a file: a statement a line, in one of the two languages
pub record StatedLine : Type 0 where
  pub stated : Stated
  pub end : Spot

-- the first line of a file of the second language
abbrev pub NamesLanguage : Stated → Type 0
NamesLanguage (second_language at number) = Unit {0}
NamesLanguage s = ⊥

-- all other statements are of both languages, but `eliminate` only of the second
abbrev pub IsOf : Language → Stated → Type 0
IsOf language (second_language at number) = ⊥
IsOf First (listed Eliminate at n ns) = ⊥
IsOf language s = Unit {0}

abbrev pub AreLinesOf : Language → List StatedLine → Type 0
AreLinesOf language [] = Unit {0}
AreLinesOf language (l ∷ ls) = IsOf language l.stated × AreLinesOf language ls

-- a file of the first language is lines of that, and one of the second is the line that names it and then lines of the second
abbrev pub IsFileOf : Language → List StatedLine → Type 0
IsFileOf First ls = AreLinesOf First ls
IsFileOf Second [] = ⊥
IsFileOf Second (l ∷ ls) = NamesLanguage l.stated × AreLinesOf Second ls

abbrev pub line_tokens : StatedLine → List Token
line_tokens l = stated_tokens l.stated ++ sign_token kind.End l.end ∷ []

abbrev pub file_tokens : List StatedLine → List Token
file_tokens [] = []
file_tokens (l ∷ ls) = line_tokens l ++ file_tokens ls

abbrev pub FileFits : List StatedLine → Type 0
FileFits [] = Unit {0}
FileFits (l ∷ ls) = StatedFits l.stated × FileFits ls
