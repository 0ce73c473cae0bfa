-- How a tree is written: the tokens of each statement, and their characters.
use Rattle.std.specs.Prelude.{ℕ, Bool, true, false, ◌||◌, List, [], ◌∷◌, ◌++◌, Option, Some, None, pos, codes}
use Rattle.std.specs.List.{flat_map}
use Rattle.std.specs.Fmt.{signed_decimal}
use Rattle.statement_syntax.specs.Types.{TokenKind, TokenKind as kind, Name, Number, Mark, Adjoint, Power, Statement, StatementKind, StatementKind as statement}
use Rattle.statement_syntax.specs.Types.{Primary, Letter, Identity, Bracket, Factor, Term, Sum}
use Rattle.statement_syntax.specs.declared.tree.Term.{Term', Row_of-Factor, end_of-Factor, more_of-Factor}
use Rattle.statement_syntax.specs.declared.tree.Sum.{Sum', Row_of-Term, end_of-Term, more_of-Term}

-- the tokens of a tree
abbrev pub name_kinds : Name → List TokenKind
name_kinds n = kind.Name n.text ∷ []

abbrev pub number_kinds : Number → List TokenKind
number_kinds n = kind.Literal n.value ∷ []

abbrev pub literal_kinds : Option Number → List TokenKind
literal_kinds None = []
literal_kinds (Some n) = number_kinds n

-- the sign of a term, negative or not; that of a leading term is written only where it is negative
abbrev pub sign_kinds : Bool → Bool → List TokenKind
sign_kinds true true = kind.Minus ∷ []
sign_kinds true false = []
sign_kinds false true = kind.Minus ∷ []
sign_kinds false false = kind.Plus ∷ []

abbrev pub mark_kinds : Mark → List TokenKind
mark_kinds Adjoint = kind.Quote ∷ []
mark_kinds (Power at exponent) = kind.Caret ∷ number_kinds exponent

abbrev mutual
  pub primary_kinds : Primary → List TokenKind
  primary_kinds (Letter n) = name_kinds n
  primary_kinds (Identity n) = kind.OpenSquare ∷ (name_kinds n ++ kind.CloseSquare ∷ [])
  primary_kinds (Bracket s) = kind.Open ∷ (sum_kinds s ++ kind.Close ∷ [])

  pub sum_kinds : Sum → List TokenKind
  sum_kinds (Sum' at shape terms) = terms_kinds true terms

  pub term_kinds : Bool → Term → List TokenKind
  term_kinds leading (Term' at negative literal shape factors) = sign_kinds leading negative ++ literal_kinds literal ++ factors_kinds factors

  pub terms_kinds : {m : _} → Bool → Row_of-Term m → List TokenKind
  terms_kinds leading end_of-Term = []
  terms_kinds leading (more_of-Term t rest) = term_kinds leading t ++ terms_kinds false rest

  pub factors_kinds : {m : _} → Row_of-Factor m → List TokenKind
  factors_kinds end_of-Factor = []
  factors_kinds (more_of-Factor at primary marks rest) = (primary_kinds primary ++ flat_map mark_kinds marks) ++ factors_kinds rest

abbrev pub factor_kinds : Factor → List TokenKind
factor_kinds f = primary_kinds f.primary ++ flat_map mark_kinds f.marks

abbrev pub word_kinds : List ℕ → List TokenKind
word_kinds word = kind.Name word ∷ []

abbrev pub pair_kinds : Name × Number → List TokenKind
pair_kinds p = name_kinds p.0 ++ number_kinds p.1

abbrev pub list_kinds : List ℕ → List Name → List TokenKind
list_kinds word names = word_kinds word ++ flat_map name_kinds names

abbrev pub self_kinds : Bool → List TokenKind
self_kinds true = word_kinds (codes "self")
self_kinds false = []

abbrev pub map_kinds : List Name → Name → Name → Bool → List TokenKind
map_kinds names source target selfmade =
    list_kinds (codes "map") names ++ kind.Colon ∷ [] ++ name_kinds source ++ kind.Arrow ∷ [] ++ name_kinds target ++ self_kinds selfmade

abbrev pub sides_kinds : List ℕ → Sum → Sum → List TokenKind
sides_kinds word left right = word_kinds word ++ sum_kinds left ++ kind.Equals ∷ [] ++ sum_kinds right

abbrev pub two_kinds : List ℕ → Name → Name → List TokenKind
two_kinds word first second = word_kinds word ++ name_kinds first ++ name_kinds second

abbrev pub weight_kinds : List (Name × Number) → List TokenKind
weight_kinds weights = word_kinds (codes "order") ++ word_kinds (codes "weight") ++ flat_map pair_kinds weights

abbrev pub shape_kinds : Number → List (Name × Number) → List TokenKind
shape_kinds modulus sides = word_kinds (codes "model") ++ number_kinds modulus ++ flat_map pair_kinds sides

abbrev pub statement_kinds : StatementKind → List TokenKind
statement_kinds statement.Language = word_kinds (codes "language") ++ kind.Literal (pos 2) ∷ []
statement_kinds (statement.Objects names) = list_kinds (codes "object") names
statement_kinds (statement.Maps names source target selfmade) = map_kinds names source target selfmade
statement_kinds (statement.Assume left right) = sides_kinds (codes "assume") left right
statement_kinds (statement.Claim left right) = sides_kinds (codes "claim") left right
statement_kinds (statement.Pinv first second) = two_kinds (codes "pinv") first second
statement_kinds (statement.Inverse first second) = two_kinds (codes "inverse") first second
statement_kinds (statement.Inner first second) = two_kinds (codes "inner") first second
statement_kinds (statement.Projection name) = word_kinds (codes "projection") ++ name_kinds name
statement_kinds statement.Degree = word_kinds (codes "order") ++ word_kinds (codes "degree")
statement_kinds (statement.Weight weights) = weight_kinds weights
statement_kinds (statement.Solve names) = list_kinds (codes "solve") names
statement_kinds (statement.Eliminate names) = list_kinds (codes "eliminate") names
statement_kinds (statement.Shape modulus sides) = shape_kinds modulus sides

-- there is no blank after them
abbrev pub opens : TokenKind → Bool
opens kind.Open = true
opens kind.OpenSquare = true
opens kind.Caret = true
opens k = false

-- there is no blank before them
abbrev pub closes : TokenKind → Bool
closes kind.Close = true
closes kind.CloseSquare = true
closes kind.Quote = true
closes kind.Caret = true
closes k = false

abbrev pub kind_text : TokenKind → List ℕ
kind_text (kind.Name text) = text
kind_text (kind.Literal value) = signed_decimal value
kind_text kind.Colon = codes ":"
kind_text kind.Arrow = codes "->"
kind_text kind.Equals = codes "="
kind_text kind.Plus = codes "+"
kind_text kind.Minus = codes "-"
kind_text kind.Open = codes "("
kind_text kind.Close = codes ")"
kind_text kind.OpenSquare = codes "["
kind_text kind.CloseSquare = codes "]"
kind_text kind.Quote = codes "'"
kind_text kind.Caret = codes "^"
kind_text kind.End = []

abbrev pub gap : Bool → List ℕ
gap true = []
gap false = codes " "

-- tokens with one blank between them, and one before the first unless that is glued to what is before it
abbrev pub text_from : Bool → List TokenKind → List ℕ
text_from glued [] = []
text_from glued (k ∷ ks) = gap (glued || closes k) ++ kind_text k ++ text_from (opens k) ks

abbrev pub line_text : List TokenKind → List ℕ
line_text ks = text_from true ks ++ 10 ∷ []

abbrev pub tree_text : List Statement → List ℕ
tree_text statements = flat_map (λ s. line_text (statement_kinds s.kind)) statements
