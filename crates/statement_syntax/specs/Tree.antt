-- The tree of a text of the grammar, which keeps no places of signs.
use Rattle.std.specs.Prelude.{Bool, true, false, List, [], ◌∷◌, ◌++◌, map, Option, Some, None}
use Rattle.statement_syntax.specs.Types.{Spot, Number, Primary, Letter, Identity, Bracket, Factor, Term, Sum, Name, Statement, StatementKind}
use Rattle.statement_syntax.specs.Types.{StatementKind as statement, ListWord, Object, Solve, Eliminate, SidesWord, Assume, Claim, PairWord, Pinv, Inverse}
use Rattle.statement_syntax.specs.Types.{Inner, Adjoint, Power}
use Rattle.statement_syntax.specs.Grammar.{Ending, no_word, self_word, Stated, listed, mapped, sides, paired, projected, by_degree, by_weight, modelled}
use Rattle.statement_syntax.specs.Grammar.{second_language, StatedLine, Lead, no_sign, lead_plus, lead_minus, Sign, plus, minus, Expr, first, joined, Product}
use Rattle.statement_syntax.specs.Grammar.{zero_alone, factors, Factors, one, beside, Marked, plain, marked, raised, Prime, name, identity, bracket, zero_at}
use Rattle.statement_syntax.specs.Nodes.{factor_of, term_of, sum_of, marked_factor}

-- the place of the first token
abbrev pub prime_at : Prime → Spot
prime_at (name n) = n.at
prime_at (identity left n right) = left
prime_at (bracket left e right) = left

abbrev pub marked_at : Marked → Spot
marked_at (plain p) = prime_at p
marked_at (marked f at) = marked_at f
marked_at (raised f at n) = marked_at f

abbrev pub factors_at : Factors → Spot
factors_at (one f) = marked_at f
factors_at (beside fs f) = factors_at fs

abbrev pub literal_or : Option Number → Spot → Spot
literal_or None at = at
literal_or (Some n) at = n.at

abbrev pub product_at : Product → Spot
product_at (zero_alone at) = at
product_at (factors l fs) = literal_or l (factors_at fs)

abbrev pub lead_or : Lead → Spot → Spot
lead_or no_sign at = at
lead_or (lead_plus s) at = s
lead_or (lead_minus s) at = s

abbrev pub expr_at : Expr → Spot
expr_at (first l t) = lead_or l (product_at t)
expr_at (joined e s t) = expr_at e

-- signs
abbrev pub is_minus : Sign → Bool
is_minus (plus at) = false
is_minus (minus at) = true

abbrev pub is_negative : Lead → Bool
is_negative no_sign = false
is_negative (lead_plus at) = false
is_negative (lead_minus at) = true

-- the trees
abbrev mutual
  pub expr_terms : Expr → List Term
  expr_terms (first l t) = product_tree t (is_negative l) ∷ []
  expr_terms (joined e s t) = expr_terms e ++ product_tree t (is_minus s) ∷ []

  pub product_tree : Product → Bool → Term
  product_tree (zero_alone at) negative = term_of at negative (Some (zero_at at)) []
  product_tree (factors l fs) negative = term_of (literal_or l (factors_at fs)) negative l (front_trees fs ++ last_tree fs ∷ [])

  -- all factors but the last
  pub front_trees : Factors → List Factor
  front_trees (one f) = []
  front_trees (beside fs f) = front_trees fs ++ last_tree fs ∷ []

  pub last_tree : Factors → Factor
  last_tree (one f) = marked_tree f
  last_tree (beside fs f) = marked_tree f

  pub marked_tree : Marked → Factor
  marked_tree (plain p) = factor_of (prime_at p) (prime_tree p) []
  marked_tree (marked f at) = marked_factor (marked_tree f) Adjoint
  marked_tree (raised f at n) = marked_factor (marked_tree f) (Power at n)

  pub prime_tree : Prime → Primary
  prime_tree (name n) = Letter n
  prime_tree (identity left n right) = Identity n
  prime_tree (bracket left e right) = Bracket (sum_of (expr_at e) (expr_terms e))

abbrev pub expr_tree : Expr → Sum
expr_tree e = sum_of (expr_at e) (expr_terms e)

-- statements
abbrev pub list_kind : ListWord → List Name → StatementKind
list_kind Object ns = statement.Objects ns
list_kind Solve ns = statement.Solve ns
list_kind Eliminate ns = statement.Eliminate ns

abbrev pub sides_kind : SidesWord → Sum → Sum → StatementKind
sides_kind Assume left right = statement.Assume left right
sides_kind Claim left right = statement.Claim left right

abbrev pub pair_kind : PairWord → Name → Name → StatementKind
pair_kind Pinv m n = statement.Pinv m n
pair_kind Inverse m n = statement.Inverse m n
pair_kind Inner m n = statement.Inner m n

abbrev pub is_self : Ending → Bool
is_self no_word = false
is_self (self_word at) = true

-- the place of the first word
abbrev pub stated_at : Stated → Spot
stated_at (listed w at n ns) = at
stated_at (mapped at n ns colon s arrow t end) = at
stated_at (sides w at d equals e) = at
stated_at (paired w at m n) = at
stated_at (projected at n) = at
stated_at (by_degree at word) = at
stated_at (by_weight at word p ps) = at
stated_at (modelled at m ps) = at
stated_at (second_language at number) = at

abbrev pub stated_kind : Stated → StatementKind
stated_kind (listed w at n ns) = list_kind w (n ∷ ns)
stated_kind (mapped at n ns colon s arrow t end) = statement.Maps (n ∷ ns) s t (is_self end)
stated_kind (sides w at d equals e) = sides_kind w (expr_tree d) (expr_tree e)
stated_kind (paired w at m n) = pair_kind w m n
stated_kind (projected at n) = statement.Projection n
stated_kind (by_degree at word) = statement.Degree
stated_kind (by_weight at word p ps) = statement.Weight (p ∷ ps)
stated_kind (modelled at m ps) = statement.Shape m ps
stated_kind (second_language at number) = statement.Language

abbrev pub stated_tree : Stated → Statement
stated_tree s = record { at = stated_at s; kind = stated_kind s }

abbrev pub file_tree : List StatedLine → List Statement
file_tree ls = map (λ l. stated_tree l.stated) ls
