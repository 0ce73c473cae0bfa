-- Statements without their places: all are set to one, and a leading plus is left out.
use Rattle.std.specs.Prelude.{◌≡◌, ℕ, List, map, Option, Some, None}
use Rattle.statement_syntax.specs.Types.{Spot, Statement, Name, Number}
use Rattle.statement_syntax.specs.Grammar.{Lead, no_sign, lead_plus, lead_minus, Sign, plus, minus, Expr, first, joined, Product, zero_alone, factors, Factors}
use Rattle.statement_syntax.specs.Grammar.{one, beside, Marked, plain, marked, raised, Prime, name, identity, bracket, Ending, no_word, self_word, Stated}
use Rattle.statement_syntax.specs.Grammar.{listed, mapped, sides, paired, projected, by_degree, by_weight, modelled, second_language, StatedLine}
use Rattle.statement_syntax.specs.Tree.{file_tree}
use Rattle.statement_syntax.specs.Texts.{IsTreeOf}

abbrev pub somewhere : Spot
somewhere = record { line = 1; column = 1 }

abbrev pub bare_name : Name → Name
bare_name n = record { text = n.text; at = somewhere }

abbrev pub bare_number : Number → Number
bare_number n = record { value = n.value; at = somewhere }

abbrev pub bare_literal : Option Number → Option Number
bare_literal None = None
bare_literal (Some n) = Some (bare_number n)

abbrev pub bare_lead : Lead → Lead
bare_lead no_sign = no_sign
bare_lead (lead_plus at) = no_sign
bare_lead (lead_minus at) = lead_minus somewhere

abbrev pub bare_sign : Sign → Sign
bare_sign (plus at) = plus somewhere
bare_sign (minus at) = minus somewhere

abbrev mutual
  pub bare : Expr → Expr
  bare (first l t) = first (bare_lead l) (bare_product t)
  bare (joined e s t) = joined (bare e) (bare_sign s) (bare_product t)

  pub bare_product : Product → Product
  bare_product (zero_alone at) = zero_alone somewhere
  bare_product (factors l fs) = factors (bare_literal l) (bare_factors fs)

  pub bare_factors : Factors → Factors
  bare_factors (one f) = one (bare_marked f)
  bare_factors (beside fs f) = beside (bare_factors fs) (bare_marked f)

  pub bare_marked : Marked → Marked
  bare_marked (plain p) = plain (bare_prime p)
  bare_marked (marked f at) = marked (bare_marked f) somewhere
  bare_marked (raised f at n) = raised (bare_marked f) somewhere (bare_number n)

  pub bare_prime : Prime → Prime
  bare_prime (name n) = name (bare_name n)
  bare_prime (identity left n right) = identity somewhere (bare_name n) somewhere
  bare_prime (bracket left e right) = bracket somewhere (bare e) somewhere

-- statements
abbrev pub bare_ending : Ending → Ending
bare_ending no_word = no_word
bare_ending (self_word at) = self_word somewhere

abbrev pub bare_names : List Name → List Name
bare_names ns = map bare_name ns

abbrev pub bare_pair : Name × Number → Name × Number
bare_pair p = (bare_name p.0, bare_number p.1)

abbrev pub bare_pairs : List (Name × Number) → List (Name × Number)
bare_pairs ps = map bare_pair ps

abbrev pub bare_stated : Stated → Stated
bare_stated (listed w at n ns) = listed w somewhere (bare_name n) (bare_names ns)
bare_stated (mapped at n ns colon s arrow t end) = mapped somewhere (bare_name n) (bare_names ns) somewhere (bare_name s) somewhere
    (bare_name t) (bare_ending end)
bare_stated (sides w at d equals e) = sides w somewhere (bare d) somewhere (bare e)
bare_stated (paired w at m n) = paired w somewhere (bare_name m) (bare_name n)
bare_stated (projected at n) = projected somewhere (bare_name n)
bare_stated (by_degree at word) = by_degree somewhere somewhere
bare_stated (by_weight at word p ps) = by_weight somewhere somewhere (bare_pair p) (bare_pairs ps)
bare_stated (modelled at m ps) = modelled somewhere (bare_number m) (bare_pairs ps)
bare_stated (second_language at number) = second_language somewhere somewhere

abbrev pub bare_line : StatedLine → StatedLine
bare_line l = record { stated = bare_stated l.stated; end = somewhere }

abbrev pub bare_file : List StatedLine → List StatedLine
bare_file ls = map bare_line ls

-- trees of statements that are the same without their places
abbrev pub SameButPlaces : List Statement → List Statement → Type 0
SameButPlaces s t = (ls : List StatedLine) × (ms : List StatedLine) × (s ≡ file_tree ls) × (t ≡ file_tree ms) × (bare_file ls ≡ bare_file ms)

-- the bytes are statements with the same tree but for its places
abbrev pub ReadsBackAs : List ℕ → List Statement → Type 0
ReadsBackAs bytes statements = (back : List Statement) × IsTreeOf bytes back × SameButPlaces statements back
