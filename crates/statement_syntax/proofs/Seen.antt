-- What the program keeps of a state, which is all but the places of signs.
use Rattle.statement_syntax.proofs.Prelude.{true, false, List, [], ◌∷◌, Option, Some, None, Result, Ok, Err, Number, Sum, Fault, OpenProduct, Part, part, Head, Level, Reading, Focus, focus, no_sign, lead_plus, lead_minus, Expr, Factors, expr_at, expr_terms, expr_tree, is_minus, literal_or, factors_at, front_trees, last_tree}
use Rattle.statement_syntax.proofs.Machine as machine

abbrev pub head_of : machine.Head → Head
head_of (machine.led no_sign) = record { at = None; terms = []; negative = false }
head_of (machine.led (lead_plus at)) = record { at = Some at; terms = []; negative = false }
head_of (machine.led (lead_minus at)) = record { at = Some at; terms = []; negative = true }
head_of (machine.after e s) = record { at = Some (expr_at e); terms = expr_terms e; negative = is_minus s }

abbrev pub product_of : Option Number → Factors → OpenProduct
product_of l fs = record { at = literal_or l (factors_at fs); literal = l; factors = front_trees fs; last = last_tree fs }

abbrev pub part_of : machine.Part → Part
part_of machine.nothing = part.Nothing
part_of (machine.scaled n) = part.Scaled n
part_of (machine.product l fs) = part.Product (product_of l fs)

abbrev pub focus_of : machine.Focus → Focus
focus_of machine.outside = focus.Outside
focus_of (machine.square left) = focus.Square left
focus_of (machine.named left n) = focus.Named left n
focus_of (machine.behind_caret l fs caret) = focus.Raised (product_of l fs) caret

abbrev pub levels_of : List machine.Level → List Level
levels_of [] = []
levels_of (level ∷ levels) = record { head = head_of level.head; part = part_of level.part; at = level.at } ∷ levels_of levels

abbrev pub reading_of : machine.State → Reading
reading_of st = record { levels = levels_of st.levels; head = head_of st.head; part = part_of st.part; focus = focus_of st.focus }

abbrev pub tree_or : Option Expr → Fault → Result Sum Fault
tree_or None e = Err e
tree_or (Some x) e = Ok (expr_tree x)
