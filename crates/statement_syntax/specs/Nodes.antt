-- The nodes of trees, by their parts.
use Rattle.std.specs.Prelude.{ℕ, Bool, List, [], ◌∷◌, ◌++◌, Option}
use Rattle.statement_syntax.specs.Types.{Spot, Name, Number, Mark, Primary, Factor, roll-Factor, out-Factor, Term, roll-Term, Sum, roll-Sum}

abbrev pub name_with : List ℕ → Spot → Name
name_with text at = record { text = text; at = at }

abbrev pub factor_of : Spot → Primary → List Mark → Factor
factor_of at primary marks = roll-Factor (record { at = at; primary = primary; marks = marks })

abbrev pub term_of : Spot → Bool → Option Number → List Factor → Term
term_of at negative l fs = roll-Term (record { at = at; negative = negative; literal = l; factors = fs })

abbrev pub sum_of : Spot → List Term → Sum
sum_of at terms = roll-Sum (record { at = at; terms = terms })

abbrev pub marked_factor : Factor → Mark → Factor
marked_factor f mark = factor_of (out-Factor f).at (out-Factor f).primary ((out-Factor f).marks ++ mark ∷ [])
