-- The definitions at small expressions that were worked out by hand.
use Rattle.expressions.proofs.Prelude.{◌≡◌, ℕ, pos, negsuc, true, false, List, [], ◌∷◌, Option, Some, None, Ok, Err, refl, ap, ◌∙◌, Declaration, object, arrow, quiver_of, Spot, Mark, Adjoint, Power, Name, Number, Factor, roll-Term, out-roll-Term, ◌>>=◌, letter_of, object_of, not_composable, sum_mismatch, open_zero, from_to, Part, marked_signature, product_signature, sum_from, sides_signature, term_signature, letter_poly, marked_poly, product_poly, scaled_by, total, term_poly, factor_poly}
use Rattle.statement_syntax.specs.declared.tree.Primary.{Letter}
use Rattle.statement_syntax.specs.declared.tree.Term.{Term}
use Rattle.expressions.proofs.Trees.{each, factor_part, poly-term, signature-term}

-- the objects U and V and the maps a : U -> V and x : V -> U: the letters are [U] = 0, [V] = 1, a = 2, a' = 3, x = 4, x' = 5.
-- The names are the bytes of U, V, a and x.
abbrev declared : List Declaration
declared = object (85 ∷ []) ∷ object (86 ∷ []) ∷ arrow (97 ∷ []) 0 1 false ∷ arrow (120 ∷ []) 1 0 false ∷ []

abbrev at : ℕ → Spot
at column = record { line = 3; column = column }

abbrev named : List ℕ → ℕ → Name
named text column = record { text = text; at = at column }

names : letter_of declared (named (120 ∷ []) 1) ∷ object_of declared (named (86 ∷ []) 1) ∷ [] ≡ 4 ∷ 1 ∷ []
names = refl

-- signatures: a goes from 0 to 1 and x from 1 to 0
abbrev a_at : ℕ → Part
a_at column = (at column, Some (from_to 0 1))

abbrev x_at : ℕ → Part
x_at column = (at column, Some (from_to 1 0))

abbrev zero_at : ℕ → Part
zero_at column = (at column, None)

-- a x a
product : product_signature (a_at 7 ∷ x_at 9 ∷ a_at 11 ∷ []) ≡ Ok (Some (from_to 0 1))
product = refl

-- a a x and a x (0)
apart : product_signature (a_at 7 ∷ a_at 9 ∷ x_at 11 ∷ []) ≡ Err (not_composable (at 9) (from_to 0 1) (from_to 0 1))
apart = refl

open_factor : product_signature (a_at 7 ∷ x_at 9 ∷ zero_at 11 ∷ []) ≡ Err (open_zero (at 11))
open_factor = refl

-- (0) alone
open_alone : product_signature (zero_at 7 ∷ []) ≡ Ok None
open_alone = refl

-- 0 + a + 0 + a and 0 + a + x
sum : sum_from (Ok None) (zero_at 7 ∷ a_at 11 ∷ zero_at 15 ∷ a_at 19 ∷ []) ≡ Ok (Some (from_to 0 1))
sum = refl

mismatch : sum_from (Ok None) (zero_at 7 ∷ a_at 11 ∷ x_at 15 ∷ []) ≡ Err (sum_mismatch (at 15) (from_to 0 1) (from_to 1 0))
mismatch = refl

-- 0 = 0, 0 = x and a = x
open_sides : sides_signature (at 7) (at 11) None None ≡ Err (open_zero (at 7))
open_sides = refl

open_side : sides_signature (at 7) (at 11) None (Some (from_to 1 0)) ≡ Ok (from_to 1 0)
open_side = refl

sides : sides_signature (at 7) (at 11) (Some (from_to 0 1)) (Some (from_to 1 0)) ≡ Err (sum_mismatch (at 11) (from_to 0 1) (from_to 1 0))
sides = refl

-- x a leads from 0 to itself; the caret is at 12
abbrev caret : ℕ → Mark
caret exponent = Power (at 12) (record { value = pos exponent; at = at 13 })

repeated : marked_signature (at 7) (caret 2 ∷ Adjoint ∷ []) (Some (from_to 0 0)) ≡ Ok (Some (from_to 0 0))
repeated = refl

-- a^1'^2 and (0)^2, and (0)^1, which is open
two_ends : marked_signature (at 7) (caret 1 ∷ Adjoint ∷ caret 2 ∷ []) (Some (from_to 0 1)) ≡ Err (not_composable (at 12) (from_to 1 0) (from_to 1 0))
two_ends = refl

open_base : marked_signature (at 7) (caret 2 ∷ []) None ≡ Err (open_zero (at 7))
open_base = refl

once : marked_signature (at 7) (caret 1 ∷ []) None ≡ Ok None
once = refl

-- polynomials
abbrev three : Option Number
three = Some (record { value = pos 3; at = at 1 })

-- (a x)'
adjoint : marked_poly (quiver_of declared) (Adjoint ∷ []) ((pos 1, 2 ∷ 4 ∷ []) ∷ []) ≡ Ok ((pos 1, 5 ∷ 3 ∷ []) ∷ [])
adjoint = refl

-- (2 x a)^3, (2 x a)^1'^2 and (2 x a)^0
power : marked_poly (quiver_of declared) (caret 3 ∷ []) ((pos 2, 4 ∷ 2 ∷ []) ∷ []) ≡ Ok ((pos 8, 4 ∷ 2 ∷ 4 ∷ 2 ∷ 4 ∷ 2 ∷ []) ∷ [])
power = refl

power_of_adjoint : marked_poly (quiver_of declared) (caret 1 ∷ Adjoint ∷ caret 2 ∷ []) ((pos 2, 4 ∷ 2 ∷ []) ∷ []) ≡ Ok ((pos 4, 3 ∷ 5 ∷ 3 ∷ 5 ∷ []) ∷ [])
power_of_adjoint = refl

unpowered : marked_poly (quiver_of declared) (caret 0 ∷ []) ((pos 2, 4 ∷ 2 ∷ []) ∷ []) ≡ Ok ((pos 2, 4 ∷ 2 ∷ []) ∷ [])
unpowered = refl

-- (x a - [U])^2
power_of_sum : marked_poly (quiver_of declared) (caret 2 ∷ []) ((pos 1, 4 ∷ 2 ∷ []) ∷ (negsuc 0, 0 ∷ []) ∷ [])
    ≡ Ok ((pos 1, 4 ∷ 2 ∷ 4 ∷ 2 ∷ []) ∷ (negsuc 0, 4 ∷ 2 ∷ 0 ∷ []) ∷ (negsuc 0, 0 ∷ 4 ∷ 2 ∷ []) ∷ (pos 1, 0 ∷ 0 ∷ []) ∷ [])
power_of_sum = refl

-- 3 a x
multiple : (product_poly (letter_poly 2 ∷ letter_poly 4 ∷ []) >>= scaled_by three) ≡ Ok ((pos 3, 2 ∷ 4 ∷ []) ∷ [])
multiple = refl

-- - a + x - a
alternating : total ((true, letter_poly 2) ∷ (false, letter_poly 4) ∷ (true, letter_poly 2) ∷ []) ≡ Ok ((pos 1, 4 ∷ []) ∷ (negsuc 1, 2 ∷ []) ∷ [])
alternating = refl

-- a tree: 3 a x'
abbrev letter : List ℕ → ℕ → List Mark → Factor
letter text column marks = record { at = at column; primary = Letter (named text column); marks = marks }

abbrev factors : List Factor
factors = letter (97 ∷ []) 3 [] ∷ letter (120 ∷ []) 5 (Adjoint ∷ []) ∷ []

abbrev tree : Term
tree = roll-Term (record { at = at 1; negative = false; literal = three; factors = factors })

tree_signature : term_signature declared tree ≡ Err (not_composable (at 5) (from_to 0 1) (from_to 0 1))
tree_signature = signature-term declared tree ∙ ap (λ r. each (factor_part declared) r.factors >>= product_signature) (out-roll-Term _)

tree_poly : term_poly declared tree ≡ Ok ((pos 3, 2 ∷ 5 ∷ []) ∷ [])
tree_poly = poly-term declared tree ∙ ap (λ r. (each (factor_poly declared) r.factors >>= product_poly) >>= scaled_by r.literal) (out-roll-Term _)
