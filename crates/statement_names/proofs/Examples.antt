-- What a file of the second language says.
use Rattle.statement_names.proofs.Prelude.{◌≡◌, ℕ, pos, true, false, List, [], ◌∷◌, Some, None, refl, Spot, Name, Adjoint, Power, Number, Statement, StatementKind, statement, Map, Block, Unknown, Double, BadNumber, placed, flat_map, map_use, kind_in, first_fault, name_fault_of, map_limit_of, is_starred, declarations_of, Occurrence, uses, mark_occurrences, letter, order_of}

abbrev here : Spot
here = record { line = 1; column = 1 }

abbrev named : ℕ → Name
named c = record { text = c ∷ []; at = here }

abbrev line : StatementKind → Statement
line kind = record { at = here; kind = kind }

-- language 2 / object U / map p : U -> U self / map a : U -> U / eliminate a p
abbrev file : List Statement
file =
    line statement.Language
    ∷ line (statement.Objects (named 85 ∷ []))
    ∷ line (statement.Maps (named 112 ∷ []) (named 85) (named 85) true)
    ∷ line (statement.Maps (named 97 ∷ []) (named 85) (named 85) false)
    ∷ line (statement.Eliminate (named 97 ∷ named 112 ∷ []))
    ∷ []

-- nothing is wrong with it, a comes with its adjoint, p is its own, and `self` makes it starred
clean : name_fault_of file ≡ None
clean = refl

block : order_of (declarations_of file) file ≡ Block (letter 2 ∷ letter 3 ∷ letter 1 ∷ [])
block = refl

starred : is_starred file ≡ true
starred = refl

limit : map_limit_of file ≡ 1000
limit = refl

-- `eliminate` alone doesn't
unstarred : is_starred (line statement.Language ∷ line (statement.Eliminate (named 97 ∷ [])) ∷ []) ≡ false
unstarred = refl

-- a name twice in one list
twice : name_fault_of (line statement.Language ∷ line (statement.Objects (named 85 ∷ [])) ∷ line (statement.Maps (named 97 ∷ []) (named 85) (named 85) false)
    ∷ line (statement.Eliminate (named 97 ∷ named 97 ∷ [])) ∷ []) ≡ Some (placed Double here)
twice = refl

-- an exponent of 501 is refused at its literal, after the name before it, and 500 is not
abbrev there : Spot
there = record { line = 2; column = 9 }

abbrev number : ℕ → Spot → Number
number n at = record { value = pos n; at = at }

abbrev raised : ℕ → List Occurrence
raised n = uses (map_use (named 97)) ∷ flat_map mark_occurrences (Power here (number 1 here) ∷ Adjoint ∷ Power here (number n there) ∷ [])

too_much : first_fault 1000 (kind_in ((97 ∷ [], Map) ∷ [])) [] (raised 501) ≡ Some (placed BadNumber there)
too_much = refl

unknown_first : first_fault 1000 (kind_in []) [] (raised 501) ≡ Some (placed Unknown here)
unknown_first = refl

most : first_fault 1000 (kind_in ((97 ∷ [], Map) ∷ [])) [] (raised 500) ≡ None
most = refl

none : first_fault 1000 (kind_in ((97 ∷ [], Map) ∷ [])) [] (raised 0) ≡ Some (placed BadNumber there)
none = refl
