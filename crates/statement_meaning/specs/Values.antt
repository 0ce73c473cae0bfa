-- The values of expressions and equations in a category: what their maps, sums, multiples, composites, powers and adjoints are there.
use Rattle.std.specs.Prelude.{◌≡◌, ℕ, zero, suc, ℤ, pos, negsuc, Bool, true, false, List, [], ◌∷◌, Option, Some, None}
use Rattle.std.specs.Option.{option_map}
use Rattle.definitions.specs.Category.{Structure}
use Rattle.definitions.specs.Representation.{Representation, multiple}
use Rattle.quiver.specs.Declarations.{Declaration}
use Rattle.statement_syntax.specs.declared.tree.Mark.{Mark}
use Rattle.statement_syntax.specs.declared.tree.Mark.TheVariants.{Adjoint, Power}
use Rattle.statement_syntax.specs.declared.tree.Number.{Number}
use Rattle.statement_syntax.specs.declared.tree.Primary.{Primary, Letter, Identity, Bracket}
use Rattle.statement_syntax.specs.declared.tree.Term.{Term, Term', Row_of-Factor, end_of-Factor, more_of-Factor}
use Rattle.statement_syntax.specs.declared.tree.Sum.{Sum, Sum', Row_of-Term, end_of-Term, more_of-Term}
use Rattle.abbreviations.specs.Names.{letter_of, object_of}

-- Where an expression is read: a category, its involution, the declared names, and a representation of their quiver.
pub record Reading (Object Arrow : Type 0) : Type 1 where
  pub category : Structure Object Arrow
  pub involution : Arrow → Arrow
  pub names : List Declaration
  pub maps : Representation Object Arrow

-- The value of an expression is an arrow. An expression that is made of 0 alone is the zero between any two objects; its value is None.

-- a + b
abbrev pub plus : {Object Arrow : Type 0} → Structure Object Arrow → Option Arrow → Option Arrow → Option Arrow
plus s None b = b
plus s (Some a) None = Some a
plus s (Some a) (Some b) = Some (s.add a b)

-- a after b; no factor but one that stands alone is made of 0 alone
abbrev pub after : {Object Arrow : Type 0} → Structure Object Arrow → Option Arrow → Option Arrow → Option Arrow
after s None b = None
after s (Some a) None = None
after s (Some a) (Some b) = Some (s.compose a b)

-- a product: the last factor is applied first
abbrev pub composite : {Object Arrow : Type 0} → Structure Object Arrow → List (Option Arrow) → Option Arrow
composite s [] = None
composite s (a ∷ []) = a
composite s (a ∷ b ∷ rest) = after s a (composite s (b ∷ rest))

-- a after itself, n times more
abbrev pub iterated : {Object Arrow : Type 0} → Structure Object Arrow → ℕ → Arrow → Arrow
iterated s zero a = a
iterated s (suc n) a = s.compose a (iterated s n a)

-- a power; no statement has an exponent below 1
abbrev pub power : {Object Arrow : Type 0} → Structure Object Arrow → ℤ → Arrow → Arrow
power s (pos (suc n)) a = iterated s n a
power s (pos zero) a = a
power s (negsuc n) a = a

-- with a quote, or a caret and an exponent
abbrev pub marked : {Object Arrow : Type 0} → Reading Object Arrow → Mark → Arrow → Arrow
marked r Adjoint a = r.involution a
marked r (Power at exponent) a = power r.category exponent.value a

-- the marks from the left
abbrev pub marks_value : {Object Arrow : Type 0} → Reading Object Arrow → List Mark → Option Arrow → Option Arrow
marks_value r [] a = a
marks_value r (m ∷ marks) a = marks_value r marks (option_map (marked r m) a)

-- an integer multiple, where a number is before it
abbrev pub scaled_value : {Object Arrow : Type 0} → Structure Object Arrow → Option Number → Option Arrow → Option Arrow
scaled_value s None a = a
scaled_value s (Some n) a = option_map (multiple s n.value) a

-- the negative, where the term is subtracted
abbrev pub signed_value : {Object Arrow : Type 0} → Structure Object Arrow → Bool → Option Arrow → Option Arrow
signed_value s false a = a
signed_value s true a = option_map s.negate a

abbrev mutual
  pub sum_value : {Object Arrow : Type 0} → Reading Object Arrow → Sum → Option Arrow
  sum_value r (Sum' at shape terms) = terms_value r terms

  pub terms_value : {Object Arrow : Type 0} {m : _} → Reading Object Arrow → Row_of-Term m → Option Arrow
  terms_value r end_of-Term = None
  terms_value r (more_of-Term t rest) = plus r.category (term_value r t) (terms_value r rest)

  pub term_value : {Object Arrow : Type 0} → Reading Object Arrow → Term → Option Arrow
  term_value r (Term' at negative literal shape factors) =
      signed_value r.category negative (scaled_value r.category literal (composite r.category (factor_values r factors)))

  pub factor_values : {Object Arrow : Type 0} {m : _} → Reading Object Arrow → Row_of-Factor m → List (Option Arrow)
  factor_values r end_of-Factor = []
  factor_values r (more_of-Factor at primary marks rest) = marks_value r marks (primary_value r primary) ∷ factor_values r rest

  -- a map, the identity of an object in square brackets, a sum in brackets
  pub primary_value : {Object Arrow : Type 0} → Reading Object Arrow → Primary → Option Arrow
  primary_value r (Letter n) = Some (r.maps.arrow (letter_of r.names n))
  primary_value r (Identity n) = Some (r.category.identity (r.maps.object (object_of r.names n)))
  primary_value r (Bracket s) = sum_value r s

-- an arrow is zero
abbrev pub IsZero : {Object Arrow : Type 0} → Structure Object Arrow → Arrow → Type 0
IsZero s a = a ≡ s.zero (s.source a) (s.target a)

-- two values are the same
abbrev pub AreSame : {Object Arrow : Type 0} → Structure Object Arrow → Option Arrow → Option Arrow → Type 0
AreSame s (Some a) (Some b) = a ≡ b
AreSame s (Some a) None = IsZero s a
AreSame s None (Some b) = IsZero s b
AreSame s None None = Unit {0}

-- Both sides have the same value.
abbrev pub Holds : {Object Arrow : Type 0} → Reading Object Arrow → Sum → Sum → Type 0
Holds r left right = AreSame r.category (sum_value r left) (sum_value r right)
