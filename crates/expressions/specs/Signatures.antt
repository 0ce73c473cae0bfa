-- The signature of an expression, or its first fault. An expression that is open has no signature of its own.
use Rattle.std.specs.Prelude.{ℕ, suc, ℤ, pos, ◌<◌, IfSome, ◌&&◌, nat_eq, Bool, true, false, List, [], ◌∷◌, Option, Some, None, Result, Ok, Err, if◌then◌else◌}
use Rattle.std.specs.Option.{option_map}
use Rattle.definitions.specs.Quiver.{Quiver, source, target}
use Rattle.quiver.specs.declared.named.Sig.{Sig}
use Rattle.quiver.specs.Declarations.{Declaration, quiver_of}
use Rattle.statement_tokens.specs.declared.place.Spot.{Spot}
use Rattle.statement_tokens.specs.declared.fault.Fault.TheVariants.{NotComposable, SumMismatch, OpenZero}
use Rattle.statement_syntax.specs.declared.tree.Mark.{Mark}
use Rattle.statement_syntax.specs.declared.tree.Mark.TheVariants.{Adjoint, Power}
use Rattle.statement_syntax.specs.declared.tree.Primary.{Primary, Letter, Identity, Bracket}
use Rattle.statement_syntax.specs.declared.tree.Factor.{Factor}
use Rattle.statement_syntax.specs.declared.tree.Term.{Term, Term', Row_of-Factor, end_of-Factor, more_of-Factor}
use Rattle.statement_syntax.specs.declared.tree.Sum.{Sum, Sum', Row_of-Term, end_of-Term, more_of-Term}
use Rattle.expressions.specs.declared.fault.SignatureFault.{SignatureFault}
use Rattle.expressions.specs.Results.{◌>>=◌}
use Rattle.abbreviations.specs.Names.{letter_of, object_of}

-- the faults: two parts of a product that do not fit, two terms or sides that are not the same, and what is open
abbrev pub not_composable : Spot → Sig → Sig → SignatureFault
not_composable at left right = record { fault = NotComposable; at = at; sides = Some (left, right) }

abbrev pub sum_mismatch : Spot → Sig → Sig → SignatureFault
sum_mismatch at left right = record { fault = SumMismatch; at = at; sides = Some (left, right) }

abbrev pub open_zero : Spot → SignatureFault
open_zero at = record { fault = OpenZero; at = at; sides = None }

-- from one object to another
abbrev pub from_to : ℕ → ℕ → Sig
from_to u v = record { source = record { 0 = u }; target = record { 0 = v } }

abbrev pub letter_signature : Quiver → ℕ → Sig
letter_signature q a = from_to (source q a) (target q a)

abbrev pub same_ends : Sig → Sig → Bool
same_ends s t = nat_eq s.source.0 t.source.0 && nat_eq s.target.0 t.target.0

-- the ends exchanged
abbrev pub turned : Sig → Sig
turned s = record { source = s.target; target = s.source }

-- whether an exponent is above 1
abbrev pub is_repeated : ℤ → Bool
is_repeated (pos (suc (suc n))) = true
is_repeated exponent = false

-- the base of such a power leads from an object to itself; the primary and the caret are at these places
abbrev pub repeated : Spot → Spot → Option Sig → Result (Option Sig) SignatureFault
repeated first caret None = Err (open_zero first)
repeated first caret (Some s) = if nat_eq s.source.0 s.target.0 then Ok (Some s) else Err (not_composable caret s s)

-- a quote exchanges the ends, a caret leaves them
abbrev pub mark_signature : Spot → Mark → Option Sig → Result (Option Sig) SignatureFault
mark_signature first Adjoint s = Ok (option_map turned s)
mark_signature first (Power caret exponent) s = if is_repeated exponent.value then repeated first caret s else Ok s

-- the marks from the left, after the primary at this place
abbrev pub marked_signature : Spot → List Mark → Option Sig → Result (Option Sig) SignatureFault
marked_signature first [] s = Ok s
marked_signature first (m ∷ marks) s = mark_signature first m s >>= marked_signature first marks

-- its ends are among the first n objects, unless it is open
abbrev pub HasObjects : ℕ → Option Sig → Type 0
HasObjects n s = IfSome s (λ e. (e.source.0 < n) × (e.target.0 < n))

-- a factor or a term, by its place and its signature
abbrev pub Part : Type 0
Part = Spot × Option Sig

-- the left part is applied after the right one, which is at this place
abbrev pub composed : Spot → Sig → Sig → Result (Option Sig) SignatureFault
composed at left right =
    if nat_eq left.source.0 right.target.0 then Ok (Some (from_to right.source.0 left.target.0)) else Err (not_composable at left right)

-- the signature of the factors so far, if any, or the first fault, with the next factor
abbrev pub product_step : Result (Option Sig) SignatureFault → Spot → Option Sig → Result (Option Sig) SignatureFault
product_step (Err fault) at s = Err fault
product_step (Ok so_far) at None = Err (open_zero at)
product_step (Ok None) at (Some s) = Ok (Some s)
product_step (Ok (Some left)) at (Some right) = composed at left right

abbrev pub product_from : Result (Option Sig) SignatureFault → List Part → Result (Option Sig) SignatureFault
product_from so_far [] = so_far
product_from so_far (p ∷ parts) = product_from (product_step so_far p.0 p.1) parts

-- a product of these factors; one factor alone may be open, and a term without factors is open
abbrev pub product_signature : List Part → Result (Option Sig) SignatureFault
product_signature [] = Ok None
product_signature (p ∷ []) = Ok p.1
product_signature (p ∷ r ∷ parts) = product_from (Ok None) (p ∷ r ∷ parts)

-- two signatures that have to be the same, of which the second one is at this place
abbrev pub matched : Spot → Sig → Sig → Result (Option Sig) SignatureFault
matched at before s = if same_ends before s then Ok (Some before) else Err (sum_mismatch at before s)

-- the signature of the terms so far, if any, or the first fault, with the next term
abbrev pub sum_step : Result (Option Sig) SignatureFault → Spot → Option Sig → Result (Option Sig) SignatureFault
sum_step (Err fault) at s = Err fault
sum_step (Ok so_far) at None = Ok so_far
sum_step (Ok None) at (Some s) = Ok (Some s)
sum_step (Ok (Some before)) at (Some s) = matched at before s

abbrev pub sum_from : Result (Option Sig) SignatureFault → List Part → Result (Option Sig) SignatureFault
sum_from so_far [] = so_far
sum_from so_far (p ∷ parts) = sum_from (sum_step so_far p.0 p.1) parts

abbrev pub sum_at : Sum → Spot
sum_at (Sum' at shape terms) = at

abbrev pub term_at : Term → Spot
term_at (Term' at negative literal shape factors) = at

-- A product and a sum are one node each: all parts from the left, and then the node.
abbrev mutual
  pub sum_signature : List Declaration → Sum → Result (Option Sig) SignatureFault
  sum_signature ds (Sum' at shape terms) = terms_parts ds terms >>= sum_from (Ok None)

  pub terms_parts : {m : _} → List Declaration → Row_of-Term m → Result (List Part) SignatureFault
  terms_parts ds end_of-Term = Ok []
  terms_parts ds (more_of-Term t rest) = do
    part ← term_signature ds t >>= λ s. Ok (term_at t, s)
    parts ← terms_parts ds rest
    Ok (part ∷ parts)

  pub term_signature : List Declaration → Term → Result (Option Sig) SignatureFault
  term_signature ds (Term' at negative literal shape factors) = factors_parts ds factors >>= product_signature

  pub factors_parts : {m : _} → List Declaration → Row_of-Factor m → Result (List Part) SignatureFault
  factors_parts ds end_of-Factor = Ok []
  factors_parts ds (more_of-Factor at primary marks rest) = do
    part ← (primary_signature ds primary >>= marked_signature at marks) >>= λ s. Ok (at, s)
    parts ← factors_parts ds rest
    Ok (part ∷ parts)

  pub primary_signature : List Declaration → Primary → Result (Option Sig) SignatureFault
  primary_signature ds (Letter n) = Ok (Some (letter_signature (quiver_of ds) (letter_of ds n)))
  primary_signature ds (Identity n) = Ok (Some (from_to (object_of ds n) (object_of ds n)))
  primary_signature ds (Bracket s) = sum_signature ds s

abbrev pub factor_signature : List Declaration → Factor → Result (Option Sig) SignatureFault
factor_signature ds f = primary_signature ds f.primary >>= marked_signature f.at f.marks

-- the sides of an equation: an open side takes the signature of the other
abbrev pub sides_signature : Spot → Spot → Option Sig → Option Sig → Result Sig SignatureFault
sides_signature at_left at_right None None = Err (open_zero at_left)
sides_signature at_left at_right None (Some t) = Ok t
sides_signature at_left at_right (Some s) None = Ok s
sides_signature at_left at_right (Some s) (Some t) = if same_ends s t then Ok s else Err (sum_mismatch at_right s t)

abbrev pub equation_signature : List Declaration → Sum → Sum → Result Sig SignatureFault
equation_signature ds left right = do
  s ← sum_signature ds left
  t ← sum_signature ds right
  sides_signature (sum_at left) (sum_at right) s t
