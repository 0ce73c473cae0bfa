-- What the occurrences of a statement declare and begin.
use Rattle.statement_names.proofs.Prelude.{◌≡◌, ℕ, ◌+◌, List, [], ◌∷◌, ◌++◌, map, refl, ap, ap₂, sym, ◌∙◌, flat_map, sum_by, flat_map-append, append-nil, sum_by-cons, Spot, Name, Number, Statement, StatementKind, statement, Mark, Adjoint, Power, Primary, Identity, Bracket, Term, Term', Row_of-Factor, end_of-Factor, more_of-Factor, Sum, Sum', Row_of-Term, end_of-Term, more_of-Term, Kind, Object, Map, shape_side_limit, weight_limit, object_use, map_use, Occurrence, declares_object, declares_map, begins_order, begins_assumptions, begins_claim, begins_shape, uses, lists, counts, modulus, names_behind, pairs_behind, mark_occurrences, primary_occurrences, factors_occurrences, term_occurrences, terms_occurrences, sum_occurrences, sides_occurrences, kind_occurrences, statement_occurrences, occurrences_of, declared_by, declared_in, Counted, Objects, Maps, Orders, Assumptions, Claims, Shapes, amount, kinded, kinds_by}
use Rattle.statement_names.proofs.Each.{Each, Each-append}

-- it only uses a name or a literal
abbrev pub IsUse : Occurrence → Type 0
IsUse (uses u) = Unit {0}
IsUse (lists front u) = Unit {0}
IsUse (counts most n) = Unit {0}
IsUse (modulus n) = Unit {0}
IsUse o = ⊥

abbrev pub IsQuiet : List Occurrence → Type 0
IsQuiet os = Each IsUse os

names_behind-quiet : (kind : Kind) (front : List (List ℕ)) (names : List Name) → IsQuiet (names_behind kind front names)
names_behind-quiet kind front [] = tt
names_behind-quiet kind front (n ∷ names) = (tt, names_behind-quiet kind (front ++ n.text ∷ []) names)

pairs_behind-quiet : (kind : Kind) (most : ℕ) (front : List (List ℕ)) (pairs : List (Name × Number)) → IsQuiet (pairs_behind kind most front pairs)
pairs_behind-quiet kind most front [] = tt
pairs_behind-quiet kind most front (p ∷ pairs) = (tt, (tt, pairs_behind-quiet kind most (front ++ p.0.text ∷ []) pairs))

marks-quiet : (marks : List Mark) → IsQuiet (flat_map mark_occurrences marks)
marks-quiet [] = tt
marks-quiet (Adjoint ∷ marks) = marks-quiet marks
marks-quiet (Power at exponent ∷ marks) = (tt, marks-quiet marks)

mutual
  sum-quiet : (s : Sum) → IsQuiet (sum_occurrences s)
  sum-quiet (Sum' at shape terms) = terms-quiet terms

  terms-quiet : {m : _} (row : Row_of-Term m) → IsQuiet (terms_occurrences row)
  terms-quiet end_of-Term = tt
  terms-quiet (more_of-Term t rest) = Each-append IsUse (term_occurrences t) (terms_occurrences rest) (term-quiet t) (terms-quiet rest)

  term-quiet : (t : Term) → IsQuiet (term_occurrences t)
  term-quiet (Term' at negative literal shape factors) = factors-quiet factors

  factors-quiet : {m : _} (row : Row_of-Factor m) → IsQuiet (factors_occurrences row)
  factors-quiet end_of-Factor = tt
  factors-quiet (more_of-Factor at primary marks rest) =
      Each-append IsUse (primary_occurrences primary ++ flat_map mark_occurrences marks) (factors_occurrences rest)
      (Each-append IsUse (primary_occurrences primary) (flat_map mark_occurrences marks) (primary-quiet primary) (marks-quiet marks)) (factors-quiet rest)

  primary-quiet : (primary : Primary) → IsQuiet (primary_occurrences primary)
  primary-quiet (Primary.Letter n) = (tt, tt)
  primary-quiet (Identity n) = (tt, tt)
  primary-quiet (Bracket s) = sum-quiet s

sides-quiet : (left right : Sum) → IsQuiet (sides_occurrences left right)
sides-quiet left right = Each-append IsUse (sum_occurrences left) (sum_occurrences right) (sum-quiet left) (sum-quiet right)

-- which counts as nothing and declares nothing
use_amount : (c : Counted) (o : Occurrence) → IsUse o → amount c o ≡ 0
use_amount Objects (declares_object n) h = absurd h
use_amount Maps (declares_map n u v selfmade) h = absurd h
use_amount Orders (begins_order at) h = absurd h
use_amount Assumptions (begins_assumptions count at) h = absurd h
use_amount Claims (begins_claim at) h = absurd h
use_amount Shapes (begins_shape at) h = absurd h
use_amount c o h = refl

pub amount-quiet : (c : Counted) (os : List Occurrence) → IsQuiet os → sum_by (amount c) os ≡ 0
amount-quiet c [] h = refl
amount-quiet c (o ∷ os) h = sum_by-cons (amount c) o os ∙ ap₂ (λ a b. a + b) (use_amount c o h.0) (amount-quiet c os h.1)

declares_nothing : (o : Occurrence) → IsUse o → declared_by o ≡ []
declares_nothing (declares_object n) h = absurd h
declares_nothing (declares_map n u v selfmade) h = absurd h
declares_nothing o h = refl

declared-quiet : (os : List Occurrence) → IsQuiet os → declared_in os ≡ []
declared-quiet [] h = refl
declared-quiet (o ∷ os) h = ap₂ (λ xs ys. xs ++ ys) (declares_nothing o h.0) (declared-quiet os h.1)

-- what names that are declared as one kind declare
declared-made : (kind : Kind) (make : Name → Occurrence) → ((n : Name) → declared_by (make n) ≡ (n.text, kind) ∷ []) → (names : List Name)
    → declared_in (map make names) ≡ kinded kind names
declared-made kind make each [] = refl
declared-made kind make each (n ∷ names) = ap₂ (λ xs ys. xs ++ ys) (each n) (declared-made kind make each names)

-- what a statement declares or begins, before what it only uses
abbrev pub begun_by : Spot → StatementKind → List Occurrence
begun_by at (statement.Objects names) = map (λ n. declares_object n) names
begun_by at (statement.Maps names source target selfmade) = map (λ n. declares_map n source.text target.text selfmade) names
begun_by at (statement.Assume left right) = begins_assumptions 1 at ∷ []
begun_by at (statement.Claim left right) = begins_claim at ∷ []
begun_by at (statement.Pinv a x) = begins_assumptions 4 at ∷ []
begun_by at (statement.Inverse a x) = begins_assumptions 2 at ∷ []
begun_by at (statement.Inner a x) = begins_assumptions 1 at ∷ []
begun_by at (statement.Projection p) = begins_assumptions 2 at ∷ []
begun_by at statement.Degree = begins_order at ∷ []
begun_by at (statement.Weight pairs) = begins_order at ∷ []
begun_by at (statement.Eliminate names) = begins_order at ∷ []
begun_by at (statement.Shape m sides) = begins_shape at ∷ []
begun_by at k = []

pub record Parts (at : Spot) (k : StatementKind) : Type 0 where
  pub rest : List Occurrence
  pub whole : kind_occurrences at k ≡ begun_by at k ++ rest
  pub quiet : IsQuiet rest

pub parts_of : (at : Spot) (k : StatementKind) → Parts at k
parts_of at (statement.Objects names) = record { rest = []; whole = sym (append-nil (map (λ n. declares_object n) names)); quiet = tt }
parts_of at (statement.Maps names source target selfmade) =
    record { rest = uses (object_use source) ∷ uses (object_use target) ∷ []; whole = refl; quiet = (tt, (tt, tt)) }
parts_of at (statement.Assume left right) = record { rest = sides_occurrences left right; whole = refl; quiet = sides-quiet left right }
parts_of at (statement.Claim left right) = record { rest = sides_occurrences left right; whole = refl; quiet = sides-quiet left right }
parts_of at (statement.Pinv a x) = record { rest = uses (map_use a) ∷ uses (map_use x) ∷ []; whole = refl; quiet = (tt, (tt, tt)) }
parts_of at (statement.Inverse a x) = record { rest = uses (map_use a) ∷ uses (map_use x) ∷ []; whole = refl; quiet = (tt, (tt, tt)) }
parts_of at (statement.Inner a x) = record { rest = uses (map_use a) ∷ uses (map_use x) ∷ []; whole = refl; quiet = (tt, (tt, tt)) }
parts_of at (statement.Projection p) = record { rest = uses (map_use p) ∷ []; whole = refl; quiet = (tt, tt) }
parts_of at (statement.Weight pairs) =
    record { rest = pairs_behind Map weight_limit [] pairs; whole = refl; quiet = pairs_behind-quiet Map weight_limit [] pairs }
parts_of at (statement.Solve names) = record { rest = names_behind Map [] names; whole = refl; quiet = names_behind-quiet Map [] names }
parts_of at (statement.Eliminate names) = record { rest = names_behind Map [] names; whole = refl; quiet = names_behind-quiet Map [] names }
parts_of at (statement.Shape m sides) =
    record { rest = modulus m ∷ pairs_behind Object shape_side_limit [] sides; whole = refl; quiet = (tt, pairs_behind-quiet Object shape_side_limit [] sides) }
parts_of at k = record { rest = []; whole = refl; quiet = tt }

declared-begun : (at : Spot) (k : StatementKind) → declared_in (begun_by at k) ≡ kinds_by k
declared-begun at (statement.Objects names) = declared-made Object (λ n. declares_object n) (λ n. refl) names
declared-begun at (statement.Maps names source target selfmade) = declared-made Map (λ n. declares_map n source.text target.text selfmade) (λ n. refl) names
declared-begun at k = refl

declared-statement : (at : Spot) (k : StatementKind) → declared_in (kind_occurrences at k) ≡ kinds_by k
declared-statement at k =
    let parts = parts_of at k in
    ap declared_in parts.whole ∙ flat_map-append declared_by (begun_by at k) parts.rest
    ∙ ap₂ (λ xs ys. xs ++ ys) (declared-begun at k) (declared-quiet parts.rest parts.quiet) ∙ append-nil (kinds_by k)

pub declared_statements : (statements : List Statement) → declared_in (occurrences_of statements) ≡ flat_map (λ s. kinds_by s.kind) statements
declared_statements [] = refl
declared_statements (s ∷ statements) =
    flat_map-append declared_by (statement_occurrences s) (occurrences_of statements)
    ∙ ap₂ (λ xs ys. xs ++ ys) (declared-statement s.at s.kind) (declared_statements statements)
