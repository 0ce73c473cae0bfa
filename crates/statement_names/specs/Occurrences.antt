-- The names, literals and first words of a file that may be wrong, in reading order.
use Rattle.std.specs.Prelude.{ℕ, Bool, List, [], ◌∷◌, ◌++◌, map}
use Rattle.std.specs.List.{flat_map}
use Rattle.statement_names.specs.Types.{Spot, Name, Number, Mark, Adjoint, Power, Primary, Identity, Bracket, Factor, Term, Term', Row_of-Factor, end_of-Factor}
use Rattle.statement_names.specs.Types.{more_of-Factor, Sum, Sum', Row_of-Term, end_of-Term, more_of-Term, Statement, StatementKind, statement, Kind, Object}
use Rattle.statement_names.specs.Types.{Map}
use Rattle.adjoint_rules.specs.Limits.{shape_side_limit}
use Rattle.word_orders.specs.Limits.{weight_limit}
use Rattle.statement_names.specs.Limits.{exponent_limit}
use Rattle.statement_names.specs.Uses.{Use, use_of, object_use, map_use}

pub data Occurrence : Type 0 where
  -- the name declares an object
  declares_object : Name → Occurrence
  -- it declares a map from the first object to the second, its own adjoint or not
  declares_map : Name → List ℕ → List ℕ → Bool → Occurrence
  -- a declared name is used
  uses : Use → Occurrence
  -- it is used in a list of names, after these
  lists : List (List ℕ) → Use → Occurrence
  -- a literal that has to be from 1 to this, and one that has to be a modulus
  counts : ℕ → Number → Occurrence
  modulus : Number → Occurrence
  -- the first word of a statement: of an order, of this many assumptions, of a claim, of a shape
  begins_order : Spot → Occurrence
  begins_assumptions : ℕ → Spot → Occurrence
  begins_claim : Spot → Occurrence
  begins_shape : Spot → Occurrence

-- a list of names after others of the list
abbrev pub names_behind : Kind → List (List ℕ) → List Name → List Occurrence
names_behind kind front [] = []
names_behind kind front (name ∷ names) = lists front (use_of kind name) ∷ names_behind kind (front ++ name.text ∷ []) names

-- a list of names, each with a literal from 1 to this
abbrev pub pairs_behind : Kind → ℕ → List (List ℕ) → List (Name × Number) → List Occurrence
pairs_behind kind most front [] = []
pairs_behind kind most front (pair ∷ pairs) =
    lists front (use_of kind pair.0) ∷ counts most pair.1 ∷ pairs_behind kind most (front ++ pair.0.text ∷ []) pairs

abbrev pub used_names : List Use → List Occurrence
used_names us = map (λ u. uses u) us

-- the exponent of a mark that is a power
abbrev pub mark_occurrences : Mark → List Occurrence
mark_occurrences Adjoint = []
mark_occurrences (Power at exponent) = counts exponent_limit exponent ∷ []

-- the names and the exponents of an expression from the left, a primary before its exponents
abbrev mutual
  pub primary_occurrences : Primary → List Occurrence
  primary_occurrences (Primary.Letter name) = uses (map_use name) ∷ []
  primary_occurrences (Identity name) = uses (object_use name) ∷ []
  primary_occurrences (Bracket sum) = sum_occurrences sum

  pub sum_occurrences : Sum → List Occurrence
  sum_occurrences (Sum' at shape terms) = terms_occurrences terms

  pub terms_occurrences : {m : _} → Row_of-Term m → List Occurrence
  terms_occurrences end_of-Term = []
  terms_occurrences (more_of-Term term rest) = term_occurrences term ++ terms_occurrences rest

  pub term_occurrences : Term → List Occurrence
  term_occurrences (Term' at negative literal shape factors) = factors_occurrences factors

  pub factors_occurrences : {m : _} → Row_of-Factor m → List Occurrence
  factors_occurrences end_of-Factor = []
  factors_occurrences (more_of-Factor at primary marks rest) =
      (primary_occurrences primary ++ flat_map mark_occurrences marks) ++ factors_occurrences rest

abbrev pub factor_occurrences : Factor → List Occurrence
factor_occurrences factor = primary_occurrences factor.primary ++ flat_map mark_occurrences factor.marks

abbrev pub sides_occurrences : Sum → Sum → List Occurrence
sides_occurrences left right = sum_occurrences left ++ sum_occurrences right

abbrev pub kind_occurrences : Spot → StatementKind → List Occurrence
kind_occurrences at statement.Language = []
kind_occurrences at (statement.Objects names) = map (λ name. declares_object name) names
kind_occurrences at (statement.Maps names source target selfmade) =
    map (λ name. declares_map name source.text target.text selfmade) names ++ uses (object_use source) ∷ uses (object_use target) ∷ []
kind_occurrences at (statement.Assume left right) = begins_assumptions 1 at ∷ sides_occurrences left right
kind_occurrences at (statement.Claim left right) = begins_claim at ∷ sides_occurrences left right
kind_occurrences at (statement.Pinv first second) = begins_assumptions 4 at ∷ uses (map_use first) ∷ uses (map_use second) ∷ []
kind_occurrences at (statement.Inverse first second) = begins_assumptions 2 at ∷ uses (map_use first) ∷ uses (map_use second) ∷ []
kind_occurrences at (statement.Inner first second) = begins_assumptions 1 at ∷ uses (map_use first) ∷ uses (map_use second) ∷ []
kind_occurrences at (statement.Projection name) = begins_assumptions 2 at ∷ uses (map_use name) ∷ []
kind_occurrences at statement.Degree = begins_order at ∷ []
kind_occurrences at (statement.Weight weights) = begins_order at ∷ pairs_behind Map weight_limit [] weights
kind_occurrences at (statement.Solve names) = names_behind Map [] names
kind_occurrences at (statement.Eliminate names) = begins_order at ∷ names_behind Map [] names
kind_occurrences at (statement.Shape m sides) = begins_shape at ∷ modulus m ∷ pairs_behind Object shape_side_limit [] sides

abbrev pub statement_occurrences : Statement → List Occurrence
statement_occurrences s = kind_occurrences s.at s.kind

abbrev pub occurrences_of : List Statement → List Occurrence
occurrences_of statements = flat_map statement_occurrences statements
