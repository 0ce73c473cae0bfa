-- The reductions of a round: of generators, and of ambiguities twice each.
use Rattle.std.specs.Prelude.{◌≡◌, ℕ, ℤ, List, [], ◌∷◌, ◌++◌, map, Option, None, Result, Ok, Err, ⊤}
use Rattle.coef_int.specs.declared.Overflow.{Overflow}
use Rattle.coef_int.specs.Operations.{first_overflow}
use Rattle.definitions.specs.Poly.{Term}
use Rattle.definitions.specs.Combination.{generator_at}
use Rattle.word_orders.specs.Admissible.{Compare}
use Rattle.traced_rows.specs.declared.Origin.TheVariants as origin
use Rattle.traced_rows.specs.declared.Row.{Row}
use Rattle.rule_reduce.specs.declared.rule.Rule.{Rule}
use Rattle.rule_reduce.specs.declared.state.State.{State}
use Rattle.rule_reduce.specs.declared.fault.ReduceFault.{ReduceFault}
use Rattle.rule_reduce.specs.declared.fault.ReduceFault.TheVariants as fault
use Rattle.rule_reduce.specs.Steps.{multiplied_row, row_operations}
use Rattle.rule_reduce.specs.NormalForms.{normal_form_of}
use Rattle.ambiguities.specs.declared.ambiguity.Ambiguity.{Ambiguity}
use Rattle.ambiguities.specs.SPolynomials.{s_rows_of, s_polynomial_of}
use Rattle.traced_completion.specs.Results.{and_then, halted, unless_overflow}
use Rattle.rule_making.specs.Making.{Recorded, Rest, rest_with, negated_rows, Adds}

-- The rest of a reduction by the rules so far, with its rows, or a fault.
abbrev pub Work : Type 0
Work = List Rule → Result (Option Rest) ReduceFault

-- the rows of a generator times the multiplier, less those of its reduction
abbrev pub generator_rows : ℕ → ℤ → List Row → List Row
generator_rows number multiplier taken = record { coef = multiplier; left = []; from = origin.Generator number; right = [] } ∷ negated_rows taken

-- the generator with this number is reduced
abbrev pub generator_work : Compare → ℕ → List (List Term) → ℕ → Work
generator_work compare steps generators number rules =
    and_then (normal_form_of compare rules (generator_at generators number) steps) (λ s. Ok (rest_with s.rest (generator_rows number s.multiplier s.rows)))

-- the rows of an S-polynomial, and its reduction
pub record First : Type 0 where
  pub rows : List Row
  pub reduced : State

-- The S-polynomial of an ambiguity is made and reduced.
abbrev pub first_of : Compare → ℕ → List Rule → Ambiguity → Result First ReduceFault
first_of compare steps rules a =
    and_then (halted (s_polynomial_of rules a)) (λ p.
    and_then (normal_form_of compare rules p steps) (λ s. Ok (record { rows = s_rows_of rules a; reduced = s })))

-- the rows times the multiplier of a reduction, less its rows
abbrev pub less_rows : List Row → ℤ → List Row → List Row
less_rows rows multiplier taken = map (multiplied_row multiplier) rows ++ negated_rows taken

-- the rows of the S-polynomial times the first multiplier, less those of the first reduction
abbrev pub first_rows : First → List Row
first_rows f = less_rows f.rows f.reduced.multiplier f.reduced.rows

-- all that times the second multiplier, less those of the second reduction
abbrev pub second_rows : First → State → List Row
second_rows f s = less_rows (first_rows f) s.multiplier s.rows

-- the products of both, in order
abbrev pub rows_operations : First → State → List Overflow
rows_operations f s = row_operations f.rows f.reduced.multiplier ++ row_operations (first_rows f) s.multiplier

-- the rest of the second reduction, with its rows, where it isn't zero
abbrev pub second_rest : First → State → List Term → Result (Option Rest) ReduceFault
second_rest f s [] = Ok None
second_rest f s (t ∷ p) = unless_overflow (first_overflow (rows_operations f s)) (rest_with (t ∷ p) (second_rows f s))

-- The rest of the first reduction is reduced, where it isn't zero.
abbrev pub second_reduction : Compare → ℕ → First → List Rule → List Term → Result (Option Rest) ReduceFault
second_reduction compare steps f rules [] = Ok None
second_reduction compare steps f rules (t ∷ p) = and_then (normal_form_of compare rules (t ∷ p) steps) (λ s. second_rest f s s.rest)

abbrev pub second_work : Compare → ℕ → First → Work
second_work compare steps f rules = second_reduction compare steps f rules f.reduced.rest

-- the work has no fault, and its rest is added
pub record Does (compare : Compare) (work : Result (Option Rest) ReduceFault) (before after : Recorded) : Type 0 where
  pub rest : Option Rest
  pub leaves : work ≡ Ok rest
  pub added : Adds compare rest before after

-- between two works: the rules with what the first one adds
pub record GoesOn (compare : Compare) (rest : Option Rest) (before : Recorded) (Next : Recorded → Type 0) : Type 0 where
  pub between : Recorded
  pub added : Adds compare rest before between
  pub next : Next between

-- a fault ends it
abbrev pub Goes : Compare → Result (Option Rest) ReduceFault → Recorded → (Recorded → Type 0) → Result Recorded ReduceFault → Type 0
Goes compare (Err e) before Next result = result ≡ Err e
Goes compare (Ok rest) before Next result = GoesOn compare rest before Next

-- The works are done in order, each by the rules with what the earlier ones added. The first fault is the result.
abbrev pub InTurn : Compare → List Work → Recorded → Result Recorded ReduceFault → Type 0
InTurn compare [] before result = result ≡ Ok before
InTurn compare (work ∷ works) before result = Goes compare (work before.rules) before (λ between. InTurn compare works between result) result

-- first all first reductions, then all second ones
abbrev pub InTwoPasses : Compare → ℕ → Result (List First) ReduceFault → Recorded → Result Recorded ReduceFault → Type 0
InTwoPasses compare steps (Err e) before result = result ≡ Err e
InTwoPasses compare steps (Ok firsts) before result = InTurn compare (map (second_work compare steps) firsts) before result

-- want of memory, or the fault with which the works end
abbrev pub EndsWith : (Result Recorded ReduceFault → Type 0) → ReduceFault → Type 0
EndsWith Ends (fault.Steps limit) = Ends (Err (fault.Steps limit))
EndsWith Ends (fault.Overflow o) = Ends (Err (fault.Overflow o))
EndsWith Ends (fault.Size s) = Ends (Err (fault.Size s))
EndsWith Ends (fault.Memory e) = ⊤
