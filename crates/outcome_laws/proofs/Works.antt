-- Works that are done in order end with rules, or with a fault that isn't want of memory.
use Rattle.outcome_laws.proofs.Prelude.{◌<◌, ℕ, List, [], ◌∷◌, ◌++◌, length, map, Option, Some, None, Result, Ok, Err, refl, arith, AllByRecursion, Overflow, first_overflow, Term, generator_at, Compare, PolyFault, IsCanonical, Row, Rule, State, ReduceFault, normal_form_of, Ambiguity, s_rows_of, s_polynomial_of, and_then, halted, each_in_turn, Recorded, Rest, rest_with, Adds, Work, generator_rows, generator_work, First, first_of, second_rows, rows_operations, second_rest, second_reduction, second_work, Goes, InTurn, InTwoPasses, Makes, Gives, s_polynomial_makes, normal_form_gives}
use Rattle.nc_polynomial.specs.declared.fault.PolyFault.TheVariants as polynomial
use Rattle.traced_completion.specs.Results.{unless_overflow}
use Rattle.outcome_laws.proofs.Makings.{has_rule}

-- results one after another
gives_then : {A B : Type 0} (P : A → Type 0) (Q : B → Type 0) (r : Result A ReduceFault) (next : A → Result B ReduceFault) → Gives P r → ((x : A) → P x → Gives Q (next x)) → Gives Q (and_then r next)
gives_then P Q (Ok x) next gives later = later x gives
gives_then P Q (Err e) next gives later = gives

gives_halted : {A : Type 0} (P : A → Type 0) (r : Result A PolyFault) → Makes P r → Gives P (halted r)
gives_halted P (Ok x) makes = makes
gives_halted P (Err (polynomial.Overflow o)) makes = makes
gives_halted P (Err (polynomial.Size s)) makes = makes
gives_halted P (Err (polynomial.Memory e)) makes = makes

gives_unless : {A : Type 0} (P : A → Type 0) (o : Option Overflow) (x : A) → P x → Gives P (unless_overflow o x)
gives_unless P None x held = held
gives_unless P (Some o) x held = λ memory. memory

gives_each : {A B : Type 0} (P : B → Type 0) (f : A → Result B ReduceFault) → ((x : A) → Gives P (f x)) → (xs : List A) → Gives (AllByRecursion P) (each_in_turn f xs)
gives_each P f each [] = tt
gives_each {A} {B} P f each (x ∷ xs) =
    gives_then P (AllByRecursion P) (f x) (λ y. and_then (each_in_turn f xs) (λ ys. Ok (y ∷ ys))) (each x) (λ y y_held.
    gives_then (AllByRecursion P) (AllByRecursion P) (each_in_turn f xs) (λ ys. Ok (y ∷ ys)) (gives_each P f each xs) (λ ys ys_held. (y_held, ys_held)))

-- nothing, or a canonical polynomial other than zero
abbrev pub IsFit : Option Rest → Type 0
IsFit None = Unit {0}
IsFit (Some rest) = IsCanonical rest.polynomial × (0 < length rest.polynomial)

fit_rest : (p : List Term) (rows : List Row) → IsCanonical p → IsFit (rest_with p rows)
fit_rest [] rows canonical = tt
fit_rest (t ∷ p) rows canonical = (canonical, omega arith)

-- whatever the rules are
abbrev pub IsFitWork : Work → Type 0
IsFitWork work = (rules : List Rule) → Gives IsFit (work rules)

pub fit_generator : (compare : Compare) (steps : ℕ) (generators : List (List Term)) (number : ℕ) → IsCanonical (generator_at generators number) → IsFitWork (generator_work compare steps generators number)
fit_generator compare steps generators number canonical rules =
    gives_then (λ s. IsCanonical s.rest) IsFit (normal_form_of compare rules (generator_at generators number) steps) (λ s. Ok (rest_with s.rest (generator_rows number s.multiplier s.rows)))
    (normal_form_gives compare rules (generator_at generators number) steps canonical) (λ s is. fit_rest s.rest (generator_rows number s.multiplier s.rows) is)

abbrev pub IsFitFirst : First → Type 0
IsFitFirst f = IsCanonical f.reduced.rest

fit_first : (compare : Compare) (steps : ℕ) (rules : List Rule) (a : Ambiguity) → Gives IsFitFirst (first_of compare steps rules a)
fit_first compare steps rules a =
    gives_then IsCanonical IsFitFirst (halted (s_polynomial_of rules a)) (λ p. and_then (normal_form_of compare rules p steps) (λ s. Ok (record { rows = s_rows_of rules a; reduced = s })))
    (gives_halted IsCanonical (s_polynomial_of rules a) (s_polynomial_makes rules a)) (λ p canonical.
    gives_then (λ s. IsCanonical s.rest) IsFitFirst (normal_form_of compare rules p steps) (λ s. Ok (record { rows = s_rows_of rules a; reduced = s })) (normal_form_gives compare rules p steps canonical) (λ s is. is))

pub fit_firsts : (compare : Compare) (steps : ℕ) (rules : List Rule) (taken : List Ambiguity) → Gives (AllByRecursion IsFitFirst) (each_in_turn (first_of compare steps rules) taken)
fit_firsts compare steps rules taken = gives_each IsFitFirst (first_of compare steps rules) (fit_first compare steps rules) taken

fit_second_rest : (f : First) (s : State) (p : List Term) → IsCanonical p → Gives IsFit (second_rest f s p)
fit_second_rest f s [] canonical = tt
fit_second_rest f s (t ∷ p) canonical = gives_unless IsFit (first_overflow (rows_operations f s)) (rest_with (t ∷ p) (second_rows f s)) (fit_rest (t ∷ p) (second_rows f s) canonical)

fit_second_reduction : (compare : Compare) (steps : ℕ) (f : First) (rules : List Rule) (p : List Term) → IsCanonical p → Gives IsFit (second_reduction compare steps f rules p)
fit_second_reduction compare steps f rules [] canonical = tt
fit_second_reduction compare steps f rules (t ∷ p) canonical =
    gives_then (λ s. IsCanonical s.rest) IsFit (normal_form_of compare rules (t ∷ p) steps) (λ s. second_rest f s s.rest) (normal_form_gives compare rules (t ∷ p) steps canonical) (λ s is. fit_second_rest f s s.rest is)

fit_seconds : (compare : Compare) (steps : ℕ) (firsts : List First) → AllByRecursion IsFitFirst firsts → AllByRecursion IsFitWork (map (second_work compare steps) firsts)
fit_seconds compare steps [] each = tt
fit_seconds compare steps (f ∷ firsts) each = ((λ rules. fit_second_reduction compare steps f rules f.reduced.rest each.0), fit_seconds compare steps firsts each.1)

-- a result, whose fault isn't want of memory
pub record HasEnd (Ends : Result Recorded ReduceFault → Type 0) : Type 0 where
  pub result : Result Recorded ReduceFault
  pub ends : Ends result
  pub exact : Gives (λ r. Unit {0}) result

record HasAdded (compare : Compare) (rest : Option Rest) (before : Recorded) : Type 0 where
  after : Recorded
  added : Adds compare rest before after

has_added : (compare : Compare) (rest : Option Rest) (before : Recorded) → IsFit rest → HasAdded compare rest before
has_added compare None before fit = record { after = before; added = refl }
has_added compare (Some rest) before fit =
    let has = has_rule compare rest fit.0 fit.1 in
    record {
      after = record { rules = before.rules ++ has.rule ∷ []; made = before.made ++ has.made ∷ [] };
      added = record { rule = has.rule; made = has.made; made_from = has.is; appended = refl };
    }

pub has_turn : (compare : Compare) (works : List Work) (before : Recorded) → AllByRecursion IsFitWork works → HasEnd (InTurn compare works before)
has_turn compare [] before fit = record { result = Ok before; ends = refl; exact = tt }
has_turn compare (work ∷ works) before fit = go (work before.rules) (fit.0 before.rules) (λ between. has_turn compare works between fit.1)
  where
    go : (r : Result (Option Rest) ReduceFault) → Gives IsFit r → ((between : Recorded) → HasEnd (InTurn compare works between)) → HasEnd (λ result. Goes compare r before (λ between. InTurn compare works between result) result)
    go (Err e) gives later = record { result = Err e; ends = refl; exact = gives }
    go (Ok rest) gives later =
        let step = has_added compare rest before gives in
        let further = later step.after in
        record { result = further.result; ends = record { between = step.after; added = step.added; next = further.ends }; exact = further.exact }

pub has_passes : (compare : Compare) (steps : ℕ) (firsts : Result (List First) ReduceFault) (before : Recorded) → Gives (AllByRecursion IsFitFirst) firsts → HasEnd (InTwoPasses compare steps firsts before)
has_passes compare steps (Err e) before gives = record { result = Err e; ends = refl; exact = gives }
has_passes compare steps (Ok firsts) before gives = has_turn compare (map (second_work compare steps) firsts) before (fit_seconds compare steps firsts gives)
