-- Answers in their order, and the first fault of them.
use Rattle.traced_completion.proofs.Prelude.{◌≡◌, List, [], ◌∷◌, ◌++◌, map, Result, Ok, Err, MatchResult, IfOk, refl, sym, ap, ◌∙◌, AllZip, All, All-nil, All-cons, ReduceFault, and_then, each_in_turn, Explains}
use Rattle.std.proofs.Common.{append_assoc}
use Rattle.rule_reduce.specs.declared.fault.ReduceFault.TheVariants as fault

-- values before those of what is left
abbrev pub join : {A : Type 0} → List A → Result (List A) ReduceFault → Result (List A) ReduceFault
join done (Ok xs) = Ok (done ++ xs)
join done (Err e) = Err e

abbrev pub values : {A : Type 0} → List (Result A ReduceFault) → Result (List A) ReduceFault
values answers = each_in_turn (λ answer. answer) answers

-- no value so far
pub join-nil : {A : Type 0} (r : Result (List A) ReduceFault) → join [] r ≡ r
join-nil (Ok xs) = refl
join-nil (Err e) = refl

-- one more value
pub value-next : {A : Type 0} (done : List A) (x : A) (rest : List (Result A ReduceFault)) → join done (values (Ok x ∷ rest)) ≡ join (done ++ x ∷ []) (values rest)
value-next {A} done x rest = go (values rest)
  where
    go : (r : Result (List A) ReduceFault) → join done (and_then r (λ ys. Ok (x ∷ ys))) ≡ join (done ++ x ∷ []) r
    go (Ok ys) = ap Ok (sym (append_assoc done (x ∷ []) ys))
    go (Err e) = refl

pub explains-itself : {A : Type 0} (r : Result A ReduceFault) (e : ReduceFault) → r ≡ Err e → Explains r e
explains-itself r (fault.Steps limit) is = is
explains-itself r (fault.Overflow o) is = is
explains-itself r (fault.Size s) is = is
explains-itself r (fault.Memory e) is = tt

-- a fault of the first item is the first fault
explains-head : {A B : Type 0} (f : A → Result B ReduceFault) (x : A) (xs : List A) (e : ReduceFault) → Explains (f x) e → Explains (each_in_turn f (x ∷ xs)) e
explains-head f x xs (fault.Steps limit) why = ap (λ r. and_then r (λ y. and_then (each_in_turn f xs) (λ ys. Ok (y ∷ ys)))) why
explains-head f x xs (fault.Overflow o) why = ap (λ r. and_then r (λ y. and_then (each_in_turn f xs) (λ ys. Ok (y ∷ ys)))) why
explains-head f x xs (fault.Size s) why = ap (λ r. and_then r (λ y. and_then (each_in_turn f xs) (λ ys. Ok (y ∷ ys)))) why
explains-head f x xs (fault.Memory e) why = tt

-- and so is that of the others after a value
explains-tail : {A B : Type 0} (f : A → Result B ReduceFault) (x : A) (y : B) (xs : List A) (e : ReduceFault) → f x ≡ Ok y → Explains (each_in_turn f xs) e → Explains (each_in_turn f (x ∷ xs)) e
explains-tail {B} f x y xs (fault.Steps limit) is why = ap (λ r. and_then r (λ z. and_then (each_in_turn f xs) (λ ys. Ok (z ∷ ys)))) is ∙ ap (λ r. and_then r (λ ys. Ok (y ∷ ys))) why
explains-tail {B} f x y xs (fault.Overflow o) is why = ap (λ r. and_then r (λ z. and_then (each_in_turn f xs) (λ ys. Ok (z ∷ ys)))) is ∙ ap (λ r. and_then r (λ ys. Ok (y ∷ ys))) why
explains-tail {B} f x y xs (fault.Size s) is why = ap (λ r. and_then r (λ z. and_then (each_in_turn f xs) (λ ys. Ok (z ∷ ys)))) is ∙ ap (λ r. and_then r (λ ys. Ok (y ∷ ys))) why
explains-tail {B} f x y xs (fault.Memory e) is why = tt

module _ {A B C : Type 0} (f : A → Result B ReduceFault) (view : C → B) (Kept : C → Type 0) where
  -- an answer to an item
  pub record IsAnswerTo (x : A) (answer : Result C ReduceFault) : Type 0 where
    pub exact : MatchResult answer (λ y. f x ≡ Ok (view y)) (Explains (f x))
    pub kept : IfOk answer Kept

  -- what all answers say
  pub record AreAnswers (xs : List A) (r : Result (List C) ReduceFault) : Type 0 where
    pub exact : MatchResult r (λ ys. each_in_turn f xs ≡ Ok (map view ys)) (Explains (each_in_turn f xs))
    pub kept : IfOk r (λ ys. All Kept ys)

  after_value : (x : A) (y : C) (xs : List A) (r : Result (List C) ReduceFault) → f x ≡ Ok (view y) → Kept y → AreAnswers xs r → AreAnswers (x ∷ xs) (and_then r (λ ys. Ok (y ∷ ys)))
  after_value x y xs (Ok ys) is kept answers = record {
    exact = ap (λ q. and_then q (λ z. and_then (each_in_turn f xs) (λ zs. Ok (z ∷ zs)))) is ∙ ap (λ q. and_then q (λ zs. Ok (view y ∷ zs))) answers.exact;
    kept = All-cons Kept y ys kept answers.kept;
  }
  after_value x y xs (Err e) is kept answers = record { exact = explains-tail f x (view y) xs e is answers.exact; kept = tt }

  pub values_answer : (xs : List A) (answers : List (Result C ReduceFault)) → AllZip IsAnswerTo xs answers → AreAnswers xs (values answers)
  values_answer [] [] each = record { exact = refl; kept = All-nil Kept }
  values_answer [] (a ∷ answers) each = absurd each
  values_answer (x ∷ xs) [] each = absurd each
  values_answer (x ∷ xs) (Ok y ∷ answers) each = after_value x y xs (values answers) each.0.exact each.0.kept (values_answer xs answers each.1)
  values_answer (x ∷ xs) (Err e ∷ answers) each = record { exact = explains-head f x xs e each.0.exact; kept = tt }
