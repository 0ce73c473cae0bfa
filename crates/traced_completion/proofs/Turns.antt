-- Works one after another.
use Rattle.traced_completion.proofs.Prelude.{◌≡◌, ◌≤◌, ℕ, suc, List, [], ◌∷◌, ◌++◌, length, map, take, Option, Some, None, Result, Ok, Err, refl, sym, ap, ◌∙◌, subst, arith, length-append, length-take, take-append-le, Compare, Made, Rule, ReduceFault, Explains, Recorded, Rest, Adds, Work, First, second_work, Does, Goes, InTurn, InTwoPasses, EndsWith}
use Rattle.rule_reduce.specs.declared.fault.ReduceFault.TheVariants as fault

-- a list that is a prefix of another stays one with one more item
pub front_stays : {X : Type 0} (xs ys : List X) (x : X) → take (length xs) ys ≡ xs → take (length xs) (ys ++ x ∷ []) ≡ xs
front_stays xs ys x front =
    let size = length-take (length xs) ys in
    let same = ap length front in
    take-append-le (length xs) ys (x ∷ []) (omega (arith, size, same)) ∙ front

module _ (compare : Compare) where
  -- what is there stays, and there is at most one more rule
  pub record Grows (before after : Recorded) : Type 0 where
    pub rules_front : (xs : List Rule) → take (length xs) before.rules ≡ xs → take (length xs) after.rules ≡ xs
    pub made_front : (xs : List Made) → take (length xs) before.made ≡ xs → take (length xs) after.made ≡ xs
    pub most : length after.rules ≤ suc (length before.rules)

  stays : (before after : Recorded) → after ≡ before → Grows before after
  stays before after same = record {
    rules_front = λ xs front. ap (λ (r : Recorded). take (length xs) r.rules) same ∙ front;
    made_front = λ xs front. ap (λ (r : Recorded). take (length xs) r.made) same ∙ front;
    most = omega (arith, ap (λ (r : Recorded). length r.rules) same);
  }

  adds_grows : (rest : Option Rest) (before after : Recorded) → Adds compare rest before after → Grows before after
  adds_grows None before after same = stays before after same
  adds_grows (Some rest) before after more = record {
    rules_front = λ xs front. ap (λ (r : Recorded). take (length xs) r.rules) more.appended ∙ front_stays xs before.rules more.rule front;
    made_front = λ xs front. ap (λ (r : Recorded). take (length xs) r.made) more.appended ∙ front_stays xs before.made more.made front;
    most = omega (arith, ap (λ (r : Recorded). length r.rules) more.appended, length-append before.rules (more.rule ∷ []));
  }

  pub does_grows : (work : Result (Option Rest) ReduceFault) (before after : Recorded) → Does compare work before after → Grows before after
  does_grows work before after does = adds_grows does.rest before after does.added

  -- a work that goes well, and then the others
  pub goes_well : (work : Work) (works : List Work) (before between : Recorded) (result : Result Recorded ReduceFault) → Does compare (work before.rules) before between → InTurn compare works between result → InTurn compare (work ∷ works) before result
  goes_well work works before between result does next =
      subst (λ r. Goes compare r before (λ s. InTurn compare works s result) result) (sym does.leaves) (record { between = between; added = does.added; next = next })

  fails : (work : Work) (works : List Work) (before : Recorded) (result : Result Recorded ReduceFault) (e : ReduceFault) → work before.rules ≡ Err e → result ≡ Err e → InTurn compare (work ∷ works) before result
  fails work works before result e is same = subst (λ r. Goes compare r before (λ s. InTurn compare works s result) result) (sym is) same

  -- a fault ends the works
  pub ends_with : (work : Work) (works : List Work) (before : Recorded) (e : ReduceFault) → Explains (work before.rules) e → EndsWith (InTurn compare (work ∷ works) before) e
  ends_with work works before (fault.Steps limit) why = fails work works before (Err (fault.Steps limit)) (fault.Steps limit) why refl
  ends_with work works before (fault.Overflow o) why = fails work works before (Err (fault.Overflow o)) (fault.Overflow o) why refl
  ends_with work works before (fault.Size s) why = fails work works before (Err (fault.Size s)) (fault.Size s) why refl
  ends_with work works before (fault.Memory e) why = tt

-- what follows from how works end
pub ends_weaker : (P Q : Result Recorded ReduceFault → Type 0) → ((r : Result Recorded ReduceFault) → P r → Q r) → (e : ReduceFault) → EndsWith P e → EndsWith Q e
ends_weaker P Q weaker (fault.Steps limit) ends = weaker (Err (fault.Steps limit)) ends
ends_weaker P Q weaker (fault.Overflow o) ends = weaker (Err (fault.Overflow o)) ends
ends_weaker P Q weaker (fault.Size s) ends = weaker (Err (fault.Size s)) ends
ends_weaker P Q weaker (fault.Memory e) ends = tt

-- two passes
module _ (compare : Compare) (steps : ℕ) (before : Recorded) (firsts : Result (List First) ReduceFault) where
  -- a fault of the first pass ends both
  pub first_ends : (e : ReduceFault) → Explains firsts e → EndsWith (InTwoPasses compare steps firsts before) e
  first_ends (fault.Steps limit) why = subst (λ r. InTwoPasses compare steps r before (Err (fault.Steps limit))) (sym why) refl
  first_ends (fault.Overflow o) why = subst (λ r. InTwoPasses compare steps r before (Err (fault.Overflow o))) (sym why) refl
  first_ends (fault.Size s) why = subst (λ r. InTwoPasses compare steps r before (Err (fault.Size s))) (sym why) refl
  first_ends (fault.Memory e) why = tt

  -- and where it goes well, both end as the second one does
  pub second_goes : (fs : List First) (result : Result Recorded ReduceFault) → firsts ≡ Ok fs → InTurn compare (map (second_work compare steps) fs) before result → InTwoPasses compare steps firsts before result
  second_goes fs result is turns = subst (λ r. InTwoPasses compare steps r before result) (sym is) turns

  pub second_ends : (fs : List First) (e : ReduceFault) → firsts ≡ Ok fs → EndsWith (InTurn compare (map (second_work compare steps) fs) before) e → EndsWith (InTwoPasses compare steps firsts before) e
  second_ends fs e is ends = subst (λ r. EndsWith (InTwoPasses compare steps r before) e) (sym is) ends
