-- The first reductions of ambiguities, from the answers to each.
use Rattle.traced_completion.proofs.Prelude.{◌≡◌, ℕ, suc, List, [], ◌∷◌, length, map, Result, Ok, Err, MatchResult, IfOk, refl, sym, ap, ◌∙◌, subst, All, AllZip, length-map, Compare, Rule, ReduceFault, Kept, Ambiguity, and_then, each_in_turn, Explains, First, first_of, plain_first, IsKeptFirst, IsAnswer, AllZip-weaker}
use Rattle.rule_reduce.specs.declared.fault.ReduceFault.TheVariants as fault
use Rattle.traced_completion.proofs.InOrder.{values, IsAnswerTo, AreAnswers, values_answer}

module _ (letters : ℕ) (compare : Compare) (steps : ℕ) (rules : List Rule) (taken : List Ambiguity) (answers : List (Result Kept ReduceFault)) (each : AllZip (IsAnswer letters compare steps rules) taken answers) where
  abbrev Answered : Result (List Kept) ReduceFault → Type 0
  Answered = AreAnswers (first_of compare steps rules) plain_first (λ f. IsKeptFirst letters (length rules) (plain_first f)) taken

  all_answer : Answered (values answers)
  all_answer =
      values_answer (first_of compare steps rules) plain_first (λ f. IsKeptFirst letters (length rules) (plain_first f)) taken answers
      (AllZip-weaker (IsAnswer letters compare steps rules) (IsAnswerTo (first_of compare steps rules) plain_first (λ f. IsKeptFirst letters (length rules) (plain_first f)))
      (λ which answer is. record { exact = is.exact; kept = is.kept }) taken answers each)

  abbrev pub firsts : Result (List First) ReduceFault
  firsts = each_in_turn (first_of compare steps rules) taken

  pub firsts_exact : (result : Result (List Kept) ReduceFault) → MatchResult result (λ fs. values answers ≡ Ok fs) (Explains (values answers)) → MatchResult result (λ fs. firsts ≡ Ok (map plain_first fs)) (Explains firsts)
  firsts_exact (Ok fs) is = (subst Answered is all_answer).exact
  firsts_exact (Err (fault.Steps limit)) is = (subst Answered is all_answer).exact
  firsts_exact (Err (fault.Overflow o)) is = (subst Answered is all_answer).exact
  firsts_exact (Err (fault.Size s)) is = (subst Answered is all_answer).exact
  firsts_exact (Err (fault.Memory e)) is = tt

  pub firsts_kept : (result : Result (List Kept) ReduceFault) → MatchResult result (λ fs. values answers ≡ Ok fs) (Explains (values answers)) → IfOk result (All (λ f. IsKeptFirst letters (length rules) (plain_first f)))
  firsts_kept (Ok fs) is = (subst Answered is all_answer).kept
  firsts_kept (Err e) why = tt

pub each_length : {A B : Type 0} (f : A → Result B ReduceFault) (xs : List A) (ys : List B) → each_in_turn f xs ≡ Ok ys → length ys ≡ length xs
each_length f [] ys is = ap length (sym (same [] ys is))
  where
    same : {X : Type 0} (x y : X) → ◌≡◌ {A = Result X ReduceFault} (Ok x) (Ok y) → x ≡ y
    same x y k = cc
each_length {A} {B} f (x ∷ xs) ys is = first (λ zs have. each_length f xs zs have) (f x) (each_in_turn f xs) refl is
  where
    same : {X : Type 0} (a b : X) → ◌≡◌ {A = Result X ReduceFault} (Ok a) (Ok b) → a ≡ b
    same a b k = cc

    no_error : (e : ReduceFault) → ◌≡◌ {A = Result (List B) ReduceFault} (Err e) (Ok ys) → ⊥
    no_error e k = cc

    first : ((zs : List B) → each_in_turn f xs ≡ Ok zs → length zs ≡ length xs) → (r : Result B ReduceFault) (rest : Result (List B) ReduceFault) → each_in_turn f xs ≡ rest → and_then r (λ y. and_then rest (λ zs. Ok (y ∷ zs))) ≡ Ok ys → length ys ≡ suc (length xs)
    first rest_length (Err e) rest have k = absurd (no_error e k)
    first rest_length (Ok y) (Err e) have k = absurd (no_error e k)
    first rest_length (Ok y) (Ok zs) have k = ap length (sym (same (y ∷ zs) ys k)) ∙ ap suc (rest_length zs have)

-- there is one for each ambiguity
pub one_for_each : (compare : Compare) (steps : ℕ) (rules : List Rule) (taken : List Ambiguity) (E : ReduceFault → Type 0) (result : Result (List Kept) ReduceFault)
    → MatchResult result (λ fs. each_in_turn (first_of compare steps rules) taken ≡ Ok (map plain_first fs)) E → IfOk result (λ fs. length fs ≡ length taken)
one_for_each compare steps rules taken E (Ok fs) is = sym (length-map fs plain_first) ∙ each_length (first_of compare steps rules) taken (map plain_first fs) is
one_for_each compare steps rules taken E (Err e) is = tt
