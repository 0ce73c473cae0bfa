-- What is told of a part of a proof is told of the proof.
use Rattle.cancel_rules.proofs.Prelude.{◌≡◌, inl, inr, ℕ, ℤ, List, [], Result, Ok, Err, IfErr, IsErrAnd, sym, subst, Quiver, RefusesGoal, Refusal, Letter, Side, Cancellation, CancelRefusal, row_total, RefusesCancel, RefusesItem, RefusesItems, claim_named, all_items, CancelBegins, HasItems, RefusesBeginning, RefusesParts, RefusesCancellation, IsMemory}
use Rattle.cofactor_checker.specs.declared.refusal.Refusal.TheVariants as common
use Rattle.cancel_rules.specs.declared.cancellation.Item.TheVariants as item
use Rattle.cancel_rules.specs.declared.refusal.CancelRefusal.TheVariants as refusal

module _ (q : Quiver) (claims generators : List (List (ℤ × List ℕ))) (proof : Cancellation) where
  -- before the items
  pub refuses_from_beginning : (e : Refusal) → RefusesBeginning claims proof e → RefusesCancellation q claims generators proof (refusal.Common e)
  refuses_from_beginning (common.Memory failed) told = tt
  refuses_from_beginning other told = inl told

  from_parts : (e : CancelRefusal) → RefusesParts q claims generators proof e → RefusesCancellation q claims generators proof e
  from_parts (refusal.Common (common.Memory failed)) told = tt
  from_parts (refusal.Common other) told = inr told
  from_parts other told = told

  -- of an item, where the items are reached
  pub refuses_from_items : CancelBegins claims proof → (e : CancelRefusal) → RefusesItems q proof generators [] 0 proof.items e → RefusesCancellation q claims generators proof e
  refuses_from_items begins e told = from_parts e (inl (begins, told))

  -- of the goal, where it is reached
  pub refuses_from_goal : HasItems q claims generators proof → (e : Refusal) → RefusesGoal generators (all_items generators proof) (row_total proof.items) proof.goal (claim_named claims proof) e
      → RefusesCancellation q claims generators proof (refusal.Common e)
  refuses_from_goal has e told = from_parts (refusal.Common e) (inr (has, told))

-- a refusal in the words of certificates that is handed on
pub err_told : {A : Type 0} (P : CancelRefusal → Type 0) (r : Result A CancelRefusal) (x : Refusal) → IsErrAnd r (λ e. e ≡ refusal.Common x) → P (refusal.Common x) → IfErr r P
err_told P (Ok a) x told p = absurd told
err_told P (Err e) x told p = subst P (sym told) p

-- want of memory
pub memory_told : {A : Type 0} (q : Quiver) (claims generators : List (List (ℤ × List ℕ))) (proof : Cancellation) (r : Result A CancelRefusal) → IsErrAnd r IsMemory → IfErr r (λ e. RefusesCancellation q claims generators proof e)
memory_told q claims generators proof (Ok a) told = absurd told
memory_told q claims generators proof (Err (refusal.Common (common.Memory f))) told = tt
memory_told q claims generators proof (Err (refusal.Common other)) told = absurd told
memory_told q claims generators proof (Err other) told = absurd told

-- what is told of a cancellation is told of its item
pub cancel_refused : {A : Type 0} (q : Quiver) (proof : Cancellation) (generators before : List (List (ℤ × List ℕ))) (rows : ℕ) (letter : Letter) (end : Side) (number : ℕ) (r : Result A CancelRefusal)
    → IfErr r (λ e. RefusesCancel q proof before rows letter end number e) → IfErr r (λ e. RefusesItem q proof generators before rows (item.Cancel letter end number) e)
cancel_refused q proof generators before rows letter end number (Ok a) told = tt
cancel_refused q proof generators before rows letter end number (Err e) told = told
