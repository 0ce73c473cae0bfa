-- One item after another.
use Rattle.cancel_rules.proofs.Prelude.{◌≡◌, inl, inr, ℕ, ◌+◌, ◌<◌, ◌≤◌, ℤ, List, [], ◌∷◌, ◌++◌, length, drop, get_or, Result, Ok, Err, IfErr, IsErrAnd, sym, ap, subst, ◌∙◌, append_assoc, arith, AllocError, Quiver, drop_next, term_total, Item, Cancellation, CancelRefusal, item_polynomial, item_polynomials, row_total, rows_in, ItemPasses, ItemsPass, RefusesItem, RefusesItems, IsMemory, IsMadeItem}
use Rattle.cancel_rules.specs.declared.cancellation.Item.TheVariants as item
use Rattle.cancel_rules.specs.declared.refusal.CancelRefusal.TheVariants as refusal
use Rattle.cofactor_checker.specs.declared.refusal.Refusal.TheVariants as common

-- The items before this one are made: these are their polynomials, and they have so many rows.
pub record ItemsUpTo (q : Quiver) (proof : Cancellation) (gs ps : List (List (ℤ × List ℕ))) (items : List Item) (rows i : ℕ) : Type 0 where
  pub counted : rows + row_total (drop i items) ≡ row_total items
  pub made : ps ++ item_polynomials gs ps (drop i items) ≡ item_polynomials gs [] items
  pub pass : ItemsPass q proof gs ps (drop i items) → ItemsPass q proof gs [] items
  pub refuse : (e : CancelRefusal) → RefusesItems q proof gs ps rows (drop i items) e → RefusesItems q proof gs [] 0 items e

module _ (q : Quiver) (proof : Cancellation) (gs ps : List (List (ℤ × List ℕ))) (items : List Item) (rows i : ℕ) (so_far : ItemsUpTo q proof gs ps items rows i) where
  module _ (x : Item) (inside : i < length items) (is : x ≡ get_or items i x) where
    abbrev p : List (ℤ × List ℕ)
    p = item_polynomial gs ps x

    next : drop i items ≡ x ∷ drop (i + 1) items
    next = drop_next items i x inside is

    pub counted_next : (rows + rows_in x) + row_total (drop (i + 1) items) ≡ row_total items
    counted_next = let one = ap row_total next in let whole = so_far.counted in omega arith

    pub refuse_here : (e : CancelRefusal) → RefusesItem q proof gs ps rows x e → RefusesItems q proof gs [] 0 items e
    refuse_here e refused = so_far.refuse e (subst (λ rest. RefusesItems q proof gs ps rows rest e) (sym next) (inl refused))

    pub goes_on : ItemPasses q proof gs ps x → ItemsUpTo q proof gs (ps ++ p ∷ []) items (rows + rows_in x) (i + 1)
    goes_on passes = record {
      counted = counted_next;
      made = append_assoc ps (p ∷ []) (item_polynomials gs (ps ++ p ∷ []) (drop (i + 1) items)) ∙ sym (ap (λ rest. ps ++ item_polynomials gs ps rest) next) ∙ so_far.made;
      pass = λ later. so_far.pass (subst (ItemsPass q proof gs ps) (sym next) (passes, later));
      refuse = λ e later. so_far.refuse e (subst (λ rest. RefusesItems q proof gs ps rows rest e) (sym next) (inr (passes, later)));
    }

    of_memory : (y : Item) (f : AllocError) → RefusesItem q proof gs ps rows y (refusal.Common (common.Memory f))
    of_memory (item.Lemma l) f = tt
    of_memory (item.Cancel letter end number) f = tt

    -- want of memory at this item
    pub memory_here : {A : Type 0} (r : Result A CancelRefusal) → IsErrAnd r IsMemory → IfErr r (λ e. RefusesItems q proof gs [] 0 items e)
    memory_here (Ok a) told = absurd told
    memory_here (Err (refusal.Common (common.Memory f))) told = refuse_here (refusal.Common (common.Memory f)) (of_memory x f)
    memory_here (Err (refusal.Common other)) told = absurd told
    memory_here (Err other) told = absurd told

-- the last test of an item: the terms of all polynomials so far
pub passes_with : (q : Quiver) (proof : Cancellation) (gs ps : List (List (ℤ × List ℕ))) (x : Item) → IsMadeItem q proof gs ps x → term_total ps + length (item_polynomial gs ps x) ≤ 1000000 → ItemPasses q proof gs ps x
passes_with q proof gs ps (item.Lemma l) made few = record { made = made; kept = few }
passes_with q proof gs ps (item.Cancel letter end number) made few = record { comes_off = made; kept = few }

pub keeps_too_much : (q : Quiver) (proof : Cancellation) (gs ps : List (List (ℤ × List ℕ))) (rows : ℕ) (x : Item) → IsMadeItem q proof gs ps x → 1000000 < term_total ps + length (item_polynomial gs ps x)
    → (row : ℕ) → row ≡ rows + rows_in x → RefusesItem q proof gs ps rows x (refusal.Common (common.Kept row))
keeps_too_much q proof gs ps rows (item.Lemma l) made many row last = record { last_row = last; made = made; kept = many }
keeps_too_much q proof gs ps rows (item.Cancel letter end number) made many row last = record { last_row = omega (arith, last); comes_off = made; kept = many }
