-- What an accepted proof shows.
use Rattle.cancel_rules.proofs.Prelude.{ℕ, ℤ, List, [], ◌∷◌, ◌++◌, sym, ap, ◌∙◌, arith, ints, All-head, All-tail, coefficient_of, Quiver, generator_at, HasScale, IsTight, sums_agree, lemma_adds_up, Item, Cancellation, IsOfItem, AreOfItems, item_polynomial, item_polynomials, ItemPasses, ItemsPass, OfLemma, all_items, AcceptedCancellationLeads, All}
use Rattle.cancel_rules.specs.declared.cancellation.Item.TheVariants as item
use Rattle.cancel_rules.proofs.Without.{put_back_stripped, words_left}

module _ (q : Quiver) (proof : Cancellation) (generators : List (List (ℤ × List ℕ))) where
  item_is : (before : List (List (ℤ × List ℕ))) (i : Item) → OfLemma HasScale i → OfLemma (IsTight proof.denominator) i → ItemPasses q proof generators before i
      → IsOfItem q proof generators before i (item_polynomial generators before i)
  item_is before (item.Lemma l) scale tight passes = ((omega (arith, ints, scale), tight), lemma_adds_up generators before l passes)
  item_is before (item.Cancel letter end number) scale tight passes =
      let whole = generator_at before number in
      record {
        declared = passes.comes_off.item.of_letter.declared;
        typed = passes.comes_off.item.typed;
        same = record { at = λ w. sym (ap (λ p. coefficient_of p w) (put_back_stripped end letter.0 whole passes.comes_off.words)) };
        words = words_left end letter.0 whole passes.comes_off.words;
      }

  items_are : (before : List (List (ℤ × List ℕ))) (items : List Item) → All (OfLemma HasScale) items → All (OfLemma (IsTight proof.denominator)) items → ItemsPass q proof generators before items
      → AreOfItems q proof generators before items (item_polynomials generators before items)
  items_are before [] scales tight pass = tt
  items_are before (i ∷ items) scales tight pass =
      let tights = OfLemma (IsTight proof.denominator) in (
        item_is before i (All-head (OfLemma HasScale) i items scales) (All-head tights i items tight) pass.0,
        items_are (before ++ item_polynomial generators before i ∷ []) items (All-tail (OfLemma HasScale) i items scales) (All-tail tights i items tight) pass.1,
      )

pub accepted_cancellation_leads : AcceptedCancellationLeads
accepted_cancellation_leads q claims generators proof in_quiver accepted =
    let begins = accepted.items.begins in
    let positive = begins.shares.posed.positive in
    let least = positive.denominator in
    let goal_least = positive.goal in
    record {
      in_quiver = in_quiver;
      positive = omega (arith, ints, least);
      items = items_are q proof generators [] proof.items positive.items begins.shares.tight.items accepted.items.items;
      share = (omega (arith, ints, goal_least), begins.shares.tight.goal);
      goal = record { at = λ w. ap (λ p. coefficient_of p w) (sums_agree generators (all_items generators proof) proof.goal.rows) ∙ accepted.goal.sum.at w };
    }
