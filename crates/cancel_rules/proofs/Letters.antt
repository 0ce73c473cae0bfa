-- The polynomials of items have letters of the quiver alone, and so do the words that refusals name.
use Rattle.cancel_rules.proofs.Prelude.{◌≡◌, inl, inr, ℕ, zero, suc, ◌+◌, ℤ, true, List, [], ◌∷◌, ◌++◌, All, AllByRecursion, All-nil, All-cons, All-head, All-tail, All-push, All-map, Term, generator_at, IsOver, Poly, letter_count, Lemma, Problem, polynomials, lemma_polynomial, plain_sum, is_over, Lists, Stays, IsLemmaOver, listed_stays, plain_stays, lemma_lists, rest_is_over, difference_is_over, drawn, word_over, over_word, generators_stay, claim_stays, Side, Item, Cancellation, word_without, stripped, item_polynomial, item_polynomials, rows_in, RefusesItems, claim_named, all_items, IsReadableLemma, IsReadableItem, IsReadableCancellation, RefusesParts, IsRefused, IsPolyOver}
use Rattle.cofactor_checker.specs.declared.refusal.Refusal.TheVariants as common
use Rattle.cancel_rules.specs.declared.cancellation.Item.TheVariants as item
use Rattle.cancel_rules.specs.declared.refusal.CancelRefusal.TheVariants as refusal
use Rattle.cancel_rules.proofs.Without as without

module _ (problem : Problem) where
  abbrev gs : List (List (ℤ × List ℕ))
  gs = polynomials problem.generators

  -- the letters of readable items
  lemma_over : (l : Lemma) → IsReadableLemma problem.parts.quiver l → IsLemmaOver (drawn problem) l
  lemma_over l readable = λ k r below. let over = readable.letters k r below in (word_over problem _ over.left, word_over problem _ over.right)

  -- polynomials whose terms have letters of the quiver
  abbrev Listed : List Term → Type 0
  Listed = Lists (drawn problem)

  stay : (ps : List (List Term)) → All Listed ps → AllByRecursion (Stays (drawn problem)) ps
  stay [] all = tt
  stay (p ∷ ps) all = (listed_stays (drawn problem) p (All-head Listed p ps all), stay ps (All-tail Listed p ps all))

  polys_list : (ps : List Poly) → All (IsPolyOver problem.parts.quiver) ps → All Listed (polynomials ps)
  polys_list ps all = All-map Listed (λ p. p.terms) ps (λ k p below i t inside. word_over problem _ (all k p below i t inside))

  -- the polynomial of a lemma
  pub lemma_polynomial_over : (before : List Poly) (l : Lemma) → All (IsPolyOver problem.parts.quiver) before → IsReadableLemma problem.parts.quiver l
      → All (λ t. IsOver (letter_count problem.parts.quiver) t.1) (lemma_polynomial (polynomials problem.generators) (polynomials before) l)
  lemma_polynomial_over before l earlier readable = λ k t below.
      over_word problem _
      (lemma_lists (drawn problem) gs (generators_stay problem) (polynomials before) l (stay (polynomials before) (polys_list before earlier)) (lemma_over l readable) k t below)

  -- one item after another
  at_number : (ps : List (List Term)) (n : ℕ) → All Listed ps → Listed (generator_at ps n)
  at_number ps zero all = All-nil _
  at_number [] (suc n) all = All-nil _
  at_number (p ∷ ps) (suc zero) all = All-head Listed p ps all
  at_number (p ∷ ps) (suc (suc n)) all = at_number ps (suc n) (All-tail Listed p ps all)

  stripped_lists : (end : Side) (p : List Term) → Listed p → Listed (stripped end p)
  stripped_lists end p all =
      All-map (λ (t : Term). is_over (drawn problem) t.1 ≡ true) (λ t. (t.0, word_without end t.1)) p
      (λ k t below. word_over problem _ (without.word_over (letter_count problem.parts.quiver) end _ (over_word problem _ (all k t below))))

  item_lists : (before : List (List Term)) (i : Item) → All Listed before → IsReadableItem problem.parts.quiver i → Listed (item_polynomial gs before i)
  item_lists before (item.Lemma l) earlier readable = lemma_lists (drawn problem) gs (generators_stay problem) before l (stay before earlier) (lemma_over l readable)
  item_lists before (item.Cancel letter end number) earlier readable = stripped_lists end (generator_at before number) (at_number before number earlier)

  with_item : (before : List (List Term)) (i : Item) → All Listed before → IsReadableItem problem.parts.quiver i → All Listed (before ++ item_polynomial gs before i ∷ [])
  with_item before i earlier readable = All-push Listed before (item_polynomial gs before i) earlier (item_lists before i earlier readable)

  abbrev Readable : Item → Type 0
  Readable = IsReadableItem problem.parts.quiver

  items_list : (before : List (List Term)) (items : List Item) → All Listed before → All Readable items → All Listed (item_polynomials gs before items)
  items_list before [] earlier all = All-nil Listed
  items_list before (i ∷ items) earlier all =
      let here = All-head Readable i items all in
      All-cons Listed _ _ (item_lists before i earlier here) (items_list (before ++ item_polynomial gs before i ∷ []) items (with_item before i earlier here) (All-tail Readable i items all))

  item_rest : (proof : Cancellation) (before : List (List Term)) (rows : ℕ) (items : List Item) (lemma : ℕ) (word : List ℕ) (got : ℤ) → All Listed before → All Readable items
      → RefusesItems (drawn problem) proof gs before rows items (refusal.Common (common.NotDivisible lemma word got)) → is_over (drawn problem) word ≡ true
  item_rest proof before rows [] lemma word got earlier all none = absurd none
  item_rest proof before rows (item.Lemma l ∷ items) lemma word got earlier all (inl leaves) = rest_is_over (drawn problem) gs (generators_stay problem) before l lemma word got (stay before earlier) (lemma_over l (All-head Readable (item.Lemma l) items all)) leaves
  item_rest proof before rows (item.Cancel letter end number ∷ items) lemma word got earlier all (inl none) = absurd none
  item_rest proof before rows (i ∷ items) lemma word got earlier all (inr later) =
      item_rest proof (before ++ item_polynomial gs before i ∷ []) (rows + rows_in i) items lemma word got (with_item before i earlier (All-head Readable i items all)) (All-tail Readable i items all) later.1

  -- the words that refusals name
  module _ (proof : Cancellation) (readable : IsReadableCancellation problem.parts.quiver proof) where
    rest_in_parts : (lemma : ℕ) (word : List ℕ) (got : ℤ) → RefusesParts (drawn problem) (polynomials problem.parts.claims) gs proof (refusal.Common (common.NotDivisible lemma word got)) → IsOver (letter_count problem.parts.quiver) word
    rest_in_parts lemma word got (inl of_item) = over_word problem word (item_rest proof [] 0 proof.items lemma word got (All-nil Listed) readable.items of_item.1)
    rest_in_parts lemma word got (inr of_goal) = absurd of_goal.1

    -- a word that the scale of a lemma doesn't divide
    pub indivisible_over : (lemma : ℕ) (word : List ℕ) (got : ℤ) → IsRefused problem proof (refusal.Common (common.NotDivisible lemma word got)) → IsOver (letter_count problem.parts.quiver) word
    indivisible_over lemma word got (inl none) = absurd none
    indivisible_over lemma word got (inr told) = rest_in_parts lemma word got told

    never_differs : (before : List (List Term)) (rows : ℕ) (items : List Item) (word : List ℕ) (want got : ℤ) → RefusesItems (drawn problem) proof gs before rows items (refusal.Common (common.Differs word want got)) → ⊥
    never_differs before rows [] word want got none = none
    never_differs before rows (item.Lemma l ∷ items) word want got (inl none) = none
    never_differs before rows (item.Cancel letter end number ∷ items) word want got (inl none) = none
    never_differs before rows (i ∷ items) word want got (inr later) = never_differs (before ++ item_polynomial gs before i ∷ []) (rows + rows_in i) items word want got later.1

    difference_in_parts : (word : List ℕ) (want got : ℤ) → RefusesParts (drawn problem) (polynomials problem.parts.claims) gs proof (refusal.Common (common.Differs word want got)) → IsOver (letter_count problem.parts.quiver) word
    difference_in_parts word want got (inl of_item) = absurd (never_differs [] 0 proof.items word want got of_item.1)
    difference_in_parts word want got (inr of_goal) =
        let items = stay (all_items gs proof) (items_list [] proof.items (All-nil Listed) readable.items) in
        let differs = of_goal.1.difference in
        over_word problem word
        (difference_is_over (drawn problem) proof.goal.scale (claim_named (polynomials problem.parts.claims) proof) (plain_sum gs (all_items gs proof) proof.goal.rows) word want got (claim_stays problem proof.claim)
        (plain_stays (drawn problem) gs (generators_stay problem) (all_items gs proof) proof.goal items (lemma_over proof.goal readable.goal)) differs.wanted_there differs.found_there differs.differ)

    -- a word at which the sum of the goal's rows isn't its scale times the claim
    pub difference_over : (word : List ℕ) (want got : ℤ) → IsRefused problem proof (refusal.Common (common.Differs word want got)) → IsOver (letter_count problem.parts.quiver) word
    difference_over word want got (inl none) = absurd none
    difference_over word want got (inr told) = difference_in_parts word want got told
