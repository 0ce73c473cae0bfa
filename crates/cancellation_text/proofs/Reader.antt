-- The reader of proofs that cancel letters owes what a reader of blocks owes.
use Rattle.cancellation_text.proofs.Prelude.{◌≡◌, List, Some, None, refl, sym, ap, ◌∙◌, subst, codes, Declaration, Lemma, Item, Cancellation, AreTold, number_within, Line, number_limit, integer_of, bound_of, IsWhole, IsReader, reader_by_head, are_told, AllZip-unique, same_value, same_result, same_scaled, Opened, Stage, CancelTokens, ItemTokens, lemma, cancel, CancellationTokens, known_letter, Bound, names, bounds, flaw_of, IsItemOf, IsCancelOf, IsCancellationOf, cancellation_kind, IsCancellations, IsFirstFault, proof_of, finish, cancellation_steps, told_given, told_refused}
use Rattle.cancel_rules.specs.declared.cancellation.Item.TheVariants as item
use Rattle.cancellation_text.specs.declared.place.Stage.TheVariants as at
use Rattle.cancellation_text.proofs.ItemLines.{block_meets}
use Rattle.cancellation_text.proofs.NextLines.{outcome}
use Rattle.cancellation_text.proofs.Parts.{with_goal, lines_of_parts, led_is, parts_say, IsInside, IsOpen, inside_keeps, goes_on}

-- each has a bound of its own
flaw_told : (b : Bound) → bound_of flaw_of bounds (flaw_of b) ≡ Some b
flaw_told names = refl
flaw_told b = refl

-- values
module _ (ds : List Declaration) where
  same_cancel : (c : CancelTokens) (v w : Item) → IsCancelOf ds c v → IsCancelOf ds c w → v ≡ w
  same_cancel c v w one two =
      let letter = same_value (known_letter ds c.letter) one.letter two.letter one.letter_is two.letter_is in
      let number = same_value (number_within number_limit c.item) one.number two.number one.number_is two.number_is in
      one.is ∙ rw (letter, number) refl ∙ sym two.is

  same_item : (i : ItemTokens) (v w : Item) → IsItemOf ds i v → IsItemOf ds i w → v ≡ w
  same_item (lemma l) (item.Lemma v) (item.Lemma w) one two = ap item.Lemma (same_scaled ds l.scaled v w one two)
  same_item (lemma l) (item.Lemma v) (item.Cancel a side n) one two = absurd two
  same_item (lemma l) (item.Cancel a side n) w one two = absurd one
  same_item (cancel c) v w one two = same_cancel c v w one two

  same_proof : (b : CancellationTokens) (v w : Cancellation) → IsCancellationOf ds b v → IsCancellationOf ds b w → v ≡ w
  same_proof b v w one two =
      let claim : v.claim ≡ w.claim = same_value (number_within number_limit b.claim) v.claim w.claim one.claim two.claim in
      let denominator : v.denominator ≡ w.denominator = same_result (integer_of b.denominator) v.denominator w.denominator one.denominator two.denominator in
      let monic : v.monic ≡ w.monic = sym one.monic ∙ two.monic in
      let epic : v.epic ≡ w.epic = sym one.epic ∙ two.epic in
      let items : v.items ≡ w.items = AllZip-unique (IsItemOf ds) same_item b.items v.items w.items one.items two.items in
      let goal : v.goal ≡ w.goal = same_scaled ds b.goal v.goal w.goal one.goal two.goal in
      λ j. record { claim = claim j; denominator = denominator j; monic = monic j; epic = epic j; items = items j; goal = goal j }

  goal_ends : (o : Opened) (goal : Lemma) (front : List Line) → IsInside ds o goal None front → IsWhole (cancellation_kind ds) front (proof_of o goal)
  goal_ends o goal front here = record {
    tree = with_goal here.parts here.so_far.tokens;
    are = here.are ∙ sym (lines_of_parts here.parts here.so_far.tokens);
    is_tree = led_is here.known None here.so_far.tokens tt here.so_far.scaled;
    keeps = inside_keeps ds o goal None front here;
    says = parts_say here.known here.so_far.tokens goal here.so_far.values;
  }

  ends : (s : Stage) (front : List Line) (proof : Cancellation) → IsOpen ds s front → finish s ≡ Some proof → IsWhole (cancellation_kind ds) front proof
  ends (at.Goal o goal) front proof here read = let same : proof_of o goal ≡ proof = cc in subst (IsWhole (cancellation_kind ds) front) same (goal_ends o goal front here)
  ends s front proof here read = absurd (cc)

  pub reader : IsReader (cancellation_kind ds) (cancellation_steps ds)
  reader =
      reader_by_head (cancellation_kind ds) (cancellation_steps ds) (IsOpen ds) flaw_told (refl, refl) refl refl
      (codes "cancellation") (codes "1") at.Headed (λ line. refl) refl refl (λ s t front line here more. told_given (outcome ds front line s here) t) (goes_on ds) ends
      (λ s front line flaw here more. told_refused (outcome ds front line s here) flaw) (λ K t is keeps. block_meets K ds t is keeps) same_proof

  -- each text has proofs or a first fault, in one way
  pub told : AreTold (IsCancellations ds) (IsFirstFault ds)
  told = are_told (cancellation_kind ds) (cancellation_steps ds) reader
