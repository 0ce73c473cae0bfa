-- A line at its place in a block: the place after it, or that it does not fit the grammar or is the first that passes a bound.
use Rattle.cancellation_text.proofs.Prelude.{◌≡◌, ◌<◌, ◌⊎◌, ◌+◌, ℕ, ℤ, false, List, [], ◌∷◌, ◌++◌, Option, Some, None, Result, Ok, IsTrue, inl, inr, arith, refl, sym, ap, ap₂, ◌∙◌, subst, length, nat_le, leb-false, codes, All, All-nil, All-cons, All-push, All-replicate, All-weaker, Declaration, Lemma, Flaw, BadLine, UnknownName, NumberTooLarge, TooMany, ◌>>=◌, asked, is_number, number_within, Line, said, begins, claim_line, number_behind, number_limit, integer_limit, integer_of, IsStopped, misfit, passes, stopped_by, IsNumberLine, number_said, number_unsaid, zip_length, Size, RowTokens, row_limit, lemma_scale_of, goal_scale_of, is_row, is_value, ScaledTokens, row_line, denominator_line, goal_lines, IsWithin, lemma_of, lemma_row, RowPasses, row_passes, goal_unread, IsLemmaPast, lemma_unread, behind, integer_in, goal_read, lemma_read, lead_push, scaled_push, scaled_more, row_more, led_more, led_first, Lead, lead_lines, unit_goal, unit_scaled, before, RowsWithin, HaveSize, no_rows_size, integer_is_within, Opened, Stage, CalledTokens, CancelTokens, ItemTokens, cancel, CancellationTokens, head_line, called_line, item_lines, cancellation_lines, is_map_letter, known_letter, IsItem, IsCancellationBlock, Bound, names, numbers, words, rows, flaw_of, item_rows, KeepsOne, IsKnown, HasItemName, HasItemNumber, IsItemOf, IsCancelOf, cancellation_kind, called_tokens, cancel_tokens, is_called, letters_on, with_letters, called, begun, with_item, resized, lemma_begun, goal_begun, cancelled, item_or_goal, calling, next, Told, gives, refuses, then_told, result_told, asked_told, test_told}
use Rattle.std.proofs.Common.{append-nil, append_assoc}
use Rattle.cancel_rules.specs.declared.cancellation.Item.TheVariants as item
use Rattle.cancellation_text.specs.declared.place.Stage.TheVariants as at
use Rattle.cancellation_text.proofs.Letters.{AreApart, none_once, called_more, called_unknown, once_more}
use Rattle.cancellation_text.proofs.Lines.{called_is, cancel_is}
use Rattle.cancellation_text.proofs.Parts as parts
use Rattle.cancellation_text.proofs.Parts.{Parts, parts_front, with_goal, more_item, lines_of_parts, front-item, front-called, rows_of, rows-item, begun_parts, lemma_item, led, led_behind, led_lines, IsNext, HasRoom, item_is, item_keeps, parts-more, led_is, led_keeps, IsClaimed, IsOpenedBy, IsCalling, IsInside, IsOpen}

module _ (ds : List Declaration) (front : List Line) (line : Line) where
  abbrev Stopped : Flaw → Type 0
  Stopped f = IsStopped (cancellation_kind ds) f (front ++ line ∷ [])

  -- the place after the line, or its flaw
  abbrev pub Outcome : Result Stage Flaw → Type 0
  Outcome = Told (λ t. IsOpen ds t (front ++ line ∷ [])) Stopped

  -- a block begins with these lines that keeps the bounds before one
  stopped : {others : List Line} {last : Line} (bound : Bound) (b : CancellationTokens) (more : List Line) → front ≡ others → line ≡ last → cancellation_lines b ≡ (others ++ last ∷ []) ++ more
      → IsCancellationBlock ds b → All (λ k. KeepsOne ds k b) (before bound) → Stopped (flaw_of bound)
  stopped {others} {last} bound b more fronts line_is are is keeps =
      passes bound refl (record { tree = b; more = more; are = are ∙ ap (λ ls. ls ++ more) (sym (behind front others line last fronts line_is)); is_tree = is; keeps = keeps })

  -- the head
  number_told : {A : Type 0} (word : List ℕ) (value : List ℕ → Option A) (f : A → Result Stage Flaw) → (IsNumberLine word line → Stopped NumberTooLarge)
      → ((there : IsNumberLine word line) (x : A) → value there.digits ≡ Some x → Outcome (f x)) → Outcome (said (number_behind word) value NumberTooLarge line >>= f)
  number_told word value f large more =
      then_told f
      (result_told (said (number_behind word) value NumberTooLarge line) (λ e read. stopped_by (cancellation_kind ds) e _ (number_unsaid word value line e read) (λ found. subst Stopped (sym found.0) (large found.1))))
      (λ x read. let known = number_said word value line x read in more known.0 x known.1)

  -- without letters, items and rows
  bare_stops : {others : List Line} {last : Line} (claim denominator : List ℕ) (more : List Line) → front ≡ others → line ≡ last
      → parts_front (parts.calling claim denominator []) ≡ (others ++ last ∷ []) ++ more → IsTrue (is_number claim) → IsTrue (is_number denominator) → Stopped NumberTooLarge
  bare_stops {others} {last} claim denominator more fronts line_is are n d =
      stopped numbers (with_goal (parts.calling claim denominator []) unit_goal) (more ++ goal_lines unit_goal) fronts line_is
      (ap (λ ls. ls ++ goal_lines unit_goal) are ∙ append_assoc (others ++ last ∷ []) more (goal_lines unit_goal))
      (record { claim = n; denominator = d; called = All-nil _; once = none_once ds; items = tt; goal = unit_scaled })
      (All-replicate (λ k. KeepsOne ds k (with_goal (parts.calling claim denominator []) unit_goal)) 1 names (record { called = All-nil _; items = All-nil _ }, All-nil _))

  headed : front ≡ head_line ∷ [] → Outcome (next ds at.Headed line)
  headed are =
      number_told (codes "claim") (number_within number_limit) _ (λ there. bare_stops there.digits (codes "1") (denominator_line (codes "1") ∷ []) are there.is refl there.number refl)
      (λ there n n_is. gives (at.Claimed n) refl (record {
        claim = there.digits;
        head = record { claim_is = there.number; denominator_is = refl; claim_value = n_is; denominator_value = refl };
        are = behind front (head_line ∷ []) line (claim_line there.digits) are there.is;
      }))

  claimed : (n : ℕ) → IsClaimed n front → Outcome (next ds (at.Claimed n) line)
  claimed n here =
      number_told (codes "denominator") integer_in _ (λ there. bare_stops here.claim there.digits [] here.are there.is refl here.head.claim_is there.number)
      (λ there d d_is. gives (at.Called (begun n d)) refl (record {
        claim = here.claim;
        denominator = there.digits;
        called = [];
        opened = record {
          known = begun_parts ds here.claim there.digits n d (record { claim_is = here.head.claim_is; denominator_is = there.number; claim_value = here.head.claim_value; denominator_value = ap (asked NumberTooLarge) d_is });
          have = no_rows_size ds;
          are = behind front (head_line ∷ claim_line here.claim ∷ []) line (denominator_line there.digits) here.are there.is;
        };
      }))

  -- letters that are called monic or epic
  letter_told : (o : Opened) (here : IsCalling ds o front) (c : CalledTokens) → called_tokens line ≡ Some c → Outcome (called ds o c)
  letter_told o here c there =
      then_told _ (asked_told UnknownName (known_letter ds c.letter) unknown) (λ a known.
      then_told {P = λ ls. (is_called a (letters_on o c.side) ≡ false) × (ls ≡ letters_on o c.side ++ a ∷ [])} _
      (test_told (is_called a (letters_on o c.side)) _ _ (λ twice. refuses BadLine refl (misfit refl)) (λ none. gives _ refl (none, refl)))
      (λ ls found. gives (at.Called (with_letters o c.side ls)) refl (record {
        claim = here.claim;
        denominator = here.denominator;
        called = here.called ++ c ∷ [];
        opened = record {
          known = record {
            head = before_it.head;
            called = rw found.1 (record {
              maps = maps;
              known = All-push (λ (d : CalledTokens). IsKnown ds d.letter) here.called c before_it.called.known (a, known);
              say = called_more ds here.called o.monic o.epic before_it.called.say c.letter c.side a known;
              once = once_more o.monic o.epic c.side a found.0 before_it.called.once;
            });
            items = before_it.items;
          };
          have = here.opened.have;
          are = lines_are;
        };
      })))
    where
      before_it : parts.AreParts ds (parts.calling here.claim here.denominator here.called) o
      before_it = here.opened.known

      maps : All (λ d. IsTrue (is_map_letter d.letter)) (here.called ++ c ∷ [])
      maps = All-push (λ (d : CalledTokens). IsTrue (is_map_letter d.letter)) here.called c before_it.called.maps (called_is line c there).letter

      lines_are : front ++ line ∷ [] ≡ parts_front (parts.calling here.claim here.denominator (here.called ++ c ∷ []))
      lines_are =
          behind front (parts_front (parts.calling here.claim here.denominator here.called)) line (called_line c) here.opened.are (called_is line c there).line_is
          ∙ sym (front-called here.claim here.denominator here.called c)

      unknown : known_letter ds c.letter ≡ None → Stopped UnknownName
      unknown none =
          stopped names (with_goal (parts.calling here.claim here.denominator (here.called ++ c ∷ [])) unit_goal) (goal_lines unit_goal) refl refl
          (lines_of_parts (parts.calling here.claim here.denominator (here.called ++ c ∷ [])) unit_goal ∙ ap (λ ls. ls ++ goal_lines unit_goal) (sym lines_are))
          (record {
            claim = before_it.head.claim_is;
            denominator = before_it.head.denominator_is;
            called = maps;
            once = λ side. subst AreApart (sym (called_unknown ds here.called o.monic o.epic before_it.called.say c.letter c.side none side)) (before_it.called.once side);
            items = tt;
            goal = unit_scaled;
          })
          (All-nil (λ k. KeepsOne ds k (with_goal (parts.calling here.claim here.denominator (here.called ++ c ∷ [])) unit_goal)))

  -- items and the goal
  module _ (p : Parts) (o : Opened) (opened : IsOpenedBy ds p o front) where
    -- as many items as their tokens
    count : length p.items ≡ length o.items
    count = zip_length (IsItemOf ds) p.items o.items opened.known.items.say

    rows_with_none : (bound : Bound) → RowsWithin ds (rows_of p.items ++ []) bound
    rows_with_none bound = subst (λ rs. RowsWithin ds rs bound) (sym (append-nil (rows_of p.items))) (opened.have.keep bound)

    abbrev without_rows : List ℕ → ScaledTokens
    without_rows digits = record { scale = digits; rows = [] }

    -- the first line of a lemma or of the goal
    lead_goes : (lead : Lead) (digits : List ℕ) (scale : ℤ) → IsNext lead p → HasRoom lead p → IsTrue (is_number digits) → integer_of digits ≡ Ok scale
        → line ∷ [] ≡ lead_lines lead (without_rows digits) → IsInside ds o (lemma_of scale []) lead (front ++ line ∷ [])
    lead_goes lead digits scale next room number value line_is = record {
      parts = p;
      known = opened.known;
      next = next;
      room = room;
      so_far = led_first ds o.size digits scale (rows_of p.items) number value opened.have;
      are = ap₂ (λ (ls ms : List Line). ls ++ ms) opened.are line_is;
    }

    goal_told : Outcome (goal_begun o line)
    goal_told =
        then_told _ (result_told (goal_scale_of line) (λ f read. stopped_by (cancellation_kind ds) f _ (goal_unread line f read) (λ found. subst Stopped (sym found.large)
        (stopped numbers (with_goal p (without_rows found.digits)) [] opened.are found.line_is (led_lines p None (without_rows found.digits))
        (led_is opened.known None (without_rows found.digits) tt (record { scale = found.number; rows = All-nil _ }))
        (All-replicate (λ k. KeepsOne ds k (with_goal p (without_rows found.digits))) 1 names (led_keeps opened.known None (without_rows found.digits) names (λ s. absurd (cc)) (λ s. tt) (rows_with_none names)))))))
        (λ scale read. let known = goal_read line scale read in gives (at.Goal o (lemma_of scale [])) refl (lead_goes None known.0 scale tt tt known.2 known.3 (ap (λ l. l ∷ []) known.1)))

    -- an item of one line
    module _ (i : ItemTokens) (last : Line) (line_of : line ≡ last) (lines : item_lines i ≡ last ∷ []) (none : item_rows i ≡ []) (is : IsItem (length o.items + 1) i) where
      is_next : IsItem (length p.items + 1) i
      is_next = subst (λ n. IsItem (n + 1) i) (sym count) is

      abbrev Kept : Bound → Type 0
      Kept bound = KeepsOne ds bound (with_goal (more_item p i) unit_goal)

      front_with : front ++ line ∷ [] ≡ parts_front (more_item p i)
      front_with = behind front (parts_front p) line last opened.are line_of ∙ ap (λ ls. parts_front p ++ ls) (sym lines) ∙ sym (front-item p i)

      item_stops : (bound : Bound) → All Kept (before bound) → Stopped (flaw_of bound)
      item_stops bound keeps =
          stopped bound (with_goal (more_item p i) unit_goal) (goal_lines unit_goal) refl refl (lines_of_parts (more_item p i) unit_goal ∙ ap (λ ls. ls ++ goal_lines unit_goal) (sym front_with)) (item_is opened.known i is_next) keeps

      kept : (bound : Bound) → (bound ≡ names → HasItemName ds i) → (bound ≡ numbers → HasItemNumber i) → (bound ≡ rows → length p.items < row_limit) → Kept bound
      kept bound named numbered room = item_keeps opened.known i bound named numbered room (subst (λ rs. RowsWithin ds (rows_of p.items ++ rs) bound) (sym none) (rows_with_none bound))

      unnumbered : HasItemName ds i → Stopped NumberTooLarge
      unnumbered name = item_stops numbers (All-replicate Kept 1 names (kept names (λ s. name) (λ s. absurd (cc)) (λ s. absurd (cc))))

      crowded : HasItemName ds i → HasItemNumber i → Stopped (TooMany row_limit)
      crowded name number = item_stops rows (All-cons Kept names (numbers ∷ words ∷ []) (each names (λ s. cc)) (All-cons Kept numbers (words ∷ []) (each numbers (λ s. cc)) (All-replicate Kept 1 words (each words (λ s. cc)))))
        where
          each : (bound : Bound) → (bound ≡ rows → ⊥) → Kept bound
          each bound other = kept bound (λ s. name) (λ s. number) (λ s. absurd (other s))

    lemma_past : (f : Flaw) → IsLemmaPast (length o.items) line f → Stopped f
    lemma_past f found = by_past found.past
      where
        i : ItemTokens
        i = lemma_item found.number (without_rows found.digits)

        is : IsItem (length o.items + 1) i
        is = (found.next, record { scale = found.scale; rows = All-nil _ })

        by_past : (f ≡ NumberTooLarge) ⊎ ((f ≡ TooMany row_limit) × IsWithin integer_limit found.digits) → Stopped f
        by_past (inl large) = subst Stopped (sym large) (unnumbered i _ found.line_is refl refl is tt)
        by_past (inr many) = subst Stopped (sym many.0) (crowded i _ found.line_is refl refl is tt many.1)

    lemma_told : Outcome (lemma_begun o line)
    lemma_told =
        then_told _ (result_told (lemma_scale_of (length o.items) line) (λ f read. stopped_by (cancellation_kind ds) f _ (lemma_unread (length o.items) line f read) (lemma_past f))) (λ scale read.
        let known = lemma_read (length o.items) line scale read in
        gives (at.Lemma o (lemma_of scale [])) refl (
          known.number,
          lead_goes (Some known.number) known.digits scale (subst (λ n. IsTrue (is_value (n + 1) known.number)) (sym count) known.next) (omega (arith, count, known.few)) known.scale_number known.scale_value (ap (λ l. l ∷ []) known.line_is),
        ))

    item_told : (found : Option CancelTokens) → cancel_tokens (length o.items + 1) line ≡ found → Outcome (cancelled ds o line found)
    item_told None there = lemma_told
    item_told (Some c) there =
        let line_of = cancel_is (length o.items + 1) line c there in
        then_told {P = λ i. IsCancelOf ds c i × (length o.items < row_limit)} _
        (then_told _ (asked_told UnknownName (known_letter ds c.letter) (λ none. item_stops (cancel c) _ line_of.line_is refl refl line_of.is_item names (All-nil _))) (λ a known.
        then_told _ (asked_told NumberTooLarge (number_within number_limit c.item) (λ none. unnumbered (cancel c) _ line_of.line_is refl refl line_of.is_item (a, known))) (λ n value.
        test_told (nat_le row_limit (length o.items)) _ _ (λ full. refuses (TooMany row_limit) refl (crowded (cancel c) _ line_of.line_is refl refl line_of.is_item (a, known) (n, value)))
        (λ room. gives (item.Cancel a c.side n) refl (record { letter = a; number = n; letter_is = known; number_is = value; is = refl }, leb-false row_limit (length o.items) room)))))
        (λ i found. gives (at.Cancelled (with_item o i)) refl (
          more_item p (cancel c),
          record {
            known = parts-more opened.known (cancel c) i (is_next (cancel c) _ line_of.line_is refl refl line_of.is_item) (omega (arith, count, found.1)) found.0;
            have = subst (HaveSize ds o.size) (sym (append-nil (rows_of p.items)) ∙ sym (rows-item p.items (cancel c))) opened.have;
            are = front_with (cancel c) _ line_of.line_is refl refl line_of.is_item;
          },
        ))

    items_told : Outcome (item_or_goal ds o line)
    items_told = test_told (begins (codes "goal") line) _ _ (λ is. goal_told) (λ more. item_told (cancel_tokens (length o.items + 1) line) refl)

  calling_told : (o : Opened) → IsCalling ds o front → (found : Option CalledTokens) → called_tokens line ≡ found → Outcome (calling ds o line found)
  calling_told o here (Some c) there = letter_told o here c there
  calling_told o here None there = items_told (parts.calling here.claim here.denominator here.called) o here.opened

  -- rows
  module _ (o : Opened) (l : Lemma) (lead : Lead) (inside : IsInside ds o l lead front) where
    abbrev rows_before : List RowTokens
    rows_before = rows_of inside.parts.items

    abbrev tokens : ScaledTokens
    tokens = inside.so_far.tokens

    row_stops : (f : Flaw) → RowPasses ds (rows_before ++ tokens.rows) line f → Stopped f
    row_stops f found =
        let more : ScaledTokens = scaled_push tokens found.row in
        subst Stopped (sym found.pass.flaw_is)
        (stopped found.pass.bound (led inside.parts lead more) (led_behind lead) inside.are found.line_is
        (led_lines inside.parts lead more ∙ ap (λ ls. ls ++ led_behind lead) (sym (lead_push (parts_front inside.parts) lead tokens found.row)))
        (led_is inside.known lead more inside.next (scaled_more tokens found.row inside.so_far.scaled found.is_row))
        (All-weaker (RowsWithin ds ((rows_before ++ tokens.rows) ++ found.row ∷ [])) (λ k. KeepsOne ds k (led inside.parts lead more))
        (λ k all. led_keeps inside.known lead more k (λ _. integer_is_within tokens.scale l.scale inside.so_far.values.scale) (λ _. inside.room) (subst (λ rs. RowsWithin ds rs k) (append_assoc rows_before tokens.rows (found.row ∷ [])) all))
        (before found.pass.bound) found.pass.keep))

    row_goes : (more : Size × Lemma) → lemma_row ds o.size l line ≡ Ok more → IsInside ds (resized o more.0) more.1 lead (front ++ line ∷ [])
    row_goes more read =
        let found = row_more ds o.size l tokens rows_before line more inside.so_far.scaled inside.so_far.values inside.so_far.have read in
        record {
          parts = inside.parts;
          known = record { head = inside.known.head; called = inside.known.called; items = inside.known.items };
          next = inside.next;
          room = inside.room;
          so_far = led_more ds tokens rows_before line more found;
          are = behind front (parts_front inside.parts ++ lead_lines lead tokens) line (row_line found.row) inside.are found.line_is ∙ lead_push (parts_front inside.parts) lead tokens found.row;
        }

    row_told : (place : Size × Lemma → Stage) → ((more : Size × Lemma) → IsInside ds (resized o more.0) more.1 lead (front ++ line ∷ []) → IsOpen ds (place more) (front ++ line ∷ []))
        → Outcome (lemma_row ds o.size l line >>= λ more. Ok (place more))
    row_told place put =
        then_told _ (result_told (lemma_row ds o.size l line) (λ f read. stopped_by (cancellation_kind ds) f _ (row_passes ds o.size l (rows_before ++ tokens.rows) line f inside.so_far.have read) (row_stops f)))
        (λ more read. gives (place more) refl (put more (row_goes more read)))

  -- after the last row of a lemma
  lemma_whole : (o : Opened) (l : Lemma) (number : List ℕ) (inside : IsInside ds o l (Some number) front) → IsOpenedBy ds (more_item inside.parts (lemma_item number inside.so_far.tokens)) (with_item o (item.Lemma l)) front
  lemma_whole o l number inside =
      let i : ItemTokens = lemma_item number inside.so_far.tokens in
      record {
        known = parts-more inside.known i (item.Lemma l) (inside.next, inside.so_far.scaled) inside.room inside.so_far.values;
        have = subst (HaveSize ds o.size) (sym (rows-item inside.parts.items i)) inside.so_far.have;
        are = inside.are ∙ sym (front-item inside.parts i);
      }

  pub outcome : (s : Stage) → IsOpen ds s front → Outcome (next ds s line)
  outcome at.Headed here = headed here
  outcome (at.Claimed n) here = claimed n here
  outcome (at.Called o) here = calling_told o here (called_tokens line) refl
  outcome (at.Lemma o l) here =
      test_told (begins (codes "row") line) _ _ (λ is. row_told o l (Some here.0) here.1 (λ more. at.Lemma (resized o more.0) more.1) (λ more inside. (here.0, inside)))
      (λ other. items_told (more_item here.1.parts (lemma_item here.0 here.1.so_far.tokens)) (with_item o (item.Lemma l)) (lemma_whole o l here.0 here.1))
  outcome (at.Cancelled o) here = items_told here.0 o here.1
  outcome (at.Goal o goal) here = row_told o goal None here (λ more. at.Goal (resized o more.0) more.1) (λ more inside. inside)
