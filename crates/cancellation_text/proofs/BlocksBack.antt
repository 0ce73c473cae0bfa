-- A proof that cancels letters that is written is a block of evidence text, and is read back.
use Rattle.cancellation_text.proofs.Prelude.{◌≡◌, ◌<◌, ◌+◌, ◌^◌, ℕ, suc, List, [], ◌∷◌, ◌++◌, None, Option, arith, refl, ap₂, ◌∙◌, subst, length, map, codes, IsTrue, decimal, signed_decimal, All, AllZip, cons_option, list_all, flat_map, sum_by, append_assoc, append-nil, length-map, map-append, All-nil, All-head, All-tail, All-weaker, All-append, All-map, filter_map-append, sum_by-cons, sum_by_push, Letter, Declaration, IsDeclared, LemmaRow, Lemma, row_count, letters_of_lemmas, Side, Left, Right, Item, Cancellation, is_named, number_limit, Line, claim_line, end_line, AreReadBack, HasBlocks, letter_text, IsTextOf, no_text, text-append, text_of_tokens, decimal_number, decimal_within, IsWritten, are_read_back, literal, zip_length, denominator_line, goal_lines, letters_in, no_rows, IsWrittenLemma, scaled_tree, of_rows, is_scaled, lemma_says, goal_is_text, lemma_tree, lemma_is_text, lemma_written, AreRows, rows-append, letters_in-append, letters_in-trees, RowsWithin, IsSize, size_written, number_is_value, headed_is_text, Opened, IsMapLetter, AreCalledOnce, IsWritableItem, lemmas_in, IsWritable, CalledTokens, ItemTokens, lemma, cancel, CancellationTokens, head_line, called_line, item_lines, cancellation_lines, is_map_letter, called_on, AreItems, Bound, names, numbers, words, rows, letters, rows_in, IsKnown, IsItemOf, cancellation_kind, other_words, called_of, cancel_by, on_left, on_right, called_text, items_text, cancellation_text}
use Rattle.std.proofs.lemmas.List.{length-append}
use Rattle.cancel_rules.specs.declared.cancellation.Item.TheVariants as item
use Rattle.cancellation_text.proofs.Letters.{letters_by, AreCalled, AreApart}
use Rattle.cancellation_text.proofs.LinesBack.{IsWrittenMap, map_written, called_is_text, cancel_is_text}
use Rattle.cancellation_text.proofs.Parts.{Parts, with_goal, rows_of, AreParts, led_is, led_keeps, parts_say}
use Rattle.cancellation_text.proofs.Reader.{reader}

-- letters that are called monic or epic
abbrev called_trees : List Declaration → Side → List Letter → List CalledTokens
called_trees ds side ls = map (λ a. called_of (letter_text ds a.0) side) ls

abbrev item_tree : List Declaration → ℕ → Item → ItemTokens
item_tree ds number (item.Lemma l) = lemma (lemma_tree ds number l)
item_tree ds number (item.Cancel a side from) = cancel (cancel_by (decimal number) (letter_text ds a.0) (decimal from) side)

abbrev item_trees : List Declaration → ℕ → List Item → List ItemTokens
item_trees ds number [] = []
item_trees ds number (i ∷ items) = item_tree ds number i ∷ item_trees ds (suc number) items

-- what is known of an item that is written
abbrev IsWrittenItem : List Declaration → Item → Type 0
IsWrittenItem ds (item.Lemma l) = IsWrittenLemma ds l
IsWrittenItem ds (item.Cancel a side from) = IsWrittenMap ds a × (from < 2 ^ 32)

module _ (ds : List Declaration) where
  called_are_text : (side : Side) (ls : List Letter) → All (IsWrittenMap ds) ls → IsTextOf (flat_map (called_text ds side) ls) (map called_line (called_trees ds side ls))
  called_are_text side [] each = no_text
  called_are_text side (a ∷ ls) each =
      text-append (called_text ds side a) (flat_map (called_text ds side) ls) (called_line (called_of (letter_text ds a.0) side) ∷ []) (map called_line (called_trees ds side ls))
      (called_is_text ds a side (All-head (IsWrittenMap ds) a ls each)) (called_are_text side ls (All-tail (IsWrittenMap ds) a ls each))

  -- on their own side they are these, and on the other one there are none
  letters_are : (own : Side) (ls : List Letter) → All (IsWrittenMap ds) ls → AreCalled ds (called_trees ds own ls) (on_left own ls []) (on_right own ls [])
  letters_are Left [] each Left = refl
  letters_are Left [] each Right = refl
  letters_are Right [] each Left = refl
  letters_are Right [] each Right = refl
  letters_are Left (a ∷ ls) each Left = ap₂ (λ (o : Option Letter) (more : List Letter). cons_option o more) (All-head (IsWrittenMap ds) a ls each).known (letters_are Left ls (All-tail (IsWrittenMap ds) a ls each) Left)
  letters_are Left (a ∷ ls) each Right = letters_are Left ls (All-tail (IsWrittenMap ds) a ls each) Right
  letters_are Right (a ∷ ls) each Left = letters_are Right ls (All-tail (IsWrittenMap ds) a ls each) Left
  letters_are Right (a ∷ ls) each Right = ap₂ (λ (o : Option Letter) (more : List Letter). cons_option o more) (All-head (IsWrittenMap ds) a ls each).known (letters_are Right ls (All-tail (IsWrittenMap ds) a ls each) Right)

  called_all : (P : List ℕ → Type 0) → ((a : Letter) → IsWrittenMap ds a → P (letter_text ds a.0)) → (side : Side) (ls : List Letter) → All (IsWrittenMap ds) ls → All (λ c. P c.letter) (called_trees ds side ls)
  called_all P each side ls written =
      All-map (λ c. P c.letter) (λ a. called_of (letter_text ds a.0) side) ls (All-weaker (IsWrittenMap ds) (λ a. P (letter_text ds a.0)) each ls written)

  -- what is known of items that are written
  record AreWritten (number : ℕ) (items : List Item) : Type 0 where
    text : IsTextOf (items_text ds number items) (flat_map item_lines (item_trees ds number items))
    numbered : AreItems number (item_trees ds number items)
    all_rows : AreRows ds (rows_of (item_trees ds number items))
    say : AllZip (IsItemOf ds) (item_trees ds number items) items
    count_rows : length (rows_of (item_trees ds number items)) ≡ row_count (lemmas_in items)
    count_letters : letters_in (rows_of (item_trees ds number items)) ≡ letters_of_lemmas (lemmas_in items)

  are_written : (number : ℕ) (items : List Item) → number + length items < 10 ^ 64 → All (IsWrittenItem ds) items → AreWritten number items
  are_written number [] small each = record {
    text = no_text;
    numbered = tt;
    all_rows = record { each = All-nil _; names = All-nil _; numbers = All-nil _; words = All-nil _ };
    say = tt;
    count_rows = refl;
    count_letters = refl;
  }
  are_written number (item.Lemma l ∷ items) small each =
      let one : IsWrittenLemma ds l = All-head (IsWrittenItem ds) (item.Lemma l) items each in
      let rest = are_written (suc number) items (omega (arith, small)) (All-tail (IsWrittenItem ds) (item.Lemma l) items each) in
      let below : number < 10 ^ 64 = omega (arith, small) in
      let next : suc number ≡ number + 1 = omega arith in
      let own = (scaled_tree ds l).rows in
      let trees = item_trees ds (suc number) items in
      record {
        text = text-append _ _ _ _ (lemma_is_text ds number l below one) rest.text;
        numbered = ((number_is_value number below, is_scaled ds l one), subst (λ n. AreItems n trees) next rest.numbered);
        all_rows = rows-append ds own (rows_of trees) (of_rows ds l one) rest.all_rows;
        say = (lemma_says ds l one, rest.say);
        count_rows = length-append own (rows_of trees) ∙ rw (length-map, rest.count_rows, sum_by-cons (λ (l : Lemma). length l.rows) l (lemmas_in items)) refl;
        count_letters =
            letters_in-append own (rows_of trees)
            ∙ rw (letters_in-trees ds (λ (row : LemmaRow). row) l.rows, rest.count_letters, sum_by-cons (λ (l : Lemma). sum_by (λ (r : LemmaRow). length r.left + length r.right) l.rows) l (lemmas_in items)) refl;
      }
  are_written number (item.Cancel a side from ∷ items) small each =
      let one = All-head (IsWrittenItem ds) (item.Cancel a side from) items each in
      let rest = are_written (suc number) items (omega (arith, small)) (All-tail (IsWrittenItem ds) (item.Cancel a side from) items each) in
      let below : number < 10 ^ 64 = omega (arith, small) in
      let next : suc number ≡ number + 1 = omega arith in
      let within : from < 10 ^ 64 = omega (arith, one.1) in
      let value = decimal_within number_limit from (omega (arith, one.1)) within in
      record {
        text = text-append _ _ _ _ (cancel_is_text ds a side one.0 number from below one.1) rest.text;
        numbered = ((number_is_value number below, one.0.letter, decimal_number from within), subst (λ n. AreItems n (item_trees ds (suc number) items)) next rest.numbered);
        all_rows = rest.all_rows;
        say = (record { letter = a; number = from; letter_is = one.0.known; number_is = value; is = refl }, rest.say);
        count_rows = rest.count_rows;
        count_letters = rest.count_letters;
      }

module _ (ds : List Declaration) (declared : IsDeclared ds) (known : IsTrue (list_all is_named ds)) where
  item_written : (i : Item) → IsWritableItem ds i → IsWrittenItem ds i
  item_written (item.Lemma l) fits = lemma_written ds declared known l fits
  item_written (item.Cancel a side from) fits = (map_written ds declared known a fits.0, fits.1)

  maps_written : (ls : List Letter) → AreCalledOnce ds ls → All (IsWrittenMap ds) ls
  maps_written ls once = All-weaker (IsMapLetter ds) (IsWrittenMap ds) (map_written ds declared known) ls once.maps

  module _ (proof : Cancellation) (writable : IsWritable ds proof) where
    monic : All (IsWrittenMap ds) proof.monic
    monic = maps_written proof.monic writable.monic

    epic : All (IsWrittenMap ds) proof.epic
    epic = maps_written proof.epic writable.epic

    items : AreWritten ds 1 proof.items
    items = are_written ds 1 proof.items (omega (arith, writable.few_items)) (All-weaker (IsWritableItem ds) (IsWrittenItem ds) item_written proof.items writable.items)

    goal : IsWrittenLemma ds proof.goal
    goal = lemma_written ds declared known proof.goal writable.goal

    size : IsSize proof.denominator
    size = size_written proof.denominator writable.denominator

    abbrev p : Parts
    p = record {
      claim = decimal proof.claim;
      denominator = signed_decimal proof.denominator;
      called = called_trees ds Left proof.monic ++ called_trees ds Right proof.epic;
      items = item_trees ds 1 proof.items;
    }

    abbrev opened : Opened
    opened = record { claim = proof.claim; denominator = proof.denominator; monic = proof.monic; epic = proof.epic; items = proof.items; size = no_rows }

    abbrev tree : CancellationTokens
    tree = with_goal p (scaled_tree ds proof.goal)

    both : (P : List ℕ → Type 0) → ((a : Letter) → IsWrittenMap ds a → P (letter_text ds a.0)) → All (λ c. P c.letter) p.called
    both P each =
        All-append (λ c. P c.letter) (called_trees ds Left proof.monic) (called_trees ds Right proof.epic) (called_all ds P each Left proof.monic monic) (called_all ds P each Right proof.epic epic)

    say : AreCalled ds p.called proof.monic proof.epic
    say Left =
        filter_map-append (called_on ds Left) (called_trees ds Left proof.monic) (called_trees ds Right proof.epic)
        ∙ ap₂ (λ (xs ys : List Letter). xs ++ ys) (letters_are ds Left proof.monic monic Left) (letters_are ds Right proof.epic epic Left) ∙ append-nil proof.monic
    say Right =
        filter_map-append (called_on ds Right) (called_trees ds Left proof.monic) (called_trees ds Right proof.epic)
        ∙ ap₂ (λ (xs ys : List Letter). xs ++ ys) (letters_are ds Left proof.monic monic Right) (letters_are ds Right proof.epic epic Right)

    once : (side : Side) → AreApart (letters_by proof.monic proof.epic side)
    once Left = writable.monic.once
    once Right = writable.epic.once

    are_parts : AreParts ds p opened
    are_parts = record {
      head = record {
        claim_is = decimal_number proof.claim (omega (arith, writable.claim));
        denominator_is = size.number;
        claim_value = decimal_within number_limit proof.claim (omega (arith, writable.claim)) (omega (arith, writable.claim));
        denominator_value = size.value;
      };
      called = record { maps = both (λ t. IsTrue (is_map_letter t)) (λ a of_map. of_map.letter); known = both (IsKnown ds) (λ a of_map. (a, of_map.known)); say = say; once = once };
      items = record { numbered = items.numbered; few = omega (arith, zip_length (IsItemOf ds) p.items proof.items items.say, writable.few_items); say = items.say };
    }

    all_rows : AreRows ds (rows_in tree)
    all_rows = rows-append ds (rows_of p.items) (scaled_tree ds proof.goal).rows items.all_rows (of_rows ds proof.goal goal)

    row_total : length (rows_in tree) ≡ row_count (lemmas_in proof.items ++ proof.goal ∷ [])
    row_total =
        length-append (rows_of tree.items) tree.goal.rows ∙ rw (items.count_rows, length-map, sum_by_push (λ (l : Lemma). length l.rows) (lemmas_in proof.items) proof.goal) refl

    letter_total : letters_in (rows_in tree) ≡ letters_of_lemmas (lemmas_in proof.items ++ proof.goal ∷ [])
    letter_total =
        letters_in-append (rows_of tree.items) tree.goal.rows
        ∙ rw (
          items.count_letters,
          letters_in-trees ds (λ (row : LemmaRow). row) proof.goal.rows,
          sum_by_push (λ (l : Lemma). sum_by (λ (r : LemmaRow). length r.left + length r.right) l.rows) (lemmas_in proof.items) proof.goal,
        ) refl

    rows_within : (bound : Bound) → RowsWithin ds (rows_in tree) bound
    rows_within names = all_rows.names
    rows_within numbers = all_rows.numbers
    rows_within words = all_rows.words
    rows_within rows = rw row_total writable.few_rows
    rows_within letters = rw letter_total writable.letters

    block_is_text : IsTextOf (cancellation_text ds proof) (cancellation_lines tree ++ end_line ∷ [])
    block_is_text =
        let head = text_of_tokens (codes "cancellation 1") head_line (literal (codes "cancellation 1") refl refl) refl refl in
        let opening = headed_is_text (codes "cancellation 1") head_line proof.claim proof.denominator head writable.claim size in
        let called = text-append _ _ _ _ (called_are_text ds Left proof.monic monic) (called_are_text ds Right proof.epic epic) in
        let whole = text-append _ _ _ _ (text-append _ _ _ _ opening called) (text-append _ _ _ _ items.text (goal_is_text ds proof.goal goal)) in
        subst (λ (ls : List Line). IsTextOf (cancellation_text ds proof) (head_line ∷ claim_line tree.claim ∷ denominator_line tree.denominator ∷ ls)) lines_are whole
      where
        lines_are : (map called_line (called_trees ds Left proof.monic) ++ map called_line (called_trees ds Right proof.epic)) ++ (flat_map item_lines tree.items ++ (goal_lines tree.goal ++ end_line ∷ []))
            ≡ (map called_line tree.called ++ (flat_map item_lines tree.items ++ goal_lines tree.goal)) ++ end_line ∷ []
        lines_are = rw (map-append called_line (called_trees ds Left proof.monic) (called_trees ds Right proof.epic)) (simp append_assoc refl)

    pub cancellation_written : IsWritten (cancellation_kind ds) (cancellation_text ds proof) proof
    cancellation_written = record {
      tree = tree;
      text_is = block_is_text;
      is_tree = led_is are_parts None tree.goal tt (is_scaled ds proof.goal goal);
      keeps = λ bound. led_keeps are_parts None tree.goal bound (λ _. goal.size.within) (λ _. tt) (rows_within bound);
      says = parts_say are_parts tree.goal proof.goal (lemma_says ds proof.goal goal);
    }

  -- whatever texts are before and after it
  pub back : AreReadBack (HasBlocks (cancellation_kind ds)) (cancellation_text ds) (IsWritable ds) other_words
  back = are_read_back (cancellation_kind ds) (cancellation_text ds) (IsWritable ds) (reader ds).words cancellation_written
