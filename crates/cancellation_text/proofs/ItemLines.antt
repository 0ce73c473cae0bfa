-- Blocks that keep bounds are read.
use Rattle.cancellation_text.proofs.Prelude.{◌≡◌, ◌<◌, ◌≤◌, ◌+◌, ℕ, ℤ, false, List, [], ◌∷◌, ◌++◌, Some, None, Result, Ok, IsTrue, arith, refl, sym, ◌∙◌, subst, get_or, length, length-append, map, codes, add-zero, All, AllZip, lt-leb, append_assoc, append-nil, All-cons, All-head, All-tail, All-append, All-map, Letter, Declaration, CertRow, Lemma, LemmaRow, Left, Right, Item, Cancellation, Flaw, ◌>>=◌, is_number, number_within, number_limit, integer_limit, begins, integer_of, Line, claim_line, run, run-append, read_block, read_inside-run, Meets, reads, then_meets, meets-weaker, asked_meets, unless_meets, Size, RowTokens, row_limit, is_row, over_lemma, no_rows, ScaledTokens, row_line, denominator_line, goal_lines, IsWithin, IsScaledOf, lemma_of, lemma_row, GoesOn, lemma_row_takes, rows_go_on, behind_rows, integer_meets, scale_meets, RowsFit, with_rows, with_rows-append, rows_fit_parts, TakesRow, rows_meet, Opened, Stage, CalledTokens, CancelTokens, ItemTokens, lemma, cancel, CancellationTokens, called_line, cancel_line, item_lines, cancellation_lines, is_map_letter, known_letter, AreItems, IsItem, IsCancellationBlock, Bound, flaw_of, item_rows, rows_in, IsKnown, HasItemName, HasItemNumber, KeepsOne, IsItemOf, IsCancelOf, IsCancellationOf, called_tokens, letters_on, on_left, on_right, begun, resized, cancel_of, item_or_goal, next, finish, cancellation_steps, flat_map}
use Rattle.cancel_rules.specs.declared.cancellation.Item.TheVariants as item
use Rattle.cancellation_text.specs.declared.place.Stage.TheVariants as at
use Rattle.cancellation_text.specs.Bounds as bound
use Rattle.cancellation_text.proofs.Letters.{AreCalled, AreOnce, none_called, called_more, letter_is_new}
use Rattle.cancellation_text.proofs.Lines.{called_read, cancel_read}
use Rattle.cancellation_text.proofs.Parts.{rows_of}

-- no line of a block is `end`
item_goes_on : (i : ItemTokens) (rest : List Line) → All GoesOn rest → All GoesOn (item_lines i ++ rest)
item_goes_on (lemma l) rest more = All-cons GoesOn _ _ refl (behind_rows l.scaled.rows rest more)
item_goes_on (cancel c) rest more = All-cons GoesOn _ _ refl more

items_go_on : (items : List ItemTokens) (goal : ScaledTokens) → All GoesOn (flat_map item_lines items ++ goal_lines goal)
items_go_on [] goal = All-cons GoesOn _ _ refl (rows_go_on goal.rows)
items_go_on (i ∷ items) goal =
    subst (All GoesOn) (sym (append_assoc (item_lines i) (flat_map item_lines items) (goal_lines goal))) (item_goes_on i (flat_map item_lines items ++ goal_lines goal) (items_go_on items goal))

called_go_on : (called : List CalledTokens) (rest : List Line) → All GoesOn rest → All GoesOn (map called_line called ++ rest)
called_go_on called rest more = All-append GoesOn (map called_line called) rest (All-map GoesOn called_line called (λ k c below. refl)) more

module _ (K : Bound → Type 0) (ds : List Declaration) where
  -- the head
  claim_meets : (n : List ℕ) → IsTrue (is_number n) → (K bound.numbers → IsWithin number_limit n) → Meets flaw_of K (λ q. (k : ℕ) × (number_within number_limit n ≡ Some k) × (q ≡ at.Claimed k)) (next ds at.Headed (claim_line n))
  claim_meets n number within = rw number (then_meets _ (asked_meets K bound.numbers (number_within number_limit n) within) (λ k _ k_is. reads _ refl (k, k_is, refl)))

  denominator_meets : (k : ℕ) (d : List ℕ) → IsTrue (is_number d) → (K bound.numbers → IsWithin integer_limit d)
      → Meets flaw_of K (λ q. (z : ℤ) × (integer_of d ≡ Ok z) × (q ≡ at.Called (begun k z))) (next ds (at.Claimed k) (denominator_line d))
  denominator_meets k d number within = rw number (then_meets _ (integer_meets K d within) (λ z _ z_is. reads _ refl (z, z_is, refl)))

  -- letters that are called monic or epic
  module _ (k : ℕ) (z : ℤ) where
    abbrev called_place : List Letter → List Letter → Opened
    called_place monic epic = record { claim = k; denominator = z; monic = monic; epic = epic; items = []; size = no_rows }

    record CalledAreRead (called : List CalledTokens) (q : Stage) : Type 0 where
      monic : List Letter
      epic : List Letter
      letters : AreCalled ds called monic epic
      is : q ≡ at.Called (called_place monic epic)

    one_meets : (monic epic : List Letter) (before later : List CalledTokens) (c : CalledTokens) → AreCalled ds before monic epic → IsTrue (is_map_letter c.letter) → AreOnce ds (before ++ c ∷ later)
        → (K bound.names → IsKnown ds c.letter) → Meets flaw_of K (CalledAreRead (before ++ c ∷ [])) (next ds (at.Called (called_place monic epic)) (called_line c))
    one_meets monic epic before later c are letter once known =
        rw (called_read c letter) (then_meets _ (asked_meets K bound.names (known_letter ds c.letter) known) (λ a _ a_is.
        rw (letter_is_new ds before monic epic are c.letter c.side a later a_is (once c.side)) (reads _ refl (record {
          monic = on_left c.side (letters_on (called_place monic epic) c.side ++ a ∷ []) monic;
          epic = on_right c.side (letters_on (called_place monic epic) c.side ++ a ∷ []) epic;
          letters = called_more ds before monic epic are c.letter c.side a a_is;
          is = refl;
        }))))

    called_meet : (monic epic : List Letter) (before later : List CalledTokens) → AreCalled ds before monic epic → All (λ c. IsTrue (is_map_letter c.letter)) later → AreOnce ds (before ++ later)
        → (K bound.names → All (λ c. IsKnown ds c.letter) later) → Meets flaw_of K (CalledAreRead (before ++ later)) (run (next ds) (at.Called (called_place monic epic)) (map called_line later))
    called_meet monic epic before [] are maps once known = reads _ refl (record { monic = monic; epic = epic; letters = rw (append-nil before) are; is = refl })
    called_meet monic epic before (c ∷ later) are maps once known =
        then_meets _
        (one_meets monic epic before later c are (All-head (λ d. IsTrue (is_map_letter d.letter)) c later maps) once (λ kept. All-head (λ d. IsKnown ds d.letter) c later (known kept)))
        (λ q _ one.
        let split : before ++ c ∷ later ≡ (before ++ c ∷ []) ++ later = sym (append_assoc before (c ∷ []) later) in
        rw one.is (subst (λ cs. Meets flaw_of K (CalledAreRead cs) (run (next ds) (at.Called (called_place one.monic one.epic)) (map called_line later))) (sym split)
        (called_meet one.monic one.epic (before ++ c ∷ []) later one.letters (All-tail (λ d. IsTrue (is_map_letter d.letter)) c later maps) (subst (AreOnce ds) split once)
        (λ kept. All-tail (λ d. IsKnown ds d.letter) c later (known kept)))))

  -- at this place the next item or the goal may begin
  abbrev Waits : Opened → Stage → Type 0
  Waits o place = (line : Line) → begins (codes "row") line ≡ false → called_tokens line ≡ None → next ds place line ≡ item_or_goal ds o line

  abbrev made : RowTokens → CertRow → LemmaRow
  made r row = over_lemma r.lemma row

  cancel_of_meets : (before : ℕ) (c : CancelTokens) → (K bound.names → IsKnown ds c.letter) → (K bound.numbers → HasItemNumber (cancel c)) → (K bound.rows → before < row_limit)
      → Meets flaw_of K (IsCancelOf ds c) (cancel_of ds before c)
  cancel_of_meets before c known within few =
      then_meets _ (asked_meets K bound.names (known_letter ds c.letter) known) (λ a _ a_is.
      then_meets _ (asked_meets K bound.numbers (number_within number_limit c.item) within) (λ n _ n_is.
      unless_meets bound.rows _ _ (λ kept. lt-leb row_limit before (few kept)) (reads _ refl (record { letter = a; number = n; letter_is = a_is; number_is = n_is; is = refl }))))

  -- after so many items and rows of this size, the item or the items are within the bounds that are met
  record ItemFits (before : ℕ) (size : Size) (i : ItemTokens) : Type 0 where
    name : K bound.names → HasItemName ds i
    number : K bound.numbers → HasItemNumber i
    few : K bound.rows → before < row_limit
    all_rows : RowsFit K ds size (item_rows i)

  record ItemsFit (before : ℕ) (size : Size) (items : List ItemTokens) : Type 0 where
    names : K bound.names → All (HasItemName ds) items
    numbers : K bound.numbers → All HasItemNumber items
    few : K bound.rows → before + length items ≤ row_limit
    all_rows : RowsFit K ds size (rows_of items)

  items_fit_parts : (before : ℕ) (size : Size) (i : ItemTokens) (items : List ItemTokens) → ItemsFit before size (i ∷ items) → ItemFits before size i × ItemsFit (before + 1) (with_rows size (item_rows i)) items
  items_fit_parts before size i items fit =
      let parts = rows_fit_parts K ds size (item_rows i) (rows_of items) fit.all_rows in (
        record {
          name = λ kept. All-head (HasItemName ds) i items (fit.names kept);
          number = λ kept. All-head HasItemNumber i items (fit.numbers kept);
          few = λ kept. omega (arith, fit.few kept);
          all_rows = parts.0;
        },
        record {
          names = λ kept. All-tail (HasItemName ds) i items (fit.names kept);
          numbers = λ kept. All-tail HasItemNumber i items (fit.numbers kept);
          few = λ kept. omega (arith, fit.few kept);
          all_rows = parts.1;
        },
      )

  module _ (k : ℕ) (z : ℤ) (monic epic : List Letter) where
    abbrev opened_of : List Item → Size → Opened
    opened_of items size = record { claim = k; denominator = z; monic = monic; epic = epic; items = items; size = size }

    -- a lemma or the goal, by the stage in its rows
    module _ (inside : Opened → Lemma → Stage) (items : List Item) (size : Size) (s : ScaledTokens) where
      record ScaledIsRead (q : Stage) : Type 0 where
        found : Lemma
        says : IsScaledOf ds s found
        is : q ≡ inside (opened_of items (with_rows size s.rows)) found

      abbrev place : ℤ → Size → List LemmaRow → Stage
      place scale larger front = inside (opened_of items larger) (lemma_of scale front)

      abbrev Begins : Stage → Type 0
      Begins q = (scale : ℤ) × (integer_of s.scale ≡ Ok scale) × (q ≡ place scale size [])

      scaled_meets : ((o : Opened) (l : Lemma) (r : RowTokens) → next ds (inside o l) (row_line r) ≡ (lemma_row ds o.size l (row_line r) >>= λ grown. Ok (inside (resized o grown.0) grown.1)))
          → (r : Result ℤ Flaw) → Meets flaw_of K (λ scale. integer_of s.scale ≡ Ok scale) r → All (λ r. IsTrue (is_row r)) s.rows → RowsFit K ds size s.rows
          → Meets flaw_of K ScaledIsRead ((r >>= λ scale. Ok (inside (opened_of items size) (lemma_of scale []))) >>= λ q. run (next ds) q (map row_line s.rows))
      scaled_meets takes r met are fit =
          then_meets _ (then_meets {Q = Begins} _ met (λ scale _ scale_is. reads _ refl (scale, scale_is, refl))) (λ p _ begins.
          let each : All (TakesRow (next ds) K ds (place begins.0) made) s.rows =
          λ j d below larger front. takes (opened_of items larger) (lemma_of begins.0 front) (get_or s.rows j d) ∙ lemma_row_takes ds (get_or s.rows j d) (are j d below) larger (lemma_of begins.0 front) (λ more l. inside (opened_of items more) l) in
          rw begins.2 (meets-weaker (rows_meet (next ds) K ds (place begins.0) made size [] s.rows each fit)
          (λ q _ read. record { found = lemma_of begins.0 read.rows; says = record { scale = begins.1; rows = read.are_made }; is = read.is })))

    -- what is read of an item
    record ItemIsRead (items : List Item) (size : Size) (i : ItemTokens) (q : Stage) : Type 0 where
      found : Item
      is_item : IsItemOf ds i found
      waits : Waits (opened_of (items ++ found ∷ []) (with_rows size (item_rows i))) q

    item_meets : (items : List Item) (size : Size) (place : Stage) (i : ItemTokens) → Waits (opened_of items size) place → IsItem (length items + 1) i → ItemFits (length items) size i
        → Meets flaw_of K (ItemIsRead items size i) (run (next ds) place (item_lines i))
    item_meets items size place (lemma l) waits is fits =
        rw (waits (codes "lemma" ∷ l.number ∷ codes "scale" ∷ l.scaled.scale ∷ []) refl refl)
        (meets-weaker (scaled_meets at.Lemma items size l.scaled (λ o v r. refl) _ (scale_meets K ds (length items) l is.0 is.1.scale fits.number fits.few) is.1.rows fits.all_rows)
        (λ q _ read. record { found = item.Lemma read.found; is_item = read.says; waits = λ line no_row none. rw (read.is, no_row) refl }))
    item_meets items size place (cancel c) waits is fits =
        rw (waits (cancel_line c) refl refl, cancel_read (length items + 1) c is)
        (then_meets _ (then_meets {Q = ItemIsRead items size (cancel c)} _ (cancel_of_meets (length items) c fits.name fits.number fits.few) (λ i _ says.
        reads _ refl (record { found = i; is_item = says; waits = rw (add-zero size.rows, add-zero size.letters) (λ line no_row none. refl) }))) (λ q _ read. reads q refl read))

    -- what is read of items
    record ItemsAreRead (front : List Item) (size : Size) (items : List ItemTokens) (q : Stage) : Type 0 where
      found : List Item
      are_items : AllZip (IsItemOf ds) items found
      waits : Waits (opened_of (front ++ found) (with_rows size (rows_of items))) q

    items_meet : (front : List Item) (size : Size) (place : Stage) (items : List ItemTokens) → Waits (opened_of front size) place → AreItems (length front + 1) items → ItemsFit (length front) size items
        → Meets flaw_of K (ItemsAreRead front size items) (run (next ds) place (flat_map item_lines items))
    items_meet front size place [] waits numbered fit = reads _ refl (record { found = []; are_items = tt; waits = rw (append-nil front, add-zero size.rows, add-zero size.letters) waits })
    items_meet front size place (i ∷ items) waits numbered fit =
        let parts = items_fit_parts (length front) size i items fit in
        rw (run-append (next ds) place (item_lines i) (flat_map item_lines items))
        (then_meets _ (item_meets front size place i waits numbered.0 parts.0) (λ p _ one.
        let count : length front + 1 ≡ length (front ++ one.found ∷ []) = omega (arith, length-append front (one.found ∷ [])) in
        meets-weaker
        (items_meet (front ++ one.found ∷ []) (with_rows size (item_rows i)) p items one.waits (subst (λ n. AreItems (n + 1) items) count numbered.1) (subst (λ n. ItemsFit n (with_rows size (item_rows i)) items) count parts.1))
        (λ q _ read. record {
          found = one.found ∷ read.found;
          are_items = (one.is_item, read.are_items);
          waits = rw (← with_rows-append size (item_rows i) (rows_of items), ← append_assoc front (one.found ∷ []) read.found) read.waits;
        })))

  -- the block
  rows_fit : (b : CancellationTokens) → ((bound : Bound) → K bound → KeepsOne ds bound b) → RowsFit K ds no_rows (rows_in b)
  rows_fit b keeps = record {
    names = λ kept. (keeps bound.names kept).1;
    numbers = λ kept. (keeps bound.numbers kept).1;
    words = λ kept. keeps bound.words kept;
    rows = λ kept. omega (arith, (keeps bound.rows kept).1);
    letters = λ kept. omega (arith, keeps bound.letters kept);
  }

  -- the block may end here, and says this
  abbrev IsBlockRead : CancellationTokens → Stage → Type 0
  IsBlockRead b q = (proof : Cancellation) × (finish q ≡ Some proof) × IsCancellationOf ds b proof

  module _ (b : CancellationTokens) (block : IsCancellationBlock ds b) (keeps : (bound : Bound) → K bound → KeepsOne ds bound b) where
    -- after the letters that are called monic and epic
    behind_called : (k : ℕ) (z : ℤ) → number_within number_limit b.claim ≡ Some k → integer_of b.denominator ≡ Ok z → (q : Stage) → CalledAreRead k z b.called q
        → Meets flaw_of K (IsBlockRead b) (run (next ds) q (flat_map item_lines b.items ++ goal_lines b.goal))
    behind_called k z k_is z_is q called =
        let parts = rows_fit_parts K ds no_rows (rows_of b.items) b.goal.rows (rows_fit b keeps) in
        rw (called.is, run-append (next ds) (at.Called (called_place k z called.monic called.epic)) (flat_map item_lines b.items) (goal_lines b.goal))
        (then_meets _
        (items_meet k z called.monic called.epic [] no_rows (at.Called (called_place k z called.monic called.epic)) b.items (λ line no_row none. rw none refl) block.items
        (record { names = λ kept. (keeps bound.names kept).0.items; numbers = λ kept. (keeps bound.numbers kept).0.items; few = λ kept. omega (arith, (keeps bound.rows kept).0); all_rows = parts.0 }))
        (λ p _ read.
        rw (read.waits (codes "goal" ∷ codes "scale" ∷ b.goal.scale ∷ []) refl refl) (meets-weaker
        (scaled_meets k z called.monic called.epic at.Goal read.found (with_rows no_rows (rows_of b.items)) b.goal (λ o v r. refl) _ (rw block.goal.scale (integer_meets K b.goal.scale (λ kept. (keeps bound.numbers kept).0.goal))) block.goal.rows parts.1)
        (λ r _ last. (
          record { claim = k; denominator = z; monic = called.monic; epic = called.epic; items = read.found; goal = last.found },
          rw last.is refl,
          record { claim = k_is; denominator = z_is; monic = called.letters Left; epic = called.letters Right; items = read.are_items; goal = last.says },
        )))))

    block_read : Meets flaw_of K (IsBlockRead b) (run (next ds) at.Headed (claim_line b.claim ∷ denominator_line b.denominator ∷ (map called_line b.called ++ (flat_map item_lines b.items ++ goal_lines b.goal))))
    block_read =
        then_meets _ (claim_meets b.claim block.claim (λ kept. (keeps bound.numbers kept).0.claim)) (λ p _ k.
        rw k.2 (then_meets _ (denominator_meets k.0 b.denominator block.denominator (λ kept. (keeps bound.numbers kept).0.denominator)) (λ q _ z.
        rw (z.2, run-append (next ds) (at.Called (begun k.0 z.0)) (map called_line b.called) (flat_map item_lines b.items ++ goal_lines b.goal))
        (then_meets _ (called_meet k.0 z.0 [] [] [] b.called (none_called ds) block.called block.once (λ kept. (keeps bound.names kept).0.called)) (λ r _ called. behind_called k.0 z.0 k.1 z.1 r called)))))

    pub block_meets : Meets flaw_of K (IsCancellationOf ds b) (read_block (cancellation_steps ds) (cancellation_lines b))
    block_meets =
        rw (read_inside-run (cancellation_steps ds) at.Headed (claim_line b.claim ∷ denominator_line b.denominator ∷ (map called_line b.called ++ (flat_map item_lines b.items ++ goal_lines b.goal)))
        (All-cons GoesOn (claim_line b.claim) (denominator_line b.denominator ∷ (map called_line b.called ++ (flat_map item_lines b.items ++ goal_lines b.goal))) refl
        (All-cons GoesOn (denominator_line b.denominator) (map called_line b.called ++ (flat_map item_lines b.items ++ goal_lines b.goal)) refl (called_go_on b.called (flat_map item_lines b.items ++ goal_lines b.goal) (items_go_on b.items b.goal)))))
        (then_meets _ block_read (λ q _ read. rw read.1 (reads read.0 refl read.2)))
