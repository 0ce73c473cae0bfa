-- Texts whose blocks keep bounds are read.
use Rattle.block_text.proofs.Prelude.{◌≡◌, ◌≤◌, ◌<◌, ◌+◌, ℕ, Bool, true, false, List, [], ◌∷◌, ◌++◌, Option, Some, None, Result, Ok, Err, arith, refl, sym, ap, ◌∙◌, subst, length, nat_le, All, AllZip, lt-leb, append_assoc, append-nil, All-head, All-tail, Flaw, BadLine, TooMany, Place, Progress, asked, Line, OtherTokens, block_limit, is_end, end_line, Kind, Block, own, other, own_in, block_lines, IsBlock, IsOtherBlock, TextBound, on_block, on_count, told_for, AreBlocks, Keeps, flaw_of, is_other_head, Steps, progress, beginning, step, AllZip-append, zip_length, flat_map}
use Rattle.std.proofs.Common.{leb-false, length-append}
use Rattle.block_text.specs.declared.place.Place.TheVariants as at
use Rattle.block_text.proofs.Owed.{read_inside, read_block, IsReader, told_for_none}
use Rattle.block_text.proofs.Meets.{Meets, reads, passes, then_meets, meets-weaker}
use Rattle.block_text.proofs.NumberedLines.{run, run-append}
use Rattle.block_text.proofs.Results.{bind_ok, bind_err, by_test}

abbrev pub step_at : {Begun Value : Type 0} → Steps Begun Value → Progress Begun Value → Line → Result (Progress Begun Value) Flaw
step_at steps p line = step steps p.values p.place line

pub own_in-append : {T : Type 0} (xs ys : List (Block T)) → own_in (xs ++ ys) ≡ own_in xs ++ own_in ys
own_in-append [] ys = refl
own_in-append (own t ∷ xs) ys = ap (λ ts. t ∷ ts) (own_in-append xs ys)
own_in-append (other b ∷ xs) ys = own_in-append xs ys

module _ {Begun Value : Type 0} (kind : Kind Value) (steps : Steps Begun Value) (reader : IsReader kind steps) where
  abbrev At : List Value → Place Begun → Progress Begun Value
  At done place = progress done place

  -- what is read of the lines of a block is read up to its end
  inside_read : (done : List Value) (b : Begun) (lines : List Line) (value : Value) → read_inside steps b lines ≡ Ok value
      → run (step_at steps) (At done (at.Inside b)) (lines ++ end_line ∷ []) ≡ Ok (At (done ++ value ∷ []) at.Outside)
  inside_read done b [] value read = by_end (steps.finish b) refl
    where
      by_end : (r : Option Value) → steps.finish b ≡ r → run (step_at steps) (At done (at.Inside b)) (end_line ∷ []) ≡ Ok (At (done ++ value ∷ []) at.Outside)
      by_end (Some v) is = let same : v ≡ value = (let found : asked BadLine (steps.finish b) ≡ Ok value = read in cc) in rw (is, same) refl
      by_end None is = let none : asked BadLine (steps.finish b) ≡ Ok value = read in absurd (cc)
  inside_read done b (line ∷ lines) value read =
      by_test (is_end line) _ _ (Ok value) read (λ ends wrong. absurd (cc)) (λ more read_on.
      bind_ok (steps.next b line) _ value read_on (λ c next_is rest. rw (more, next_is) (inside_read done c lines value rest)))

  inside_refused : (done : List Value) (b : Begun) (lines : List Line) (flaw : Flaw) → (flaw ≡ BadLine → ⊥) → read_inside steps b lines ≡ Err flaw
      → run (step_at steps) (At done (at.Inside b)) (lines ++ end_line ∷ []) ≡ Err flaw
  inside_refused done b [] flaw fits read = by_end (steps.finish b) refl
    where
      by_end : (r : Option Value) → steps.finish b ≡ r → run (step_at steps) (At done (at.Inside b)) (end_line ∷ []) ≡ Err flaw
      by_end (Some v) is = let none : asked BadLine (steps.finish b) ≡ Err flaw = read in absurd (cc)
      by_end None is = let found : asked BadLine (steps.finish b) ≡ Err flaw = read in absurd (fits (cc))
  inside_refused done b (line ∷ lines) flaw fits read =
      by_test (is_end line) _ _ (Err flaw) read (λ ends wrong. absurd (fits (cc))) (λ more read_on.
      bind_err (steps.next b line) _ flaw read_on (λ none. rw (more, none) refl) (λ c next_is rest. rw (more, next_is) (inside_refused done c lines flaw fits rest)))

  block_read : (done : List Value) (lines : List Line) (value : Value) → length done < block_limit → read_block steps lines ≡ Ok value
      → run (step_at steps) (At done at.Outside) (lines ++ end_line ∷ []) ≡ Ok (At (done ++ value ∷ []) at.Outside)
  block_read done [] value room read = absurd (cc)
  block_read done (head ∷ lines) value room read = by_head (steps.begin head) refl
    where
      by_head : (r : Option Begun) → steps.begin head ≡ r → run (step_at steps) (At done at.Outside) (head ∷ (lines ++ end_line ∷ [])) ≡ Ok (At (done ++ value ∷ []) at.Outside)
      by_head (Some b) is = rw (is, lt-leb block_limit (length done) room) (inside_read done b lines value (rw is at read))
      by_head None is = let none : ◌≡◌ {A = Result Value Flaw} (Err BadLine) (Ok value) = rw is at read in absurd (cc)

  block_refused : (done : List Value) (lines : List Line) (flaw : Flaw) → (flaw ≡ BadLine → ⊥) → length done < block_limit → read_block steps lines ≡ Err flaw
      → run (step_at steps) (At done at.Outside) (lines ++ end_line ∷ []) ≡ Err flaw
  block_refused done [] flaw fits room read = absurd (fits (cc))
  block_refused done (head ∷ lines) flaw fits room read = by_head (steps.begin head) refl
    where
      by_head : (r : Option Begun) → steps.begin head ≡ r → run (step_at steps) (At done at.Outside) (head ∷ (lines ++ end_line ∷ [])) ≡ Err flaw
      by_head (Some b) is = rw (is, lt-leb block_limit (length done) room) (inside_refused done b lines flaw fits (rw is at read))
      by_head None is = let none : ◌≡◌ {A = Result Value Flaw} (Err BadLine) (Err flaw) = rw is at read in absurd (fits (cc))

  -- where there may be no block more
  crowded : (done : List Value) (lines : List Line) → nat_le block_limit (length done) ≡ true → (read_block steps lines ≡ Err BadLine → ⊥)
      → run (step_at steps) (At done at.Outside) (lines ++ end_line ∷ []) ≡ Err (TooMany block_limit)
  crowded done [] full fits = absurd (fits refl)
  crowded done (head ∷ lines) full fits = by_head (steps.begin head) refl
    where
      by_head : (r : Option Begun) → steps.begin head ≡ r → run (step_at steps) (At done at.Outside) (head ∷ (lines ++ end_line ∷ [])) ≡ Err (TooMany block_limit)
      by_head (Some b) is = rw (is, full) refl
      by_head None is = absurd (fits (rw is refl))

  -- the blocks were read after others
  pub record AreRead (done : List Value) (text : List (Block kind.Tree)) (q : Progress Begun Value) : Type 0 where
    pub values : List Value
    pub say : AllZip kind.Says (own_in text) values
    pub is : q ≡ At (done ++ values) at.Outside

  module _ (K : TextBound kind.Bound → Type 0) where
    abbrev OwnMeets : kind.Tree → Type 0
    OwnMeets t = Meets kind.flaw_of (λ bound. K (on_block bound)) (λ value. kind.Says t value) (read_block steps (kind.lines_of t))

    no_bad : (t : kind.Tree) → OwnMeets t → read_block steps (kind.lines_of t) ≡ Err BadLine → ⊥
    no_bad t (reads value is says) bad = absurd (cc)
    no_bad t (passes bound is passed) bad = told_for_none reader bound BadLine reader.none_told.0 (let same : BadLine ≡ kind.flaw_of bound = cc in same)

    own_by : (done : List Value) (t : kind.Tree) → length done < block_limit → OwnMeets t
        → Meets (told_for kind.flaw_of) K (AreRead done (own t ∷ [])) (run (step_at steps) (At done at.Outside) (kind.lines_of t ++ end_line ∷ []))
    own_by done t room (reads value is says) =
        reads (At (done ++ value ∷ []) at.Outside) (block_read done (kind.lines_of t) value room is) (record { values = value ∷ []; say = (says, tt); is = refl })
    own_by done t room (passes bound is passed) =
        passes (on_block bound) (block_refused done (kind.lines_of t) (kind.flaw_of bound) (λ bad. told_for_none reader bound BadLine reader.none_told.0 (sym bad)) room is) passed

    own_meets : (done : List Value) (t : kind.Tree) → kind.IsTree t → (K on_count → length done < block_limit) → ((bound : kind.Bound) → K (on_block bound) → kind.Keeps bound t)
        → Meets (told_for kind.flaw_of) K (AreRead done (own t ∷ [])) (run (step_at steps) (At done at.Outside) (kind.lines_of t ++ end_line ∷ []))
    own_meets done t is few keeps = by_room (nat_le block_limit (length done)) refl
      where
        met : OwnMeets t
        met = reader.reads (λ bound. K (on_block bound)) t is keeps

        by_room : (full : Bool) → nat_le block_limit (length done) ≡ full
            → Meets (told_for kind.flaw_of) K (AreRead done (own t ∷ [])) (run (step_at steps) (At done at.Outside) (kind.lines_of t ++ end_line ∷ []))
        by_room true full = passes on_count (crowded done (kind.lines_of t) full (no_bad t met)) (λ kept. let room : nat_le block_limit (length done) ≡ false = lt-leb block_limit (length done) (few kept) in absurd (cc))
        by_room false room = own_by done t (leb-false block_limit (length done) room) met

    -- its head is no head of the kind
    no_head : (line : Line) → is_other_head kind.others line ≡ true → steps.begin line ≡ None
    no_head line is_other = by_cases (steps.begin line) refl
      where
        by_cases : (r : Option Begun) → steps.begin line ≡ r → steps.begin line ≡ None
        by_cases None is = is
        by_cases (Some b) is = let none : is_other_head kind.others line ≡ false = (reader.begins line b is).0 in absurd (cc)

    skipped : (done : List Value) (lines : List Line) → All (λ line. is_end line ≡ false) lines → run (step_at steps) (At done at.Skipped) (lines ++ end_line ∷ []) ≡ Ok (At done at.Outside)
    skipped done [] none = refl
    skipped done (line ∷ lines) none =
        rw (All-head (λ line. is_end line ≡ false) line lines none) (skipped done lines (All-tail (λ line. is_end line ≡ false) line lines none))

    other_meets : (done : List Value) (b : OtherTokens) → IsOtherBlock kind.others b
        → Meets (told_for kind.flaw_of) K (AreRead done (other b ∷ [])) (run (step_at steps) (At done at.Outside) (b.head ∷ (b.lines ++ end_line ∷ [])))
    other_meets done b block =
        let known : is_other_head steps.others b.head ≡ true = subst (λ (words : List (List ℕ)). is_other_head words b.head ≡ true) (sym reader.others) block.head in
        rw (no_head b.head block.head, known, skipped done b.lines block.lines)
        (reads (At done at.Outside) refl (record { values = []; say = tt; is = ap (λ vs. At vs at.Outside) (sym (append-nil done)) }))

    -- blocks
    abbrev Lines : List (Block kind.Tree) → List Line
    Lines text = flat_map (block_lines kind.lines_of) text

    abbrev TextMeets : List Value → List (Block kind.Tree) → Type 0
    TextMeets done text = Meets (told_for kind.flaw_of) K (AreRead done text) (run (step_at steps) (At done at.Outside) (Lines text))

    behind : (done : List Value) (b : Block kind.Tree) (text : List (Block kind.Tree)) → (K on_count → length done + length (own_in (b ∷ text)) ≤ block_limit)
        → ((more : List Value) → (K on_count → length more + length (own_in text) ≤ block_limit) → TextMeets more text)
        → Meets (told_for kind.flaw_of) K (AreRead done (b ∷ [])) (run (step_at steps) (At done at.Outside) (block_lines kind.lines_of b))
        → TextMeets done (b ∷ text)
    behind done b text few rest_meets met =
        rw (run-append (step_at steps) (At done at.Outside) (block_lines kind.lines_of b) (Lines text))
        (then_meets _ met (λ p _ one.
        let apart : own_in (b ∷ text) ≡ own_in (b ∷ []) ++ own_in text = own_in-append (b ∷ []) text in
        let count : length (own_in (b ∷ [])) ≡ length one.values = zip_length kind.Says (own_in (b ∷ [])) one.values one.say in
        rw one.is (meets-weaker
        (rest_meets (done ++ one.values) (λ kept. omega (arith, few kept, ap length apart, length-append (own_in (b ∷ [])) (own_in text), count, length-append done one.values)))
        (λ q _ rest. record {
          values = one.values ++ rest.values;
          say = subst (λ (ts : List kind.Tree). AllZip kind.Says ts (one.values ++ rest.values)) (sym apart) (AllZip-append kind.Says (own_in (b ∷ [])) (own_in text) one.values rest.values one.say rest.say);
          is = rest.is ∙ ap (λ vs. At vs at.Outside) (append_assoc done one.values rest.values);
        }))))

    blocks_meet : (done : List Value) (text : List (Block kind.Tree)) → All (IsBlock kind.IsTree kind.others) text → (K on_count → length done + length (own_in text) ≤ block_limit)
        → ((bound : kind.Bound) → K (on_block bound) → All (kind.Keeps bound) (own_in text)) → TextMeets done text
    blocks_meet done [] each few keeps = reads (At done at.Outside) refl (record { values = []; say = tt; is = ap (λ vs. At vs at.Outside) (sym (append-nil done)) })
    blocks_meet done (own t ∷ text) each few keeps =
        behind done (own t) text few
        (λ more room. blocks_meet more text (All-tail (IsBlock kind.IsTree kind.others) (own t) text each) room (λ bound kept. All-tail (kind.Keeps bound) t (own_in text) (keeps bound kept)))
        (own_meets done t (All-head (IsBlock kind.IsTree kind.others) (own t) text each) (λ kept. omega (arith, few kept)) (λ bound kept. All-head (kind.Keeps bound) t (own_in text) (keeps bound kept)))
    blocks_meet done (other b ∷ text) each few keeps =
        behind done (other b) text few (λ more room. blocks_meet more text (All-tail (IsBlock kind.IsTree kind.others) (other b) text each) room keeps)
        (other_meets done b (All-head (IsBlock kind.IsTree kind.others) (other b) text each))

  -- the lines of blocks: they are read, or a bound is passed that the blocks do not keep
  pub text_meets : (ls : List Line) (text : List (Block kind.Tree)) → AreBlocks kind ls text → Meets (flaw_of kind) (Keeps kind text) (AreRead [] text) (run (step_at steps) beginning ls)
  text_meets ls text are = rw are.are (blocks_meet (Keeps kind text) [] text are.each (λ few. omega (arith, few)) (λ bound keeps. keeps))
