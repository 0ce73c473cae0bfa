-- What the bytes of a text are read as is what they say, or the first thing that is wrong with them.
use Rattle.block_text.proofs.Prelude.{◌≡◌, ◌<◌, ◌+◌, ◌⊎◌, ℕ, Bool, true, false, List, [], ◌∷◌, Result, Ok, Err, IfOk, MatchResult, arith, refl, length, inl, inr, All, AllZip, is_utf8, lines, nil_from_length, All-nil, All-cons, All-head, All-tail, CertFault, Place, Progress, Fault, ◌>>=◌, at_line, in_line, truncated, ReadsText, Explains, ExplainsBy, tokens_of, content, Kind, Block, own, other, own_in, IsBlock, TextBound, on_block, on_count, Keeps, bounds, HasBlocks, IsBlocks, IsCutOff, IsFirstFault, Steps, progress, read_tokens, read_lines, beginning, ended, values_of, one_or_more, all_values, zip_length}
use Rattle.block_text.specs.declared.fault.CertFault.TheVariants as cert_fault
use Rattle.block_text.specs.declared.place.Place.TheVariants as at
use Rattle.block_text.specs.Texts as first
use Rattle.block_text.proofs.Owed.{IsReader}
use Rattle.block_text.proofs.Results.{bind_same}
use Rattle.block_text.proofs.NumberedLines.{run, lines_by, IsRefused, AreLinesRead, all, some, lines_are_read, all_are_read, refused_at}
use Rattle.block_text.proofs.TextLines.{step_at}
use Rattle.block_text.proofs.Standing.{everywhere, goes_on, stands_outside}
use Rattle.block_text.proofs.ReadLines.{stands, kept_at, is_flawed, is_refused, goes_read, blocks_read, is_cut_off}

read_by : {Begun Value : Type 0} (steps : Steps Begun Value) (number : ℕ) (p : Progress Begun Value) (ls : List (List ℕ)) → read_lines steps number p ls ≡ lines_by (step_at steps) number p ls
read_by steps number p [] = refl
read_by steps number p (line ∷ ls) = bind_same (at_line number (read_tokens steps p (tokens_of line))) _ _ (λ q. read_by steps (number + 1) q ls)

module _ {Begun Value : Type 0} (kind : Kind Value) (steps : Steps Begun Value) (reader : IsReader kind steps) where
  -- blocks of other kinds
  none_keep : (text : List (Block kind.Tree)) → own_in text ≡ [] → (bound : TextBound kind.Bound) → Keeps kind text bound
  none_keep text none (on_block bound) = rw none (All-nil (kind.Keeps bound))
  none_keep text none on_count = rw none (omega arith)

  none_say : (text : List (Block kind.Tree)) → own_in text ≡ [] → AllZip kind.Says (own_in text) []
  none_say text none = rw none tt

  module _ (bytes : List ℕ) where
    -- what is read is what the bytes say
    first_flaw : (told : Fault) → is_utf8 bytes ≡ true → IsRefused (step_at steps) beginning (lines bytes) 1 told → IsFirstFault kind bytes told
    first_flaw told utf8 refused =
        first.line (length refused.front + 1) refused.flaw utf8 (record {
          front = refused.front;
          line = refused.line;
          behind = refused.behind;
          splits = refused.splits;
          numbered = refl;
          stands = refused.stands;
          sound = goes_on kind steps reader (content refused.front) refused.before (stands kind steps reader (content refused.front) refused.before refused.before_is);
          flawed = is_flawed kind steps reader (content refused.front) refused.before (tokens_of refused.line) refused.flaw refused.before_is refused.refused;
        }) refused.told

    -- how the text ends
    ended_judged : (values : List Value) (place : Place Begun) → is_utf8 bytes ≡ true → run (step_at steps) beginning (content (lines bytes)) ≡ Ok (progress values place)
        → MatchResult (ended values place) (HasBlocks kind bytes) (IsFirstFault kind bytes)
    ended_judged values at.Outside utf8 read =
        let found = stands_outside kind steps reader (content (lines bytes)) values (stands kind steps reader (content (lines bytes)) (progress values at.Outside) read) in
        record { utf8 = utf8; blocks = found.blocks; are_blocks = found.are_blocks; within = found.within; says = found.says }
    ended_judged values at.Skipped utf8 read = first.end utf8 (is_cut_off kind steps reader (content (lines bytes)) values at.Skipped read refl) refl
    ended_judged values (at.Inside b) utf8 read = first.end utf8 (is_cut_off kind steps reader (content (lines bytes)) values (at.Inside b) read refl) refl

    lines_judged : (r : Result (Progress Begun Value) Fault) → is_utf8 bytes ≡ true → AreLinesRead (step_at steps) beginning (lines bytes) 1 r
        → MatchResult (r >>= λ p. ended p.values p.place) (HasBlocks kind bytes) (IsFirstFault kind bytes)
    lines_judged r utf8 (all q is read) = rw is (ended_judged q.values q.place utf8 read)
    lines_judged r utf8 (some told is refused) = rw is (first_flaw told utf8 refused)

    pub blocks_judged : MatchResult (values_of steps bytes) (HasBlocks kind bytes) (IsFirstFault kind bytes)
    blocks_judged = by_encoding (is_utf8 bytes) refl
      where
        by_encoding : (utf8 : Bool) → is_utf8 bytes ≡ utf8 → MatchResult (values_of steps bytes) (HasBlocks kind bytes) (IsFirstFault kind bytes)
        by_encoding true is = rw (is, read_by steps 1 beginning (lines bytes)) (lines_judged _ is (lines_are_read (step_at steps) beginning (lines bytes) 1))
        by_encoding false is = rw is (first.encoding is refl)

    some_judged : (r : Result (List Value) Fault) → MatchResult r (HasBlocks kind bytes) (IsFirstFault kind bytes) → MatchResult (r >>= one_or_more) (IsBlocks kind bytes) (IsFirstFault kind bytes)
    some_judged (Ok []) has =
        let none : own_in has.blocks ≡ [] = nil_from_length (own_in has.blocks) (zip_length kind.Says (own_in has.blocks) [] has.says) in
        first.none has.utf8 (record { blocks = has.blocks; are_blocks = has.are_blocks; none = none }) refl
    some_judged (Ok (v ∷ vs)) has = record { has = has; some = omega arith }
    some_judged (Err told) is = is

    pub text_judged : MatchResult (all_values steps bytes) (IsBlocks kind bytes) (IsFirstFault kind bytes)
    text_judged = some_judged (values_of steps bytes) blocks_judged

    pub values_read : (values : List Value) → all_values steps bytes ≡ Ok values → IsBlocks kind bytes values
    values_read values read = rw read at text_judged

    pub fault_read : (told : Fault) → all_values steps bytes ≡ Err told → IsFirstFault kind bytes told
    fault_read told read = rw read at text_judged

    -- what they say is read
    has_read : (values : List Value) → HasBlocks kind bytes values → values_of steps bytes ≡ Ok values
    has_read values has =
        rw (
          has.utf8,
          read_by steps 1 beginning (lines bytes),
          all_are_read (step_at steps) beginning (progress values at.Outside) (lines bytes) 1
              (blocks_read kind steps reader (content (lines bytes)) has.blocks values has.are_blocks (kept_at kind steps reader (Keeps kind has.blocks) has.within) has.says),
        ) refl

    some_read : (values : List Value) → 0 < length values → one_or_more values ≡ Ok values
    some_read [] one = absurd (omega (arith, one))
    some_read (v ∷ vs) one = refl

    pub values_are_read : (values : List Value) → IsBlocks kind bytes values → all_values steps bytes ≡ Ok values
    values_are_read values is = rw (has_read values is.has, some_read values is.some) refl

    ended_cut : (values : List Value) (place : Place Begun) → run (step_at steps) beginning (content (lines bytes)) ≡ Ok (progress values place) → IsCutOff kind (content (lines bytes)) → ended values place ≡ Err truncated
    ended_cut values at.Outside read cut =
        let found = stands_outside kind steps reader (content (lines bytes)) values (stands kind steps reader (content (lines bytes)) (progress values at.Outside) read) in
        absurd (cut.cut found.blocks found.are_blocks)
    ended_cut values at.Skipped read cut = refl
    ended_cut values (at.Inside b) read cut = refl

    pub fault_is_read : (told : Fault) → IsFirstFault kind bytes told → all_values steps bytes ≡ Err told
    fault_is_read told (first.encoding bad is) = rw (bad, is) refl
    fault_is_read told (first.line number flaw utf8 found is) =
        let front = goes_read kind steps reader (content found.front) found.sound in
        let refused = is_refused kind steps reader (content found.front) front.0 (tokens_of found.line) flaw front.1 found.flawed in
        let read : read_lines steps 1 beginning (lines bytes) ≡ Err (in_line (length found.front + 1) flaw) =
        rw (read_by steps 1 beginning (lines bytes), found.splits) (refused_at (step_at steps) beginning front.0 found.front found.line found.behind 1 flaw front.1 found.stands refused) in
        rw (utf8, read, is, found.numbered) refl
    fault_is_read told (first.end utf8 cut is) =
        let front = goes_read kind steps reader (content (lines bytes)) cut.sound in
        rw (utf8, read_by steps 1 beginning (lines bytes), all_are_read (step_at steps) beginning front.0 (lines bytes) 1 front.1, ended_cut front.0.values front.0.place front.1 cut, is) refl
    fault_is_read told (first.none utf8 found is) =
        rw (
          has_read [] (record {
            utf8 = utf8;
            blocks = found.blocks;
            are_blocks = found.are_blocks;
            within = everywhere (Keeps kind found.blocks) (none_keep found.blocks found.none) (bounds kind);
            says = none_say found.blocks found.none;
          }),
          is,
        ) refl

    -- the bytes have values or a first fault, in one way
    pub text_is_read : ((values : List Value) × IsBlocks kind bytes values) ⊎ ((fault : Fault) × IsFirstFault kind bytes fault)
    text_is_read = by_cases (all_values steps bytes) text_judged
      where
        by_cases : (r : Result (List Value) Fault) → MatchResult r (IsBlocks kind bytes) (IsFirstFault kind bytes) → ((values : List Value) × IsBlocks kind bytes values) ⊎ ((fault : Fault) × IsFirstFault kind bytes fault)
        by_cases (Ok values) is = inl (values, is)
        by_cases (Err told) is = inr (told, is)

    pub values_are_unique : (one two : List Value) → IsBlocks kind bytes one → IsBlocks kind bytes two → one ≡ two
    values_are_unique one two one_is two_is =
        let left : all_values steps bytes ≡ Ok one = values_are_read one one_is in
        let right : all_values steps bytes ≡ Ok two = values_are_read two two_is in cc

    pub fault_is_unique : (one two : Fault) → IsFirstFault kind bytes one → IsFirstFault kind bytes two → one ≡ two
    fault_is_unique one two one_is two_is =
        let left : all_values steps bytes ≡ Err one = fault_is_read one one_is in
        let right : all_values steps bytes ≡ Err two = fault_is_read two two_is in cc

    pub values_have_no_fault : (values : List Value) (told : Fault) → IsBlocks kind bytes values → IsFirstFault kind bytes told → ⊥
    values_have_no_fault values told is wrong =
        let left : all_values steps bytes ≡ Ok values = values_are_read values is in
        let right : all_values steps bytes ≡ Err told = fault_is_read told wrong in absurd (cc)

    -- the fault that a reader returns is the first one
    pub fault_told : (e : CertFault) → Explains (all_values steps bytes) e → ExplainsBy (IsFirstFault kind bytes) e
    fault_told (cert_fault.Fault code line limit) told = fault_read (record { code = code; line = line; limit = limit }) told
    fault_told (cert_fault.Memory e) told = tt

    pub values_told : (r : Result (List Value) CertFault) → ReadsText (λ vs. vs) r (all_values steps bytes) → MatchResult r (IsBlocks kind bytes) (ExplainsBy (IsFirstFault kind bytes))
    values_told (Ok values) read = values_read values read
    values_told (Err e) read = fault_told e read

  -- what holds of each block holds of each value
  each_says : (P : Value → Type 0) → ((t : kind.Tree) (value : Value) → kind.IsTree t → ((bound : kind.Bound) → kind.Keeps bound t) → kind.Says t value → P value)
      → (text : List (Block kind.Tree)) (values : List Value) → All (IsBlock kind.IsTree kind.others) text → ((bound : kind.Bound) → All (kind.Keeps bound) (own_in text)) → AllZip kind.Says (own_in text) values → All P values
  each_says P good [] [] each keeps says = All-nil P
  each_says P good [] (v ∷ vs) each keeps says = absurd says
  each_says P good (own t ∷ text) [] each keeps says = absurd says
  each_says P good (own t ∷ text) (v ∷ vs) each keeps says =
      All-cons P v vs (good t v (All-head (IsBlock kind.IsTree kind.others) (own t) text each) (λ bound. All-head (kind.Keeps bound) t (own_in text) (keeps bound)) says.0)
      (each_says P good text vs (All-tail (IsBlock kind.IsTree kind.others) (own t) text each) (λ bound. All-tail (kind.Keeps bound) t (own_in text) (keeps bound)) says.1)
  each_says P good (other b ∷ text) values each keeps says = each_says P good text values (All-tail (IsBlock kind.IsTree kind.others) (other b) text each) keeps says

  pub values_are : (P : Value → Type 0) → ((t : kind.Tree) (value : Value) → kind.IsTree t → ((bound : kind.Bound) → kind.Keeps bound t) → kind.Says t value → P value)
      → (bytes : List ℕ) (values : List Value) → IsBlocks kind bytes values → All P values
  values_are P good bytes values is = each_says P good is.has.blocks values is.has.are_blocks.each (λ bound. kept_at kind steps reader (Keeps kind is.has.blocks) is.has.within (on_block bound)) is.has.says

  pub read_values_are : (P : Value → Type 0) → ((t : kind.Tree) (value : Value) → kind.IsTree t → ((bound : kind.Bound) → kind.Keeps bound t) → kind.Says t value → P value)
      → (bytes : List ℕ) (r : Result (List Value) CertFault) → ReadsText (λ vs. vs) r (all_values steps bytes) → IfOk r (All P)
  read_values_are P good bytes (Ok values) read = values_are P good bytes values (values_read bytes values read)
  read_values_are P good bytes (Err e) read = tt
