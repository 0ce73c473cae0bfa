-- The first line that is not read is the first flawed one.
use Rattle.block_text.proofs.Prelude.{◌≡◌, ◌⊎◌, List, [], ◌∷◌, ◌++◌, Result, Ok, Err, refl, sym, ap, ◌∙◌, subst, inl, inr, map, All, AllZip, Flaw, BadLine, TooMany, Place, Progress, Fault, truncated, Line, block_limit, Kind, Block, own_in, AreBlocks, TextBound, on_block, on_count, Keeps, bounds, flaw_of, GoesOn, IsFlawed, misfit, IsCutOff, Steps, progress, beginning, step, ended, AllZip-unique}
use Rattle.std.proofs.Common.{append_assoc, append-nil}
use Rattle.block_text.specs.declared.place.Place.TheVariants as at
use Rattle.block_text.specs.Texts.{passes}
use Rattle.block_text.proofs.Bounds.{before, listed}
use Rattle.block_text.proofs.Owed.{IsReader, same_told, told_for_none}
use Rattle.block_text.proofs.Results.{bind_ok}
use Rattle.block_text.proofs.Meets as meets
use Rattle.block_text.proofs.Meets.{Meets}
use Rattle.block_text.proofs.NumberedLines.{run, run-append, run_past}
use Rattle.block_text.proofs.TextLines.{step_at, AreRead, text_meets}
use Rattle.block_text.proofs.Standing.{Stands, stands_first, stands_next, goes_on, GoesUpTo, split_up, goes_on_before}
use Rattle.block_text.proofs.FirstBounds.{last_kept, up_to_kept, goes_on_within_none, goes_on_up_to, one_flaw}

module _ {Begun Value : Type 0} (kind : Kind Value) (steps : Steps Begun Value) (reader : IsReader kind steps) where
  stands_behind : (p q : Progress Begun Value) (front ls : List Line) → Stands kind steps reader front p → run (step_at steps) p ls ≡ Ok q → Stands kind steps reader (front ++ ls) q
  stands_behind p q front [] here read = let same : p ≡ q = cc in rw (← same, append-nil front) here
  stands_behind p q front (line ∷ ls) here read =
      bind_ok (step steps p.values p.place line) (λ next. run (step_at steps) next ls) q read (λ next next_is rest.
      rw append_assoc at (stands_behind next q (front ++ line ∷ []) ls (stands_next kind steps reader front p next line here next_is) rest))

  pub stands : (ls : List Line) (p : Progress Begun Value) → run (step_at steps) beginning ls ≡ Ok p → Stands kind steps reader ls p
  stands ls p read = stands_behind beginning p [] ls (stands_first kind steps reader) read

  -- the flaws of bounds
  same_bound : (a b : TextBound kind.Bound) → flaw_of kind a ≡ flaw_of kind b → a ≡ b
  same_bound (on_block a) (on_block b) same = ap on_block (same_told reader a b same)
  same_bound (on_block a) on_count same = absurd (told_for_none reader a (TooMany block_limit) reader.none_told.1 (sym same))
  same_bound on_count (on_block b) same = absurd (told_for_none reader b (TooMany block_limit) reader.none_told.1 same)
  same_bound on_count on_count same = refl

  no_misfit : (b : TextBound kind.Bound) → BadLine ≡ flaw_of kind b → ⊥
  no_misfit (on_block b) same = told_for_none reader b BadLine reader.none_told.0 same
  no_misfit on_count same = absurd (cc)

  -- a bound is kept where all are
  pub kept_at : (K : TextBound kind.Bound → Type 0) → All K (bounds kind) → (b : TextBound kind.Bound) → K b
  kept_at K all (on_block b) =
      let place = listed kind.flaw_of kind.bounds b (reader.told b) in
      last_kept K (map_front (before_it b)) (on_block b)
      (up_to_kept K (bounds kind) (map_front (before_it b)) (map_front place.later ++ on_count ∷ []) (on_block b) (split_up kind steps reader (before_it b) place.later b place.splits) all)
    where
      map_front : List kind.Bound → List (TextBound kind.Bound)
      map_front bs = map on_block bs

      before_it : kind.Bound → List kind.Bound
      before_it bound = before kind.flaw_of kind.bounds bound
  kept_at K all on_count = last_kept K (map on_block kind.bounds) on_count all

  -- blocks that have the line next exceed the bound for which it is refused
  record IsPassed (blocks : List (Block kind.Tree)) (flaw : Flaw) : Type 0 where
    bound : TextBound kind.Bound
    is : flaw ≡ flaw_of kind bound
    passed : Keeps kind blocks bound → ⊥

  is_passed : (front : List Line) (p : Progress Begun Value) (line : Line) (flaw : Flaw) (T : List (TextBound kind.Bound)) → run (step_at steps) beginning front ≡ Ok p → step steps p.values p.place line ≡ Err flaw
      → (goes : GoesOn kind T (front ++ line ∷ [])) → IsPassed goes.blocks flaw
  is_passed front p line flaw T read refused goes =
      let stops : run (step_at steps) beginning ((front ++ line ∷ []) ++ goes.more) ≡ Err flaw = rw append_assoc (run_past (step_at steps) beginning p front line goes.more flaw read refused) in
      by_cases (rw stops at (text_meets kind steps reader ((front ++ line ∷ []) ++ goes.more) goes.blocks goes.are_blocks))
    where
      by_cases : {P : Progress Begun Value → Type 0} → Meets (flaw_of kind) (Keeps kind goes.blocks) P (Err flaw) → IsPassed goes.blocks flaw
      by_cases (meets.reads q is known) = absurd (cc)
      by_cases (meets.passes bound is passed) = record { bound = bound; is = cc; passed = passed }

  pub is_flawed : (front : List Line) (p : Progress Begun Value) (line : Line) (flaw : Flaw) → run (step_at steps) beginning front ≡ Ok p → step steps p.values p.place line ≡ Err flaw → IsFlawed kind front line flaw
  is_flawed front p line flaw read refused = by_cases (goes_on_before kind steps reader front p line flaw (stands front p read) refused)
    where
      by_cases : (flaw ≡ BadLine) ⊎ GoesUpTo kind steps reader (front ++ line ∷ []) flaw → IsFlawed kind front line flaw
      by_cases (inl bad) = misfit bad (λ goes. let passed = is_passed front p line flaw [] read refused goes in no_misfit passed.bound (sym bad ∙ passed.is))
      by_cases (inr found) = passes found.earlier found.later found.bound found.splits found.told found.goes (λ goes.
          let passed = is_passed front p line flaw (found.earlier ++ found.bound ∷ []) read refused goes in
          let same : found.bound ≡ passed.bound = same_bound found.bound passed.bound (sym found.told ∙ passed.is) in
          passed.passed (subst (Keeps kind goes.blocks) same (last_kept (Keeps kind goes.blocks) found.earlier found.bound goes.keeps)))

  -- a line that is flawed is refused
  pub is_refused : (front : List Line) (p : Progress Begun Value) (line : Line) (flaw : Flaw) → run (step_at steps) beginning front ≡ Ok p → IsFlawed kind front line flaw → step steps p.values p.place line ≡ Err flaw
  is_refused front p line flaw read flawed = by_cases (step steps p.values p.place line) refl
    where
      stops : IsFlawed kind front line flaw → GoesOn kind (bounds kind) (front ++ line ∷ []) → ⊥
      stops (misfit bad none) goes = none (goes_on_within_none kind (bounds kind) (front ++ line ∷ []) goes)
      stops (passes earlier later bound splits told front_goes none) goes = none (goes_on_up_to kind earlier later bound (front ++ line ∷ []) splits goes)

      by_cases : (r : Result (Progress Begun Value) Flaw) → step steps p.values p.place line ≡ r → step steps p.values p.place line ≡ Err flaw
      by_cases (Ok q) is = absurd (stops flawed (goes_on kind steps reader (front ++ line ∷ []) q (stands_next kind steps reader front p q line (stands front p read) is)))
      by_cases (Err g) is = is ∙ ap Err (one_flaw kind front line g flaw (is_flawed front p line g read is) flawed)

  -- lines within all bounds are read
  pub goes_read : (ls : List Line) → GoesOn kind (bounds kind) ls → (p : Progress Begun Value) × (run (step_at steps) beginning ls ≡ Ok p)
  goes_read ls goes = by_cases (text_meets kind steps reader (ls ++ goes.more) goes.blocks goes.are_blocks)
    where
      by_cases : {P : Progress Begun Value → Type 0} → Meets (flaw_of kind) (Keeps kind goes.blocks) P (run (step_at steps) beginning (ls ++ goes.more)) → (p : Progress Begun Value) × (run (step_at steps) beginning ls ≡ Ok p)
      by_cases (meets.reads q is known) = bind_ok (run (step_at steps) beginning ls) (λ p. run (step_at steps) p goes.more) q (rw run-append at is) (λ p p_is rest. (p, p_is))
      by_cases (meets.passes bound is passed) = absurd (passed (kept_at (Keeps kind goes.blocks) goes.keeps bound))

  -- blocks within all bounds are read as their values
  pub blocks_read : (ls : List Line) (text : List (Block kind.Tree)) (values : List Value) → AreBlocks kind ls text → ((bound : TextBound kind.Bound) → Keeps kind text bound) → AllZip kind.Says (own_in text) values
      → run (step_at steps) beginning ls ≡ Ok (progress values at.Outside)
  blocks_read ls text values are_blocks within says = by_cases (text_meets kind steps reader ls text are_blocks)
    where
      by_cases : Meets (flaw_of kind) (Keeps kind text) (AreRead kind steps reader [] text) (run (step_at steps) beginning ls) → run (step_at steps) beginning ls ≡ Ok (progress values at.Outside)
      by_cases (meets.reads q is known) = is ∙ ap Ok (known.is ∙ ap (λ vs. progress vs at.Outside) (AllZip-unique kind.Says reader.unique (own_in text) known.values values known.say says))
      by_cases (meets.passes bound is passed) = absurd (passed (within bound))

  -- lines that are read and end inside a block are no blocks
  pub is_cut_off : (ls : List Line) (values : List Value) (place : Place Begun) → run (step_at steps) beginning ls ≡ Ok (progress values place) → ended values place ≡ Err truncated → IsCutOff kind ls
  is_cut_off ls values place read inside =
      record { sound = goes_on kind steps reader ls (progress values place) (stands ls (progress values place) read); cut = λ text are_blocks. none (text_meets kind steps reader ls text are_blocks) }
    where
      none : {text : List (Block kind.Tree)} → Meets (flaw_of kind) (Keeps kind text) (AreRead kind steps reader [] text) (run (step_at steps) beginning ls) → ⊥
      none (meets.reads q is known) =
          let same : progress values place ≡ progress known.values at.Outside = (let found : progress values place ≡ q = cc in found ∙ known.is) in
          let outside : place ≡ at.Outside = ap (λ (p : Progress Begun Value). p.place) same in
          let ends : ◌≡◌ {A = Result (List Value) Fault} (Ok values) (Err truncated) = rw outside at inside in absurd (cc)
      none (meets.passes bound is passed) = absurd (cc)
