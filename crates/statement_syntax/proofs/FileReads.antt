-- Lines are read one by one: what was read is written so, can go on, and where a token is a misfit nothing goes on with it.
use Rattle.statement_syntax.proofs.Prelude.{◌≡◌, List, [], ◌∷◌, ◌++◌, inl, inr, Option, Some, None, Result, Ok, Err, refl, sym, ap, subst, ◌∙◌, append_assoc, append-nil, map-append, Spot, Token, Language, TokenKind, kind, Name, Number, Statement, Fault, Expected, TooDeep, rest, Line, line, Progress, ◌>>=◌, run, sign_token, Stated, stated_tokens, StatedLine, AreLinesOf, file_tokens, FileFits, stated_tree, file_tree, Lined, pairs_by, line_step, file_step}
use Rattle.statement_syntax.proofs.Run.{IfDeep, if_deep, Upto, then_on, before_it, after_it, run_upto, inside_upto, one_step, failing, run_front, bind_ok, ok_is}
use Rattle.statement_syntax.proofs.Viable.{somewhere}
use Rattle.statement_syntax.proofs.LineReads.{LineReads, Grows, line_grows}
use Rattle.statement_syntax.proofs.LineEnds.{EndsAs, line_ends, line_on}
use Rattle.statement_syntax.proofs.LineRuns.{by_token, no_line_sign, end_line, stated_run, stated_end}

-- the end of a line is a step of no line
pairs_no_end : (ps : List (Name × Number)) (half : Option Name) (t : Spot) → pairs_by ps half kind.End t ≡ Err Expected
pairs_no_end ps None t = refl
pairs_no_end ps half t = refl

line_no_end : (language : Language) (l : Line) (t : Spot) → line_step language l kind.End t ≡ Err Expected
line_no_end language (line.Map at names rest.Names) t = refl
line_no_end language (line.Sides w at None r) t = rw ((no_line_sign r r.focus t).1) refl
line_no_end language (line.Sides w at (Some left) r) t = rw ((no_line_sign r r.focus t).1) refl
line_no_end language (line.Weights at p) t = rw (pairs_no_end p.whole p.half t) refl
line_no_end language (line.Shape at m p) t = rw (pairs_no_end p.whole p.half t) refl
line_no_end language l t = refl

-- a line inside a file
abbrev pub in_file : List Statement → Line → Progress
in_file statements l = record { statements = statements; line = l }

file_by : (language : Language) (statements : List Statement) (l : Line) (k : TokenKind) (t : Spot) (read : Lined) → line_step language l k t ≡ read
    → (read ≡ Err Expected → ⊥) → file_step language (in_file statements l) (sign_token k t) ≡ (read >>= λ x. Ok (in_file statements x))
file_by language statements l kind.End t read is other = absurd (other (sym is ∙ line_no_end language l t))
file_by language statements l k t read is other = ap (λ r. r >>= λ x. Ok (in_file statements x)) is

line_ended : (language : Language) (statements : List Statement) (s : Stated) (at : Spot)
    → file_step language (in_file statements (end_line s)) (sign_token kind.End at) ≡ Ok (in_file (statements ++ stated_tree s ∷ []) line.Start)
line_ended language statements s at = ap (λ r. r >>= λ x. Ok (in_file (statements ++ x ∷ []) line.Start)) (stated_end s)

-- the tokens of lines are read as their statements, where they are within the limit, and else stop at a bracket that is too deep
pub lines_run : (language : Language) (statements : List Statement) (lines : List StatedLine) → AreLinesOf language lines
    → Upto (FileFits lines) (run (file_step language) (in_file statements line.Start) (file_tokens lines)) (Ok (in_file (statements ++ file_tree lines) line.Start))
unfolding run
lines_run language statements [] speak = inl (tt, ap (λ x. Ok (in_file x line.Start)) (sym (append-nil statements)))
lines_run language statements (l ∷ lines) speak =
    let more : List Statement = statements ++ stated_tree l.stated ∷ [] in
    rw append_assoc
    (then_on
    (run_upto (file_step language) (in_file statements line.Start) (stated_tokens l.stated) (in_file statements (end_line l.stated))
    (sign_token kind.End l.end ∷ file_tokens lines)
    (inside_upto (by_token language) (file_step language) (in_file statements) (λ l t. file_by language statements l t.kind t.at) (stated_tokens l.stated)
    line.Start (end_line l.stated) (stated_run language l.stated speak.0)))
    (before_it (one_step (file_step language) (in_file statements (end_line l.stated)) (in_file more line.Start) (sign_token kind.End l.end)
    (file_tokens lines) (line_ended language statements l.stated l.end))
    (after_it (lines_run language more lines speak.1) (rw append_assoc refl))))

-- the lines of it after these statements
pub record FileReads (language : Language) (before : List Statement) (p : Progress) (ts : List Token) : Type 0 where
  pub lines : List StatedLine
  pub speak : AreLinesOf language lines
  pub fits : FileFits lines
  pub trees : p.statements ≡ before ++ file_tree lines
  pub now : List Token
  pub reads : LineReads language p.line now
  pub are : ts ≡ file_tokens lines ++ now

pub file_tokens-append : (ls ms : List StatedLine) → file_tokens (ls ++ ms) ≡ file_tokens ls ++ file_tokens ms
file_tokens-append [] ms = refl
file_tokens-append (l ∷ ls) ms = rw (file_tokens-append ls ms) (simp append_assoc)

pub FileFits-append : (ls ms : List StatedLine) → FileFits ls → FileFits ms → FileFits (ls ++ ms)
FileFits-append [] ms f g = g
FileFits-append (l ∷ ls) ms f g = (f.0, FileFits-append ls ms f.1 g)

pub AreLinesOf-append : (language : Language) (ls ms : List StatedLine) → AreLinesOf language ls → AreLinesOf language ms → AreLinesOf language (ls ++ ms)
AreLinesOf-append language [] ms f g = g
AreLinesOf-append language (l ∷ ls) ms f g = (f.0, AreLinesOf-append language ls ms f.1 g)

module _ (language : Language) (before : List Statement) where
  abbrev Goes : List Token → Spot → TokenKind → Result Progress Fault → Type 0
  Goes ts at k (Ok p) = FileReads language before p (ts ++ sign_token k at ∷ [])
  -- a bracket that is too deep can go on to lines, if not to some within the limit
  Goes ts at k (Err f) =
      IfDeep ((more : List Token) × (lines : List StatedLine) × AreLinesOf language lines × ((ts ++ sign_token k at ∷ []) ++ more ≡ file_tokens lines)) f

  end_goes : (p : Progress) (ts : List Token) (t : Spot) (read : FileReads language before p ts) (r : Result Statement Fault) → EndsAs language read.now r
      → Goes ts t kind.End (r >>= λ s. Ok (record { statements = p.statements ++ s ∷ []; line = line.Start }))
  end_goes p ts t read (Err f) ends = rw ends tt
  end_goes p ts t read (Ok s) ends = record {
    lines = read.lines ++ record { stated = ends.stated; end = t } ∷ [];
    speak = AreLinesOf-append language read.lines _ read.speak (ends.speaks, tt);
    fits = FileFits-append read.lines _ read.fits (ends.fits, tt);
    trees = rw (read.trees, ends.tree, map-append) (simp append_assoc);
    now = [];
    reads = refl;
    are = rw (read.are, ends.are, file_tokens-append) (simp (append-nil, append_assoc));
  }

  within_goes : (p : Progress) (ts : List Token) (t : Spot) (k : TokenKind) (read : FileReads language before p ts) (r : Lined) → Grows language read.now t k r
      → Goes ts t k (r >>= λ l. Ok (record { statements = p.statements; line = l }))
  within_goes p ts t k read (Err f) grows = if_deep f grows (λ on.
      let last : StatedLine = record { stated = on.1; end = somewhere } in (
        on.0 ++ sign_token kind.End somewhere ∷ [],
        read.lines ++ last ∷ [],
        AreLinesOf-append language read.lines (last ∷ []) read.speak (on.2, tt),
        rw (read.are, file_tokens-append, ← on.3) (simp (append-nil, append_assoc)),
      ))
  within_goes p ts t k read (Ok l) grows = record {
    lines = read.lines;
    speak = read.speak;
    fits = read.fits;
    trees = read.trees;
    now = read.now ++ sign_token k t ∷ [];
    reads = grows;
    are = rw read.are (simp append_assoc);
  }

  file_goes : (p : Progress) (ts : List Token) (t : Spot) (k : TokenKind) → FileReads language before p ts → Goes ts t k (file_step language p (sign_token k t))
  file_goes p ts t kind.End read = end_goes p ts t read _ (line_ends language p.line read.now read.reads)
  file_goes p ts t k read = within_goes p ts t k read _ (line_grows language p.line read.now t k read.reads)

  -- with a bracket that is too deep it can go on to a file that is not within the limit
  pub file_deeper : (p : Progress) (ts : List Token) (t : Token) (f : Fault) → FileReads language before p ts → file_step language p t ≡ Err f
      → IfDeep ((more : List Token) × (lines : List StatedLine) × AreLinesOf language lines × ((ts ++ t ∷ []) ++ more ≡ file_tokens lines)) f
  file_deeper p ts t f read fails = subst (Goes ts t.at t.kind) fails (file_goes p ts t.at t.kind read)

  run_reads_from : (p next : Progress) (ts us : List Token) → run (file_step language) p us ≡ Ok next → FileReads language before p ts → FileReads language before next (ts ++ us)
  unfolding run
  run_reads_from p next ts [] ran read = subst (λ x. FileReads language before x (ts ++ [])) (ok_is p next ran) (subst (FileReads language before p) (sym (append-nil ts)) read)
  run_reads_from p next ts (t ∷ us) ran read =
      let one = bind_ok (file_step language p t) (λ x. run (file_step language) x us) next ran in
      subst (FileReads language before next) (append_assoc ts (t ∷ []) us)
      (run_reads_from one.0 next (ts ++ t ∷ []) us one.2 (subst (Goes ts t.at t.kind) one.1 (file_goes p ts t.at t.kind read)))

  -- a run reads what it was given
  pub run_reads : (p : Progress) (ts : List Token) → run (file_step language) (in_file before line.Start) ts ≡ Ok p → FileReads language before p ts
  run_reads p ts ran = run_reads_from (in_file before line.Start) p [] ts ran
      (record { lines = []; speak = tt; fits = tt; trees = sym (append-nil before); now = []; reads = refl; are = refl })

  -- what was read can go on to lines within the limit
  pub file_on : (p : Progress) (ts : List Token) → FileReads language before p ts
      → (more : List Token) × (lines : List StatedLine) × AreLinesOf language lines × FileFits lines × (ts ++ more ≡ file_tokens lines)
  file_on p ts read =
      let on = line_on language p.line read.now read.reads in
      let last : StatedLine = record { stated = on.1; end = somewhere } in (
        on.0 ++ sign_token kind.End somewhere ∷ [],
        read.lines ++ last ∷ [],
        AreLinesOf-append language read.lines (last ∷ []) read.speak (on.3, tt),
        FileFits-append read.lines (last ∷ []) read.fits (on.2, tt),
        rw (read.are, file_tokens-append, ← on.4) (simp (append-nil, append_assoc)),
      )

  misfit_by : (F : Type 0) (r : Result Progress Fault) (p : Progress) (f : Fault) → r ≡ Err f → Upto F r (Ok p) → (F → ⊥) × (f ≡ TooDeep)
  misfit_by F r p f fails (inl (fits, ran)) = absurd cc
  misfit_by F r p f fails (inr (wide, ran)) = (wide, cc)

  -- where a token is a misfit no lines go on with it but some that are not within the limit, and that only where the misfit is a bracket that is too deep
  pub file_misfit : (front : List Token) (p : Progress) (t : Token) (f : Fault) → run (file_step language) (in_file before line.Start) front ≡ Ok p
      → file_step language p t ≡ Err f → (more : List Token) (lines : List StatedLine) → AreLinesOf language lines → front ++ t ∷ more ≡ file_tokens lines
      → (FileFits lines → ⊥) × (f ≡ TooDeep)
  file_misfit front p t f ran fails more lines speak is =
      misfit_by _ _ _ f
      (ap (run (file_step language) (in_file before line.Start)) (sym is) ∙ run_front (file_step language) (in_file before line.Start) front p (t ∷ more) ran
      ∙ failing (file_step language) p t more f fails) (lines_run language before lines speak)
