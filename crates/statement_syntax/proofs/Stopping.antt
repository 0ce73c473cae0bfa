-- The loop over the tokens of a file, and what its end says of the bytes.
use Rattle.statement_syntax.proofs.Prelude.{◌≡◌, ℕ, List, [], ◌∷◌, ◌++◌, inl, inr, Ok, Err, refl, sym, ap, subst, ◌∙◌, append_assoc, append-nil, map-append, IsUtf8, chars, Spot, Token, Language, kind, Statement, Expected, TooDeep, line, Progress, Fault, fault, SyntaxFault, refusal, Stop, stop, Explains, run, language_of, AreTokens, IsFirstScanFault, sign_token, StatedLine, IsFileOf, file_tokens, FileFits, stated_tree, file_tree, line_end, ended, file_step, GoesOn, GoesOnWithin, IsMisfit, IsFirstFault, no_token, not_utf8, expected, too_deep, TellsFirstFault, IsWantOfMemory, fault_at, IsStatements, IsTreeOf, first_statements, begun, left, StoppedAt, AllRead, Refused, IsRefusal, read_are, tokens_are_unique, tokens_have_no_fault}
use Rattle.statement_syntax.proofs.Run.{IfDeep, if_deep, bind_ok, ok_is, run-append, run_front, one_step, upto_ok}
use Rattle.statement_syntax.proofs.LastToken.{EndsWell, ends_from, rest_ends}
use Rattle.statement_syntax.proofs.LineReads.{LineReads}
use Rattle.statement_syntax.proofs.FirstLine.{file_language, Divided, Behind, divided}
use Rattle.statement_syntax.proofs.FileReads.{FileReads, run_reads, file_on, file_misfit, lines_run, in_file, file_tokens-append, FileFits-append, file_deeper}

-- the loop's run over tokens
abbrev pub Runs : List Token → List Token → Progress → Type 0
Runs ts front p = run (file_step (language_of ts)) (begun ts) front ≡ Ok p

pub goes_on : (ts front : List Token) (t : Token) (p next : Progress) → Runs ts front p → file_step (language_of ts) p t ≡ Ok next → Runs ts (front ++ t ∷ []) next
unfolding run
goes_on ts front t p next ran goes = run_front (file_step (language_of ts)) (begun ts) front p (t ∷ []) ran ∙ one_step (file_step (language_of ts)) p next t [] goes

pub stops_at : (ts front : List Token) (t : Token) (rest : List Token) (p : Progress) (why : Stop Fault) (refused : SyntaxFault) → left ts ≡ front ++ t ∷ rest → Runs ts front p
    → Explains (λ fault. file_step (language_of ts) p t ≡ Err fault) why → IsRefusal why t.at refused → Refused ts refused
stops_at ts front t rest p (stop.Memory error) (refusal.Memory e) splits ran fails tells = tt
stops_at ts front t rest p (stop.Memory error) (refusal.Fault code l c) splits ran fails tells = absurd tells
stops_at ts front t rest p (stop.Fault f) refused splits ran fails tells = subst (Refused ts) (sym tells) (record {
  front = front;
  token = t;
  rest = rest;
  splits = splits;
  progress = p;
  ran = ran;
  misfit = f;
  stops = fails;
  tells = refl;
})

-- after all tokens no line is left open
module _ (language : Language) where
  end_starts : (mid p : Progress) (at : Spot) → run (file_step language) mid (sign_token kind.End at ∷ []) ≡ Ok p → p.line ≡ line.Start
  unfolding run
  end_starts mid p at ran =
      let one = bind_ok (ended mid) (λ q. run (file_step language) q []) p ran in
      let s = bind_ok (line_end mid.line) (λ s. Ok (record { statements = mid.statements ++ s ∷ []; line = line.Start })) one.0 one.1 in
      ap (λ (q : Progress). q.line) (sym (ok_is _ _ s.2 ∙ ok_is _ _ one.2))

  closed_by : (before : List Statement) (ts : List Token) (p : Progress) → EndsWell 0 ts → run (file_step language) (in_file before line.Start) ts ≡ Ok p → p.line ≡ line.Start
  unfolding run
  closed_by before ts p (inl loop) ran = ap (λ (q : Progress). q.line) (sym (ok_is (in_file before line.Start) p (sym (ap (run (file_step language) (in_file before line.Start)) loop.1) ∙ ran)))
  closed_by before ts p (inr loop) ran =
      let end = sign_token kind.End loop.1 ∷ [] in
      let start = in_file before line.Start in
      let parts = bind_ok (run (file_step language) start loop.0) (λ mid. run (file_step language) mid end) p
      (sym (ap (run (file_step language) start) loop.2 ∙ run-append (file_step language) start loop.0 end) ∙ ran) in
      end_starts parts.0 p loop.1 parts.2

-- the tokens without the line that names the language
own : (ts : List Token) → Divided (language_of ts) ts
own ts = divided (language_of ts) ts refl

-- with the line that names the language before them
with_first : (ts front more : List Token) (lines : List StatedLine) → front ++ more ≡ file_tokens lines → (file_tokens (own ts).lines ++ front) ++ more ≡ file_tokens ((own ts).lines ++ lines)
with_first ts front more lines is =
    append_assoc (file_tokens (own ts).lines) front more ∙ ap (λ x. file_tokens (own ts).lines ++ x) is ∙ sym (file_tokens-append (own ts).lines lines)

pub is_found : (bytes : List ℕ) (ts : List Token) (statements : List Statement) → IsUtf8 bytes → AreTokens (chars bytes) ts → AllRead ts statements → IsTreeOf bytes statements
is_found bytes ts statements utf8 read loop =
    let language = language_of ts in
    let before = first_statements language ts in
    let first = own ts in
    let well = ends_from [] (chars bytes) 0 (record { line = 1; column = 1 }) 0 ts (read_are (chars bytes) ts read) in
    let start = closed_by language before (left ts) loop.0 (rest_ends (file_tokens first.lines) (left ts) (subst (EndsWell 0) first.are well)) loop.1 in
    let all = run_reads language before loop.0 (left ts) loop.1 in
    let none : all.now ≡ [] = subst (λ line. LineReads language line all.now) start all.reads in
    let are : left ts ≡ file_tokens all.lines = all.are ∙ ap (λ x. file_tokens all.lines ++ x) none ∙ append-nil (file_tokens all.lines) in (
      first.lines ++ all.lines,
      record {
        utf8 = utf8;
        tokens = subst (AreTokens (chars bytes)) (first.are ∙ ap (λ x. file_tokens first.lines ++ x) are ∙ sym (file_tokens-append first.lines all.lines)) read;
        language = language;
        speaks = first.joins all.lines all.speak;
        fits = FileFits-append first.lines all.lines first.fits all.fits;
      },
      loop.2 ∙ all.trees ∙ ap (λ x. x ++ file_tree all.lines) first.trees ∙ sym (map-append (λ l. stated_tree l.stated) first.lines all.lines),
    )

-- a file's lines are that line and those after it
lines_are : (bytes : List ℕ) (ts : List Token) (lines : List StatedLine) → AreTokens (chars bytes) ts → IsStatements bytes lines → Behind (language_of ts) (own ts).lines lines (left ts)
lines_are bytes ts lines read is =
    let tokens : ts ≡ file_tokens lines = tokens_are_unique (chars bytes) ts (file_tokens lines) read is.tokens in
    let language : is.language ≡ language_of ts = sym (ap language_of tokens ∙ file_language is.language lines is.speaks) in
    (own ts).parts lines (subst (λ l. IsFileOf l lines) language is.speaks) (left ts) (sym (own ts).are ∙ tokens)

pub is_only : (bytes : List ℕ) (ts : List Token) (statements : List Statement) → AreTokens (chars bytes) ts → AllRead ts statements → (lines : List StatedLine) → IsStatements bytes lines → statements ≡ file_tree lines
is_only bytes ts statements read loop lines is =
    let language = language_of ts in
    let before = first_statements language ts in
    let parts = lines_are bytes ts lines read is in
    let same = upto_ok _ (in_file (before ++ file_tree parts.others) line.Start) loop.0 (lines_run language before parts.others parts.speak)
    (ap (run (file_step language) (begun ts)) (sym parts.are) ∙ loop.1) in
    loop.2 ∙ ap (λ (p : Progress). p.statements) (sym same.1) ∙ ap (λ x. x ++ file_tree parts.others) (own ts).trees ∙ sym parts.trees

-- the token at which the loop stopped is the first misfit
module _ (ts : List Token) (refused : SyntaxFault) (loop : StoppedAt ts refused) where
  abbrev before : List Statement
  before = first_statements (language_of ts) ts

  -- all tokens before it
  abbrev front : List Token
  front = file_tokens (own ts).lines ++ loop.front

  all : ts ≡ front ++ loop.token ∷ loop.rest
  all = (own ts).are ∙ ap (λ x. file_tokens (own ts).lines ++ x) loop.splits ∙ sym (append_assoc (file_tokens (own ts).lines) loop.front (loop.token ∷ loop.rest))

  read_so : FileReads (language_of ts) before loop.progress loop.front
  read_so = run_reads (language_of ts) before loop.progress loop.front loop.ran

  goes : GoesOnWithin (language_of ts) front
  goes =
      let on = file_on (language_of ts) before loop.progress loop.front read_so in
      (on.0, (own ts).lines ++ on.1, (own ts).joins on.1 on.2, FileFits-append (own ts).lines on.1 (own ts).fits on.3, with_first ts loop.front on.0 on.1 on.4)

  -- with it only lines that are not within the limit, and that only where it is a bracket that is too deep
  stuck : (more : List Token) (lines : List StatedLine) → IsFileOf (language_of ts) lines → (front ++ loop.token ∷ []) ++ more ≡ file_tokens lines → (FileFits lines → ⊥) × (loop.misfit ≡ TooDeep)
  stuck more lines speaks is =
      let parts = (own ts).parts lines speaks (loop.front ++ loop.token ∷ more)
      (sym (append_assoc (file_tokens (own ts).lines) loop.front (loop.token ∷ more)) ∙ sym (append_assoc front (loop.token ∷ []) more) ∙ is) in
      let misfit = file_misfit (language_of ts) before loop.front loop.progress loop.token loop.misfit loop.ran loop.stops more parts.others parts.speak parts.are in
      (λ fits. misfit.0 (parts.fits fits), misfit.1)

  deeper : (f : Fault) → loop.misfit ≡ f → IfDeep (GoesOn (language_of ts) (front ++ loop.token ∷ [])) f
  deeper f is =
      let shown = append_assoc (file_tokens (own ts).lines) loop.front (loop.token ∷ []) in
      if_deep f (file_deeper (language_of ts) before loop.progress loop.front loop.token f read_so (loop.stops ∙ ap (λ x. Err x) is)) (λ on.
      (on.0, (own ts).lines ++ on.1, (own ts).joins on.1 on.2, ap (λ (x : List Token). x ++ on.0) shown ∙ with_first ts (loop.front ++ loop.token ∷ []) on.0 on.1 on.3))

  -- so within the language of all tokens
  misfit_of : (bytes : List ℕ) → IsUtf8 bytes → AreTokens (chars bytes) ts → IsMisfit bytes loop.token.at
  misfit_of bytes utf8 read = record {
    utf8 = utf8;
    front = front;
    token = loop.token;
    rest = loop.rest;
    tokens = subst (AreTokens (chars bytes)) all read;
    place = refl;
    before = subst (λ l. GoesOnWithin l front) (ap language_of all) goes;
    there = λ on. (stuck on.0 on.1 (subst (λ l. IsFileOf l on.1) (sym (ap language_of all)) on.2) on.4).0 on.3;
  }

  tells_by : (bytes : List ℕ) (f : Fault) → IsUtf8 bytes → AreTokens (chars bytes) ts → loop.misfit ≡ f → TellsFirstFault bytes (fault_at f loop.token.at)
  unfolding misfit_of
  tells_by bytes Expected utf8 read is = (
    fault.Expected,
    refl,
    expected refl (misfit_of bytes utf8 read) (λ on. let deep = (stuck on.0 on.1 (subst (λ l. IsFileOf l on.1) (sym (ap language_of all)) on.2) on.3).1 in absurd cc),
  )
  tells_by bytes TooDeep utf8 read is =
      (fault.TooDeep, refl, too_deep refl (misfit_of bytes utf8 read) (subst (λ l. GoesOn l (front ++ loop.token ∷ [])) (ap language_of all) (deeper TooDeep is)))
  tells_by bytes f utf8 read is = absurd (deeper f is)

pub is_first : (bytes : List ℕ) (ts : List Token) (refused : SyntaxFault) → IsUtf8 bytes → AreTokens (chars bytes) ts → Refused ts refused → TellsFirstFault bytes refused
is_first bytes ts (refusal.Memory e) utf8 read loop = tt
is_first bytes ts (refusal.Fault code l c) utf8 read loop =
    subst (TellsFirstFault bytes) (sym loop.tells) (tells_by ts (refusal.Fault code l c) loop bytes loop.misfit utf8 read refl)

-- the first fault of the characters is that of the bytes
pub told_scanned : (bytes : List ℕ) (told : SyntaxFault) (f : Fault) (at : Spot) → told ≡ fault_at f at → IsUtf8 bytes → IsFirstScanFault (chars bytes) f at → TellsFirstFault bytes told
told_scanned bytes told f at is utf8 first = subst (TellsFirstFault bytes) (sym is) (f, refl, no_token utf8 first)

-- statements have no fault
no_misfit : (bytes : List ℕ) (lines : List StatedLine) (at : Spot) → IsMisfit bytes at → IsStatements bytes lines → ⊥
no_misfit bytes lines at m is =
    let all : m.front ++ m.token ∷ m.rest ≡ file_tokens lines = tokens_are_unique (chars bytes) _ _ m.tokens is.tokens in
    let language : language_of (m.front ++ m.token ∷ m.rest) ≡ is.language = ap language_of all ∙ file_language is.language lines is.speaks in
    m.there (m.rest, lines, subst (λ l. IsFileOf l lines) (sym language) is.speaks, is.fits, append_assoc m.front (m.token ∷ []) m.rest ∙ all)

pub no_first : (bytes : List ℕ) (lines : List StatedLine) (f : Fault) (at : Spot) → IsFirstFault bytes f at → IsStatements bytes lines → ⊥
no_first bytes lines f at (not_utf8 is_fault bad place) is = bad is.utf8
no_first bytes lines f at (no_token utf8 first) is = tokens_have_no_fault (chars bytes) _ _ at is.tokens first
no_first bytes lines f at (expected is_fault m ends) is = no_misfit bytes lines at m is
no_first bytes lines f at (too_deep is_fault m goes) is = no_misfit bytes lines at m is

pub want_alone : (bytes : List ℕ) (lines : List StatedLine) (refused : SyntaxFault) → TellsFirstFault bytes refused → IsStatements bytes lines → IsWantOfMemory refused
want_alone bytes lines (refusal.Memory e) tells is = tt
want_alone bytes lines (refusal.Fault code l c) tells is = no_first bytes lines tells.0 (record { line = l; column = c }) tells.2 is
