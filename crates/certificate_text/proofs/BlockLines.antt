-- Certificates that keep bounds are read.
use Rattle.certificate_text.proofs.Prelude.{◌≡◌, ◌<◌, ◌≤◌, ◌+◌, ℕ, ℤ, pos, false, List, [], ◌∷◌, ◌++◌, Some, Result, Ok, Err, IsTrue, arith, refl, sym, subst, length, map, codes, add-zero, All, AllZip, option_map, lt-leb, append_assoc, append-nil, All-cons, All-head, All-tail, All-append, All-map, All-weaker, Declaration, CertRow, Lemma, Evidence, Format, Plain, Lemmas, Size, Opened, Stage, Flaw, ◌>>=◌, is_number, number_within, number_limit, integer_limit, begins, integer_of, Line, claim_line, is_end, RowTokens, row_limit, lemma_scale_of, goal_scale_of, is_value, is_row, row_values, over_lemma, no_rows, grown, ScaledTokens, LemmaTokens, PlainTokens, LemmasTokens, BlockTokens, row_line, denominator_line, lemma_lines, goal_lines, certificate_lines, IsBlock, IsPlainRow, AreLemmas, IsPlainBlock, IsLemmasBlock, Bound, flaw_of, IsWithin, HasNumbersOutside, rows_in, IsScaledOf, IsCertificateOf, KeepsOne, step, begun, finish, scaled, closed_by, resized, certificate_of, opened_of, lemma_of, lemma_row, certificate_steps, run, run-append, read_inside, read_block, read_inside-run, Meets, reads, then_meets, meets-weaker, asked_meets, unless_meets, AllZip-weaker, flat_map}
use Rattle.std.proofs.Common.{length-append}
use Rattle.traced_rows.specs.declared.evidence.Evidence.TheVariants as evidence
use Rattle.certificate_text.specs.declared.place.Stage.TheVariants as at
use Rattle.certificate_text.specs.Blocks as tokens
use Rattle.certificate_text.specs.Bounds as bound
use Rattle.certificate_text.proofs.RowLines.{row_line_read, lemma_row_line_read}
use Rattle.certificate_text.proofs.OpenBlocks.{IsMadeBy, plain_row, lemma_made}
use Rattle.certificate_text.proofs.RowValues.{RowsFit, with_rows, with_rows-append, rows_fit_parts, TakesRow, rows_meet}

-- a size, and the place after it
size_steps : {S M E F : Type 0} (size : Result S F) (made : S → M) (behind : M → E) → ((size >>= λ s. Ok (made s)) >>= λ m. Ok (behind m)) ≡ (size >>= λ s. Ok (behind (made s)))
size_steps (Ok s) made behind = refl
size_steps (Err f) made behind = refl

-- a row, the size with it, and the place after it
row_steps : {A B S M E F : Type 0} (row : Result A F) (view : A → B) (size : B → Result S F) (made : S → B → M) (behind : M → E)
    → (((row >>= λ a. Ok (view a)) >>= λ b. (size b >>= λ s. Ok (made s b))) >>= λ m. Ok (behind m)) ≡ (row >>= λ a. (size (view a) >>= λ s. Ok (behind (made s (view a)))))
row_steps (Ok a) view size made behind = size_steps (size (view a)) (λ s. made s (view a)) behind
row_steps (Err f) view size made behind = refl

-- the line of a row of a lemma, and the place after it
pub lemma_row_takes : {E : Type 0} (ds : List Declaration) (r : RowTokens) → IsTrue (is_row r) → (size : Size) (l : Lemma) (place : Size → Lemma → E)
    → (lemma_row ds size l (row_line r) >>= λ next. Ok (place next.0 next.1))
    ≡ (row_values ds r >>= λ row. (grown size row.left row.right >>= λ larger. Ok (place larger (lemma_of l.scale (l.rows ++ over_lemma r.lemma row ∷ [])))))
lemma_row_takes ds r row size l place =
    rw (lemma_row_line_read ds r row) (row_steps (row_values ds r) (over_lemma r.lemma) (λ made. grown size made.left made.right) (λ larger made. (larger, lemma_of l.scale (l.rows ++ made ∷ []))) (λ next. place next.0 next.1))

-- no line of a certificate is `end`
abbrev pub GoesOn : Line → Type 0
GoesOn line = is_end line ≡ false

pub rows_go_on : (rs : List RowTokens) → All GoesOn (map row_line rs)
rows_go_on rs = All-map GoesOn row_line rs (λ k r below. refl)

pub behind_rows : (rs : List RowTokens) (lines : List Line) → All GoesOn lines → All GoesOn (map row_line rs ++ lines)
behind_rows rs lines rest = All-append GoesOn (map row_line rs) lines (rows_go_on rs) rest

lemmas_go_on : (ls : List LemmaTokens) (goal : ScaledTokens) → All GoesOn (flat_map lemma_lines ls ++ goal_lines goal)
lemmas_go_on [] goal = All-cons GoesOn _ _ refl (rows_go_on goal.rows)
lemmas_go_on (l ∷ ls) goal =
    subst (All GoesOn) (sym (append_assoc (lemma_lines l) (flat_map lemma_lines ls) (goal_lines goal)))
    (All-cons GoesOn _ _ refl (behind_rows l.scaled.rows (flat_map lemma_lines ls ++ goal_lines goal) (lemmas_go_on ls goal)))

-- numbers outside of rows
module _ (K : Bound → Type 0) where
  pub integer_meets : (digits : List ℕ) → (K bound.numbers → IsWithin integer_limit digits) → Meets flaw_of K (λ z. integer_of digits ≡ Ok z) (integer_of digits)
  integer_meets digits within =
      meets-weaker (asked_meets K bound.numbers (option_map pos (number_within integer_limit digits)) (λ kept. let n = within kept in (pos n.0, rw n.1 refl))) (λ z is _. is)

  claim_meets : (ds : List Declaration) (form : Format) (n : List ℕ) → IsTrue (is_number n) → (K bound.numbers → IsWithin number_limit n)
      → Meets flaw_of K (λ q. (k : ℕ) × (number_within number_limit n ≡ Some k) × (q ≡ (at.Claimed form k))) (step ds (at.Headed form) (claim_line n))
  claim_meets ds form n number within = rw number (then_meets _ (asked_meets K bound.numbers (number_within number_limit n) within) (λ k _ k_is. reads _ refl (k, k_is, refl)))

  -- after the head and the claim
  denominator_meets : (ds : List Declaration) (form : Format) (k : ℕ) (d : List ℕ) → IsTrue (is_number d) → (K bound.numbers → IsWithin integer_limit d)
      → Meets flaw_of K (λ q. (z : ℤ) × (integer_of d ≡ Ok z) × (q ≡ (begun form k z))) (step ds (at.Claimed form k) (denominator_line d))
  denominator_meets ds form k d number within = rw number (then_meets _ (integer_meets d within) (λ z _ z_is. reads _ refl (z, z_is, refl)))

  -- a certificate of format 1
  module _ (ds : List Declaration) where
    -- the block may end here, and says this
    abbrev IsBlockRead : BlockTokens → Stage → Type 0
    IsBlockRead b q = (e : Evidence) × (finish q ≡ Some e) × IsCertificateOf ds b e

    -- after the denominator of a certificate
    behind_numbers : (form : Format) (claim denominator : List ℕ) (lines : List Line) (P : Stage → Type 0) → IsTrue (is_number claim) → IsTrue (is_number denominator)
        → (K bound.numbers → IsWithin number_limit claim) → (K bound.numbers → IsWithin integer_limit denominator)
        → ((k : ℕ) (z : ℤ) → number_within number_limit claim ≡ Some k → integer_of denominator ≡ Ok z → Meets flaw_of K P (run (step ds) (begun form k z) lines))
        → Meets flaw_of K P (run (step ds) (at.Headed form) (claim_line claim ∷ denominator_line denominator ∷ lines))
    behind_numbers form claim denominator lines P claim_number denominator_number claim_within denominator_within next =
        then_meets _ (claim_meets ds form claim claim_number claim_within) (λ p _ p_is.
        rw p_is.2 (then_meets _ (denominator_meets ds form p_is.0 denominator denominator_number denominator_within) (λ q _ q_is.
        rw q_is.2 (next p_is.0 q_is.0 p_is.1 q_is.1))))

    abbrev plain_place : ℕ → ℤ → Size → List CertRow → Stage
    plain_place k z size rows = at.Rows (certificate_of k z rows) size

    takes_plain : (k : ℕ) (z : ℤ) (r : RowTokens) → IsPlainRow r → TakesRow (step ds) K ds (plain_place k z) plain_row r
    takes_plain k z r plain size front = rw (row_line_read ds r plain) refl

    plain_meets : (b : PlainTokens) → IsPlainBlock b → (K bound.numbers → HasNumbersOutside (tokens.plain b)) → RowsFit K ds no_rows b.rows
        → Meets flaw_of K (IsBlockRead (tokens.plain b)) (run (step ds) (at.Headed Plain) (claim_line b.claim ∷ denominator_line b.denominator ∷ map row_line b.rows))
    plain_meets b block numbers keep =
        behind_numbers Plain b.claim b.denominator (map row_line b.rows) (IsBlockRead (tokens.plain b)) block.claim block.denominator (λ kept. (numbers kept).0) (λ kept. (numbers kept).1) (λ k z k_is z_is.
        meets-weaker (rows_meet (step ds) K ds (plain_place k z) plain_row no_rows [] b.rows (All-weaker IsPlainRow _ (takes_plain k z) b.rows block.rows) keep) (λ q _ read. (
          evidence.Plain (certificate_of k z read.rows),
          rw read.is refl,
          record {
            claim = k_is;
            denominator = z_is;
            rows = AllZip-weaker (IsMadeBy ds plain_row) _ (λ r row made. rw made.2 made.1) b.rows read.rows read.are_made;
          },
        )))

    -- a certificate of format 2
    -- at this place the next lemma or the goal may begin
    abbrev Waits : Opened → Stage → Type 0
    Waits o place = (line : Line) → begins (codes "row") line ≡ false → step ds place line ≡ scaled o line

    waits_in_lemma : (o : Opened) (l : Lemma) → Waits (closed_by o l) (at.Lemma o l)
    waits_in_lemma o l line no_row = rw no_row refl

    pub scale_meets : (before : ℕ) (l : LemmaTokens) → IsTrue (is_value (before + 1) l.number) → IsTrue (is_number l.scaled.scale) → (K bound.numbers → IsWithin integer_limit l.scaled.scale) → (K bound.rows → before < row_limit)
        → Meets flaw_of K (λ scale. integer_of l.scaled.scale ≡ Ok scale) (lemma_scale_of before (codes "lemma" ∷ l.number ∷ codes "scale" ∷ l.scaled.scale ∷ []))
    scale_meets before l numbered number within few =
        rw (numbered, number) (then_meets _ (integer_meets l.scaled.scale within) (λ scale _ scale_is. unless_meets bound.rows _ _ (λ kept. lt-leb row_limit before (few kept)) (reads _ refl scale_is)))

    -- the rows of a lemma or of the goal behind its scale, by the place where they stand
    module _ (stands : Opened → Lemma → Stage) (steps_on : (o : Opened) (l : Lemma) (r : RowTokens) → step ds (stands o l) (row_line r) ≡ (lemma_row ds o.size l (row_line r) >>= λ next. Ok (stands (resized o next.0) next.1))) where
      record ScaledIsRead (o : Opened) (s : ScaledTokens) (q : Stage) : Type 0 where
        said : Lemma
        is_said : IsScaledOf ds s said
        is : q ≡ stands (resized o (with_rows o.size s.rows)) said

      scaled_meets : (o : Opened) (place : Stage) (s : ScaledTokens) (line : Line) (scale_of : Result ℤ Flaw) → step ds place line ≡ (scale_of >>= λ scale. Ok (stands o (lemma_of scale [])))
          → Meets flaw_of K (λ scale. integer_of s.scale ≡ Ok scale) scale_of → All (λ r. IsTrue (is_row r)) s.rows → RowsFit K ds o.size s.rows → Meets flaw_of K (ScaledIsRead o s) (run (step ds) place (line ∷ map row_line s.rows))
      scaled_meets o place s line scale_of opens first rows keep =
          rw opens (then_meets _
          (then_meets {Q = λ q. (scale : ℤ) × (integer_of s.scale ≡ Ok scale) × (q ≡ stands o (lemma_of scale []))} _ first (λ scale _ is. reads _ refl (scale, is, refl))) (λ p _ begins.
          rw begins.2 (meets-weaker
          (rows_meet (step ds) K ds (λ size cs. stands (resized o size) (lemma_of begins.0 cs)) lemma_made o.size [] s.rows
          (All-weaker (λ r. IsTrue (is_row r)) (TakesRow (step ds) K ds (λ size cs. stands (resized o size) (lemma_of begins.0 cs)) lemma_made) (λ r row size cs. rw (steps_on (resized o size) (lemma_of begins.0 cs) r) (lemma_row_takes ds r row size (lemma_of begins.0 cs) (λ larger l. stands (resized o larger) l))) s.rows rows) keep)
          (λ q _ read. record { said = lemma_of begins.0 read.rows; is_said = record { scale = begins.1; rows = read.are_made }; is = read.is }))))

    -- what is read of lemmas
    record LemmasAreRead (o : Opened) (ls : List LemmaTokens) (q : Stage) : Type 0 where
      lemmas : List Lemma
      are_lemmas : AllZip (λ l lemma. IsScaledOf ds l.scaled lemma) ls lemmas
      waits : Waits (opened_of o.claim o.denominator (o.lemmas ++ lemmas) (with_rows o.size (flat_map (λ l. l.scaled.rows) ls))) q

    lemmas_meet : (o : Opened) (place : Stage) (ls : List LemmaTokens) → Waits o place → AreLemmas (length o.lemmas + 1) ls → (K bound.numbers → All (λ l. IsWithin integer_limit l.scaled.scale) ls)
        → (K bound.rows → length o.lemmas + length ls ≤ row_limit) → RowsFit K ds o.size (flat_map (λ l. l.scaled.rows) ls) → Meets flaw_of K (LemmasAreRead o ls) (run (step ds) place (flat_map lemma_lines ls))
    lemmas_meet o place [] waits numbered within few keep = reads _ refl (record { lemmas = []; are_lemmas = tt; waits = rw (append-nil o.lemmas, add-zero o.size.rows, add-zero o.size.letters) waits })
    lemmas_meet o place (l ∷ ls) waits numbered within few keep =
        let parts = rows_fit_parts K ds o.size l.scaled.rows (flat_map (λ l. l.scaled.rows) ls) keep in
        let line : Line = codes "lemma" ∷ l.number ∷ codes "scale" ∷ l.scaled.scale ∷ [] in
        rw (run-append (step ds) place (lemma_lines l) (flat_map lemma_lines ls))
        (then_meets _
        (scaled_meets at.Lemma (λ o l r. refl) o place l.scaled line (lemma_scale_of (length o.lemmas) line) (waits line refl)
        (scale_meets (length o.lemmas) l numbered.0 numbered.1.scale (λ kept. All-head (λ l. IsWithin integer_limit l.scaled.scale) l ls (within kept)) (λ kept. omega (arith, few kept))) numbered.1.rows parts.0)
        (λ p _ one.
        let next : length o.lemmas + 1 + 1 ≡ length (o.lemmas ++ one.said ∷ []) + 1 = omega (arith, length-append o.lemmas (one.said ∷ [])) in
        let grown : Opened = resized o (with_rows o.size l.scaled.rows) in
        rw one.is (meets-weaker
        (lemmas_meet (closed_by grown one.said) (at.Lemma grown one.said) ls (waits_in_lemma grown one.said)
        (rw next at numbered.2) (λ kept. All-tail (λ l. IsWithin integer_limit l.scaled.scale) l ls (within kept)) (λ kept. omega (arith, few kept, length-append o.lemmas (one.said ∷ []))) parts.1)
        (λ q _ read. record {
          lemmas = one.said ∷ read.lemmas;
          are_lemmas = (one.is_said, read.are_lemmas);
          waits = rw (← with_rows-append o.size l.scaled.rows (flat_map (λ l. l.scaled.rows) ls), ← append_assoc o.lemmas (one.said ∷ []) read.lemmas) read.waits;
        }))))

    lemmas_meets : (b : LemmasTokens) → IsLemmasBlock b → (K bound.numbers → HasNumbersOutside (tokens.lemmas b)) → (K bound.rows → length b.lemmas ≤ row_limit) → RowsFit K ds no_rows (rows_in (tokens.lemmas b))
        → Meets flaw_of K (IsBlockRead (tokens.lemmas b)) (run (step ds) (at.Headed Lemmas) (claim_line b.claim ∷ denominator_line b.denominator ∷ (flat_map lemma_lines b.lemmas ++ goal_lines b.goal)))
    lemmas_meets b block numbers few_lemmas keep =
        let parts = rows_fit_parts K ds no_rows (flat_map (λ l. l.scaled.rows) b.lemmas) b.goal.rows keep in
        let line : Line = codes "goal" ∷ codes "scale" ∷ b.goal.scale ∷ [] in
        behind_numbers Lemmas b.claim b.denominator (flat_map lemma_lines b.lemmas ++ goal_lines b.goal) (IsBlockRead (tokens.lemmas b)) block.claim block.denominator
        (λ kept. (numbers kept).0) (λ kept. (numbers kept).1) (λ k z k_is z_is.
        rw (run-append (step ds) (begun Lemmas k z) (flat_map lemma_lines b.lemmas) (goal_lines b.goal))
        (then_meets _
        (lemmas_meet (opened_of k z [] no_rows) (begun Lemmas k z) b.lemmas (λ line no_row. refl) block.lemmas (λ kept. (numbers kept).2) (λ kept. omega (arith, few_lemmas kept)) parts.0)
        (λ q _ read. meets-weaker
        (scaled_meets at.Goal (λ o l r. refl) (opened_of k z read.lemmas (with_rows no_rows (flat_map (λ l. l.scaled.rows) b.lemmas))) q b.goal line (goal_scale_of line) (read.waits line refl)
        (rw block.goal.scale (integer_meets b.goal.scale (λ kept. (numbers kept).3))) block.goal.rows parts.1)
        (λ p _ goal_is. (
          evidence.Lemmas (record { claim = k; denominator = z; lemmas = read.lemmas; goal = goal_is.said }),
          rw goal_is.is refl,
          record { claim = k_is; denominator = z_is; lemmas = read.are_lemmas; goal = goal_is.is_said },
        )))))

    -- either
    rows_fit : (b : BlockTokens) → ((bound : Bound) → K bound → KeepsOne ds bound b) → RowsFit K ds no_rows (rows_in b)
    rows_fit b keeps = record {
      names = λ kept. keeps bound.names kept;
      numbers = λ kept. (keeps bound.numbers kept).1;
      words = λ kept. keeps bound.words kept;
      rows = λ kept. omega (arith, (keeps bound.rows kept).0);
      letters = λ kept. omega (arith, keeps bound.letters kept);
    }

    -- the lines after the head are read, and what they are
    read_by : (most form : Format) (b : BlockTokens) (lines : List Line) → All (λ line. is_end line ≡ false) lines → Meets flaw_of K (IsBlockRead b) (run (step ds) (at.Headed form) lines)
        → Meets flaw_of K (IsCertificateOf ds b) (read_inside (certificate_steps most ds) (at.Headed form) lines)
    read_by most form b lines none met =
        rw (read_inside-run (certificate_steps most ds) (at.Headed form) lines none) (then_meets _ met (λ q _ read. rw read.1 (reads read.0 refl read.2)))

    pub block_meets : (most : Format) (b : BlockTokens) → IsBlock most b → ((bound : Bound) → K bound → KeepsOne ds bound b) → Meets flaw_of K (IsCertificateOf ds b) (read_block (certificate_steps most ds) (certificate_lines b))
    block_meets most (tokens.plain b) block keeps =
        read_by most Plain (tokens.plain b) (claim_line b.claim ∷ denominator_line b.denominator ∷ map row_line b.rows)
        (All-cons GoesOn (claim_line b.claim) (denominator_line b.denominator ∷ map row_line b.rows) refl (All-cons GoesOn (denominator_line b.denominator) (map row_line b.rows) refl (rows_go_on b.rows)))
        (plain_meets b block (λ kept. (keeps bound.numbers kept).0) (rows_fit (tokens.plain b) keeps))
    block_meets Plain (tokens.lemmas b) block keeps = absurd block
    block_meets Lemmas (tokens.lemmas b) block keeps =
        read_by Lemmas Lemmas (tokens.lemmas b) (claim_line b.claim ∷ denominator_line b.denominator ∷ (flat_map lemma_lines b.lemmas ++ goal_lines b.goal))
        (All-cons GoesOn (claim_line b.claim) (denominator_line b.denominator ∷ (flat_map lemma_lines b.lemmas ++ goal_lines b.goal)) refl
        (All-cons GoesOn (denominator_line b.denominator) (flat_map lemma_lines b.lemmas ++ goal_lines b.goal) refl (lemmas_go_on b.lemmas b.goal)))
        (lemmas_meets b block (λ kept. (keeps bound.numbers kept).0) (λ kept. (keeps bound.rows kept).1) (rows_fit (tokens.lemmas b) keeps))
