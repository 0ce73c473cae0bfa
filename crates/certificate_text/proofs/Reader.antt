-- The reader of certificates owes what a reader of blocks owes.
use Rattle.certificate_text.proofs.Prelude.{◌≡◌, ◌++◌, ◌∷◌, [], ℕ, Bool, true, false, List, Some, None, Result, Ok, Err, refl, sym, ap, ◌∙◌, subst, codes, length, if◌then◌else◌, Declaration, Lemma, Evidence, Format, Plain, Lemmas, Flaw, BadLine, Line, claim_line, begins, claim_of, is_other_head, bound_of, Begins, IsWhole, IsStopped, misfit, IsReader, AllZip-weaker, ◌>>=◌, by_test, bind_assoc, ok_has, Size, Opened, Stage, RowTokens, is_plain_head, is_lemmas_head, denominator_of, goal_scale_of, lemma_scale_of, row_values, lemma_row_of, grown, CertRow, denominator_line, lemmas, head_line, Bound, names, bounds, flaw_of, other_words, certificate_kind, lemmas_headed, begin, begun, certificate_of, lemma_of, closed_by, resized, scaled, lemma_row, next, finish, lemma_certificate_of, certificate_steps}
use Rattle.traced_rows.specs.declared.evidence.Evidence.TheVariants as evidence
use Rattle.certificate_text.specs.declared.place.Stage.TheVariants as at
use Rattle.certificate_text.proofs.BlockLines.{block_meets}
use Rattle.certificate_text.proofs.FlawedLines.{stopped_headed, stopped_claimed, stopped_goal, stopped_lemma}
use Rattle.certificate_text.proofs.LineTrees.{plain_head_is, lemmas_head_is}
use Rattle.certificate_text.proofs.NextLines.{IsRowJudged, unfit, halts, grows, row_judged, lemma_row_judged, next_headed, next_claimed, next_goal, next_lemma, lemma_finished}
use Rattle.certificate_text.proofs.OneCertificate.{same_certificate}
use Rattle.certificate_text.proofs.OpenBlocks.{IsMadeBy, RowPlace, HasRows, rows_begin, rows_end, rows_more, rows_stop, plain_row, Lead, IsRead, IsOpened, IsInside, IsOpen, begin_within, begin_opened, unit_within}

ok_again : {A F : Type 0} (r : Result A F) → r ≡ (r >>= λ x. Ok x)
ok_again (Ok x) = refl
ok_again (Err e) = refl

-- each has a bound of its own
told : (b : Bound) → bound_of flaw_of bounds (flaw_of b) ≡ Some b
told names = refl
told b = refl

-- no head is one of a block of another kind
no_other : (form : Format) → is_other_head other_words (head_line form) ≡ false
no_other Plain = refl
no_other Lemmas = refl

-- where format 2 is read
lemmas_by : (most : Format) (s : Stage) → lemmas_headed most ≡ Some s → IsRead most Lemmas × (at.Headed Lemmas ≡ s)
lemmas_by Plain s made = absurd (cc)
lemmas_by Lemmas s made = (tt, cc)

module _ (most : Format) (ds : List Declaration) where
  headed : (form : Format) (line : Line) (s : Stage) → line ≡ head_line form → IsRead most form → at.Headed form ≡ s → (is_other_head other_words line ≡ false) × IsOpen most ds s (line ∷ [])
  headed form line s is read same = (rw is (no_other form), subst (λ (t : Stage). IsOpen most ds t (line ∷ [])) same (record { read = read; are = ap (λ l. l ∷ []) is }))

  begins_head : (line : Line) (s : Stage) → begin most line ≡ Some s → (is_other_head other_words line ≡ false) × IsOpen most ds s (line ∷ [])
  begins_head line s made =
      by_test (is_plain_head line) _ _ (Some s) made (λ is same. headed Plain line s (plain_head_is line is) tt (cc)) (λ no_plain made_on.
      by_test (is_lemmas_head line) _ _ (Some s) made_on (λ is same. let found = lemmas_by most s same in headed Lemmas line s (lemmas_head_is line is) found.0 found.1) (λ no_lemmas none. absurd (cc)))

  module _ (front : List Line) (line : Line) where
    -- what is made of the line: the next place, or the first flaw
    data IsJudged (r : Result Stage Flaw) : Type 0 where
      opened : (s : Stage) → r ≡ Ok s → IsOpen most ds s (front ++ line ∷ []) → IsJudged r
      stopped : (f : Flaw) → r ≡ Err f → IsStopped (certificate_kind most ds) f (front ++ line ∷ []) → IsJudged r

    judged : {A : Type 0} (r : Result A Flaw) (f : A → Result Stage Flaw) → ((e : Flaw) → r ≡ Err e → IsStopped (certificate_kind most ds) e (front ++ line ∷ [])) → ((x : A) → r ≡ Ok x → IsJudged (f x)) → IsJudged (r >>= f)
    judged (Ok x) f stops opens = opens x refl
    judged (Err e) f stops opens = stopped e refl (stops e refl)

    by_word : (b : Bool) (r q : Result Stage Flaw) → IsJudged r → IsJudged q → IsJudged (if b then r else q)
    by_word true r q one other = one
    by_word false r q one other = other

    by_row : {form : Format} {place : RowPlace most ds form} {C : Type 0} {made : RowTokens → CertRow → C} {left right : C → List ℕ} {put : Size → C → Stage} {size : Size} {cs : List C} (here : HasRows place made size cs front) (r : Result Stage Flaw)
        → ((next : Size) (c : C) → HasRows place made next (cs ++ c ∷ []) (front ++ line ∷ []) → IsOpen most ds (put next c) (front ++ line ∷ [])) → IsRowJudged ds form made left right put size (place.earlier ++ here.tokens) line r → IsJudged r
    by_row here r opens (unfit e) = stopped BadLine e (misfit refl)
    by_row here r opens (halts f row e line_is is pass) = stopped f e (rows_stop _ here row line line_is is f pass)
    by_row here r opens (grows row next c e line_is is said have) = opened _ e (opens next c (rows_more _ here row line line_is is next c said have))

    judged_scaled : (o : Opened) → IsOpened most ds o front → IsJudged (scaled o line)
    judged_scaled o here =
        by_word (begins (codes "goal") line) _ _
        (judged (goal_scale_of line) _ (λ e. stopped_goal most ds e front line o here) (λ scale scale_is. opened (at.Goal o (lemma_of scale [])) refl (next_goal most ds o front line scale here scale_is)))
        (judged (lemma_scale_of (length o.lemmas) line) _ (λ e. stopped_lemma most ds e front line o here) (λ scale scale_is. opened (at.Lemma o (lemma_of scale [])) refl (next_lemma most ds o front line scale here scale_is)))

    judged_row : (o : Opened) (l : Lemma) (lead : Lead) (put : Opened → Lemma → Stage) → ((p : Opened) (k : Lemma) → IsInside most ds p k lead (front ++ line ∷ []) → IsOpen most ds (put p k) (front ++ line ∷ [])) → IsInside most ds o l lead front
        → IsJudged (lemma_row ds o.size l line >>= λ next. Ok (put (resized o next.0) next.1))
    judged_row o l lead put opens (leading, here) =
        subst IsJudged (bind_assoc (lemma_row_of ds line) _ (λ next. Ok (put (resized o next.0) next.1)) _ (λ row. bind_assoc (grown o.size row.left row.right) _ (λ next. Ok (put (resized o next.0) next.1)) _ (λ larger. refl)))
        (by_row here _ (λ next c rows. opens (resized o next) (lemma_of l.scale (l.rows ++ c ∷ [])) (leading, rows))
        (lemma_row_judged ds o.size (λ larger row. put (resized o larger) (lemma_of l.scale (l.rows ++ row ∷ []))) _ line here.have))

    judge : (s : Stage) → IsOpen most ds s front → IsJudged (next ds s line)
    judge (at.Headed form) here = judged (claim_of line) _ (λ e. stopped_headed most ds e front line form here) (λ n n_is. opened (at.Claimed form n) refl (next_headed most form front line n here n_is))
    judge (at.Claimed form n) here = judged (denominator_of line) _ (λ e. stopped_claimed most ds e front line form n here) (λ d d_is. opened (begun form n d) refl (next_claimed most ds form front line n d here d_is))
    judge (at.Rows c size) (head, here) =
        by_row here _ (λ next row rows. (head, rows))
        (row_judged ds Plain plain_row (λ row. row.left) (λ row. row.right) (λ larger row. at.Rows (certificate_of c.claim c.denominator (c.rows ++ row ∷ [])) larger) size _ line (row_values ds) (λ r. ok_again (row_values ds r)) (λ r row. refl) here.have)
    judge (at.Opened o) here = judged_scaled o here
    judge (at.Lemma o l) (number, here) =
        by_word (begins (codes "row") line) _ _ (judged_row o l (Some number) at.Lemma (λ p k inside. (number, inside)) here) (judged_scaled (closed_by o l) (lemma_finished most ds o l number front here))
    judge (at.Goal o goal) here = judged_row o goal None at.Goal (λ p k inside. inside) here

    goes : (s t : Stage) → next ds s line ≡ Ok t → IsJudged (next ds s line) → IsOpen most ds t (front ++ line ∷ [])
    goes s t made (opened u e is_open) = ok_has (λ v. IsOpen most ds v (front ++ line ∷ [])) u t (sym e ∙ made) is_open
    goes s t made (stopped f e stops) = absurd (cc)

    stops_at : (s : Stage) (f : Flaw) → next ds s line ≡ Err f → IsJudged (next ds s line) → IsStopped (certificate_kind most ds) f (front ++ line ∷ [])
    stops_at s f made (opened u e is_open) = absurd (cc)
    stops_at s f made (stopped g e stops) = let same : g ≡ f = cc in subst (λ h. IsStopped (certificate_kind most ds) h (front ++ line ∷ [])) same stops

  goes_on : (s : Stage) (front : List Line) → IsOpen most ds s front → Begins (certificate_kind most ds) bounds front
  goes_on (at.Headed form) front is_open =
      begin_within most ds form (codes "1") (codes "1") front (claim_line (codes "1") ∷ denominator_line (codes "1") ∷ []) (ap (λ ls. ls ++ claim_line (codes "1") ∷ denominator_line (codes "1") ∷ []) is_open.are) is_open.read refl refl (1, refl) unit_within
  goes_on (at.Claimed form n) front is_open =
      begin_within most ds form is_open.claim (codes "1") front (denominator_line (codes "1") ∷ []) (ap (λ ls. ls ++ denominator_line (codes "1") ∷ []) is_open.are) is_open.read is_open.claim_number refl (n, is_open.claim_value) unit_within
  goes_on (at.Rows c size) front is_open = rows_begin _ is_open.1
  goes_on (at.Opened o) front is_open = begin_opened most ds o front is_open
  goes_on (at.Lemma o l) front is_open = rows_begin _ is_open.1.1
  goes_on (at.Goal o goal) front is_open = rows_begin _ is_open.1

  ends : (s : Stage) (front : List Line) (e : Evidence) → IsOpen most ds s front → finish s ≡ Some e → IsWhole (certificate_kind most ds) front e
  ends (at.Headed form) front e is_open read = absurd (cc)
  ends (at.Claimed form n) front e is_open read = absurd (cc)
  ends (at.Rows c size) front e (head, here) read =
      let same : evidence.Plain c ≡ e = cc in
      subst (IsWhole (certificate_kind most ds) front) same (rows_end _ here (evidence.Plain c) refl (record {
        claim = head.claim_value;
        denominator = head.denominator_value;
        rows = AllZip-weaker (IsMadeBy ds plain_row) (λ r row. row_values ds r ≡ Ok row) (λ r row said. rw said.2 said.1) here.tokens c.rows here.say;
      }))
  ends (at.Opened o) front e is_open read = absurd (cc)
  ends (at.Lemma o l) front e is_open read = absurd (cc)
  ends (at.Goal o goal) front e (leading, here) read =
      let same : evidence.Lemmas (lemma_certificate_of o goal) ≡ e = cc in
      subst (IsWhole (certificate_kind most ds) front) same (rows_end _ here (evidence.Lemmas (lemma_certificate_of o goal)) refl (record {
        claim = leading.head.claim_value;
        denominator = leading.head.denominator_value;
        lemmas = leading.done.values;
        goal = record { scale = leading.value; rows = here.say };
      }))

  pub reader : IsReader (certificate_kind most ds) (certificate_steps most ds)
  reader = record {
    told = told;
    none_told = (refl, refl);
    others = refl;
    words = refl;
    IsOpen = IsOpen most ds;
    begins = begins_head;
    goes = λ s t front line is_open more made. goes front line s t made (judge front line s is_open);
    goes_on = goes_on;
    ends = ends;
    stops = λ s front line flaw is_open more made. stops_at front line s flaw made (judge front line s is_open);
    reads = λ K t is keeps. block_meets K ds most t is keeps;
    unique = same_certificate ds;
  }
