-- A line that is wrong at its place in a block: it does not fit the grammar, or it is the first that passes a bound.
use Rattle.certificate_text.proofs.Prelude.{◌≡◌, ◌⊎◌, inl, inr, ◌+◌, ℕ, pos, List, [], ◌∷◌, ◌++◌, Some, None, Err, IsTrue, refl, sym, ap, ap₂, ◌∙◌, subst, length, nat_le, codes, All, option_map, All-nil, All-cons, All-replicate, Declaration, Lemma, Format, Plain, Lemmas, Flaw, BadLine, NumberTooLarge, TooMany, Size, Opened, asked, is_number, number_within, number_limit, integer_limit, integer_of, claim_of, Line, claim_line, RowTokens, row_limit, is_value, is_row, denominator_of, lemma_digits, lemma_scale_of, goal_digits, goal_scale_of, lemmas, row_line, head_line, denominator_line, Bound, names, numbers, words, rows, rows_in, HasNames, IsWithin, IsScaledOf, flaw_of, KeepsOne, lemma_of, lemma_row, by_test, bind_err, asked_ok, asked_err, number_unsaid, zip_length, IsStopped, passes, stopped_by, certificate_kind}
use Rattle.std.proofs.Common.{append-nil}
use Rattle.certificate_text.proofs.LineTrees.{lemma_is, goal_is}
use Rattle.certificate_text.proofs.RowTrees.{before, RowsWithin, Pass, HaveSize, integer_is_within}
use Rattle.certificate_text.proofs.OpenBlocks.{block_of, lead_outside, lead_block, lines_are, more_lines, scaled_by, lemma_made, IsHeaded, IsClaimed, IsOpened, Lead, lead_lines, IsNext, rows_of, rows_are, begin_shortest, shortest}
use Rattle.certificate_text.proofs.NextLines.{behind, IsRowJudged, unfit, halts, grows, lemma_row_judged, integer_in}

pub too_large : (digits : List ℕ) (flaw : Flaw) → integer_of digits ≡ Err flaw → flaw ≡ NumberTooLarge
too_large digits flaw read = asked_err NumberTooLarge (option_map pos (number_within integer_limit digits)) flaw read

-- the line is a row, and the rows pass a bound with it
pub record RowPasses (ds : List Declaration) (before : List RowTokens) (line : Line) (flaw : Flaw) : Type 0 where
  pub row : RowTokens
  pub line_is : line ≡ row_line row
  pub is_row : IsTrue (is_row row)
  pub pass : Pass ds flaw (before ++ row ∷ [])

-- what was wrong with a row of a lemma or of the goal
pub row_passes : (ds : List Declaration) (size : Size) (l : Lemma) (before : List RowTokens) (line : Line) (flaw : Flaw) → HaveSize ds size before → lemma_row ds size l line ≡ Err flaw → (flaw ≡ BadLine) ⊎ RowPasses ds before line flaw
row_passes ds size l before line flaw have made = by_row (lemma_row_judged ds size (λ larger row. (larger, lemma_of l.scale (l.rows ++ row ∷ []))) before line have)
  where
    by_row : IsRowJudged ds Lemmas lemma_made (λ row. row.left) (λ row. row.right) (λ larger row. (larger, lemma_of l.scale (l.rows ++ row ∷ []))) size before line (lemma_row ds size l line) → (flaw ≡ BadLine) ⊎ RowPasses ds before line flaw
    by_row (unfit e) = inl (cc)
    by_row (halts told row e line_is is pass) = let same : told ≡ flaw = cc in inr (record { row = row; line_is = line_is; is_row = is; pass = subst (λ f. Pass ds f (before ++ row ∷ [])) same pass })
    by_row (grows row larger c e line_is is said grown_have) = absurd (cc)

-- the first line of the goal, of which the scale is too large
pub record IsGoalLarge (line : Line) (flaw : Flaw) : Type 0 where
  pub digits : List ℕ
  pub line_is : line ≡ codes "goal" ∷ codes "scale" ∷ digits ∷ []
  pub number : IsTrue (is_number digits)
  pub large : flaw ≡ NumberTooLarge

pub goal_unread : (line : Line) (flaw : Flaw) → goal_scale_of line ≡ Err flaw → (flaw ≡ BadLine) ⊎ IsGoalLarge line flaw
goal_unread line flaw read =
    bind_err (asked BadLine (goal_digits line)) integer_of flaw read (λ e. inl (asked_err BadLine (goal_digits line) flaw e)) (λ digits there large.
    let known = goal_is line digits (asked_ok BadLine (goal_digits line) digits there) in
    inr (record { digits = digits; line_is = known.0; number = known.1; large = too_large digits flaw large }))

-- the first line of the lemma after so many others, whose scale is too large, or that is one too many
pub record IsLemmaPast (before : ℕ) (line : Line) (flaw : Flaw) : Type 0 where
  pub number : List ℕ
  pub digits : List ℕ
  pub line_is : line ≡ codes "lemma" ∷ number ∷ codes "scale" ∷ digits ∷ []
  pub next : IsTrue (is_value (before + 1) number)
  pub scale : IsTrue (is_number digits)
  pub past : (flaw ≡ NumberTooLarge) ⊎ ((flaw ≡ TooMany row_limit) × IsWithin integer_limit digits)

pub lemma_unread : (before : ℕ) (line : Line) (flaw : Flaw) → lemma_scale_of before line ≡ Err flaw → (flaw ≡ BadLine) ⊎ IsLemmaPast before line flaw
lemma_unread before line flaw read =
    bind_err (asked BadLine (lemma_digits (before + 1) line)) _ flaw read (λ e. inl (asked_err BadLine (lemma_digits (before + 1) line) flaw e)) (λ digits there read_scale.
    let known = lemma_is (before + 1) line digits (asked_ok BadLine (lemma_digits (before + 1) line) digits there) in
    let found : (flaw ≡ NumberTooLarge) ⊎ ((flaw ≡ TooMany row_limit) × IsWithin integer_limit digits) → IsLemmaPast before line flaw =
    λ past. record { number = known.0; digits = digits; line_is = known.1; next = known.2; scale = known.3; past = past } in
    bind_err (integer_of digits) _ flaw read_scale (λ large. inr (found (inl (too_large digits flaw large)))) (λ scale value read_room.
    by_test (nat_le row_limit before) _ _ (Err flaw) read_room (λ many e. inr (found (inr (cc, integer_is_within digits scale value)))) (λ few e. absurd (cc))))

module _ (most : Format) (ds : List Declaration) (flaw : Flaw) (front : List Line) (line : Line) where
  abbrev Stopped : Type 0
  Stopped = IsStopped (certificate_kind most ds) flaw (front ++ line ∷ [])

  -- the head
  shortest_names : (form : Format) (claim denominator : List ℕ) → All (λ bound. KeepsOne ds bound (shortest form claim denominator)) (before numbers)
  shortest_names Plain claim denominator = All-replicate (λ bound. KeepsOne ds bound (shortest Plain claim denominator)) 1 names (All-nil (HasNames ds))
  shortest_names Lemmas claim denominator = All-replicate (λ bound. KeepsOne ds bound (shortest Lemmas claim denominator)) 1 names (All-nil (HasNames ds))

  pub stopped_headed : (form : Format) → IsHeaded most form front → claim_of line ≡ Err flaw → Stopped
  stopped_headed form headed read = stopped_by (certificate_kind most ds) flaw _ (number_unsaid (codes "claim") (number_within number_limit) line flaw read) (λ found.
      passes numbers found.0
      (begin_shortest most ds form found.1.digits (codes "1") (front ++ line ∷ []) (denominator_line (codes "1") ∷ [])
      (ap (λ ls. ls ++ denominator_line (codes "1") ∷ []) (behind front (head_line form ∷ []) line (claim_line found.1.digits) headed.are found.1.is)) headed.read found.1.number refl
      (before numbers) (shortest_names form found.1.digits (codes "1"))))

  pub stopped_claimed : (form : Format) (n : ℕ) → IsClaimed most form n front → denominator_of line ≡ Err flaw → Stopped
  stopped_claimed form n claimed read = stopped_by (certificate_kind most ds) flaw _ (number_unsaid (codes "denominator") integer_in line flaw read) (λ found.
      passes numbers found.0
      (begin_shortest most ds form claimed.claim found.1.digits (front ++ line ∷ []) []
      (append-nil (front ++ line ∷ []) ∙ behind front (head_line form ∷ claim_line claimed.claim ∷ []) line (denominator_line found.1.digits) claimed.are found.1.is) claimed.read claimed.claim_number found.1.number
      (before numbers) (shortest_names form claimed.claim found.1.digits)))

  -- lemmas and the goal
  module _ (o : Opened) (opened : IsOpened most ds o front) where
    -- the first line of a lemma or of the goal
    module _ (lead : Lead) (digits : List ℕ) (next : IsNext lead opened.done.tokens) (number : IsTrue (is_number digits)) (line_is : line ∷ [] ≡ lead_lines lead (scaled_by digits [])) where
      abbrev LedKeeps : Bound → Type 0
      LedKeeps bound = KeepsOne ds bound (block_of most ds opened.head opened.done lead (scaled_by digits []))

      led_rows : (bound : Bound) → RowsWithin ds (rows_in (block_of most ds opened.head opened.done lead (scaled_by digits []))) bound
      led_rows bound =
          subst (λ rs. RowsWithin ds rs bound) (sym (append-nil (rows_of opened.done.tokens)) ∙ sym (rows_are opened.head.claim opened.head.denominator opened.done.tokens lead (scaled_by digits []))) (opened.have.keep bound)

      stopped_lead : (bound : Bound) → flaw ≡ flaw_of bound → All LedKeeps (before bound) → Stopped
      stopped_lead bound told keeps =
          let more = more_lines opened.head.claim opened.head.denominator opened.done.tokens lead in
          passes bound told (record {
            tree = block_of most ds opened.head opened.done lead (scaled_by digits []);
            more = more;
            are =
                lines_are opened.head.claim opened.head.denominator opened.done.tokens lead (scaled_by digits [])
                ∙ ap (λ ls. ls ++ more) (ap₂ (λ (ls ms : List Line). ls ++ ms) (sym opened.are) (sym line_is));
            is_tree = lead_block most ds opened.head opened.done lead (scaled_by digits []) opened.read next (record { scale = number; rows = All-nil (λ t. IsTrue (is_row t)) });
            keeps = keeps;
          })

      stopped_large : flaw ≡ NumberTooLarge → Stopped
      stopped_large large = stopped_lead numbers large (All-replicate LedKeeps 1 names (led_rows names))

      stopped_many : IsWithin integer_limit digits → flaw ≡ TooMany row_limit → Stopped
      stopped_many within many =
          stopped_lead rows many
          (All-cons LedKeeps names (numbers ∷ words ∷ []) (led_rows names)
          (All-cons LedKeeps numbers (words ∷ []) (lead_outside most ds opened.head opened.done lead (scaled_by digits []) within, led_rows numbers) (All-replicate LedKeeps 1 words (led_rows words))))

    pub stopped_goal : goal_scale_of line ≡ Err flaw → Stopped
    stopped_goal read = stopped_by (certificate_kind most ds) flaw _ (goal_unread line flaw read) (λ found. stopped_large None found.digits tt found.number (ap (λ l. l ∷ []) found.line_is) found.large)

    pub stopped_lemma : lemma_scale_of (length o.lemmas) line ≡ Err flaw → Stopped
    stopped_lemma read = stopped_by (certificate_kind most ds) flaw _ (lemma_unread (length o.lemmas) line flaw read) (λ found. by_past found found.past)
      where
        next : (found : IsLemmaPast (length o.lemmas) line flaw) → IsNext (Some found.number) opened.done.tokens
        next found = subst (λ n. IsTrue (is_value (n + 1) found.number)) (sym (zip_length (λ k lemma. IsScaledOf ds k.scaled lemma) opened.done.tokens o.lemmas opened.done.values)) found.next

        by_past : (found : IsLemmaPast (length o.lemmas) line flaw) → (flaw ≡ NumberTooLarge) ⊎ ((flaw ≡ TooMany row_limit) × IsWithin integer_limit found.digits) → Stopped
        by_past found (inl large) = stopped_large (Some found.number) found.digits (next found) found.scale (ap (λ l. l ∷ []) found.line_is) large
        by_past found (inr many) = stopped_many (Some found.number) found.digits (next found) found.scale (ap (λ l. l ∷ []) found.line_is) many.1 many.0
