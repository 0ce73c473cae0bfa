-- A line that is read at its place in a block.
use Rattle.certificate_text.proofs.Prelude.{◌≡◌, ◌<◌, ◌+◌, ℕ, ℤ, pos, List, [], ◌∷◌, ◌++◌, Option, Some, None, Ok, IsTrue, arith, sym, ap, ap₂, refl, ◌∙◌, subst, length, map, Result, Err, nat_le, leb-false, codes, flat_map, option_map, flat_map-append, length-append, map-append, All-nil, All-push, Declaration, CertRow, Lemma, LemmaRow, Format, Plain, Lemmas, BadLine, NumberTooLarge, Size, Opened, Flaw, ◌>>=◌, asked, is_number, number_within, number_limit, integer_limit, integer_of, claim_of, Line, claim_line, RowTokens, row_limit, is_value, is_row, denominator_of, lemma_digits, lemma_scale_of, goal_digits, goal_scale_of, row_tokens, row_values, lemma_row_of, grown, ScaledTokens, LemmaTokens, row_line, head_line, denominator_line, lemma_lines, IsPlainRow, IsScaled, IsWithin, IsScaledOf, IsLemmaRowOf, begun, lemma_of, closed_by, lemma_row, by_test, bind_ok, asked_ok, ok_has, IsNumberLine, number_said, zip_push, zip_length}
use Rattle.std.proofs.Common.{append_assoc, append-nil}
use Rattle.certificate_text.proofs.LineTrees.{lemma_is, goal_is, IsRowOf, row_is}
use Rattle.certificate_text.proofs.RowTrees.{Pass, HaveSize, no_rows_size, IsAdded, added, unvalued, full, is_added, integer_is_within}
use Rattle.certificate_text.proofs.OpenBlocks.{IsMadeBy, IsHead, scaled_by, front_of, lemma_made, IsHeaded, IsClaimed, IsOpened, IsLed, IsInside, IsOpen, Lead, lemma_tokens, lead_lines, IsNext, IsFew, rows_of, are_lemmas-push}

-- two lists of lines with one more line
pub behind : (front other : List Line) (line last : Line) → front ≡ other → line ≡ last → front ++ line ∷ [] ≡ other ++ last ∷ []
behind front other line last same same_line = ap₂ (λ ls l. ls ++ l ∷ []) same same_line

-- the value of a denominator
abbrev pub integer_in : List ℕ → Option ℤ
integer_in digits = option_map pos (number_within integer_limit digits)

pub goal_read : (line : Line) (scale : ℤ) → goal_scale_of line ≡ Ok scale → (digits : List ℕ) × (line ≡ codes "goal" ∷ codes "scale" ∷ digits ∷ []) × IsTrue (is_number digits) × (integer_of digits ≡ Ok scale)
goal_read line scale read =
    bind_ok (asked BadLine (goal_digits line)) integer_of scale read (λ digits there within.
    let known = goal_is line digits (asked_ok BadLine (goal_digits line) digits there) in
    (digits, known.0, known.1, within))

-- the next lemma, after so many
pub record IsLemmaRead (before : ℕ) (line : Line) (scale : ℤ) : Type 0 where
  pub number : List ℕ
  pub digits : List ℕ
  pub line_is : line ≡ codes "lemma" ∷ number ∷ codes "scale" ∷ digits ∷ []
  pub next : IsTrue (is_value (before + 1) number)
  pub scale_number : IsTrue (is_number digits)
  pub scale_value : integer_of digits ≡ Ok scale
  pub few : before < row_limit

pub lemma_read : (before : ℕ) (line : Line) (scale : ℤ) → lemma_scale_of before line ≡ Ok scale → IsLemmaRead before line scale
lemma_read before line scale read =
    bind_ok (asked BadLine (lemma_digits (before + 1) line)) _ scale read (λ digits there read_scale.
    bind_ok (integer_of digits) _ scale read_scale (λ value value_is read_room.
    by_test (nat_le row_limit before) _ _ (Ok scale) read_room (λ many e. absurd (cc)) (λ few same.
    let known = lemma_is (before + 1) line digits (asked_ok BadLine (lemma_digits (before + 1) line) digits there) in
    record {
      number = known.0;
      digits = digits;
      line_is = known.1;
      next = known.2;
      scale_number = known.3;
      scale_value = value_is ∙ same;
      few = leb-false row_limit before few;
    })))

-- the head
pub next_headed : (most form : Format) (front : List Line) (line : Line) (n : ℕ) → IsHeaded most form front → claim_of line ≡ Ok n → IsClaimed most form n (front ++ line ∷ [])
next_headed most form front line n headed read =
    let known = number_said (codes "claim") (number_within number_limit) line n read in
    record {
      read = headed.read;
      claim = known.0.digits;
      claim_number = known.0.number;
      claim_value = known.1;
      are = behind front (head_line form ∷ []) line (claim_line known.0.digits) headed.are known.0.is;
    }

-- after the denominator
module _ {most form : Format} {n : ℕ} {front : List Line} (here : IsClaimed most form n front) {line : Line} {d : ℤ} (known : (found : IsNumberLine (codes "denominator") line) × (integer_in found.digits ≡ Some d)) where
  abbrev head_with : IsHead n d
  head_with = record {
    claim = here.claim;
    denominator = known.0.digits;
    claim_number = here.claim_number;
    denominator_number = known.0.number;
    claim_value = here.claim_value;
    denominator_value = ap (asked NumberTooLarge) known.1;
  }

  front_with : front ++ line ∷ [] ≡ head_line form ∷ claim_line here.claim ∷ denominator_line known.0.digits ∷ []
  front_with = behind front (head_line form ∷ claim_line here.claim ∷ []) line (denominator_line known.0.digits) here.are known.0.is

pub next_claimed : (most : Format) (ds : List Declaration) (form : Format) (front : List Line) (line : Line) (n : ℕ) (d : ℤ) → IsClaimed most form n front → denominator_of line ≡ Ok d
    → IsOpen most ds (begun form n d) (front ++ line ∷ [])
next_claimed most ds Plain front line n d here read =
    let known = number_said (codes "denominator") integer_in line d read in
    (head_with here known, record { tokens = []; each = All-nil IsPlainRow; say = tt; have = no_rows_size ds; are = front_with here known })
next_claimed most ds Lemmas front line n d here read =
    let known = number_said (codes "denominator") integer_in line d read in
    record {
      read = here.read;
      head = head_with here known;
      done = record { tokens = []; numbered = tt; scales = All-nil (λ (l : LemmaTokens). IsWithin integer_limit l.scaled.scale); values = tt };
      few = omega arith;
      have = no_rows_size ds;
      are = front_with here known;
    }

-- rows behind a scale with one more row
abbrev pub scaled_push : ScaledTokens → RowTokens → ScaledTokens
scaled_push s r = record { scale = s.scale; rows = s.rows ++ r ∷ [] }

pub lead_lines-push : (lead : Lead) (s : ScaledTokens) (r : RowTokens) → lead_lines lead s ++ row_line r ∷ [] ≡ lead_lines lead (scaled_push s r)
lead_lines-push None s r = ap (λ (ls : List Line). (codes "goal" ∷ codes "scale" ∷ s.scale ∷ []) ∷ ls) (sym (map-append row_line s.rows (r ∷ [])))
lead_lines-push (Some number) s r = ap (λ (ls : List Line). (codes "lemma" ∷ number ∷ codes "scale" ∷ s.scale ∷ []) ∷ ls) (sym (map-append row_line s.rows (r ∷ [])))

-- the same after other lines
pub lead_push : (front : List Line) (lead : Lead) (s : ScaledTokens) (r : RowTokens) → (front ++ lead_lines lead s) ++ row_line r ∷ [] ≡ front ++ lead_lines lead (scaled_push s r)
lead_push front lead s r = append_assoc front (lead_lines lead s) (row_line r ∷ []) ∙ ap (λ ls. front ++ ls) (lead_lines-push lead s r)

-- one more row of a lemma or of the goal, after other rows
pub record IsRowMore (ds : List Declaration) (s : ScaledTokens) (before : List RowTokens) (line : Line) (next : Size × Lemma) : Type 0 where
  pub row : RowTokens
  pub line_is : line ≡ row_line row
  pub scaled : IsScaled (scaled_push s row)
  pub values : IsScaledOf ds (scaled_push s row) next.1
  pub have : HaveSize ds next.0 (before ++ (scaled_push s row).rows)

pub scaled_more : (s : ScaledTokens) (r : RowTokens) → IsScaled s → IsTrue (is_row r) → IsScaled (scaled_push s r)
scaled_more s r scaled row = record { scale = scaled.scale; rows = All-push (λ t. IsTrue (is_row t)) s.rows r scaled.rows row }

-- what is read of the line of a row after others, and what is made of it and of the size with it
module _ (ds : List Declaration) (form : Format) {C E : Type 0} (made : RowTokens → CertRow → C) (left right : C → List ℕ) (put : Size → C → E) (size : Size) (before : List RowTokens) (line : Line) where
  pub data IsRowJudged (r : Result E Flaw) : Type 0 where
    unfit : r ≡ Err BadLine → IsRowJudged r
    halts : (flaw : Flaw) (row : RowTokens) → r ≡ Err flaw → line ≡ row_line row → IsRowOf form row → Pass ds flaw (before ++ row ∷ []) → IsRowJudged r
    grows : (row : RowTokens) (next : Size) (c : C) → r ≡ Ok (put next c) → line ≡ row_line row → IsRowOf form row → IsMadeBy ds made row c → HaveSize ds next (before ++ row ∷ []) → IsRowJudged r

  -- by the values of the tokens
  module _ (values : RowTokens → Result C Flaw) (valued : (r : RowTokens) → values r ≡ (row_values ds r >>= λ row. Ok (made r row)))
      (words : (r : RowTokens) (row : CertRow) → grown size (left (made r row)) (right (made r row)) ≡ grown size row.left row.right) (have : HaveSize ds size before) where
    abbrev Behind : Result C Flaw → Result E Flaw
    Behind r = r >>= λ c. (grown size (left c) (right c) >>= λ larger. Ok (put larger c))

    by_row : (r : RowTokens) → line ≡ row_line r → IsRowOf form r → IsAdded ds size before have r (row_values ds r) (λ row. grown size row.left row.right) → IsRowJudged (Behind (values r))
    by_row r line_is is (added row larger value fits grown_have) = grows r larger (made r row) (rw (valued r, value, words r row, fits) refl) line_is is (row, value, refl) grown_have
    by_row r line_is is (unvalued flaw unread pass) = halts flaw r (rw (valued r, unread) refl) line_is is pass
    by_row r line_is is (full row flaw value over pass) = halts flaw r (rw (valued r, value, words r row, over) refl) line_is is pass

    pub row_judged : IsRowJudged (Behind (asked BadLine (row_tokens form line) >>= values))
    row_judged = by_tokens (row_tokens form line) refl
      where
        by_tokens : (o : Option RowTokens) → row_tokens form line ≡ o → IsRowJudged (Behind (asked BadLine o >>= values))
        by_tokens None none = unfit refl
        by_tokens (Some r) there = let known = row_is form line r there in by_row r known.0 known.1 (is_added ds size before have r)

-- a row of a lemma or of the goal
pub lemma_row_judged : {E : Type 0} (ds : List Declaration) (size : Size) (put : Size → LemmaRow → E) (before : List RowTokens) (line : Line) → HaveSize ds size before
    → IsRowJudged ds Lemmas lemma_made (λ row. row.left) (λ row. row.right) put size before line (lemma_row_of ds line >>= λ row. (grown size row.left row.right >>= λ larger. Ok (put larger row)))
lemma_row_judged ds size put before line have =
    row_judged ds Lemmas lemma_made (λ row. row.left) (λ row. row.right) put size before line (λ r. (row_values ds r >>= λ row. Ok (lemma_made r row))) (λ r. refl) (λ r row. refl) have

pub row_more : (ds : List Declaration) (size : Size) (l : Lemma) (s : ScaledTokens) (before : List RowTokens) (line : Line) (next : Size × Lemma) → IsScaled s → IsScaledOf ds s l → HaveSize ds size (before ++ s.rows)
    → lemma_row ds size l line ≡ Ok next → IsRowMore ds s before line next
row_more ds size l s before line next scaled values have made = by_row (lemma_row_judged ds size (λ larger row. (larger, lemma_of l.scale (l.rows ++ row ∷ []))) (before ++ s.rows) line have)
  where
    by_row : IsRowJudged ds Lemmas lemma_made (λ row. row.left) (λ row. row.right) (λ larger row. (larger, lemma_of l.scale (l.rows ++ row ∷ []))) size (before ++ s.rows) line (lemma_row ds size l line) → IsRowMore ds s before line next
    by_row (unfit e) = absurd (cc)
    by_row (halts flaw row e line_is is pass) = absurd (cc)
    by_row (grows row larger c e line_is is said grown_have) =
        ok_has (IsRowMore ds s before line) (larger, lemma_of l.scale (l.rows ++ c ∷ [])) next (sym e ∙ made) (record {
          row = row;
          line_is = line_is;
          scaled = scaled_more s row scaled is;
          values = record { scale = values.scale; rows = zip_push (IsLemmaRowOf ds) s.rows l.rows row c values.rows said };
          have = subst (HaveSize ds larger) (append_assoc before s.rows (row ∷ [])) grown_have;
        })

-- the lemma or the goal with the row
abbrev pub led_more : (ds : List Declaration) (s : ScaledTokens) (before : List RowTokens) (line : Line) (next : Size × Lemma) → IsRowMore ds s before line next → IsLed ds next.0 next.1 before
led_more ds s before line next more = record { tokens = scaled_push s more.row; scaled = more.scaled; values = more.values; have = more.have }

-- a lemma or the goal without rows
abbrev pub led_first : (ds : List Declaration) (size : Size) (digits : List ℕ) (scale : ℤ) (before : List RowTokens) → IsTrue (is_number digits) → integer_of digits ≡ Ok scale → HaveSize ds size before
    → IsLed ds size (lemma_of scale []) before
led_first ds size digits scale before number value have = record {
  tokens = record { scale = digits; rows = [] };
  scaled = record { scale = number; rows = All-nil (λ t. IsTrue (is_row t)) };
  values = record { scale = value; rows = tt };
  have = subst (HaveSize ds size) (sym (append-nil before)) have;
}

-- lemmas and the goal
module _ (most : Format) (ds : List Declaration) where
  -- after the last row of a lemma
  pub lemma_finished : (o : Opened) (l : Lemma) (number : List ℕ) (front : List Line) → IsInside most ds o l (Some number) front → IsOpened most ds (closed_by o l) front
  lemma_finished o l number front (leading, here) =
      let done = leading.done in
      let last : LemmaTokens = lemma_tokens number (scaled_by leading.digits here.tokens) in
      record {
        read = leading.read;
        head = leading.head;
        done = record {
          tokens = done.tokens ++ last ∷ [];
          numbered = are_lemmas-push 1 (length done.tokens + 1) done.tokens last (omega arith) done.numbered leading.next (record { scale = leading.number; rows = here.each });
          scales = All-push (λ (k : LemmaTokens). IsWithin integer_limit k.scaled.scale) done.tokens last done.scales (integer_is_within leading.digits l.scale leading.value);
          values = zip_push (λ k lemma. IsScaledOf ds k.scaled lemma) done.tokens o.lemmas last l done.values (record { scale = leading.value; rows = here.say });
        };
        few = omega (arith, leading.few, length-append done.tokens (last ∷ []));
        have = subst (HaveSize ds o.size) (ap (λ rs. rows_of done.tokens ++ rs) (sym (append-nil here.tokens)) ∙ sym (flat_map-append (λ (k : LemmaTokens). k.scaled.rows) done.tokens (last ∷ []))) here.have;
        are =
            here.are ∙ append_assoc (front_of most ds leading.head done) ((codes "lemma" ∷ number ∷ codes "scale" ∷ leading.digits ∷ []) ∷ []) (map row_line here.tokens)
            ∙ ap (λ ls. head_line Lemmas ∷ claim_line leading.head.claim ∷ denominator_line leading.head.denominator ∷ ls)
            (ap (λ ls. flat_map lemma_lines done.tokens ++ ls) (sym (append-nil (lemma_lines last))) ∙ sym (flat_map-append lemma_lines done.tokens (last ∷ [])));
      }

  -- the first line of a lemma or of the goal
  next_lead : (o : Opened) (front : List Line) (line : Line) (lead : Lead) (digits : List ℕ) (scale : ℤ) (opened : IsOpened most ds o front) → IsNext lead opened.done.tokens → IsFew lead opened.done.tokens
      → IsTrue (is_number digits) → integer_of digits ≡ Ok scale → line ∷ [] ≡ lead_lines lead (scaled_by digits []) → IsInside most ds o (lemma_of scale []) lead (front ++ line ∷ [])
  next_lead o front line lead digits scale opened next few number value line_is = (
    record { read = opened.read; head = opened.head; done = opened.done; next = next; few = few; digits = digits; number = number; value = value },
    record {
      tokens = [];
      each = All-nil (λ r. IsTrue (is_row r));
      say = tt;
      have = subst (HaveSize ds o.size) (sym (append-nil (rows_of opened.done.tokens))) opened.have;
      are = ap₂ (λ (ls ms : List Line). ls ++ ms) opened.are line_is ∙ sym (append-nil _);
    },
  )

  pub next_goal : (o : Opened) (front : List Line) (line : Line) (scale : ℤ) → IsOpened most ds o front → goal_scale_of line ≡ Ok scale → IsInside most ds o (lemma_of scale []) None (front ++ line ∷ [])
  next_goal o front line scale opened read =
      let known = goal_read line scale read in
      next_lead o front line None known.0 scale opened tt opened.few known.2 known.3 (ap (λ l. l ∷ []) known.1)

  pub next_lemma : (o : Opened) (front : List Line) (line : Line) (scale : ℤ) → IsOpened most ds o front → lemma_scale_of (length o.lemmas) line ≡ Ok scale
      → (number : List ℕ) × IsInside most ds o (lemma_of scale []) (Some number) (front ++ line ∷ [])
  next_lemma o front line scale opened read =
      let known = lemma_read (length o.lemmas) line scale read in
      let count : length opened.done.tokens ≡ length o.lemmas = zip_length (λ k lemma. IsScaledOf ds k.scaled lemma) opened.done.tokens o.lemmas opened.done.values in (
        known.number,
        next_lead o front line (Some known.number) known.digits scale opened
            (subst (λ n. IsTrue (is_value (n + 1) known.number)) (sym count) known.next) (omega (arith, count, known.few)) known.scale_number known.scale_value (ap (λ l. l ∷ []) known.line_is),
      )
