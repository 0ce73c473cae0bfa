-- The first lines of a block, by the place after them, and the blocks that continue them.
use Rattle.certificate_text.proofs.Prelude.{◌≡◌, ◌<◌, ◌≤◌, ◌+◌, ℕ, ℤ, List, [], ◌∷◌, ◌++◌, Option, Some, None, Ok, IsTrue, arith, refl, sym, ap, ap₂, ◌∙◌, subst, length, map, codes, ⊤, All, AllZip, flat_map, flat_map-append, length-append, map-append, All-nil, All-push, All-weaker, Declaration, CertRow, Certificate, LemmaRow, Evidence, Lemma, Format, Plain, Lemmas, Size, Opened, Stage, is_number, number_within, number_limit, integer_limit, integer_of, Line, claim_line, Flaw, RowTokens, row_limit, is_value, is_row, row_values, over_lemma, ScaledTokens, LemmaTokens, LemmasTokens, BlockTokens, plain, lemmas, row_line, head_line, denominator_line, lemma_lines, goal_lines, certificate_lines, IsPlainRow, IsScaled, AreLemmas, IsLemmasBlock, IsBlock, Bound, names, numbers, words, rows, letters, bounds, IsCertificateOf, rows_in, lemmas_in, IsWithin, IsScaledOf, HasNumbersOutside, KeepsOne, Begins, IsWhole, IsStopped, passes, zip_push, everywhere, certificate_kind}
use Rattle.std.proofs.Common.{append_assoc, append-nil}
use Rattle.certificate_text.specs.declared.place.Stage.TheVariants as at
use Rattle.certificate_text.proofs.LineTrees.{IsRowOf}
use Rattle.certificate_text.proofs.RowTrees.{before, Pass, RowsWithin, HaveSize, no_rows_keep, integer_is_within}

-- the bounds on a block are those on its rows, on the other numbers, and on the count of its lemmas
pub keeps_one : (ds : List Declaration) (b : BlockTokens) → HasNumbersOutside b → length (lemmas_in b) ≤ row_limit → (bound : Bound) → RowsWithin ds (rows_in b) bound → KeepsOne ds bound b
keeps_one ds b outside few names keep = keep
keeps_one ds b outside few numbers keep = (outside, keep)
keeps_one ds b outside few words keep = keep
keeps_one ds b outside few rows keep = (keep, few)
keeps_one ds b outside few letters keep = keep

-- certificates of this format are read
abbrev pub IsRead : Format → Format → Type 0
IsRead most Plain = ⊤
IsRead Plain Lemmas = ⊥
IsRead Lemmas Lemmas = ⊤

lemmas_block : (most : Format) (b : LemmasTokens) → IsRead most Lemmas → IsLemmasBlock b → IsBlock most (lemmas b)
lemmas_block Plain b read is_block = read
lemmas_block Lemmas b read is_block = is_block

-- the row that the tokens say, as a value of the format
abbrev pub IsMadeBy : {C : Type 0} → List Declaration → (RowTokens → CertRow → C) → RowTokens → C → Type 0
IsMadeBy ds made r c = (row : CertRow) × (row_values ds r ≡ Ok row) × (c ≡ made r row)

-- a place where rows stand: the lines before them, those that end the block, the rows of lemmas before them, and the block
pub record RowPlace (most : Format) (ds : List Declaration) (form : Format) : Type 0 where
  pub start : List Line
  pub rest : List Line
  pub earlier : List RowTokens
  pub block : List RowTokens → BlockTokens
  pub are : (rs : List RowTokens) → certificate_lines (block rs) ≡ (start ++ map row_line rs) ++ rest
  pub is_block : (rs : List RowTokens) → All (IsRowOf form) rs → IsBlock most (block rs)
  pub keeps : (bound : Bound) (rs : List RowTokens) → RowsWithin ds (earlier ++ rs) bound → KeepsOne ds bound (block rs)

module _ {most : Format} {ds : List Declaration} {form : Format} (place : RowPlace most ds form) where
  begin_at : (within : List Bound) (front : List Line) (rs : List RowTokens) → front ≡ place.start ++ map row_line rs → All (IsRowOf form) rs → All (RowsWithin ds (place.earlier ++ rs)) within
      → Begins (certificate_kind most ds) within front
  begin_at within front rs are each keep = record {
    tree = place.block rs;
    more = place.rest;
    are = place.are rs ∙ ap (λ ls. ls ++ place.rest) (sym are);
    is_tree = place.is_block rs each;
    keeps = All-weaker (RowsWithin ds (place.earlier ++ rs)) (λ bound. KeepsOne ds bound (place.block rs)) (λ bound. place.keeps bound rs) within keep;
  }

  -- the rows so far, and what they say
  pub record HasRows {C : Type 0} (made : RowTokens → CertRow → C) (size : Size) (cs : List C) (front : List Line) : Type 0 where
    pub tokens : List RowTokens
    pub each : All (IsRowOf form) tokens
    pub say : AllZip (IsMadeBy ds made) tokens cs
    pub have : HaveSize ds size (place.earlier ++ tokens)
    pub are : front ≡ place.start ++ map row_line tokens

  module _ {C : Type 0} {made : RowTokens → CertRow → C} {size : Size} {cs : List C} {front : List Line} (here : HasRows made size cs front) where
    pub rows_begin : Begins (certificate_kind most ds) bounds front
    rows_begin = begin_at bounds front here.tokens here.are here.each (everywhere (RowsWithin ds (place.earlier ++ here.tokens)) here.have.keep bounds)

    -- no lines are left
    pub rows_end : (e : Evidence) → place.rest ≡ [] → IsCertificateOf ds (place.block here.tokens) e → IsWhole (certificate_kind most ds) front e
    rows_end e none says = record {
      tree = place.block here.tokens;
      are = here.are ∙ sym (place.are here.tokens ∙ ap (λ ls. (place.start ++ map row_line here.tokens) ++ ls) none ∙ append-nil (place.start ++ map row_line here.tokens));
      is_tree = place.is_block here.tokens here.each;
      keeps = λ bound. place.keeps bound here.tokens (here.have.keep bound);
      says = says;
    }

    module _ (r : RowTokens) (line : Line) (line_is : line ≡ row_line r) (is : IsRowOf form r) where
      with_row : front ++ line ∷ [] ≡ place.start ++ map row_line (here.tokens ++ r ∷ [])
      with_row =
          ap₂ (λ ls l. ls ++ l ∷ []) here.are line_is ∙ append_assoc place.start (map row_line here.tokens) (row_line r ∷ [])
          ∙ ap (λ ls. place.start ++ ls) (sym (map-append row_line here.tokens (r ∷ [])))

      pub rows_more : (next : Size) (c : C) → IsMadeBy ds made r c → HaveSize ds next ((place.earlier ++ here.tokens) ++ r ∷ []) → HasRows made next (cs ++ c ∷ []) (front ++ line ∷ [])
      rows_more next c made_of have = record {
        tokens = here.tokens ++ r ∷ [];
        each = All-push (IsRowOf form) here.tokens r here.each is;
        say = zip_push (IsMadeBy ds made) here.tokens cs r c here.say made_of;
        have = subst (HaveSize ds next) (append_assoc place.earlier here.tokens (r ∷ [])) have;
        are = with_row;
      }

      -- the row passes a bound
      pub rows_stop : (told : Flaw) → Pass ds told ((place.earlier ++ here.tokens) ++ r ∷ []) → IsStopped (certificate_kind most ds) told (front ++ line ∷ [])
      rows_stop told pass =
          passes pass.bound pass.flaw_is
          (begin_at (before pass.bound) (front ++ line ∷ []) (here.tokens ++ r ∷ []) with_row (All-push (IsRowOf form) here.tokens r here.each is)
          (subst (λ rs. All (RowsWithin ds rs) (before pass.bound)) (append_assoc place.earlier here.tokens (r ∷ [])) pass.keep))

-- the tokens of a claim and of a denominator
pub record IsHead (n : ℕ) (z : ℤ) : Type 0 where
  pub claim : List ℕ
  pub denominator : List ℕ
  pub claim_number : IsTrue (is_number claim)
  pub denominator_number : IsTrue (is_number denominator)
  pub claim_value : number_within number_limit claim ≡ Some n
  pub denominator_value : integer_of denominator ≡ Ok z

-- certificates of format 1
abbrev pub plain_place : (most : Format) (ds : List Declaration) {n : ℕ} {z : ℤ} → IsHead n z → RowPlace most ds Plain
plain_place most ds {n} {z} head = record {
  start = head_line Plain ∷ claim_line head.claim ∷ denominator_line head.denominator ∷ [];
  rest = [];
  earlier = [];
  block = λ rs. plain (record { claim = head.claim; denominator = head.denominator; rows = rs });
  are = λ rs. sym (append-nil _);
  is_block = λ rs each. record { claim = head.claim_number; denominator = head.denominator_number; rows = each };
  keeps = λ bound rs. keeps_one ds _ ((n, head.claim_value), integer_is_within head.denominator z head.denominator_value) (omega arith) bound;
}

-- a lemma's number, where the rows are a lemma's, and none where they are the goal's
abbrev pub Lead : Type 0
Lead = Option (List ℕ)

abbrev pub lemma_tokens : List ℕ → ScaledTokens → LemmaTokens
lemma_tokens number s = record { number = number; scaled = s }

abbrev pub lead_lines : Lead → ScaledTokens → List Line
lead_lines None s = goal_lines s
lead_lines (Some number) s = lemma_lines (lemma_tokens number s)

-- the number is the next one
abbrev pub IsNext : Lead → List LemmaTokens → Type 0
IsNext None finished = ⊤
IsNext (Some number) finished = IsTrue (is_value (length finished + 1) number)

abbrev pub IsFew : Lead → List LemmaTokens → Type 0
IsFew None finished = length finished ≤ row_limit
IsFew (Some number) finished = length finished < row_limit

abbrev pub rows_of : List LemmaTokens → List RowTokens
rows_of finished = flat_map (λ l. l.scaled.rows) finished

-- goal scale 1, without rows
abbrev pub unit_goal : ScaledTokens
unit_goal = record { scale = codes "1"; rows = [] }

pub unit_scaled : IsScaled unit_goal
unit_scaled = record { scale = refl; rows = All-nil (λ r. IsTrue (is_row r)) }

pub unit_within : IsWithin integer_limit (codes "1")
unit_within = (1, refl)

module _ (claim denominator : List ℕ) (finished : List LemmaTokens) where
  abbrev pub lemmas_front : List Line
  lemmas_front = head_line Lemmas ∷ claim_line claim ∷ denominator_line denominator ∷ flat_map lemma_lines finished

  abbrev pub with_goal : List LemmaTokens → ScaledTokens → LemmasTokens
  with_goal ls goal = record { claim = claim; denominator = denominator; lemmas = ls; goal = goal }

  -- the block with these rows after the finished lemmas
  abbrev pub rows_behind : Lead → ScaledTokens → LemmasTokens
  rows_behind None s = with_goal finished s
  rows_behind (Some number) s = with_goal (finished ++ lemma_tokens number s ∷ []) unit_goal

  abbrev pub more_lines : Lead → List Line
  more_lines None = []
  more_lines (Some number) = goal_lines unit_goal

  pub lines_are : (lead : Lead) (s : ScaledTokens) → certificate_lines (lemmas (rows_behind lead s)) ≡ (lemmas_front ++ lead_lines lead s) ++ more_lines lead
  lines_are None s = sym (append-nil (lemmas_front ++ goal_lines s))
  lines_are (Some number) s =
      let last : LemmaTokens = lemma_tokens number s in
      let pushed : flat_map lemma_lines (finished ++ last ∷ []) ≡ flat_map lemma_lines finished ++ lemma_lines last =
      flat_map-append lemma_lines finished (last ∷ []) ∙ ap (λ ls. flat_map lemma_lines finished ++ ls) (append-nil (lemma_lines last)) in
      ap (λ ls. head_line Lemmas ∷ claim_line claim ∷ denominator_line denominator ∷ (ls ++ more_lines (Some number))) pushed

  pub rows_are : (lead : Lead) (s : ScaledTokens) → rows_in (lemmas (rows_behind lead s)) ≡ rows_of finished ++ s.rows
  rows_are None s = refl
  rows_are (Some number) s =
      let last : LemmaTokens = lemma_tokens number s in
      append-nil (rows_of (finished ++ last ∷ [])) ∙ (flat_map-append (λ (l : LemmaTokens). l.scaled.rows) finished (last ∷ []) ∙ ap (λ rs. rows_of finished ++ rs) (append-nil s.rows))

  few_lemmas : (lead : Lead) (s : ScaledTokens) → IsFew lead finished → length (lemmas_in (lemmas (rows_behind lead s))) ≤ row_limit
  few_lemmas None s few = few
  few_lemmas (Some number) s few = omega (arith, few, length-append finished (lemma_tokens number s ∷ []))

pub are_lemmas-push : (n m : ℕ) (ls : List LemmaTokens) (l : LemmaTokens) → m ≡ n + length ls → AreLemmas n ls → IsTrue (is_value m l.number) → IsScaled l.scaled → AreLemmas n (ls ++ l ∷ [])
are_lemmas-push n m [] l same each next scaled =
    let first : m ≡ n = omega (arith, same) in
    (subst (λ k. IsTrue (is_value k l.number)) first next, scaled, tt)
are_lemmas-push n m (k ∷ ls) l same each next scaled = (each.0, each.1, are_lemmas-push (n + 1) m ls l (omega (arith, same)) each.2 next scaled)

-- lemmas all of whose rows were read
pub record AreFinished (ds : List Declaration) (ls : List Lemma) : Type 0 where
  pub tokens : List LemmaTokens
  pub numbered : AreLemmas 1 tokens
  pub scales : All (λ l. IsWithin integer_limit l.scaled.scale) tokens
  pub values : AllZip (λ l lemma. IsScaledOf ds l.scaled lemma) tokens ls

-- after them
module _ (most : Format) (ds : List Declaration) {n : ℕ} {z : ℤ} (head : IsHead n z) {ls : List Lemma} (done : AreFinished ds ls) where
  abbrev pub front_of : List Line
  front_of = lemmas_front head.claim head.denominator done.tokens

  abbrev pub block_of : Lead → ScaledTokens → BlockTokens
  block_of lead s = lemmas (rows_behind head.claim head.denominator done.tokens lead s)

  pub lead_block : (lead : Lead) (s : ScaledTokens) → IsRead most Lemmas → IsNext lead done.tokens → IsScaled s → IsBlock most (block_of lead s)
  lead_block None s read next scaled = lemmas_block most _ read (record { claim = head.claim_number; denominator = head.denominator_number; lemmas = done.numbered; goal = scaled })
  lead_block (Some number) s read next scaled = lemmas_block most _ read (record {
    claim = head.claim_number;
    denominator = head.denominator_number;
    lemmas = are_lemmas-push 1 (length done.tokens + 1) done.tokens (lemma_tokens number s) (omega arith) done.numbered next scaled;
    goal = unit_scaled;
  })

  pub lead_outside : (lead : Lead) (s : ScaledTokens) → IsWithin integer_limit s.scale → HasNumbersOutside (block_of lead s)
  lead_outside None s scale = ((n, head.claim_value), integer_is_within head.denominator z head.denominator_value, done.scales, scale)
  lead_outside (Some number) s scale = (
    (n, head.claim_value),
    integer_is_within head.denominator z head.denominator_value,
    All-push (λ (l : LemmaTokens). IsWithin integer_limit l.scaled.scale) done.tokens (lemma_tokens number s) done.scales scale,
    unit_within,
  )

  pub lead_keeps : (lead : Lead) (s : ScaledTokens) → IsFew lead done.tokens → IsWithin integer_limit s.scale → (bound : Bound) → RowsWithin ds (rows_of done.tokens ++ s.rows) bound → KeepsOne ds bound (block_of lead s)
  lead_keeps lead s few scale bound keep =
      keeps_one ds (block_of lead s) (lead_outside lead s scale) (few_lemmas head.claim head.denominator done.tokens lead s few) bound
      (subst (λ rs. RowsWithin ds rs bound) (sym (rows_are head.claim head.denominator done.tokens lead s)) keep)

-- after the head
pub record IsHeaded (most form : Format) (front : List Line) : Type 0 where
  pub read : IsRead most form
  pub are : front ≡ head_line form ∷ []

-- after the claim
pub record IsClaimed (most form : Format) (n : ℕ) (front : List Line) : Type 0 where
  pub read : IsRead most form
  pub claim : List ℕ
  pub claim_number : IsTrue (is_number claim)
  pub claim_value : number_within number_limit claim ≡ Some n
  pub are : front ≡ head_line form ∷ claim_line claim ∷ []

-- after finished lemmas
pub record IsOpened (most : Format) (ds : List Declaration) (o : Opened) (front : List Line) : Type 0 where
  pub read : IsRead most Lemmas
  pub head : IsHead o.claim o.denominator
  pub done : AreFinished ds o.lemmas
  pub few : length done.tokens ≤ row_limit
  pub have : HaveSize ds o.size (rows_of done.tokens)
  pub are : front ≡ front_of most ds head done

-- the scale and the first rows of a lemma or of the goal, after other rows
pub record IsLed (ds : List Declaration) (size : Size) (l : Lemma) (before : List RowTokens) : Type 0 where
  pub tokens : ScaledTokens
  pub scaled : IsScaled tokens
  pub values : IsScaledOf ds tokens l
  pub have : HaveSize ds size (before ++ tokens.rows)

-- after the first line of a lemma or of the goal
pub record IsLeading (most : Format) (ds : List Declaration) (n : ℕ) (z : ℤ) (ls : List Lemma) (scale : ℤ) (lead : Lead) : Type 0 where
  pub read : IsRead most Lemmas
  pub head : IsHead n z
  pub done : AreFinished ds ls
  pub next : IsNext lead done.tokens
  pub few : IsFew lead done.tokens
  pub digits : List ℕ
  pub number : IsTrue (is_number digits)
  pub value : integer_of digits ≡ Ok scale

abbrev pub scaled_by : List ℕ → List RowTokens → ScaledTokens
scaled_by digits rs = record { scale = digits; rows = rs }

pub lead_lines-rows : (lead : Lead) (digits : List ℕ) (rs : List RowTokens) → lead_lines lead (scaled_by digits rs) ≡ lead_lines lead (scaled_by digits []) ++ map row_line rs
lead_lines-rows None digits rs = refl
lead_lines-rows (Some number) digits rs = refl

abbrev pub lead_place : (most : Format) (ds : List Declaration) {n : ℕ} {z : ℤ} {ls : List Lemma} {scale : ℤ} {lead : Lead} → IsLeading most ds n z ls scale lead → RowPlace most ds Lemmas
lead_place most ds {n} {z} {ls} {scale} {lead} leading =
    let front : List Line = front_of most ds leading.head leading.done in record {
      start = front ++ lead_lines lead (scaled_by leading.digits []);
      rest = more_lines leading.head.claim leading.head.denominator leading.done.tokens lead;
      earlier = rows_of leading.done.tokens;
      block = λ rs. block_of most ds leading.head leading.done lead (scaled_by leading.digits rs);
      are = λ rs.
          lines_are leading.head.claim leading.head.denominator leading.done.tokens lead (scaled_by leading.digits rs)
          ∙ ap (λ ls. ls ++ more_lines leading.head.claim leading.head.denominator leading.done.tokens lead)
          (ap (λ ls. front ++ ls) (lead_lines-rows lead leading.digits rs) ∙ sym (append_assoc front (lead_lines lead (scaled_by leading.digits [])) (map row_line rs)));
      is_block = λ rs each. lead_block most ds leading.head leading.done lead (scaled_by leading.digits rs) leading.read leading.next (record { scale = leading.number; rows = each });
      keeps = λ bound rs. lead_keeps most ds leading.head leading.done lead (scaled_by leading.digits rs) leading.few (integer_is_within leading.digits scale leading.value) bound;
    }

-- a row of format 1, and one of format 2
abbrev pub plain_row : RowTokens → CertRow → CertRow
plain_row r row = row

abbrev pub lemma_made : RowTokens → CertRow → LemmaRow
lemma_made r row = over_lemma r.lemma row

-- in the rows
abbrev pub IsInPlain : Format → List Declaration → Certificate → Size → List Line → Type 0
IsInPlain most ds c size front = (head : IsHead c.claim c.denominator) × HasRows (plain_place most ds head) plain_row size c.rows front

-- in the rows of a lemma or of the goal
abbrev pub IsInside : Format → List Declaration → Opened → Lemma → Lead → List Line → Type 0
IsInside most ds o l lead front = (leading : IsLeading most ds o.claim o.denominator o.lemmas l.scale lead) × HasRows (lead_place most ds leading) lemma_made o.size l.rows front

abbrev pub IsOpen : Format → List Declaration → Stage → List Line → Type 0
IsOpen most ds (at.Headed form) front = IsHeaded most form front
IsOpen most ds (at.Claimed form n) front = IsClaimed most form n front
IsOpen most ds (at.Rows c size) front = IsInPlain most ds c size front
IsOpen most ds (at.Opened o) front = IsOpened most ds o front
IsOpen most ds (at.Lemma o l) front = (number : List ℕ) × IsInside most ds o l (Some number) front
IsOpen most ds (at.Goal o goal) front = IsInside most ds o goal None front

-- and the blocks that continue it: the shortest certificate, and its lines after the denominator
abbrev pub shortest : Format → List ℕ → List ℕ → BlockTokens
shortest Plain claim denominator = plain (record { claim = claim; denominator = denominator; rows = [] })
shortest Lemmas claim denominator = lemmas (with_goal claim denominator [] [] unit_goal)

abbrev rest_of : Format → List Line
rest_of Plain = []
rest_of Lemmas = goal_lines unit_goal

module _ (most : Format) (ds : List Declaration) where
  shortest_lines : (form : Format) (claim denominator : List ℕ) → certificate_lines (shortest form claim denominator) ≡ head_line form ∷ claim_line claim ∷ denominator_line denominator ∷ rest_of form
  shortest_lines Plain claim denominator = refl
  shortest_lines Lemmas claim denominator = refl

  shortest_block : (form : Format) (claim denominator : List ℕ) → IsRead most form → IsTrue (is_number claim) → IsTrue (is_number denominator) → IsBlock most (shortest form claim denominator)
  shortest_block Plain claim denominator read n d = record { claim = n; denominator = d; rows = All-nil IsPlainRow }
  shortest_block Lemmas claim denominator read n d = lemmas_block most _ read (record { claim = n; denominator = d; lemmas = tt; goal = unit_scaled })

  shortest_keeps : (form : Format) (claim denominator : List ℕ) → IsWithin number_limit claim → IsWithin integer_limit denominator → (bound : Bound) → KeepsOne ds bound (shortest form claim denominator)
  shortest_keeps Plain claim denominator n d bound = keeps_one ds (shortest Plain claim denominator) (n, d) (omega arith) bound (no_rows_keep ds bound)
  shortest_keeps Lemmas claim denominator n d bound =
      keeps_one ds (shortest Lemmas claim denominator) (n, d, All-nil (λ (l : LemmaTokens). IsWithin integer_limit l.scaled.scale), unit_within) (omega arith) bound (no_rows_keep ds bound)

  module _ (form : Format) (claim denominator : List ℕ) (front more : List Line) (are : front ++ more ≡ head_line form ∷ claim_line claim ∷ denominator_line denominator ∷ []) (read : IsRead most form)
      (n : IsTrue (is_number claim)) (d : IsTrue (is_number denominator)) where
    pub begin_shortest : (within : List Bound) → All (λ bound. KeepsOne ds bound (shortest form claim denominator)) within → Begins (certificate_kind most ds) within front
    begin_shortest within keeps = record {
      tree = shortest form claim denominator;
      more = more ++ rest_of form;
      are = shortest_lines form claim denominator ∙ ap (λ ls. ls ++ rest_of form) (sym are) ∙ append_assoc front more (rest_of form);
      is_tree = shortest_block form claim denominator read n d;
      keeps = keeps;
    }

    pub begin_within : IsWithin number_limit claim → IsWithin integer_limit denominator → Begins (certificate_kind most ds) bounds front
    begin_within claim_within denominator_within =
        begin_shortest bounds (everywhere (λ bound. KeepsOne ds bound (shortest form claim denominator)) (shortest_keeps form claim denominator claim_within denominator_within) bounds)

  pub begin_opened : (o : Opened) (front : List Line) → IsOpened most ds o front → Begins (certificate_kind most ds) bounds front
  begin_opened o front opened = record {
    tree = block_of most ds opened.head opened.done None unit_goal;
    more = goal_lines unit_goal;
    are = ap (λ ls. ls ++ goal_lines unit_goal) (sym opened.are);
    is_tree = lead_block most ds opened.head opened.done None unit_goal opened.read tt unit_scaled;
    keeps = everywhere (λ bound. KeepsOne ds bound (block_of most ds opened.head opened.done None unit_goal)) (λ bound. lead_keeps most ds opened.head opened.done None unit_goal opened.few unit_within bound
        (subst (λ rs. RowsWithin ds rs bound) (sym (append-nil (rows_of opened.done.tokens))) (opened.have.keep bound))) bounds;
  }
