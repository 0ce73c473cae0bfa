-- What the lines that were read are: whole blocks and the first lines of one more.
use Rattle.block_text.proofs.Prelude.{◌≡◌, ◌<◌, ◌⊎◌, ℕ, Bool, true, false, List, [], ◌∷◌, ◌++◌, Option, Some, None, Result, Ok, Err, arith, refl, sym, ap, ap₂, ◌∙◌, subst, length, map, nat_le, inl, inr, ⊤, All, AllZip, flat_map-append, map-append, All-nil, All-cons, All-push, All-append, All-map, All-weaker, Flaw, BadLine, Place, Progress, Line, OtherTokens, block_limit, is_end, end_line, Kind, Block, own, other, own_in, block_lines, IsBlock, IsOtherBlock, TextBound, on_block, on_count, AreBlocks, Keeps, bounds, flaw_of, is_other_head, GoesOn, Steps, progress, beginning, step, headed, finished, inside, AllZip-append, zip_length, flat_map}
use Rattle.std.proofs.Common.{length-append, leb-false, append_assoc, append-nil}
use Rattle.block_text.specs.declared.place.Place.TheVariants as at
use Rattle.block_text.proofs.LineTrees.{end_is}
use Rattle.block_text.proofs.Bounds.{before, listed}
use Rattle.block_text.proofs.Owed.{Begins, IsStopped, misfit, passes, IsReader}
use Rattle.block_text.proofs.Results.{by_test, bind_ok, bind_err}
use Rattle.block_text.proofs.TextLines.{own_in-append}

pub everywhere : {X : Type 0} (P : X → Type 0) → ((x : X) → P x) → (xs : List X) → All P xs
everywhere P each xs = λ k d below. each _

module _ {Begun Value : Type 0} (kind : Kind Value) (steps : Steps Begun Value) (reader : IsReader kind steps) where
  abbrev Text : Type 0
  Text = List (Block kind.Tree)

  abbrev Lines : Text → List Line
  Lines text = flat_map (block_lines kind.lines_of) text

  lines_push : (text : Text) (b : Block kind.Tree) → Lines (text ++ b ∷ []) ≡ Lines text ++ block_lines kind.lines_of b
  lines_push text b = flat_map-append (block_lines kind.lines_of) text (b ∷ []) ∙ ap (λ ls. Lines text ++ ls) (append-nil (block_lines kind.lines_of b))

  -- whole blocks within all bounds, and their values
  record AreWhole (text : Text) (values : List Value) : Type 0 where
    each : All (IsBlock kind.IsTree kind.others) text
    within : (bound : TextBound kind.Bound) → Keeps kind text bound
    says : AllZip kind.Says (own_in text) values

  -- after the head of another kind
  record IsInOther (front : List Line) : Type 0 where
    tokens : OtherTokens
    is_block : IsOtherBlock kind.others tokens
    are : front ≡ tokens.head ∷ tokens.lines

  abbrev StandsIn : Place Begun → List Line → Type 0
  StandsIn at.Outside front = front ≡ []
  StandsIn at.Skipped front = IsInOther front
  StandsIn (at.Inside b) front = reader.IsOpen b front

  -- in a block: it is one of those that there may be
  abbrev HasRoom : Place Begun → ℕ → Type 0
  HasRoom at.Outside n = ⊤
  HasRoom at.Skipped n = ⊤
  HasRoom (at.Inside b) n = n < block_limit

  -- The lines so far are whole blocks within all bounds, whose values were read, and the first lines of the block that is open at the place.
  pub record Stands (ls : List Line) (p : Progress Begun Value) : Type 0 where
    text : Text
    whole : AreWhole text p.values
    front : List Line
    are : ls ≡ Lines text ++ front
    stands_in : StandsIn p.place front
    room : HasRoom p.place (length p.values)

  none_keeps : (bound : TextBound kind.Bound) → Keeps kind [] bound
  none_keeps (on_block bound) = All-nil (kind.Keeps bound)
  none_keeps on_count = omega arith

  pub stands_first : Stands [] beginning
  stands_first = record {
    text = [];
    whole = record { each = All-nil (IsBlock kind.IsTree kind.others); within = none_keeps; says = tt };
    front = [];
    are = refl;
    stands_in = refl;
    room = tt;
  }

  -- a block more
  module _ (text : Text) (done : List Value) (whole : AreWhole text done) where
    count : length (own_in text) ≡ length done
    count = zip_length kind.Says (own_in text) done whole.says

    own_push : (t : kind.Tree) → own_in (text ++ own t ∷ []) ≡ own_in text ++ t ∷ []
    own_push t = own_in-append text (own t ∷ [])

    other_push : (b : OtherTokens) → own_in (text ++ other b ∷ []) ≡ own_in text
    other_push b = own_in-append text (other b ∷ []) ∙ append-nil (own_in text)

    keeps_own : (t : kind.Tree) (bound : kind.Bound) → kind.Keeps bound t → Keeps kind (text ++ own t ∷ []) (on_block bound)
    keeps_own t bound one = subst (All (kind.Keeps bound)) (sym (own_push t)) (All-push (kind.Keeps bound) (own_in text) t (whole.within (on_block bound)) one)

    room_own : (t : kind.Tree) → length done < block_limit → Keeps kind (text ++ own t ∷ []) on_count
    room_own t room = omega (arith, ap length (own_push t), length-append (own_in text) (t ∷ []), count, room)

    keeps_other : (b : OtherTokens) (bound : TextBound kind.Bound) → Keeps kind (text ++ other b ∷ []) bound
    keeps_other b (on_block bound) = subst (All (kind.Keeps bound)) (sym (other_push b)) (whole.within (on_block bound))
    keeps_other b on_count = omega (arith, ap length (other_push b), whole.within on_count)

    goes_on_by : (within : List (TextBound kind.Bound)) (front more : List Line) (b : Block kind.Tree) → block_lines kind.lines_of b ≡ front ++ more → IsBlock kind.IsTree kind.others b
        → All (Keeps kind (text ++ b ∷ [])) within → GoesOn kind within (Lines text ++ front)
    goes_on_by within front more b are is_block keeps = record {
      more = more;
      blocks = text ++ b ∷ [];
      are_blocks = record {
        are = append_assoc (Lines text) front more ∙ ap (λ ls. Lines text ++ ls) (sym are) ∙ sym (lines_push text b);
        each = All-push (IsBlock kind.IsTree kind.others) text b whole.each is_block;
      };
      keeps = keeps;
    }

    -- the first lines of a block of the kind
    front_is : (front : List Line) (t : kind.Tree) (more : List Line) → kind.lines_of t ≡ front ++ more → kind.lines_of t ++ end_line ∷ [] ≡ front ++ (more ++ end_line ∷ [])
    front_is front t more are = ap (λ ls. ls ++ end_line ∷ []) are ∙ append_assoc front more (end_line ∷ [])

    kept_by : (within : List kind.Bound) (t : kind.Tree) → All (λ bound. kind.Keeps bound t) within → All (Keeps kind (text ++ own t ∷ [])) (map on_block within)
    kept_by within t keeps =
        All-map (Keeps kind (text ++ own t ∷ [])) on_block within (All-weaker (λ bound. kind.Keeps bound t) (λ bound. Keeps kind (text ++ own t ∷ []) (on_block bound)) (keeps_own t) within keeps)

    -- within bounds on blocks
    goes_on_with : (within : List kind.Bound) (front : List Line) → Begins kind within front → GoesOn kind (map on_block within) (Lines text ++ front)
    goes_on_with within front begins =
        goes_on_by (map on_block within) front (begins.more ++ end_line ∷ []) (own begins.tree) (front_is front begins.tree begins.more begins.are) begins.is_tree (kept_by within begins.tree begins.keeps)

    goes_on_in : (front : List Line) → Begins kind kind.bounds front → length done < block_limit → GoesOn kind (bounds kind) (Lines text ++ front)
    goes_on_in front begins room =
        goes_on_by (bounds kind) front (begins.more ++ end_line ∷ []) (own begins.tree) (front_is front begins.tree begins.more begins.are) begins.is_tree
        (All-append (Keeps kind (text ++ own begins.tree ∷ [])) (map on_block kind.bounds) (on_count ∷ []) (kept_by kind.bounds begins.tree begins.keeps)
        (All-cons (Keeps kind (text ++ own begins.tree ∷ [])) on_count [] (room_own begins.tree room) (All-nil (Keeps kind (text ++ own begins.tree ∷ [])))))

    goes_on_other : (b : OtherTokens) → IsOtherBlock kind.others b → GoesOn kind (bounds kind) (Lines text ++ (b.head ∷ b.lines))
    goes_on_other b is_block = goes_on_by (bounds kind) (b.head ∷ b.lines) (end_line ∷ []) (other b) refl is_block (everywhere (Keeps kind (text ++ other b ∷ [])) (keeps_other b) (bounds kind))

    -- with no block more
    goes_on_behind : GoesOn kind (bounds kind) (Lines text)
    goes_on_behind = record {
      more = [];
      blocks = text;
      are_blocks = record { are = append-nil (Lines text); each = whole.each };
      keeps = everywhere (Keeps kind text) whole.within (bounds kind);
    }

    all_keep : (t : kind.Tree) → length done < block_limit → ((bound : kind.Bound) → kind.Keeps bound t) → (bound : TextBound kind.Bound) → Keeps kind (text ++ own t ∷ []) bound
    all_keep t room keeps (on_block bound) = keeps_own t bound (keeps bound)
    all_keep t room keeps on_count = room_own t room

    whole_own : (t : kind.Tree) (value : Value) → kind.IsTree t → ((bound : kind.Bound) → kind.Keeps bound t) → kind.Says t value → length done < block_limit → AreWhole (text ++ own t ∷ []) (done ++ value ∷ [])
    whole_own t value is_tree keeps says room = record {
      each = All-push (IsBlock kind.IsTree kind.others) text (own t) whole.each is_tree;
      within = all_keep t room keeps;
      says = subst (λ (ts : List kind.Tree). AllZip kind.Says ts (done ++ value ∷ [])) (sym (own_push t)) (AllZip-append kind.Says (own_in text) (t ∷ []) done (value ∷ []) whole.says (says, tt));
    }

    whole_other : (b : OtherTokens) → IsOtherBlock kind.others b → AreWhole (text ++ other b ∷ []) done
    whole_other b is_block = record {
      each = All-push (IsBlock kind.IsTree kind.others) text (other b) whole.each is_block;
      within = keeps_other b;
      says = subst (λ (ts : List kind.Tree). AllZip kind.Says ts done) (sym (other_push b)) whole.says;
    }

  -- one line more
  module _ (ls : List Line) (done : List Value) (line : Line) (q : Progress Begun Value) where
    abbrev StandsAt : Place Begun → Type 0
    StandsAt place = Stands ls (progress done place)

    abbrev Next : Type 0
    Next = Stands (ls ++ line ∷ []) q

    -- in the same block, or in a new one
    stays : (place : Place Begun) (stands : StandsAt place) (next : Place Begun) → progress done next ≡ q → StandsIn next (stands.front ++ line ∷ []) → HasRoom next (length done) → Next
    stays place stands next same stands_in room = subst (Stands (ls ++ line ∷ [])) same (record {
      text = stands.text;
      whole = stands.whole;
      front = stands.front ++ line ∷ [];
      are = ap (λ x. x ++ line ∷ []) stands.are ∙ append_assoc (Lines stands.text) stands.front (line ∷ []);
      stands_in = stands_in;
      room = room;
    })

    -- the block ends
    ends : (place : Place Begun) (stands : StandsAt place) (b : Block kind.Tree) (found : List Value) → progress found at.Outside ≡ q → block_lines kind.lines_of b ≡ stands.front ++ end_line ∷ [] → is_end line ≡ true
        → AreWhole (stands.text ++ b ∷ []) found → Next
    ends place stands b found same lines is whole = subst (Stands (ls ++ line ∷ [])) same (record {
      text = stands.text ++ b ∷ [];
      whole = whole;
      front = [];
      are =
          ap₂ (λ x l. x ++ l ∷ []) stands.are (end_is line is) ∙ append_assoc (Lines stands.text) stands.front (end_line ∷ [])
          ∙ ap (λ x. Lines stands.text ++ x) (sym lines) ∙ sym (lines_push stands.text b)
          ∙ sym (append-nil (Lines (stands.text ++ b ∷ [])));
      stands_in = refl;
      room = tt;
    })

    headed_by : (r : Option Begun) → steps.begin line ≡ r → StandsAt at.Outside → headed steps done r line ≡ Ok q → Next
    headed_by (Some b) is stands read =
        by_test (nat_le block_limit (length done)) _ _ (Ok q) read (λ full e. absurd (cc)) (λ room made.
        stays at.Outside stands (at.Inside b) (cc) (subst (λ (front : List Line). reader.IsOpen b (front ++ line ∷ [])) (sym stands.stands_in) (reader.begins line b is).1) (leb-false block_limit (length done) room))
    headed_by None is stands read =
        by_test (is_other_head steps.others line) _ _ (Ok q) read (λ known made.
        stays at.Outside stands at.Skipped (cc)
        (record {
          tokens = record { head = line; lines = [] };
          is_block = record { head = rw reader.others at known; lines = All-nil (λ l. is_end l ≡ false) };
          are = ap (λ x. x ++ line ∷ []) stands.stands_in;
        }) tt) (λ unknown e. absurd (cc))

    skipped_by : (end : Bool) → is_end line ≡ end → StandsAt at.Skipped → step steps done at.Skipped line ≡ Ok q → Next
    skipped_by true is stands read =
        let here = stands.stands_in in
        let made : ◌≡◌ {A = Result (Progress Begun Value) Flaw} (Ok (progress done at.Outside)) (Ok q) = rw is at read in
        ends at.Skipped stands (other here.tokens) done (cc) (ap (λ x. x ++ end_line ∷ []) (sym here.are)) is (whole_other stands.text done stands.whole here.tokens here.is_block)
    skipped_by false is stands read =
        let here = stands.stands_in in
        let made : ◌≡◌ {A = Result (Progress Begun Value) Flaw} (Ok (progress done at.Skipped)) (Ok q) = rw is at read in
        stays at.Skipped stands at.Skipped (cc)
        (record {
          tokens = record { head = here.tokens.head; lines = here.tokens.lines ++ line ∷ [] };
          is_block = record { head = here.is_block.head; lines = All-push (λ l. is_end l ≡ false) here.tokens.lines line here.is_block.lines is };
          are = ap (λ x. x ++ line ∷ []) here.are;
        }) tt

    finished_by : (b : Begun) (r : Option Value) → steps.finish b ≡ r → is_end line ≡ true → StandsAt (at.Inside b) → finished steps done r ≡ Ok q → Next
    finished_by b (Some value) is end stands read =
        let found = reader.ends b stands.front value stands.stands_in is in
        ends (at.Inside b) stands (own found.tree) (done ++ value ∷ []) (cc) (ap (λ x. x ++ end_line ∷ []) (sym found.are)) end
        (whole_own stands.text done stands.whole found.tree value found.is_tree found.keeps found.says stands.room)
    finished_by b None is end stands read = absurd (cc)

    next_inside : (b : Begun) → StandsAt (at.Inside b) → inside steps done b line ≡ Ok q → Next
    next_inside b stands read =
        by_test (is_end line) _ _ (Ok q) read (λ end made. finished_by b (steps.finish b) refl end stands made) (λ more read_on.
        bind_ok (steps.next b line) _ q read_on (λ c next_is made.
        stays (at.Inside b) stands (at.Inside c) (cc) (reader.goes b c stands.front line stands.stands_in more next_is) stands.room))

    next_at : (place : Place Begun) → StandsAt place → step steps done place line ≡ Ok q → Next
    next_at at.Outside stands read = headed_by (steps.begin line) refl stands read
    next_at at.Skipped stands read = skipped_by (is_end line) refl stands read
    next_at (at.Inside b) stands read = next_inside b stands read

  pub stands_next : (ls : List Line) (p q : Progress Begun Value) (line : Line) → Stands ls p → step steps p.values p.place line ≡ Ok q → Stands (ls ++ line ∷ []) q
  stands_next ls p q line stands read = next_at ls p.values line q p.place stands read

  -- the lines so far are the first ones of blocks within all bounds
  goes_on_at : (ls : List Line) (done : List Value) (place : Place Begun) → Stands ls (progress done place) → GoesOn kind (bounds kind) ls
  goes_on_at ls done at.Outside stands =
      let whole_lines : ls ≡ Lines stands.text = stands.are ∙ ap (λ x. Lines stands.text ++ x) stands.stands_in ∙ append-nil (Lines stands.text) in
      subst (GoesOn kind (bounds kind)) (sym whole_lines) (goes_on_behind stands.text done stands.whole)
  goes_on_at ls done at.Skipped stands =
      let here = stands.stands_in in
      subst (GoesOn kind (bounds kind)) (sym (stands.are ∙ ap (λ x. Lines stands.text ++ x) here.are)) (goes_on_other stands.text done stands.whole here.tokens here.is_block)
  goes_on_at ls done (at.Inside b) stands =
      subst (GoesOn kind (bounds kind)) (sym stands.are) (goes_on_in stands.text done stands.whole stands.front (reader.goes_on b stands.front stands.stands_in) stands.room)

  pub goes_on : (ls : List Line) (p : Progress Begun Value) → Stands ls p → GoesOn kind (bounds kind) ls
  goes_on ls p stands = goes_on_at ls p.values p.place stands

  -- and so they are with a line that is wrong, but for the bound that it passes
  pub record GoesUpTo (ls : List Line) (flaw : Flaw) : Type 0 where
    pub earlier : List (TextBound kind.Bound)
    pub later : List (TextBound kind.Bound)
    pub bound : TextBound kind.Bound
    pub splits : bounds kind ≡ earlier ++ bound ∷ later
    pub told : flaw ≡ flaw_of kind bound
    pub goes : GoesOn kind earlier ls

  pub split_up : (earlier later : List kind.Bound) (bound : kind.Bound) → kind.bounds ≡ earlier ++ bound ∷ later → bounds kind ≡ map on_block earlier ++ on_block bound ∷ (map on_block later ++ on_count ∷ [])
  split_up earlier later bound splits =
      ap (λ bs. map on_block bs ++ on_count ∷ []) splits ∙ ap (λ bs. bs ++ on_count ∷ []) (map-append on_block earlier (bound ∷ later))
      ∙ append_assoc (map on_block earlier) (on_block bound ∷ map on_block later) (on_count ∷ [])

  abbrev before_it : kind.Bound → List kind.Bound
  before_it bound = before kind.flaw_of kind.bounds bound

  module _ (ls : List Line) (done : List Value) (line : Line) (flaw : Flaw) where
    abbrev Before : Type 0
    Before = (flaw ≡ BadLine) ⊎ GoesUpTo (ls ++ line ∷ []) flaw

    lines_are : {place : Place Begun} (stands : Stands ls (progress done place)) → Lines stands.text ++ (stands.front ++ line ∷ []) ≡ ls ++ line ∷ []
    lines_are stands = sym (ap (λ x. x ++ line ∷ []) stands.are ∙ append_assoc (Lines stands.text) stands.front (line ∷ []))

    stopped_in : (place : Place Begun) (stands : Stands ls (progress done place)) → IsStopped kind flaw (stands.front ++ line ∷ []) → Before
    stopped_in place stands (misfit same) = inl same
    stopped_in place stands (passes bound told begins) =
        let place = listed kind.flaw_of kind.bounds bound (reader.told bound) in
        inr (record {
          earlier = map on_block (before_it bound);
          later = map on_block place.later ++ on_count ∷ [];
          bound = on_block bound;
          splits = split_up (before_it bound) place.later bound place.splits;
          told = told;
          goes = subst (GoesOn kind (map on_block (before_it bound))) (lines_are stands) (goes_on_with stands.text done stands.whole (before_it bound) (stands.front ++ line ∷ []) begins);
        })

    stopped_head : (r : Option Begun) → steps.begin line ≡ r → Stands ls (progress done at.Outside) → headed steps done r line ≡ Err flaw → Before
    stopped_head (Some b) is stands read =
        by_test (nat_le block_limit (length done)) _ _ (Err flaw) read
        (λ full e.
        let begins : reader.IsOpen b (stands.front ++ line ∷ []) = subst (λ (front : List Line). reader.IsOpen b (front ++ line ∷ [])) (sym stands.stands_in) (reader.begins line b is).1 in
        inr (record {
          earlier = map on_block kind.bounds;
          later = [];
          bound = on_count;
          splits = refl;
          told = cc;
          goes = subst (GoesOn kind (map on_block kind.bounds)) (lines_are stands)
              (goes_on_with stands.text done stands.whole kind.bounds (stands.front ++ line ∷ []) (reader.goes_on b (stands.front ++ line ∷ []) begins));
        }))
        (λ room made. absurd (cc))
    stopped_head None is stands read = by_test (is_other_head steps.others line) _ _ (Err flaw) read (λ known made. absurd (cc)) (λ unknown e. inl (cc))

    stopped_end : (r : Option Value) → finished steps done r ≡ Err flaw → Before
    stopped_end (Some value) read = absurd (cc)
    stopped_end None read = inl (cc)

    stops_at : (place : Place Begun) → Stands ls (progress done place) → step steps done place line ≡ Err flaw → Before
    stops_at at.Outside stands read = stopped_head (steps.begin line) refl stands read
    stops_at at.Skipped stands read = absurd (cc)
    stops_at (at.Inside b) stands read =
        by_test (is_end line) _ _ (Err flaw) read (λ end read_end. stopped_end (steps.finish b) read_end) (λ more read_on.
        bind_err (steps.next b line) _ flaw read_on (λ none. stopped_in (at.Inside b) stands (reader.stops b stands.front line flaw stands.stands_in more none)) (λ c next_is made. absurd (cc)))

  pub goes_on_before : (ls : List Line) (p : Progress Begun Value) (line : Line) (flaw : Flaw) → Stands ls p → step steps p.values p.place line ≡ Err flaw → (flaw ≡ BadLine) ⊎ GoesUpTo (ls ++ line ∷ []) flaw
  goes_on_before ls p line flaw stands read = stops_at ls p.values line flaw p.place stands read

  -- at the end
  pub record AreTheirs (ls : List Line) (values : List Value) : Type 0 where
    pub blocks : List (Block kind.Tree)
    pub are_blocks : AreBlocks kind ls blocks
    pub within : All (Keeps kind blocks) (bounds kind)
    pub says : AllZip kind.Says (own_in blocks) values

  pub stands_outside : (ls : List Line) (values : List Value) → Stands ls (progress values at.Outside) → AreTheirs ls values
  stands_outside ls values stands = record {
    blocks = stands.text;
    are_blocks = record {
      are = stands.are ∙ ap (λ x. Lines stands.text ++ x) stands.stands_in ∙ append-nil (Lines stands.text);
      each = stands.whole.each;
    };
    within = everywhere (Keeps kind stands.text) stands.whole.within (bounds kind);
    says = stands.whole.says;
  }
