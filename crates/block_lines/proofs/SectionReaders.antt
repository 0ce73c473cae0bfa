-- What a reader of a line and one of lines owe, and that lines one after another are read where each is.
use Rattle.block_lines.proofs.Prelude.{arith, ◌≡◌, ◌≤◌, ◌<◌, ◌+◌, ◌&&◌, ◌⊎◌, ◌++◌, ◌∷◌, [], ℕ, Bool, true, false, not, List, Option, Some, None, Result, Ok, Err, refl, sym, ap, ap₂, ◌∙◌, subst, length, map, nat_le, append_assoc, append-nil, inl, inr, ⊤, All, AllZip, list_all, option_map, and_parts, nat_tests, map-append, All-nil, All-cons, All-head, All-tail, All-push, All-append, All-map, All-weaker, same_Some, Flaw, BadLine, TooMany, ◌>>=◌, asked, Line, begins, is_end, said, Kind, until, same_flaw, before, Meets, reads, passes, then_meets, meets-weaker, Begins, IsWhole, IsStopped, misfit, stopped_by, all_with, bind_assoc, option_map_some, said_ok, said_err, said_meets, everywhere, AllZip-unique, zip_length, zip_push, LinePlace, LinesPlace, LineKind, said_line, Reading, Section, no_lines, line_by, line_then, lines_then, said_as, SectionSteps, no_steps, grown, lines_place, line_next, line_steps_by, line_steps, lines_next, lines_steps, steps_as}
use Rattle.std.proofs.Common.{length-append}
use Rattle.block_text.specs.declared.fault.Flaw.TheVariants as flaw
use Rattle.block_text.proofs.Owed as owed
use Rattle.block_lines.specs.declared.section.LinePlace.TheVariants as at
use Rattle.block_lines.proofs.Outcomes.{Told, gives, refuses, told_given, told_refused, then_told, result_told, test_told}

-- lines from a place on, to the end
abbrev pub read_from : {B V : Type 0} → SectionSteps B V → B → List Line → Result V Flaw
read_from steps b [] = asked BadLine (steps.finish b)
read_from steps b (line ∷ lines) = steps.next b line >>= λ c. read_from steps c lines

-- what is made of a value that is asked for
pub asked-map : {V W : Type 0} (f : V → W) (o : Option V) → asked BadLine (option_map f o) ≡ (asked BadLine o >>= λ v. Ok (f v))
asked-map f (Some v) = refl
asked-map f None = refl

pub bind_through : {A B C D F : Type 0} (r : Result A F) (f : A → B) (g : B → Result C F) (h : A → Result D F) (k : D → Result C F) → ((a : A) → g (f a) ≡ (h a >>= k))
    → ((r >>= λ a. Ok (f a)) >>= g) ≡ ((r >>= h) >>= k)
bind_through (Ok a) f g h k same = same a
bind_through (Err e) f g h k same = refl

-- whether the first line, where there is one, begins with the word
abbrev pub heads : List ℕ → List Line → Bool
heads word [] = false
heads word (line ∷ lines) = begins word line

-- bounds before one
until_fails : {A : Type 0} (p : A → Bool) (xs : List A) → All (λ x. p x ≡ false) (until p xs)
until_fails p [] = All-nil (λ x. p x ≡ false)
until_fails p (x ∷ xs) = by_first (p x) refl (until_fails p xs)
  where
    by_first : (b : Bool) → p x ≡ b → All (λ y. p y ≡ false) (until p xs) → All (λ y. p y ≡ false) (until p (x ∷ xs))
    by_first true is rest = rw is (All-nil (λ y. p y ≡ false))
    by_first false is rest = rw is (All-cons (λ y. p y ≡ false) x (until p xs) is rest)

same_flaw-refl : (f : Flaw) → same_flaw f f ≡ true
same_flaw-refl flaw.BadLine = refl
same_flaw-refl flaw.UnknownName = refl
same_flaw-refl flaw.NotAsWritten = refl
same_flaw-refl flaw.NumberTooLarge = refl
same_flaw-refl (flaw.TooMany limit) = grind (arith, nat_tests)

-- by the flaw of a line that exceeds a bound, and the bounds in the order in which they are tested
module _ {Bound : Type 0} (flaw_of : Bound → Flaw) (bounds : List Bound) where
  pub apart_before : (bound : Bound) → All (λ b. b ≡ bound → ⊥) (before flaw_of bounds bound)
  apart_before bound =
      All-weaker (λ b. same_flaw (flaw_of bound) (flaw_of b) ≡ false) (λ b. b ≡ bound → ⊥)
      (λ b fails same.
      let found : same_flaw (flaw_of bound) (flaw_of bound) ≡ false = subst (λ c. same_flaw (flaw_of bound) (flaw_of c) ≡ false) same fails in
      let known = same_flaw-refl (flaw_of bound) in absurd (cc))
      (before flaw_of bounds bound) (until_fails (λ b. same_flaw (flaw_of bound) (flaw_of b)) bounds)

  -- the lines by themselves, as a kind of block
  abbrev pub kind_by : {V : Type 0} → Section Bound V → Kind V
  kind_by section = record {
    Tree = section.Tree;
    lines_of = section.lines_of;
    IsTree = section.IsTree;
    others = [];
    Bound = Bound;
    bounds = bounds;
    flaw_of = flaw_of;
    Keeps = section.Keeps;
    Says = section.Says;
  }

  -- lines that stop where fewer do
  stopped_with : {V W : Type 0} (part : Section Bound V) (whole : Section Bound W) (f : Flaw) (few all : List Line) → ((within : List Bound) → Begins (kind_by part) within few → Begins (kind_by whole) within all)
      → IsStopped (kind_by part) f few → IsStopped (kind_by whole) f all
  stopped_with part whole f few all begin (misfit bad) = misfit bad
  stopped_with part whole f few all begin (owed.passes bound told begins) = owed.passes bound told (begin (before flaw_of bounds bound) begins)

  module _ {V : Type 0} (line : LineKind Bound V) where
    -- the line is one within all bounds, and says the value
    pub record IsLineRead (l : Line) (v : V) : Type 0 where
      pub tokens : line.Tokens
      pub are : l ≡ line.line_of tokens
      pub is : line.IsLine tokens
      pub keeps : (bound : Bound) → line.Keeps bound tokens
      pub says : line.Says tokens v

    -- the line is one that keeps the bounds before one
    pub record IsLinePassed (l : Line) (told_for : Flaw) : Type 0 where
      pub tokens : line.Tokens
      pub are : l ≡ line.line_of tokens
      pub is : line.IsLine tokens
      pub bound : Bound
      pub told : told_for ≡ flaw_of bound
      pub keeps : All (λ b. line.Keeps b tokens) (before flaw_of bounds bound)

    pub record IsLineReader (read : Reading V) : Type 1 where
      -- a line within all bounds
      pub example : line.Tokens
      pub is_example : line.IsLine example
      pub example_keeps : (bound : Bound) → line.Keeps bound example
      pub unended : (t : line.Tokens) → line.IsLine t → is_end (line.line_of t) ≡ false
      pub unique : (t : line.Tokens) (v w : V) → line.Says t v → line.Says t w → v ≡ w
      pub is_read : (l : Line) (v : V) → read l ≡ Ok v → IsLineRead l v
      pub stops : (l : Line) (f : Flaw) → read l ≡ Err f → (f ≡ BadLine) ⊎ IsLinePassed l f
      pub reads : (K : Bound → Type 0) (t : line.Tokens) → line.IsLine t → ((bound : Bound) → K bound → line.Keeps bound t) → Meets flaw_of K (line.Says t) (read (line.line_of t))

  -- some lines are within all bounds, none is `end`, and they say one thing
  pub record AreFit {V : Type 0} (section : Section Bound V) : Type 0 where
    pub example : section.Tree
    pub is_example : section.IsTree example
    pub example_keeps : (bound : Bound) → section.Keeps bound example
    pub unended : (t : section.Tree) → section.IsTree t → All (λ line. is_end line ≡ false) (section.lines_of t)
    pub unique : (t : section.Tree) (v w : V) → section.Says t v → section.Says t w → v ≡ w

  pub record IsSectionReader {V B : Type 0} (section : Section Bound V) (steps : SectionSteps B V) : Type 1 where
    pub fit : AreFit section
    -- the first lines, by what was made of them
    pub IsOpen : B → List Line → Type 0
    pub starts : IsOpen steps.start []
    pub goes : (b c : B) (front : List Line) (line : Line) → IsOpen b front → steps.next b line ≡ Ok c → IsOpen c (front ++ line ∷ [])
    pub goes_on : (b : B) (front : List Line) → IsOpen b front → Begins (kind_by section) bounds front
    pub ends : (b : B) (front : List Line) (v : V) → IsOpen b front → steps.finish b ≡ Some v → IsWhole (kind_by section) front v
    pub stops : (b : B) (front : List Line) (line : Line) (f : Flaw) → IsOpen b front → steps.next b line ≡ Err f → IsStopped (kind_by section) f (front ++ line ∷ [])
    pub reads : (K : Bound → Type 0) (t : section.Tree) → section.IsTree t → ((bound : Bound) → K bound → section.Keeps bound t)
        → Meets flaw_of K (section.Says t) (read_from steps steps.start (section.lines_of t))

  -- a line whose tokens have a value where they keep this bound
  pub said_reader : {T V : Type 0} (bound : Bound) (f : Flaw) (line_of : T → Line) (IsLine : T → Type 0) (tokens : Line → Option T) (value : T → Option V) → flaw_of bound ≡ f
      → ((l : Line) (t : T) → tokens l ≡ Some t → (l ≡ line_of t) × IsLine t) → ((t : T) → IsLine t → tokens (line_of t) ≡ Some t)
      → ((t : T) → IsLine t → is_end (line_of t) ≡ false) → (example : T) → IsLine example → (v : V) → value example ≡ Some v
      → IsLineReader (said_line bound line_of IsLine value) (said tokens value f)
  said_reader {T} {V} bound f line_of IsLine tokens value told is there unended example is_example v valued = record {
    example = example;
    is_example = is_example;
    example_keeps = λ b same. (v, valued);
    unended = unended;
    unique = λ t x y one two. same_Some x y (sym one ∙ two);
    is_read = λ l x read.
        let found = said_ok tokens value f l x read in
        let known = is l found.0 found.1 in
        record { tokens = found.0; are = known.0; is = known.1; keeps = λ b same. (x, found.2); says = found.2 };
    stops = λ l e read. passed_by l e (said_err tokens value f l e read);
    reads = λ K t is_line keeps.
        subst (λ e. Meets flaw_of K (λ x. value t ≡ Some x) (said tokens value e (line_of t))) told
        (said_meets tokens value K bound (line_of t) t (there t is_line) (λ kept. keeps bound kept refl));
  }
    where
      passed_by : (l : Line) (e : Flaw) → (e ≡ BadLine) ⊎ ((t : T) × (tokens l ≡ Some t) × (e ≡ f)) → (e ≡ BadLine) ⊎ IsLinePassed (said_line bound line_of IsLine value) l e
      passed_by l e (inl bad) = inl bad
      passed_by l e (inr found) =
          let known = is l found.0 found.1 in
          inr (record {
            tokens = found.0;
            are = known.0;
            is = known.1;
            bound = bound;
            told = found.2 ∙ sym told;
            keeps = All-weaker (λ b. b ≡ bound → ⊥) (λ b. b ≡ bound → (x : V) × (value found.0 ≡ Some x)) (λ b apart same. absurd (apart same)) (before flaw_of bounds bound) (apart_before bound);
          })

  -- no more lines
  pub none_read : IsSectionReader (no_lines {Bound = Bound}) no_steps
  none_read = record {
    fit = record { example = tt; is_example = tt; example_keeps = λ bound. tt; unended = λ t is. All-nil (λ line. is_end line ≡ false); unique = λ t v w one two. refl };
    IsOpen = λ b front. front ≡ [];
    starts = refl;
    goes = λ b c front line here read. absurd (cc);
    goes_on = λ b front here. record { tree = tt; more = []; are = sym (append-nil front ∙ here); is_tree = tt; keeps = everywhere (λ bound. ⊤) (λ bound. tt) bounds };
    ends = λ b front v here read. record { tree = tt; are = here; is_tree = tt; keeps = λ bound. tt; says = tt };
    stops = λ b front line f here read. misfit (cc);
    reads = λ K t is keeps. reads tt refl tt;
  }

  -- a line, and others after it
  module _ {V W B C : Type 0} {line : LineKind Bound V} {read : Reading V} (rest : C → Section Bound W) (steps : V → SectionSteps B W) (one : IsLineReader line read) (by : line.Tokens → C)
      (fit : (t : line.Tokens) → AreFit (rest (by t))) (more : (t : line.Tokens) → line.IsLine t → (v : V) → line.Says t v → IsSectionReader (rest (by t)) (steps v)) where
    abbrev Whole : Section Bound (V × W)
    Whole = line_by line by rest

    abbrev Rest : line.Tokens → Section Bound W
    Rest t = rest (by t)

    abbrev More : {l : Line} {v : V} (known : IsLineRead line l v) → IsSectionReader (Rest known.tokens) (steps v)
    More {v = v} known = more known.tokens known.is v known.says

    record IsBehind (v : V) (r : B) (front : List Line) : Type 0 where
      first : Line
      known : IsLineRead line first v
      behind : List Line
      are : front ≡ first ∷ behind
      is_open : (More known).IsOpen r behind

    abbrev IsOpen : LinePlace V B → List Line → Type 0
    IsOpen at.Before front = front ≡ []
    IsOpen (at.Behind v r) front = IsBehind v r front

    begins_behind : (within : List Bound) (l : Line) (v : V) (ls : List Line) (known : IsLineRead line l v) → Begins (kind_by (Rest known.tokens)) within ls → Begins (kind_by Whole) within (l ∷ ls)
    begins_behind within l v ls known begins = record {
      tree = (known.tokens, begins.tree);
      more = begins.more;
      are = ap₂ (λ x xs. x ∷ xs) (sym known.are) begins.are;
      is_tree = (known.is, begins.is_tree);
      keeps = All-weaker (λ b. (Rest known.tokens).Keeps b begins.tree) (λ b. line.Keeps b known.tokens × (Rest known.tokens).Keeps b begins.tree) (λ b kept. (known.keeps b, kept)) within begins.keeps;
    }

    -- a line, and some after it
    begins_with : (within : List Bound) (front : List Line) (t : line.Tokens) → front ≡ [] → line.IsLine t → All (λ b. line.Keeps b t) within → Begins (kind_by Whole) within (front ++ line.line_of t ∷ [])
    begins_with within front t here is keeps = record {
      tree = (t, (fit t).example);
      more = (Rest t).lines_of (fit t).example;
      are = sym (ap (λ ls. (ls ++ line.line_of t ∷ []) ++ (Rest t).lines_of (fit t).example) here);
      is_tree = (is, (fit t).is_example);
      keeps = All-weaker (λ b. line.Keeps b t) (λ b. line.Keeps b t × (Rest t).Keeps b (fit t).example) (λ b kept. (kept, (fit t).example_keeps b)) within keeps;
    }

    line_goes_on : (b : LinePlace V B) (front : List Line) → IsOpen b front → Begins (kind_by Whole) bounds front
    line_goes_on at.Before front here =
        let begins = begins_with bounds [] one.example refl one.is_example (everywhere (λ b. line.Keeps b one.example) one.example_keeps bounds) in
        record { tree = begins.tree; more = line.line_of one.example ∷ begins.more; are = begins.are ∙ ap (λ ls. ls ++ line.line_of one.example ∷ begins.more) (sym here); is_tree = begins.is_tree; keeps = begins.keeps }
    line_goes_on (at.Behind v r) front here =
        subst (Begins (kind_by Whole) bounds) (sym here.are) (begins_behind bounds here.first v here.behind here.known ((More here.known).goes_on r here.behind here.is_open))

    line_ends : (b : LinePlace V B) (front : List Line) (value : V × W) → IsOpen b front → (line_steps_by read steps).finish b ≡ Some value → IsWhole (kind_by Whole) front value
    line_ends at.Before front value here made = absurd (cc)
    line_ends (at.Behind v r) front value here made =
        option_map_some (λ w. (v, w)) ((steps v).finish r) value made (λ w w_is same.
        let found = (More here.known).ends r here.behind w here.is_open w_is in
        subst (IsWhole (kind_by Whole) front) same (record {
          tree = (here.known.tokens, found.tree);
          are = here.are ∙ ap₂ (λ x xs. x ∷ xs) here.known.are found.are;
          is_tree = (here.known.is, found.is_tree);
          keeps = λ b. (here.known.keeps b, found.keeps b);
          says = (here.known.says, found.says);
        }))

    line_told : (b : LinePlace V B) (front : List Line) (l : Line) → IsOpen b front → Told (λ c. IsOpen c (front ++ l ∷ [])) (λ f. IsStopped (kind_by Whole) f (front ++ l ∷ [])) (line_next read steps b l)
    line_told at.Before front l here =
        then_told _ (result_told (read l) (λ f e. stopped_by (kind_by Whole) f (front ++ l ∷ []) (one.stops l f e) (λ passed.
        owed.passes passed.bound passed.told
        (subst (λ x. Begins (kind_by Whole) (before flaw_of bounds passed.bound) (front ++ x ∷ [])) (sym passed.are) (begins_with (before flaw_of bounds passed.bound) front passed.tokens here passed.is passed.keeps)))))
        (λ v v_is.
        let known = one.is_read l v v_is in
        gives (at.Behind v (steps v).start) refl (record { first = l; known = known; behind = []; are = ap (λ ls. ls ++ l ∷ []) here; is_open = (More known).starts }))
    line_told (at.Behind v r) front l here =
        then_told _ (result_told ((steps v).next r l) (λ f e.
        stopped_with (Rest here.known.tokens) Whole f (here.behind ++ l ∷ []) (front ++ l ∷ [])
        (λ within begins. subst (Begins (kind_by Whole) within) (sym (ap (λ ls. ls ++ l ∷ []) here.are)) (begins_behind within here.first v (here.behind ++ l ∷ []) here.known begins))
        ((More here.known).stops r here.behind l f here.is_open e)))
        (λ q q_is. gives (at.Behind v q) refl
        (record { first = here.first; known = here.known; behind = here.behind ++ l ∷ []; are = ap (λ ls. ls ++ l ∷ []) here.are; is_open = (More here.known).goes r q here.behind l here.is_open q_is }))

    behind_reads : (v : V) (r : B) (ls : List Line) → read_from (line_steps_by read steps) (at.Behind v r) ls ≡ (read_from (steps v) r ls >>= λ w. Ok (v, w))
    behind_reads v r [] = asked-map (λ w. (v, w)) ((steps v).finish r)
    behind_reads v r (l ∷ ls) = bind_through ((steps v).next r l) (at.Behind v) (λ c. read_from (line_steps_by read steps) c ls) (λ q. read_from (steps v) q ls) (λ w. Ok (v, w)) (λ q. behind_reads v q ls)

    line_reads : (K : Bound → Type 0) (t : Whole.Tree) → Whole.IsTree t → ((b : Bound) → K b → Whole.Keeps b t) → Meets flaw_of K (Whole.Says t) (read_from (line_steps_by read steps) at.Before (Whole.lines_of t))
    line_reads K t is keeps =
        then_meets (λ c. read_from (line_steps_by read steps) c ((Rest t.0).lines_of t.1))
        (then_meets {P = line.Says t.0} {Q = λ c. (v : V) × line.Says t.0 v × (c ≡ at.Behind v (steps v).start)} (λ v. Ok (at.Behind v (steps v).start)) (one.reads K t.0 is.0 (λ b kept. (keeps b kept).0))
        (λ v _ says. reads (at.Behind v (steps v).start) refl (v, says, refl)))
        (λ c _ found.
        rw (found.2, behind_reads found.0 (steps found.0).start ((Rest t.0).lines_of t.1))
        (then_meets (λ w. Ok (found.0, w)) ((more t.0 is.0 found.0 found.1).reads K t.1 is.1 (λ b kept. (keeps b kept).1)) (λ w _ says. reads (found.0, w) refl (found.1, says))))

    pub line_read_by : IsSectionReader Whole (line_steps_by read steps)
    line_read_by = record {
      fit = record {
        example = (one.example, (fit one.example).example);
        is_example = (one.is_example, (fit one.example).is_example);
        example_keeps = λ b. (one.example_keeps b, (fit one.example).example_keeps b);
        unended = λ t is. All-cons (λ l. is_end l ≡ false) (line.line_of t.0) ((Rest t.0).lines_of t.1) (one.unended t.0 is.0) ((fit t.0).unended t.1 is.1);
        unique = λ t v w left right. ap₂ (λ x y. (x, y)) (one.unique t.0 v.0 w.0 left.0 right.0) ((fit t.0).unique t.1 v.1 w.1 left.1 right.1);
      };
      IsOpen = IsOpen;
      starts = refl;
      goes = λ b c front l here. told_given (line_told b front l here) c;
      goes_on = line_goes_on;
      ends = line_ends;
      stops = λ b front l f here. told_refused (line_told b front l here) f;
      reads = line_reads;
    }

  module _ {V W B : Type 0} {line : LineKind Bound V} {read : Reading V} {rest : Section Bound W} {steps : SectionSteps B W} (one : IsLineReader line read) (more : IsSectionReader rest steps) where
    pub line_read : IsSectionReader (line_then line rest) (line_steps read steps)
    line_read = line_read_by (λ (c : ⊤). rest) (λ v. steps) one (λ t. tt) (λ t. more.fit) (λ t is v says. more)

    -- lines that begin with a word, at most so many, and others after them; the bound on their number is tested last
    module _ (word : List ℕ) (limit : ℕ) (count : Bound) (told : flaw_of count ≡ TooMany limit) (last : (bound : Bound) → list_all (λ b. not (same_flaw (flaw_of count) (flaw_of b))) (before flaw_of bounds bound) ≡ true)
        (begin : (t : line.Tokens) → line.IsLine t → begins word (line.line_of t) ≡ true) (others : (t : rest.Tree) → rest.IsTree t → heads word (rest.lines_of t) ≡ false) where
      abbrev All_Lines : Section Bound (List V × W)
      All_Lines = lines_then line rest count limit

      abbrev Steps : SectionSteps (LinesPlace V B) (List V × W)
      Steps = lines_steps word limit read steps

      abbrev IsFew : Bound → List line.Tokens → Type 0
      IsFew bound ts = bound ≡ count → length ts ≤ limit

      -- lines within all bounds, and what they say
      record AreLines (ts : List line.Tokens) (vs : List V) : Type 0 where
        each : All line.IsLine ts
        keep : (bound : Bound) → All (line.Keeps bound) ts
        few : length ts ≤ limit
        say : AllZip line.Says ts vs

      record IsAmong (p : LinesPlace V B) (front : List Line) : Type 0 where
        ts : List line.Tokens
        lines : AreLines ts p.values
        behind : List Line
        are : front ≡ map line.line_of ts ++ behind
        is_open : more.IsOpen p.rest behind
        first : p.more ≡ true → (behind ≡ []) × (p.rest ≡ steps.start)

      module _ (p : LinesPlace V B) (front : List Line) (here : IsAmong p front) where
        front_with : (t : line.Tokens) → p.more ≡ true → front ++ line.line_of t ∷ [] ≡ map line.line_of (here.ts ++ t ∷ [])
        front_with t first =
            ap (λ ls. ls ++ line.line_of t ∷ []) (here.are ∙ ap (λ ls. map line.line_of here.ts ++ ls) (here.first first).0 ∙ append-nil (map line.line_of here.ts))
            ∙ sym (map-append line.line_of here.ts (t ∷ []))

        front_behind : (l : Line) → front ++ l ∷ [] ≡ map line.line_of here.ts ++ (here.behind ++ l ∷ [])
        front_behind l = ap (λ ls. ls ++ l ∷ []) here.are ∙ append_assoc (map line.line_of here.ts) here.behind (l ∷ [])

        count_with : (t : line.Tokens) → length (here.ts ++ t ∷ []) ≡ length p.values + 1
        count_with t = length-append here.ts (t ∷ []) ∙ ap (λ n. n + 1) (zip_length line.Says here.ts p.values here.lines.say)

        with_line : (v : V) (l : Line) → p.more ≡ true → length p.values < limit → (known : IsLineRead line l v) → IsAmong (lines_place (p.values ++ v ∷ []) p.rest p.more) (front ++ l ∷ [])
        with_line v l first room known = record {
          ts = here.ts ++ known.tokens ∷ [];
          lines = record {
            each = All-push line.IsLine here.ts known.tokens here.lines.each known.is;
            keep = λ b. All-push (line.Keeps b) here.ts known.tokens (here.lines.keep b) (known.keeps b);
            few = omega (arith, count_with known.tokens, room);
            say = zip_push line.Says here.ts p.values known.tokens v here.lines.say known.says;
          };
          behind = [];
          are = ap (λ x. front ++ x ∷ []) known.are ∙ front_with known.tokens first ∙ sym (append-nil (map line.line_of (here.ts ++ known.tokens ∷ [])));
          is_open = subst (λ r. more.IsOpen r []) (sym (here.first first).1) more.starts;
          first = λ _. (refl, (here.first first).1);
        }

        begins_lines : (within : List Bound) (ls : List Line) → Begins (kind_by rest) within ls → Begins (kind_by All_Lines) within (map line.line_of here.ts ++ ls)
        begins_lines within ls begins = record {
          tree = (here.ts, begins.tree);
          more = begins.more;
          are = ap (λ x. map line.line_of here.ts ++ x) begins.are ∙ sym (append_assoc (map line.line_of here.ts) ls begins.more);
          is_tree = (here.lines.each, begins.is_tree);
          keeps = All-weaker (λ b. rest.Keeps b begins.tree) (λ b. All (line.Keeps b) here.ts × IsFew b here.ts × rest.Keeps b begins.tree) (λ b kept. (here.lines.keep b, λ _. here.lines.few, kept)) within begins.keeps;
        }

        -- with one more line, where the bound on their number is not asked for
        begins_more : (within : List Bound) (l : Line) (t : line.Tokens) → p.more ≡ true → l ≡ line.line_of t → line.IsLine t → All (λ b. line.Keeps b t) within → All (λ b. b ≡ count → ⊥) within
            → Begins (kind_by All_Lines) within (front ++ l ∷ [])
        begins_more within l t first are is keeps apart = record {
          tree = (here.ts ++ t ∷ [], more.fit.example);
          more = rest.lines_of more.fit.example;
          are = ap (λ ls. ls ++ rest.lines_of more.fit.example) (sym (ap (λ x. front ++ x ∷ []) are ∙ front_with t first));
          is_tree = (All-push line.IsLine here.ts t here.lines.each is, more.fit.is_example);
          keeps = all_with (λ b. line.Keeps b t) (λ b. b ≡ count → ⊥) (λ b. All (line.Keeps b) (here.ts ++ t ∷ []) × IsFew b (here.ts ++ t ∷ []) × rest.Keeps b more.fit.example)
              (λ b kept other. (All-push (line.Keeps b) here.ts t (here.lines.keep b) kept, λ same. absurd (other same), more.fit.example_keeps b)) within keeps apart;
        }

        lines_go_on : Begins (kind_by All_Lines) bounds front
        lines_go_on = subst (Begins (kind_by All_Lines) bounds) (sym here.are) (begins_lines bounds here.behind (more.goes_on p.rest here.behind here.is_open))

        lines_end : (value : List V × W) → Steps.finish p ≡ Some value → IsWhole (kind_by All_Lines) front value
        lines_end value made =
            option_map_some (λ w. (p.values, w)) (steps.finish p.rest) value made (λ w w_is same.
            let found = more.ends p.rest here.behind w here.is_open w_is in
            subst (IsWhole (kind_by All_Lines) front) same (record {
              tree = (here.ts, found.tree);
              are = here.are ∙ ap (λ ls. map line.line_of here.ts ++ ls) found.are;
              is_tree = (here.lines.each, found.is_tree);
              keeps = λ b. (here.lines.keep b, λ _. here.lines.few, found.keeps b);
              says = (here.lines.say, found.says);
            }))

        -- the flaw of a line
        passed_more : (l : Line) (f : Flaw) → p.more ≡ true → IsLinePassed line l f → IsStopped (kind_by All_Lines) f (front ++ l ∷ [])
        passed_more l f first passed =
            owed.passes passed.bound passed.told
            (begins_more (before flaw_of bounds passed.bound) l passed.tokens first passed.are passed.is passed.keeps (apart_last (before flaw_of bounds passed.bound) (last passed.bound)))
          where
            apart_last : (bs : List Bound) → list_all (λ b. not (same_flaw (flaw_of count) (flaw_of b))) bs ≡ true → All (λ b. b ≡ count → ⊥) bs
            apart_last [] all = All-nil (λ b. b ≡ count → ⊥)
            apart_last (b ∷ bs) all =
                let parts = and_parts _ _ all in
                All-cons (λ c. c ≡ count → ⊥) b bs (λ same.
                let known : not (same_flaw (flaw_of count) (flaw_of count)) ≡ true = subst (λ c. not (same_flaw (flaw_of count) (flaw_of c)) ≡ true) same parts.0 in
                let equal = same_flaw-refl (flaw_of count) in absurd (cc)) (apart_last bs parts.1)

        too_many : (l : Line) (v : V) (f : Flaw) → p.more ≡ true → IsLineRead line l v → f ≡ TooMany limit → IsStopped (kind_by All_Lines) f (front ++ l ∷ [])
        too_many l v f first known is =
            owed.passes count (is ∙ sym told)
            (begins_more (before flaw_of bounds count) l known.tokens first known.are known.is (everywhere (λ b. line.Keeps b known.tokens) known.keeps (before flaw_of bounds count)) (apart_before count))

        lines_told : (l : Line) → Told (λ c. IsAmong c (front ++ l ∷ [])) (λ f. IsStopped (kind_by All_Lines) f (front ++ l ∷ [])) (lines_next word limit read steps p l)
        lines_told l =
            test_told (p.more && begins word l) _ _
            (λ takes.
            let first = (and_parts p.more (begins word l) takes).0 in
            then_told _ (result_told (read l) (λ f e. stopped_by (kind_by All_Lines) f (front ++ l ∷ []) (one.stops l f e) (passed_more l f first))) (λ v v_is.
            let known = one.is_read l v v_is in
            then_told {P = λ vs. (nat_le limit (length p.values) ≡ false) × (vs ≡ p.values ++ v ∷ [])} _
            (test_told (nat_le limit (length p.values)) _ _ (λ full. refuses (TooMany limit) refl (too_many l v (TooMany limit) first known refl)) (λ room. gives _ refl (room, refl)))
            (λ vs found. gives (lines_place vs p.rest p.more) refl (rw found.1 (let room = found.0 in with_line v l first (grind (arith, nat_tests, room)) known)))))
            (λ other.
            then_told _ (result_told (steps.next p.rest l) (λ f e.
            stopped_with rest All_Lines f (here.behind ++ l ∷ []) (front ++ l ∷ []) (λ within begins. subst (Begins (kind_by All_Lines) within) (sym (front_behind l)) (begins_lines within (here.behind ++ l ∷ []) begins))
            (more.stops p.rest here.behind l f here.is_open e)))
            (λ r r_is. gives (lines_place p.values r false) refl (record {
              ts = here.ts;
              lines = here.lines;
              behind = here.behind ++ l ∷ [];
              are = front_behind l;
              is_open = more.goes p.rest r here.behind l here.is_open r_is;
              first = λ e. absurd (cc);
            })))

      lines_behind : (vs : List V) (r : B) (ls : List Line) → read_from Steps (lines_place vs r false) ls ≡ (read_from steps r ls >>= λ w. Ok (vs, w))
      lines_behind vs r [] = asked-map (λ w. (vs, w)) (steps.finish r)
      lines_behind vs r (l ∷ ls) = bind_through (steps.next r l) (λ q. lines_place vs q false) (λ c. read_from Steps c ls) (λ q. read_from steps q ls) (λ w. Ok (vs, w)) (λ q. lines_behind vs q ls)

      others_read : (vs : List V) (ls : List Line) → heads word ls ≡ false → read_from Steps (lines_place vs steps.start true) ls ≡ (read_from steps steps.start ls >>= λ w. Ok (vs, w))
      others_read vs [] other = asked-map (λ w. (vs, w)) (steps.finish steps.start)
      others_read vs (l ∷ ls) other =
          rw other (bind_through (steps.next steps.start l) (λ q. lines_place vs q false) (λ c. read_from Steps c ls) (λ q. read_from steps q ls) (λ w. Ok (vs, w)) (λ q. lines_behind vs q ls))

      module _ (K : Bound → Type 0) where
        grown_meets : (vs : List V) (v : V) → (K count → length vs < limit) → Meets flaw_of K (λ ws. ws ≡ vs ++ v ∷ []) (grown limit vs v)
        grown_meets vs v few = by_room (nat_le limit (length vs)) refl
          where
            by_room : (b : Bool) → nat_le limit (length vs) ≡ b → Meets flaw_of K (λ ws. ws ≡ vs ++ v ∷ []) (grown limit vs v)
            by_room true is = passes count (rw is (ap Err (sym told))) (λ kept. let room = few kept in absurd (grind (arith, nat_tests, room, is)))
            by_room false is = reads (vs ++ v ∷ []) (rw is refl) refl

        record AreRead (vs : List V) (ts : List line.Tokens) (t : rest.Tree) (value : List V × W) : Type 0 where
          us : List V
          w : W
          each : AllZip line.Says ts us
          says : rest.Says t w
          is : value ≡ (vs ++ us, w)

        lines_meet : (vs : List V) (ts : List line.Tokens) (t : rest.Tree) → All line.IsLine ts → rest.IsTree t → ((b : Bound) → K b → All (line.Keeps b) ts) → ((b : Bound) → K b → rest.Keeps b t) → (K count → length vs + length ts ≤ limit)
            → Meets flaw_of K (AreRead vs ts t) (read_from Steps (lines_place vs steps.start true) (map line.line_of ts ++ rest.lines_of t))
        lines_meet vs [] t each is keep keeps few =
            rw (others_read vs (rest.lines_of t) (others t is))
            (then_meets (λ w. Ok (vs, w)) (more.reads K t is keeps) (λ w _ says. reads (vs, w) refl (record { us = []; w = w; each = tt; says = says; is = ap (λ xs. (xs, w)) (sym (append-nil vs)) })))
        lines_meet vs (u ∷ us) t each is keep keeps few =
            rw (begin u (All-head line.IsLine u us each))
            (then_meets (λ c. read_from Steps c (map line.line_of us ++ rest.lines_of t))
            (then_meets {P = line.Says u} {Q = λ c. (v : V) × line.Says u v × (c ≡ lines_place (vs ++ v ∷ []) steps.start true)} (λ v. grown limit vs v >>= λ ws. Ok (lines_place ws steps.start true))
            (one.reads K u (All-head line.IsLine u us each) (λ b kept. All-head (line.Keeps b) u us (keep b kept)))
            (λ v _ says. then_meets (λ ws. Ok (lines_place ws steps.start true)) (grown_meets vs v (λ kept. omega (arith, few kept))) (λ ws _ same. reads (lines_place ws steps.start true) refl (v, says, ap (λ xs. lines_place xs steps.start true) same))))
            (λ c _ found.
            rw found.2
            (meets-weaker
            (lines_meet (vs ++ found.0 ∷ []) us t (All-tail line.IsLine u us each) is (λ b kept. All-tail (line.Keeps b) u us (keep b kept)) keeps (λ kept. omega (arith, few kept, length-append vs (found.0 ∷ []))))
            (λ value _ known. record {
              us = found.0 ∷ known.us;
              w = known.w;
              each = (found.1, known.each);
              says = known.says;
              is = known.is ∙ ap (λ xs. (xs, known.w)) (append_assoc vs (found.0 ∷ []) known.us);
            }))))

      pub lines_read : IsSectionReader All_Lines Steps
      lines_read = record {
        fit = record {
          example = ([], more.fit.example);
          is_example = (All-nil line.IsLine, more.fit.is_example);
          example_keeps = λ b. (All-nil (line.Keeps b), λ _. omega arith, more.fit.example_keeps b);
          unended = λ t is. All-append (λ l. is_end l ≡ false) (map line.line_of t.0) (rest.lines_of t.1)
              (All-map (λ l. is_end l ≡ false) line.line_of t.0 (All-weaker line.IsLine (λ u. is_end (line.line_of u) ≡ false) one.unended t.0 is.0)) (more.fit.unended t.1 is.1);
          unique = λ t v w left right. ap₂ (λ x y. (x, y)) (AllZip-unique line.Says one.unique t.0 v.0 w.0 left.0 right.0) (more.fit.unique t.1 v.1 w.1 left.1 right.1);
        };
        IsOpen = IsAmong;
        starts = record { ts = []; lines = record { each = All-nil line.IsLine; keep = λ b. All-nil (line.Keeps b); few = omega arith; say = tt }; behind = []; are = refl; is_open = more.starts; first = λ _. (refl, refl) };
        goes = λ b c front l here. told_given (lines_told b front here l) c;
        goes_on = lines_go_on;
        ends = λ b front v here. lines_end b front here v;
        stops = λ b front l f here. told_refused (lines_told b front here l) f;
        reads = λ K t is keeps.
            meets-weaker (lines_meet K [] t.0 t.1 is.0 is.1 (λ b kept. (keeps b kept).0) (λ b kept. (keeps b kept).2) (λ kept. omega (arith, (keeps count kept).1 refl)))
            (λ v _ known. subst (λ u. AllZip line.Says t.0 u.0 × rest.Says t.1 u.1) (sym known.is) (known.each, known.says));
      }

  -- the same lines, which together say another value
  module _ {V W B : Type 0} {section : Section Bound V} {steps : SectionSteps B V} (lines : IsSectionReader section steps) (f : V → W) (Says : section.Tree → W → Type 0)
      (unique : (t : section.Tree) (v w : W) → Says t v → Says t w → v ≡ w) (says : (t : section.Tree) (v : V) → section.IsTree t → section.Says t v → Says t (f v)) where
    begins_as : (within : List Bound) (ls : List Line) → Begins (kind_by section) within ls → Begins (kind_by (said_as section Says)) within ls
    begins_as within ls begins = record { tree = begins.tree; more = begins.more; are = begins.are; is_tree = begins.is_tree; keeps = begins.keeps }

    read_as : (b : B) (ls : List Line) → read_from (steps_as f steps) b ls ≡ (read_from steps b ls >>= λ v. Ok (f v))
    read_as b [] = asked-map f (steps.finish b)
    read_as b (l ∷ ls) = bind_assoc (steps.next b l) (λ c. read_from steps c ls) (λ v. Ok (f v)) (λ c. read_from (steps_as f steps) c ls) (λ c. read_as c ls)

    pub said_as_read : IsSectionReader (said_as section Says) (steps_as f steps)
    said_as_read = record {
      fit = record { example = lines.fit.example; is_example = lines.fit.is_example; example_keeps = lines.fit.example_keeps; unended = lines.fit.unended; unique = unique };
      IsOpen = lines.IsOpen;
      starts = lines.starts;
      goes = lines.goes;
      goes_on = λ b front here. begins_as bounds front (lines.goes_on b front here);
      ends = λ b front w here made.
          option_map_some f (steps.finish b) w made (λ v v_is same.
          let found = lines.ends b front v here v_is in
          record { tree = found.tree; are = found.are; is_tree = found.is_tree; keeps = found.keeps; says = subst (Says found.tree) same (says found.tree v found.is_tree found.says) });
      stops = λ b front l told here made. stopped_with section (said_as section Says) told (front ++ l ∷ []) (front ++ l ∷ []) (λ within begins. begins_as within (front ++ l ∷ []) begins) (lines.stops b front l told here made);
      reads = λ K t is keeps. rw (read_as steps.start (section.lines_of t)) (then_meets (λ v. Ok (f v)) (lines.reads K t is keeps) (λ v _ known. reads (f v) refl (says t v is known)));
    }
