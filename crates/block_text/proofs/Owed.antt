-- What a reader of a kind of block owes: facts of single blocks, from which those of whole texts follow.
use Rattle.block_text.proofs.Prelude.{◌≡◌, ◌⊎◌, ℕ, false, List, [], ◌∷◌, ◌++◌, Some, None, Result, Ok, Err, refl, sym, ap, ap₂, ◌∙◌, subst, inl, inr, if◌then◌else◌, All, list_any, Flaw, BadLine, TooMany, ◌>>=◌, asked, begins_comment, Line, block_limit, is_end, is_pair, Kind, is_other_head, Steps, All-head, All-tail, cond_some, same_Some}
use Rattle.block_text.proofs.Bounds.{bound_of, before}
use Rattle.block_text.proofs.LineTrees.{pair_is}
use Rattle.block_text.proofs.Meets.{Meets}
use Rattle.block_text.proofs.NumberedLines.{run}
use Rattle.block_text.proofs.Results.{bind_assoc}

-- a block whose lines are read
module _ {Begun Value : Type 0} (steps : Steps Begun Value) where
  abbrev pub read_inside : Begun → List Line → Result Value Flaw
  read_inside b [] = asked BadLine (steps.finish b)
  read_inside b (line ∷ lines) = if is_end line then Err BadLine else (steps.next b line >>= λ c. read_inside c lines)

  abbrev pub read_block : List Line → Result Value Flaw
  read_block [] = Err BadLine
  read_block (head ∷ lines) = asked BadLine (steps.begin head) >>= λ b. read_inside b lines

  -- the same of lines of which none is `end`
  pub read_inside-run : (b : Begun) (lines : List Line) → All (λ line. is_end line ≡ false) lines → read_inside b lines ≡ (run steps.next b lines >>= λ c. asked BadLine (steps.finish c))
  read_inside-run b [] none = refl
  read_inside-run b (line ∷ lines) none =
      rw (All-head (λ l. is_end l ≡ false) line lines none)
      (bind_assoc (steps.next b line) (λ c. run steps.next c lines) (λ c. asked BadLine (steps.finish c)) (λ c. read_inside c lines) (λ c. read_inside-run c lines (All-tail (λ l. is_end l ≡ false) line lines none)))

-- the first lines of a block
module _ {Value : Type 0} (kind : Kind Value) where
  -- The lines are the first ones of a block that keeps these bounds.
  pub record Begins (within : List kind.Bound) (front : List Line) : Type 0 where
    pub tree : kind.Tree
    pub more : List Line
    pub are : kind.lines_of tree ≡ front ++ more
    pub is_tree : kind.IsTree tree
    pub keeps : All (λ bound. kind.Keeps bound tree) within

  -- The lines are those of a block within all bounds, which says the value.
  pub record IsWhole (front : List Line) (value : Value) : Type 0 where
    pub tree : kind.Tree
    pub are : front ≡ kind.lines_of tree
    pub is_tree : kind.IsTree tree
    pub keeps : (bound : kind.Bound) → kind.Keeps bound tree
    pub says : kind.Says tree value

  -- The last line doesn't fit, or a block begins with the lines that keeps the bounds before one.
  pub data IsStopped (flaw : Flaw) (front : List Line) : Type 0 where
    misfit : flaw ≡ BadLine → IsStopped flaw front
    passes : (bound : kind.Bound) → flaw ≡ kind.flaw_of bound → Begins (before kind.flaw_of kind.bounds bound) front → IsStopped flaw front

  pub stopped_by : {Found : Type 0} (flaw : Flaw) (front : List Line) → (flaw ≡ BadLine) ⊎ Found → (Found → IsStopped flaw front) → IsStopped flaw front
  stopped_by flaw front (inl bad) stops = misfit bad
  stopped_by flaw front (inr found) stops = stops found

  -- with the lines of a block that are the same
  pub begins_as : (within : List kind.Bound) (front others : List Line) (line other : Line) → front ≡ others → line ≡ other → Begins within (others ++ other ∷ []) → Begins within (front ++ line ∷ [])
  begins_as within front others line other fronts lines begins = subst (Begins within) (ap₂ (λ ls l. ls ++ l ∷ []) (sym fronts) (sym lines)) begins

  pub record IsReader {Begun : Type 0} (steps : Steps Begun Value) : Type 1 where
    -- each bound has a flaw of its own, other than that of a line that doesn't fit or of a block too many
    pub told : (bound : kind.Bound) → bound_of kind.flaw_of kind.bounds (kind.flaw_of bound) ≡ Some bound
    pub none_told : (bound_of kind.flaw_of kind.bounds BadLine ≡ None) × (bound_of kind.flaw_of kind.bounds (TooMany block_limit) ≡ None)
    -- blocks of other kinds begin with the words of the kind, which aren't comments
    pub others : steps.others ≡ kind.others
    pub words : list_any begins_comment kind.others ≡ false
    -- the first lines of a block, by what was made of them
    pub IsOpen : Begun → List Line → Type 0
    -- no head of the kind is one of another kind
    pub begins : (line : Line) (b : Begun) → steps.begin line ≡ Some b → (is_other_head kind.others line ≡ false) × IsOpen b (line ∷ [])
    pub goes : (b c : Begun) (front : List Line) (line : Line) → IsOpen b front → is_end line ≡ false → steps.next b line ≡ Ok c → IsOpen c (front ++ line ∷ [])
    pub goes_on : (b : Begun) (front : List Line) → IsOpen b front → Begins kind.bounds front
    pub ends : (b : Begun) (front : List Line) (value : Value) → IsOpen b front → steps.finish b ≡ Some value → IsWhole front value
    pub stops : (b : Begun) (front : List Line) (line : Line) (flaw : Flaw) → IsOpen b front → is_end line ≡ false → steps.next b line ≡ Err flaw → IsStopped flaw (front ++ line ∷ [])
    -- blocks are read, but for the bounds that they pass
    pub reads : (K : kind.Bound → Type 0) (t : kind.Tree) → kind.IsTree t → ((bound : kind.Bound) → K bound → kind.Keeps bound t)
        → Meets kind.flaw_of K (λ value. kind.Says t value) (read_block steps (kind.lines_of t))
    pub unique : (t : kind.Tree) (v w : Value) → kind.Says t v → kind.Says t w → v ≡ w

module _ {Value : Type 0} {kind : Kind Value} {Begun : Type 0} {steps : Steps Begun Value} (reader : IsReader kind steps) where
  pub same_told : (a b : kind.Bound) → kind.flaw_of a ≡ kind.flaw_of b → a ≡ b
  same_told a b same = same_Some a b (sym (reader.told a) ∙ ap (bound_of kind.flaw_of kind.bounds) same ∙ reader.told b)

  pub told_for_none : (b : kind.Bound) (f : Flaw) → bound_of kind.flaw_of kind.bounds f ≡ None → f ≡ kind.flaw_of b → ⊥
  told_for_none b f none same = let found = sym none ∙ ap (bound_of kind.flaw_of kind.bounds) same ∙ reader.told b in absurd (cc)

-- where an open block is after its head, and no block of another kind begins
pub begins_by_head : {Begun : Type 0} (others : List (List ℕ)) (IsOpen : Begun → List Line → Type 0) (first second : List ℕ) (b : Begun)
    → is_other_head others (first ∷ second ∷ []) ≡ false → IsOpen b ((first ∷ second ∷ []) ∷ [])
    → (line : Line) (c : Begun) → (if is_pair first second line then Some b else None) ≡ Some c → (is_other_head others line ≡ false) × IsOpen c (line ∷ [])
begins_by_head others IsOpen first second b none is_open line c read =
    let found = cond_some (is_pair first second line) b c read in
    let known : first ∷ second ∷ [] ≡ line = sym (pair_is first second line found.0) in
    (subst (λ l. is_other_head others l ≡ false) known none, subst (λ d. IsOpen d (line ∷ [])) found.1 (subst (λ l. IsOpen b (l ∷ [])) known is_open))

-- a reader of a kind all of whose blocks begin with the same two words, by what it makes of the lines after them
pub reader_by_head : {Value : Type 0} (kind : Kind Value) {Begun : Type 0} (steps : Steps Begun Value) (IsOpen : Begun → List Line → Type 0)
    → ((bound : kind.Bound) → bound_of kind.flaw_of kind.bounds (kind.flaw_of bound) ≡ Some bound)
    → (bound_of kind.flaw_of kind.bounds BadLine ≡ None) × (bound_of kind.flaw_of kind.bounds (TooMany block_limit) ≡ None)
    → steps.others ≡ kind.others → list_any begins_comment kind.others ≡ false
    → (first second : List ℕ) (head : Begun) → ((line : Line) → steps.begin line ≡ (if is_pair first second line then Some head else None))
    → is_other_head kind.others (first ∷ second ∷ []) ≡ false → IsOpen head ((first ∷ second ∷ []) ∷ [])
    → ((b c : Begun) (front : List Line) (line : Line) → IsOpen b front → is_end line ≡ false → steps.next b line ≡ Ok c → IsOpen c (front ++ line ∷ []))
    → ((b : Begun) (front : List Line) → IsOpen b front → Begins kind kind.bounds front)
    → ((b : Begun) (front : List Line) (value : Value) → IsOpen b front → steps.finish b ≡ Some value → IsWhole kind front value)
    → ((b : Begun) (front : List Line) (line : Line) (flaw : Flaw) → IsOpen b front → is_end line ≡ false → steps.next b line ≡ Err flaw → IsStopped kind flaw (front ++ line ∷ []))
    → ((K : kind.Bound → Type 0) (t : kind.Tree) → kind.IsTree t → ((bound : kind.Bound) → K bound → kind.Keeps bound t)
    → Meets kind.flaw_of K (λ value. kind.Says t value) (read_block steps (kind.lines_of t)))
    → ((t : kind.Tree) (v w : Value) → kind.Says t v → kind.Says t w → v ≡ w) → IsReader kind steps
reader_by_head kind steps IsOpen told none_told others words first second head heads none is_open goes goes_on ends stops reads unique = record {
  told = told;
  none_told = none_told;
  others = others;
  words = words;
  IsOpen = IsOpen;
  begins = λ line b read. begins_by_head kind.others IsOpen first second head none is_open line b (sym (heads line) ∙ read);
  goes = goes;
  goes_on = goes_on;
  ends = ends;
  stops = stops;
  reads = reads;
  unique = unique;
}
