-- A block by its lines is read and read back.
use Rattle.block_lines.proofs.Prelude.{arith, ◌≡◌, ◌≤◌, ◌<◌, ◌^◌, ◌++◌, ◌∷◌, [], ℕ, suc, true, false, List, Some, None, Ok, Err, refl, sym, ap, ◌∙◌, subst, length, map, append_assoc, codes, IsTrue, decimal, All, AllZip, flat_map, list_all, list_any, All-nil, All-cons, All-head, All-tail, Flaw, BadLine, NumberTooLarge, TooMany, is_inside, is_other_head, Kind, is_number, number_within, Line, block_limit, is_end, end_line, number_behind, number_of, Steps, tokens_of, is_skipped, begins_comment, bound_of, before, IsTextOf, no_text, text-append, text_of_tokens, number_is, text_of_number, end_is_text, decimal_text, decimal_number, decimal_within, Begins, IsWhole, IsStopped, misfit, IsReader, reader_by_head, read_inside, IsWritten, is_same, bind_same, number_found, literal, are_low, LineKind, number_line, Section, no_lines, line_then, lines_then, block_kind, SectionSteps, block_steps}
use Rattle.block_text.proofs.Owed as owed
use Rattle.block_lines.proofs.SectionReaders.{read_from, kind_by, IsLineReader, IsSectionReader, said_reader}

module _ {Bound : Type 0} (flaw_of : Bound → Flaw) (bounds : List Bound) where
  -- a word and a number
  pub number_read : (bound : Bound) (word : List ℕ) (most : ℕ) → flaw_of bound ≡ NumberTooLarge → IsLineReader flaw_of bounds (number_line bound word most) (number_of word most)
  number_read bound word most told =
      let zero = number_found most (codes "0") (omega arith) in
      said_reader flaw_of bounds bound NumberTooLarge (λ digits. word ∷ digits ∷ []) (λ digits. IsTrue (is_number digits)) (number_behind word) (number_within most) told
      (number_is word) (λ digits number. rw (is_same word, number) refl) (λ digits number. refl) (codes "0") refl zero.0 zero.1

  -- a block
  module _ {V B : Type 0} (first second : List ℕ) (others : List (List ℕ)) {section : Section Bound V} {steps : SectionSteps B V} (lines : IsSectionReader flaw_of bounds section steps) where
    abbrev Blocks : Kind V
    Blocks = block_kind first second others bounds flaw_of section

    abbrev Reading : Steps B V
    Reading = block_steps first second others steps

    abbrev head : Line
    head = first ∷ second ∷ []

    record IsOpen (b : B) (front : List Line) : Type 0 where
      behind : List Line
      are : front ≡ head ∷ behind
      is_open : lines.IsOpen b behind

    begins_headed : (within : List Bound) (ls : List Line) → Begins (kind_by flaw_of bounds section) within ls → Begins Blocks within (head ∷ ls)
    begins_headed within ls begins = record { tree = begins.tree; more = begins.more; are = ap (λ xs. head ∷ xs) begins.are; is_tree = begins.is_tree; keeps = begins.keeps }

    goes : (b c : B) (front : List Line) (line : Line) → IsOpen b front → is_end line ≡ false → steps.next b line ≡ Ok c → IsOpen c (front ++ line ∷ [])
    goes b c front line here more read = record { behind = here.behind ++ line ∷ []; are = ap (λ ls. ls ++ line ∷ []) here.are; is_open = lines.goes b c here.behind line here.is_open read }

    ends : (b : B) (front : List Line) (v : V) → IsOpen b front → steps.finish b ≡ Some v → IsWhole Blocks front v
    ends b front v here read =
        let found = lines.ends b here.behind v here.is_open read in
        record { tree = found.tree; are = here.are ∙ ap (λ ls. head ∷ ls) found.are; is_tree = found.is_tree; keeps = found.keeps; says = found.says }

    stops : (b : B) (front : List Line) (line : Line) (f : Flaw) → IsOpen b front → is_end line ≡ false → steps.next b line ≡ Err f → IsStopped Blocks f (front ++ line ∷ [])
    stops b front line f here more read = by_cases (lines.stops b here.behind line f here.is_open read)
      where
        by_cases : IsStopped (kind_by flaw_of bounds section) f (here.behind ++ line ∷ []) → IsStopped Blocks f (front ++ line ∷ [])
        by_cases (misfit bad) = misfit bad
        by_cases (owed.passes bound told begins) =
            owed.passes bound told (subst (Begins Blocks (before flaw_of bounds bound)) (sym (ap (λ ls. ls ++ line ∷ []) here.are)) (begins_headed (before flaw_of bounds bound) (here.behind ++ line ∷ []) begins))

    -- a block of lines of which none is `end`
    inside_read : (b : B) (ls : List Line) → All (λ line. is_end line ≡ false) ls → read_inside Reading b ls ≡ read_from steps b ls
    inside_read b [] none = refl
    inside_read b (line ∷ ls) none =
        rw (All-head (λ l. is_end l ≡ false) line ls none) (bind_same (steps.next b line) _ _ (λ c. inside_read c ls (All-tail (λ l. is_end l ≡ false) line ls none)))

    pub block_read : ((bound : Bound) → bound_of flaw_of bounds (flaw_of bound) ≡ Some bound) → (bound_of flaw_of bounds BadLine ≡ None) × (bound_of flaw_of bounds (TooMany block_limit) ≡ None)
        → list_any begins_comment others ≡ false → is_other_head others head ≡ false → IsReader Blocks Reading
    block_read told none_told words none =
        reader_by_head Blocks Reading IsOpen told none_told refl words first second steps.start (λ line. refl) none (record { behind = []; are = refl; is_open = lines.starts })
        goes (λ b front here. subst (Begins Blocks bounds) (sym here.are) (begins_headed bounds here.behind (lines.goes_on b here.behind here.is_open))) ends stops
        (λ K t is keeps. rw (is_same first, is_same second, inside_read steps.start (section.lines_of t) (lines.fit.unended t is)) (lines.reads K t is keeps))
        lines.fit.unique

-- what is read of a text that is written
pub record IsLineWritten {Bound V : Type 0} (line : LineKind Bound V) (text : List ℕ) (v : V) : Type 0 where
  pub tokens : line.Tokens
  pub text_is : IsTextOf text (line.line_of tokens ∷ [])
  pub is : line.IsLine tokens
  pub keeps : (bound : Bound) → line.Keeps bound tokens
  pub says : line.Says tokens v

-- lines and the line `end` after them
pub record AreLinesWritten {Bound V : Type 0} (section : Section Bound V) (text : List ℕ) (v : V) : Type 0 where
  pub tree : section.Tree
  pub text_is : IsTextOf text (section.lines_of tree ++ end_line ∷ [])
  pub is_tree : section.IsTree tree
  pub keeps : (bound : Bound) → section.Keeps bound tree
  pub says : section.Says tree v

-- a word and a number, by the word with a blank
pub number_written : {Bound : Type 0} (bound : Bound) (word front : List ℕ) (most n : ℕ) → are_low front ≡ true → list_all is_inside front ≡ true → tokens_of (front ++ decimal n) ≡ word ∷ tokens_of (decimal n)
    → is_skipped (word ∷ decimal n ∷ []) ≡ false → n ≤ most → most < 10 ^ 64 → IsLineWritten (number_line bound word most) ((front ++ decimal n) ++ codes "\n") n
number_written bound word front most n low inside split stands within small =
    let below : n < 10 ^ 64 = omega (arith, within, small) in
    let value : number_within most (decimal n) ≡ Some n = decimal_within most n within below in
    record {
      tokens = decimal n;
      text_is = text_of_number front (word ∷ []) (decimal n) (literal front low inside) (decimal_text n below) split stands;
      is = decimal_number n below;
      keeps = λ b same. (n, value);
      says = value;
    }

pub none_written : {Bound : Type 0} → AreLinesWritten (no_lines {Bound = Bound}) (codes "end\n") tt
none_written = record { tree = tt; text_is = end_is_text; is_tree = tt; keeps = λ bound. tt; says = tt }

module _ {Bound V : Type 0} (line : LineKind Bound V) where
  -- several lines, by the text of each
  record AreAllWritten (text : List ℕ) (vs : List V) : Type 0 where
    each : List line.Tokens
    text_is : IsTextOf text (map line.line_of each)
    are : All line.IsLine each
    keep : (bound : Bound) → All (line.Keeps bound) each
    count : length each ≡ length vs
    say : AllZip line.Says each vs

  all_written : {X : Type 0} (text_of : X → List ℕ) (value : X → V) (IsGood : X → Type 0) → ((x : X) → IsGood x → IsLineWritten line (text_of x) (value x)) → (xs : List X) → All IsGood xs → AreAllWritten (flat_map text_of xs) (map value xs)
  all_written text_of value IsGood written [] good = record { each = []; text_is = no_text; are = All-nil line.IsLine; keep = λ bound. All-nil (line.Keeps bound); count = refl; say = tt }
  all_written text_of value IsGood written (x ∷ xs) good =
      let one = written x (All-head IsGood x xs good) in
      let more = all_written text_of value IsGood written xs (All-tail IsGood x xs good) in
      record {
        each = one.tokens ∷ more.each;
        text_is = text-append _ _ _ _ one.text_is more.text_is;
        are = All-cons line.IsLine one.tokens more.each one.is more.are;
        keep = λ bound. All-cons (line.Keeps bound) one.tokens more.each (one.keeps bound) (more.keep bound);
        count = ap (λ n. suc n) more.count;
        say = (one.says, more.say);
      }

module _ {Bound V W : Type 0} {line : LineKind Bound V} {rest : Section Bound W} where
  pub line_written : {text texts : List ℕ} {v : V} {w : W} → IsLineWritten line text v → AreLinesWritten rest texts w → AreLinesWritten (line_then line rest) (text ++ texts) (v, w)
  line_written one more = record {
    tree = (one.tokens, more.tree);
    text_is = text-append _ _ _ _ one.text_is more.text_is;
    is_tree = (one.is, more.is_tree);
    keeps = λ bound. (one.keeps bound, more.keeps bound);
    says = (one.says, more.says);
  }

  pub lines_written : {X : Type 0} (count : Bound) (limit : ℕ) (text_of : X → List ℕ) (value : X → V) (IsGood : X → Type 0) → ((x : X) → IsGood x → IsLineWritten line (text_of x) (value x))
      → (xs : List X) → All IsGood xs → length (map value xs) ≤ limit → {texts : List ℕ} {w : W} → AreLinesWritten rest texts w → AreLinesWritten (lines_then line rest count limit) (flat_map text_of xs ++ texts) (map value xs, w)
  lines_written count limit text_of value IsGood written xs good few {texts} {w} more =
      let all = all_written line text_of value IsGood written xs good in
      record {
        tree = (all.each, more.tree);
        text_is = subst (IsTextOf (flat_map text_of xs ++ texts)) (sym (append_assoc (map line.line_of all.each) (rest.lines_of more.tree) (end_line ∷ []))) (text-append _ _ _ _ all.text_is more.text_is);
        is_tree = (all.are, more.is_tree);
        keeps = λ bound. (all.keep bound, λ _. omega (arith, all.count, few), more.keeps bound);
        says = (all.say, more.says);
      }

pub block_written : {Bound V : Type 0} (first second front : List ℕ) (others : List (List ℕ)) (bounds : List Bound) (flaw_of : Bound → Flaw) (section : Section Bound V) → are_low front ≡ true → list_all is_inside front ≡ true
    → tokens_of front ≡ first ∷ second ∷ [] → is_skipped (first ∷ second ∷ []) ≡ false → {text : List ℕ} {v : V} → AreLinesWritten section text v
    → IsWritten (block_kind first second others bounds flaw_of section) ((front ++ codes "\n") ++ text) v
block_written first second front others bounds flaw_of section low inside split stands lines = record {
  tree = lines.tree;
  text_is = text-append _ _ _ _ (text_of_tokens front (first ∷ second ∷ []) (literal front low inside) split stands) lines.text_is;
  is_tree = lines.is_tree;
  keeps = lines.keeps;
  says = lines.says;
}
