-- Texts one after another, and texts of several parts: written blocks, comments and blocks of other kinds.
use Rattle.block_text.proofs.Prelude.{◌≡◌, ◌≤◌, ◌<◌, ◌+◌, ◌==◌, ℕ, zero, suc, Bool, true, false, not, cond, ◌||◌, List, [], ◌∷◌, ◌++◌, arith, refl, sym, ap, ◌∙◌, subst, length, get_or, take, map, codes, IsTrue, All, AllZip, list_all, list_any, onto_first, slice_split, IsUtf8, lines, strip_carriage_return, and_parts, or_parts, flat_map-append, length-append, append-nil, append_assoc, All-nil, All-cons, All-head, All-tail, All-append, All-weaker, All-map, All-filter, slice_split_at, AllPass-from_list_all, bytes_eq-Decides, IsUtf8-append, IsUtf8-from_is_utf8, is_utf8-from_IsUtf8, is_line_end, goes_on, begins_comment, tokens_of, is_skipped, Line, OtherTokens, block_limit, is, is_end, content, end_line, Kind, Block, own, other_block, own_in, block_lines, IsBlock, TextBound, on_block, on_count, Keeps, bounds, is_other_head, HasBlocks, is_whole, is_inside, IsLineText, IsBodyLine, Part, block, comment, part_text, values_in, IsPart, AllZip-append, zip_length, flat_map}
use Rattle.block_text.specs.Back.{ended, other}
use Rattle.block_text.proofs.ContentBack.{IsTextOf, no_text, content-append, text-append, text_of_line, text_of_tokens, whole_line, whole_append}
use Rattle.block_text.proofs.Cuts.{part_is_line}
use Rattle.block_text.proofs.LinesBack.{lines_append}
use Rattle.block_text.proofs.NumberLines.{end_is_text}
use Rattle.block_text.proofs.Standing.{everywhere}
use Rattle.block_text.proofs.TextLines.{own_in-append}
use Rattle.block_text.proofs.TextsBack.{ascii}

-- a run that begins with # is a comment
comment_by : (cs : List ℕ) (tokens : List (List ℕ)) (alone : Bool) → is_skipped (cond alone ((35 ∷ []) ∷ tokens) (onto_first 35 tokens)) ≡ true
comment_by cs tokens true = refl
comment_by cs [] false = refl
comment_by cs (token ∷ tokens) false = refl

comment_is_skipped : (cs : List ℕ) → is_skipped (tokens_of (35 ∷ cs)) ≡ true
comment_is_skipped cs = comment_by cs (tokens_of cs) (not (goes_on cs))

-- and so is what is left of it
front_is_skipped : (n : ℕ) (cs : List ℕ) → is_skipped (tokens_of (take n (35 ∷ cs))) ≡ true
front_is_skipped zero cs = refl
front_is_skipped (suc n) cs = comment_is_skipped (take n cs)

stripped_by : (n : ℕ) (cs : List ℕ) (returns : Bool) → is_skipped (tokens_of (cond returns (take n (35 ∷ cs)) (35 ∷ cs))) ≡ true
stripped_by n cs true = front_is_skipped n cs
stripped_by n cs false = comment_is_skipped cs

-- not LF
abbrev pub is_before_end : ℕ → Bool
is_before_end c = not (c == 10)

no_line_end : (line : List ℕ) → list_all is_before_end line ≡ true → All (λ c. is_line_end c ≡ false) line
no_line_end line all = λ k c below. not_true (get_or line k c == 10) (AllPass-from_list_all is_before_end line all k c below)
  where
    not_true : (b : Bool) → not b ≡ true → b ≡ false
    not_true true known = absurd (cc)
    not_true false known = refl

pub comment_is_text : (text : List ℕ) → IsUtf8 text → list_all is_before_end text ≡ true → IsTextOf (ended (codes "#" ++ text)) []
comment_is_text text utf8 all =
    let split : slice_split is_line_end ((35 ∷ text) ++ 10 ∷ []) ≡ (35 ∷ text) ∷ slice_split is_line_end [] =
    slice_split_at is_line_end (35 ∷ text) 10 [] (no_line_end (35 ∷ text) all) refl in
    let one_line : lines ((35 ∷ text) ++ 10 ∷ []) ≡ strip_carriage_return (35 ∷ text) ∷ [] = rw split (part_is_line (35 ∷ text) []) in
    record {
      utf8 = IsUtf8-append (35 ∷ text) (10 ∷ []) (IsUtf8-append (35 ∷ []) text (ascii (35 ∷ []) refl) utf8) (ascii (10 ∷ []) refl);
      whole = whole_line (35 ∷ text);
      are = ap content one_line ∙ rw (stripped_by _ text _) refl;
    }

pub inside_is_before_end : (text : List ℕ) → list_all is_inside text ≡ true → list_all is_before_end text ≡ true
inside_is_before_end [] all = refl
inside_is_before_end (c ∷ cs) all =
    let parts : (is_inside c ≡ true) × (list_all is_inside cs ≡ true) = and_parts _ _ all in
    rw ((and_parts (is_before_end c) (not (c == 13)) parts.0).0, inside_is_before_end cs parts.1) refl

-- a line of two tokens or more, or of one other token, is not the line `end`
pub begins_no_end : (token : List ℕ) (tokens : Line) → is (codes "end") token ≡ false → is_end (token ∷ tokens) ≡ false
begins_no_end token [] known = known
begins_no_end token (next ∷ tokens) known = refl

-- a head of another kind is no comment
head_by : (word token : List ℕ) (tokens : Line) (others : List (List ℕ)) (first : Bool) → is word token ≡ first → begins_comment word ≡ false
    → (is_other_head others (token ∷ tokens) ≡ true → begins_comment token ≡ false) → (first || is_other_head others (token ∷ tokens)) ≡ true → begins_comment token ≡ false
head_by word token tokens others true same plain rest known = ap begins_comment ((bytes_eq-Decides token word).0 same) ∙ plain
head_by word token tokens others false same plain rest known = rest known

pub head_stands : (others : List (List ℕ)) (line : Line) → list_any begins_comment others ≡ false → is_other_head others line ≡ true → is_skipped line ≡ false
head_stands [] [] each known = absurd (cc)
head_stands [] (token ∷ tokens) each known = absurd (cc)
head_stands (word ∷ others) [] none known = head_stands others [] (or_parts (begins_comment word) _ none).1 known
head_stands (word ∷ others) (token ∷ tokens) none known =
    let parts = or_parts (begins_comment word) (list_any begins_comment others) none in
    head_by word token tokens others (is word token) refl parts.0 (head_stands others (token ∷ tokens) parts.1) known

body_is_text : (lines : List (List ℕ)) → All IsBodyLine lines → IsTextOf (flat_map ended lines) (content lines)
body_is_text [] each = no_text
body_is_text (line ∷ lines) each =
    subst (IsTextOf (flat_map ended (line ∷ lines))) (sym (content-append (line ∷ []) lines))
    (text-append _ _ _ _ (text_of_line line (All-head IsBodyLine line lines each).text) (body_is_text lines (All-tail IsBodyLine line lines each)))

abbrev pub other_tree : List ℕ → List (List ℕ) → OtherTokens
other_tree head lines = record { head = tokens_of head; lines = content lines }

pub other_is_text : (others : List (List ℕ)) (head : List ℕ) (lines : List (List ℕ)) → list_any begins_comment others ≡ false → IsLineText head → is_other_head others (tokens_of head) ≡ true
    → All IsBodyLine lines → IsTextOf (ended head ++ flat_map ended lines ++ codes "end\n") (tokens_of head ∷ (content lines ++ end_line ∷ []))
other_is_text others head lines words line known each =
    text-append _ _ _ _ (text-append _ _ _ _ (text_of_tokens head (tokens_of head) line refl (head_stands others (tokens_of head) words known)) (body_is_text lines each)) end_is_text

body_goes_on : (ls : List (List ℕ)) → All IsBodyLine ls → All (λ line. is_end line ≡ false) (content ls)
body_goes_on ls each =
    All-filter (λ line. not (is_skipped line)) (λ line. is_end line ≡ false) (map tokens_of ls)
    (All-map (λ line. is_end line ≡ false) tokens_of ls (All-weaker IsBodyLine (λ line. is_end (tokens_of line) ≡ false) (λ line body. body.goes_on) ls each))

module _ {Value : Type 0} (kind : Kind Value) where
  -- texts one after another
  keeps-append : (xs ys : List (Block kind.Tree)) (bound : TextBound kind.Bound) → Keeps kind xs bound → Keeps kind ys bound → length (own_in xs) + length (own_in ys) ≤ block_limit → Keeps kind (xs ++ ys) bound
  keeps-append xs ys (on_block bound) left right few = subst (All (kind.Keeps bound)) (sym (own_in-append xs ys)) (All-append (kind.Keeps bound) (own_in xs) (own_in ys) left right)
  keeps-append xs ys on_count left right few = omega (arith, few, ap length (own_in-append xs ys), length-append (own_in xs) (own_in ys))

  -- Texts of which the first is whole lines may follow one another, where they have few blocks.
  pub joined : (before after : List ℕ) (first last : List Value) → IsTrue (is_whole before) → HasBlocks kind before first → HasBlocks kind after last → length first + length last ≤ block_limit
      → HasBlocks kind (before ++ after) (first ++ last)
  joined before after first last whole left right few =
      let split : content (lines (before ++ after)) ≡ content (lines before) ++ content (lines after) = ap content (lines_append before after whole) ∙ content-append (lines before) (lines after) in
      let count = zip_length kind.Says (own_in left.blocks) first left.says in
      let others = zip_length kind.Says (own_in right.blocks) last right.says in
      record {
        utf8 = is_utf8-from_IsUtf8 (before ++ after) (IsUtf8-append before after (IsUtf8-from_is_utf8 before left.utf8) (IsUtf8-from_is_utf8 after right.utf8));
        blocks = left.blocks ++ right.blocks;
        are_blocks = record {
          are = split ∙ rw (left.are_blocks.are, right.are_blocks.are, flat_map-append (block_lines kind.lines_of) left.blocks right.blocks) refl;
          each = All-append (IsBlock kind.IsTree kind.others) left.blocks right.blocks left.are_blocks.each right.are_blocks.each;
        };
        within = λ k d inside. keeps-append left.blocks right.blocks _ (left.within k d inside) (right.within k d inside) (omega (arith, few, count, others));
        says = subst (λ (ts : List kind.Tree). AllZip kind.Says ts (first ++ last)) (sym (own_in-append left.blocks right.blocks))
            (AllZip-append kind.Says (own_in left.blocks) (own_in right.blocks) first last left.says right.says);
      }

  -- texts of one block, and of none
  none_keeps : (bound : TextBound kind.Bound) → Keeps kind [] bound
  none_keeps (on_block bound) = All-nil (kind.Keeps bound)
  none_keeps on_count = omega arith

  pub text_without_blocks : (text : List ℕ) → IsTextOf text [] → HasBlocks kind text []
  text_without_blocks text is = record {
    utf8 = is_utf8-from_IsUtf8 text is.utf8;
    blocks = [];
    are_blocks = record { are = is.are; each = All-nil (IsBlock kind.IsTree kind.others) };
    within = everywhere (Keeps kind []) none_keeps (bounds kind);
    says = tt;
  }

  -- the text is whole lines, which are a block within all bounds that says the value
  pub record IsWritten (text : List ℕ) (value : Value) : Type 0 where
    pub tree : kind.Tree
    pub text_is : IsTextOf text (kind.lines_of tree ++ end_line ∷ [])
    pub is_tree : kind.IsTree tree
    pub keeps : (bound : kind.Bound) → kind.Keeps bound tree
    pub says : kind.Says tree value

  one_keeps : (t : kind.Tree) → ((bound : kind.Bound) → kind.Keeps bound t) → (bound : TextBound kind.Bound) → Keeps kind (own t ∷ []) bound
  one_keeps t keeps (on_block bound) = All-cons (kind.Keeps bound) t [] (keeps bound) (All-nil (kind.Keeps bound))
  one_keeps t keeps on_count = omega arith

  pub text_of_block : (text : List ℕ) (value : Value) → IsWritten text value → HasBlocks kind text (value ∷ [])
  text_of_block text value is = record {
    utf8 = is_utf8-from_IsUtf8 text is.text_is.utf8;
    blocks = own is.tree ∷ [];
    are_blocks = record { are = is.text_is.are ∙ sym (append-nil (kind.lines_of is.tree ++ end_line ∷ [])); each = All-cons (IsBlock kind.IsTree kind.others) (own is.tree) [] is.is_tree (All-nil (IsBlock kind.IsTree kind.others)) };
    within = everywhere (Keeps kind (own is.tree ∷ [])) (one_keeps is.tree is.keeps) (bounds kind);
    says = (is.says, tt);
  }

  other_keeps : (b : OtherTokens) (bound : TextBound kind.Bound) → Keeps kind (other_block b ∷ []) bound
  other_keeps b (on_block bound) = All-nil (kind.Keeps bound)
  other_keeps b on_count = omega arith

  pub text_of_other : (text : List ℕ) (b : OtherTokens) → IsTextOf text (b.head ∷ (b.lines ++ end_line ∷ [])) → IsBlock kind.IsTree kind.others (other_block b) → HasBlocks kind text []
  text_of_other text b is block_is = record {
    utf8 = is_utf8-from_IsUtf8 text is.utf8;
    blocks = other_block b ∷ [];
    are_blocks = record { are = is.are ∙ sym (append-nil (b.head ∷ (b.lines ++ end_line ∷ []))); each = All-cons (IsBlock kind.IsTree kind.others) (other_block b) [] block_is (All-nil (IsBlock kind.IsTree kind.others)) };
    within = everywhere (Keeps kind (other_block b ∷ [])) (other_keeps b) (bounds kind);
    says = tt;
  }

  -- Comments have no blocks.
  pub comment_has_none : (text : List ℕ) → IsUtf8 text → list_all is_before_end text ≡ true → HasBlocks kind (ended (codes "#" ++ text)) []
  comment_has_none text utf8 all = text_without_blocks (ended (codes "#" ++ text)) (comment_is_text text utf8 all)

  -- Blocks that are written between whole lines and other lines are read as they are.
  pub written_between : (text : List ℕ) (value : Value) (before after : List ℕ) (first last : List Value) → IsWritten text value → IsTrue (is_whole before) → HasBlocks kind before first → HasBlocks kind after last
      → length first + length last < block_limit → HasBlocks kind (before ++ text ++ after) (first ++ value ∷ last)
  written_between text value before after first last written whole left right few =
      let start : HasBlocks kind (before ++ text) (first ++ value ∷ []) = joined before text first (value ∷ []) whole left (text_of_block text value written) (omega (arith, few)) in
      subst (HasBlocks kind (before ++ text ++ after)) (append_assoc first (value ∷ []) last)
      (joined (before ++ text) after (first ++ value ∷ []) last (whole_append before text whole written.text_is.whole) start right (omega (arith, few, length-append first (value ∷ []))))

  -- parts one after another
  module _ (text_of : Value → List ℕ) (IsGood : Value → Type 0) (written : (value : Value) → IsGood value → IsWritten (text_of value) value) (words : list_any begins_comment kind.others ≡ false) where
    abbrev Good : Part Value → Type 0
    Good p = IsPart kind.others IsGood p

    -- the part is whole lines
    part_is_whole : (p : Part Value) → Good p → is_whole (part_text text_of p) ≡ true
    part_is_whole (block value) is = (written value is).text_is.whole
    part_is_whole (comment text) is = whole_line (35 ∷ text)
    part_is_whole (other head lines) is = (other_is_text kind.others head lines words is.0 is.1 is.2).whole

    part_has : (p : Part Value) → Good p → HasBlocks kind (part_text text_of p) (values_in (p ∷ []))
    part_has (block value) is = text_of_block (text_of value) value (written value is)
    part_has (comment text) is = comment_has_none text is.utf8 (inside_is_before_end text is.inside)
    part_has (other head lines) is =
        text_of_other (part_text text_of (other head lines)) (other_tree head lines) (other_is_text kind.others head lines words is.0 is.1 is.2) (record { head = is.1; lines = body_goes_on lines is.2 })

    values-first : (p : Part Value) (parts : List (Part Value)) → values_in (p ∷ []) ++ values_in parts ≡ values_in (p ∷ parts)
    values-first (block value) parts = refl
    values-first (comment text) parts = refl
    values-first (other head lines) parts = refl

    pub parts_have : (parts : List (Part Value)) → All Good parts → length (values_in parts) ≤ block_limit → HasBlocks kind (flat_map (part_text text_of) parts) (values_in parts)
    parts_have [] each few = text_without_blocks [] no_text
    parts_have (p ∷ parts) each few =
        let count : length (values_in (p ∷ [])) + length (values_in parts) ≡ length (values_in (p ∷ parts)) = sym (length-append (values_in (p ∷ [])) (values_in parts)) ∙ ap length (values-first p parts) in
        let here = All-head Good p parts each in
        subst (HasBlocks kind (flat_map (part_text text_of) (p ∷ parts))) (values-first p parts)
        (joined (part_text text_of p) (flat_map (part_text text_of) parts) (values_in (p ∷ [])) (values_in parts) (part_is_whole p here) (part_has p here)
        (parts_have parts (All-tail Good p parts each) (omega (arith, few, count))) (omega (arith, few, count)))
