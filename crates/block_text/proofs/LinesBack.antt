-- Lines that are written are read.
use Rattle.block_text.proofs.Prelude.{◌≡◌, ◌<◌, ◌-◌, ◌==◌, ℕ, Bool, true, false, not, List, [], ◌∷◌, ◌++◌, arith, refl, ap, ◌∙◌, length, get_or, All, list_all, slice_split, lines, lines_of_parts, strip_carriage_return, and_parts, true_from_ne_false, list_all_at, slice_split_at, AllPass-from_list_all, is_line_end, is_whole, is_inside}
use Rattle.block_text.proofs.Cuts.{first_part, part_is_line}

not_false : (b : Bool) → not b ≡ true → b ≡ false
not_false true known = absurd (cc)
not_false false known = refl

no_line_end : (line : List ℕ) → list_all is_inside line ≡ true → All (λ c. is_line_end c ≡ false) line
no_line_end line all = λ k c below. not_false (get_or line k c == 10) (and_parts (not (get_or line k c == 10)) _ (AllPass-from_list_all is_inside line all k c below)).0

inside_at : (line : List ℕ) (i : ℕ) → list_all is_inside line ≡ true → i < length line → is_inside (get_or line i 0) ≡ true
inside_at line i all within =
    true_from_ne_false (is_inside (get_or line i 0)) (λ no. absurd (let some : list_all is_inside line ≡ false = list_all_at is_inside line i 0 within no in cc))

kept : (line : List ℕ) → list_all is_inside line ≡ true → strip_carriage_return line ≡ line
kept [] all = refl
kept (c ∷ cs) all =
    let inside = inside_at (c ∷ cs) (length (c ∷ cs) - 1) all (omega arith) in
    let last : (get_or (c ∷ cs) (length (c ∷ cs) - 1) 0 == 13) ≡ false = not_false _ (and_parts (not (get_or (c ∷ cs) (length (c ∷ cs) - 1) 0 == 10)) _ inside).1 in
    rw last refl

-- a line that is ended by LF
pub line_is : (line rest : List ℕ) → list_all is_inside line ≡ true → lines (line ++ 10 ∷ rest) ≡ line ∷ lines rest
line_is line rest all =
    let split : slice_split is_line_end (line ++ 10 ∷ rest) ≡ line ∷ slice_split is_line_end rest =
    slice_split_at is_line_end line 10 rest (no_line_end line all) refl in
    rw split (part_is_line line rest ∙ ap (λ l. l ∷ lines rest) (kept line all))

-- the first part of a whole text, and the lines after it with and without what follows the text
record Joined (xs ys : List ℕ) : Type 0 where
  part : List ℕ
  next : List ℕ
  parts : List (List ℕ)
  other : List ℕ
  more : List (List ℕ)
  alone : slice_split is_line_end xs ≡ part ∷ next ∷ parts
  together : slice_split is_line_end (xs ++ ys) ≡ part ∷ other ∷ more
  rest : lines_of_parts (other ∷ more) ≡ lines_of_parts (next ∷ parts) ++ lines ys

joined_end : (c : ℕ) (ys : List ℕ) → is_line_end c ≡ true → Joined (c ∷ []) ys
joined_end c ys is =
    let first = first_part is_line_end ys in
    record {
      part = [];
      next = [];
      parts = [];
      other = first.part;
      more = first.more;
      alone = rw is refl;
      together = rw (is, first.is) refl;
      rest = rw first.is refl;
    }

joined_more : (c d : ℕ) (cs ys : List ℕ) (end : Bool) → is_line_end c ≡ end → Joined (d ∷ cs) ys → Joined (c ∷ d ∷ cs) ys
joined_more c d cs ys true is j = record {
  part = [];
  next = j.part;
  parts = j.next ∷ j.parts;
  other = j.part;
  more = j.other ∷ j.more;
  alone = rw (is, j.alone) refl;
  together = rw (is, j.together) refl;
  rest = rw j.rest refl;
}
joined_more c d cs ys false is j = record {
  part = c ∷ j.part;
  next = j.next;
  parts = j.parts;
  other = j.other;
  more = j.more;
  alone = rw (is, j.alone) refl;
  together = rw (is, j.together) refl;
  rest = j.rest;
}

joined : (c : ℕ) (cs ys : List ℕ) → is_whole (c ∷ cs) ≡ true → Joined (c ∷ cs) ys
joined c [] ys whole = joined_end c ys whole
joined c (d ∷ cs) ys whole = joined_more c d cs ys _ refl (joined d cs ys whole)

pub lines_append : (xs ys : List ℕ) → is_whole xs ≡ true → lines (xs ++ ys) ≡ lines xs ++ lines ys
lines_append [] ys whole = refl
lines_append (c ∷ cs) ys whole = let j = joined c cs ys whole in rw (j.together, j.alone, j.rest) refl
