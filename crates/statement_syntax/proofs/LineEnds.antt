-- Where a line may end it is a statement's, and each line can go on to one.
use Rattle.statement_syntax.proofs.Prelude.{◌≡◌, false, List, [], ◌∷◌, ◌++◌, Option, Some, None, Result, Ok, Err, refl, sym, ap, ap₂, ◌∙◌, append_assoc, codes, pos, Spot, Token, Language, kind, Name, Number, Sum, Statement, statement, Fault, Expected, Reading, SidesWord, rest, Line, line, ◌>>=◌, whole_sum, expr_tokens, sign_token, name_token, number_token, word_token, names_tokens, pairs_tokens, sides_text, no_word, Stated, listed, mapped, sides, paired, projected, by_degree, by_weight, modelled, stated_tokens, StatedFits, IsOf, sides_kind, stated_tree, pairs_end, weights_by, statement_by, line_end}
use Rattle.std.proofs.Common.{append-nil}
use Rattle.statement_syntax.proofs.Viable.{reading_ends, reading_lacks, viable, somewhere, some_name, some_expr}
use Rattle.statement_syntax.proofs.LineReads.{MapReads, SecondSide, half_tokens, WholeReads, list_speaks, LineReads, pairs_more}

some_number : Number
some_number = record { value = pos 1; at = somewhere }

-- pairs of which some go on from what was read
pairs_on : (ps : List (Name × Number)) (half : Option Name)
    → (more : List Token) × (p : Name × Number) × (qs : List (Name × Number)) × ((pairs_tokens ps ++ half_tokens half) ++ more ≡ pairs_tokens (p ∷ qs))
pairs_on [] None = (name_token some_name ∷ number_token some_number ∷ [], (some_name, some_number), [], refl)
pairs_on (p ∷ ps) None = ([], p, ps, append-nil _ ∙ append-nil _)
pairs_on [] (Some n) = (number_token some_number ∷ [], (n, some_number), [], refl)
pairs_on (p ∷ ps) (Some n) = (
  number_token some_number ∷ [],
  p,
  ps ++ (n, some_number) ∷ [],
  append_assoc (pairs_tokens (p ∷ ps)) (name_token n ∷ []) (number_token some_number ∷ []) ∙ sym (pairs_more (p ∷ ps) n some_number),
)

module _ (language : Language) where
  -- where a line may end its tokens are the statement's, and where it may not more is expected
  abbrev pub EndsAs : List Token → Result Statement Fault → Type 0
  EndsAs ts (Ok s) = WholeReads language s ts
  EndsAs ts (Err f) = f ≡ Expected

  whole_reads : (s : Stated) (ts : List Token) → IsOf language s → StatedFits s → ts ≡ stated_tokens s → WholeReads language (stated_tree s) ts
  whole_reads s ts speaks fits are = record { stated = s; speaks = speaks; fits = fits; tree = refl; are = are }

  second_ends : (w : SidesWord) (at : Spot) (left : Sum) (r : Reading) (ts : List Token) (res : Result Sum Fault) → whole_sum r ≡ res
      → SecondSide w at left r ts → EndsAs ts (statement_by at (res >>= λ right. Ok (sides_kind w left right)))
  second_ends w at left r ts (Err f) is read = reading_lacks r read.side f read.reads is
  second_ends w at left r ts (Ok right) is read =
      let e = reading_ends r right read.side read.reads is in
      record {
        stated = sides w at read.expr read.equals e.0;
        speaks = tt;
        fits = (read.fits, e.1);
        tree = ap₂ (λ x y. record { at = at; kind = sides_kind w x y }) read.left_is e.2;
        are = read.are ∙ ap (λ x. word_token (sides_text w) at ∷ (expr_tokens read.expr ++ sign_token kind.Equals read.equals ∷ x)) e.3;
      }

  weights_ends : (at word : Spot) (half : Option Name) (ps : List (Name × Number)) (ts : List Token)
      → ts ≡ word_token (codes "order") at ∷ word_token (codes "weight") word ∷ (pairs_tokens ps ++ half_tokens half)
      → EndsAs ts (statement_by at (pairs_end ps half >>= weights_by))
  weights_ends at word None (p ∷ ps) ts read =
      whole_reads (by_weight at word p ps) ts tt tt
      (read ∙ ap (λ x. word_token (codes "order") at ∷ word_token (codes "weight") word ∷ x) (append-nil (pairs_tokens (p ∷ ps))))
  weights_ends at word half ps ts read = refl

  shape_ends : (at : Spot) (m : Number) (ps : List (Name × Number)) (half : Option Name) (ts : List Token)
      → ts ≡ word_token (codes "model") at ∷ number_token m ∷ (pairs_tokens ps ++ half_tokens half)
      → EndsAs ts (statement_by at (pairs_end ps half >>= λ qs. Ok (statement.Shape m qs)))
  shape_ends at m ps None ts read =
      whole_reads (modelled at m ps) ts tt tt (read ∙ ap (λ x. word_token (codes "model") at ∷ number_token m ∷ x) (append-nil (pairs_tokens ps)))
  shape_ends at m ps (Some n) ts read = refl

  pub line_ends : (l : Line) (ts : List Token) → LineReads language l ts → EndsAs ts (line_end l)
  line_ends (line.List w at (n ∷ ns)) ts read = whole_reads (listed w at n ns) ts (list_speaks language w at n ns read.0) tt read.1
  line_ends (line.Map at names (rest.Target s e)) ts read =
      let first = read.2.has_first in
      record {
        stated = mapped at first.first first.more read.0 s read.1 e no_word;
        speaks = tt;
        fits = tt;
        tree = ap (λ ns. record { at = at; kind = statement.Maps ns s e false }) first.is;
        are = read.2.are ∙ ap (λ ns. word_token (codes "map") at ∷ (names_tokens ns ++ sign_token kind.Colon read.0 ∷ name_token s
            ∷ sign_token kind.Arrow read.1 ∷ name_token e ∷ [])) first.is;
      }
  line_ends (line.Sides w at (Some left) r) ts read = second_ends w at left r ts (whole_sum r) refl read
  line_ends (line.Weights at p) ts read = weights_ends at read.0 p.half p.whole ts read.1
  line_ends (line.Shape at m p) ts read = shape_ends at m p.whole p.half ts read
  line_ends (line.Whole s) ts read = read
  line_ends l ts read = refl

  -- with these tokens it is a statement within the limit
  abbrev pub LineGoesOn : List Token → Type 0
  LineGoesOn ts = (more : List Token) × (s : Stated) × StatedFits s × IsOf language s × (ts ++ more ≡ stated_tokens s)

  on_to : (ts us more : List Token) (s : Stated) → StatedFits s → IsOf language s → ts ≡ us → us ++ more ≡ stated_tokens s → LineGoesOn ts
  on_to ts us more s fits speaks is all = (more, s, fits, speaks, ap (λ (x : List Token). x ++ more) is ∙ all)

  -- a map with what follows its names, and more
  map_on : (at : Spot) (names : List Name) (ts behind more : List Token) (c a : Spot) (s t : Name) → MapReads at names ts behind
      → behind ++ more ≡ sign_token kind.Colon c ∷ name_token s ∷ sign_token kind.Arrow a ∷ name_token t ∷ [] → LineGoesOn ts
  map_on at names ts behind more c a s t read is =
      let first = read.has_first in
      on_to ts _ more (mapped at first.first first.more c s a t no_word) tt tt read.are
      (ap (λ x. word_token (codes "map") at ∷ x) (append_assoc (names_tokens names) behind more ∙ ap₂ (λ ns x. names_tokens ns ++ x) first.is is))

  pub line_on : (l : Line) (ts : List Token) → LineReads language l ts → LineGoesOn ts
  line_on line.Start ts read =
      on_to ts _ (word_token (codes "order") somewhere ∷ word_token (codes "degree") somewhere ∷ []) (by_degree somewhere somewhere) tt tt read refl
  line_on (line.List w at []) ts read =
      on_to ts _ (name_token some_name ∷ []) (listed w at some_name []) tt (list_speaks language w at some_name [] read.0) read.1 refl
  line_on (line.List w at (n ∷ ns)) ts read = on_to ts _ [] (listed w at n ns) tt (list_speaks language w at n ns read.0) read.1 (append-nil _)
  line_on (line.Map at [] rest.Names) ts read =
      on_to ts _ (name_token some_name ∷ sign_token kind.Colon somewhere ∷ name_token some_name ∷ sign_token kind.Arrow somewhere ∷ name_token some_name ∷ [])
      (mapped at some_name [] somewhere some_name somewhere some_name no_word) tt tt read refl
  line_on (line.Map at (n ∷ ns) rest.Names) ts read =
      on_to ts _ (sign_token kind.Colon somewhere ∷ name_token some_name ∷ sign_token kind.Arrow somewhere ∷ name_token some_name ∷ [])
      (mapped at n ns somewhere some_name somewhere some_name no_word) tt tt read refl
  line_on (line.Map at names rest.Colon) ts read =
      map_on at names ts _ (name_token some_name ∷ sign_token kind.Arrow somewhere ∷ name_token some_name ∷ []) read.0 somewhere some_name some_name read.1 refl
  line_on (line.Map at names (rest.Source s)) ts read =
      map_on at names ts _ (sign_token kind.Arrow somewhere ∷ name_token some_name ∷ []) read.0 somewhere s some_name read.1 refl
  line_on (line.Map at names (rest.Arrow s)) ts read = map_on at names ts _ (name_token some_name ∷ []) read.0 read.1 s some_name read.2 refl
  line_on (line.Map at names (rest.Target s e)) ts read = map_on at names ts _ [] read.0 read.1 s e read.2 refl
  line_on (line.Sides w at None r) ts read =
      let v = viable read.side r read.reads in
      let more = sign_token kind.Equals somewhere ∷ name_token some_name ∷ [] in
      on_to ts _ (v.0 ++ more) (sides w at v.1 somewhere some_expr) (v.2, tt) tt read.are
      (ap (λ x. word_token (sides_text w) at ∷ x) (sym (append_assoc read.side v.0 more) ∙ ap (λ x. x ++ more) v.3))
  line_on (line.Sides w at (Some left) r) ts read =
      let v = viable read.side r read.reads in
      on_to ts _ v.0 (sides w at read.expr read.equals v.1) (read.fits, v.2) tt read.are
      (ap (λ x. word_token (sides_text w) at ∷ x)
      (append_assoc (expr_tokens read.expr) (sign_token kind.Equals read.equals ∷ read.side) v.0
      ∙ ap (λ x. expr_tokens read.expr ++ sign_token kind.Equals read.equals ∷ x) v.3))
  line_on (line.Pair w at None) ts read = on_to ts _ (name_token some_name ∷ name_token some_name ∷ []) (paired w at some_name some_name) tt tt read refl
  line_on (line.Pair w at (Some m)) ts read = on_to ts _ (name_token some_name ∷ []) (paired w at m some_name) tt tt read refl
  line_on (line.Projection at) ts read = on_to ts _ (name_token some_name ∷ []) (projected at some_name) tt tt read refl
  line_on (line.Order at) ts read = on_to ts _ (word_token (codes "degree") somewhere ∷ []) (by_degree at somewhere) tt tt read refl
  line_on (line.Weights at p) ts read =
      let on = pairs_on p.whole p.half in
      on_to ts _ on.0 (by_weight at read.0 on.1 on.2) tt tt read.1 (ap (λ x. word_token (codes "order") at ∷ word_token (codes "weight") read.0 ∷ x) on.3)
  line_on (line.Model at) ts read = on_to ts _ (number_token some_number ∷ []) (modelled at some_number []) tt tt read refl
  line_on (line.Shape at m p) ts read =
      let on = pairs_on p.whole p.half in
      on_to ts _ on.0 (modelled at m (on.1 ∷ on.2)) tt tt read (ap (λ x. word_token (codes "model") at ∷ number_token m ∷ x) on.3)
  line_on (line.Whole s) ts read = on_to ts _ [] read.stated read.fits read.speaks read.are (append-nil _)
