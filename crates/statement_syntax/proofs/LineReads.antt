-- The tokens that bring a line to what has been read of it; with each step there is one more, and where the line may end they are a statement's.
use Rattle.statement_syntax.proofs.Prelude.{◌≡◌, ℕ, Bool, true, false, cond, List, [], ◌∷◌, ◌++◌, Option, Some, None, Result, Ok, Err, refl, ap, ◌∙◌, append_assoc, bytes_eq, codes, append-nil, map-append, flat_map-append, bytes_eq-Decides, Spot, Token, Language, First, Second, TokenKind, kind, Name, Number, Sum, Statement, Fault, Reading, ListWord, Eliminate, SidesWord, Opening, MapRest, rest, Pairs, Line, line, bracket_limit, ◌>>=◌, run, token_step, whole_sum, Expr, expr_tokens, ExprFits, sign_token, name_token, number_token, word_token, names_tokens, pairs_tokens, list_text, sides_text, pair_text, self_word, Stated, listed, mapped, sides, paired, projected, by_degree, stated_tokens, StatedFits, IsOf, expr_tree, stated_tree, Lined, named, common_opening, opening_in, colon_after, start_reading, sides_step, pairs_by, line_step}
use Rattle.statement_syntax.specs.Lines.{begun}
use Rattle.statement_syntax.proofs.Run.{run_front, IfDeep, if_deep}
use Rattle.statement_syntax.proofs.StateReads.{reading_step}
use Rattle.statement_syntax.proofs.Viable.{ExprReads, reading_ends, reading_lacks, deep, somewhere, some_name, some_expr}

pub record HasFirst {A : Type 0} (xs : List A) : Type 0 where
  pub first : A
  pub more : List A
  pub is : xs ≡ first ∷ more

-- a map's names with what follows them
pub record MapReads (at : Spot) (names : List Name) (ts behind : List Token) : Type 0 where
  pub has_first : HasFirst names
  pub are : ts ≡ word_token (codes "map") at ∷ (names_tokens names ++ behind)

abbrev pub RestReads : Spot → List Name → MapRest → List Token → Type 0
RestReads at names rest.Names ts = ts ≡ word_token (codes "map") at ∷ names_tokens names
RestReads at names rest.Colon ts = (c : Spot) × MapReads at names ts (sign_token kind.Colon c ∷ [])
RestReads at names (rest.Source s) ts = (c : Spot) × MapReads at names ts (sign_token kind.Colon c ∷ name_token s ∷ [])
RestReads at names (rest.Arrow s) ts = (c : Spot) × (a : Spot) × MapReads at names ts (sign_token kind.Colon c ∷ name_token s ∷ sign_token kind.Arrow a ∷ [])
RestReads at names (rest.Target s t) ts = (c : Spot) × (a : Spot) × MapReads at names ts (sign_token kind.Colon c ∷ name_token s ∷ sign_token kind.Arrow a ∷ name_token t ∷ [])

pub record FirstSide (w : SidesWord) (at : Spot) (r : Reading) (ts : List Token) : Type 0 where
  pub side : List Token
  pub reads : ExprReads r side
  pub are : ts ≡ word_token (sides_text w) at ∷ side

pub record SecondSide (w : SidesWord) (at : Spot) (left : Sum) (r : Reading) (ts : List Token) : Type 0 where
  pub expr : Expr
  pub fits : ExprFits expr bracket_limit
  pub left_is : left ≡ expr_tree expr
  pub equals : Spot
  pub side : List Token
  pub reads : ExprReads r side
  pub are : ts ≡ word_token (sides_text w) at ∷ (expr_tokens expr ++ sign_token kind.Equals equals ∷ side)

abbrev pub SidesReads : SidesWord → Spot → Option Sum → Reading → List Token → Type 0
SidesReads w at None r ts = FirstSide w at r ts
SidesReads w at (Some left) r ts = SecondSide w at left r ts

abbrev pub half_tokens : Option Name → List Token
half_tokens None = []
half_tokens (Some n) = name_token n ∷ []

abbrev pub read_pairs : Pairs → List Token
read_pairs p = pairs_tokens p.whole ++ half_tokens p.half

-- a whole statement, after which nothing fits
pub record WholeReads (language : Language) (s : Statement) (ts : List Token) : Type 0 where
  pub stated : Stated
  pub speaks : IsOf language stated
  pub fits : StatedFits stated
  pub tree : s ≡ stated_tree stated
  pub are : ts ≡ stated_tokens stated

-- the word begins a list in the language
abbrev pub IsListOf : ListWord → Language → Type 0
IsListOf Eliminate First = ⊥
IsListOf w language = Unit {0}

pub list_speaks : (language : Language) (w : ListWord) (at : Spot) (n : Name) (ns : List Name) → IsListOf w language → IsOf language (listed w at n ns)
list_speaks First Eliminate at n ns is = is
list_speaks language w at n ns is = tt

-- the tokens of a line of which this has been read
abbrev pub LineReads : Language → Line → List Token → Type 0
LineReads language line.Start ts = ts ≡ []
LineReads language (line.List w at names) ts = IsListOf w language × (ts ≡ word_token (list_text w) at ∷ names_tokens names)
LineReads language (line.Map at names r) ts = RestReads at names r ts
LineReads language (line.Sides w at left r) ts = SidesReads w at left r ts
LineReads language (line.Pair w at first) ts = ts ≡ word_token (pair_text w) at ∷ half_tokens first
LineReads language (line.Projection at) ts = ts ≡ word_token (codes "projection") at ∷ []
LineReads language (line.Order at) ts = ts ≡ word_token (codes "order") at ∷ []
LineReads language (line.Weights at ps) ts = (word : Spot) × (ts ≡ word_token (codes "order") at ∷ word_token (codes "weight") word ∷ read_pairs ps)
LineReads language (line.Model at) ts = ts ≡ word_token (codes "model") at ∷ []
LineReads language (line.Shape at m ps) ts = ts ≡ word_token (codes "model") at ∷ number_token m ∷ read_pairs ps
LineReads language (line.Whole s) ts = WholeReads language s ts

-- with a bracket that is too deep it can go on to a statement, if not to one within the limit
abbrev pub GoesOnDeeper : Language → List Token → Type 0
GoesOnDeeper language ts = (more : List Token) × (s : Stated) × IsOf language s × (ts ++ more ≡ stated_tokens s)

abbrev pub After : Language → Lined → List Token → Type 0
After language (Ok l) ts = LineReads language l ts
After language (Err f) ts = IfDeep (GoesOnDeeper language ts) f

-- a line with one token more
abbrev pub Grows : Language → List Token → Spot → TokenKind → Lined → Type 0
Grows language ts at k r = After language r (ts ++ sign_token k at ∷ [])

pub start_reads : ExprReads start_reading []
unfolding run
start_reads = refl

-- a choice by a word
by_word : {A : Type 0} (P : A → Type 0) (word text : List ℕ) (found other : A) (b : Bool) → bytes_eq word text ≡ b → (word ≡ text → P found) → P other
    → P (cond b found other)
by_word P word text found other true is here there = here ((bytes_eq-Decides word text).0 is)
by_word P word text found other false is here there = there

module _ (language : Language) (word : List ℕ) (at : Spot) where
  -- what begins with the word has read it
  abbrev Begins : Option Opening → Type 0
  Begins found = After language (begun found at) (word_token word at ∷ [])

  common_begins : Begins (common_opening word)
  common_begins =
      by_word Begins word (codes "object") _ _ _ refl (λ is. (tt, rw is refl)) (
      by_word Begins word (codes "solve") _ _ _ refl (λ is. (tt, rw is refl)) (
      by_word Begins word (codes "map") _ _ _ refl (λ is. rw is refl) (
      by_word Begins word (codes "assume") _ _ _ refl (λ is. record { side = []; reads = start_reads; are = rw is refl }) (
      by_word Begins word (codes "claim") _ _ _ refl (λ is. record { side = []; reads = start_reads; are = rw is refl }) (
      by_word Begins word (codes "pinv") _ _ _ refl (λ is. rw is refl) (
      by_word Begins word (codes "inverse") _ _ _ refl (λ is. rw is refl) (
      by_word Begins word (codes "inner") _ _ _ refl (λ is. rw is refl) (
      by_word Begins word (codes "projection") _ _ _ refl (λ is. rw is refl) (
      by_word Begins word (codes "order") _ _ _ refl (λ is. rw is refl) (
      by_word Begins word (codes "model") _ _ _ refl (λ is. rw is refl) tt))))))))))

start_grows : (language : Language) (word : List ℕ) (at : Spot) → Begins language word at (opening_in language word)
start_grows First word at = common_begins First word at
start_grows Second word at = by_word (Begins Second word at) word (codes "eliminate") _ _ _ refl (λ is. (tt, rw is refl)) (common_begins Second word at)

colon_grows : (language : Language) (at : Spot) (names : List Name) (ts : List Token) (t : Spot) → RestReads at names rest.Names ts
    → Grows language ts t kind.Colon (colon_after at names)
colon_grows language at [] ts t read = tt
colon_grows language at (n ∷ ns) ts t read = (t, record { has_first = record { first = n; more = ns; is = refl }; are = rw read refl })

-- a map's names and what follows them, with one token more
map_more : {at : Spot} {names : List Name} {ts behind : List Token} (t : Token) → MapReads at names ts behind
    → MapReads at names (ts ++ t ∷ []) (behind ++ t ∷ [])
map_more t read = record { has_first = read.has_first; are = rw read.are (simp append_assoc) }

-- expressions
reading_grows : (r next : Reading) (ts : List Token) (k : TokenKind) (t : Spot) → ExprReads r ts → token_step r k t ≡ Ok next
    → ExprReads next (ts ++ sign_token k t ∷ [])
unfolding run
reading_grows r next ts k t read goes =
    run_front reading_step start_reading ts r (sign_token k t ∷ []) read ∙ ap (λ x. x >>= λ s. run reading_step s []) goes

first_grows : (language : Language) (w : SidesWord) (at : Spot) (r : Reading) (ts : List Token) (t : Spot) (k : TokenKind) (res : Result Reading Fault)
    → token_step r k t ≡ res → FirstSide w at r ts → Grows language ts t k (res >>= λ x. Ok (line.Sides w at None x))
first_grows language w at r ts t k (Err f) is read =
    let last : List Token = sign_token kind.Equals somewhere ∷ name_token some_name ∷ [] in
    if_deep f (deep read.side r (sign_token k t) f read.reads is)
    (λ on. (on.0 ++ last, sides w at on.1 somewhere some_expr, tt, rw (read.are, ← on.2) (simp append_assoc)))
first_grows language w at r ts t k (Ok next) is read =
    record { side = read.side ++ sign_token k t ∷ []; reads = reading_grows r next read.side k t read.reads is; are = rw read.are refl }

second_grows : (language : Language) (w : SidesWord) (at : Spot) (left : Sum) (r : Reading) (ts : List Token) (t : Spot) (k : TokenKind)
    (res : Result Reading Fault) → token_step r k t ≡ res → SecondSide w at left r ts → Grows language ts t k (res >>= λ x. Ok (line.Sides w at (Some left) x))
second_grows language w at left r ts t k (Err f) is read =
    if_deep f (deep read.side r (sign_token k t) f read.reads is)
    (λ on. (on.0, sides w at read.expr read.equals on.1, tt, rw (read.are, ← on.2) (simp append_assoc)))
second_grows language w at left r ts t k (Ok next) is read = record {
  expr = read.expr;
  fits = read.fits;
  left_is = read.left_is;
  equals = read.equals;
  side = read.side ++ sign_token k t ∷ [];
  reads = reading_grows r next read.side k t read.reads is;
  are = rw read.are (simp append_assoc);
}

equals_grows : (language : Language) (w : SidesWord) (at : Spot) (r : Reading) (ts : List Token) (t : Spot) (res : Result Sum Fault) → whole_sum r ≡ res
    → FirstSide w at r ts → Grows language ts t kind.Equals (res >>= λ left. Ok (line.Sides w at (Some left) start_reading))
equals_grows language w at r ts t (Err f) is read = rw (reading_lacks r read.side f read.reads is) tt
equals_grows language w at r ts t (Ok left) is read =
    let e = reading_ends r left read.side read.reads is in
    record {
      expr = e.0;
      fits = e.1;
      left_is = e.2;
      equals = t;
      side = [];
      reads = start_reads;
      are = rw read.are (ap (λ x. word_token (sides_text w) at ∷ (x ++ sign_token kind.Equals t ∷ [])) e.3);
    }

sides_grows : (language : Language) (w : SidesWord) (at : Spot) (left : Option Sum) (r : Reading) (ts : List Token) (t : Spot) (k : TokenKind)
    → SidesReads w at left r ts → Grows language ts t k (sides_step w at left r k t)
sides_grows language w at (Some left) r ts t k read = second_grows language w at left r ts t k (token_step r k t) refl read
sides_grows language w at None r ts t kind.Equals read = equals_grows language w at r ts t (whole_sum r) refl read
sides_grows language w at None r ts t k read = first_grows language w at r ts t k (token_step r k t) refl read

-- names with numbers
pub pairs_more : (ps : List (Name × Number)) (n : Name) (m : Number) → pairs_tokens (ps ++ (n, m) ∷ []) ≡ pairs_tokens ps ++ name_token n ∷ number_token m ∷ []
pairs_more ps n m = flat_map-append (λ p. name_token p.0 ∷ number_token p.1 ∷ []) ps ((n, m) ∷ [])

-- pairs after these tokens
pairs_grow : (language : Language) (wrap : Pairs → Line) (front : List Token)
    → ((p : Pairs) (us : List Token) → us ≡ front ++ read_pairs p → LineReads language (wrap p) us)
    → (ps : List (Name × Number)) (half : Option Name) (ts : List Token) (t : Spot) (k : TokenKind)
    → ts ≡ front ++ read_pairs (record { whole = ps; half = half }) → Grows language ts t k (pairs_by ps half k t >>= λ p. Ok (wrap p))
pairs_grow language wrap front are ps None ts t (kind.Name x) read = are _ _ (rw read (simp (append-nil, append_assoc)))
pairs_grow language wrap front are ps (Some n) ts t (kind.Literal v) read = are _ _ (rw (read, pairs_more) (simp (append-nil, append_assoc)))
pairs_grow language wrap front are ps None ts t k read = tt
pairs_grow language wrap front are ps (Some n) ts t k read = tt

-- all lines: a token that brings one on follows what was read, and any other is not expected
pub line_grows : (language : Language) (l : Line) (ts : List Token) (t : Spot) (k : TokenKind) → LineReads language l ts
    → Grows language ts t k (line_step language l k t)
line_grows language line.Start ts t (kind.Name x) read = rw read (start_grows language x t)
line_grows language (line.List w at names) ts t (kind.Name x) read = (read.0, rw (read.1, map-append) refl)
line_grows language (line.Map at names rest.Names) ts t kind.Colon read = colon_grows language at names ts t read
line_grows language (line.Map at names rest.Names) ts t (kind.Name x) read = rw (read, map-append) refl
line_grows language (line.Map at names rest.Colon) ts t (kind.Name x) read = (read.0, map_more _ read.1)
line_grows language (line.Map at names (rest.Source s)) ts t kind.Arrow read = (read.0, t, map_more _ read.1)
line_grows language (line.Map at names (rest.Arrow s)) ts t (kind.Name x) read = (read.0, read.1, map_more _ read.2)
line_grows language (line.Map at names (rest.Target s e)) ts t (kind.Name x) read =
    let first = read.2.has_first in
    by_word (Grows language ts t (kind.Name x)) x (codes "self") _ _ _ refl (λ is. record {
      stated = mapped at first.first first.more read.0 s read.1 e (self_word t);
      speaks = tt;
      fits = tt;
      tree = rw first.is refl;
      are = (map_more (word_token x t) read.2).are ∙ rw (first.is, is) refl;
    }) tt
line_grows language (line.Sides w at left r) ts t k read = sides_grows language w at left r ts t k read
line_grows language (line.Pair w at None) ts t (kind.Name x) read = rw read refl
line_grows language (line.Pair w at (Some m)) ts t (kind.Name x) read =
    record { stated = paired w at m (named x t); speaks = tt; fits = tt; tree = refl; are = rw read refl }
line_grows language (line.Projection at) ts t (kind.Name x) read =
    record { stated = projected at (named x t); speaks = tt; fits = tt; tree = refl; are = rw read refl }
line_grows language (line.Order at) ts t (kind.Name x) read =
    by_word (Grows language ts t (kind.Name x)) x (codes "degree") _ _ _ refl
    (λ is. record { stated = by_degree at t; speaks = tt; fits = tt; tree = refl; are = rw (read, is) refl })
    (by_word (Grows language ts t (kind.Name x)) x (codes "weight") _ _ _ refl (λ is. (t, rw (read, is) refl)) tt)
line_grows language (line.Weights at p) ts t k read =
    pairs_grow language (line.Weights at) (word_token (codes "order") at ∷ word_token (codes "weight") read.0 ∷ []) (λ q us are. (read.0, are))
    p.whole p.half ts t k read.1
line_grows language (line.Model at) ts t (kind.Literal n) read = rw read refl
line_grows language (line.Shape at m p) ts t k read =
    pairs_grow language (line.Shape at m) (word_token (codes "model") at ∷ number_token m ∷ []) (λ q us are. are) p.whole p.half ts t k read
line_grows language l ts t k read = tt
