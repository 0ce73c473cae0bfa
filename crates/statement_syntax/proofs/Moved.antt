-- Tokens of the same kinds as those of statements without their places are the tokens of the same statements at other places.
use Rattle.statement_syntax.proofs.Prelude.{◌≡◌, ℕ, suc, List, [], ◌∷◌, ◌++◌, map, Option, Some, None, refl, sym, ap, ap₂, ◌∙◌, append_assoc, codes, pos, append-nil, map-append, transport, Spot, Token, Language, First, Second, TokenKind, kind, Name, Number, Eliminate, bracket_limit, Lead, no_sign, lead_minus, Sign, plus, minus, Expr, first, joined, Product, zero_alone, factors, Factors, one, beside, Marked, plain, marked, raised, Prime, name, identity, bracket, sign_token, name_token, number_token, lead_tokens, signed_token, literal_tokens, expr_tokens, product_tokens, factors_tokens, marked_tokens, prime_tokens, ExprFits, ProductFits, FactorsFit, MarkedFits, PrimeFits, list_text, sides_text, pair_text, Ending, no_word, self_word, ending_tokens, names_tokens, pairs_tokens, Stated, listed, mapped, sides, paired, projected, by_degree, by_weight, modelled, second_language, stated_tokens, StatedFits, IsOf, NamesLanguage, StatedLine, AreLinesOf, IsFileOf, line_tokens, file_tokens, FileFits, somewhere, bare_name, bare_number, bare_literal, bare_lead, bare_sign, bare, bare_product, bare_factors, bare_marked, bare_prime, bare_ending, bare_names, bare_pairs, bare_stated, bare_line, bare_file}

abbrev pub kinds : List Token → List TokenKind
kinds ts = map (λ t. t.kind) ts

-- the same at other places, before other tokens
record Moved {A : Type 0} (tokens : A → List Token) (bare_of : A → A) (x : A) (ts : List Token) (ks : List TokenKind) : Type 0 where
  pub moved : A
  pub rest : List Token
  pub are : ts ≡ tokens moved ++ rest
  pub same : bare_of moved ≡ bare_of x
  pub kinds_are : kinds rest ≡ ks

-- all tokens that begin with its kinds begin with its tokens at other places
abbrev Moves : {A : Type 0} → (A → List Token) → (A → A) → A → Type 0
Moves tokens bare_of x = (ts : List Token) (ks : List TokenKind) → kinds ts ≡ kinds (tokens (bare_of x)) ++ ks → Moved tokens bare_of x ts ks

token_moves : (k : TokenKind) (at : Spot) → Moves (λ at. sign_token k at ∷ []) (λ at. somewhere) at
token_moves k at [] ks alike = absurd cc
token_moves k at (t ∷ ts) ks alike =
    let here : t.kind ≡ k = cc in
    record { moved = t.at; rest = ts; are = ap (λ x. sign_token x t.at ∷ ts) here; same = refl; kinds_are = cc }

-- one after another
both : {A B : Type 0} {left : A → List Token} {right : B → List Token} {bare_left : A → A} {bare_right : B → B} {x : A} {y : B}
    → Moves left bare_left x → Moves right bare_right y → Moves {A = A × B} (λ p. left p.0 ++ right p.1) (λ p. (bare_left p.0, bare_right p.1)) (x, y)
both {left = left} {right = right} {bare_left = bare_left} {bare_right = bare_right} {x = x} {y = y} front behind ts ks alike =
    let xs = left (bare_left x) in
    let ys = right (bare_right y) in
    let l = front ts (kinds ys ++ ks) (alike ∙ ap (λ zs. zs ++ ks) (map-append (λ t. t.kind) xs ys) ∙ append_assoc (kinds xs) (kinds ys) ks) in
    let r = behind l.rest ks l.kinds_are in
    record {
      moved = (l.moved, r.moved);
      rest = r.rest;
      are = l.are ∙ ap (λ zs. left l.moved ++ zs) r.are ∙ sym (append_assoc (left l.moved) (right r.moved) r.rest);
      same = ap₂ (λ x y. (x, y)) l.same r.same;
      kinds_are = r.kinds_are;
    }

-- what is made of parts has their tokens, and is without its places what is made of them without theirs
made : {A B : Type 0} {parts : A → List Token} {bare_parts : A → A} {tokens : B → List Token} {bare_of : B → B} {x : A} (make : A → B)
    → Moves parts bare_parts x → ((a : A) → tokens (make a) ≡ parts a) → ((a : A) → bare_of (make a) ≡ make (bare_parts a)) → Moves tokens bare_of (make x)
made {bare_parts = bare_parts} {tokens = tokens} {x = x} make moves tokens_are bare_is ts ks alike =
    let m = moves ts ks (alike ∙ ap (λ zs. kinds zs ++ ks) (ap tokens (bare_is x) ∙ tokens_are (bare_parts x))) in
    record {
      moved = make m.moved;
      rest = m.rest;
      are = m.are ∙ ap (λ zs. zs ++ m.rest) (sym (tokens_are m.moved));
      same = bare_is m.moved ∙ ap make m.same ∙ sym (bare_is x);
      kinds_are = m.kinds_are;
    }

name_moves : (n : Name) → Moves (λ n. name_token n ∷ []) bare_name n
name_moves n = made (λ at. record { text = n.text; at = at }) (token_moves (kind.Name n.text) n.at) (λ at. refl) (λ at. refl)

number_moves : (n : Number) → Moves (λ n. number_token n ∷ []) bare_number n
number_moves n = made (λ at. record { value = n.value; at = at }) (token_moves (kind.Literal n.value) n.at) (λ at. refl) (λ at. refl)

-- a leading plus is left out
lead_moves : (l : Lead) → Moves lead_tokens bare_lead l
lead_moves (lead_minus at) = made lead_minus (token_moves kind.Minus at) (λ at. refl) (λ at. refl)
lead_moves l = λ ts ks alike. record { moved = no_sign; rest = ts; are = refl; same = refl; kinds_are = alike }

sign_moves : (s : Sign) → Moves (λ s. signed_token s ∷ []) bare_sign s
sign_moves (plus at) = made plus (token_moves kind.Plus at) (λ at. refl) (λ at. refl)
sign_moves (minus at) = made minus (token_moves kind.Minus at) (λ at. refl) (λ at. refl)

literal_moves : (l : Option Number) → Moves literal_tokens bare_literal l
literal_moves None = λ ts ks alike. record { moved = None; rest = ts; are = refl; same = refl; kinds_are = alike }
literal_moves (Some n) = made Some (number_moves n) (λ n. refl) (λ n. refl)

mutual
  expr_moves : (e : Expr) → Moves expr_tokens bare e
  expr_moves (first l t) = made (λ p. first p.0 p.1) (both (lead_moves l) (product_moves t)) (λ p. refl) (λ p. refl)
  expr_moves (joined e s t) =
      made (λ p. joined p.0 p.1.0 p.1.1) (both (expr_moves e) (both (sign_moves s) (product_moves t))) (λ p. refl) (λ p. refl)

  product_moves : (t : Product) → Moves product_tokens bare_product t
  product_moves (zero_alone at) = made zero_alone (token_moves (kind.Literal (pos 0)) at) (λ at. refl) (λ at. refl)
  product_moves (factors l fs) = made (λ p. factors p.0 p.1) (both (literal_moves l) (factors_move fs)) (λ p. refl) (λ p. refl)

  factors_move : (fs : Factors) → Moves factors_tokens bare_factors fs
  factors_move (one f) = made one (marked_moves f) (λ f. refl) (λ f. refl)
  factors_move (beside fs f) = made (λ p. beside p.0 p.1) (both (factors_move fs) (marked_moves f)) (λ p. refl) (λ p. refl)

  marked_moves : (f : Marked) → Moves marked_tokens bare_marked f
  marked_moves (plain p) = made plain (prime_moves p) (λ p. refl) (λ p. refl)
  marked_moves (marked f at) = made (λ p. marked p.0 p.1) (both (marked_moves f) (token_moves kind.Quote at)) (λ p. refl) (λ p. refl)
  marked_moves (raised f at n) =
      made (λ p. raised p.0 p.1.0 p.1.1) (both (marked_moves f) (both (token_moves kind.Caret at) (number_moves n))) (λ p. refl) (λ p. refl)

  prime_moves : (p : Prime) → Moves prime_tokens bare_prime p
  prime_moves (name n) = made name (name_moves n) (λ n. refl) (λ n. refl)
  prime_moves (identity left n right) =
      made (λ p. identity p.0 p.1.0 p.1.1) (both (token_moves kind.OpenSquare left) (both (name_moves n) (token_moves kind.CloseSquare right)))
      (λ p. refl) (λ p. refl)
  prime_moves (bracket left e right) =
      made (λ p. bracket p.0 p.1.0 p.1.1) (both (token_moves kind.Open left) (both (expr_moves e) (token_moves kind.Close right))) (λ p. refl) (λ p. refl)

-- statements
names_move : (ns : List Name) → Moves names_tokens bare_names ns
names_move [] = λ ts ks alike. record { moved = []; rest = ts; are = refl; same = refl; kinds_are = alike }
names_move (n ∷ ns) = made (λ p. p.0 ∷ p.1) (both (name_moves n) (names_move ns)) (λ p. refl) (λ p. refl)

pairs_move : (ps : List (Name × Number)) → Moves pairs_tokens bare_pairs ps
pairs_move [] = λ ts ks alike. record { moved = []; rest = ts; are = refl; same = refl; kinds_are = alike }
pairs_move (p ∷ ps) = made (λ q. q.0 ∷ q.1) (both (both (name_moves p.0) (number_moves p.1)) (pairs_move ps)) (λ q. refl) (λ q. refl)

ending_moves : (end : Ending) → Moves ending_tokens bare_ending end
ending_moves no_word = λ ts ks alike. record { moved = no_word; rest = ts; are = refl; same = refl; kinds_are = alike }
ending_moves (self_word at) = made self_word (token_moves (kind.Name (codes "self")) at) (λ at. refl) (λ at. refl)

stated_moves : (s : Stated) → Moves stated_tokens bare_stated s
stated_moves (listed w at n ns) =
    made (λ p. listed w p.0 p.1.0 p.1.1) (both (token_moves (kind.Name (list_text w)) at) (both (name_moves n) (names_move ns))) (λ p. refl) (λ p. refl)
stated_moves (mapped at n ns colon s arrow t end) =
    made (λ p. mapped p.0.0 p.0.1.0 p.0.1.1 p.1.0.0 p.1.0.1 p.1.1.0 p.1.1.1.0 p.1.1.1.1)
    (both (both (token_moves (kind.Name (codes "map")) at) (both (name_moves n) (names_move ns)))
    (both (both (token_moves kind.Colon colon) (name_moves s)) (both (token_moves kind.Arrow arrow) (both (name_moves t) (ending_moves end)))))
    (λ p. refl) (λ p. refl)
stated_moves (sides w at d equals e) =
    made (λ p. sides w p.0 p.1.0 p.1.1.0 p.1.1.1)
    (both (token_moves (kind.Name (sides_text w)) at) (both (expr_moves d) (both (token_moves kind.Equals equals) (expr_moves e)))) (λ p. refl) (λ p. refl)
stated_moves (paired w at m n) =
    made (λ p. paired w p.0 p.1.0 p.1.1) (both (token_moves (kind.Name (pair_text w)) at) (both (name_moves m) (name_moves n))) (λ p. refl) (λ p. refl)
stated_moves (projected at n) =
    made (λ p. projected p.0 p.1) (both (token_moves (kind.Name (codes "projection")) at) (name_moves n)) (λ p. refl) (λ p. refl)
stated_moves (by_degree at word) =
    made (λ p. by_degree p.0 p.1) (both (token_moves (kind.Name (codes "order")) at) (token_moves (kind.Name (codes "degree")) word)) (λ p. refl) (λ p. refl)
stated_moves (by_weight at word p ps) =
    made (λ q. by_weight q.0.0 q.0.1 q.1.0 q.1.1)
    (both (both (token_moves (kind.Name (codes "order")) at) (token_moves (kind.Name (codes "weight")) word))
    (both (both (name_moves p.0) (number_moves p.1)) (pairs_move ps))) (λ q. refl) (λ q. refl)
stated_moves (modelled at m ps) =
    made (λ p. modelled p.0 p.1.0 p.1.1) (both (token_moves (kind.Name (codes "model")) at) (both (number_moves m) (pairs_move ps))) (λ p. refl) (λ p. refl)
stated_moves (second_language at number) =
    made (λ p. second_language p.0 p.1) (both (token_moves (kind.Name (codes "language")) at) (token_moves (kind.Literal (pos 2)) number))
    (λ p. refl) (λ p. refl)

line_moves : (l : StatedLine) → Moves line_tokens bare_line l
line_moves l = made (λ p. record { stated = p.0; end = p.1 }) (both (stated_moves l.stated) (token_moves kind.End l.end)) (λ p. refl) (λ p. refl)

lines_move : (ls : List StatedLine) → Moves file_tokens bare_file ls
lines_move [] = λ ts ks alike. record { moved = []; rest = ts; are = refl; same = refl; kinds_are = alike }
lines_move (l ∷ ls) = made (λ p. p.0 ∷ p.1) (both (line_moves l) (lines_move ls)) (λ p. refl) (λ p. refl)

-- the limit of brackets and the languages are the same without places
mutual
  expr_fits : (e : Expr) (d : ℕ) → ExprFits (bare e) d ≡ ExprFits e d
  expr_fits (first l t) d = product_fits t d
  expr_fits (joined e s t) d = ap₂ (λ F G. F × G) (expr_fits e d) (product_fits t d)

  product_fits : (t : Product) (d : ℕ) → ProductFits (bare_product t) d ≡ ProductFits t d
  product_fits (zero_alone at) d = refl
  product_fits (factors l fs) d = factors_fit fs d

  factors_fit : (fs : Factors) (d : ℕ) → FactorsFit (bare_factors fs) d ≡ FactorsFit fs d
  factors_fit (one f) d = marked_fits f d
  factors_fit (beside fs f) d = ap₂ (λ F G. F × G) (factors_fit fs d) (marked_fits f d)

  marked_fits : (f : Marked) (d : ℕ) → MarkedFits (bare_marked f) d ≡ MarkedFits f d
  marked_fits (plain p) d = prime_fits p d
  marked_fits (marked f at) d = marked_fits f d
  marked_fits (raised f at n) d = marked_fits f d

  prime_fits : (p : Prime) (d : ℕ) → PrimeFits (bare_prime p) d ≡ PrimeFits p d
  prime_fits (bracket left e right) (suc d) = expr_fits e d
  prime_fits p d = refl

file_fits : (ls : List StatedLine) → FileFits (bare_file ls) ≡ FileFits ls
file_fits [] = refl
file_fits (l ∷ ls) = ap₂ (λ F G. F × G) (fits l.stated) (file_fits ls)
  where
    fits : (s : Stated) → StatedFits (bare_stated s) ≡ StatedFits s
    fits (sides w at d equals e) = ap₂ (λ F G. F × G) (expr_fits d bracket_limit) (expr_fits e bracket_limit)
    fits s = refl

lines_speak : (language : Language) (ls : List StatedLine) → AreLinesOf language (bare_file ls) ≡ AreLinesOf language ls
lines_speak language [] = refl
lines_speak language (l ∷ ls) = ap₂ (λ F G. F × G) (speaks language l.stated) (lines_speak language ls)
  where
    speaks : (language : Language) (s : Stated) → IsOf language (bare_stated s) ≡ IsOf language s
    speaks First (listed Eliminate at n ns) = refl
    speaks Second (listed Eliminate at n ns) = refl
    speaks language s = refl

file_speaks : (language : Language) (ls : List StatedLine) → IsFileOf language (bare_file ls) ≡ IsFileOf language ls
file_speaks First ls = lines_speak First ls
file_speaks Second [] = refl
file_speaks Second (l ∷ ls) = ap₂ (λ F G. F × G) (names l.stated) (lines_speak Second ls)
  where
    names : (s : Stated) → NamesLanguage (bare_stated s) ≡ NamesLanguage s
    names (second_language at number) = refl
    names s = refl

-- all tokens are those of a file
pub record MovedFile (ls : List StatedLine) (ts : List Token) : Type 0 where
  pub moved : List StatedLine
  pub are : ts ≡ file_tokens moved
  pub same : bare_file moved ≡ bare_file ls
  pub fits : FileFits ls → FileFits moved
  pub speaks : (language : Language) → IsFileOf language ls → IsFileOf language moved

pub file_moved : (ls : List StatedLine) (ts : List Token) → kinds ts ≡ kinds (file_tokens (bare_file ls)) → MovedFile ls ts
file_moved ls ts alike =
    let m = lines_move ls ts [] (alike ∙ sym (append-nil (kinds (file_tokens (bare_file ls))))) in
    record {
      moved = m.moved;
      are = m.are ∙ ap (λ rest. file_tokens m.moved ++ rest) (none_left m.rest m.kinds_are) ∙ append-nil (file_tokens m.moved);
      same = m.same;
      fits = transport (sym (file_fits ls) ∙ ap FileFits (sym m.same) ∙ file_fits m.moved);
      speaks = λ language. transport (sym (file_speaks language ls) ∙ ap (IsFileOf language) (sym m.same) ∙ file_speaks language m.moved);
    }
  where
    none_left : (ts : List Token) → kinds ts ≡ [] → ts ≡ []
    none_left [] none = refl
    none_left (t ∷ ts) none = absurd cc
