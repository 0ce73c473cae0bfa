-- The tokens that are written of a tree are those of its statements without their places.
use Rattle.statement_syntax.proofs.Prelude.{◌≡◌, Bool, true, false, List, [], ◌∷◌, ◌++◌, Option, Some, None, refl, ap, ◌∙◌, append_assoc, flat_map, append-nil, map-append, flat_map-append, Spot, Token, TokenKind, kind, Name, Number, Mark, Adjoint, Power, Factor, Term, out-roll-Term, out-roll-Sum, Object, Assume, Pinv, term_of, sum_of, Lead, no_sign, lead_plus, lead_minus, Sign, plus, minus, Expr, first, joined, Product, zero_alone, factors, Factors, one, beside, Marked, plain, marked, raised, Prime, name, identity, bracket, zero_at, lead_tokens, signed_token, literal_tokens, expr_tokens, product_tokens, factors_tokens, marked_tokens, prime_tokens, Ending, no_word, self_word, ending_tokens, names_tokens, pairs_tokens, Stated, listed, mapped, sides, paired, by_weight, modelled, stated_tokens, prime_tree, marked_tree, front_trees, last_tree, product_tree, expr_terms, expr_tree, expr_at, is_minus, is_negative, literal_or, factors_at, is_self, stated_kind, bare_literal, bare_lead, bare_sign, bare, bare_product, bare_factors, bare_marked, bare_prime, bare_ending, bare_names, bare_pairs, bare_stated, name_kinds, literal_kinds, sign_kinds, mark_kinds, primary_kinds, factor_kinds, term_kinds, sum_kinds, pair_kinds, self_kinds, statement_kinds}
use Rattle.statement_syntax.proofs.TreeKinds.{terms_of, term-flat, sum-flat}
use Rattle.statement_syntax.proofs.Moved.{kinds}

pub kinds-append : (ts us : List Token) → kinds (ts ++ us) ≡ kinds ts ++ kinds us
kinds-append ts us = map-append (λ t. t.kind) ts us

sum_of-kinds : (at : Spot) (terms : List Term) → sum_kinds (sum_of at terms) ≡ terms_of true terms
sum_of-kinds at terms = sum-flat (sum_of at terms) ∙ ap (λ r. terms_of true r.terms) (out-roll-Sum (record { at = at; terms = terms }))

term_of-kinds : (leading : Bool) (at : Spot) (negative : Bool) (l : Option Number) (fs : List Factor) → term_kinds leading (term_of at negative l fs) ≡ sign_kinds leading negative ++ literal_kinds l ++ flat_map factor_kinds fs
term_of-kinds leading at negative l fs =
    term-flat leading (term_of at negative l fs)
    ∙ ap (λ r. sign_kinds leading r.negative ++ literal_kinds r.literal ++ flat_map factor_kinds r.factors) (out-roll-Term (record { at = at; negative = negative; literal = l; factors = fs }))

-- a mark after those of a factor
mark_more : (f : Factor) (m : Mark) → primary_kinds f.primary ++ flat_map mark_kinds (f.marks ++ m ∷ []) ≡ factor_kinds f ++ mark_kinds m
mark_more f m = simp (flat_map-append, append-nil, append_assoc)

-- terms after others
terms_behind : (e : Expr) (us : List Term) → terms_of true (expr_terms e ++ us) ≡ terms_of true (expr_terms e) ++ terms_of false us
terms_behind (first l t) us = rw append-nil refl
terms_behind (joined e s t) us =
    let u = product_tree t (is_minus s) in
    rw (append_assoc, terms_behind e (u ∷ us), terms_behind e (u ∷ [])) (simp (append-nil, append_assoc))

lead-kinds : (l : Lead) → sign_kinds true (is_negative l) ≡ kinds (lead_tokens (bare_lead l))
lead-kinds no_sign = refl
lead-kinds (lead_plus at) = refl
lead-kinds (lead_minus at) = refl

sign-kinds : (s : Sign) → sign_kinds false (is_minus s) ≡ kinds (signed_token (bare_sign s) ∷ [])
sign-kinds (plus at) = refl
sign-kinds (minus at) = refl

literal-kinds : (l : Option Number) → literal_kinds l ≡ kinds (literal_tokens (bare_literal l))
literal-kinds None = refl
literal-kinds (Some n) = refl

mutual
  terms-kinds : (e : Expr) → terms_of true (expr_terms e) ≡ kinds (expr_tokens (bare e))
  terms-kinds (first l t) = rw (append-nil, product-kinds t true (is_negative l), lead-kinds l, kinds-append) refl
  terms-kinds (joined e s t) =
      rw (terms_behind e (product_tree t (is_minus s) ∷ []), terms-kinds e, append-nil, product-kinds t false (is_minus s), sign-kinds s, kinds-append) refl

  product-kinds : (t : Product) (leading negative : Bool)
      → term_kinds leading (product_tree t negative) ≡ sign_kinds leading negative ++ kinds (product_tokens (bare_product t))
  product-kinds (zero_alone at) leading negative = term_of-kinds leading at negative (Some (zero_at at)) [] ∙ append-nil _
  product-kinds (factors l fs) leading negative =
      term_of-kinds leading (literal_or l (factors_at fs)) negative l (front_trees fs ++ last_tree fs ∷ [])
      ∙ rw (literal-kinds l, factors-kinds fs, kinds-append, append_assoc) refl

  factors-kinds : (fs : Factors) → flat_map factor_kinds (front_trees fs ++ last_tree fs ∷ []) ≡ kinds (factors_tokens (bare_factors fs))
  factors-kinds (one f) = append-nil (factor_kinds (marked_tree f)) ∙ marked-kinds f
  factors-kinds (beside fs f) = rw (flat_map-append, factors-kinds fs, append-nil, marked-kinds f, kinds-append) refl

  marked-kinds : (f : Marked) → factor_kinds (marked_tree f) ≡ kinds (marked_tokens (bare_marked f))
  marked-kinds (plain p) = append-nil (primary_kinds (prime_tree p)) ∙ prime-kinds p
  marked-kinds (marked f at) = mark_more (marked_tree f) Adjoint ∙ rw (marked-kinds f, kinds-append) refl
  marked-kinds (raised f at n) = mark_more (marked_tree f) (Power at n) ∙ rw (marked-kinds f, kinds-append) refl

  prime-kinds : (p : Prime) → primary_kinds (prime_tree p) ≡ kinds (prime_tokens (bare_prime p))
  prime-kinds (name n) = refl
  prime-kinds (identity left n right) = refl
  prime-kinds (bracket left e right) = rw (sum_of-kinds, terms-kinds e, kinds-append) refl

expr-kinds : (e : Expr) → sum_kinds (expr_tree e) ≡ kinds (expr_tokens (bare e))
expr-kinds e = sum_of-kinds (expr_at e) (expr_terms e) ∙ terms-kinds e

-- statements
names-kinds : (ns : List Name) → flat_map name_kinds ns ≡ kinds (names_tokens (bare_names ns))
names-kinds [] = refl
names-kinds (n ∷ ns) = ap (λ ks. kind.Name n.text ∷ ks) (names-kinds ns)

pairs-kinds : (ps : List (Name × Number)) → flat_map pair_kinds ps ≡ kinds (pairs_tokens (bare_pairs ps))
pairs-kinds [] = refl
pairs-kinds (p ∷ ps) = ap (λ ks. kind.Name p.0.text ∷ kind.Literal p.1.value ∷ ks) (pairs-kinds ps)

self-kinds : (end : Ending) → self_kinds (is_self end) ≡ kinds (ending_tokens (bare_ending end))
self-kinds no_word = refl
self-kinds (self_word at) = refl

map_group : (a : TokenKind) (b c d e f g : List TokenKind) → (((((a ∷ b) ++ c) ++ d) ++ e) ++ f) ++ g ≡ a ∷ (b ++ (c ++ (d ++ (e ++ (f ++ g)))))
map_group a b c d e f g = simp append_assoc

pub stated-kinds : (s : Stated) → statement_kinds (stated_kind s) ≡ kinds (stated_tokens (bare_stated s))
stated-kinds (listed Object at n ns) = rw (names-kinds ns) refl
stated-kinds (listed w at n ns) = rw (names-kinds ns) refl
stated-kinds (mapped at n ns colon s arrow t end) =
    map_group _ (flat_map name_kinds (n ∷ ns)) (kind.Colon ∷ []) (name_kinds s) (kind.Arrow ∷ []) (name_kinds t) (self_kinds (is_self end))
    ∙ rw (names-kinds ns, self-kinds end, kinds-append) refl
stated-kinds (sides Assume at d equals e) = rw (append_assoc, expr-kinds d, expr-kinds e, kinds-append) refl
stated-kinds (sides w at d equals e) = rw (append_assoc, expr-kinds d, expr-kinds e, kinds-append) refl
stated-kinds (paired Pinv at m n) = refl
stated-kinds (by_weight at word p ps) = rw (pairs-kinds ps) refl
stated-kinds (modelled at m ps) = rw (pairs-kinds ps) refl
stated-kinds s = refl
