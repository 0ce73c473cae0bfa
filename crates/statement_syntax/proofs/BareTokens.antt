-- The tokens of statements without their places are among those of the statements.
use Rattle.statement_syntax.proofs.Prelude.{List, [], ◌∷◌, ◌++◌, Option, Some, None, subst, map-append, Token, kind, Language, Name, Number, no_sign, lead_plus, lead_minus, Sign, plus, minus, Expr, first, joined, Product, zero_alone, factors, Factors, one, beside, Marked, plain, marked, raised, Prime, name, identity, bracket, sign_token, signed_token, literal_tokens, expr_tokens, product_tokens, factors_tokens, marked_tokens, prime_tokens, Ending, no_word, self_word, ending_tokens, names_tokens, pairs_tokens, Stated, listed, mapped, sides, by_weight, modelled, stated_tokens, StatedLine, line_tokens, file_tokens, bare_literal, bare_sign, bare, bare_product, bare_factors, bare_marked, bare_prime, bare_ending, bare_names, bare_pairs, bare_stated}
use Rattle.statement_syntax.proofs.Moved.{kinds}
use Rattle.statement_syntax.proofs.Spelled.{IsToken, IsFileToken, AllKinds, AllKinds-append, AllKinds-split}

module _ (language : Language) where
  abbrev Are : List Token → Type 0
  Are ts = AllKinds (IsFileToken language) (kinds ts)

  abbrev pub AreTokensOf : List Token → Type 0
  AreTokensOf ts = AllKinds (IsToken language) (kinds ts)

  split : (ts us : List Token) → Are (ts ++ us) → Are ts × Are us
  split ts us lexed =
      AllKinds-split (IsFileToken language) (kinds ts) (kinds us) (subst (AllKinds (IsFileToken language)) (map-append (λ t. t.kind) ts us) lexed)

  -- if the first are tokens of a file, then the second are tokens of a statement
  record Keeps (ts us : List Token) : Type 0 where
    pub keeps : Are ts → AreTokensOf us

  these : {ts us : List Token} → (Are ts → AreTokensOf us) → Keeps ts us
  these given = record { keeps = given }

  front : {t u : Token} {ts us : List Token} → (IsFileToken language t.kind → IsToken language u.kind) → Keeps ts us → Keeps (t ∷ ts) (u ∷ us)
  front here rest = record { keeps = λ lexed. (here lexed.0, rest.keeps lexed.1) }

  both : {ts us vs ws : List Token} → Keeps ts us → Keeps vs ws → Keeps (ts ++ vs) (us ++ ws)
  both {ts} {us} {vs} {ws} left right = record {
    keeps = λ lexed.
        let parts = split ts vs lexed in
        rw map-append (AllKinds-append (IsToken language) (kinds us) (kinds ws) (left.keeps parts.0) (right.keeps parts.1));
  }

  sign_keeps : (s : Sign) → Keeps (signed_token s ∷ []) (signed_token (bare_sign s) ∷ [])
  sign_keeps (plus at) = these (λ lexed. lexed)
  sign_keeps (minus at) = these (λ lexed. lexed)

  literal_keeps : (l : Option Number) → Keeps (literal_tokens l) (literal_tokens (bare_literal l))
  literal_keeps None = these (λ lexed. lexed)
  literal_keeps (Some n) = these (λ lexed. lexed)

  mutual
    expr_keeps : (e : Expr) → Keeps (expr_tokens e) (expr_tokens (bare e))
    expr_keeps (first no_sign t) = product_keeps t
    expr_keeps (first (lead_plus at) t) = these (λ lexed. (product_keeps t).keeps lexed.1)
    expr_keeps (first (lead_minus at) t) = front (λ k. k) (product_keeps t)
    expr_keeps (joined e s t) = both (expr_keeps e) (both (sign_keeps s) (product_keeps t))

    product_keeps : (t : Product) → Keeps (product_tokens t) (product_tokens (bare_product t))
    product_keeps (zero_alone at) = these (λ lexed. lexed)
    product_keeps (factors l fs) = both (literal_keeps l) (factors_keep fs)

    factors_keep : (fs : Factors) → Keeps (factors_tokens fs) (factors_tokens (bare_factors fs))
    factors_keep (one f) = marked_keeps f
    factors_keep (beside fs f) = both (factors_keep fs) (marked_keeps f)

    marked_keeps : (f : Marked) → Keeps (marked_tokens f) (marked_tokens (bare_marked f))
    marked_keeps (plain p) = prime_keeps p
    marked_keeps (marked f at) = both (marked_keeps f) (these (λ lexed. lexed))
    marked_keeps (raised f at n) = both (marked_keeps f) (these (λ lexed. lexed))

    prime_keeps : (p : Prime) → Keeps (prime_tokens p) (prime_tokens (bare_prime p))
    prime_keeps (name n) = these (λ lexed. lexed)
    prime_keeps (identity left n right) = these (λ lexed. lexed)
    prime_keeps (bracket left e right) = front (λ k. k) (both (expr_keeps e) (these (λ lexed. lexed)))

  names_keep : (ns : List Name) → Keeps (names_tokens ns) (names_tokens (bare_names ns))
  names_keep [] = these (λ lexed. lexed)
  names_keep (n ∷ ns) = front (λ k. k) (names_keep ns)

  pairs_keep : (ps : List (Name × Number)) → Keeps (pairs_tokens ps) (pairs_tokens (bare_pairs ps))
  pairs_keep [] = these (λ lexed. lexed)
  pairs_keep (p ∷ ps) = front (λ k. k) (front (λ k. k) (pairs_keep ps))

  ending_keeps : (end : Ending) → Keeps (ending_tokens end) (ending_tokens (bare_ending end))
  ending_keeps no_word = these (λ lexed. lexed)
  ending_keeps (self_word at) = these (λ lexed. lexed)

  stated_keeps : (s : Stated) → Keeps (stated_tokens s) (stated_tokens (bare_stated s))
  stated_keeps (listed w at n ns) = front (λ k. k) (names_keep (n ∷ ns))
  stated_keeps (mapped at n ns colon s arrow t end) =
      front (λ k. k) (both (names_keep (n ∷ ns)) (front (λ k. k) (front (λ k. k) (front (λ k. k) (front (λ k. k) (ending_keeps end))))))
  stated_keeps (sides w at d equals e) = front (λ k. k) (both (expr_keeps d) (front (λ k. k) (expr_keeps e)))
  stated_keeps (by_weight at word p ps) = front (λ k. k) (front (λ k. k) (pairs_keep (p ∷ ps)))
  stated_keeps (modelled at m ps) = front (λ k. k) (front (λ k. k) (pairs_keep ps))
  stated_keeps s = these (λ lexed. lexed)

  -- every line's statement is spelled so
  abbrev pub AllSpelled : List StatedLine → Type 0
  AllSpelled [] = Unit {0}
  AllSpelled (l ∷ ls) = AreTokensOf (stated_tokens (bare_stated l.stated)) × AllSpelled ls

  pub file_are : (ls : List StatedLine) → Are (file_tokens ls) → AllSpelled ls
  file_are [] lexed = tt
  file_are (l ∷ ls) lexed =
      let parts = split (line_tokens l) (file_tokens ls) lexed in
      ((stated_keeps l.stated).keeps (split (stated_tokens l.stated) (sign_token kind.End l.end ∷ []) parts.0).0, file_are ls parts.1)
