-- Each statement is read as itself where it is within the limit, and else stops at a bracket that is too deep.
use Rattle.statement_syntax.proofs.Prelude.{◌≡◌, List, [], ◌∷◌, ◌++◌, inl, Some, None, Result, Ok, Err, refl, sym, ap, ◌∙◌, append_assoc, ℕ, codes, append-nil, Spot, Token, Language, First, Second, TokenKind, kind, Name, Number, Sum, Fault, Expected, ListWord, Eliminate, SidesWord, Assume, Pinv, Reading, Focus, focus, Opening, opening, rest, Pairs, Line, line, bracket_limit, ◌>>=◌, run, focus_step, token_step, whole_sum, Expr, expr_tokens, ExprFits, sign_token, name_token, number_token, word_token, names_tokens, pairs_tokens, list_text, sides_text, pair_text, Ending, no_word, self_word, ending_tokens, Stated, listed, mapped, sides, paired, projected, by_degree, by_weight, modelled, second_language, stated_tokens, StatedFits, IsOf, expr_tree, stated_tree, sides_kind, Lined, opened, start_reading, line_step, line_end, statement_by}
use Rattle.statement_syntax.proofs.Seen.{reading_of, tree_or}
use Rattle.statement_syntax.proofs.StateReads.{reading_step}
use Rattle.statement_syntax.proofs.Run.{Upto, then_on, before_it, run_upto, inside_upto, one_step}
use Rattle.statement_syntax.proofs.Runs.{end_state, end-whole}
use Rattle.statement_syntax.proofs.Same.{whole-seen}
use Rattle.statement_syntax.proofs.Viable.{only}
use Rattle.statement_syntax.proofs.LineReads.{IsListOf}

-- a step of a line by a token
abbrev pub by_token : Language → Line → Token → Lined
by_token language l t = line_step language l t.kind t.at

-- a line goes on with these tokens
abbrev goes : Language → Line → List Token → Lined
goes language l ts = run (by_token language) l ts

list_is : (language : Language) (w : ListWord) (at : Spot) (n : Name) (ns : List Name) → IsOf language (listed w at n ns) → IsListOf w language
list_is First Eliminate at n ns speaks = speaks
list_is Second Eliminate at n ns speaks = tt
list_is language w at n ns speaks = tt

-- the word begins a statement of the language
abbrev IsOpeningOf : Language → Opening → Type 0
IsOpeningOf language (opening.List w) = IsListOf w language
IsOpeningOf language o = Unit {0}

-- the text of the word that begins a statement
abbrev opening_text : Opening → List ℕ
opening_text (opening.List w) = list_text w
opening_text opening.Map = codes "map"
opening_text (opening.Sides w) = sides_text w
opening_text (opening.Pair w) = pair_text w
opening_text opening.Projection = codes "projection"
opening_text opening.Order = codes "order"
opening_text opening.Model = codes "model"

-- a statement's first word (where the line computes only once the word is known, the first case is a lemma of its own)
opens : (language : Language) (o : Opening) (at : Spot) (rest : List Token) → IsOpeningOf language o
    → goes language line.Start (word_token (opening_text o) at ∷ rest) ≡ goes language (opened o at) rest
unfolding run
opens First (opening.List Eliminate) at rest speaks = absurd speaks
opens Second (opening.List Eliminate) at rest speaks = refl
opens language (opening.Sides Assume) at rest speaks = refl
opens language (opening.Pair Pinv) at rest speaks = refl
opens language o at rest speaks = refl

-- an expression inside a line goes on with no equals sign, and with no end of the line
pub no_line_sign : (r : Reading) (f : Focus) (at : Spot)
    → (focus_step r.levels r.head r.part f kind.Equals at ≡ Err Expected) × (focus_step r.levels r.head r.part f kind.End at ≡ Err Expected)
no_line_sign r focus.Outside at = (refl, refl)
no_line_sign r f at = (refl, refl)

first_step : (language : Language) (w : SidesWord) (at : Spot) (r : Reading) (k : TokenKind) (t : Spot) (read : Result Reading Fault) → token_step r k t ≡ read
    → (read ≡ Err Expected → ⊥) → line_step language (line.Sides w at None r) k t ≡ (read >>= λ x. Ok (line.Sides w at None x))
first_step language w at r kind.Equals t read goes other = absurd (other (sym goes ∙ (no_line_sign r r.focus t).0))
first_step language w at r k t read goes other = ap (λ x. x >>= λ r. Ok (line.Sides w at None r)) goes

second_step : (language : Language) (w : SidesWord) (at : Spot) (left : Sum) (r : Reading) (t : Token) (read : Result Reading Fault) → reading_step r t ≡ read
    → (read ≡ Err Expected → ⊥) → by_token language (line.Sides w at (Some left) r) t ≡ (read >>= λ x. Ok (line.Sides w at (Some left) x))
second_step language w at left r t read goes other = ap (λ x. x >>= λ r. Ok (line.Sides w at (Some left) r)) goes

sum_seen : (e : Expr) → whole_sum (reading_of (end_state [] e)) ≡ Ok (expr_tree e)
sum_seen e = whole-seen (end_state [] e) ∙ ap (λ o. tree_or o Expected) (end-whole e)

sides_run : (language : Language) (w : SidesWord) (at : Spot) (d : Expr) (equals : Spot) (e : Expr)
    → Upto (ExprFits d bracket_limit × ExprFits e bracket_limit) (goes language line.Start (stated_tokens (sides w at d equals e)))
    (Ok (line.Sides w at (Some (expr_tree d)) (reading_of (end_state [] e))))
unfolding run
sides_run language w at d equals e =
    before_it (opens language (opening.Sides w) at (expr_tokens d ++ sign_token kind.Equals equals ∷ expr_tokens e) tt)
    (then_on
    (run_upto (by_token language) (line.Sides w at None start_reading) (expr_tokens d) (line.Sides w at None (reading_of (end_state [] d)))
    (sign_token kind.Equals equals ∷ expr_tokens e)
    (inside_upto reading_step (by_token language) (line.Sides w at None) (λ r t. first_step language w at r t.kind t.at)
    (expr_tokens d) start_reading _ (only d)))
    (rw (sum_seen d) (inside_upto reading_step (by_token language) (line.Sides w at (Some (expr_tree d))) (second_step language w at (expr_tree d))
    (expr_tokens e) start_reading _ (only e))))

-- names and pairs, one after another
names_run : (language : Language) (wrap : List Name → Line)
    → ((ns : List Name) (n : Name) → by_token language (wrap ns) (name_token n) ≡ Ok (wrap (ns ++ n ∷ [])))
    → (front ns : List Name) (behind : List Token) → goes language (wrap front) (names_tokens ns ++ behind) ≡ goes language (wrap (front ++ ns)) behind
names_run language wrap one front [] behind = rw append-nil refl
names_run language wrap one front (n ∷ ns) behind =
    one_step (by_token language) _ _ (name_token n) _ (one front n) ∙ names_run language wrap one (front ++ n ∷ []) ns behind ∙ rw append_assoc refl

abbrev whole_pairs_of : List (Name × Number) → Pairs
whole_pairs_of ps = record { whole = ps; half = None }

pairs_run : (language : Language) (wrap : Pairs → Line)
    → ((ps : List (Name × Number)) (p : Name × Number) (behind : List Token)
    → goes language (wrap (whole_pairs_of ps)) (name_token p.0 ∷ number_token p.1 ∷ behind) ≡ goes language (wrap (whole_pairs_of (ps ++ p ∷ []))) behind)
    → (front ps : List (Name × Number)) → goes language (wrap (whole_pairs_of front)) (pairs_tokens ps) ≡ Ok (wrap (whole_pairs_of (front ++ ps)))
unfolding run
pairs_run language wrap one front [] = rw append-nil refl
pairs_run language wrap one front (p ∷ ps) = one front p (pairs_tokens ps) ∙ pairs_run language wrap one (front ++ p ∷ []) ps ∙ rw append_assoc refl

-- what has been read of a line once it is whole
abbrev pub end_line : Stated → Line
end_line (listed w at n ns) = line.List w at (n ∷ ns)
end_line (mapped at n ns colon s arrow t no_word) = line.Map at (n ∷ ns) (rest.Target s t)
end_line (sides w at d equals e) = line.Sides w at (Some (expr_tree d)) (reading_of (end_state [] e))
end_line (by_weight at word p ps) = line.Weights at (whole_pairs_of (p ∷ ps))
end_line (modelled at m ps) = line.Shape at m (whole_pairs_of ps)
-- all others are whole; the line that names the second language is of neither
end_line s = line.Whole (stated_tree s)

map_run : (language : Language) (at : Spot) (n : Name) (ns : List Name) (colon : Spot) (s : Name) (arrow : Spot) (t : Name) (end : Ending)
    → goes language line.Start (stated_tokens (mapped at n ns colon s arrow t end)) ≡ Ok (end_line (mapped at n ns colon s arrow t end))
unfolding run
map_run language at n ns colon s arrow t end =
    let behind : List Token = sign_token kind.Colon colon ∷ name_token s ∷ sign_token kind.Arrow arrow ∷ name_token t ∷ ending_tokens end in
    opens language opening.Map at (names_tokens (n ∷ ns) ++ behind) tt
    ∙ names_run language (λ ns. line.Map at ns rest.Names) (λ ns n. refl) [] (n ∷ ns) behind
    ∙ last end
  where
    last : (end : Ending) → goes language (line.Map at (n ∷ ns) (rest.Target s t)) (ending_tokens end) ≡ Ok (end_line (mapped at n ns colon s arrow t end))
    last no_word = refl
    last (self_word self) = refl

pub stated_run : (language : Language) (s : Stated) → IsOf language s → Upto (StatedFits s) (goes language line.Start (stated_tokens s)) (Ok (end_line s))
unfolding run
stated_run language (listed w at n ns) speaks = inl (
  tt,
  opens language (opening.List w) at (names_tokens (n ∷ ns)) (list_is language w at n ns speaks)
      ∙ ap (goes language (line.List w at [])) (sym (append-nil (names_tokens (n ∷ ns)))) ∙ names_run language (line.List w at) (λ ns n. refl) [] (n ∷ ns) [],
)
stated_run language (mapped at n ns colon s arrow t end) speaks = inl (tt, map_run language at n ns colon s arrow t end)
stated_run language (sides w at d equals e) speaks = sides_run language w at d equals e
stated_run language (paired w at m n) speaks = inl (tt, opens language (opening.Pair w) at (name_token m ∷ name_token n ∷ []) tt)
stated_run language (projected at n) speaks = inl (tt, opens language opening.Projection at (name_token n ∷ []) tt)
stated_run language (by_degree at word) speaks = inl (tt, opens language opening.Order at (word_token (codes "degree") word ∷ []) tt)
stated_run language (by_weight at word p ps) speaks = inl (
  tt,
  opens language opening.Order at (word_token (codes "weight") word ∷ pairs_tokens (p ∷ ps)) tt
      ∙ pairs_run language (line.Weights at) (λ ps p behind. refl) [] (p ∷ ps),
)
stated_run language (modelled at m ps) speaks = inl (
  tt,
  opens language opening.Model at (number_token m ∷ pairs_tokens ps) tt ∙ pairs_run language (line.Shape at m) (λ ps p behind. refl) [] ps,
)
stated_run language (second_language at number) speaks = absurd speaks

-- and it ends as the statement
pub stated_end : (s : Stated) → line_end (end_line s) ≡ Ok (stated_tree s)
stated_end (mapped at n ns colon s arrow t no_word) = refl
stated_end (sides w at d equals e) = ap (λ x. statement_by at (x >>= λ right. Ok (sides_kind w (expr_tree d) right))) (sum_seen e)
stated_end s = refl
