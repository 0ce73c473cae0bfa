-- The result of the reader of a name, and how long items are.
use Rattle.statement_tokens.proofs.Prelude.{◌≡◌, ℕ, ◌≤◌, List, ◌∷◌, length, Result, Ok, Err, take, refl, sym, ap, ap₂, subst, ◌∙◌, IfOk, prefix_len, take_while, encode_utf8_all, is_xid_continue, le-leb, IfOk-from_err, IfOk-at_ok, prefix_len-le-length, name_limit, kind, Item, item, Fault, Stop, Gives, name_of, more_of}

pub name_read : (first : ℕ) (rest text : List ℕ) (more : ℕ) → more ≡ prefix_len is_xid_continue rest → text ≡ encode_utf8_all (first ∷ take more rest)
    → length text ≤ name_limit
    → name_of (encode_utf8_all (first ∷ take_while is_xid_continue rest)) (prefix_len is_xid_continue rest) ≡ Ok (item.Token (kind.Name text) more)
name_read first rest text more count is short =
    let whole : text ≡ encode_utf8_all (first ∷ take_while is_xid_continue rest) = is ∙ ap (λ n. encode_utf8_all (first ∷ take n rest)) count in
    ap₂ name_of (sym whole) (sym count) ∙ rw (le-leb (length text) name_limit short) refl

pub given_short : (n : ℕ) (r : Result Item (Stop Fault)) (read : Result Item Fault) → Gives (λ item. item) r read → IfOk read (λ i. more_of i ≤ n) → IfOk r (λ i. more_of i ≤ n)
given_short n (Ok i) read gives short = subst (λ x. IfOk x (λ i. more_of i ≤ n)) gives short
given_short n (Err e) read gives short = tt

pub ruleset items_are_short = (given_short, prefix_len-le-length, IfOk-from_err, IfOk-at_ok)
