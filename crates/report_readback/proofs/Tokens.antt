-- Names are the texts of name tokens.
use Rattle.report_readback.proofs.Prelude.{◌≡◌, ◌+◌, ℕ, cond, List, [], ◌∷◌, ◌++◌, length, Result, Ok, Err, refl, sym, ap, subst, ◌∙◌, chars, le-leb, append-nil, chars-encodes, scalars-chars, Token, Placed, BadToken, language_of, end_of, item_at, name_of, ◌>>=◌, tokens_from, read_are, are_read, name_token, spot, kinds, SpellsName, IsFileToken, AllKinds, AllKinds-split, tokens_are, kinds-append, one_token, name_back, name_limit, IsNameToken, NamesAreNameTokens}
use Rattle.statement_tokens.specs.declared.token.TokenKind.TheVariants as kind
use Rattle.statement_tokens.specs.declared.scan.Item.TheVariants as item
use Rattle.statement_tokens.proofs.Reading.{tokens_of}
use Rattle.report_readback.proofs.Spellings.{spelled_is_name, name_is_spelled}

-- a name is a token by itself
no_more : (before : List Token) (line column past : ℕ) → tokens_from before [] 0 (spot line column) past ≡ Ok (end_of line past)
unfolding tokens_from
no_more before line column past = refl

item_read : (text : List ℕ) (s : SpellsName text) → item_at [] s.first (s.more ++ []) ≡ Ok (item.Token (kind.Name text) (length s.more))
item_read text s =
    name_back [] s.first s.more [] s.starts s.goes_on tt
    ∙ ap (λ y. name_of y (length s.more)) (sym s.is)
    ∙ ap (λ b. cond b (Ok (item.Token (kind.Name text) (length s.more))) (Err BadToken)) (le-leb (length text) name_limit s.short)

spelled_is_token : (text : List ℕ) → SpellsName text → IsNameToken text
spelled_is_token text s =
    let after = 1 + 1 + length s.more in
    let token : Token = record { at = spot 1 1; kind = kind.Name text } in
    let characters : chars text ≡ s.first ∷ (s.more ++ []) = rw (s.is, append-nil s.more) (chars-encodes (s.first ∷ s.more) s.scalar) in
    record {
      bytes = text;
      utf8 = (s.first ∷ s.more, (s.scalar, sym s.is));
      front = [];
      at = spot 1 1;
      back = end_of 1 after;
      tokens = are_read (chars text) _
          (ap tokens_of characters
          ∙ one_token [] s.first s.more [] (kind.Name text) 1 1 0 (item_read text s)
          ∙ ap (λ (r : Result (List Token) Placed). r >>= λ ts. Ok (token ∷ ts)) (no_more (token ∷ []) 1 after after));
    }

-- a token is a name
token_is_spelled : (text : List ℕ) → IsNameToken text → SpellsName text
token_is_spelled text t =
    let here = name_token (record { text = text; at = t.at }) in
    let whole = t.front ++ here ∷ t.back in
    let each = tokens_are [] (chars t.bytes) 0 (spot 1 1) 0 whole (scalars-chars t.bytes t.utf8) (read_are (chars t.bytes) whole t.tokens) in
    let Is = IsFileToken (language_of whole) in
    (AllKinds-split Is (kinds t.front) (kinds (here ∷ t.back)) (subst (AllKinds Is) (kinds-append t.front (here ∷ t.back)) each)).1.0

pub names_are_name_tokens : NamesAreNameTokens
names_are_name_tokens text = (λ known. spelled_is_token text (name_is_spelled text known), λ token. spelled_is_name text (token_is_spelled text token))
