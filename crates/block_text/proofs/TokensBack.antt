-- Tokens that are written are read.
use Rattle.block_text.proofs.Prelude.{◌≡◌, ◌<◌, ℕ, Bool, true, false, not, ◌||◌, List, [], ◌∷◌, ◌++◌, arith, refl, sym, ap, ◌∙◌, subst, length, AllByRecursion, list_all, onto_first, join_with_byte, ne_eqb, and_parts, append_assoc, is_gap, is_sign, is_plain, goes_on, tokens_of}
use Rattle.block_text.proofs.Cuts.{tokens-alone, tokens-joined}
use Rattle.block_text.proofs.NameBytes.{is_name_byte, IsNameText, differs}

record IsPlain (c : ℕ) : Type 0 where
  gap : is_gap c ≡ false
  sign : is_sign c ≡ false

plain_by : (c : ℕ) (g s : Bool) → is_gap c ≡ g → is_sign c ≡ s → not (g || s) ≡ true → IsPlain c
plain_by c true s gap sign plain = absurd (cc)
plain_by c false true gap sign plain = absurd (cc)
plain_by c false false gap sign plain = record { gap = gap; sign = sign }

plain_is : (c : ℕ) → is_plain c ≡ true → IsPlain c
plain_is c plain = plain_by c _ _ refl refl plain

-- one or more characters, each of which continues a run
pub record IsToken (token : List ℕ) : Type 0 where
  pub first : ℕ
  pub more : List ℕ
  pub is : token ≡ first ∷ more
  pub plain : is_plain first ≡ true
  pub all : list_all is_plain more ≡ true

run_read : (c : ℕ) (cs rest : List ℕ) → is_plain c ≡ true → list_all is_plain cs ≡ true → goes_on rest ≡ false → tokens_of ((c ∷ cs) ++ rest) ≡ (c ∷ cs) ∷ tokens_of rest
run_read c [] rest plain all stops =
    let is = plain_is c plain in
    tokens-alone c rest is.gap (rw (is.sign, stops) refl)
run_read c (d ∷ ds) rest plain all stops =
    let is = plain_is c plain in
    let parts : (is_plain d ≡ true) × (list_all is_plain ds ≡ true) = and_parts _ _ all in
    tokens-joined c ((d ∷ ds) ++ rest) is.gap (rw (is.sign, parts.0) refl) ∙ ap (onto_first c) (run_read d ds rest parts.0 parts.1 stops)

pub token_read : (token rest : List ℕ) → IsToken token → goes_on rest ≡ false → tokens_of (token ++ rest) ≡ token ∷ tokens_of rest
token_read token rest is stops =
    subst (λ (t : List ℕ). tokens_of (t ++ rest) ≡ t ∷ tokens_of rest) (sym is.is) (run_read is.first is.more rest is.plain is.all stops)

-- tokens with one blank between them
pub tokens_read : (tokens : List (List ℕ)) (rest : List ℕ) → AllByRecursion IsToken tokens → goes_on rest ≡ false → tokens_of (join_with_byte 32 tokens ++ rest) ≡ tokens ++ tokens_of rest
tokens_read [] rest each stops = refl
tokens_read (t ∷ []) rest each stops = token_read t rest each.0 stops
tokens_read (t ∷ u ∷ us) rest each stops =
    rw (append_assoc t (32 ∷ join_with_byte 32 (u ∷ us)) rest) (token_read t (32 ∷ (join_with_byte 32 (u ∷ us) ++ rest)) each.0 refl ∙ ap (λ ts. t ∷ ts) (tokens_read (u ∷ us) rest each.1 stops))

-- names
name_byte_plain : (b : ℕ) → is_name_byte b ≡ true → is_plain b ≡ true
name_byte_plain b byte =
    rw (ne_eqb b 32 (differs b 32 byte refl), ne_eqb b 9 (differs b 9 byte refl), ne_eqb b 40 (differs b 40 byte refl), ne_eqb b 41 (differs b 41 byte refl), ne_eqb b 59 (differs b 59 byte refl), ne_eqb b 61 (differs b 61 byte refl)) refl

pub bytes_plain : (bs : List ℕ) → list_all is_name_byte bs ≡ true → list_all is_plain bs ≡ true
bytes_plain [] all = refl
bytes_plain (b ∷ bs) all =
    let parts : (is_name_byte b ≡ true) × (list_all is_name_byte bs ≡ true) = and_parts _ _ all in
    rw (name_byte_plain b parts.0, bytes_plain bs parts.1) refl

-- plain characters are a token
pub plain_token : (text : List ℕ) → list_all is_plain text ≡ true → 0 < length text → IsToken text
plain_token [] all some = absurd (omega (arith, some))
plain_token (c ∷ cs) all some =
    let parts : (is_plain c ≡ true) × (list_all is_plain cs ≡ true) = and_parts _ _ all in
    record { first = c; more = cs; is = refl; plain = parts.0; all = parts.1 }

pub name_token : (name : List ℕ) → IsNameText name → IsToken name
name_token name text = plain_token name (bytes_plain name text.bytes) text.some
