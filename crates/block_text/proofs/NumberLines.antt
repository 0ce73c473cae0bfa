-- Lines that end with a number, and the line `end`.
use Rattle.block_text.proofs.Prelude.{◌≡◌, ℕ, false, List, [], ◌∷◌, ◌++◌, refl, sym, ap, ◌∙◌, codes, append-nil, tokens_of, is_skipped, Line, end_line, IsLineText}
use Rattle.block_text.proofs.ContentBack.{IsTextOf, text_of_tokens}
use Rattle.block_text.proofs.NameBytes.{IsNameText}
use Rattle.block_text.proofs.TextsBack.{line_text-append, literal, plain_name}
use Rattle.block_text.proofs.TokensBack.{token_read, name_token}

pub text_of_number : (front : List ℕ) (words : Line) (number : List ℕ) → IsLineText front → IsNameText number → tokens_of (front ++ number) ≡ words ++ tokens_of number
    → is_skipped (words ++ number ∷ []) ≡ false → IsTextOf ((front ++ number) ++ 10 ∷ []) ((words ++ number ∷ []) ∷ [])
text_of_number front words number line text split stands =
    let alone : tokens_of number ≡ number ∷ [] = ap tokens_of (sym (append-nil number)) ∙ token_read number [] (name_token number text) refl in
    text_of_tokens (front ++ number) (words ++ number ∷ []) (line_text-append front number line (plain_name number text).line) (split ∙ ap (λ ts. words ++ ts) alone) stands

pub end_is_text : IsTextOf (codes "end\n") (end_line ∷ [])
end_is_text = text_of_tokens (codes "end") end_line (literal (codes "end") refl refl) refl refl
