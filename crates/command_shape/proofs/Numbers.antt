-- a number in plain decimal digits, as a word
use Rattle.command_shape.proofs.Prelude.{◌≡◌, ◌∙◌, ap, refl, ℕ, Bool, true, false, List, [], ◌∷◌, ◌<◌, ◌≤◌, ◌^◌, ◌==◌, arith, decimal, cond, drop, ne_eqb, decimal_is_IsNumeral, digit_from_value, IsNumeral, digits_value, without_leading_plus, accepts, value_kinds, Accepts-accepts, IsFileWord}
use Rattle.clap.specs.declared.builder.value_parser.ValueParser.TheVariants as parser

pub no_plus : (ds : List ℕ) → IsNumeral 10 ds → without_leading_plus ds ≡ ds
no_plus [] h = refl
no_plus (d ∷ ds) h =
    let plus : (d == 43) ≡ false = ne_eqb _ _ (λ e. omega (arith, digit_from_value d h.1.0)) in
    ap (λ (b : Bool). drop (cond b 1 0) (d ∷ ds)) plus

no_dash : (ds : List ℕ) → IsNumeral 10 ds → IsFileWord ds
no_dash [] h = absurd (omega (arith, h.0))
no_dash (d ∷ ds) h = λ e. omega (arith, digit_from_value d h.1.0)

pub decimal_word : (n : ℕ) → n < 2 ^ 64 → IsFileWord (decimal n)
decimal_word n fits = no_dash (decimal n) (decimal_is_IsNumeral n fits).0

-- what `u64` reads of the word
pub decimal_value : (n : ℕ) → n < 2 ^ 64 → digits_value 10 (without_leading_plus (decimal n)) ≡ n
decimal_value n fits = ap (digits_value 10) (no_plus (decimal n) (decimal_is_IsNumeral n fits).0) ∙ (decimal_is_IsNumeral n fits).1

pub decimal_passes : (low high n : ℕ) → n < 2 ^ 64 → low ≤ n → n ≤ high → value_kinds false (parser.Unsigned low high) (decimal n) ≡ []
decimal_passes low high n fits least most =
    let same = no_plus (decimal n) (decimal_is_IsNumeral n fits).0 in
    let value = decimal_value n fits in
    let passes : accepts false (parser.Unsigned low high) (decimal n) ≡ true =
    Accepts-accepts false (parser.Unsigned low high) (decimal n) (rw same (decimal_is_IsNumeral n fits).0, rw value fits, rw value least, rw value most) in
    rw passes refl
