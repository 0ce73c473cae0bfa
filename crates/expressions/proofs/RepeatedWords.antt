-- Words that are repeated.
use Rattle.expressions.proofs.Prelude.{◌≡◌, ◌≢◌, ℕ, zero, suc, ◌+◌, ◌*◌, ◌/◌, ◌%◌, List, ◌++◌, length, sym, ap, ◌∙◌, arith, append_assoc, length-append, repeated_word}
use Rattle.std.proofs.Common.{append-nil}

repeated-sum : (m n : ℕ) (w : List ℕ) → repeated_word (m + n) w ≡ repeated_word m w ++ repeated_word n w
repeated-sum m zero w = let none : m + 0 ≡ m = omega arith in ap (λ k. repeated_word k w) none ∙ sym (append-nil (repeated_word m w))
repeated-sum m (suc n) w =
    let next : m + suc n ≡ suc (m + n) = omega arith in
    ap (λ k. repeated_word k w) next ∙ ap (λ v. v ++ w) (repeated-sum m n w) ∙ append_assoc (repeated_word m w) (repeated_word n w) w

pub length-repeated : (n : ℕ) (w : List ℕ) → length (repeated_word n w) ≡ n * length w
length-repeated zero w = let none : 0 ≡ 0 * length w = omega arith in none
length-repeated (suc n) w =
    let more = length-append (repeated_word n w) w in
    let so_far = length-repeated n w in
    omega (arith, more, so_far)

-- both halves of a word that is repeated
pub repeated-even : (n : ℕ) (w : List ℕ) → n % 2 ≡ 0 → repeated_word (n / 2) w ++ repeated_word (n / 2) w ≡ repeated_word n w
repeated-even n w even =
    let whole : n / 2 + n / 2 ≡ n = omega (arith, even) in
    sym (repeated-sum (n / 2) (n / 2) w) ∙ ap (λ k. repeated_word k w) whole

pub repeated-odd : (n : ℕ) (w : List ℕ) → n % 2 ≢ 0 → repeated_word (n / 2) w ++ (repeated_word (n / 2) w ++ w) ≡ repeated_word n w
repeated-odd n w odd =
    let whole : n / 2 + suc (n / 2) ≡ n = omega (arith, odd) in
    sym (repeated-sum (n / 2) (suc (n / 2)) w) ∙ ap (λ k. repeated_word k w) whole
