-- Worked texts, over the objects U and V and a map a : U -> V.
use lib.Utf8.{encode}
use Rattle.certificate_text.proofs.Prelude.{◌≡◌, ℕ, pos, negsuc, false, List, [], ◌∷◌, Result, Ok, Err, arith, refl, codes, decimal_digit, is_utf8, chars, lines, Declaration, object, arrow, Evidence, Format, Plain, Lemmas, Fault, truncated, no_block, tokens_of, all_values, certificate_steps, word_text, poly_text, certificate_text}
use Rattle.traced_rows.specs.declared.evidence.CertFrom.TheVariants as over
use Rattle.traced_rows.specs.declared.evidence.Evidence.TheVariants as block

abbrev declared : List Declaration
declared = object (codes "U") ∷ object (codes "V") ∷ arrow (codes "a") 0 1 false ∷ []

-- CR LF, a CR that is not before LF, and a last line that is not ended
line_ends : lines (codes "a\r\n\rb\n\nc\r") ≡ codes "a" ∷ codes "\rb" ∷ [] ∷ codes "c\r" ∷ []
line_ends = refl

tight : tokens_of (codes "row -1(a [U]')\t2()=;") ≡ codes "row" ∷ codes "-1" ∷ codes "(" ∷ codes "a" ∷ codes "[U]'" ∷ codes ")" ∷ codes "2" ∷ codes "(" ∷ codes ")" ∷ codes "=" ∷ codes ";" ∷ []
tight = refl

-- reading
abbrev read_of : Format → List ℕ → Result (List Evidence) Fault
read_of most text = all_values (certificate_steps most declared) text

abbrev answer : Result (List Evidence) Fault → Type 0
answer found = read_of Plain (codes "certificate 1\nclaim 07\ndenominator 0\n# rows\nrow -3 () 2 ()\nend\nbasis 1\nrest ( x\nend\n") ≡ found

read : answer (Ok (block.Plain (record { claim = 7; denominator = pos 0; rows = record { coef = negsuc 2; left = []; generator = 2; right = [] } ∷ [] }) ∷ []))
unfolding is_utf8 chars encode
read = refl

-- a lemma, of one row over a generator, and a goal over it
with_lemmas : read_of Lemmas (codes "certificate 2\nclaim 1\ndenominator 2\nlemma 1 scale 2\nrow 1 () 3 ()\ngoal scale 1\nrow 2 () lemma 1 ()\nend\n")
    ≡ Ok (block.Lemmas (record {
      claim = 1;
      denominator = pos 2;
      lemmas = record { scale = pos 2; rows = record { coef = pos 1; left = []; from = over.Generator 3; right = [] } ∷ [] } ∷ [];
      goal = record { scale = pos 1; rows = record { coef = pos 2; left = []; from = over.Lemma 1; right = [] } ∷ [] };
    }) ∷ [])
unfolding is_utf8 chars encode
with_lemmas = refl

-- where format 1 alone is read
not_read : read_of Plain (codes "certificate 2\nclaim 1\n") ≡ Err (record { code = 2; line = 1; limit = 0 })
unfolding is_utf8 chars encode
not_read = refl

-- the first lemma has the number 1
not_numbered : read_of Lemmas (codes "certificate 2\nclaim 1\ndenominator 2\nlemma 2 scale 1\n") ≡ Err (record { code = 2; line = 4; limit = 0 })
unfolding is_utf8 chars encode
not_numbered = refl

-- a minus at a denominator, after a comment
bad_line : read_of Plain (codes "#\ncertificate 1\nclaim 1\ndenominator -1\n") ≡ Err (record { code = 2; line = 4; limit = 0 })
unfolding is_utf8 chars encode
bad_line = refl

too_large : read_of Plain (codes "certificate 1\nclaim 4294967296\nend\n") ≡ Err (record { code = 4; line = 2; limit = 0 })
unfolding is_utf8 chars encode
too_large = refl

-- a skipped block that is not ended, and no certificate
not_ended : read_of Plain (codes "model 1\nend 1\n") ≡ Err truncated
unfolding is_utf8 chars encode
not_ended = refl

none : read_of Plain (codes "model 1\nend\n") ≡ Err no_block
unfolding is_utf8 chars encode
none = refl

-- writing
word : word_text declared (0 ∷ 2 ∷ 3 ∷ []) ≡ codes "[U] a a'"
word = refl

poly : poly_text declared ((negsuc 1, 3 ∷ 2 ∷ []) ∷ (pos 1, 0 ∷ []) ∷ (negsuc 0, 1 ∷ []) ∷ []) ≡ codes "- 2 a' a + [U] - [V]"
poly = rw (decimal_digit 2 (omega arith)) refl

zero_poly : poly_text declared [] ≡ codes "0"
zero_poly = refl

written : certificate_text declared (record { claim = 7; denominator = pos 1; rows = record { coef = negsuc 2; left = []; generator = 2; right = 2 ∷ [] } ∷ [] }) ≡ codes "certificate 1\nclaim 7\ndenominator 1\nrow -3 () 2 (a)\nend\n"
written = rw (decimal_digit 7 (omega arith), decimal_digit 1 (omega arith), decimal_digit 3 (omega arith), decimal_digit 2 (omega arith)) refl
