-- Worked texts, over the objects U and V and maps a : U -> V and b : V -> U.
use lib.Utf8.{encode}
use Rattle.model_text.proofs.Prelude.{◌≡◌, false, List, [], ◌∷◌, ℕ, Some, None, Result, Ok, Err, arith, refl, codes, decimal_digit, is_utf8, chars, Declaration, object, arrow, Model, Fault, truncated, no_block, tokens_of, side, matrix, entry_line, all_values, model_steps, model_text}

abbrev declared : List Declaration
declared = object (codes "U") ∷ object (codes "V") ∷ arrow (codes "a") 0 1 false ∷ arrow (codes "b") 1 0 false ∷ []

-- lines
of_a_map : tokens_of (codes "map a=1 0;\t0 07") ≡ entry_line (matrix (codes "a") (codes "1" ∷ codes "0" ∷ []) ((codes "0" ∷ codes "07" ∷ []) ∷ []))
of_a_map = refl

of_a_side : tokens_of (codes " side U 2") ≡ entry_line (side (codes "U") (codes "2"))
of_a_side = refl

-- reading
abbrev read_of : List ℕ → Result (List Model) Fault
read_of text = all_values (model_steps declared) text

-- without lines each side is 1, and no letter has a matrix; blocks of other kinds are skipped
read : read_of (codes "certificate 1\nmodel 1\nend\n# models\nmodel 1\n\nclaim 07\nmodulus 5\nend\n")
    ≡ Ok (record { claim = 7; modulus = 5; sides = 1 ∷ 1 ∷ []; maps = None ∷ None ∷ None ∷ None ∷ None ∷ None ∷ [] } ∷ [])
unfolding is_utf8 chars encode
read = refl

small_modulus : read_of (codes "model 1\nclaim 1\nmodulus 1\n") ≡ Err (record { code = 2; line = 3; limit = 0 })
unfolding is_utf8 chars encode
small_modulus = refl

large_modulus : read_of (codes "model 1\nclaim 1\nmodulus 2147483648\n") ≡ Err (record { code = 4; line = 3; limit = 0 })
unfolding is_utf8 chars encode
large_modulus = refl

no_side : read_of (codes "model 1\nclaim 1\nmodulus 2\nside U\n") ≡ Err (record { code = 2; line = 4; limit = 0 })
unfolding is_utf8 chars encode
no_side = refl

cut_off : read_of (codes "basis 1\nend 1\n") ≡ Err truncated
unfolding is_utf8 chars encode
cut_off = refl

without_models : read_of (codes "basis 1\nend\n") ≡ Err no_block
unfolding is_utf8 chars encode
without_models = refl

-- writing
abbrev written : Model
written = record {
  claim = 1;
  modulus = 2;
  sides = 2 ∷ 1 ∷ [];
  maps =
      None ∷ None ∷ Some (record { modulus = 2; rows = 1; columns = 2; entries = 1 ∷ 0 ∷ [] }) ∷ None
      ∷ Some (record { modulus = 2; rows = 2; columns = 1; entries = 1 ∷ 0 ∷ [] }) ∷ None ∷ [];
}

in_full : model_text declared written ≡ codes "model 1\nclaim 1\nmodulus 2\nside U 2\nside V 1\nmap a = 1 0\nmap b = 1 ; 0\nend\n"
in_full = rw (decimal_digit 0 (omega arith), decimal_digit 1 (omega arith), decimal_digit 2 (omega arith)) refl
