-- the walk over one option, from a place between two options
use Rattle.command_shape.proofs.Prelude.{◌≡◌, ◌∙◌, ap, refl, ℕ, Bool, true, false, List, [], ◌∷◌, ◌++◌, Option, Some, None, ◌==◌, codes, cond, ◌||◌, ne_eqb, append-nil, bytes_eq, long_of, short_of, Row, Rule, Text, Walk, Held, idle, option, walked, settled_rows, arg_by_id, arg_by_long, has_row, without, with_values, at_row, more_values, Shape, filled, turn_fault, settle_fault, value_kinds, Reading, AsWritten, CommandLine, number_option, flag_option, IsFileWord}
use Rattle.clap.specs.declared.builder.value_parser.ValueParser.TheVariants as parser

abbrev pub held : List Row → Option (Text × List Text) → Held
held rows p = record { rows = rows; pending = p; skip = 0 }

-- nothing waits for a value
abbrev pub between : List Row → Option (Text × List Text) → ℕ → Walk
between rows p k = record { held = held rows p; waiting = idle; position = k; is_trailing = false; stopped = None }

-- an option waits for its value
abbrev pub opened : List Row → Text → ℕ → Walk
opened rows id k = record { held = held rows (Some (id, [])); waiting = option id; position = k; is_trailing = false; stopped = None }

-- the word is no flag
pub record IsPlainWord (v : Text) : Type 0 where
  pub dashes : bytes_eq v (45 ∷ 45 ∷ []) ≡ false
  pub long : long_of v ≡ None
  pub short : short_of v ≡ None

-- `--id` is the option a
pub record IsOptionOf (c : List Rule) (id : Text) (a : Rule) : Type 0 where
  pub dashes : bytes_eq (45 ∷ 45 ∷ id) (45 ∷ 45 ∷ []) ≡ false
  pub long : long_of (45 ∷ 45 ∷ id) ≡ Some (id, None)
  pub by_long : arg_by_long c id ≡ Some a
  pub by_id : arg_by_id c id ≡ Some a
  pub same : bytes_eq id id ≡ true

pub opens : (c : List Rule) (id : Text) (low high : ℕ) (default : Text) → IsOptionOf c id (filled (number_option id low high default))
    → (rows : List Row) (p : Option (Text × List Text)) (k : ℕ)
    → walked c [] (between rows p k) (45 ∷ 45 ∷ id) ≡ opened (settled_rows c p rows) id k
unfolding walked
opens c id low high default o rows p k = rw (o.dashes, o.long, o.by_long) refl

pub takes_value : (c : List Rule) (id : Text) (low high : ℕ) (default : Text) → IsOptionOf c id (filled (number_option id low high default))
    → (rows : List Row) (k : ℕ) (v : Text) → IsPlainWord v
    → walked c [] (opened rows id k) v ≡ between rows (Some (id, v ∷ [])) k
unfolding walked
takes_value c id low high default o rows k v w = rw (w.dashes, w.long, w.short, o.by_id, o.same) refl

pub opens_well : (s : Shape) (id : Text) (low high : ℕ) (default : Text) → IsOptionOf s.rules id (filled (number_option id low high default))
    → (rows : List Row) (p : Option (Text × List Text)) (k : ℕ) → settle_fault s.rules s.args_override_self (held rows p) ≡ []
    → turn_fault s [] (between rows p k) (45 ∷ 45 ∷ id) ≡ []
opens_well s id low high default o rows p k e = rw (o.dashes, o.long, o.by_long, e) refl

pub takes_well : (s : Shape) (id : Text) (low high : ℕ) (default : Text) → IsOptionOf s.rules id (filled (number_option id low high default))
    → (rows : List Row) (k : ℕ) (v : Text) → IsPlainWord v → turn_fault s [] (opened rows id k) v ≡ []
takes_well s id low high default o rows k v w = rw (w.dashes, w.long, w.short) refl

-- what a word of the command line leaves
abbrev pub given_row : Text → Text → Row
given_row id v = record { id = id; values = v ∷ []; count = None; source = Some CommandLine; reading = AsWritten }

pub no_such_row : (id : Text) (change : Row → List Row) (missing rows : List Row) → has_row id rows ≡ false → at_row id change missing rows ≡ rows ++ missing
no_such_row id change missing [] e = refl
no_such_row id change missing (r ∷ rs) e = go (bytes_eq r.id id) (no_such_row id change missing rs) e
  where
    go : (b : Bool) → (has_row id rs ≡ false → at_row id change missing rs ≡ rs ++ missing) → (b || has_row id rs) ≡ false
        → cond b (change r ++ rs) (r ∷ at_row id change missing rs) ≡ r ∷ (rs ++ missing)
    go true below f = cc
    go false below f = ap (λ xs. r ∷ xs) (below f)

-- the row of an argument that had none
pub one_more : (id : Text) (how : Reading) (vs : List Text) (rows : List Row) → has_row id rows ≡ false
    → with_values id how CommandLine vs (without id rows) ≡ rows ++ record { id = id; values = vs; count = None; source = Some CommandLine; reading = how } ∷ []
one_more id how vs rows e =
    ap (with_values id how CommandLine vs) (no_such_row id (λ _. []) [] rows e ∙ append-nil rows)
    ∙ no_such_row id (more_values CommandLine vs) (record { id = id; values = vs; count = None; source = Some CommandLine; reading = how } ∷ []) rows e

pub row_added : (id v : Text) (rows : List Row) → has_row id rows ≡ false
    → with_values id AsWritten CommandLine (v ∷ []) (without id rows) ≡ rows ++ given_row id v ∷ []
row_added id v rows e = one_more id AsWritten (v ∷ []) rows e

pub settles : (c : List Rule) (id : Text) (low high : ℕ) (default : Text) → IsOptionOf c id (filled (number_option id low high default))
    → (rows : List Row) (v : Text) → has_row id rows ≡ false → settled_rows c (Some (id, v ∷ [])) rows ≡ rows ++ given_row id v ∷ []
settles c id low high default o rows v none = rw (o.by_id) (row_added id v rows none)

pub settles_well : (c : List Rule) (id : Text) (low high : ℕ) (default : Text) → IsOptionOf c id (filled (number_option id low high default))
    → (rows : List Row) (v : Text) → has_row id rows ≡ false → value_kinds false (parser.Unsigned low high) v ≡ []
    → settle_fault c false (held rows (Some (id, v ∷ []))) ≡ []
settles_well c id low high default o rows v none passes = rw (o.by_id, none, passes) refl

-- a flag
pub flags : (c : List Rule) (id : Text) → IsOptionOf c id (filled (flag_option id))
    → (rows : List Row) (p : Option (Text × List Text)) (k : ℕ)
    → walked c [] (between rows p k) (45 ∷ 45 ∷ id)
    ≡ between (with_values id AsWritten CommandLine (codes "true" ∷ []) (without id (settled_rows c p rows))) None k
unfolding walked
flags c id o rows p k = rw (o.dashes, o.long, o.by_long) refl

pub flags_well : (s : Shape) (id : Text) → IsOptionOf s.rules id (filled (flag_option id)) → s.args_override_self ≡ false
    → (rows : List Row) (p : Option (Text × List Text)) (k : ℕ) → settle_fault s.rules s.args_override_self (held rows p) ≡ []
    → has_row id (settled_rows s.rules p rows) ≡ false
    → turn_fault s [] (between rows p k) (45 ∷ 45 ∷ id) ≡ []
flags_well s id o never rows p k e none = rw (o.dashes, o.long, o.by_long, e, none) refl

-- a word that doesn't begin with `-`
pub plain_word : (v : Text) → IsFileWord v → IsPlainWord v
plain_word [] h = absurd h
plain_word (x ∷ xs) h =
    let not_dash : (x == 45) ≡ false = ne_eqb x 45 h in
    record { dashes = rw not_dash refl; long = rw not_dash refl; short = rw not_dash refl }
