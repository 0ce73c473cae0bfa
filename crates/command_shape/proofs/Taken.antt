-- The words of a command, and its numbers, which are in range.
use Rattle.command_shape.proofs.Prelude.{◌≡◌, ◌∙◌, ◌⊎◌, ⊎_elim, inl, inr, ap, sym, subst, refl, ℕ, Bool, true, false, List, [], ◌∷◌, Option, Some, None, codes, not, ◌||◌, ◌&&◌, fold, slice_get, option_and_then, AllByRecursion, list_any, bytes_eq, bytes_eq-Decides, parser_of_value, unwrap_or_range, Accepts, accepts, accepts-Accepts, is_given, Row, Rule, Text, Walk, Held, with_default, rows_after, nothing_held, walk_from, settled, arg_by_id, one_of, idle, row_text, reading_by, action_of, has_short, whole_walk, Shape, filled, check_fault, level_fault, settle_fault, walk_fault, defaults_fault, value_kinds, check_kinds, ArgAction, Set, SetTrue, ValueRange, ValueParser, Reading, AsWritten, worker_limit, pair_limit, step_limit, seed_limit, format_limit, size_limit, default_pairs_word, default_steps_word, default_workers_word, default_seed_word, default_format_word, prove_command, refute_command, bench_command, pair_command, number_option, flag_option, HasText, HasNumber, HasFlag, HasProve, HasRefute, HasBench, HasPair}
use Rattle.clap.specs.declared.builder.value_parser.ValueParser.TheVariants as parser
use Rattle.command_shape.proofs.Found.{found}
use Rattle.command_shape.proofs.Ends.{place, row_at, row_kept, row_defaulted, default_list}
use Rattle.command_shape.proofs.Gives.{not_there}
use Rattle.command_shape.proofs.Top.{leaf}
use Rattle.command_shape.proofs.Rows.{IsGoodRow, AreGoodRows, IsPlainRule, ArePlainRules, GoesOn, both_none, walk_good, settled_good}

-- plain rules
abbrev manner : List Rule → Rule → Option Rule × Reading × Option ℕ × List ℕ × ArgAction × ValueRange
manner c a = (arg_by_id c a.id, reading_by a, a.short, a.short_aliases, action_of a, unwrap_or_range a.range)

shortless : (a : Rule) → a.short ≡ None → a.short_aliases ≡ [] → (x : ℕ) → has_short a x ≡ false
shortless a e f x = rw (e, f) refl

takes_one : {c : List Rule} {a : Rule} → manner c a ≡ (Some a, AsWritten, None, [], Set, record { start_inclusive = 1; end_inclusive = 1 }) → IsPlainRule c a
takes_one {c} {a} e = record {
  by_id = ap (λ t. t.0) e;
  reading = ap (λ t. t.1) e;
  no_short = shortless a (ap (λ t. t.2) e) (ap (λ t. t.3) e);
  form = inl (ap (λ t. t.4) e, ap (λ t. t.5) e);
}

takes_none : {c : List Rule} {a : Rule} → manner c a ≡ (Some a, AsWritten, None, [], SetTrue, record { start_inclusive = 0; end_inclusive = 0 })
    → a.missing ≡ codes "true" ∷ [] → IsPlainRule c a
takes_none {c} {a} e missing = record {
  by_id = ap (λ t. t.0) e;
  reading = ap (λ t. t.1) e;
  no_short = shortless a (ap (λ t. t.2) e) (ap (λ t. t.3) e);
  form = inr (ap (λ t. t.4) e, ap (λ t. t.5) e, missing);
}

-- the rows of a level without a fault
pub record GoodLevel (s : Shape) (words : List Text) : Type 0 where
  pub base : List Row
  pub good : AreGoodRows s.rules base
  pub is : rows_after s.rules [] words ≡ fold with_default base s.rules
  pub check : check_fault s (rows_after s.rules [] words) false ≡ []

good_level : (s : Shape) → ArePlainRules s.rules s.rules → s.args_override_self ≡ false → (words : List Text) → level_fault s [] nothing_held words false [] ≡ [] → GoodLevel s words
good_level s p never words e =
    let end : Held = (whole_walk s.rules [] nothing_held words).held in
    let a = both_none (walk_fault s [] (walk_from nothing_held) words) _ e in
    let b = both_none (settle_fault s.rules s.args_override_self end) _ a.1 in
    let c = both_none (defaults_fault (settled s.rules end).rows s.rules) _ b.1 in
    let start : GoesOn s.rules (walk_from nothing_held) = record { held = nothing_held; waiting = idle; position = 1; is_trailing = false; is = refl; good = record { rows = tt; skip = refl } } in
    let g = walk_good s p never words (walk_from nothing_held) start a.0 in
    let held_is : end ≡ g.held = ap (λ (w : Walk). w.held) g.is in
    let rows : AreGoodRows s.rules end.rows = subst (λ (h : Held). AreGoodRows s.rules h.rows) (sym held_is) g.good.rows in
    record {
      base = (settled s.rules end).rows;
      good = settled_good s.rules p end.pending end refl rows (ap (λ x. settle_fault s.rules x end) (sym never) ∙ b.0);
      is = refl;
      check = c.1;
    }

-- what is required
nothing_missing : (help command negates missing : Bool) → check_kinds help command (not (negates && false) && missing) ≡ [] → missing ≡ false
nothing_missing true command negates missing e = absurd cc
nothing_missing false true negates missing e = absurd cc
nothing_missing false false negates false e = refl
nothing_missing false false true true e = absurd cc
nothing_missing false false false true e = absurd cc

none_wanting : (needed given more : Bool) → (needed && not given || more) ≡ false → (needed ≡ true → given ≡ true) × (more ≡ false)
none_wanting true true more e = ((λ _. refl), e)
none_wanting true false more e = absurd cc
none_wanting false given more e = ((λ no. absurd cc), e)

-- the argument is given where it has to be
abbrev IsMet : List Row → Rule → Type 0
IsMet rows a = a.required ≡ true → is_given a.id rows ≡ true

none_needed : (rules : List Rule) (rows : List Row) → list_any (λ a. a.required && not (is_given a.id rows)) rules ≡ false → AllByRecursion (IsMet rows) rules
none_needed [] rows e = tt
none_needed (a ∷ rules) rows e =
    let here = none_wanting a.required (is_given a.id rows) _ e in
    (here.0, none_needed rules rows here.1)

all_given : (s : Shape) (rows : List Row) → check_fault s rows false ≡ [] → AllByRecursion (IsMet rows) s.rules
all_given s rows e = none_needed s.rules rows (nothing_missing _ _ _ _ e)

-- what is read
accepted_value : (q : ValueParser) (v : Text) → value_kinds false q v ≡ [] → Accepts false q v
accepted_value q v e = go (accepts false q v) refl
  where
    go : (b : Bool) → accepts false q v ≡ b → Accepts false q v
    go true is = accepts-Accepts false q v is
    go false is =
        let bad = rw is at e in
        absurd cc

one_read : (r : Row) (v : Text) (vs : List Text) → r.values ≡ v ∷ vs → r.reading ≡ AsWritten → row_text r ≡ Some v
one_read r v vs e f = rw (e, f) refl

-- what the matches of a level without a fault read by a name
module _ {s : Shape} {words : List Text} (g : GoodLevel s words) (id : Text) where
  from_line : (r : Row) → row_at id g.base ≡ Some r → row_at id (rows_after s.rules [] words) ≡ Some r
  from_line r e = ap (row_at id) g.is ∙ row_kept s.rules id r g.base e

  by_default : row_at id g.base ≡ None → row_at id (rows_after s.rules [] words) ≡ row_at id (default_list s.rules)
  by_default e = ap (row_at id) g.is ∙ row_defaulted s.rules id g.base (not_there id g.base e)

  -- a word of the command line passes the parser of its argument
  passing : (a : Rule) → arg_by_id s.rules id ≡ Some a → a.ignore_case ≡ false → (r : Row) → row_at id g.base ≡ Some r
      → (v : Text) × (one_of id (rows_after s.rules [] words) ≡ Some v) × Accepts false (parser_of_value a.parser) v
  passing a by_id exact r e =
      let row = found (IsGoodRow s.rules) (λ x. bytes_eq x.id id) g.base r g.good e in
      let same : r.id ≡ id = (bytes_eq-Decides r.id id).0 row.1 in
      let rule : Some row.0.rule ≡ Some a = sym row.0.by_id ∙ ap (arg_by_id s.rules) same ∙ by_id in
      let is : row.0.rule ≡ a = cc in
      let passes = subst (λ (x : Rule). value_kinds x.ignore_case (parser_of_value x.parser) row.0.first ≡ []) is row.0.passes in (
        row.0.first,
        ap (option_and_then row_text) (from_line r e) ∙ one_read r row.0.first row.0.rest row.0.values row.0.reading,
        accepted_value (parser_of_value a.parser) row.0.first (ap (λ b. value_kinds b (parser_of_value a.parser) row.0.first) (sym exact) ∙ passes),
      )

  -- a word that has to be given has a row
  required_row : (k : ℕ) (q : ValueParser) → arg_by_id s.rules id ≡ Some (place id k q) → row_at id (default_list s.rules) ≡ None
      → (r : Row) × (row_at id g.base ≡ Some r)
  required_row k q by_id none = go (row_at id g.base) refl
    where
      go : (o : Option Row) → row_at id g.base ≡ o → (r : Row) × (row_at id g.base ≡ Some r)
      go (Some r) e = (r, e)
      go None e =
          let rows = rows_after s.rules [] words in
          let met = found (IsMet rows) (λ a. bytes_eq a.id id) s.rules (place id k q) (all_given s rows g.check) by_id in
          let given : is_given id (rows_after s.rules [] words) ≡ true = met.0 refl in
          let bad = rw (by_default e, none) at given in
          absurd cc

  text_read : (k : ℕ) (q : ValueParser) → arg_by_id s.rules id ≡ Some (place id k q) → row_at id (default_list s.rules) ≡ None → HasText id (rows_after s.rules [] words)
  text_read k q by_id none =
      let row = required_row k q by_id none in
      let good = (found (IsGoodRow s.rules) (λ x. bytes_eq x.id id) g.base row.0 g.good row.1).0 in
      (good.first, ap (option_and_then (λ (x : Row). slice_get x.values 0)) (from_line row.0 row.1) ∙ ap (λ l. slice_get l 0) good.values)

  value_read : (k low high : ℕ) → arg_by_id s.rules id ≡ Some (place id k (parser.Unsigned low high)) → row_at id (default_list s.rules) ≡ None
      → HasNumber id low high (rows_after s.rules [] words)
  value_read k low high by_id none =
      let row = required_row k (parser.Unsigned low high) by_id none in
      passing (place id k (parser.Unsigned low high)) by_id refl row.0 row.1

  number_read : (low high : ℕ) (default : Text) → arg_by_id s.rules id ≡ Some (filled (number_option id low high default))
      → one_of id (default_list s.rules) ≡ Some default → accepts false (parser.Unsigned low high) default ≡ true → HasNumber id low high (rows_after s.rules [] words)
  number_read low high default by_id is fits = go (row_at id g.base) refl
    where
      go : (o : Option Row) → row_at id g.base ≡ o → HasNumber id low high (rows_after s.rules [] words)
      go None e = (default, ap (option_and_then row_text) (by_default e) ∙ is, accepts-Accepts false (parser.Unsigned low high) default fits)
      go (Some r) e = passing (filled (number_option id low high default)) by_id refl r e

  flag_read : arg_by_id s.rules id ≡ Some (filled (flag_option id)) → one_of id (default_list s.rules) ≡ Some (codes "false") → HasFlag id (rows_after s.rules [] words)
  flag_read by_id is = go (row_at id g.base) refl
    where
      either : (t : Text) (x y : Bool) → bytes_eq t (codes "true") ≡ x → bytes_eq t (codes "false") ≡ y → (x || y) ≡ true → (t ≡ codes "true") ⊎ (t ≡ codes "false")
      either t true y e f h = inl ((bytes_eq-Decides t (codes "true")).0 e)
      either t false true e f h = inr ((bytes_eq-Decides t (codes "false")).0 f)
      either t false false e f h = absurd cc

      go : (o : Option Row) → row_at id g.base ≡ o → HasFlag id (rows_after s.rules [] words)
      go None e = inr (ap (option_and_then row_text) (by_default e) ∙ is)
      go (Some r) e =
          let v = passing (filled (flag_option id)) by_id refl r e in
          ⊎_elim (λ yes. inl (v.1 ∙ ap Some yes)) (λ no. inr (v.1 ∙ ap Some no))
          (either v.0 (bytes_eq v.0 (codes "true")) (bytes_eq v.0 (codes "false")) refl refl v.2)

-- what the words of a command without a fault have
pub prove_has : (words : List Text) → level_fault (leaf prove_command) [] nothing_held words false [] ≡ [] → HasProve (rows_after (leaf prove_command).rules [] words)
prove_has words e =
    let plain : ArePlainRules (leaf prove_command).rules (leaf prove_command).rules =
    (takes_one refl, (takes_one refl, (takes_one refl, (takes_one refl, (takes_one refl, (takes_one refl, (takes_none refl refl, tt))))))) in
    let g = good_level (leaf prove_command) plain refl words e in
    record {
      file = text_read g (codes "file") 1 parser.String refl refl;
      pairs = number_read g (codes "pairs") 1 pair_limit default_pairs_word refl refl refl;
      steps = number_read g (codes "steps") 1 step_limit default_steps_word refl refl refl;
      workers = number_read g (codes "workers") 1 worker_limit default_workers_word refl refl refl;
      seed = number_read g (codes "seed") 0 seed_limit default_seed_word refl refl refl;
      format = number_read g (codes "format") 1 format_limit default_format_word refl refl refl;
      models = flag_read g (codes "no-models") refl refl;
    }

pub refute_has : (words : List Text) → level_fault (leaf refute_command) [] nothing_held words false [] ≡ [] → HasRefute (rows_after (leaf refute_command).rules [] words)
refute_has words e =
    let g = good_level (leaf refute_command) (takes_one refl, (takes_one refl, (takes_one refl, tt))) refl words e in
    record {
      file = text_read g (codes "file") 1 parser.String refl refl;
      workers = number_read g (codes "workers") 1 worker_limit default_workers_word refl refl refl;
      seed = number_read g (codes "seed") 0 seed_limit default_seed_word refl refl refl;
    }

pub bench_has : (words : List Text) → level_fault (leaf bench_command) [] nothing_held words false [] ≡ [] → HasBench (rows_after (leaf bench_command).rules [] words)
bench_has words e =
    let g = good_level (leaf bench_command) (takes_one refl, (takes_one refl, tt)) refl words e in
    record { size = value_read g (codes "size") 1 1 size_limit refl refl; workers = number_read g (codes "workers") 1 worker_limit default_workers_word refl refl refl }

pub pair_has : (name : Text) (words : List Text) → level_fault (leaf (pair_command name)) [] nothing_held words false [] ≡ [] → HasPair (rows_after (leaf (pair_command name)).rules [] words)
pair_has name words e =
    let g = good_level (leaf (pair_command name)) (takes_one refl, (takes_one refl, tt)) refl words e in
    record { statement = text_read g (codes "statement") 1 parser.String refl refl; evidence = text_read g (codes "evidence") 2 parser.String refl refl }
