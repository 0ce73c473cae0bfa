-- what a walk without a fault leaves: each row has a value, which passes the parser of its argument
use Rattle.command_shape.proofs.Prelude.{◌≡◌, ◌∙◌, ◌⊎◌, ⊎_elim, ap, sym, subst, refl, ℕ, suc, Bool, true, false, List, [], ◌∷◌, ◌++◌, ◌==◌, arith, Option, Some, None, codes, cond, ◌||◌, ◌&&◌, fold, not, length, if◌then◌else◌, ⊤, find, slice_get, is_some, AllByRecursion, option_map_or, bytes_eq, chars, ne_eqb, unwrap_or_range, parser_of_value, long_of, short_of, Row, Rule, Text, Walk, Held, Step, Waiting, Outcome, idle, option, positional, next, trailing, subcommand, value, done, waits, plain, walked, settled_rows, settled, used_by_id, has_row, arg_by_id, arg_by_index, arg_by_long, has_short, used, reacted, action_of, reading_by, word_met, after_step, to_positional, after_flag, plain_word, long_met, bundle_met, bundle, bundle_step, has_long, most_values, values_or_missing, subcommand_met, is_pending, takes_several, long_or_other, short_or_plain, positional_held, is_multiple, next_position, pushed, takes_values, with_values, without, option_word, Shape, turn_fault, word_fault, step_fault, settle_fault, use_fault, react_fault, walk_fault, long_fault, flags_fault, bundle_fault, bundle_step_fault, values_fault, set_fault, repeat_fault, positional_fault, action_fault, flag_word_fault, stray_fault, Kinds, value_kinds, or_else, range_kinds, Set, SetTrue, AsWritten, CommandLine}
use Rattle.clap.specs.Walk.{refused}
use Rattle.command_shape.proofs.Found.{found}
use Rattle.command_shape.proofs.Steps.{one_more}

-- the row is one of the command's
pub record IsGoodRow (c : List Rule) (r : Row) : Type 0 where
  pub rule : Rule
  pub by_id : arg_by_id c r.id ≡ Some rule
  pub first : Text
  pub rest : List Text
  pub values : r.values ≡ first ∷ rest
  pub passes : value_kinds rule.ignore_case (parser_of_value rule.parser) first ≡ []
  pub reading : r.reading ≡ AsWritten

abbrev pub AreGoodRows : List Rule → List Row → Type 0
AreGoodRows c = AllByRecursion (IsGoodRow c)

-- the argument takes one value, or is a flag, and has no short name
pub record IsPlainRule (c : List Rule) (a : Rule) : Type 0 where
  pub by_id : arg_by_id c a.id ≡ Some a
  pub reading : reading_by a ≡ AsWritten
  pub no_short : (x : ℕ) → has_short a x ≡ false
  pub form : ((action_of a ≡ Set) × (unwrap_or_range a.range ≡ record { start_inclusive = 1; end_inclusive = 1 }))
      ⊎ ((action_of a ≡ SetTrue) × (unwrap_or_range a.range ≡ record { start_inclusive = 0; end_inclusive = 0 }) × (a.missing ≡ codes "true" ∷ []))

abbrev pub ArePlainRules : List Rule → List Rule → Type 0
ArePlainRules c = AllByRecursion (IsPlainRule c)

pub both_none : (a b : Kinds) → or_else a b ≡ [] → (a ≡ []) × (b ≡ [])
both_none [] b e = (refl, e)
both_none (k ∷ ks) b e = absurd cc

good_end : (c : List Rule) (rows : List Row) (r : Row) → AreGoodRows c rows → IsGoodRow c r → AreGoodRows c (rows ++ r ∷ [])
good_end c [] r h g = (g, tt)
good_end c (x ∷ rows) r h g = (h.0, good_end c rows r h.1 g)

not_repeated : (id : Text) (rows : List Row) → repeat_fault false id rows ≡ [] → has_row id rows ≡ false
not_repeated id rows e = go (has_row id rows) refl
  where
    go : (b : Bool) → has_row id rows ≡ b → b ≡ false
    go true same =
        let bad = rw same at e in
        absurd cc
    go false same = refl

no_values : (n : ℕ) → range_kinds 0 0 (suc n) ≡ [] → ⊥
no_values n e =
    let differ : (0 == suc n) ≡ false = ne_eqb 0 (suc n) (λ q. omega arith) in
    let bad = rw differ at e in
    absurd cc

set_good : (c : List Rule) (a : Rule) (v : Text) (vs : List Text) (rows : List Row) → IsPlainRule c a → AreGoodRows c rows → set_fault false a (v ∷ vs) rows ≡ []
    → AreGoodRows c (with_values a.id (reading_by a) CommandLine (v ∷ vs) (without a.id rows))
set_good c a v vs rows p good e =
    let parts = both_none (repeat_fault false a.id rows) (values_fault a (v ∷ vs)) e in
    let first = both_none (value_kinds a.ignore_case (parser_of_value a.parser) v) (values_fault a vs) parts.1 in
    let row : Row = record { id = a.id; values = v ∷ vs; count = None; source = Some CommandLine; reading = reading_by a } in
    let fine : IsGoodRow c row = record { rule = a; by_id = p.by_id; first = v; rest = vs; values = refl; passes = first.0; reading = p.reading } in
    subst (AreGoodRows c) (sym (one_more a.id (reading_by a) (v ∷ vs) rows (not_repeated a.id rows parts.0))) (good_end c rows row good fine)

-- a use without a fault leaves good rows
use_good : (c : List Rule) (a : Rule) (values : List Text) (rows : List Row) → IsPlainRule c a → AreGoodRows c rows → use_fault false a values rows ≡ [] → AreGoodRows c (used a values rows)
use_good c a values rows p good e = ⊎_elim (λ set. as_set set.0 set.1 values e) (λ flag. as_flag flag.0 flag.1 flag.2 values e) p.form
  where
    as_set : action_of a ≡ Set → unwrap_or_range a.range ≡ record { start_inclusive = 1; end_inclusive = 1 } → (vs : List Text)
        → use_fault false a vs rows ≡ [] → AreGoodRows c (used a vs rows)
    as_set set range [] f =
        let bad = rw (set, range) at f in
        absurd cc
    as_set set range (v ∷ vs) f =
        let parts = both_none _ _ (rw (set, range) at f) in
        rw set (set_good c a v vs rows p good parts.1)

    as_flag : action_of a ≡ SetTrue → unwrap_or_range a.range ≡ record { start_inclusive = 0; end_inclusive = 0 } → a.missing ≡ codes "true" ∷ [] → (vs : List Text)
        → use_fault false a vs rows ≡ [] → AreGoodRows c (used a vs rows)
    as_flag flag range missing [] f =
        let parts = both_none _ _ (rw (flag, range, missing) at f) in
        rw (flag, missing) (set_good c a (codes "true") [] rows p good parts.1)
    as_flag flag range missing (v ∷ vs) f =
        let parts = both_none (range_kinds (unwrap_or_range a.range).start_inclusive (most_values a) (suc (length vs)))
        (action_fault (action_of a) false a (values_or_missing a (v ∷ vs)) rows) f in
        let most : most_values a ≡ 0 = ap (λ r. r.end_inclusive) range in
        absurd (no_values (length vs) (rw (range, most) at parts.0))

-- the parts of a step
by_id_good : (c : List Rule) (plain_rules : ArePlainRules c c) (met : Option Rule) (id : Text) → arg_by_id c id ≡ met → (values : List Text) (rows : List Row) → AreGoodRows c rows
    → option_map_or (λ a. use_fault false a values rows) met [] ≡ [] → AreGoodRows c (used_by_id met values rows)
by_id_good c plain_rules None id is values rows good e = good
by_id_good c plain_rules (Some a) id is values rows good e = use_good c a values rows (found (IsPlainRule c) (λ x. bytes_eq x.id id) c a plain_rules is).0 good e

-- what is pending is used
pub settled_good : (c : List Rule) → ArePlainRules c c → (p : Option (Text × List Text)) (h : Held) → h.pending ≡ p → AreGoodRows c h.rows → settle_fault c false h ≡ [] → AreGoodRows c (settled_rows c h.pending h.rows)
settled_good c plain_rules None h is good e = rw is good
settled_good c plain_rules (Some p) h is good e =
    let f = rw is at e in
    rw is (by_id_good c plain_rules (arg_by_id c p.0) p.0 refl p.1 h.rows good f)

reacted_good : (c : List Rule) → ArePlainRules c c → (a : Rule) → IsPlainRule c a → (values : List Text) (h : Held) → AreGoodRows c h.rows → react_fault c false a values h ≡ []
    → AreGoodRows c (reacted c a values h).rows
reacted_good c plain_rules a p values h good e =
    let parts = both_none (settle_fault c false h) (use_fault false a values (settled c h).rows) e in
    use_good c a values (settled c h).rows p (settled_good c plain_rules h.pending h refl good parts.0) parts.1

-- the walk with nothing met yet
abbrev pub walk_at : Held → Waiting → ℕ → Bool → Walk
walk_at h waiting position is_trailing = record { held = h; waiting = waiting; position = position; is_trailing = is_trailing; stopped = None }

pub record IsGoodHeld (c : List Rule) (h : Held) : Type 0 where
  pub rows : AreGoodRows c h.rows
  pub skip : h.skip ≡ 0

abbrev pub IsGoodStep : Step → Type 0
IsGoodStep (subcommand name) = ⊥
IsGoodStep _ = ⊤

plain_good : (c : List Rule) (w : Waiting) (word : Text) (h : Held) → IsGoodHeld c h → IsGoodHeld c (plain_word c w word h).0 × IsGoodStep (plain_word c w word h).1
plain_good c idle word h good = (good, tt)
plain_good c positional word h good = (good, tt)
plain_good c (option id) word h good = go (arg_by_id c id)
  where
    go : (o : Option Rule) → IsGoodHeld c (option_word o id word h).0 × IsGoodStep (next (option_word o id word h).1)
    go None = (good, tt)
    go (Some a) = (record { rows = good.rows; skip = good.skip }, tt)

flagged_good : (c : List Rule) (w : Waiting) (word : Text) (h : Held) (o : Outcome) → IsGoodHeld c h → IsGoodHeld c (after_flag c w word h o).0 × IsGoodStep (after_flag c w word h o).1
flagged_good c w word h done good = (good, tt)
flagged_good c w word h (waits id) good = (good, tt)
flagged_good c w word h plain good = plain_good c w word h good
flagged_good c w word h refused good = plain_good c w word h good

-- `--name` and `--name=value`
long_good : (c : List Rule) → ArePlainRules c c → (name : Text) (o : Option Rule) → arg_by_long c name ≡ o → (v : Option Text) (h : Held) → IsGoodHeld c h → long_fault c false o v h ≡ []
    → IsGoodHeld c (long_met c o v h).0
long_good c p name None is v h good e = absurd cc
long_good c p name (Some a) is v h good e = go (takes_values a) refl v e
  where
    rule : IsPlainRule c a
    rule = (found (IsPlainRule c) (λ x. not (is_some x.index) && has_long x name) c a p is).0

    go : (b : Bool) → takes_values a ≡ b → (v : Option Text) → long_fault c false (Some a) v h ≡ [] → IsGoodHeld c (long_met c (Some a) v h).0
    go true takes (Some x) f =
        rw takes (record { rows = reacted_good c p a rule (x ∷ []) h good.rows (rw takes at f); skip = good.skip })
    go true takes None f =
        rw takes (record { rows = settled_good c p h.pending h refl good.rows (rw takes at f); skip = good.skip })
    go false takes (Some x) f =
        let bad = rw takes at f in
        absurd cc
    go false takes None f =
        rw takes (record { rows = reacted_good c p a rule [] h good.rows (rw takes at f); skip = good.skip })

no_short : (c rules : List Rule) → ArePlainRules c rules → (x : ℕ) → find (λ a. not (is_some a.index) && has_short a x) rules ≡ None
no_short c [] p x = refl
no_short c (a ∷ rules) p x = rw (p.0.no_short x) (go (not (is_some a.index)) (no_short c rules p.1 x))
  where
    go : (b : Bool) → find (λ y. not (is_some y.index) && has_short y x) rules ≡ None → cond (b && false) (Some a) (find (λ y. not (is_some y.index) && has_short y x) rules) ≡ None
    go true e = e
    go false e = e

-- `-abc`: no argument has a short name
bundle_good : (c : List Rule) → ArePlainRules c c → (flags : Text) (h : Held) → IsGoodHeld c h → bundle_fault c false flags h ≡ [] → IsGoodHeld c (bundle c flags h).0
unfolding bundle_met flags_fault
bundle_good c p [] h good e = record { rows = good.rows; skip = refl }
bundle_good c p (f ∷ flags) h good e =
    rw good.skip (go (slice_get (chars (f ∷ flags)) 0) (rw good.skip at e))
  where
    go : (o : Option ℕ) → bundle_step_fault c false o (f ∷ flags) 0 (record h { skip = 0 }) (flags_fault c false (length flags)) ≡ []
        → IsGoodHeld c (bundle_step c o (f ∷ flags) 0 plain (record h { skip = 0 }) (bundle_met c (length flags))).0
    go None e2 = record { rows = good.rows; skip = refl }
    go (Some x) e2 =
        let bad = rw (no_short c c p x) at e2 in
        absurd cc

-- what a word is
other_good : (c : List Rule) → ArePlainRules c c → (w : Waiting) (word : Text) (h : Held) (o : Option (Text × Option Text)) → IsGoodHeld c h → flag_word_fault c false o word h ≡ []
    → IsGoodHeld c (long_or_other c w word o h).0 × IsGoodStep (long_or_other c w word o h).1
other_good c p w word h (Some n) good e =
    flagged_good c w word (long_met c (arg_by_long c n.0) n.1 h).0 (long_met c (arg_by_long c n.0) n.1 h).1 (long_good c p n.0 (arg_by_long c n.0) refl n.1 h good e)
other_good c p w word h None good e = go (short_of word) e
  where
    go : (o : Option Text) → option_map_or (λ flags. bundle_fault c false flags h) o [] ≡ [] → IsGoodHeld c (short_or_plain c w word o h).0 × IsGoodStep (short_or_plain c w word o h).1
    go None f = plain_good c w word h good
    go (Some flags) f = flagged_good c w word (bundle c flags h).0 (bundle c flags h).1 (bundle_good c p flags h good f)

no_command : (w : Waiting) (word : Text) → subcommand_met [] w word ≡ None
no_command idle word = refl
no_command (option id) word = refl
no_command positional word = refl

word_good : (s : Shape) → ArePlainRules s.rules s.rules → s.args_override_self ≡ false → (is_trailing : Bool) (w : Waiting) (position : ℕ) (word : Text) (h : Held) → IsGoodHeld s.rules h
    → word_fault s [] is_trailing w word h ≡ []
    → IsGoodHeld s.rules (word_met s.rules [] is_trailing w position word h).0 × IsGoodStep (word_met s.rules [] is_trailing w position word h).1
word_good s p never true w position word h good e = (good, tt)
word_good s p never false w position word h good e = rw (no_command w word) (go (bytes_eq word (45 ∷ 45 ∷ [])) (rw (no_command w word, never) at e))
  where
    go : (b : Bool) → cond b [] (flag_word_fault s.rules false (long_of word) word h) ≡ []
        → IsGoodHeld s.rules (cond b (h, trailing position) (long_or_other s.rules w word (long_of word) h)).0
        × IsGoodStep (cond b (h, trailing position) (long_or_other s.rules w word (long_of word) h)).1
    go true f = (good, tt)
    go false f = other_good s.rules p w word h (long_of word) good f

-- a walk that isn't at its end, with good rows
pub record GoesOn (c : List Rule) (w : Walk) : Type 0 where
  pub held : Held
  pub waiting : Waiting
  pub position : ℕ
  pub is_trailing : Bool
  pub is : w ≡ walk_at held waiting position is_trailing
  pub good : IsGoodHeld c held

placed_good : (s : Shape) → ArePlainRules s.rules s.rules → s.args_override_self ≡ false → (o : Option Rule) (word : Text) (h : Held) (w : Waiting) (position : ℕ) (is_trailing : Bool) (k : Held) → IsGoodHeld s.rules h
    → option_map_or (λ a. positional_fault s.rules s.args_override_self a h) o (stray_fault s) ≡ []
    → GoesOn s.rules (to_positional s.rules o word (walk_at k w position is_trailing) h)
placed_good s p never None word h w position is_trailing k good e = record { held = h; waiting = w; position = position; is_trailing = is_trailing; is = refl; good = good }
placed_good s p never (Some a) word h w position is_trailing k good e = record {
  held = positional_held s.rules a word h;
  waiting = if is_multiple a then positional else idle;
  position = next_position a position;
  is_trailing = is_trailing || a.trailing_var_arg;
  is = refl;
  good = go (is_pending a h.pending && takes_several a) (rw never at e);
}
  where
    go : (b : Bool) → cond b [] (settle_fault s.rules false h) ≡ [] → IsGoodHeld s.rules (pushed a.id word (cond b h (settled s.rules h)))
    go true f = record { rows = good.rows; skip = good.skip }
    go false f = record { rows = settled_good s.rules p h.pending h refl good.rows f; skip = good.skip }

step_good : (s : Shape) → ArePlainRules s.rules s.rules → s.args_override_self ≡ false → (word : Text) (k : Held) (w : Waiting) (position : ℕ) (is_trailing : Bool) (h : Held) (step : Step) → IsGoodHeld s.rules h → IsGoodStep step
    → step_fault s position h step ≡ [] → GoesOn s.rules (after_step s.rules word (walk_at k w position is_trailing) h step)
step_good s p never word k w position is_trailing h (next waiting) good fine e = record { held = h; waiting = waiting; position = position; is_trailing = is_trailing; is = refl; good = good }
step_good s p never word k w position is_trailing h (trailing q) good fine e = record { held = h; waiting = w; position = q; is_trailing = true; is = refl; good = good }
step_good s p never word k w position is_trailing h (subcommand name) good fine e = absurd fine
step_good s p never word k w position is_trailing h value good fine e = placed_good s p never (arg_by_index s.rules position) word h w position is_trailing k good e

turn_good : (s : Shape) → ArePlainRules s.rules s.rules → s.args_override_self ≡ false → (word : Text) (h : Held) (w : Waiting) (position : ℕ) (is_trailing : Bool) → IsGoodHeld s.rules h
    → turn_fault s [] (walk_at h w position is_trailing) word ≡ [] → GoesOn s.rules (walked s.rules [] (walk_at h w position is_trailing) word)
unfolding walked
turn_good s p never word h w position is_trailing good e =
    let met = word_met s.rules [] is_trailing w position word h in
    let parts = both_none (word_fault s [] is_trailing w word h) (step_fault s position met.0 met.1) e in
    let fine = word_good s p never is_trailing w position word h good parts.0 in
    step_good s p never word h w position is_trailing met.0 met.1 fine.0 fine.1 parts.1

pub walk_good : (s : Shape) → ArePlainRules s.rules s.rules → s.args_override_self ≡ false → (words : List Text) (w : Walk) → GoesOn s.rules w → walk_fault s [] w words ≡ []
    → GoesOn s.rules (fold (walked s.rules []) w words)
unfolding walk_fault
walk_good s p never [] w g e = g
walk_good s p never (word ∷ words) w g e =
    let parts = both_none (turn_fault s [] w word) (walk_fault s [] (walked s.rules [] w word) words) e in
    let here = ap (λ (v : Walk). turn_fault s [] v word) (sym g.is) ∙ parts.0 in
    let on = turn_good s p never word g.held g.waiting g.position g.is_trailing g.good here in
    walk_good s p never words (walked s.rules [] w word) (subst (λ (v : Walk). GoesOn s.rules (walked s.rules [] v word)) (sym g.is) on) parts.1
