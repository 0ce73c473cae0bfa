-- the walk over the options of an accepted list
use Rattle.command_shape.proofs.Prelude.{◌≡◌, ◌≢◌, ◌∙◌, ap, sym, refl, ℕ, Bool, true, false, List, [], ◌∷◌, ◌++◌, Option, Some, None, codes, map, decimal, ◌||◌, fold, flat_map, ⊤, bytes_eq, append-nil, append_assoc, bytes_eq-Decides, Row, Text, Walk, walked, settled_rows, has_row, Shape, filled, turn_fault, settle_fault, walk_fault, Kinds, value_kinds, or_else, number_option, flag_option, Given, number, flag, given_id, given_words, IsNotGiven}
use Rattle.clap.specs.declared.builder.value_parser.ValueParser.TheVariants as parser
use Rattle.command_shape.proofs.Steps.{held, between, opened, IsPlainWord, IsOptionOf, opens, takes_value, opens_well, takes_well, given_row, row_added, settles, settles_well, flags, flags_well}

abbrev pub given_text : Given → Text
given_text (number id n) = decimal n
given_text (flag id) = codes "true"

abbrev pub row_given : Given → Row
row_given g = given_row (given_id g) (given_text g)

-- the command has the option, and takes its value
abbrev pub IsKnown : Shape → Given → Type 0
IsKnown s (number id n) = (low : ℕ) × (high : ℕ) × (default : Text) × IsOptionOf s.rules id (filled (number_option id low high default))
    × (value_kinds false (parser.Unsigned low high) (decimal n) ≡ []) × IsPlainWord (decimal n)
IsKnown s (flag id) = IsOptionOf s.rules id (filled (flag_option id))

abbrev pub AreKnown : Shape → List Row → List Given → Type 0
AreKnown s rows [] = ⊤
AreKnown s rows (g ∷ given) = IsKnown s g × (has_row (given_id g) rows ≡ false) × IsNotGiven (given_id g) given × AreKnown s rows given

-- a walk over these words gives these rows, without a fault
pub record Goes (s : Shape) (w : Walk) (words : List Text) (all : List Row) (k : ℕ) : Type 0 where
  pub rows : List Row
  pub pending : Option (Text × List Text)
  pub walk : fold (walked s.rules []) w words ≡ between rows pending k
  pub well : walk_fault s [] w words ≡ []
  pub settled : settled_rows s.rules pending rows ≡ all
  pub last : settle_fault s.rules s.args_override_self (held rows pending) ≡ []

pub or_nothing : (a b : Kinds) → a ≡ [] → b ≡ [] → or_else a b ≡ []
or_nothing a b e f = rw (e, f) refl

pub has_row_end : (id : Text) (rows : List Row) (r : Row) → has_row id rows ≡ false → bytes_eq r.id id ≡ false → has_row id (rows ++ r ∷ []) ≡ false
has_row_end id [] r e f = rw f refl
has_row_end id (x ∷ rows) r e f = go (bytes_eq x.id id) (has_row_end id rows r) e
  where
    go : (b : Bool) → (has_row id rows ≡ false → bytes_eq r.id id ≡ false → has_row id (rows ++ r ∷ []) ≡ false)
        → (b || has_row id rows) ≡ false → (b || has_row id (rows ++ r ∷ [])) ≡ false
    go true below e = cc
    go false below e = below e f

differ : (a b : Text) → b ≢ a → bytes_eq a b ≡ false
differ a b h = go (bytes_eq a b) refl
  where
    go : (t : Bool) → bytes_eq a b ≡ t → t ≡ false
    go true e = absurd (h (sym ((bytes_eq-Decides a b).0 e)))
    go false e = refl

-- the row of a given option is none of those that come after it
still_known : (s : Shape) (rows : List Row) (g : Given) (r : Row) (given : List Given) → r.id ≡ given_id g → IsNotGiven (given_id g) given → AreKnown s rows given
    → AreKnown s (rows ++ r ∷ []) given
still_known s rows g r [] is other h = tt
still_known s rows g r (x ∷ given) is other h =
    (h.0, has_row_end (given_id x) rows r h.1 (ap (λ t. bytes_eq t (given_id x)) is ∙ differ (given_id g) (given_id x) other.0), h.2, still_known s rows g r given is other.1 h.3)

pub goes : (s : Shape) → s.args_override_self ≡ false → (given : List Given) (all rows : List Row) (p : Option (Text × List Text)) (k : ℕ) → AreKnown s all given
    → settled_rows s.rules p rows ≡ all → settle_fault s.rules s.args_override_self (held rows p) ≡ []
    → Goes s (between rows p k) (flat_map given_words given) (all ++ map row_given given) k
unfolding walk_fault
goes s never [] all rows p k known is well = record { rows = rows; pending = p; walk = refl; well = refl; settled = is ∙ sym (append-nil all); last = well }
goes s never (number id n ∷ given) all rows p k known is well =
    let c = s.rules in
    let v = decimal n in
    let low = known.0.0 in
    let high = known.0.1 in
    let default = known.0.2 in
    let o = known.0.3 in
    let passes = known.0.4 in
    let plain = known.0.5 in
    let now = settled_rows c p rows in
    let none : has_row id now ≡ false = ap (has_row id) is ∙ known.1 in
    let first : walked c [] (between rows p k) (45 ∷ 45 ∷ id) ≡ opened now id k = opens c id low high default o rows p k in
    let second : walked c [] (walked c [] (between rows p k) (45 ∷ 45 ∷ id)) v ≡ between now (Some (id, v ∷ [])) k =
    ap (λ w. walked c [] w v) first ∙ takes_value c id low high default o now k v plain in
    let below = goes s never given (all ++ given_row id v ∷ []) now (Some (id, v ∷ [])) k
    (still_known s all (number id n) (given_row id v) given refl known.2 known.3)
    (settles c id low high default o now v none ∙ ap (λ l. l ++ given_row id v ∷ []) is)
    (ap (λ b. settle_fault c b (held now (Some (id, v ∷ [])))) never ∙ settles_well c id low high default o now v none passes) in
    record {
      rows = below.rows;
      pending = below.pending;
      walk = ap (λ w. fold (walked c []) w (flat_map given_words given)) second ∙ below.walk;
      well = or_nothing _ _ (opens_well s id low high default o rows p k well)
          (or_nothing _ _ (ap (λ w. turn_fault s [] w v) first ∙ takes_well s id low high default o now k v plain)
          (ap (λ w. walk_fault s [] w (flat_map given_words given)) second ∙ below.well));
      settled = below.settled ∙ append_assoc all (given_row id v ∷ []) (map row_given given);
      last = below.last;
    }
goes s never (flag id ∷ given) all rows p k known is well =
    let c = s.rules in
    let o = known.0 in
    let now = settled_rows c p rows in
    let none : has_row id now ≡ false = ap (has_row id) is ∙ known.1 in
    let added = row_added id (codes "true") now none ∙ ap (λ l. l ++ given_row id (codes "true") ∷ []) is in
    let first : walked c [] (between rows p k) (45 ∷ 45 ∷ id) ≡ between (all ++ given_row id (codes "true") ∷ []) None k =
    flags c id o rows p k ∙ ap (λ l. between l None k) added in
    let below = goes s never given (all ++ given_row id (codes "true") ∷ []) (all ++ given_row id (codes "true") ∷ []) None k
    (still_known s all (flag id) (given_row id (codes "true")) given refl known.2 known.3) refl refl in
    record {
      rows = below.rows;
      pending = below.pending;
      walk = ap (λ w. fold (walked c []) w (flat_map given_words given)) first ∙ below.walk;
      well = or_nothing _ _ (flags_well s id o never rows p k well none) (ap (λ w. walk_fault s [] w (flat_map given_words given)) first ∙ below.well);
      settled = below.settled ∙ append_assoc all (given_row id (codes "true") ∷ []) (map row_given given);
      last = below.last;
    }
