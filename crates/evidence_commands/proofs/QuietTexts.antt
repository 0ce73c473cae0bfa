-- Texts none of whose lines begins with #, and the lines that begin with # of texts that begin so.
use Rattle.evidence_commands.proofs.Prelude.{◌≡◌, ◌⊎◌, inl, inr, ℕ, Bool, true, false, not, ◌&&◌, ◌==◌, List, [], ◌∷◌, ◌++◌, refl, sym, subst, flat_map, list_all, and_parts, eq-eqb}

-- whether the text lacks the byte
abbrev pub lacks : ℕ → List ℕ → Bool
lacks stop text = list_all (λ c. not (c == stop)) text

is_other : (b : Bool) → not b ≡ true → b ≡ false
is_other true known = absurd (cc)
is_other false known = refl

pub is_itself : (c : ℕ) → not (c == c) ≡ true → ⊥
is_itself c known = let same : (c == c) ≡ true = eq-eqb c c refl in absurd (let wrong : not true ≡ true = subst (λ (b : Bool). not b ≡ true) same known in cc)

-- what is before the first such byte, and what is after it
pub cut : (stop : ℕ) (xs ys rest after : List ℕ) → lacks stop xs ≡ true → lacks stop ys ≡ true → xs ++ stop ∷ rest ≡ ys ++ stop ∷ after → (xs ≡ ys) × (rest ≡ after)
cut stop [] [] rest after left right same = (refl, tail same)
  where
    tail : ◌≡◌ {A = List ℕ} (stop ∷ rest) (stop ∷ after) → rest ≡ after
    tail e = cc
cut stop [] (y ∷ ys) rest after left right same =
    let first : stop ≡ y = cc in
    let parts : (not (y == stop) ≡ true) × (lacks stop ys ≡ true) = and_parts _ _ right in
    absurd (is_itself y (subst (λ (c : ℕ). not (y == c) ≡ true) first parts.0))
cut stop (x ∷ xs) [] rest after left right same =
    let first : stop ≡ x = cc in
    let parts : (not (x == stop) ≡ true) × (lacks stop xs ≡ true) = and_parts _ _ left in
    absurd (is_itself x (subst (λ (c : ℕ). not (x == c) ≡ true) first parts.0))
cut stop (x ∷ xs) (y ∷ ys) rest after left right same =
    let first : x ≡ y = cc in
    let tails : xs ++ stop ∷ rest ≡ ys ++ stop ∷ after = cc in
    let both = cut stop xs ys rest after (and_parts (not (x == stop)) (lacks stop xs) left).1 (and_parts (not (y == stop)) (lacks stop ys) right).1 tails in
    ((λ i. first i ∷ both.0 i), both.1)

-- whether no line begins with #, where the text begins a line or continues one
abbrev pub is_quiet : Bool → List ℕ → Bool
is_quiet start [] = true
is_quiet start (c ∷ cs) = not (start && (c == 35)) && is_quiet (c == 10) cs

-- whether a line begins after the text
abbrev pub ends_line : Bool → List ℕ → Bool
ends_line start [] = start
ends_line start (c ∷ cs) = ends_line (c == 10) cs

pub record IsQuiet (start end : Bool) (text : List ℕ) : Type 0 where
  pub quiet : is_quiet start text ≡ true
  pub ends : ends_line start text ≡ end

pub quiet-append : (start middle end : Bool) (xs ys : List ℕ) → IsQuiet start middle xs → IsQuiet middle end ys → IsQuiet start end (xs ++ ys)
quiet-append start middle end [] ys left right = subst (λ (b : Bool). IsQuiet b end ys) (sym left.ends) right
quiet-append start middle end (x ∷ xs) ys left right =
    let parts : (not (start && (x == 35)) ≡ true) × (is_quiet (x == 10) xs ≡ true) = and_parts _ _ left.quiet in
    let rest = quiet-append (x == 10) middle end xs ys (record { quiet = parts.1; ends = left.ends }) right in
    record { quiet = rw (parts.0, rest.quiet) refl; ends = rest.ends }

-- a text without line ends, in a line
pub inside_is_quiet : (text : List ℕ) → lacks 10 text ≡ true → IsQuiet false false text
inside_is_quiet [] lacking = record { quiet = refl; ends = refl }
inside_is_quiet (c ∷ cs) lacking =
    let parts : (not (c == 10) ≡ true) × (lacks 10 cs ≡ true) = and_parts _ _ lacking in
    let other : (c == 10) ≡ false = is_other (c == 10) parts.0 in
    let rest = inside_is_quiet cs parts.1 in
    record { quiet = rw other rest.quiet; ends = rw other rest.ends }

-- lines of each of some
pub quiet-flat_map : {X : Type 0} (text_of : X → List ℕ) → ((x : X) → IsQuiet true true (text_of x)) → (xs : List X) → IsQuiet true true (flat_map text_of xs)
quiet-flat_map text_of each [] = record { quiet = refl; ends = refl }
quiet-flat_map text_of each (x ∷ xs) = quiet-append true true true (text_of x) (flat_map text_of xs) (each x) (quiet-flat_map text_of each xs)

-- The text has this line, where it begins a line or continues one.
pub record LineAt (start : Bool) (text line after : List ℕ) : Type 0 where
  pub before : List ℕ
  pub begins : ends_line start before ≡ true
  pub splits : text ≡ before ++ line ++ 10 ∷ after

-- it begins after the first byte
later : (start : Bool) (x : ℕ) (xs line after : List ℕ) (c : ℕ) (before : List ℕ) → ends_line start (c ∷ before) ≡ true → x ∷ xs ≡ (c ∷ before) ++ line ++ 10 ∷ after → LineAt (x == 10) xs line after
later start x xs line after c before begins splits =
    let first : c ≡ x = cc in
    record { before = before; begins = subst (λ (d : ℕ). ends_line (d == 10) before ≡ true) first begins; splits = cc }

-- a line that begins with # doesn't begin in a quiet text
none_here : (start : Bool) (x : ℕ) → not (start && (x == 35)) ≡ true → start ≡ true → x ≡ 35 → ⊥
none_here start x known starts is =
    let here : not (true && (35 == 35)) ≡ true = subst (λ (b : Bool). not (b && (35 == 35)) ≡ true) starts (subst (λ (c : ℕ). not (start && (c == 35)) ≡ true) is known) in absurd (cc)

past_quiet_by : (start : Bool) (xs ys line after before : List ℕ) → is_quiet start xs ≡ true → ends_line start before ≡ true → xs ++ ys ≡ before ++ (35 ∷ line) ++ 10 ∷ after
    → LineAt (ends_line start xs) ys (35 ∷ line) after
past_quiet_by start [] ys line after before quiet begins splits = record { before = before; begins = begins; splits = splits }
past_quiet_by start (x ∷ xs) ys line after [] quiet begins splits =
    let first : x ≡ 35 = cc in
    absurd (none_here start x (and_parts (not (start && (x == 35))) (is_quiet (x == 10) xs) quiet).0 begins first)
past_quiet_by start (x ∷ xs) ys line after (c ∷ before) quiet begins splits =
    let at = later start x (xs ++ ys) (35 ∷ line) after c before begins splits in
    past_quiet_by (x == 10) xs ys line after at.before (and_parts (not (start && (x == 35))) (is_quiet (x == 10) xs) quiet).1 at.begins at.splits

pub past_quiet : (start : Bool) (xs ys line after : List ℕ) → is_quiet start xs ≡ true → LineAt start (xs ++ ys) (35 ∷ line) after → LineAt (ends_line start xs) ys (35 ∷ line) after
past_quiet start xs ys line after quiet at = past_quiet_by start xs ys line after at.before quiet at.begins at.splits

-- a line doesn't begin inside another
inside : (xs rest line after before : List ℕ) → lacks 10 xs ≡ true → ends_line false before ≡ true → xs ++ 10 ∷ rest ≡ before ++ line ++ 10 ∷ after → LineAt true rest line after
inside [] rest line after [] lacking begins splits = absurd (cc)
inside [] rest line after (c ∷ before) lacking begins splits = later false 10 rest line after c before begins splits
inside (x ∷ xs) rest line after [] lacking begins splits = absurd (cc)
inside (x ∷ xs) rest line after (c ∷ before) lacking begins splits =
    let parts : (not (x == 10) ≡ true) × (lacks 10 xs ≡ true) = and_parts _ _ lacking in
    let at = subst (λ (b : Bool). LineAt b (xs ++ 10 ∷ rest) line after) (is_other (x == 10) parts.0) (later false x (xs ++ 10 ∷ rest) line after c before begins splits) in
    inside xs rest line after at.before parts.1 at.begins at.splits

-- it is the first one, or one of those after it
pub first_or_later : (xs rest line after : List ℕ) → lacks 10 xs ≡ true → lacks 10 line ≡ true → LineAt true (xs ++ 10 ∷ rest) line after
    → ((line ≡ xs) × (after ≡ rest)) ⊎ LineAt true rest line after
first_or_later xs rest line after lacking inner at = by at.before at.begins at.splits
  where
    step : (xs : List ℕ) → lacks 10 xs ≡ true → (c : ℕ) (before : List ℕ) → ends_line true (c ∷ before) ≡ true → xs ++ 10 ∷ rest ≡ (c ∷ before) ++ line ++ 10 ∷ after → LineAt true rest line after
    step [] lacking c before begins splits = later true 10 rest line after c before begins splits
    step (x ∷ xs) lacking c before begins splits =
        let parts : (not (x == 10) ≡ true) × (lacks 10 xs ≡ true) = and_parts _ _ lacking in
        let at = subst (λ (b : Bool). LineAt b (xs ++ 10 ∷ rest) line after) (is_other (x == 10) parts.0) (later true x (xs ++ 10 ∷ rest) line after c before begins splits) in
        inside xs rest line after at.before parts.1 at.begins at.splits

    by : (before : List ℕ) → ends_line true before ≡ true → xs ++ 10 ∷ rest ≡ before ++ line ++ 10 ∷ after → ((line ≡ xs) × (after ≡ rest)) ⊎ LineAt true rest line after
    by [] begins splits = let both = cut 10 xs line rest after lacking inner splits in inl (sym both.0, sym both.1)
    by (c ∷ before) begins splits = inr (step xs lacking c before begins splits)

-- no text has a line without an end
pub no_line : (start : Bool) (line after : List ℕ) → LineAt start [] line after → ⊥
no_line start line after at = by at.before at.splits
  where
    none : (line : List ℕ) → ◌≡◌ {A = List ℕ} [] (line ++ 10 ∷ after) → ⊥
    none [] same = absurd (cc)
    none (c ∷ line) same = absurd (cc)

    by : (before : List ℕ) → ◌≡◌ {A = List ℕ} [] (before ++ line ++ 10 ∷ after) → ⊥
    by [] same = none line same
    by (c ∷ before) same = absurd (cc)
