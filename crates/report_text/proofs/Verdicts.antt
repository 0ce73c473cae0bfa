-- Verdicts are written one after another.
use Rattle.report_text.proofs.Prelude.{◌≡◌, ◌<◌, ◌+◌, ℕ, suc, List, [], ◌∷◌, ◌++◌, arith, refl, ap, sym, ◌∙◌, length, take, get_or, append-nil, append_assoc, take_more, length-take-le, Poly, Declaration, Verdict, head_line, block_text, report_from, heads_from}

-- the text of numbered verdicts, where one of them has this text
texts : (ℕ → Verdict → List ℕ) → ℕ → List Verdict → List ℕ
texts text claim [] = []
texts text claim (v ∷ vs) = text claim v ++ texts text (suc claim) vs

-- one more after others
texts_behind : (text : ℕ → Verdict → List ℕ) (claim : ℕ) (vs : List Verdict) (v : Verdict) → texts text claim (vs ++ v ∷ []) ≡ texts text claim vs ++ text (claim + length vs) v
unfolding texts
texts_behind text claim [] v =
    let same : claim + 0 ≡ claim = omega arith in
    append-nil (text claim v) ∙ ap (λ n. text n v) (sym same)
texts_behind text claim (x ∷ vs) v =
    let count : suc claim + length vs ≡ claim + suc (length vs) = omega arith in
    ap (λ t. text claim x ++ t) (texts_behind text (suc claim) vs v ∙ ap (λ n. texts text (suc claim) vs ++ text n v) count)
    ∙ sym (append_assoc (text claim x) (texts text (suc claim) vs) (text (claim + suc (length vs)) v))

texts_more : (text : ℕ → Verdict → List ℕ) (vs : List Verdict) (place : ℕ) (v d : Verdict) → place < length vs → v ≡ get_or vs place d
    → texts text 1 (take (place + 1) vs) ≡ texts text 1 (take place vs) ++ text (place + 1) v
texts_more text vs place v d within read =
    let split : take (place + 1) vs ≡ take place vs ++ get_or vs place d ∷ [] = take_more vs place d within in
    let count : length (take place vs) ≡ place = length-take-le place vs (omega (arith, within)) in
    let turned : 1 + place ≡ place + 1 = omega arith in
    rw (split, ← read, texts_behind text 1 (take place vs) v, count, turned) refl

heads_are : (ds : List Declaration) (rules claim : ℕ) (vs : List Verdict) → heads_from ds rules claim vs ≡ texts (head_line ds rules) claim vs
unfolding texts
heads_are ds rules claim [] = refl
heads_are ds rules claim (v ∷ vs) = ap (λ t. head_line ds rules claim v ++ t) (heads_are ds rules (suc claim) vs)

-- the head line and the block of a verdict
entry : List Declaration → List Poly → ℕ → Verdict → List ℕ
entry ds rules claim v = head_line ds (length rules) claim v ++ block_text ds rules claim v

report_is : (ds : List Declaration) (rules : List Poly) (claim : ℕ) (vs : List Verdict) → report_from ds rules claim vs ≡ texts (entry ds rules) claim vs
unfolding texts entry
report_is ds rules claim [] = refl
report_is ds rules claim (v ∷ vs) = ap (λ t. head_line ds (length rules) claim v ++ block_text ds rules claim v ++ t) (report_is ds rules (suc claim) vs)

pub head_put : (ds : List Declaration) (rules : ℕ) (vs : List Verdict) (place : ℕ) (v d : Verdict) (before after : List ℕ) → place < length vs → v ≡ get_or vs place d
    → before ≡ heads_from ds rules 1 (take place vs) → after ≡ before ++ head_line ds rules (place + 1) v → after ≡ heads_from ds rules 1 (take (place + 1) vs)
head_put ds rules vs place v d before after within read before_is after_is =
    rw (after_is, before_is, heads_are ds rules 1 (take place vs), heads_are ds rules 1 (take (place + 1) vs)) (sym (texts_more (head_line ds rules) vs place v d within read))

pub entry_put : (ds : List Declaration) (rules : List Poly) (vs : List Verdict) (place : ℕ) (v d : Verdict) (before head after : List ℕ) → place < length vs → v ≡ get_or vs place d
    → before ≡ report_from ds rules 1 (take place vs) → head ≡ before ++ head_line ds (length rules) (place + 1) v → after ≡ head ++ block_text ds rules (place + 1) v
    → after ≡ report_from ds rules 1 (take (place + 1) vs)
unfolding entry
entry_put ds rules vs place v d before head after within read before_is head_is after_is =
    rw (after_is, head_is, before_is, report_is ds rules 1 (take place vs), report_is ds rules 1 (take (place + 1) vs))
    (append_assoc (texts (entry ds rules) 1 (take place vs)) (head_line ds (length rules) (place + 1) v) (block_text ds rules (place + 1) v)
    ∙ sym (texts_more (entry ds rules) vs place v d within read))
