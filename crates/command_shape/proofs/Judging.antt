-- Blocks that are judged one after another.
use Rattle.command_shape.proofs.Prelude.{◌≡◌, ℕ, ◌+◌, ◌<◌, ◌≤◌, ◌⊎◌, inl, inr, List, [], ◌∷◌, ◌++◌, length, drop, get_or, refl, sym, subst, append_assoc, append-nil, line, block_text, refused_text, accepted, refused, JudgesFrom}
use Rattle.command_shape.proofs.Places.{drop-at, drop-all}

module _ {Block : Type 0} (accepts refuses : Block → List ℕ → Type 0) where
  -- the blocks one by one
  module _ (bs : List Block) where
    -- the report so far is continued as the rest of the blocks is judged
    abbrev pub GoesOn : ℕ → List ℕ → Type 0
    GoesOn place report = (lines : List ℕ) (status : ℕ) → JudgesFrom accepts refuses (place + 1) (drop place bs) lines status → JudgesFrom accepts refuses 1 bs (report ++ lines) status

    pub with_accepted : (place : ℕ) (report : List ℕ) (b : Block) (text : List ℕ) → place < length bs → b ≡ get_or bs place b → accepts b text → GoesOn place report
        → GoesOn (place + 1) (report ++ line (block_text (place + 1) text))
    with_accepted place report b text inside is holds goes lines status judges =
        let one : JudgesFrom accepts refuses (place + 1) (b ∷ drop (place + 1) bs) (line (block_text (place + 1) text) ++ lines) status = accepted text holds lines judges refl in
        let there = goes _ status (subst (λ (l : List Block). JudgesFrom accepts refuses (place + 1) l (line (block_text (place + 1) text) ++ lines) status) (sym (drop-at bs place b inside is)) one) in
        subst (λ (l : List ℕ). JudgesFrom accepts refuses 1 bs l status) (sym (append_assoc report (line (block_text (place + 1) text)) lines)) there

    pub with_refused : (place : ℕ) (report : List ℕ) (b : Block) (cause : List ℕ) → place < length bs → b ≡ get_or bs place b → refuses b cause → GoesOn place report
        → JudgesFrom accepts refuses 1 bs (report ++ line (refused_text (place + 1) cause)) 7
    with_refused place report b cause inside is because goes =
        let one : JudgesFrom accepts refuses (place + 1) (b ∷ drop (place + 1) bs) (line (refused_text (place + 1) cause)) 7 = refused cause because refl refl in
        goes _ 7 (subst (λ (l : List Block). JudgesFrom accepts refuses (place + 1) l (line (refused_text (place + 1) cause)) 7) (sym (drop-at bs place b inside is)) one)

    pub all_judged : (place : ℕ) (report : List ℕ) → length bs ≤ place → GoesOn place report → JudgesFrom accepts refuses 1 bs report 0
    all_judged place report past goes =
        let rest : JudgesFrom accepts refuses (place + 1) (drop place bs) [] 0 = subst (λ (l : List Block). JudgesFrom accepts refuses (place + 1) l [] 0) (sym (drop-all bs place past)) (refl, refl) in
        subst (λ (l : List ℕ). JudgesFrom accepts refuses 1 bs l 0) (append-nil report) (goes [] 0 rest)

  -- the status
  pub judged_status : (number : ℕ) (bs : List Block) (lines : List ℕ) (status : ℕ) → JudgesFrom accepts refuses number bs lines status → (status ≡ 0) ⊎ (status ≡ 7)
  judged_status number [] lines status judges = inl judges.1
  judged_status number (b ∷ bs) lines status (accepted text holds rest next is) = judged_status (number + 1) bs rest status next
  judged_status number (b ∷ bs) lines status (refused cause because is seven) = inr seven
