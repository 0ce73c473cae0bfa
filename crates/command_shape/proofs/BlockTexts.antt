-- Texts of blocks of one kind: each has blocks or a first fault, and each block passes all tests, or one of them is the first that fails.
use Rattle.command_shape.proofs.Prelude.{◌≡◌, ◌⊎◌, inl, inr, ℕ, ◌+◌, List, [], ◌∷◌, ◌++◌, Option, Some, codes, decimal, refl, sym, ap, subst, ◌∙◌, arith, append_assoc, append-nil, All, AllByRecursion, All-nil, All-cons, All-head, All-tail, Fault, Ending, line, refused_evidence, evidence_fault, block_text, refused_text, OverEvidence, faulty, read, AcceptsBlock, RefusesBlock, JudgesFrom, Judges, accepted, refused, lines_on}
use Rattle.command_shape.proofs.Judging.{judged_status}

-- What is asked of a kind of blocks.
pub record IsKind {Block Refusal : Type 0} (passes : Block → Type 0) (shows : Block → List ℕ) (is_refused : Block → Refusal → Type 0) (told : Refusal → Option (List ℕ)) (is_memory : Refusal → Type 0)
    (are_blocks : List Block → Type 0) (is_first_fault : Fault → Type 0) : Type 0 where
  -- a text has blocks or a first fault, and not both
  pub each_text : ((bs : List Block) × are_blocks bs) ⊎ ((fault : Fault) × is_first_fault fault)
  pub one_list : (bs bs' : List Block) → are_blocks bs → are_blocks bs' → bs ≡ bs'
  pub one_fault : (fault fault' : Fault) → is_first_fault fault → is_first_fault fault' → fault ≡ fault'
  pub no_fault : (bs : List Block) (fault : Fault) → are_blocks bs → is_first_fault fault → ⊥
  -- a block passes all tests, or one is the first that fails, and not both
  pub each_block : (b : Block) → passes b ⊎ ((r : Refusal) × is_refused b r × (is_memory r → ⊥))
  pub one_refusal : (b : Block) (r r' : Refusal) → is_refused b r → is_refused b r' → (is_memory r → ⊥) → (is_memory r' → ⊥) → r ≡ r'
  pub not_refused : (b : Block) (r : Refusal) → passes b → is_refused b r → is_memory r
  -- a refusal has a text, unless it is want of memory; and the text of a block that passes begins as that of no refusal does
  pub has_text : (r : Refusal) → (is_memory r → ⊥) → (cause : List ℕ) × (told r ≡ Some cause)
  pub no_text : (r : Refusal) (cause : List ℕ) → told r ≡ Some cause → is_memory r → ⊥
  pub other_text : (b : Block) (cause more : List ℕ) → codes "refused " ++ cause ≡ shows b ++ more → ⊥

-- what holds of all holds of the first ones
pub all_first : {A : Type 0} (P : A → Type 0) (first others : List A) → All P (first ++ others) → All P first
all_first P [] others all = All-nil P
all_first P (x ∷ first) others all = All-cons P x first (All-head P x (first ++ others) all) (all_first P first others (All-tail P x (first ++ others) all))

-- lists of bytes
cancel : (xs ys zs : List ℕ) → xs ++ ys ≡ xs ++ zs → ys ≡ zs
cancel [] ys zs same = same
cancel (x ∷ xs) ys zs same = let tail : xs ++ ys ≡ xs ++ zs = cc in cancel xs ys zs tail

-- a line on a block, part by part
parts : (number : ℕ) (text more : List ℕ) → line (block_text number text) ++ more ≡ codes "# block " ++ (decimal number ++ (codes " " ++ (text ++ (10 ∷ [] ++ more))))
parts number text more =
    let p : List ℕ = codes "# block " in
    let d : List ℕ = decimal number in
    let end : List ℕ = 10 ∷ [] in
    append_assoc (block_text number text) end more
    ∙ append_assoc p (d ++ (codes " " ++ text)) (end ++ more)
    ∙ ap (λ x. p ++ x) (append_assoc d (codes " " ++ text) (end ++ more) ∙ ap (λ x. d ++ x) (append_assoc (codes " ") text (end ++ more)))

-- blocks that all pass
pub record Passing {Block : Type 0} (passes : Block → Type 0) (shows : Block → List ℕ) (are_blocks : List Block → Type 0) (report : List ℕ) : Type 0 where
  pub all : List Block
  pub are : are_blocks all
  pub pass : AllByRecursion passes all
  pub says : report ≡ lines_on shows 1 all

record Same (lines lines' : List ℕ) (status status' : ℕ) : Type 0 where
  lines_same : lines ≡ lines'
  status_same : status ≡ status'

module _ {Block Refusal : Type 0} {passes : Block → Type 0} {shows : Block → List ℕ} {is_refused : Block → Refusal → Type 0} {told : Refusal → Option (List ℕ)} {is_memory : Refusal → Type 0}
    {are_blocks : List Block → Type 0} {is_first_fault : Fault → Type 0} (kind : IsKind passes shows is_refused told is_memory are_blocks is_first_fault) where
  abbrev Accepts : Block → List ℕ → Type 0
  Accepts = AcceptsBlock passes shows

  abbrev Refuses : Block → List ℕ → Type 0
  Refuses = RefusesBlock is_refused told

  -- how a run ends over the text
  abbrev pub EndsOver : Ending → Type 0
  EndsOver ending = OverEvidence are_blocks is_first_fault (Judges (AcceptsBlock passes shows) (RefusesBlock is_refused told)) ending

  -- one ending
  not_both : (b : Block) (text cause : List ℕ) → Accepts b text → Refuses b cause → ⊥
  not_both b text cause one other = kind.no_text other.refusal cause other.says (kind.not_refused b other.refusal one.holds other.fails)

  one_cause : (b : Block) (cause cause' : List ℕ) → Refuses b cause → Refuses b cause' → cause ≡ cause'
  one_cause b cause cause' one other =
      let same : one.refusal ≡ other.refusal = kind.one_refusal b one.refusal other.refusal one.fails other.fails (kind.no_text one.refusal cause one.says) (kind.no_text other.refusal cause' other.says) in
      let both : Some cause ≡ Some cause' = sym one.says ∙ ap told same ∙ other.says in
      cc

  judged_once : (number : ℕ) (bs : List Block) (lines lines' : List ℕ) (status status' : ℕ) → JudgesFrom Accepts Refuses number bs lines status → JudgesFrom Accepts Refuses number bs lines' status' → Same lines lines' status status'
  judged_once number [] lines lines' status status' one other = record { lines_same = one.0 ∙ sym other.0; status_same = one.1 ∙ sym other.1 }
  judged_once number (b ∷ bs) lines lines' status status' (accepted text holds rest next is) (accepted text' holds' rest' next' is') =
      let same = judged_once (number + 1) bs rest rest' status status' next next' in
      let texts : text ≡ text' = holds.says ∙ sym holds'.says in
      record { lines_same = is ∙ (λ i. line (block_text number (texts i)) ++ same.lines_same i) ∙ sym is'; status_same = same.status_same }
  judged_once number (b ∷ bs) lines lines' status status' (accepted text holds rest next is) (refused cause because _ _) = absurd (not_both b text cause holds because)
  judged_once number (b ∷ bs) lines lines' status status' (refused cause because _ _) (accepted text holds rest next is) = absurd (not_both b text cause holds because)
  judged_once number (b ∷ bs) lines lines' status status' (refused cause because is seven) (refused cause' because' is' seven') =
      record { lines_same = is ∙ ap (λ x. line (refused_text number x)) (one_cause b cause cause' because because') ∙ sym is'; status_same = seven ∙ sym seven' }

  blocks_once : (bs : List Block) (ending ending' : Ending) → Judges Accepts Refuses bs ending → Judges Accepts Refuses bs ending' → ending ≡ ending'
  blocks_once bs ending ending' one other =
      let same = judged_once 1 bs ending.report ending'.report ending.status ending'.status one other in
      λ i. record { status = same.status_same i; report = same.lines_same i }

  abbrev IsJudged : ℕ → List Block → Type 0
  IsJudged number bs = (ending : Ending) × JudgesFrom Accepts Refuses number bs ending.report ending.status

  judge_one : (number : ℕ) (b : Block) (bs : List Block) → IsJudged (number + 1) bs → passes b ⊎ ((r : Refusal) × is_refused b r × (is_memory r → ⊥)) → IsJudged number (b ∷ bs)
  judge_one number b bs rest (inl holds) = (
    record { status = rest.0.status; report = line (block_text number (shows b)) ++ rest.0.report },
    accepted (shows b) (record { holds = holds; says = refl }) rest.0.report rest.1 refl,
  )
  judge_one number b bs rest (inr fails) =
      let text = kind.has_text fails.0 fails.2 in
      (record { status = 7; report = line (refused_text number text.0) }, refused text.0 (record { refusal = fails.0; fails = fails.1; says = text.1 }) refl refl)

  judge_all : (number : ℕ) (bs : List Block) → IsJudged number bs
  judge_all number [] = (record { status = 0; report = [] }, (refl, refl))
  judge_all number (b ∷ bs) = judge_one number b bs (judge_all (number + 1) bs) (kind.each_block b)

  -- blocks that all pass are all accepted
  passing_judged : (number : ℕ) (bs : List Block) → AllByRecursion passes bs → JudgesFrom Accepts Refuses number bs (lines_on shows number bs) 0
  passing_judged number [] all = (refl, refl)
  passing_judged number (b ∷ bs) all = accepted (shows b) (record { holds = all.0; says = refl }) (lines_on shows (number + 1) bs) (passing_judged (number + 1) bs all.1) refl

  -- 0 is the status of no others
  zero_passes : (number : ℕ) (bs : List Block) (lines : List ℕ) (status : ℕ) → JudgesFrom Accepts Refuses number bs lines status → status ≡ 0 → AllByRecursion passes bs × (lines ≡ lines_on shows number bs)
  zero_passes number [] lines status judges is_zero = (tt, judges.0)
  zero_passes number (b ∷ bs) lines status (accepted text holds rest next is) is_zero =
      let more = zero_passes (number + 1) bs rest status next is_zero in
      ((holds.holds, more.0), is ∙ (λ i. line (block_text number (holds.says i)) ++ more.1 i))
  zero_passes number (b ∷ bs) lines status (refused cause because is is_seven) is_zero = absurd (omega arith)

  -- no line refuses a block and accepts it
  lines_differ : (number : ℕ) (b : Block) (cause more : List ℕ) → line (refused_text number cause) ≡ line (block_text number (shows b)) ++ more → ⊥
  lines_differ number b cause more same =
      let end : List ℕ = 10 ∷ [] in
      let left : line (refused_text number cause) ≡ codes "# block " ++ (decimal number ++ (codes " " ++ ((codes "refused " ++ cause) ++ (end ++ [])))) =
      sym (append-nil (line (refused_text number cause))) ∙ parts number (codes "refused " ++ cause) [] in
      let texts = cancel (codes " ") _ _ (cancel (decimal number) _ _ (cancel (codes "# block ") _ _ (sym left ∙ same ∙ parts number (shows b) more))) in
      kind.other_text b (cause ++ (end ++ [])) (end ++ more) (sym (append_assoc (codes "refused ") cause (end ++ [])) ∙ texts)

  -- where the report begins with the lines that accept the first blocks, these pass
  first_pass : (number : ℕ) (first others : List Block) (lines : List ℕ) (status : ℕ) (rest : List ℕ) → JudgesFrom Accepts Refuses number (first ++ others) lines status
      → lines ≡ lines_on shows number first ++ rest → AllByRecursion passes first
  first_pass number [] others lines status rest judges begins = tt
  first_pass number (b ∷ first) others lines status rest (accepted text holds more next is) begins =
      let l : List ℕ = line (block_text number (shows b)) in
      let same : l ++ more ≡ l ++ (lines_on shows (number + 1) first ++ rest) =
      ap (λ t. line (block_text number t) ++ more) (sym holds.says) ∙ sym is ∙ begins ∙ append_assoc l (lines_on shows (number + 1) first) rest in
      (holds.holds, first_pass (number + 1) first others more status rest next (cancel l _ _ same))
  first_pass number (b ∷ first) others lines status rest (refused cause because is is_seven) begins =
      let l : List ℕ = line (block_text number (shows b)) in
      absurd (lines_differ number b cause (lines_on shows (number + 1) first ++ rest) (sym is ∙ begins ∙ append_assoc l (lines_on shows (number + 1) first) rest))

  -- it has one ending,
  pub text_answered : (ending : Ending) × EndsOver ending
  text_answered = by kind.each_text
    where
      by : ((bs : List Block) × are_blocks bs) ⊎ ((fault : Fault) × is_first_fault fault) → (ending : Ending) × EndsOver ending
      by (inl right) = let judged = judge_all 1 right.0 in (judged.0, read right.0 right.1 judged.1)
      by (inr wrong) = (refused_evidence (evidence_fault wrong.0.code wrong.0.line wrong.0.limit), faulty wrong.0 wrong.1 refl)

  -- and no other,
  pub text_answered_once : (ending ending' : Ending) → EndsOver ending → EndsOver ending' → ending ≡ ending'
  text_answered_once ending ending' (faulty fault is ends) (faulty fault' is' ends') =
      ends ∙ ap (λ (f : Fault). refused_evidence (evidence_fault f.code f.line f.limit)) (kind.one_fault fault fault' is is') ∙ sym ends'
  text_answered_once ending ending' (faulty fault is ends) (read bs is' leads) = absurd (kind.no_fault bs fault is' is)
  text_answered_once ending ending' (read bs is leads) (faulty fault is' ends) = absurd (kind.no_fault bs fault is is')
  text_answered_once ending ending' (read bs is leads) (read bs' is' leads') =
      blocks_once bs ending ending' leads (subst (λ (l : List Block). Judges Accepts Refuses l ending') (kind.one_list bs' bs is' is) leads')

  -- with status 0 or 7.
  pub text_status : (ending : Ending) → EndsOver ending → (ending.status ≡ 0) ⊎ (ending.status ≡ 7)
  text_status ending (faulty fault is ends) = inr (ap (λ (e : Ending). e.status) ends)
  text_status ending (read bs is judges) = judged_status Accepts Refuses 1 bs ending.report ending.status judges

  -- Blocks that all pass are answered by 0 and a line on each,
  pub passing_answered : (bs : List Block) → are_blocks bs → AllByRecursion passes bs → EndsOver (record { status = 0; report = lines_on shows 1 bs })
  passing_answered bs are all = read bs are (passing_judged 1 bs all)

  -- and no others by 0.
  pub zero_answered : (ending : Ending) → EndsOver ending → ending.status ≡ 0 → Passing passes shows are_blocks ending.report
  zero_answered ending (faulty fault is ends) is_zero = let seven = ap (λ (e : Ending). e.status) ends in absurd (omega (arith, is_zero))
  zero_answered ending (read bs is judges) is_zero =
      let all = zero_passes 1 bs ending.report ending.status judges is_zero in
      record { all = bs; are = is; pass = all.0; says = all.1 }

  -- Where the report begins with the lines that accept the first blocks, these pass.
  pub first_answered : (ending : Ending) (first others : List Block) (rest : List ℕ) → are_blocks (first ++ others) → ending.report ≡ lines_on shows 1 first ++ rest → EndsOver ending → AllByRecursion passes first
  first_answered ending first others rest are begins (faulty fault wrong ends) = absurd (kind.no_fault (first ++ others) fault are wrong)
  first_answered ending first others rest are begins (read bs right judges) =
      first_pass 1 first others ending.report ending.status rest (subst (λ (l : List Block). Judges Accepts Refuses l ending) (kind.one_list bs (first ++ others) right are) judges) begins
