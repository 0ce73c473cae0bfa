-- The lines of reports that begin with #: of verdicts, and of blocks that are judged one after another.
use Rattle.command_runs.proofs.Prelude.{◌≡◌, ◌⊎◌, inl, inr, ◌<◌, ◌≤◌, ◌+◌, ◌==◌, ℕ, suc, Bool, true, false, cond, List, [], ◌∷◌, ◌++◌, Option, Some, None, arith, refl, sym, ap, subst, ◌∙◌, length, drop, codes, get_or, slice_get, IsTrue, decimal, signed_decimal, AllZip, list_all, range_with_len, append_assoc, append-nil, Poly, Place, denominator_of, Declaration, word_text, is_named, Verdict, row_count, denominator_text, cause_text, place_text, least_text, said_of, head_line, block_text, report_from, heads_from, line, on_block, refused_text, AcceptsBlock, JudgesFrom, accepted, refused, IsTold, AreLines, HasLineBefore, claim_line, block_line, lacks, cut, ends_line, LineAt, past_quiet, first_or_later, no_line, lacks-append, decimal_lacks, number_is_part, integer_is_part, cause_is_part, word_is_part, AreQuiet, evidence_is_quiet, basis_is_quiet, model_is_quiet}
use Rattle.cofactor_trace.specs.declared.halt.Place.TheVariants as place
use Rattle.report_text.specs.declared.verdict.Verdict.TheVariants as verdict

-- a line of what was put
ends : (start : Bool) (most : List ℕ) → ends_line start (most ++ 10 ∷ []) ≡ true
ends start [] = refl
ends start (c ∷ most) = ends (c == 10) most

begins : (before : List ℕ) → AreLines before → ends_line true before ≡ true
begins before (inl is) = subst (λ (b : List ℕ). ends_line true b ≡ true) (sym is) refl
begins before (inr (most, is)) = subst (λ (b : List ℕ). ends_line true b ≡ true) (sym is) (ends true most)

pub at_start : (text line after : List ℕ) → HasLineBefore text line after → LineAt true text line after
at_start text line after has = record { before = has.before; begins = begins has.before has.begins; splits = has.splits }

-- what is said of a claim and of a block
pub claim_said : (number claim : ℕ) (said told : List ℕ) → claim_line number said ≡ codes "# claim " ++ decimal claim ++ 32 ∷ told → (decimal number ≡ decimal claim) × (said ≡ told)
claim_said number claim said told same =
    let tails : (decimal number ++ codes " ") ++ said ≡ decimal claim ++ 32 ∷ told = ap (drop 8) same in
    cut 32 (decimal number) (decimal claim) said told (decimal_lacks 32 (omega arith) number) (decimal_lacks 32 (omega arith) claim)
    (sym (append_assoc (decimal number) (codes " ") said) ∙ tails)

pub block_said : (number block : ℕ) (said told : List ℕ) → block_line number said ≡ on_block block told → (decimal number ≡ decimal block) × (said ≡ told)
block_said number block said told same =
    let tails : (decimal number ++ codes " ") ++ said ≡ decimal block ++ (codes " " ++ told) = ap (drop 8) same in
    cut 32 (decimal number) (decimal block) said told (decimal_lacks 32 (omega arith) number) (decimal_lacks 32 (omega arith) block)
    (sym (append_assoc (decimal number) (codes " ") said) ∙ tails)

pub other_head : (number block : ℕ) (said told : List ℕ) → claim_line number said ≡ on_block block told → ⊥
other_head number block said told same = let third : 99 ≡ 98 = ap (λ (t : List ℕ). get_or t 2 0) same in absurd (omega (arith, third))

-- the head lines of verdicts have no line ends
either : (P : List ℕ → Type 0) (b : Bool) (xs ys : List ℕ) → P xs → P ys → P (cond b xs ys)
either P true xs ys left right = left
either P false xs ys left right = right

abbrev IsPart : List ℕ → Type 0
IsPart text = lacks 10 text ≡ true

numbered : (label : List ℕ) (n : ℕ) → IsPart label → IsPart (label ++ decimal n)
numbered label n is = lacks-append 10 label (decimal n) is (number_is_part n)

place_is_part : (p : Place) → IsPart (place_text p)
place_is_part place.Run = refl
place_is_part (place.Round number) = numbered (codes " at round ") number refl
place_is_part (place.Claim number) = numbered (codes " at claim after round ") number refl
place_is_part (place.Certificate number) = numbered (codes " at certificate after round ") number refl

module _ (ds : List Declaration) (known : IsTrue (list_all is_named ds)) where
  least_is_part : (least : Option (List ℕ)) → IsPart (least_text ds least)
  least_is_part None = refl
  least_is_part (Some word) = lacks-append 10 (codes " least ") (word_text ds word) refl (word_is_part ds known word)

  said_is_part : (rules : ℕ) (v : Verdict) → IsPart (said_of ds rules v)
  said_is_part rules (verdict.Proved e) =
      lacks-append 10 (denominator_text (denominator_of e)) (codes " rows " ++ decimal (row_count e))
      (lacks-append 10 (codes " proved denominator ") (signed_decimal (denominator_of e)) refl (integer_is_part (denominator_of e))) (numbered (codes " rows ") (row_count e) refl)
  said_is_part rules (verdict.NotDerivable rest) = numbered (codes " not derivable rules ") rules refl
  said_is_part rules (verdict.Refuted m) = refl
  said_is_part rules (verdict.Undecided h) =
      lacks-append 10 (codes " undecided " ++ cause_text h.cause ++ place_text h.place) (least_text ds h.least)
      (lacks-append 10 (codes " undecided " ++ cause_text h.cause) (place_text h.place) (lacks-append 10 (codes " undecided ") (cause_text h.cause) refl (cause_is_part h.cause)) (place_is_part h.place))
      (least_is_part h.least)
  said_is_part rules (verdict.NotRefuted candidates) = numbered (codes " not refuted candidates ") candidates refl

  -- the head line without its end
  abbrev head_of : ℕ → ℕ → Verdict → List ℕ
  head_of rules claim v = codes "# claim " ++ decimal claim ++ said_of ds rules v

  head_is_part : (rules claim : ℕ) (v : Verdict) → IsPart (head_of rules claim v)
  head_is_part rules claim v = lacks-append 10 (codes "# claim " ++ decimal claim) (said_of ds rules v) (numbered (codes "# claim ") claim refl) (said_is_part rules v)

  verdict_is_quiet : (rules : List Poly) (claim : ℕ) (v : Verdict) → AreQuiet (block_text ds rules claim v)
  verdict_is_quiet rules claim (verdict.Proved e) = evidence_is_quiet ds known e
  verdict_is_quiet rules claim (verdict.NotDerivable rest) = basis_is_quiet ds known rules claim rest
  verdict_is_quiet rules claim (verdict.Refuted m) = model_is_quiet ds known m
  verdict_is_quiet rules claim (verdict.Undecided h) = record { quiet = refl; ends = refl }
  verdict_is_quiet rules claim (verdict.NotRefuted candidates) = record { quiet = refl; ends = refl }

  -- The line is the head line of a verdict of which this holds, on a claim with a number from the first one on and below another, and after the line
  -- comes what is shown of it.
  pub record IsOfVerdict (P : ℕ → Verdict → Type 0) (rules first past : ℕ) (shown : ℕ → Verdict → List ℕ) (line after : List ℕ) : Type 0 where
    pub claim : ℕ
    pub least : first ≤ claim
    pub below : claim < past
    pub verdict : Verdict
    pub holds : P claim verdict
    pub says : line ≡ codes "# claim " ++ decimal claim ++ said_of ds rules verdict
    pub rest : List ℕ
    pub then : after ≡ shown claim verdict ++ rest

  joined : (head shown rest : List ℕ) → ((head ++ codes "\n") ++ shown) ++ rest ≡ head ++ 10 ∷ (shown ++ rest)
  joined head shown rest = append_assoc (head ++ codes "\n") shown rest ∙ append_assoc head (codes "\n") (shown ++ rest)

  module _ (P : ℕ → Verdict → Type 0) (rules : ℕ) (shown : ℕ → Verdict → List ℕ) (quiet : (claim : ℕ) (v : Verdict) → AreQuiet (shown claim v)) (print : ℕ → List Verdict → List ℕ)
      (none : (claim : ℕ) → print claim [] ≡ []) (more : (claim : ℕ) (v : Verdict) (vs : List Verdict) → print claim (v ∷ vs) ≡ (head_line ds rules claim v ++ shown claim v) ++ print (suc claim) vs) where
    -- a line that begins with # of what is printed of verdicts
    here : (claim : ℕ) (v : Verdict) (vs : List Verdict) → P claim v → (l after : List ℕ)
        → (((35 ∷ l) ≡ head_of rules claim v) × (after ≡ shown claim v ++ print (suc claim) vs)) ⊎ LineAt true (shown claim v ++ print (suc claim) vs) (35 ∷ l) after
        → (LineAt true (print (suc claim) vs) (35 ∷ l) after → IsOfVerdict P rules (suc claim) (suc claim + length vs) shown (35 ∷ l) after)
        → IsOfVerdict P rules claim (claim + length (v ∷ vs)) shown (35 ∷ l) after
    here claim v vs holds l after (inl is) later =
        record { claim = claim; least = omega arith; below = omega arith; verdict = v; holds = holds; says = is.0; rest = print (suc claim) vs; then = is.1 }
    here claim v vs holds l after (inr at) later =
        let blocks = quiet claim v in
        let is = later (subst (λ (b : Bool). LineAt b (print (suc claim) vs) (35 ∷ l) after) blocks.ends (past_quiet true (shown claim v) (print (suc claim) vs) l after blocks.quiet at)) in
        record { claim = is.claim; least = omega (arith, is.least); below = omega (arith, is.below); verdict = is.verdict; holds = is.holds; says = is.says; rest = is.rest; then = is.then }

    of_verdict : (claim : ℕ) (vs : List Verdict) → AllZip P (range_with_len claim (length vs)) vs → (l after : List ℕ) → lacks 10 (35 ∷ l) ≡ true → LineAt true (print claim vs) (35 ∷ l) after
        → IsOfVerdict P rules claim (claim + length vs) shown (35 ∷ l) after
    of_verdict claim [] each l after inner at = absurd (no_line true (35 ∷ l) after (subst (λ (t : List ℕ). LineAt true t (35 ∷ l) after) (none claim) at))
    of_verdict claim (v ∷ vs) each l after inner at =
        let text : print claim (v ∷ vs) ≡ head_of rules claim v ++ 10 ∷ (shown claim v ++ print (suc claim) vs) = more claim v vs ∙ joined (head_of rules claim v) (shown claim v) (print (suc claim) vs) in
        let next : claim + 1 ≡ suc claim = omega arith in
        let others : AllZip P (range_with_len (suc claim) (length vs)) vs = subst (λ (n : ℕ). AllZip P (range_with_len n (length vs)) vs) next each.1 in
        here claim v vs each.0 l after
        (first_or_later (head_of rules claim v) (shown claim v ++ print (suc claim) vs) (35 ∷ l) after (head_is_part rules claim v) inner (subst (λ (t : List ℕ). LineAt true t (35 ∷ l) after) text at))
        (λ later. of_verdict (suc claim) vs others l after inner later)

  -- in a report
  pub line_of_report : (P : ℕ → Verdict → Type 0) (rules : List Poly) (vs : List Verdict) → AllZip P (range_with_len 1 (length vs)) vs → (l after : List ℕ) → lacks 10 (35 ∷ l) ≡ true
      → LineAt true (report_from ds rules 1 vs) (35 ∷ l) after → IsOfVerdict P (length rules) 1 (1 + length vs) (block_text ds rules) (35 ∷ l) after
  line_of_report P rules vs each l after inner at =
      of_verdict P (length rules) (block_text ds rules) (verdict_is_quiet rules) (report_from ds rules) (λ claim. refl) (λ claim v others. refl) 1 vs each l after inner at

  -- and in head lines alone
  pub line_of_heads : (P : ℕ → Verdict → Type 0) (rules : List Poly) (vs : List Verdict) → AllZip P (range_with_len 1 (length vs)) vs → (l after : List ℕ) → lacks 10 (35 ∷ l) ≡ true
      → LineAt true (heads_from ds (length rules) 1 vs) (35 ∷ l) after → IsOfVerdict P (length rules) 1 (1 + length vs) (λ claim v. []) (35 ∷ l) after
  line_of_heads P rules vs each l after inner at =
      of_verdict P (length rules) (λ claim v. []) (λ claim v. record { quiet = refl; ends = refl }) (heads_from ds (length rules)) (λ claim. refl)
      (λ claim v others. ap (λ t. t ++ heads_from ds (length rules) (suc claim) others) (sym (append-nil (head_line ds (length rules) claim v)))) 1 vs each l after inner at

module _ {Block : Type 0} (passes : Block → Type 0) (first shows : Block → List ℕ) (refuses : Block → List ℕ → Type 0) (told : (b : Block) → passes b → IsTold (first b) (shows b)) (caused : (b : Block) (cause : List ℕ) → refuses b cause → lacks 10 cause ≡ true) where
  -- A line on a block: it is accepted, and this is the first line of the text about it, or it is refused.
  pub data IsOnBlock (number : ℕ) (blocks : List Block) (l : List ℕ) : Type 0 where
    accepts : (place : ℕ) (b : Block) (holds : passes b) → slice_get blocks place ≡ Some b → l ≡ on_block (number + place) (first b) → IsOnBlock number blocks l
    refuses_one : (block : ℕ) (cause : List ℕ) → l ≡ refused_text block cause → IsOnBlock number blocks l

  deeper : (number : ℕ) (b : Block) (blocks : List Block) (l : List ℕ) → IsOnBlock (number + 1) blocks l → IsOnBlock number (b ∷ blocks) l
  deeper number b blocks l (accepts place a holds at says) =
      accepts (suc place) a holds at (says ∙ ap (λ n. on_block n (first a)) (let same : (number + 1) + place ≡ number + suc place = omega arith in same))
  deeper number b blocks l (refuses_one block cause says) = refuses_one block cause says

  on_block_is_part : (number : ℕ) (text : List ℕ) → lacks 10 text ≡ true → lacks 10 (on_block number text) ≡ true
  on_block_is_part number text is =
      lacks-append 10 (codes "# block ") (decimal number ++ (codes " " ++ text)) refl (lacks-append 10 (decimal number) (codes " " ++ text) (number_is_part number) (lacks-append 10 (codes " ") text refl is))

  -- the line on an accepted block, by its first line
  split_line : (number : ℕ) (text first rest more : List ℕ) → text ++ 10 ∷ [] ≡ first ++ 10 ∷ rest → line (on_block number text) ++ more ≡ on_block number first ++ 10 ∷ (rest ++ more)
  split_line number text first rest more splits =
      let d : List ℕ = decimal number in
      let moved : line (on_block number text) ≡ on_block number first ++ 10 ∷ rest =
      append_assoc (codes "# block ") (d ++ (codes " " ++ text)) (10 ∷ []) ∙ ap (λ x. codes "# block " ++ x) (append_assoc d (codes " " ++ text) (10 ∷ []) ∙ ap (λ x. d ++ 32 ∷ x) splits ∙ sym (append_assoc d (codes " " ++ first) (10 ∷ rest)))
      ∙ sym (append_assoc (codes "# block ") (d ++ (codes " " ++ first)) (10 ∷ rest)) in
      ap (λ x. x ++ more) moved ∙ append_assoc (on_block number first) (10 ∷ rest) more

  accepted_line : (number : ℕ) (b : Block) (blocks : List Block) (holds : passes b) (more l after : List ℕ)
      → (((35 ∷ l) ≡ on_block number (first b)) × (after ≡ (told b holds).rest ++ more)) ⊎ LineAt true ((told b holds).rest ++ more) (35 ∷ l) after
      → (LineAt true more (35 ∷ l) after → IsOnBlock (number + 1) blocks (35 ∷ l)) → IsOnBlock number (b ∷ blocks) (35 ∷ l)
  accepted_line number b blocks holds more l after (inl is) later = accepts 0 b holds refl (is.0 ∙ ap (λ n. on_block n (first b)) (let same : number ≡ number + 0 = omega arith in same))
  accepted_line number b blocks holds more l after (inr at) later =
      let t = told b holds in
      deeper number b blocks (35 ∷ l) (later (subst (λ (e : Bool). LineAt e more (35 ∷ l) after) t.quiet.ends (past_quiet true t.rest more l after t.quiet.quiet at)))

  refused_line : (number : ℕ) (b : Block) (blocks : List Block) (cause l after : List ℕ)
      → (((35 ∷ l) ≡ refused_text number cause) × (after ≡ [])) ⊎ LineAt true [] (35 ∷ l) after → IsOnBlock number (b ∷ blocks) (35 ∷ l)
  refused_line number b blocks cause l after (inl is) = refuses_one number cause is.0
  refused_line number b blocks cause l after (inr at) = absurd (no_line true (35 ∷ l) after at)

  pub line_of_blocks : (number : ℕ) (blocks : List Block) (lines : List ℕ) (status : ℕ) → JudgesFrom (AcceptsBlock passes shows) refuses number blocks lines status
      → (l after : List ℕ) → lacks 10 (35 ∷ l) ≡ true → LineAt true lines (35 ∷ l) after → IsOnBlock number blocks (35 ∷ l)
  line_of_blocks number [] lines status judges l after inner at = absurd (no_line true (35 ∷ l) after (subst (λ (t : List ℕ). LineAt true t (35 ∷ l) after) judges.0 at))
  line_of_blocks number (b ∷ blocks) lines status (accepted text holds rest next is) l after inner at =
      let t = told b holds.holds in
      let lines_are : lines ≡ on_block number (first b) ++ 10 ∷ (t.rest ++ rest) =
      is ∙ ap (λ x. line (on_block number x) ++ rest) holds.says ∙ split_line number (shows b) (first b) t.rest rest t.splits in
      accepted_line number b blocks holds.holds rest l after
      (first_or_later (on_block number (first b)) (t.rest ++ rest) (35 ∷ l) after (on_block_is_part number (first b) t.one) inner (subst (λ (x : List ℕ). LineAt true x (35 ∷ l) after) lines_are at))
      (λ later. line_of_blocks (number + 1) blocks rest status next l after inner later)
  line_of_blocks number (b ∷ blocks) lines status (refused cause because is seven) l after inner at =
      refused_line number b blocks cause l after
      (first_or_later (refused_text number cause) [] (35 ∷ l) after (on_block_is_part number (codes "refused " ++ cause) (lacks-append 10 (codes "refused ") cause refl (caused b cause because))) inner
      (subst (λ (x : List ℕ). LineAt true x (35 ∷ l) after) is at))
