use Rattle.traced_completion.proofs.Prelude.{◌≡◌, ◌+◌, ◌<◌, ◌≤◌, ℕ, List, [], length, take, get_or, sym, ap, subst, ◌∙◌, arith, All, Waiting, joined}
use Rattle.traced_completion.proofs.BlockLemmas.{further-block, whole-front, joined-split, nonempty-split, split-front}
use Rattle.traced_completion.proofs.pending.blocks.cut.Goals as goal

pub split-requires-clause-number : goal.split-requires-clause-number
split-requires-clause-number c =
    let blocks : List (List Waiting) = c.args.blocks.now.items in
    let number : ℕ = c.filled-number.result.0 in
    let rest : ℕ = c.filled-number.result.1 in
    let read : c.as_slice.result.now ≡ blocks = c.as_slice.ensures.value in
    let within : number ≤ length blocks = subst (λ (bs : List (List Waiting)). number ≤ length bs) read c.filled-number.ensures.within in
    let passed : length (joined (take number blocks)) + rest ≡ c.args.count = subst (λ (bs : List (List Waiting)). length (joined (take number bs)) + rest ≡ c.args.count) read c.filled-number.ensures.passed in
    let inside : number < length blocks = further-block blocks number rest c.args.count within passed c.requires.count c.if-rest-eq0.false in
    let less : rest < length (get_or blocks number []) = subst (λ (bs : List (List Waiting)). number < length bs → rest < length (get_or bs number [])) read c.filled-number.ensures.left inside in
    inside

pub split-requires-clause-place : goal.split-requires-clause-place
split-requires-clause-place c =
    let blocks : List (List Waiting) = c.args.blocks.now.items in
    let number : ℕ = c.filled-number.result.0 in
    let rest : ℕ = c.filled-number.result.1 in
    let read : c.as_slice.result.now ≡ blocks = c.as_slice.ensures.value in
    let within : number ≤ length blocks = subst (λ (bs : List (List Waiting)). number ≤ length bs) read c.filled-number.ensures.within in
    let passed : length (joined (take number blocks)) + rest ≡ c.args.count = subst (λ (bs : List (List Waiting)). length (joined (take number bs)) + rest ≡ c.args.count) read c.filled-number.ensures.passed in
    let inside : number < length blocks = further-block blocks number rest c.args.count within passed c.requires.count c.if-rest-eq0.false in
    let less : rest < length (get_or blocks number []) = subst (λ (bs : List (List Waiting)). number < length bs → rest < length (get_or bs number [])) read c.filled-number.ensures.left inside in
    omega (arith, less)

pub returns-then-rest-eq0-clause-front : goal.returns-then-rest-eq0-clause-front
returns-then-rest-eq0-clause-front c =
    let blocks : List (List Waiting) = c.args.blocks.now.items in
    let number : ℕ = c.filled-number.result.0 in
    let rest : ℕ = c.filled-number.result.1 in
    let read : c.as_slice.result.now ≡ blocks = c.as_slice.ensures.value in
    let within : number ≤ length blocks = subst (λ (bs : List (List Waiting)). number ≤ length bs) read c.filled-number.ensures.within in
    let passed : length (joined (take number blocks)) + rest ≡ c.args.count = subst (λ (bs : List (List Waiting)). length (joined (take number bs)) + rest ≡ c.args.count) read c.filled-number.ensures.passed in
    whole-front blocks number c.args.count (omega (arith, passed, c.if-rest-eq0.true))

pub returns-clause-same : goal.returns-clause-same
returns-clause-same c =
    let blocks : List (List Waiting) = c.args.blocks.now.items in
    let number : ℕ = c.filled-number.result.0 in
    let rest : ℕ = c.filled-number.result.1 in
    let read : c.as_slice.result.now ≡ blocks = c.as_slice.ensures.value in
    let within : number ≤ length blocks = subst (λ (bs : List (List Waiting)). number ≤ length bs) read c.filled-number.ensures.within in
    let passed : length (joined (take number blocks)) + rest ≡ c.args.count = subst (λ (bs : List (List Waiting)). length (joined (take number bs)) + rest ≡ c.args.count) read c.filled-number.ensures.passed in
    let inside : number < length blocks = further-block blocks number rest c.args.count within passed c.requires.count c.if-rest-eq0.false in
    let less : rest < length (get_or blocks number []) = subst (λ (bs : List (List Waiting)). number < length bs → rest < length (get_or bs number [])) read c.filled-number.ensures.left inside in
    ap joined c.in_ok-split.ensures.ok ∙ joined-split blocks number rest inside

pub returns-clause-nonempty : goal.returns-clause-nonempty
returns-clause-nonempty c =
    let blocks : List (List Waiting) = c.args.blocks.now.items in
    let number : ℕ = c.filled-number.result.0 in
    let rest : ℕ = c.filled-number.result.1 in
    let read : c.as_slice.result.now ≡ blocks = c.as_slice.ensures.value in
    let within : number ≤ length blocks = subst (λ (bs : List (List Waiting)). number ≤ length bs) read c.filled-number.ensures.within in
    let passed : length (joined (take number blocks)) + rest ≡ c.args.count = subst (λ (bs : List (List Waiting)). length (joined (take number bs)) + rest ≡ c.args.count) read c.filled-number.ensures.passed in
    let inside : number < length blocks = further-block blocks number rest c.args.count within passed c.requires.count c.if-rest-eq0.false in
    let less : rest < length (get_or blocks number []) = subst (λ (bs : List (List Waiting)). number < length bs → rest < length (get_or bs number [])) read c.filled-number.ensures.left inside in
    let some : 0 < rest = omega (arith, c.if-rest-eq0.false) in
    subst (All (λ (b : List Waiting). 0 < length b)) (sym c.in_ok-split.ensures.ok) (nonempty-split blocks number rest inside some less c.requires.nonempty)

pub returns-clause-front : goal.returns-clause-front
returns-clause-front c =
    let blocks : List (List Waiting) = c.args.blocks.now.items in
    let number : ℕ = c.filled-number.result.0 in
    let rest : ℕ = c.filled-number.result.1 in
    let read : c.as_slice.result.now ≡ blocks = c.as_slice.ensures.value in
    let within : number ≤ length blocks = subst (λ (bs : List (List Waiting)). number ≤ length bs) read c.filled-number.ensures.within in
    let passed : length (joined (take number blocks)) + rest ≡ c.args.count = subst (λ (bs : List (List Waiting)). length (joined (take number bs)) + rest ≡ c.args.count) read c.filled-number.ensures.passed in
    let inside : number < length blocks = further-block blocks number rest c.args.count within passed c.requires.count c.if-rest-eq0.false in
    let less : rest < length (get_or blocks number []) = subst (λ (bs : List (List Waiting)). number < length bs → rest < length (get_or bs number [])) read c.filled-number.ensures.left inside in
    ap (λ (bs : List (List Waiting)). joined (take (number + 1) bs)) c.in_ok-split.ensures.ok ∙ split-front blocks number rest c.args.count inside (omega (arith, less)) passed
