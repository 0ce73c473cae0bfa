use Rattle.word_orders.proofs.Prelude.{◌≡◌, ℕ, suc, [], ◌∷◌, ◌++◌, get_or, take, drop, Err, MatchResult, sym, subst, rules, take_more, Letter, entry_fault, HasNoFault, Explains}
use Rattle.word_orders.proofs.FirstFault.{split_at}
use Rattle.word_orders.proofs.WeightReading.{ReadsWeights, ReadsWeights-empty, ReadsWeights-more, ReadsWeights-fault}
use Rattle.word_orders.proofs.weight.WeightLex.new.Goals as goal

pub loop-entry-init : goal.loop-entry-init
loop-entry-init c = subst (ReadsWeights c.args.letters []) (sym c.in_ok-order.ensures) (ReadsWeights-empty c.args.letters)

pub loop-entry-preserved : goal.loop-entry-preserved
loop-entry-preserved c =
    let i = c.loop-entry.entry-index in
    let weights = c.args.weights.now in
    let entry : Letter × ℕ = get_or weights i (record { 0 = 0 }, 0) in
    let read = ReadsWeights-more c.args.letters (take i weights) c.loop-entry.order c.loop-entry.invariant entry c.in_ok-put.ensures.fault in
    let put = subst (ReadsWeights c.args.letters (take i weights ++ (entry ∷ []))) (sym c.in_ok-put.ensures.ok) read in
    subst (λ front. ReadsWeights c.args.letters front c.put.new.self) (sym (take_more weights i (record { 0 = 0 }, 0) c.loop-entry-test.true)) put

pub returns-in_err-put-clause-first_fault : goal.returns-in_err-put-clause-first_fault
returns-in_err-put-clause-first_fault c =
    let i = c.loop-entry.entry-index in
    let weights = c.args.weights.now in
    let letters = c.args.letters in
    let entry : Letter × ℕ = get_or weights i (record { 0 = 0 }, 0) in
    let fault = c.in_err-put.field-0.0 in
    let fails : c.from_residual-in_err-put.result ≡ Err fault = search rules in
    let front = ReadsWeights-fault letters (take i weights) c.loop-entry.order c.loop-entry.invariant entry (drop (suc i) weights) fault c.in_err-put.ensures.fault in
    let explains = subst (λ items. Explains (entry_fault letters) items fault) (split_at weights i (record { 0 = 0 }, 0) c.loop-entry-test.true) front in
    subst (λ result. MatchResult result (λ _. HasNoFault (entry_fault letters) weights) (Explains (entry_fault letters) weights)) (sym fails) explains
