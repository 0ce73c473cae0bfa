use Rattle.word_orders.proofs.Prelude.{◌≡◌, suc, [], ◌∷◌, ◌++◌, get_or, take, drop, Err, MatchResult, sym, subst, rules, take_more, Letter, block_fault, HasNoFault, Explains}
use Rattle.word_orders.proofs.FirstFault.{split_at}
use Rattle.word_orders.proofs.BlockReading.{ReadsBlock, ReadsBlock-empty, ReadsBlock-more, ReadsBlock-fault}
use Rattle.word_orders.proofs.block.BlockLex.new.Goals as goal

pub loop-letter-init : goal.loop-letter-init
loop-letter-init c = subst (ReadsBlock c.args.letters []) (sym c.in_ok-order.ensures) (ReadsBlock-empty c.args.letters)

pub loop-letter-preserved : goal.loop-letter-preserved
loop-letter-preserved c =
    let i = c.loop-letter.letter-index in
    let block = c.args.block.now in
    let letter : Letter = get_or block i (record { 0 = 0 }) in
    let read = ReadsBlock-more c.args.letters (take i block) c.loop-letter.order c.loop-letter.invariant letter c.in_ok-put.ensures.fault in
    let put = subst (ReadsBlock c.args.letters (take i block ++ (letter ∷ []))) (sym c.in_ok-put.ensures.ok) read in
    subst (λ front. ReadsBlock c.args.letters front c.put.new.self) (sym (take_more block i (record { 0 = 0 }) c.loop-letter-test.true)) put

pub returns-in_err-put-clause-first_fault : goal.returns-in_err-put-clause-first_fault
returns-in_err-put-clause-first_fault c =
    let i = c.loop-letter.letter-index in
    let block = c.args.block.now in
    let letters = c.args.letters in
    let letter : Letter = get_or block i (record { 0 = 0 }) in
    let fault = c.in_err-put.field-0.0 in
    let fails : c.from_residual-in_err-put.result ≡ Err fault = search rules in
    let front = ReadsBlock-fault letters (take i block) c.loop-letter.order c.loop-letter.invariant letter (drop (suc i) block) fault c.in_err-put.ensures.fault in
    let explains = subst (λ items. Explains (block_fault letters) items fault) (split_at block i (record { 0 = 0 }) c.loop-letter-test.true) front in
    subst (λ result. MatchResult result (λ _. HasNoFault (block_fault letters) block) (Explains (block_fault letters) block)) (sym fails) explains
