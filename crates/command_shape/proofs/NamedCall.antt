-- The call that a taken list of words names.
use Rattle.command_shape.proofs.Prelude.{◌≡◌, ◌∙◌, ap, inl, inr, refl, not, ℕ, Bool, true, false, List, Option, Some, None, codes, option_map, bytes_eq, digits_value, without_leading_plus, Row, Text, subcommand_of, worker_limit, pair_limit, step_limit, seed_limit, format_limit, size_limit, command_set, IsTaken, HasNumber, HasFlag, HasProve, HasRefute, HasBench, HasPair, HasCommand, MatchesHave, number_of, flag_of, GivesProve, GivesRefute, GivesBench, GivesPair, GivesCall, MatchesGive, Call, Prove, Refute, Bench, Evidence, ProveCall, RefuteCall, BenchCall, PairCall}
use Rattle.command_shape.proofs.Entered.{taken_has}

number_given : (id : Text) (least most : ℕ) (rows : List Row) → HasNumber id least most rows → (n : ℕ) × (number_of id rows ≡ Some n)
number_given id least most rows h = (digits_value 10 (without_leading_plus h.0), ap (option_map (λ text. digits_value 10 (without_leading_plus text))) h.1)

flag_given : (id : Text) (rows : List Row) → HasFlag id rows → (b : Bool) × (flag_of id rows ≡ Some b)
flag_given id rows (inl e) = (true, ap (option_map (λ text. bytes_eq text (codes "true"))) e)
flag_given id rows (inr e) = (false, ap (option_map (λ text. bytes_eq text (codes "true"))) e)

twice : (b : Bool) → b ≡ not (not b)
twice true = refl
twice false = refl

prove_call : (rows : List Row) → HasProve rows → (p : ProveCall) × GivesProve rows p
prove_call rows h =
    let flag = flag_given (codes "no-models") rows h.models in
    let pairs = number_given (codes "pairs") 1 pair_limit rows h.pairs in
    let steps = number_given (codes "steps") 1 step_limit rows h.steps in
    let workers = number_given (codes "workers") 1 worker_limit rows h.workers in
    let seed = number_given (codes "seed") 0 seed_limit rows h.seed in
    let format = number_given (codes "format") 1 format_limit rows h.format in (
      record { file = h.file.0; pairs = pairs.0; steps = steps.0; workers = workers.0; seed = seed.0; format = format.0; models = not flag.0 },
      record { file = h.file.1; pairs = pairs.1; steps = steps.1; workers = workers.1; seed = seed.1; format = format.1; models = flag.1 ∙ ap Some (twice flag.0) },
    )

refute_call : (rows : List Row) → HasRefute rows → (r : RefuteCall) × GivesRefute rows r
refute_call rows h =
    let workers = number_given (codes "workers") 1 worker_limit rows h.workers in
    let seed = number_given (codes "seed") 0 seed_limit rows h.seed in
    (record { file = h.file.0; workers = workers.0; seed = seed.0 }, record { file = h.file.1; workers = workers.1; seed = seed.1 })

bench_call : (rows : List Row) → HasBench rows → (b : BenchCall) × GivesBench rows b
bench_call rows h =
    let size = number_given (codes "size") 1 size_limit rows h.size in
    let workers = number_given (codes "workers") 1 worker_limit rows h.workers in
    (record { size = size.0; workers = workers.0 }, record { size = size.1; workers = workers.1 })

pair_call : (rows : List Row) → HasPair rows → (p : PairCall) × GivesPair rows p
pair_call rows h = (record { statement = h.statement.0; evidence = h.evidence.0 }, record { statement = h.statement.1; evidence = h.evidence.1 })

call_given : (name : Text) (rows : List Row) → HasCommand name rows → (call : Call) × GivesCall name rows call
call_given name rows (inl h) =
    let p = prove_call rows h.1 in
    (Prove p.0, (h.0, p.1))
call_given name rows (inr (inl h)) =
    let r = refute_call rows h.1 in
    (Refute r.0, (h.0, r.1))
call_given name rows (inr (inr (inl h))) =
    let b = bench_call rows h.1 in
    (Bench b.0, (h.0, b.1))
call_given name rows (inr (inr (inr h))) =
    let p = pair_call rows h.1 in
    (Evidence h.0.0 p.0, (h.0.1, p.1))

matches_given : (o : Option (Text × List Row)) → MatchesHave o → (call : Call) × MatchesGive o call
matches_given None h = absurd h
matches_given (Some m) h = call_given m.0 m.1 h

-- a list that is taken names a call
pub taken_names : (words : List Text) → IsTaken words → (call : Call) × MatchesGive (subcommand_of command_set words) call
taken_names words taken = matches_given (subcommand_of command_set words) (taken_has words taken)
