-- the matches give one command at most
use Rattle.command_shape.proofs.Prelude.{◌≡◌, ◌∙◌, ap, sym, refl, ℕ, Bool, true, false, List, [], Option, Some, None, codes, not, if◌then◌else◌, unwrap_or, bytes_eq, Row, Text, first_of, EvidenceCommand, name_of, number_of, flag_of, GivesProve, GivesRefute, GivesBench, GivesPair, GivesCall, MatchesGive, Call, Prove, Refute, Bench, Evidence, ProveCall, RefuteCall, BenchCall, PairCall}
use Rattle.command_shape.proofs.Members.{not_other, command_at, command_at-name_of}

text_at : Text → List Row → Text
text_at id rows = unwrap_or (first_of id rows) []

number_at : Text → List Row → ℕ
number_at id rows = unwrap_or (number_of id rows) 0

flag_at : Text → List Row → Bool
flag_at id rows = unwrap_or (flag_of id rows) false

is_text : (id : Text) (rows : List Row) (t : Text) → first_of id rows ≡ Some t → text_at id rows ≡ t
unfolding text_at
is_text id rows t e = rw e refl

is_number : (id : Text) (rows : List Row) (n : ℕ) → number_of id rows ≡ Some n → number_at id rows ≡ n
unfolding number_at
is_number id rows n e = rw e refl

is_unflagged : (id : Text) (rows : List Row) (b : Bool) → flag_of id rows ≡ Some (not b) → not (flag_at id rows) ≡ b
unfolding flag_at
is_unflagged id rows true e = rw e refl
is_unflagged id rows false e = rw e refl

prove_from : List Row → ProveCall
prove_from rows = record {
  file = text_at (codes "file") rows;
  pairs = number_at (codes "pairs") rows;
  steps = number_at (codes "steps") rows;
  workers = number_at (codes "workers") rows;
  seed = number_at (codes "seed") rows;
  format = number_at (codes "format") rows;
  models = not (flag_at (codes "no-models") rows);
}

prove_is : (rows : List Row) (p : ProveCall) → GivesProve rows p → prove_from rows ≡ p
unfolding prove_from
prove_is rows p g = rw (
  is_text (codes "file") rows p.file g.file,
  is_number (codes "pairs") rows p.pairs g.pairs,
  is_number (codes "steps") rows p.steps g.steps,
  is_number (codes "workers") rows p.workers g.workers,
  is_number (codes "seed") rows p.seed g.seed,
  is_number (codes "format") rows p.format g.format,
  is_unflagged (codes "no-models") rows p.models g.models,
) refl

refute_from : List Row → RefuteCall
refute_from rows = record { file = text_at (codes "file") rows; workers = number_at (codes "workers") rows; seed = number_at (codes "seed") rows }

refute_is : (rows : List Row) (r : RefuteCall) → GivesRefute rows r → refute_from rows ≡ r
unfolding refute_from
refute_is rows r g = rw (is_text (codes "file") rows r.file g.file, is_number (codes "workers") rows r.workers g.workers, is_number (codes "seed") rows r.seed g.seed) refl

bench_from : List Row → BenchCall
bench_from rows = record { size = number_at (codes "size") rows; workers = number_at (codes "workers") rows }

bench_is : (rows : List Row) (b : BenchCall) → GivesBench rows b → bench_from rows ≡ b
unfolding bench_from
bench_is rows b g = rw (is_number (codes "size") rows b.size g.size, is_number (codes "workers") rows b.workers g.workers) refl

pair_from : List Row → PairCall
pair_from rows = record { statement = text_at (codes "statement") rows; evidence = text_at (codes "evidence") rows }

pair_is : (rows : List Row) (p : PairCall) → GivesPair rows p → pair_from rows ≡ p
unfolding pair_from
pair_is rows p g = rw (is_text (codes "statement") rows p.statement g.statement, is_text (codes "evidence") rows p.evidence g.evidence) refl

call_from : Text → List Row → Call
call_from name rows = if bytes_eq name (codes "prove") then Prove (prove_from rows)
    else (if bytes_eq name (codes "refute") then Refute (refute_from rows)
    else (if bytes_eq name (codes "bench") then Bench (bench_from rows) else Evidence (command_at name) (pair_from rows)))

evidence_from : (command : EvidenceCommand) (rows : List Row) → call_from (name_of command) rows ≡ Evidence command (pair_from rows)
unfolding call_from
evidence_from command rows =
    let other = not_other command in
    rw (other.0, other.1, other.2) (ap (λ c. Evidence c (pair_from rows)) (command_at-name_of command))

named : (name other : Text) (rows : List Row) (call : Call) → name ≡ other → call_from other rows ≡ call → call_from name rows ≡ call
named name other rows call e f = ap (λ t. call_from t rows) e ∙ f

call_is : (name : Text) (rows : List Row) (call : Call) → GivesCall name rows call → call_from name rows ≡ call
unfolding call_from
call_is name rows (Prove p) g = named name (codes "prove") rows (Prove p) g.0 (ap (λ x. Prove x) (prove_is rows p g.1))
call_is name rows (Refute r) g = named name (codes "refute") rows (Refute r) g.0 (ap (λ x. Refute x) (refute_is rows r g.1))
call_is name rows (Bench b) g = named name (codes "bench") rows (Bench b) g.0 (ap (λ x. Bench x) (bench_is rows b g.1))
call_is name rows (Evidence command p) g = named name (name_of command) rows (Evidence command p) g.0 (evidence_from command rows ∙ ap (λ x. Evidence command x) (pair_is rows p g.1))

pub one_call : (o : Option (Text × List Row)) (a b : Call) → MatchesGive o a → MatchesGive o b → a ≡ b
one_call None a b g h = absurd g
one_call (Some m) a b g h = sym (call_is m.0 m.1 a g) ∙ call_is m.0 m.1 b h
