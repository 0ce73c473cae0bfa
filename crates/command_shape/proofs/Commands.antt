-- an accepted list is taken, and clap's matches of it give what it names
use Rattle.command_shape.proofs.Prelude.{◌≡◌, ◌∙◌, ap, sym, subst, refl, false, List, [], ◌∷◌, ◌^◌, ◌<◌, arith, Some, None, codes, decimal, fold, Row, Text, with_default, walked, App, subcommand_of, check_fault, turn_fault, walk_fault, clap_on_literals, size_limit, default_pairs_word, default_steps_word, default_workers_word, default_seed_word, default_format_word, default_pairs, default_steps, command_set, IsTaken, name_of, prove_command, refute_command, bench_command, pair_command, IsFileWord, GivesPair, MatchesGive, Names, NamesProve, NamesRefute, NamesBench, NamesPair, prove_spans, refute_spans, bench_spans, Call, Prove, Refute, Bench, Evidence, ProveCall, RefuteCall, BenchCall, PairCall}
use Rattle.clap.specs.declared.builder.value_parser.ValueParser.TheVariants as parser
use Rattle.command_shape.proofs.Steps.{given_row, plain_word, between}
use Rattle.command_shape.proofs.Options.{Goes, or_nothing}
use Rattle.command_shape.proofs.Ends.{IsPlaceOf, Level, AreClean, level, row_at, row_kept, first_placed, first_placed_well, next_placed, next_placed_well, place_settles, place_settles_well}
use Rattle.command_shape.proofs.Top.{leaf, IsNamed, names_command, takes_command}
use Rattle.command_shape.proofs.Members.{named, evidence_named}
use Rattle.command_shape.proofs.Numbers.{decimal_word, decimal_value, decimal_passes}
use Rattle.command_shape.proofs.Gives.{IsOptionCommand, option_known, span_known, text_in, number_in, first_kept, option_level, reads_number, reads_flag}

-- a command that takes its words, by name
accepted_as : (name : Text) (a : App) {words rest : List Text} {rows : List Row} (call : Call) → IsNamed name a → words ≡ name ∷ rest → Level (leaf a) rest rows
    → MatchesGive (Some (name, rows)) call → IsTaken words × MatchesGive (subcommand_of command_set words) call
accepted_as name a {rest = rest} call named is l gives =
    let matches = names_command name a named rest ∙ ap (λ r. Some (name, r)) l.is in
    (subst IsTaken (sym is) (takes_command name a named rest l.well), subst (λ m. MatchesGive m call) (sym (ap (subcommand_of command_set) is ∙ matches)) gives)

-- the commands of a first word and options
prove_options : IsOptionCommand (leaf prove_command) (codes "file") parser.String prove_spans (codes "no-models" ∷ [])
unfolding clap_on_literals
prove_options = record {
  never = refl;
  place = record { by_index = refl; by_id = refl; reading = refl };
  each_span = (
    span_known default_pairs_word refl (omega arith) refl,
    (
      span_known default_steps_word refl (omega arith) refl,
      (
        span_known default_workers_word refl (omega arith) refl,
        (span_known default_seed_word refl (omega arith) refl, (span_known default_format_word refl (omega arith) refl, tt)),
      ),
    ),
  );
  each_flag = (record { option = option_known refl; other = refl }, tt);
  clean = (refl, (refl, (refl, (refl, (refl, (refl, (refl, tt)))))));
  check = λ rows v e. rw e refl;
}

prove_accepted : (words : List Text) (x : ProveCall) → NamesProve words x → IsTaken words × MatchesGive (subcommand_of command_set words) (Prove x)
prove_accepted words x n =
    let read = reads_number prove_options x.file n.given n.options in
    accepted_as (codes "prove") prove_command (Prove x) named.0 n.words_are (option_level prove_options x.file n.given n.options n.file refl) (
      refl,
      record {
        file = ap text_in (first_kept prove_options x.file n.given n.options);
        pairs = read (codes "pairs") refl default_pairs refl (refl, tt) x.pairs n.pairs;
        steps = read (codes "steps") refl default_steps refl (refl, tt) x.steps n.steps;
        workers = read (codes "workers") refl 4 refl (refl, tt) x.workers n.workers;
        seed = read (codes "seed") refl 1 refl (refl, tt) x.seed n.seed;
        format = read (codes "format") refl 2 refl (refl, tt) x.format n.format;
        models = reads_flag prove_options x.file n.given n.options (codes "no-models") refl refl (refl, (refl, (refl, (refl, (refl, tt))))) x.models n.models;
      },
    )

refute_options : IsOptionCommand (leaf refute_command) (codes "file") parser.String refute_spans []
unfolding clap_on_literals
refute_options = record {
  never = refl;
  place = record { by_index = refl; by_id = refl; reading = refl };
  each_span = (span_known default_workers_word refl (omega arith) refl, (span_known default_seed_word refl (omega arith) refl, tt));
  each_flag = tt;
  clean = (refl, (refl, (refl, tt)));
  check = λ rows v e. rw e refl;
}

refute_accepted : (words : List Text) (x : RefuteCall) → NamesRefute words x → IsTaken words × MatchesGive (subcommand_of command_set words) (Refute x)
refute_accepted words x n =
    let read = reads_number refute_options x.file n.given n.options in
    accepted_as (codes "refute") refute_command (Refute x) named.1 n.words_are (option_level refute_options x.file n.given n.options n.file refl) (
      refl,
      record {
        file = ap text_in (first_kept refute_options x.file n.given n.options);
        workers = read (codes "workers") refl 4 refl tt x.workers n.workers;
        seed = read (codes "seed") refl 1 refl tt x.seed n.seed;
      },
    )

bench_options : IsOptionCommand (leaf bench_command) (codes "size") (parser.Unsigned 1 size_limit) bench_spans []
unfolding clap_on_literals
bench_options = record {
  never = refl;
  place = record { by_index = refl; by_id = refl; reading = refl };
  each_span = (span_known default_workers_word refl (omega arith) refl, tt);
  each_flag = tt;
  clean = (refl, (refl, tt));
  check = λ rows v e. rw e refl;
}

bench_accepted : (words : List Text) (x : BenchCall) → NamesBench words x → IsTaken words × MatchesGive (subcommand_of command_set words) (Bench x)
bench_accepted words x n =
    let v : Text = decimal x.size in
    let fits : x.size < 2 ^ 64 = omega (arith, n.most) in
    let l = option_level bench_options v n.given n.options (decimal_word x.size fits) (decimal_passes 1 size_limit x.size fits n.least n.most) in
    accepted_as (codes "bench") bench_command (Bench x) named.2 n.words_are l (
      refl,
      record {
        size = ap number_in (first_kept bench_options v n.given n.options) ∙ ap Some (decimal_value x.size fits);
        workers = reads_number bench_options v n.given n.options (codes "workers") refl 4 refl tt x.workers n.workers;
      },
    )

-- the commands of a statement and a second file
statement_place : (name : Text) → IsPlaceOf (leaf (pair_command name)).rules (codes "statement") 1 parser.String
statement_place name = record { by_index = refl; by_id = refl; reading = refl }

evidence_place : (name : Text) → IsPlaceOf (leaf (pair_command name)).rules (codes "evidence") 2 parser.String
evidence_place name = record { by_index = refl; by_id = refl; reading = refl }

pair_clean : (name : Text) → AreClean (leaf (pair_command name)).rules
unfolding clap_on_literals
pair_clean name = (refl, (refl, tt))

pair_check : (name : Text) (rows : List Row) (v w : Text) → row_at (codes "statement") rows ≡ Some (given_row (codes "statement") v)
    → row_at (codes "evidence") rows ≡ Some (given_row (codes "evidence") w) → check_fault (leaf (pair_command name)) rows false ≡ []
pair_check name rows v w e f = rw (e, f) refl

pair_goes : (name : Text) (v w : Text) → IsFileWord v → IsFileWord w
    → Goes (leaf (pair_command name)) (between [] None 1) (v ∷ w ∷ []) (given_row (codes "statement") v ∷ given_row (codes "evidence") w ∷ []) 3
unfolding walk_fault
pair_goes name v w file_v file_w =
    let s = leaf (pair_command name) in
    let one = statement_place name in
    let two = evidence_place name in
    let row = given_row (codes "statement") v in
    let first = first_placed s.rules (codes "statement") parser.String one v (plain_word v file_v) in
    let settles = place_settles s.rules (codes "statement") 1 parser.String one [] v refl in
    let well = place_settles_well s.rules (codes "statement") 1 parser.String one [] v refl refl in
    let second : walked s.rules [] (walked s.rules [] (between [] None 1) v) w ≡ between (row ∷ []) (Some (codes "evidence", w ∷ [])) 3 =
    ap (λ x. walked s.rules [] x w) first ∙ next_placed s.rules (codes "evidence") parser.String two [] (codes "statement") v refl w (plain_word w file_w)
    ∙ ap (λ r. between r (Some (codes "evidence", w ∷ [])) 3) settles in
    record {
      rows = row ∷ [];
      pending = Some (codes "evidence", w ∷ []);
      walk = second;
      well = or_nothing _ _ (first_placed_well s (codes "statement") parser.String one v (plain_word v file_v))
          (or_nothing _ _ (ap (λ x. turn_fault s [] x w) first ∙ next_placed_well s (codes "evidence") parser.String two [] (codes "statement") v refl well w (plain_word w file_w)) refl);
      settled = place_settles s.rules (codes "evidence") 2 parser.String two (row ∷ []) w refl;
      last = place_settles_well s.rules (codes "evidence") 2 parser.String two (row ∷ []) w refl refl;
    }

pair_level : (name : Text) (x : PairCall) → IsFileWord x.statement → IsFileWord x.evidence
    → (rows : List Row) × Level (leaf (pair_command name)) (x.statement ∷ x.evidence ∷ []) rows × GivesPair rows x
pair_level name x one two =
    let s = leaf (pair_command name) in
    let v : Text = x.statement in
    let w : Text = x.evidence in
    let all : List Row = given_row (codes "statement") v ∷ given_row (codes "evidence") w ∷ [] in
    let first : row_at (codes "statement") (fold with_default all s.rules) ≡ Some (given_row (codes "statement") v) = row_kept s.rules (codes "statement") (given_row (codes "statement") v) all refl in
    let second : row_at (codes "evidence") (fold with_default all s.rules) ≡ Some (given_row (codes "evidence") w) = row_kept s.rules (codes "evidence") (given_row (codes "evidence") w) all refl in (
      fold with_default all s.rules,
      level s (v ∷ w ∷ []) all 3 (pair_goes name v w one two) (pair_clean name) (pair_check name (fold with_default all s.rules) v w first second),
      record { statement = ap text_in first; evidence = ap text_in second },
    )

pair_accepted : (name : Text) (words : List Text) (x : PairCall) (call : Call) → IsNamed name (pair_command name) → NamesPair name words x
    → ((rows : List Row) → GivesPair rows x → MatchesGive (Some (name, rows)) call) → IsTaken words × MatchesGive (subcommand_of command_set words) call
pair_accepted name words x call is_named n gives =
    let l = pair_level name x n.statement n.evidence in
    accepted_as name (pair_command name) call is_named n.words_are l.1 (gives l.0 l.2)

-- each accepted list
pub accepted : (words : List Text) (call : Call) → Names words call → IsTaken words × MatchesGive (subcommand_of command_set words) call
accepted words (Prove x) n = prove_accepted words x n
accepted words (Refute x) n = refute_accepted words x n
accepted words (Bench x) n = bench_accepted words x n
accepted words (Evidence command x) n = pair_accepted (name_of command) words x (Evidence command x) (evidence_named command) n (λ rows g. (refl, g))
