-- What words name.
use Rattle.std.specs.Prelude.{◌≡◌, ◌≤◌, ⊤, Bool, ℕ, List, [], ◌∷◌, Option, Some, None, codes, not, option_map, flat_map, decimal}
use Rattle.std.specs.Str.{bytes_eq}
use Rattle.std.specs.Str.Parse.{digits_value, without_leading_plus}
use Rattle.clap.specs.Words.{Row, Text, first_of, one_of}
use Rattle.in_order_parallel.specs.Limits.{worker_limit}
use Rattle.command_shape.specs.Limits.{pair_limit, step_limit, seed_limit, format_limit, size_limit}
use Rattle.command_shape.specs.Limits.{default_pairs, default_steps, default_workers, default_seed, default_format}
use Rattle.command_shape.specs.CommandSet.{name_of}
use Rattle.command_shape.specs.Accepted.{Given, given_words, IsFileWord, Span, AreOptions, option_of, number_or, is_flag}
use Rattle.command_shape.specs.declared.call.Call.{Call}
use Rattle.command_shape.specs.declared.call.Call.TheVariants.{Prove, Refute, Bench, Evidence}
use Rattle.command_shape.specs.declared.call.ProveCall.{ProveCall}
use Rattle.command_shape.specs.declared.call.RefuteCall.{RefuteCall}
use Rattle.command_shape.specs.declared.call.BenchCall.{BenchCall}
use Rattle.command_shape.specs.declared.call.PairCall.{PairCall}

-- the number that `u64` reads of the value
abbrev pub number_of : Text → List Row → Option ℕ
number_of id rows = option_map (λ text. digits_value 10 (without_leading_plus text)) (one_of id rows)

abbrev pub flag_of : Text → List Row → Option Bool
flag_of id rows = option_map (λ text. bytes_eq text (codes "true")) (one_of id rows)

pub record GivesProve (rows : List Row) (p : ProveCall) : Type 0 where
  pub file : first_of (codes "file") rows ≡ Some p.file
  pub pairs : number_of (codes "pairs") rows ≡ Some p.pairs
  pub steps : number_of (codes "steps") rows ≡ Some p.steps
  pub workers : number_of (codes "workers") rows ≡ Some p.workers
  pub seed : number_of (codes "seed") rows ≡ Some p.seed
  pub format : number_of (codes "format") rows ≡ Some p.format
  pub models : flag_of (codes "no-models") rows ≡ Some (not p.models)

pub record GivesRefute (rows : List Row) (r : RefuteCall) : Type 0 where
  pub file : first_of (codes "file") rows ≡ Some r.file
  pub workers : number_of (codes "workers") rows ≡ Some r.workers
  pub seed : number_of (codes "seed") rows ≡ Some r.seed

pub record GivesBench (rows : List Row) (b : BenchCall) : Type 0 where
  pub size : number_of (codes "size") rows ≡ Some b.size
  pub workers : number_of (codes "workers") rows ≡ Some b.workers

pub record GivesPair (rows : List Row) (p : PairCall) : Type 0 where
  pub statement : first_of (codes "statement") rows ≡ Some p.statement
  pub evidence : first_of (codes "evidence") rows ≡ Some p.evidence

-- the command of these matches, by its name and its rows
abbrev pub GivesCall : Text → List Row → Call → Type 0
GivesCall name rows (Prove p) = (name ≡ codes "prove") × GivesProve rows p
GivesCall name rows (Refute r) = (name ≡ codes "refute") × GivesRefute rows r
GivesCall name rows (Bench b) = (name ≡ codes "bench") × GivesBench rows b
GivesCall name rows (Evidence command p) = (name ≡ name_of command) × GivesPair rows p

abbrev pub MatchesGive : Option (Text × List Row) → Call → Type 0
MatchesGive None call = ⊥
MatchesGive (Some m) call = GivesCall m.0 m.1 call

-- the ranges
abbrev pub IsWithin : ℕ → ℕ → ℕ → Type 0
IsWithin least most n = (least ≤ n) × (n ≤ most)

abbrev pub IsInRange : Call → Type 0
IsInRange (Prove p) =
    IsWithin 1 pair_limit p.pairs × IsWithin 1 step_limit p.steps × IsWithin 1 worker_limit p.workers × IsWithin 0 seed_limit p.seed
    × IsWithin 1 format_limit p.format
IsInRange (Refute r) = IsWithin 1 worker_limit r.workers × IsWithin 0 seed_limit r.seed
IsInRange (Bench b) = IsWithin 1 size_limit b.size × IsWithin 1 worker_limit b.workers
IsInRange (Evidence command p) = ⊤

-- of an accepted list
abbrev pub prove_spans : List Span
prove_spans = record { id = codes "pairs"; least = 1; most = pair_limit }
    ∷ record { id = codes "steps"; least = 1; most = step_limit }
    ∷ record { id = codes "workers"; least = 1; most = worker_limit }
    ∷ record { id = codes "seed"; least = 0; most = seed_limit }
    ∷ record { id = codes "format"; least = 1; most = format_limit } ∷ []

abbrev pub refute_spans : List Span
refute_spans = record { id = codes "workers"; least = 1; most = worker_limit }
    ∷ record { id = codes "seed"; least = 0; most = seed_limit } ∷ []

abbrev pub bench_spans : List Span
bench_spans = record { id = codes "workers"; least = 1; most = worker_limit } ∷ []

-- the command first, then its file, then its options
pub record NamesProve (words : List Text) (p : ProveCall) : Type 0 where
  pub given : List Given
  pub words_are : words ≡ codes "prove" ∷ p.file ∷ flat_map given_words given
  pub file : IsFileWord p.file
  pub options : AreOptions prove_spans (codes "no-models" ∷ []) given
  pub pairs : p.pairs ≡ number_or default_pairs (option_of (codes "pairs") given)
  pub steps : p.steps ≡ number_or default_steps (option_of (codes "steps") given)
  pub workers : p.workers ≡ number_or default_workers (option_of (codes "workers") given)
  pub seed : p.seed ≡ number_or default_seed (option_of (codes "seed") given)
  pub format : p.format ≡ number_or default_format (option_of (codes "format") given)
  pub models : p.models ≡ not (is_flag (option_of (codes "no-models") given))

pub record NamesRefute (words : List Text) (r : RefuteCall) : Type 0 where
  pub given : List Given
  pub words_are : words ≡ codes "refute" ∷ r.file ∷ flat_map given_words given
  pub file : IsFileWord r.file
  pub options : AreOptions refute_spans [] given
  pub workers : r.workers ≡ number_or default_workers (option_of (codes "workers") given)
  pub seed : r.seed ≡ number_or default_seed (option_of (codes "seed") given)

pub record NamesBench (words : List Text) (b : BenchCall) : Type 0 where
  pub given : List Given
  pub words_are : words ≡ codes "bench" ∷ decimal b.size ∷ flat_map given_words given
  pub least : 1 ≤ b.size
  pub most : b.size ≤ size_limit
  pub options : AreOptions bench_spans [] given
  pub workers : b.workers ≡ number_or default_workers (option_of (codes "workers") given)

pub record NamesPair (name : Text) (words : List Text) (p : PairCall) : Type 0 where
  pub words_are : words ≡ name ∷ p.statement ∷ p.evidence ∷ []
  pub statement : IsFileWord p.statement
  pub evidence : IsFileWord p.evidence

-- the list of words is accepted, and names this
abbrev pub Names : List Text → Call → Type 0
Names words (Prove p) = NamesProve words p
Names words (Refute r) = NamesRefute words r
Names words (Bench b) = NamesBench words b
Names words (Evidence command p) = NamesPair (name_of command) words p
