-- The ranges of options, and their defaults.
use Rattle.std.specs.Prelude.{ℕ, ◌-◌, ◌^◌, List, codes}
use Rattle.std.specs.Str.Parse.{digits_value}

-- of the ambiguities that may be treated
abbrev pub pair_limit : ℕ
pair_limit = 1000000

-- of the steps that a reduction may make
abbrev pub step_limit : ℕ
step_limit = 1000000

abbrev pub seed_limit : ℕ
seed_limit = 2 ^ 64 - 1

-- of the formats of certificates
abbrev pub format_limit : ℕ
format_limit = 2

-- of the size of the statement of a bench
abbrev pub size_limit : ℕ
size_limit = 60

-- the words of the defaults
abbrev pub default_pairs_word : List ℕ
default_pairs_word = codes "5000"

abbrev pub default_steps_word : List ℕ
default_steps_word = codes "20000"

abbrev pub default_workers_word : List ℕ
default_workers_word = codes "4"

abbrev pub default_seed_word : List ℕ
default_seed_word = codes "1"

abbrev pub default_format_word : List ℕ
default_format_word = codes "2"

-- the numbers of these words
abbrev pub default_pairs : ℕ
default_pairs = digits_value 10 default_pairs_word

abbrev pub default_steps : ℕ
default_steps = digits_value 10 default_steps_word

abbrev pub default_workers : ℕ
default_workers = digits_value 10 default_workers_word

abbrev pub default_seed : ℕ
default_seed = digits_value 10 default_seed_word

abbrev pub default_format : ℕ
default_format = digits_value 10 default_format_word
