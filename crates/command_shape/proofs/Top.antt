-- the first word names the command, which reads those after it
use Rattle.command_shape.proofs.Prelude.{◌≡◌, ◌∙◌, ap, sym, refl, false, List, [], ◌∷◌, ◌++◌, Some, None, fold, find, append-nil, append_assoc, Rule, Text, Walk, walked, rows_after, nothing_held, answers_to, walk, App, Shape, label_of, names_of, built, built_leaf, inherited, marked_built, with_leaf_noted, entered, subcommand_of, turn_fault, walk_fault, level_fault, defaults_fault, command_set, IsTaken, bare_command}
use Rattle.clap.specs.Walk.{Names}
use Rattle.command_shape.proofs.Steps.{between}
use Rattle.command_shape.proofs.Options.{or_nothing}

-- a command as it is in the set once that is built
abbrev pub leaf : App → Shape
leaf a = built_leaf (inherited (with_leaf_noted (marked_built (record bare_command.top { is_leaf = false }))) a.top)

abbrev pub after_name : Text → List Text → Walk
after_name name rest = record (between [] None 1) { stopped = Some (name, rest) }

-- the words after the command are left to it
left_over : (c : List Rule) (names : Names) (name : Text) (before rest : List Text) → fold (walked c names) (after_name name before) rest ≡ after_name name (before ++ rest)
unfolding walked
left_over c names name before [] = ap (after_name name) (sym (append-nil before))
left_over c names name before (word ∷ rest) = left_over c names name (before ++ word ∷ []) rest ∙ ap (after_name name) (append_assoc before (word ∷ []) rest)

left_well : (s : Shape) (names : Names) (name : Text) (before rest : List Text) → walk_fault s names (after_name name before) rest ≡ []
unfolding walk_fault walked
left_well s names name before [] = refl
left_well s names name before (word ∷ rest) = left_well s names name (before ++ word ∷ []) rest

-- the name is that of the command a, as a test on literals
pub record IsNamed (name : Text) (a : App) : Type 0 where
  pub entry : walked [] (names_of (built command_set)) (between [] None 1) name ≡ after_name name []
  pub well : turn_fault (built command_set).top (names_of (built command_set)) (between [] None 1) name ≡ []
  pub found : find (λ s. answers_to name (label_of s)) (built command_set).subs ≡ Some (leaf a)
  pub name_is : (leaf a).name ≡ name

top_rules : (built command_set).top.rules ≡ []
unfolding command_set
top_rules = refl

module _ (name : Text) (a : App) (n : IsNamed name a) (rest : List Text) where
  top_walk : walk (built command_set).top.rules (names_of (built command_set)) nothing_held (name ∷ rest) ≡ after_name name rest
  top_walk =
      ap (λ c. walk c (names_of (built command_set)) nothing_held (name ∷ rest)) top_rules
      ∙ ap (λ w. fold (walked [] (names_of (built command_set))) w rest) n.entry ∙ left_over [] (names_of (built command_set)) name [] rest

  pub names_command : subcommand_of command_set (name ∷ rest) ≡ Some (name, rows_after (leaf a).rules [] rest)
  unfolding command_set
  names_command = ap (λ (w : Walk). entered (built command_set) w.stopped) top_walk ∙ rw n.found (ap (λ t. Some (t, rows_after (leaf a).rules [] rest)) n.name_is)

  pub takes_command : level_fault (leaf a) [] nothing_held rest false [] ≡ [] → IsTaken (name ∷ rest)
  unfolding IsTaken walk_fault defaults_fault command_set
  takes_command below =
      or_nothing _ _ (or_nothing _ _ n.well (ap (λ w. walk_fault (built command_set).top (names_of (built command_set)) w rest) n.entry ∙ left_well (built command_set).top (names_of (built command_set)) name [] rest))
      (rw (top_walk, n.found, below) refl)
