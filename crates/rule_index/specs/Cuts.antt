-- The nodes, links and places that are left when the last words are removed.
use Rattle.std.specs.Prelude.{◌≡◌, ℕ, ◌+◌, ◌<◌, ◌≤◌, nat_lt, List, length, get_or, take, drop, true, Option, Some, None, if◌then◌else◌}
use Rattle.std.specs.List.{All}
use Rattle.rule_index.specs.declared.tree.Tree.{Tree}
use Rattle.rule_index.specs.Prefixes.{has, word_at}
use Rattle.rule_index.specs.Automaton.{longest, IsTree, IsWithin, HasLetters}

-- the node is that of the longest suffix among the first words
pub record IsKept (words : List (List ℕ)) (size before after : ℕ) : Type 0 where
  pub inside : after < size
  pub word_is : word_at words after ≡ longest (take size words) (word_at words before)

-- the links of the nodes from a place on lead to the longest proper suffix
pub record IsLinkedFrom (words : List (List ℕ)) (size : ℕ) (links : List ℕ) : Type 0 where
  pub link_in : (k : ℕ) → get_or links k 0 < length words
  pub link_is : (k : ℕ) → size ≤ k → k < length words → word_at words (get_or links k 0) ≡ longest words (drop 1 (word_at words k))

-- the place, where it is below the number
abbrev pub earlier : ℕ → Option ℕ → Option ℕ
earlier count None = None
earlier count (Some x) = if nat_lt x count then Some x else None

-- the first nodes stay, with the places below a number
pub record IsCut (old new : Tree) (size count : ℕ) : Type 0 where
  pub tree : IsTree new.nodes.items new.heads.items new.nexts.items new.links.items
  pub nodes : new.nodes.items ≡ take size old.nodes.items
  pub lettered : HasLetters new
  pub sized : length new.leasts.items ≡ size
  pub leasts : (k : ℕ) → k < size → get_or new.leasts.items k None ≡ earlier count (get_or old.leasts.items k None)

-- of each number of entries the number of words that are their prefixes, and these words come first
pub record IsCounted (entries : List (List ℕ × ℕ)) (words : List (List ℕ)) (sizes : List ℕ) : Type 0 where
  pub sized : length sizes ≡ length entries + 1
  pub some : (i : ℕ) → i ≤ length entries → 0 < get_or sizes i 0
  pub rising : (i j : ℕ) → i ≤ j → j ≤ length entries → get_or sizes i 0 ≤ get_or sizes j 0
  pub last : get_or sizes (length entries) 0 ≡ length words
  pub within : (i : ℕ) → i ≤ length entries → IsWithin (take i entries) (take (get_or sizes i 0) words)
  pub listed : (i : ℕ) → i ≤ length entries → All (λ e. has (take (get_or sizes i 0) words) e.0 ≡ true) (take i entries)
