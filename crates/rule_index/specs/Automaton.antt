-- The nodes of the automaton, and its steps.
use Rattle.std.specs.Prelude.{◌≡◌, vec_len, take, ◌-◌, ℕ, suc, ◌+◌, ◌<◌, ◌≤◌, ◌⊎◌, ◌||◌, Bool, true, nat_lt, ◌*◌, ◌%◌, ◌^◌, bit_and, List}
use Rattle.std.specs.Prelude.{[], ◌∷◌, ◌++◌, length, get_or, drop, Option, Some, None, min, if◌then◌else◌}
use Rattle.std.specs.List.{All}
use Rattle.std.specs.Option.{option_map}
use Rattle.std.specs.Vec.{vec_capacity}
use Rattle.rule_index.specs.Matches.{begins_with}
use Rattle.rule_index.specs.Prefixes.{same_word, has, word_at, is_prefix}
use Rattle.rule_index.specs.declared.tree.Node.{Node}
use Rattle.rule_index.specs.declared.tree.Tree.{Tree}

-- the longest suffix that is among the words
abbrev pub longest : List (List ℕ) → List ℕ → List ℕ
longest words [] = []
longest words (x ∷ t) = if has words (x ∷ t) then x ∷ t else longest words t

-- whether the word ends with the other
abbrev pub ends_with : List ℕ → List ℕ → Bool
ends_with [] w = same_word [] w
ends_with (x ∷ t) w = same_word (x ∷ t) w || ends_with t w

-- the place of the first entry whose word passes the test
abbrev pub first_of : (List ℕ → Bool) → List (List ℕ × ℕ) → Option ℕ
first_of p [] = None
first_of p (e ∷ entries) = if p e.0 then Some 0 else option_map suc (first_of p entries)

-- whether the other occurs in the word
abbrev pub occurs : List ℕ → List ℕ → Bool
occurs [] w = begins_with [] w
occurs (x ∷ t) w = begins_with (x ∷ t) w || occurs t w

-- the lesser of two places
abbrev pub sooner : Option ℕ → Option ℕ → Option ℕ
sooner None other = other
sooner (Some x) None = Some x
sooner (Some x) (Some y) = Some (min x y)

abbrev pub root : Node
root = record { parent = 0; letter = 0; depth = 0 }

abbrev pub node_at : List Node → ℕ → Node
node_at nodes k = get_or nodes k root

-- a new child of the node
abbrev pub added_node : List Node → ℕ → ℕ → Node
added_node nodes at letter = record { parent = at; letter = letter; depth = (node_at nodes at).depth + 1 }

-- the node, where the link is less deep, and the link otherwise
abbrev pub relinked : List Node → ℕ → ℕ → ℕ
relinked nodes node link = if nat_lt (node_at nodes link).depth (node_at nodes node).depth then node else link

-- the place, unless there is an earlier one
abbrev pub marked : Option ℕ → ℕ → Option ℕ
marked None place = Some place
marked (Some x) place = Some x

-- the words of the nodes, each that of its parent with one more letter
abbrev pub grown : List (List ℕ) → List Node → List (List ℕ)
grown words [] = words
grown words (n ∷ nodes) = grown (words ++ (word_at words n.parent ++ n.letter ∷ []) ∷ []) nodes

abbrev pub words_of : List Node → List (List ℕ)
words_of [] = []
words_of (n ∷ nodes) = grown ([] ∷ []) nodes

-- of this many buckets, that of the children by a letter
unfoldable pub bucket_of : ℕ → ℕ → ℕ → ℕ
bucket_of count parent letter = bit_and ((parent + letter * 40503) % 2 ^ 64) (count - 1)

abbrev pub bucket_at : List Node → ℕ → ℕ → ℕ
bucket_at nodes count k = bucket_of count (node_at nodes k).parent (node_at nodes k).letter

-- of this many buckets, that of the nodes with a letter
unfoldable pub letter_bucket_of : ℕ → ℕ → ℕ
letter_bucket_of count letter = letter % count

-- of the first n nodes those of each bucket are linked, from the last one on
pub record IsThreaded (bucket : ℕ → ℕ) (size n : ℕ) (heads nexts : List ℕ) : Type 0 where
  pub some : 0 < n
  pub wide : 0 < length heads
  pub sized : length nexts ≡ size
  pub head_in : (b : ℕ) → get_or heads b 0 < n
  pub head_bucket : (b : ℕ) → 0 < get_or heads b 0 → bucket (get_or heads b 0) ≡ b
  pub head_last : (k : ℕ) → 0 < k → k < n → k ≤ get_or heads (bucket k) 0
  pub next_below : (k : ℕ) → 0 < k → k < n → get_or nexts k 0 < k
  pub next_bucket : (k : ℕ) → 0 < k → k < n → 0 < get_or nexts k 0 → bucket (get_or nexts k 0) ≡ bucket k
  pub next_last : (j k : ℕ) → 0 < j → j < k → k < n → bucket j ≡ bucket k → j ≤ get_or nexts k 0

-- the first nodes in the buckets of their parents and letters
abbrev pub IsChained : List Node → ℕ → List ℕ → List ℕ → Type 0
IsChained nodes n heads nexts = IsThreaded (bucket_at nodes (length heads)) (length nodes) n heads nexts

-- the first nodes in the buckets of their letters
abbrev pub IsLettered : List Node → ℕ → List ℕ → List ℕ → Type 0
IsLettered nodes n heads nexts = IsThreaded (λ k. letter_bucket_of (length heads) (node_at nodes k).letter) (length nodes) n heads nexts

-- the node is the child by the letter
pub record IsChild (nodes : List Node) (at letter node : ℕ) : Type 0 where
  pub above : 0 < node
  pub inside : node < length nodes
  pub parent_is : (node_at nodes node).parent ≡ at
  pub letter_is : (node_at nodes node).letter ≡ letter

-- the words are those of the nodes
pub record IsSpelled (nodes : List Node) (words : List (List ℕ)) : Type 0 where
  pub sized : length words ≡ length nodes
  pub empty : word_at words 0 ≡ []
  pub top : (node_at nodes 0).parent ≡ 0
  pub parent_in : (k : ℕ) → (node_at nodes k).parent < length nodes
  pub parent_low : (k : ℕ) → (node_at nodes k).parent ≤ k
  pub spelled : (k : ℕ) → 0 < k → k < length nodes → word_at words k ≡ word_at words (node_at nodes k).parent ++ (node_at nodes k).letter ∷ []
  pub distinct : (j k : ℕ) → j < length nodes → k < length nodes → word_at words j ≡ word_at words k → j ≡ k
  pub depth_low : (k : ℕ) → (node_at nodes k).depth ≤ k
  pub depth_is : (k : ℕ) → k < length nodes → (node_at nodes k).depth ≡ length (word_at words k)

-- each link leads to the longest proper suffix
pub record IsLinked (words : List (List ℕ)) (links : List ℕ) : Type 0 where
  pub sized : length links ≡ length words
  pub link_in : (k : ℕ) → get_or links k 0 < length words
  pub link_is : (k : ℕ) → 0 < k → k < length words → word_at words (get_or links k 0) ≡ longest words (drop 1 (word_at words k))

pub record IsTree (nodes : List Node) (heads nexts links : List ℕ) : Type 0 where
  pub chained : IsChained nodes (length nodes) heads nexts
  pub spelled : IsSpelled nodes (words_of nodes)
  pub linked : IsLinked (words_of nodes) links

-- the node is that of the longest suffix of the word
pub record IsLongest (nodes : List Node) (word : List ℕ) (node : ℕ) : Type 0 where
  pub inside : node < length nodes
  pub word_is : word_at (words_of nodes) node ≡ longest (words_of nodes) word

-- the words of the entries are among the words, and the place of the first entry that ends each of the words is known
pub record IsMarked (entries : List (List ℕ × ℕ)) (words : List (List ℕ)) (leasts : List (Option ℕ)) : Type 0 where
  pub sized : length leasts ≡ length words
  pub least_is : (k : ℕ) → k < length words → get_or leasts k None ≡ first_of (ends_with (word_at words k)) entries
  pub listed : All (λ e. has words e.0 ≡ true) entries

-- the number is among the numbers, before a place
abbrev pub ListsBelow : ℕ → List ℕ → ℕ → Type 0
ListsBelow n numbers k = (i : ℕ) × (i < n) × (get_or numbers i 0 ≡ k)

abbrev pub Lists : List ℕ → ℕ → Type 0
Lists numbers k = ListsBelow (length numbers) numbers k

-- the nodes are those of which the word is a proper suffix
pub record IsEnds (words : List (List ℕ)) (word : List ℕ) (ends : List ℕ) : Type 0 where
  pub above : (k : ℕ) → Lists ends k → 0 < k
  pub inside : (k : ℕ) → Lists ends k → k < length words
  pub sound : (k : ℕ) → Lists ends k → ends_with (drop 1 (word_at words k)) word ≡ true
  pub complete : (k : ℕ) → 0 < k → k < length words → ends_with (drop 1 (word_at words k)) word ≡ true → Lists ends k

-- the new numbers are the children of the old ones by the letter
pub record IsAdvanced (nodes : List Node) (letter : ℕ) (before after : List ℕ) : Type 0 where
  pub sound : (k : ℕ) → Lists after k → (p : ℕ) × Lists before p × IsChild nodes p letter k
  pub complete : (p k : ℕ) → Lists before p → IsChild nodes p letter k → Lists after k

-- the node is the link now, where the node that was it is less deep
pub record IsRelinked (nodes : List Node) (ends : List ℕ) (n node : ℕ) (before after k : ℕ) : Type 0 where
  pub either : ((after ≡ node) × ListsBelow n ends k × ((node_at nodes before).depth < (node_at nodes node).depth))
      ⊎ ((after ≡ before) × (ListsBelow n ends k → (node_at nodes node).depth ≤ (node_at nodes before).depth))

-- all nodes in the buckets of their letters
abbrev pub HasLetters : Tree → Type 0
HasLetters tree = IsLettered tree.nodes.items (length tree.nodes.items) tree.letter_heads.items tree.letter_nexts.items

-- there is room for that many more nodes
pub record HasRoom (tree : Tree) (count : ℕ) : Type 0 where
  pub nodes : vec_len tree.nodes + count ≤ vec_capacity tree.nodes
  pub letter_nexts : vec_len tree.letter_nexts + count ≤ vec_capacity tree.letter_nexts
  pub nexts : vec_len tree.nexts + count ≤ vec_capacity tree.nexts
  pub links : vec_len tree.links + count ≤ vec_capacity tree.links
  pub leasts : vec_len tree.leasts + count ≤ vec_capacity tree.leasts

-- the tree has the same nodes
pub record IsSame (tree before : Tree) : Type 0 where
  pub nodes : tree.nodes.items ≡ before.nodes.items
  pub letter_heads : tree.letter_heads.items ≡ before.letter_heads.items
  pub letter_nexts : tree.letter_nexts.items ≡ before.letter_nexts.items
  pub links : tree.links.items ≡ before.links.items
  pub leasts : tree.leasts.items ≡ before.leasts.items

-- the tree has the word now, at this node, and is unchanged otherwise
pub record IsGrown (old new : Tree) (word ends : List ℕ) (node : ℕ) : Type 0 where
  pub tree : IsTree new.nodes.items new.heads.items new.nexts.items new.links.items
  pub inside : node < length new.nodes.items
  pub word_is : word_at (words_of new.nodes.items) node ≡ word
  pub ends_are : IsEnds (words_of new.nodes.items) word ends
  pub sized : length new.leasts.items ≡ length new.nodes.items
  pub marked : (entries : List (List ℕ × ℕ)) → IsMarked entries (words_of old.nodes.items) old.leasts.items
      → IsMarked entries (words_of new.nodes.items) new.leasts.items
  pub only : (w : List ℕ) → has (words_of new.nodes.items) w ≡ (has (words_of old.nodes.items) w || same_word w word)
  pub room : (count : ℕ) → HasRoom old (count + 1) → HasRoom new count
  pub front : take (length old.nodes.items) new.nodes.items ≡ old.nodes.items
  pub lettered : HasLetters new

-- the tree has the word's letters before the place now, and is unchanged otherwise
pub record IsGrowing (old new : Tree) (word : List ℕ) (index at : ℕ) (ends : List ℕ) : Type 0 where
  pub tree : IsTree new.nodes.items new.heads.items new.nexts.items new.links.items
  pub inside : at < length new.nodes.items
  pub word_is : word_at (words_of new.nodes.items) at ≡ take index word
  pub ends_are : IsEnds (words_of new.nodes.items) (take index word) ends
  pub sized : length new.leasts.items ≡ length new.nodes.items
  pub marked : (entries : List (List ℕ × ℕ)) → IsMarked entries (words_of old.nodes.items) old.leasts.items
      → IsMarked entries (words_of new.nodes.items) new.leasts.items
  pub only : (w : List ℕ) → has (words_of new.nodes.items) w ≡ true → (has (words_of old.nodes.items) w ≡ true) ⊎ (begins_with word w ≡ true)
  pub room : HasRoom new (length word - index)
  pub front : take (length old.nodes.items) new.nodes.items ≡ old.nodes.items
  pub lettered : HasLetters new

-- of the numbers, those before a place are marked now
pub record IsMarkedAt (ends : List ℕ) (n place : ℕ) (before after : Option ℕ) (k : ℕ) : Type 0 where
  pub either : (ListsBelow n ends k × (after ≡ marked before place)) ⊎ ((ListsBelow n ends k → ⊥) × (after ≡ before))

-- the tree has the word now, and is unchanged otherwise
pub record IsInserted (old new : Tree) (word : List ℕ) (place : ℕ) : Type 0 where
  pub tree : IsTree new.nodes.items new.heads.items new.nexts.items new.links.items
  pub marked : (entries : List (List ℕ × ℕ)) (number : ℕ) → length entries ≡ place
      → IsMarked entries (words_of old.nodes.items) old.leasts.items
      → IsMarked (entries ++ (word, number) ∷ []) (words_of new.nodes.items) new.leasts.items
  pub only : (w : List ℕ) → has (words_of new.nodes.items) w ≡ true → (has (words_of old.nodes.items) w ≡ true) ⊎ (begins_with word w ≡ true)
  pub front : take (length old.nodes.items) new.nodes.items ≡ old.nodes.items
  pub lettered : HasLetters new

-- each word is a prefix
abbrev pub IsWithin : List (List ℕ × ℕ) → List (List ℕ) → Type 0
IsWithin entries words = (w : List ℕ) → has words w ≡ true → is_prefix entries w ≡ true

-- the tree has only the root
pub record IsNewTree (tree : Tree) : Type 0 where
  pub nodes : tree.nodes.items ≡ root ∷ []
  pub lettered : HasLetters tree
  pub heads : tree.heads.items ≡ 0 ∷ []
  pub nexts : tree.nexts.items ≡ 0 ∷ []
  pub links : tree.links.items ≡ 0 ∷ []
  pub leasts : tree.leasts.items ≡ None ∷ []

-- the nodes below a number that have the letter, and not the root as their parent
pub record IsStarts (nodes : List Node) (n letter : ℕ) (starts : List ℕ) : Type 0 where
  pub inside : (k : ℕ) → Lists starts k → k < n
  pub above : (k : ℕ) → Lists starts k → 0 < (node_at nodes k).parent
  pub letter_is : (k : ℕ) → Lists starts k → (node_at nodes k).letter ≡ letter
  pub complete : (k : ℕ) → k < n → 0 < (node_at nodes k).parent → (node_at nodes k).letter ≡ letter → Lists starts k
