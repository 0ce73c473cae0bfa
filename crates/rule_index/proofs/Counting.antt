-- The words of the nodes are the prefixes of the entries' words.
use Rattle.rule_index.proofs.Prelude.{◌≡◌, ◌⊎◌, inl, inr, ℕ, ◌<◌, true, List, [], ◌∷◌, ◌++◌, length, sym, subst, arith, All, append_assoc, append-nil, All-tail, or_cases, or_left, or_right, Node, begins_with, has, is_prefix, IsPrefixCount, words_of, IsSpelled, IsWithin}
use Rattle.rule_index.proofs.PlacesOfWords.{prefix_from}
use Rattle.rule_index.proofs.Suffixes.{IsClosed, has-at, same-true}
use Rattle.rule_index.proofs.Spelled.{words-closed}

prefix-old : (entries : List (List ℕ × ℕ)) (e : List ℕ × ℕ) (w : List ℕ) → is_prefix entries w ≡ true → is_prefix (entries ++ e ∷ []) w ≡ true
prefix-old [] e w h = or_right _ _ h
prefix-old (f ∷ entries) e w h = let later = prefix-old entries e w in grind arith

prefix-new : (entries : List (List ℕ × ℕ)) (e : List ℕ × ℕ) (w : List ℕ) → begins_with e.0 w ≡ true → is_prefix (entries ++ e ∷ []) w ≡ true
prefix-new [] e w h = or_left _ _ h
prefix-new (f ∷ entries) e w h = or_right _ _ (prefix-new entries e w h)

pub within-push : (entries : List (List ℕ × ℕ)) (word : List ℕ) (number : ℕ) (old new : List (List ℕ)) → IsWithin entries old
    → ((w : List ℕ) → has new w ≡ true → (has old w ≡ true) ⊎ (begins_with word w ≡ true)) → IsWithin (entries ++ (word, number) ∷ []) new
within-push entries word number old new h only w e = elim (only w e) [ inl o ↦ prefix-old entries (word, number) w (h w o) | inr b ↦ prefix-new entries (word, number) w b ]

closed-front : (words : List (List ℕ)) → IsClosed words → (after w : List ℕ) → has words (w ++ after) ≡ true → has words w ≡ true
closed-front words closed [] w e = subst (λ v. has words v ≡ true) (append-nil w) e
closed-front words closed (x ∷ after) w e = closed.front w x (closed-front words closed after (w ++ x ∷ []) (subst (λ v. has words v ≡ true) (sym (append_assoc w (x ∷ []) after)) e))

prefix-has : (words : List (List ℕ)) → IsClosed words → has words [] ≡ true → (entries : List (List ℕ × ℕ)) → All (λ e. has words e.0 ≡ true) entries → (w : List ℕ) → is_prefix entries w ≡ true → has words w ≡ true
prefix-has words closed empty [] l w e = subst (λ v. has words v ≡ true) (sym (same-true w [] e)) empty
prefix-has words closed empty (f ∷ entries) l w e = elim (or_cases (begins_with f.0 w) (is_prefix entries w) e) [
  | inl b ↦ let p = prefix_from f.0 w b in closed-front words closed p.after w (subst (λ v. has words v ≡ true) p.splits (l 0 f (omega arith)))
  | inr r ↦ prefix-has words closed empty entries (All-tail (λ (e : List ℕ × ℕ). has words e.0 ≡ true) f entries l) w r
]

pub nodes-count : (entries : List (List ℕ × ℕ)) (nodes : List Node) → 0 < length nodes → IsSpelled nodes (words_of nodes) → All (λ e. has (words_of nodes) e.0 ≡ true) entries → IsWithin entries (words_of nodes) → IsPrefixCount entries (length nodes)
nodes-count entries nodes some spelled listed within =
    let words = words_of nodes in
    let empty : has words [] ≡ true = subst (λ w. has words w ≡ true) spelled.empty (has-at words 0 (omega (arith, spelled.sized))) in
    record {
      words = words;
      counted = spelled.sized;
      distinct = λ j k j_in k_in e. spelled.distinct j k (omega (arith, j_in, spelled.sized)) (omega (arith, k_in, spelled.sized)) e;
      listed = λ w. (within w, prefix-has words (words-closed nodes words spelled) empty entries listed w);
    }
