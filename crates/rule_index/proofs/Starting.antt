-- The nodes by the first letter.
use Rattle.rule_index.proofs.Prelude.{◌≡◌, ◌⊎◌, inl, inr, ℕ, zero, suc, ◌+◌, ◌-◌, ◌<◌, ◌≤◌, List, [], ◌∷◌, ◌++◌, length, drop, refl, sym, ◌∙◌, subst, arith, range_with_len, length_push, get_or_push, get_or_append_left, get_or-range_with_len, length-range_with_len, cases_lt, Node, word_at, node_at, Lists, IsSpelled, IsEnds, IsStarts}
use Rattle.rule_index.proofs.Pushing.{Same, is_same, is_other, same_or}
use Rattle.rule_index.proofs.Ending.{ends-nothing, ends-advanced}

-- one number more
lists-push : (xs : List ℕ) (x k : ℕ) → Lists xs k → Lists (xs ++ x ∷ []) k
lists-push xs x k l = (l.0, omega (arith, l.1, length_push xs x), get_or_append_left xs (x ∷ []) 0 l.0 l.1 ∙ l.2)

lists-last : (xs : List ℕ) (x : ℕ) → Lists (xs ++ x ∷ []) x
lists-last xs x = (length xs, omega (arith, length_push xs x), get_or_push xs x 0 (length xs) refl)

lists-either : (xs : List ℕ) (x k : ℕ) → Lists (xs ++ x ∷ []) k → Lists xs k ⊎ (k ≡ x)
lists-either xs x k l = elim (cases_lt l.0 (length xs)) [
  | inl below ↦ inl (l.0, below, sym (get_or_append_left xs (x ∷ []) 0 l.0 below) ∙ l.2)
  | inr above ↦ inr (sym l.2 ∙ get_or_push xs x 0 l.0 (omega (arith, l.1, length_push xs x)))
]

-- the nodes above a number that have the letter, and not the root as their parent
pub record IsStartsAbove (nodes : List Node) (low letter : ℕ) (starts : List ℕ) : Type 0 where
  pub inside : (k : ℕ) → Lists starts k → k < length nodes
  pub above : (k : ℕ) → Lists starts k → 0 < (node_at nodes k).parent
  pub letter_is : (k : ℕ) → Lists starts k → (node_at nodes k).letter ≡ letter
  pub complete : (k : ℕ) → low < k → k < length nodes → 0 < (node_at nodes k).parent → (node_at nodes k).letter ≡ letter → Lists starts k

-- the node, and the next one down that may have the letter
module _ (nodes : List Node) (n low letter : ℕ) (starts : List ℕ) (h : IsStartsAbove nodes n letter starts)
    (between : (k : ℕ) → low < k → k < n → (node_at nodes k).letter ≡ letter → ⊥) where
  pub starts-push : n < length nodes → 0 < (node_at nodes n).parent → (node_at nodes n).letter ≡ letter → IsStartsAbove nodes low letter (starts ++ n ∷ [])
  starts-push within some is = record {
    inside = λ k l. by (λ j. j < length nodes) h.inside within k (lists-either starts n k l);
    above = λ k l. by (λ j. 0 < (node_at nodes j).parent) h.above some k (lists-either starts n k l);
    letter_is = λ k l. by (λ j. (node_at nodes j).letter ≡ letter) h.letter_is is k (lists-either starts n k l);
    complete = λ k high below above e. complete k high below above e (same_or k n) (cases_lt k n);
  }
    where
      by : (P : ℕ → Type 0) → ((j : ℕ) → Lists starts j → P j) → P n → (k : ℕ) → Lists starts k ⊎ (k ≡ n) → P k
      by P old new k (inl l) = old k l
      by P old new k (inr e) = subst P (sym e) new

      complete : (k : ℕ) → low < k → k < length nodes → 0 < (node_at nodes k).parent → (node_at nodes k).letter ≡ letter → Same k n → (k < n) ⊎ (n ≤ k) → Lists (starts ++ n ∷ []) k
      complete k high below above e (is_same s) side = subst (λ j. Lists (starts ++ n ∷ []) j) (sym s) (lists-last starts n)
      complete k high below above e (is_other o) (inl under) = absurd (between k high under e)
      complete k high below above e (is_other o) (inr over) = lists-push starts n k (h.complete k (omega (arith, over, o)) below above e)

  pub starts-skip : (0 < (node_at nodes n).parent → (node_at nodes n).letter ≡ letter → ⊥) → IsStartsAbove nodes low letter starts
  starts-skip none = record {
    inside = h.inside;
    above = h.above;
    letter_is = h.letter_is;
    complete = λ k high below above e. complete k high below above e (same_or k n) (cases_lt k n);
  }
    where
      complete : (k : ℕ) → low < k → k < length nodes → 0 < (node_at nodes k).parent → (node_at nodes k).letter ≡ letter → Same k n → (k < n) ⊎ (n ≤ k) → Lists starts k
      complete k high below above e (is_same s) side = absurd (none (subst (λ j. 0 < (node_at nodes j).parent) s above) (subst (λ j. (node_at nodes j).letter ≡ letter) s e))
      complete k high below above e (is_other o) (inl under) = absurd (between k high under e)
      complete k high below above e (is_other o) (inr over) = h.complete k (omega (arith, over, o)) below above e

-- all nodes but the root
abbrev pub others : List Node → List ℕ
others nodes = range_with_len 1 (length nodes - 1)

others-list : (nodes : List Node) (k : ℕ) → 0 < k → k < length nodes → Lists (others nodes) k
others-list nodes k above inside =
    (k - 1, omega (arith, length-range_with_len 1 (length nodes - 1)), get_or-range_with_len 1 (length nodes - 1) (k - 1) 0 (omega arith) ∙ omega arith)

others-within : (nodes : List Node) (k : ℕ) → Lists (others nodes) k → (0 < k) × (k < length nodes)
others-within nodes k l =
    let below : l.0 < length nodes - 1 = omega (arith, l.1, length-range_with_len 1 (length nodes - 1)) in
    let is : 1 + l.0 ≡ k = sym (get_or-range_with_len 1 (length nodes - 1) l.0 0 below) ∙ l.2 in
    (omega (arith, is), omega (arith, is, below))

-- the empty word is a proper suffix of all of them
pub others-end : (nodes : List Node) (words : List (List ℕ)) → IsSpelled nodes words → IsEnds words [] (others nodes)
others-end nodes words spelled = record {
  above = λ k l. (others-within nodes k l).0;
  inside = λ k l. omega (arith, (others-within nodes k l).1, spelled.sized);
  sound = λ k l. ends-nothing (drop 1 (word_at words k));
  complete = λ k above within e. others-list nodes k above (omega (arith, within, spelled.sized));
}

pub starts-end : (nodes : List Node) (words : List (List ℕ)) → IsSpelled nodes words → (letter : ℕ) (starts : List ℕ) → IsStarts nodes (length nodes) letter starts → IsEnds words (letter ∷ []) starts
starts-end nodes words spelled letter starts h =
    ends-advanced nodes words spelled [] letter (others nodes) starts (others-end nodes words spelled) (record {
      sound = λ k l. (
        (node_at nodes k).parent,
        others-list nodes (node_at nodes k).parent (h.above k l) (spelled.parent_in k),
        record {
          above = positive k (h.above k l);
          inside = h.inside k l;
          parent_is = refl;
          letter_is = h.letter_is k l;
        },
      );
      complete = λ p k l child. h.complete k child.inside (subst (λ q. 0 < q) (sym child.parent_is) (others-within nodes p l).0) child.letter_is;
    })
  where
    positive : (k : ℕ) → 0 < (node_at nodes k).parent → 0 < k
    positive zero above = absurd (omega (arith, above, spelled.top))
    positive (suc k) above = omega arith
