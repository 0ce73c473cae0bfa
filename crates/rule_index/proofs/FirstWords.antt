-- The first words alone.
use Rattle.rule_index.proofs.Prelude.{◌≡◌, inl, inr, ℕ, zero, suc, ◌<◌, ◌≤◌, true, false, List, [], ◌∷◌, length, get_or, take, drop, refl, sym, ap, ◌∙◌, subst, arith, length-drop, length-take-le, get_or-take, cases_Bool, false_from_ne_true, Node, has, word_at, longest, IsSpelled, IsLinkedFrom}
use Rattle.rule_index.proofs.Suffixes.{has-at, has-place, longest-itself, longest-short}
use Rattle.rule_index.proofs.Spelled.{word-some}

-- what is among the first words is among the words
pub has-take : (n : ℕ) (words : List (List ℕ)) (w : List ℕ) → has (take n words) w ≡ true → has words w ≡ true
has-take zero words w e = absurd (cc)
has-take (suc n) [] w e = absurd (cc)
has-take (suc n) (v ∷ words) w e = let later = has-take n words w in grind arith

longest-there : (words : List (List ℕ)) (x : ℕ) (t : List ℕ) → has words (x ∷ t) ≡ true → longest words (x ∷ t) ≡ x ∷ t
longest-there words x t e = rw e refl

longest-absent : (words : List (List ℕ)) (t : List ℕ) → has words t ≡ false → longest words t ≡ longest words (drop 1 t)
longest-absent words [] e = refl
longest-absent words (x ∷ t) e = rw e refl

-- the longest suffix among the first words is one of the longest suffix
pub longest-fewer : (n : ℕ) (words : List (List ℕ)) (t : List ℕ) → longest (take n words) (longest words t) ≡ longest (take n words) t
longest-fewer n words [] = refl
longest-fewer n words (x ∷ t) = elim (cases_Bool (has words (x ∷ t))) [
  | inl e ↦ ap (longest (take n words)) (longest-there words x t e)
  | inr e ↦
      let none = false_from_ne_true (has (take n words) (x ∷ t)) (λ f. cc (has-take n words (x ∷ t) f)) in
      ap (longest (take n words)) (longest-absent words (x ∷ t) e) ∙ longest-fewer n words t ∙ sym (longest-absent (take n words) (x ∷ t) none)
]

module _ (nodes : List Node) (words : List (List ℕ)) (spelled : IsSpelled nodes words) (size : ℕ) (some : 0 < size) where
  -- a word further on is not among the first ones
  later_absent : (k : ℕ) → size ≤ k → k < length nodes → has (take size words) (word_at words k) ≡ false
  later_absent k past inside = false_from_ne_true (has (take size words) (word_at words k)) (λ e.
      let p = has-place (take size words) (word_at words k) e in
      let below : p.node < size = omega (arith, p.inside, length-take-le size words (omega (arith, spelled.sized))) in
      let same : p.node ≡ k = spelled.distinct p.node k (omega arith) inside (sym (get_or-take size words p.node [] below) ∙ p.word_is) in
      omega (arith, same))

  module _ (links : List ℕ) (linked : IsLinkedFrom words size links) where
    pub kept-more : (k : ℕ) → size ≤ k → k < length nodes → longest (take size words) (word_at words (get_or links k 0)) ≡ longest (take size words) (word_at words k)
    kept-more k past inside =
        ap (longest (take size words)) (linked.link_is k past (omega (arith, spelled.sized)))
        ∙ longest-fewer size words (drop 1 (word_at words k))
        ∙ sym (longest-absent (take size words) (word_at words k) (later_absent k past inside))

    pub kept-shorter : (k : ℕ) → size ≤ k → k < length nodes → length (word_at words (get_or links k 0)) < length (word_at words k)
    kept-shorter k past inside =
        omega (arith, ap length (linked.link_is k past (omega (arith, spelled.sized))), longest-short words (drop 1 (word_at words k)), length-drop 1 (word_at words k), word-some nodes words spelled k (omega arith) inside)

  pub kept-here : (k : ℕ) → k < size → size ≤ length nodes → longest (take size words) (word_at words k) ≡ word_at words k
  kept-here k below inside =
      let there : has (take size words) (word_at words k) ≡ true =
      subst (λ w. has (take size words) w ≡ true) (get_or-take size words k [] below)
      (has-at (take size words) k (omega (arith, length-take-le size words (omega (arith, spelled.sized))))) in
      longest-itself (take size words) (word_at words k) there
