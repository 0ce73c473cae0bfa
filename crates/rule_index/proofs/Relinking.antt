-- One link after another.
use Rattle.rule_index.proofs.Prelude.{◌≡◌, ◌≢◌, ◌⊎◌, inl, inr, ℕ, ◌+◌, ◌<◌, ◌≤◌, true, false, nat_lt, List, length, get_or, set, refl, sym, ap, ◌∙◌, subst, arith, get_or-set_other, get_or-set_same, eqb_tells, cases_Bool, cond_both, ltb-true, ltb-false, Node, node_at, ListsBelow, IsRelinked, relinked}

pub lists-more : (n : ℕ) (ends : List ℕ) (k : ℕ) → ListsBelow n ends k → ListsBelow (n + 1) ends k
lists-more n ends k l = (l.0, omega (arith, l.1), l.2)

pub lists-fewer : (n : ℕ) (ends : List ℕ) (k : ℕ) → k ≢ get_or ends n 0 → ListsBelow (n + 1) ends k → ListsBelow n ends k
lists-fewer n ends k apart l = (l.0, omega (arith, l.1, λ (e : l.0 ≡ n). apart (sym l.2 ∙ ap (λ i. get_or ends i 0) e)), l.2)

pub lt_cases : (x y : ℕ) → ((nat_lt x y ≡ true) × (x < y)) ⊎ ((nat_lt x y ≡ false) × (y ≤ x))
lt_cases x y = elim (cases_Bool (nat_lt x y)) [ inl e ↦ inl (e, ltb-true x y e) | inr e ↦ inr (e, ltb-false x y e) ]

module _ (nodes : List Node) (ends : List ℕ) (n node : ℕ) where
  -- at the place itself
  relink-here : (before now e : ℕ) → e ≡ get_or ends n 0 → IsRelinked nodes ends n node before now e → IsRelinked nodes ends (n + 1) node before (relinked nodes node now) e
  relink-here before now e is h = go h.either (lt_cases (node_at nodes now).depth (node_at nodes node).depth)
    where
      go : ((now ≡ node) × ListsBelow n ends e × ((node_at nodes before).depth < (node_at nodes node).depth)) ⊎ ((now ≡ before) × (ListsBelow n ends e → (node_at nodes node).depth ≤ (node_at nodes before).depth))
          → ((nat_lt (node_at nodes now).depth (node_at nodes node).depth ≡ true) × ((node_at nodes now).depth < (node_at nodes node).depth)) ⊎ ((nat_lt (node_at nodes now).depth (node_at nodes node).depth ≡ false) × ((node_at nodes node).depth ≤ (node_at nodes now).depth))
          → IsRelinked nodes ends (n + 1) node before (relinked nodes node now) e
      go (inl l) (inl t) = absurd (omega (arith, t.1, ap (λ k. (node_at nodes k).depth) l.0))
      go (inl l) (inr t) = record { either = inl (rw t.0 l.0, lists-more n ends e l.1, l.2) }
      go (inr r) (inl t) = record { either = inl (rw t.0 refl, (n, omega arith, sym is), omega (arith, t.1, ap (λ k. (node_at nodes k).depth) r.0)) }
      go (inr r) (inr t) = record { either = inr (rw t.0 r.0, λ l. omega (arith, t.1, ap (λ k. (node_at nodes k).depth) r.0)) }

  relink-there : (before now k : ℕ) → k ≢ get_or ends n 0 → IsRelinked nodes ends n node before now k → IsRelinked nodes ends (n + 1) node before now k
  relink-there before now k apart h = elim h.either [
    | inl l ↦ record { either = inl (l.0, lists-more n ends k l.1, l.2) }
    | inr r ↦ record { either = inr (r.0, λ m. r.1 (lists-fewer n ends k apart m)) }
  ]

  pub relink-more : (before now : List ℕ) (k : ℕ) → k < length now → IsRelinked nodes ends n node (get_or before k 0) (get_or now k 0) k
      → IsRelinked nodes ends (n + 1) node (get_or before k 0) (get_or (set now (get_or ends n 0) (relinked nodes node (get_or now (get_or ends n 0) 0))) k 0) k
  relink-more before now k inside h = elim (eqb_tells k (get_or ends n 0)) [
    | inl s ↦
        subst (λ v. IsRelinked nodes ends (n + 1) node (get_or before k 0) v k)
        (sym (get_or-set_same now k (relinked nodes node (get_or now k 0)) 0 inside) ∙ ap (λ e. get_or (set now e (relinked nodes node (get_or now e 0))) k 0) s.1)
        (relink-here (get_or before k 0) (get_or now k 0) k s.1 h)
    | inr o ↦
        subst (λ v. IsRelinked nodes ends (n + 1) node (get_or before k 0) v k)
        (sym (get_or-set_other now (get_or ends n 0) k (relinked nodes node (get_or now (get_or ends n 0) 0)) 0 o.1))
        (relink-there (get_or before k 0) (get_or now k 0) k o.1 h)
  ]

  pub relink-inside : (now : List ℕ) (count : ℕ) → node < count → get_or ends n 0 < length now → ((k : ℕ) → get_or now k 0 < count) → (k : ℕ) → get_or (set now (get_or ends n 0) (relinked nodes node (get_or now (get_or ends n 0) 0))) k 0 < count
  relink-inside now count inside end_in h k = elim (eqb_tells k (get_or ends n 0)) [
    | inl s ↦
        subst (λ v. v < count)
        (sym (ap (λ j. get_or (set now j (relinked nodes node (get_or now j 0))) k 0) (sym s.1) ∙ get_or-set_same now k (relinked nodes node (get_or now k 0)) 0 (subst (λ j. j < length now) (sym s.1) end_in)))
        (cond_both (nat_lt (node_at nodes (get_or now k 0)).depth (node_at nodes node).depth) node (get_or now k 0) (λ link. link < count) (λ _. inside) (λ _. h k))
    | inr o ↦ subst (λ v. v < count) (sym (get_or-set_other now (get_or ends n 0) k (relinked nodes node (get_or now (get_or ends n 0) 0)) 0 o.1)) (h k)
  ]
