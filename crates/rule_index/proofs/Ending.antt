-- The nodes that the word ends, a letter further, and their marks.
use Rattle.rule_index.proofs.Prelude.{◌≡◌, inl, inr, ℕ, zero, suc, ◌+◌, ◌<◌, true, List, [], ◌∷◌, ◌++◌, length, get_or, set, drop, Option, Some, None, refl, sym, ap, ◌∙◌, subst, arith, get_or-set_other, get_or-set_same, length_push, same_from_push, or_cases, or_left, or_right, Node, same_word, word_at, ends_with, marked, node_at, Lists, IsSpelled, IsMarkedAt, IsEnds, IsAdvanced}
use Rattle.rule_index.proofs.Suffixes.{same-true, same-itself}
use Rattle.rule_index.proofs.Pushing.{is_same, is_other, same_or}
use Rattle.rule_index.proofs.Relinking.{lists-more, lists-fewer}
use Rattle.rule_index.proofs.Spelled.{child-word, word-some}

-- a letter after both
record Behind (u t : List ℕ) (x c : ℕ) : Type 0 where
  letter : x ≡ c
  rest : ends_with u t ≡ true

behind_from : (u t : List ℕ) (x c : ℕ) → u ++ x ∷ [] ≡ t ++ c ∷ [] → ends_with u u ≡ true → Behind u t x c
behind_from u t x c e itself =
    let parts = same_from_push u t x c e in
    record { letter = parts.1; rest = subst (λ v. ends_with u v ≡ true) parts.0 itself }

pub ends-itself : (u : List ℕ) → ends_with u u ≡ true
ends-itself [] = refl
ends-itself (y ∷ u) = or_left (same_word (y ∷ u) (y ∷ u)) (ends_with u (y ∷ u)) (same-itself (y ∷ u))

ends-behind : (u t : List ℕ) (x c : ℕ) → ends_with (u ++ x ∷ []) (t ++ c ∷ []) ≡ true → Behind u t x c
ends-behind [] t x c e = elim (or_cases (same_word (x ∷ []) (t ++ c ∷ [])) (same_word [] (t ++ c ∷ [])) e) [
  | inl s ↦ behind_from [] t x c (same-true (x ∷ []) (t ++ c ∷ []) s) refl
  | inr s ↦ absurd (omega (arith, ap length (same-true [] (t ++ c ∷ []) s), length_push t c))
]
ends-behind (y ∷ u) t x c e = elim (or_cases (same_word (y ∷ (u ++ x ∷ [])) (t ++ c ∷ [])) (ends_with (u ++ x ∷ []) (t ++ c ∷ [])) e) [
  | inl s ↦ behind_from (y ∷ u) t x c (same-true (y ∷ (u ++ x ∷ [])) (t ++ c ∷ []) s) (ends-itself (y ∷ u))
  | inr s ↦ let b = ends-behind u t x c s in record { letter = b.letter; rest = or_right (same_word (y ∷ u) t) (ends_with u t) b.rest }
]

ends-more : (u t : List ℕ) (c : ℕ) → ends_with u t ≡ true → ends_with (u ++ c ∷ []) (t ++ c ∷ []) ≡ true
ends-more [] t c e = subst (λ v. ends_with (c ∷ []) (v ++ c ∷ []) ≡ true) (same-true [] t e) (ends-itself (c ∷ []))
ends-more (y ∷ u) t c e = elim (or_cases (same_word (y ∷ u) t) (ends_with u t) e) [
  | inl s ↦ subst (λ v. ends_with ((y ∷ u) ++ c ∷ []) (v ++ c ∷ []) ≡ true) (same-true (y ∷ u) t s) (ends-itself ((y ∷ u) ++ c ∷ []))
  | inr s ↦ or_right (same_word (y ∷ (u ++ c ∷ [])) (t ++ c ∷ [])) (ends_with (u ++ c ∷ []) (t ++ c ∷ [])) (ends-more u t c s)
]

pub ends-nothing : (t : List ℕ) → ends_with t [] ≡ true
ends-nothing [] = refl
ends-nothing (x ∷ t) = ends-nothing t

drop_first : (w : List ℕ) (c : ℕ) → 0 < length w → drop 1 (w ++ c ∷ []) ≡ drop 1 w ++ c ∷ []
drop_first [] c some = absurd (omega arith)
drop_first (x ∷ w) c some = refl

-- the ends of the word with one more letter are children of its ends
pub ends-advanced : (nodes : List Node) (words : List (List ℕ)) → IsSpelled nodes words → (t : List ℕ) (c : ℕ) (before after : List ℕ) → IsEnds words t before → IsAdvanced nodes c before after → IsEnds words (t ++ c ∷ []) after
ends-advanced nodes words spelled t c before after h moved = record {
  above = λ k l. (moved.sound k l).2.above;
  inside = λ k l. omega (arith, (moved.sound k l).2.inside, spelled.sized);
  sound = λ k l.
      let m = moved.sound k l in
      let p = m.0 in
      let p_in : p < length nodes = omega (arith, h.inside p m.1, spelled.sized) in
      subst (λ w. ends_with w (t ++ c ∷ []) ≡ true)
      (sym (ap (drop 1) (child-word nodes words spelled p c k m.2) ∙ drop_first (word_at words p) c (word-some nodes words spelled p (h.above p m.1) p_in)))
      (ends-more (drop 1 (word_at words p)) t c (h.sound p m.1));
  complete = λ k above within e. complete k above (omega (arith, within, spelled.sized)) e;
}
  where
    by_parent : (k p : ℕ) → 0 < k → k < length nodes → p ≡ (node_at nodes k).parent → p < length nodes → ends_with (drop 1 (word_at words p ++ (node_at nodes k).letter ∷ [])) (t ++ c ∷ []) ≡ true → (w : List ℕ) → w ≡ word_at words p → Lists after k
    by_parent k p above within parent p_in e [] w_is =
        absurd (omega (arith, ap length (same-true [] (t ++ c ∷ []) (subst (λ w. ends_with (drop 1 (w ++ (node_at nodes k).letter ∷ [])) (t ++ c ∷ []) ≡ true) (sym w_is) e)), length_push t c))
    by_parent k p above within parent p_in e (x ∷ w) w_is =
        let b = ends-behind w t (node_at nodes k).letter c (subst (λ v. ends_with (drop 1 (v ++ (node_at nodes k).letter ∷ [])) (t ++ c ∷ []) ≡ true) (sym w_is) e) in
        let p_above : 0 < p = positive p w_is in
        let p_ends : Lists before p = h.complete p p_above (omega (arith, p_in, spelled.sized)) (subst (λ v. ends_with (drop 1 v) t ≡ true) w_is b.rest) in
        moved.complete p k p_ends (record { above = above; inside = within; parent_is = sym parent; letter_is = b.letter })
      where
        positive : (p : ℕ) → x ∷ w ≡ word_at words p → 0 < p
        positive zero e0 = absurd (omega (arith, ap length (e0 ∙ spelled.empty)))
        positive (suc p) e0 = omega arith

    complete : (k : ℕ) → 0 < k → k < length nodes → ends_with (drop 1 (word_at words k)) (t ++ c ∷ []) ≡ true → Lists after k
    complete k above within e =
        let p = (node_at nodes k).parent in
        by_parent k p above within refl (spelled.parent_in k) (subst (λ w. ends_with (drop 1 w) (t ++ c ∷ []) ≡ true) (spelled.spelled k above within) e) (word_at words p) refl

-- the marks
pub marked-twice : (o : Option ℕ) (place : ℕ) → marked (marked o place) place ≡ marked o place
marked-twice None place = refl
marked-twice (Some x) place = refl

pub mark-more : (ends : List ℕ) (n place : ℕ) (before now : List (Option ℕ)) (k : ℕ) → k < length now → IsMarkedAt ends n place (get_or before k None) (get_or now k None) k
    → IsMarkedAt ends (n + 1) place (get_or before k None) (get_or (set now (get_or ends n 0) (marked (get_or now (get_or ends n 0) None) place)) k None) k
mark-more ends n place before now k inside h = elim (same_or k (get_or ends n 0)) [
  | is_same e ↦
      let here : get_or (set now (get_or ends n 0) (marked (get_or now (get_or ends n 0) None) place)) k None ≡ marked (get_or now k None) place =
      sym (ap (λ j. get_or (set now j (marked (get_or now j None) place)) k None) e) ∙ get_or-set_same now k (marked (get_or now k None) place) None inside in
      let old : marked (get_or now k None) place ≡ marked (get_or before k None) place = elim h.either [
        | inl l ↦ ap (λ o. marked o place) l.1 ∙ marked-twice (get_or before k None) place
        | inr r ↦ ap (λ o. marked o place) r.1
      ] in
      record { either = inl ((n, omega arith, sym e), here ∙ old) }
  | is_other o ↦
      let there : get_or (set now (get_or ends n 0) (marked (get_or now (get_or ends n 0) None) place)) k None ≡ get_or now k None =
      get_or-set_other now (get_or ends n 0) k (marked (get_or now (get_or ends n 0) None) place) None o in
      elim h.either [
        | inl l ↦ record { either = inl (lists-more n ends k l.0, there ∙ l.1) }
        | inr r ↦ record { either = inr (λ l. r.0 (lists-fewer n ends k o l), there ∙ r.1) }
      ]
]
