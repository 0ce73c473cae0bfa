-- The ambiguities of any rules can be listed in order, and in one way.
use Rattle.closed_checker.proofs.Prelude.{◌≡◌, ◌⊎◌, inl, inr, List, map, refl, ap, subst, Contains, Compare, Rule, Ambiguity, Waiting, IsAmbiguity, IsWaitingBefore, IsBeforeByWord, AreAllInOrder, AreInOrder, waiting_of, Image, ascending-same, contains-image, contains-map, pairs-map, ambiguity_decided, candidates, in_candidates, not_before_itself, not_before_each_other, before_trans, before_compared, listing, ListsEachOnce, AmbiguitiesCanBeListed, ListsAreUnique}

-- the ambiguities of a list that is in order, without their words
pub all-in_order : (compare : Compare) (rules : List Rule) (found : List Ambiguity) (items : List Waiting) → ListsEachOnce (IsAmbiguity rules) found
    → AreInOrder compare rules (Contains found) items → AreAllInOrder compare rules (map (λ (w : Waiting). w.which) items)
all-in_order compare rules found items exact listed = record {
  members = λ a. (
    λ at. one a (contains-image (λ (w : Waiting). w.which) items (waiting_of rules a) a at),
    λ is. contains-map (λ (w : Waiting). w.which) items (waiting_of rules a) ((listed.members (waiting_of rules a)).1 ((exact.members a).1 is, refl)),
  );
  ascending = pairs-map (λ (w : Waiting). w.which) (waiting_of rules) (IsWaitingBefore compare) (IsBeforeByWord compare rules) items
      (λ v w v_in w_in. subst (λ (p : Waiting × Waiting). IsWaitingBefore compare p.0 p.1) (λ n. (whole v v_in n, whole w w_in n))) listed.ascending;
}
  where
    one : (a : Ambiguity) → Image (λ (w : Waiting). w.which) items a → IsAmbiguity rules a
    one a image = subst (IsAmbiguity rules) image.same ((exact.members image.item.which).0 ((listed.members image.item).0 image.inside).0)

    whole : (w : Waiting) → Contains items w → w ≡ waiting_of rules w.which
    whole w at = λ n. record { which = w.which; word = ((listed.members w).0 at).1 n }

pub ambiguities_can_be_listed : AmbiguitiesCanBeListed
ambiguities_can_be_listed letters compare rank rules laws =
    let all = listing (IsBeforeByWord compare rules) (λ a b c. before_trans compare laws.total laws.same (waiting_of rules a) (waiting_of rules b) (waiting_of rules c)) compared
    (IsAmbiguity rules) (ambiguity_decided rules) (candidates rules) (in_candidates rules) in
    record { found = all.list; all = all.exact }
  where
    compared : (a b : Ambiguity) → (a ≡ b) ⊎ (IsBeforeByWord compare rules a b ⊎ IsBeforeByWord compare rules b a)
    compared a b = go (before_compared compare laws.total laws.same (waiting_of rules a) (waiting_of rules b))
      where
        go : (waiting_of rules a ≡ waiting_of rules b) ⊎ (IsBeforeByWord compare rules a b ⊎ IsBeforeByWord compare rules b a)
            → (a ≡ b) ⊎ (IsBeforeByWord compare rules a b ⊎ IsBeforeByWord compare rules b a)
        go (inl same) = inl (ap (λ (w : Waiting). w.which) same)
        go (inr before) = inr before

pub lists_are_unique : ListsAreUnique
lists_are_unique letters compare rank rules one other laws left right =
    ascending-same (IsBeforeByWord compare rules) (λ a. not_before_itself compare laws.total (waiting_of rules a))
    (λ a b. not_before_each_other compare laws.total (waiting_of rules a) (waiting_of rules b)) one other left.ascending right.ascending
    (λ z at. (right.members z).1 ((left.members z).0 at)) (λ z at. (left.members z).1 ((right.members z).0 at))
