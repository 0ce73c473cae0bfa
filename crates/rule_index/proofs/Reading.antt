-- One more letter is read.
use Rattle.rule_index.proofs.Prelude.{◌≡◌, ℕ, ◌<◌, List, [], ◌∷◌, ◌++◌, length, get_or, drop, Option, None, refl, sym, ap, ap₂, ◌∙◌, arith, get_or_read, Node, word_at, longest, ends_with, first_of, occurs, sooner, words_of, IsSpelled, IsLinked, IsLongest, IsMarked}
use Rattle.rule_index.proofs.Suffixes.{longest-more}
use Rattle.rule_index.proofs.Spelled.{words-closed, word-some}
use Rattle.rule_index.proofs.Firsts.{first-more}

module _ (nodes : List Node) (spelled : IsSpelled nodes (words_of nodes)) (t : List ℕ) (c next : ℕ) where
  pub longest-read : (at : ℕ) → IsLongest nodes t at → IsLongest nodes (word_at (words_of nodes) at ++ c ∷ []) next → IsLongest nodes (t ++ c ∷ []) next
  longest-read at before after = record {
    inside = after.inside;
    word_is = after.word_is ∙ ap (λ s. longest (words_of nodes) (s ++ c ∷ [])) before.word_is ∙ sym (longest-more (words_of nodes) (words-closed nodes (words_of nodes) spelled) t c);
  }

  pub first-read : (entries : List (List ℕ × ℕ)) (leasts : List (Option ℕ)) (found least : Option ℕ) → IsLongest nodes (t ++ c ∷ []) next → IsMarked entries (words_of nodes) leasts
      → found ≡ first_of (occurs t) entries → least ≡ get_or leasts next least → sooner found least ≡ first_of (occurs (t ++ c ∷ [])) entries
  first-read entries leasts found least after marked so_far read =
      let inside : next < length (words_of nodes) = omega (arith, after.inside, spelled.sized) in
      let least_is : least ≡ first_of (ends_with (longest (words_of nodes) (t ++ c ∷ []))) entries =
      get_or_read leasts next least (omega (arith, inside, marked.sized)) read None
      ∙ marked.least_is next inside
      ∙ ap (λ s. first_of (ends_with s) entries) after.word_is in
      ap₂ sooner so_far least_is ∙ first-more (words_of nodes) entries t c marked.listed

drop-push : (s : List ℕ) (c : ℕ) → 0 < length s → drop 1 (s ++ c ∷ []) ≡ drop 1 s ++ c ∷ []
drop-push [] c some = absurd (omega arith)
drop-push (x ∷ s) c some = refl

-- the link of a new child is a step from the node's link
pub link-step : (nodes : List Node) (spelled : IsSpelled nodes (words_of nodes)) (links : List ℕ) → IsLinked (words_of nodes) links
    → (at c next : ℕ) → 0 < at → at < length nodes → IsLongest nodes (word_at (words_of nodes) (get_or links at 0) ++ c ∷ []) next → IsLongest nodes (drop 1 (word_at (words_of nodes) at ++ c ∷ [])) next
link-step nodes spelled links linked at c next above inside after =
    let words = words_of nodes in
    record {
      inside = after.inside;
      word_is = after.word_is
          ∙ ap (λ s. longest words (s ++ c ∷ [])) (linked.link_is at above (omega (arith, spelled.sized)))
          ∙ sym (longest-more words (words-closed nodes words spelled) (drop 1 (word_at words at)) c)
          ∙ ap (longest words) (sym (drop-push (word_at words at) c (word-some nodes words spelled at above inside)));
    }
