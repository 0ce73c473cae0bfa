-- Where a word occurs in another: what its places say of the letters.
use Rattle.std.proofs.Common.{◌≡◌, ◌↔◌, ℕ, ◌+◌, ◌-◌, ◌≤◌, List, ◌++◌, length, take, drop, Bool, nat_eq, IsTrue, sym, refl, ap, ◌∙◌, arith}
use Rattle.std.proofs.Math.Seq.{drop-append_seam}
use Rattle.std.proofs.lemmas.Bool.Decides.{Decides-eqb}
use Rattle.std.proofs.lemmas.List.{length-append, take-append-drop, length-take-le, take_rest}
use Rattle.std.proofs.lemmas.Slice.Eq.{starts_is}
use Rattle.std.specs.List.{starts_with}
use Rattle.word_core.specs.Occurrence.{OccursAt}

-- a word occurs between two others
pub OccursAt-between : (l u r : List ℕ) → OccursAt (l ++ (u ++ r)) u (length l)
OccursAt-between l u r = record { before = l; after = r; splits = refl; at_place = refl }

module _ (word sub : List ℕ) (place : ℕ) where
  -- it ends inside the word
  pub OccursAt-length : OccursAt word sub place → place + length sub ≤ length word
  OccursAt-length at =
      let split = ap length at.splits ∙ length-append at.before (sub ++ at.after) ∙ ap (λ n. length at.before + n) (length-append sub at.after) in
      omega (arith, split, at.at_place)

  -- the rest of the word, from the place on
  pub drop-OccursAt : (at : OccursAt word sub place) → drop place word ≡ sub ++ at.after
  drop-OccursAt at =
      ap (λ w. drop place w) at.splits ∙
      ap (λ n. drop n (at.before ++ (sub ++ at.after))) (sym at.at_place) ∙
      drop-append_seam at.before (sub ++ at.after)

  -- cut at the place, and again after the letters of the other
  occurs_at_cut : place ≤ length word → drop place word ≡ sub ++ drop (length sub) (drop place word) → OccursAt word sub place
  occurs_at_cut in_range rest_is = record {
    before = take place word;
    after = drop (length sub) (drop place word);
    splits = sym (take-append-drop place word) ∙ ap (λ rest. take place word ++ rest) rest_is;
    at_place = length-take-le place word in_range;
  }

  -- the test of the slice from the place on decides whether the other occurs there
  pub starts_with_tells : place ≤ length word → (r : Bool) → r ≡ starts_with nat_eq (take (length word - place) (drop place word)) sub → IsTrue r ↔ OccursAt word sub place
  starts_with_tells in_range r is_test =
      let tested = is_test ∙ ap (λ rest. starts_with nat_eq rest sub) (take_rest word place) in
      let both = starts_is Decides-eqb (drop place word) sub r tested in
      (λ yes. occurs_at_cut in_range (both.0 yes), λ at. both.1 at.after (drop-OccursAt at))
