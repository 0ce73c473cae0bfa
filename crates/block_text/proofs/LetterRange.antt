-- The letters that tokens spell are letters of the quiver.
use Rattle.block_text.proofs.Prelude.{◌≡◌, ◌<◌, ℕ, Bool, true, false, List, [], ◌∷◌, Some, subst, All-nil, All-cons, option_and_then_some, IsOver, Named, Object, Map, Declaration, letter_count, named_in, identity_in, IsNamed, identity_in_range, spelled_by, letter_named, starred, letter_of, word_of}
use Rattle.quiver.proofs.Found.{is_named}
use Rattle.block_text.proofs.Results.{option_map_some}
use Rattle.block_text.proofs.Stars.{star_in_range}

named_in_range : (ds : List Declaration) (identity : Bool) (name : List ℕ) (named : Named) (a : ℕ) → IsNamed ds name named → letter_named ds identity named ≡ Some a → a < letter_count ds
named_in_range ds true name (Object v) a there read = let same : identity_in ds v.0 ≡ a = cc in subst (λ b. b < letter_count ds) same (identity_in_range ds v.0 there.0)
named_in_range ds false name (Object v) a there read = absurd (cc)
named_in_range ds true name (Map b) a there read = absurd (cc)
named_in_range ds false name (Map b) a there read = let same : b.0 ≡ a = cc in subst (λ b. b < letter_count ds) same there.0

starred_in_range : (ds : List Declaration) (adjoint : Bool) (a : ℕ) → a < letter_count ds → starred ds adjoint a < letter_count ds
starred_in_range ds true a below = star_in_range ds a below
starred_in_range ds false a below = below

pub letter_in_range : (ds : List Declaration) (token : List ℕ) (a : ℕ) → letter_of ds token ≡ Some a → a < letter_count ds
letter_in_range ds token a read =
    option_and_then_some _ (spelled_by token) a read (λ spelled is read_on.
    option_map_some (starred ds spelled.adjoint) _ a read_on (λ b found same.
    option_and_then_some (letter_named ds spelled.identity) (named_in ds spelled.name) b found (λ named there letter.
    subst (λ c. c < letter_count ds) same
    (starred_in_range ds spelled.adjoint b (named_in_range ds spelled.identity spelled.name named b (is_named ds spelled.name named there) letter)))))

pub word_is_over : (ds : List Declaration) (tokens : List (List ℕ)) (w : List ℕ) → word_of ds tokens ≡ Some w → IsOver (letter_count ds) w
word_is_over ds [] w read = let same : [] ≡ w = cc in subst (IsOver (letter_count ds)) same (All-nil (λ b. b < letter_count ds))
word_is_over ds (token ∷ tokens) w read =
    option_and_then_some _ (letter_of ds token) w read (λ a here rest.
    option_map_some (λ v. a ∷ v) (word_of ds tokens) w rest (λ v there same.
    subst (IsOver (letter_count ds)) same (All-cons (λ b. b < letter_count ds) a v (letter_in_range ds token a here) (word_is_over ds tokens v there))))
