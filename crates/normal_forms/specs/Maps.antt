-- Maps that are sums of words with numbers, and how they are added and composed.
use Rattle.std.specs.Prelude.{◌≡◌, ℕ, Bool, false, nat_lt, IsTrue, if◌then◌else◌, [], ◌∷◌, ◌++◌}
use Rattle.std.specs.List.{AllByRecursion}
use Rattle.std.specs.Ordering.{is_lt}
use Rattle.definitions.specs.Poly.{Word}
use Rattle.definitions.specs.Category.{Structure}
use Rattle.definitions.specs.Quiver.{Quiver, source, target, leads}
use Rattle.word_core.specs.Canonical.{word_cmp}
use Rattle.normal_forms.specs.Numbers.{Numbers}
use Rattle.normal_forms.specs.Forms.{Form, multiple_form, product_form, collected}

-- A map: its ends, and a sum of words with numbers. The empty word stands for the identity of an object that isn't marked.
pub record NormalMap (K : Type 0) : Type 0 where
  pub source : ℕ
  pub target : ℕ
  pub form : Form K

-- the canonical order, in which the words of a map ascend
abbrev pub comes_before : Word → Word → Bool
comes_before u v = is_lt (word_cmp u v)

-- The letters of the word are in play, fit, and lead from u to v; and it is empty only at an object that isn't marked.
pub record LeadsInPlay (q : Quiver) (play marked : ℕ → Bool) (u v : ℕ) (w : Word) : Type 0 where
  pub leads : IsTrue (leads q u v w)
  pub plays : AllByRecursion (λ a. IsTrue (play a)) w
  pub unit : w ≡ [] → marked u ≡ false

-- each word comes before all later ones
abbrev pub IsAscending : {K : Type 0} → (Word → Word → Bool) → Form K → Type 0
IsAscending before [] = Unit {0}
IsAscending before (t ∷ p) = AllByRecursion (λ s. IsTrue (before t.1 s.1)) p × IsAscending before p

-- The operations, with any numbers, an order for the words, and the normal forms of sums.
module _ {K : Type 0} (k : Numbers K) (before : Word → Word → Bool) (normal : Form K → Form K) (marked : ℕ → Bool) where
  -- the normal form of a word, as a map
  abbrev pub word_map : ℕ → ℕ → Word → NormalMap K
  word_map u v w = record { source = u; target = v; form = collected k before (normal ((k.one, w) ∷ [])) }

  abbrev pub identity_map : ℕ → NormalMap K
  identity_map v = word_map v v (if marked v then (v ∷ []) else [])

  abbrev pub zero_map : ℕ → ℕ → NormalMap K
  zero_map u v = record { source = u; target = v; form = [] }

  -- The sum goes word by word, and a composite is the normal form of the product.
  abbrev pub structure_of : (ℕ → Type 0) → (NormalMap K → Type 0) → Structure ℕ (NormalMap K)
  structure_of IsObject IsMap = record {
    is_object = IsObject;
    is_arrow = IsMap;
    source = λ a. a.source;
    target = λ a. a.target;
    identity = identity_map;
    zero = zero_map;
    add = λ a b. record { source = a.source; target = a.target; form = collected k before (a.form ++ b.form) };
    negate = λ a. record { source = a.source; target = a.target; form = collected k before (multiple_form k (k.minus k.one) a.form) };
    compose = λ a b. record { source = b.source; target = a.target; form = collected k before (normal (product_form k a.form b.form)) };
  }

  -- a letter in play goes to its normal form, another identity to the identity, and any other letter to zero
  abbrev pub letter_map : Quiver → (ℕ → Bool) → ℕ → NormalMap K
  letter_map q play a =
      if play a then word_map (source q a) (target q a) (a ∷ []) else (if nat_lt a q.objects then identity_map a else zero_map (source q a) (target q a))
