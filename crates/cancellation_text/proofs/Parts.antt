-- The first lines of a block, by the place after them, and the blocks that continue them.
use Rattle.cancellation_text.proofs.Prelude.{◌≡◌, ◌<◌, ◌≤◌, ◌+◌, ℕ, ℤ, pos, List, [], ◌∷◌, ◌++◌, Some, None, Ok, IsTrue, arith, refl, sym, ap, ◌∙◌, subst, length, map, length-append, codes, ⊤, All, AllZip, flat_map, flat_map-append, map-append, All-nil, All-cons, All-push, Letter, Declaration, Lemma, Item, Side, Left, Right, is_number, number_within, Line, number_limit, integer_limit, integer_of, claim_line, Begins, everywhere, zip_push, RowTokens, row_limit, is_value, ScaledTokens, denominator_line, goal_lines, IsScaled, IsWithin, IsScaledOf, Lead, IsLed, lemma_tokens, lead_lines, unit_goal, unit_scaled, unit_within, RowsWithin, HaveSize, no_rows_size, integer_is_within, Opened, Stage, CalledTokens, ItemTokens, lemma, cancel, CancellationTokens, head_line, called_line, item_lines, cancellation_lines, is_map_letter, AreItems, IsItem, IsCancellationBlock, Bound, names, numbers, rows, bounds, item_rows, IsKnown, HasItemName, HasItemNumber, KeepsOne, IsItemOf, IsCancellationOf, cancellation_kind, begun, with_item, proof_of}
use Rattle.std.proofs.Common.{append_assoc, append-nil}
use Rattle.cancel_rules.specs.declared.cancellation.Item.TheVariants as item
use Rattle.cancellation_text.specs.declared.place.Stage.TheVariants as at
use Rattle.cancellation_text.proofs.Letters.{letters_by, AreCalled, AreApart, none_called, none_once}

-- what is before the goal
pub record Parts : Type 0 where
  pub claim : List ℕ
  pub denominator : List ℕ
  pub called : List CalledTokens
  pub items : List ItemTokens

abbrev pub parts_front : Parts → List Line
parts_front p = head_line ∷ claim_line p.claim ∷ denominator_line p.denominator ∷ (map called_line p.called ++ flat_map item_lines p.items)

abbrev block_of : Parts → List ItemTokens → ScaledTokens → CancellationTokens
block_of p items goal = record { claim = p.claim; denominator = p.denominator; called = p.called; items = items; goal = goal }

abbrev pub with_goal : Parts → ScaledTokens → CancellationTokens
with_goal p goal = block_of p p.items goal

abbrev pub rows_of : List ItemTokens → List RowTokens
rows_of items = flat_map item_rows items

-- before all items
abbrev pub calling : List ℕ → List ℕ → List CalledTokens → Parts
calling claim denominator called = record { claim = claim; denominator = denominator; called = called; items = [] }

abbrev pub more_item : Parts → ItemTokens → Parts
more_item p i = record { claim = p.claim; denominator = p.denominator; called = p.called; items = p.items ++ i ∷ [] }

pub lines_of_parts : (p : Parts) (goal : ScaledTokens) → cancellation_lines (with_goal p goal) ≡ parts_front p ++ goal_lines goal
lines_of_parts p goal = simp append_assoc refl

pub front-item : (p : Parts) (i : ItemTokens) → parts_front (more_item p i) ≡ parts_front p ++ item_lines i
front-item p i = simp (flat_map-append, append_assoc, append-nil) refl

pub front-called : (claim denominator : List ℕ) (called : List CalledTokens) (c : CalledTokens)
    → parts_front (calling claim denominator (called ++ c ∷ [])) ≡ parts_front (calling claim denominator called) ++ called_line c ∷ []
front-called claim denominator called c = simp (map-append, append_assoc, append-nil) refl

pub rows-item : (items : List ItemTokens) (i : ItemTokens) → rows_of (items ++ i ∷ []) ≡ rows_of items ++ item_rows i
rows-item items i = simp (flat_map-append, append-nil) refl

are_items-push : (n m : ℕ) (items : List ItemTokens) (i : ItemTokens) → m ≡ n + length items → AreItems n items → IsItem m i → AreItems n (items ++ i ∷ [])
are_items-push n m [] i same each next =
    let first : m ≡ n = omega (arith, same) in
    (subst (λ k. IsItem k i) first next, tt)
are_items-push n m (j ∷ items) i same each next = (each.0, are_items-push (n + 1) m items i (omega (arith, same)) each.1 next)

-- what follows of the tokens of items that say their values
zip_left : {X Y : Type 0} (R : X → Y → Type 0) (P : X → Type 0) → ((x : X) (y : Y) → R x y → P x) → (xs : List X) (ys : List Y) → AllZip R xs ys → All P xs
zip_left R P each [] ys zipped = All-nil P
zip_left R P each (x ∷ xs) [] zipped = absurd zipped
zip_left R P each (x ∷ xs) (y ∷ ys) zipped = All-cons P x xs (each x y zipped.0) (zip_left R P each xs ys zipped.1)

item_name : (ds : List Declaration) (i : ItemTokens) (v : Item) → IsItemOf ds i v → HasItemName ds i
item_name ds (lemma l) v says = tt
item_name ds (cancel c) v says = (says.letter, says.letter_is)

item_number : (ds : List Declaration) (i : ItemTokens) (v : Item) → IsItemOf ds i v → HasItemNumber i
item_number ds (lemma l) (item.Lemma v) says = integer_is_within l.scaled.scale v.scale says.scale
item_number ds (lemma l) (item.Cancel a side n) says = absurd says
item_number ds (cancel c) v says = (says.number, says.number_is)

-- the claim and the denominator
pub record IsHead (claim denominator : List ℕ) (n : ℕ) (z : ℤ) : Type 0 where
  pub claim_is : IsTrue (is_number claim)
  pub denominator_is : IsTrue (is_number denominator)
  pub claim_value : number_within number_limit claim ≡ Some n
  pub denominator_value : integer_of denominator ≡ Ok z

-- the letters that are called monic and epic
pub record AreLetters (ds : List Declaration) (called : List CalledTokens) (monic epic : List Letter) : Type 0 where
  pub maps : All (λ c. IsTrue (is_map_letter c.letter)) called
  pub known : All (λ c. IsKnown ds c.letter) called
  pub say : AreCalled ds called monic epic
  pub once : (side : Side) → AreApart (letters_by monic epic side)

-- whole items
pub record AreWhole (ds : List Declaration) (items : List ItemTokens) (found : List Item) : Type 0 where
  pub numbered : AreItems 1 items
  pub few : length items ≤ row_limit
  pub say : AllZip (IsItemOf ds) items found

-- they fit the grammar, keep all bounds but those on rows, and say this
pub record AreParts (ds : List Declaration) (p : Parts) (o : Opened) : Type 0 where
  pub head : IsHead p.claim p.denominator o.claim o.denominator
  pub called : AreLetters ds p.called o.monic o.epic
  pub items : AreWhole ds p.items o.items

none_apart : (side : Side) → AreApart (letters_by [] [] side)
none_apart Left = none_once [] Left
none_apart Right = none_once [] Right

pub begun_parts : (ds : List Declaration) (claim denominator : List ℕ) (n : ℕ) (z : ℤ) → IsHead claim denominator n z → AreParts ds (calling claim denominator []) (begun n z)
begun_parts ds claim denominator n z head = record {
  head = head;
  called = record { maps = All-nil _; known = All-nil _; say = none_called ds; once = none_apart };
  items = record { numbered = tt; few = omega arith; say = tt };
}

-- the lemma with these rows
abbrev pub lemma_item : List ℕ → ScaledTokens → ItemTokens
lemma_item number s = lemma (lemma_tokens number s)

abbrev pub led : Parts → Lead → ScaledTokens → CancellationTokens
led p None s = with_goal p s
led p (Some number) s = with_goal (more_item p (lemma_item number s)) unit_goal

abbrev pub led_behind : Lead → List Line
led_behind None = []
led_behind (Some number) = goal_lines unit_goal

pub led_lines : (p : Parts) (lead : Lead) (s : ScaledTokens) → cancellation_lines (led p lead s) ≡ (parts_front p ++ lead_lines lead s) ++ led_behind lead
led_lines p None s = lines_of_parts p s ∙ sym (append-nil (parts_front p ++ goal_lines s))
led_lines p (Some number) s = lines_of_parts (more_item p (lemma_item number s)) unit_goal ∙ ap (λ ls. ls ++ goal_lines unit_goal) (front-item p (lemma_item number s))

-- the number is the next one
abbrev pub IsNext : Lead → Parts → Type 0
IsNext None p = ⊤
IsNext (Some number) p = IsTrue (is_value (length p.items + 1) number)

-- there is room for one more lemma
abbrev pub HasRoom : Lead → Parts → Type 0
HasRoom None p = ⊤
HasRoom (Some number) p = length p.items < row_limit

module _ {ds : List Declaration} {p : Parts} {o : Opened} (are : AreParts ds p o) where
  is_block_with : (items : List ItemTokens) (goal : ScaledTokens) → AreItems 1 items → IsScaled goal → IsCancellationBlock ds (block_of p items goal)
  is_block_with items goal numbered scaled = record {
    claim = are.head.claim_is;
    denominator = are.head.denominator_is;
    called = are.called.maps;
    once = λ side. subst AreApart (sym (are.called.say side)) (are.called.once side);
    items = numbered;
    goal = scaled;
  }

  keeps_with : (items : List ItemTokens) (goal : ScaledTokens) (bound : Bound) → (bound ≡ names → All (HasItemName ds) items) → (bound ≡ numbers → All HasItemNumber items) → (bound ≡ numbers → IsWithin integer_limit goal.scale)
      → (bound ≡ rows → length items ≤ row_limit) → RowsWithin ds (rows_of items ++ goal.rows) bound → KeepsOne ds bound (block_of p items goal)
  keeps_with items goal names named numbered scale few all = (record { called = are.called.known; items = named refl }, all)
  keeps_with items goal numbers named numbered scale few all =
      (record { claim = (o.claim, are.head.claim_value); denominator = integer_is_within p.denominator o.denominator are.head.denominator_value; items = numbered refl; goal = scale refl }, all)
  keeps_with items goal rows named numbered scale few all = (few refl, all)
  keeps_with items goal bound named numbered scale few all = all

  items_named : All (HasItemName ds) p.items
  items_named = zip_left (IsItemOf ds) (HasItemName ds) (item_name ds) p.items o.items are.items.say

  items_numbered : All HasItemNumber p.items
  items_numbered = zip_left (IsItemOf ds) HasItemNumber (item_number ds) p.items o.items are.items.say

  -- with one more item
  pub item_is : (i : ItemTokens) → IsItem (length p.items + 1) i → IsCancellationBlock ds (with_goal (more_item p i) unit_goal)
  item_is i next = is_block_with (p.items ++ i ∷ []) unit_goal (are_items-push 1 (length p.items + 1) p.items i (omega arith) are.items.numbered next) unit_scaled

  pub item_keeps : (i : ItemTokens) (bound : Bound) → (bound ≡ names → HasItemName ds i) → (bound ≡ numbers → HasItemNumber i) → (bound ≡ rows → length p.items < row_limit)
      → RowsWithin ds (rows_of p.items ++ item_rows i) bound → KeepsOne ds bound (with_goal (more_item p i) unit_goal)
  item_keeps i bound named numbered room all =
      keeps_with (p.items ++ i ∷ []) unit_goal bound (λ s. All-push (HasItemName ds) p.items i items_named (named s)) (λ s. All-push HasItemNumber p.items i items_numbered (numbered s)) (λ s. unit_within)
      (λ s. omega (arith, room s, length-append p.items (i ∷ []))) (subst (λ rs. RowsWithin ds rs bound) (sym (append-nil (rows_of (p.items ++ i ∷ [])) ∙ rows-item p.items i)) all)

  pub parts-more : (i : ItemTokens) (v : Item) → IsItem (length p.items + 1) i → length p.items < row_limit → IsItemOf ds i v → AreParts ds (more_item p i) (with_item o v)
  parts-more i v next room says = record {
    head = are.head;
    called = are.called;
    items = record {
      numbered = are_items-push 1 (length p.items + 1) p.items i (omega arith) are.items.numbered next;
      few = omega (arith, room, length-append p.items (i ∷ []));
      say = zip_push (IsItemOf ds) p.items o.items i v are.items.say says;
    };
  }

  pub parts_say : (goal : ScaledTokens) (l : Lemma) → IsScaledOf ds goal l → IsCancellationOf ds (with_goal p goal) (proof_of o l)
  parts_say goal l says =
      record { claim = are.head.claim_value; denominator = are.head.denominator_value; monic = are.called.say Left; epic = are.called.say Right; items = are.items.say; goal = says }

  -- with a lemma or the goal
  pub led_is : (lead : Lead) (s : ScaledTokens) → IsNext lead p → IsScaled s → IsCancellationBlock ds (led p lead s)
  led_is None s next scaled = is_block_with p.items s are.items.numbered scaled
  led_is (Some number) s next scaled = item_is (lemma_item number s) (next, scaled)

  pub led_keeps : (lead : Lead) (s : ScaledTokens) (bound : Bound) → (bound ≡ numbers → IsWithin integer_limit s.scale) → (bound ≡ rows → HasRoom lead p) → RowsWithin ds (rows_of p.items ++ s.rows) bound
      → KeepsOne ds bound (led p lead s)
  led_keeps None s bound scale room all = keeps_with p.items s bound (λ _. items_named) (λ _. items_numbered) scale (λ _. are.items.few) all
  led_keeps (Some number) s bound scale room all = item_keeps (lemma_item number s) bound (λ _. tt) scale room all

-- after the claim
pub record IsClaimed (n : ℕ) (front : List Line) : Type 0 where
  pub claim : List ℕ
  pub head : IsHead claim (codes "1") n (pos 1)
  pub are : front ≡ head_line ∷ claim_line claim ∷ []

-- after whole items
pub record IsOpenedBy (ds : List Declaration) (p : Parts) (o : Opened) (front : List Line) : Type 0 where
  pub known : AreParts ds p o
  pub have : HaveSize ds o.size (rows_of p.items)
  pub are : front ≡ parts_front p

-- after the denominator, or a letter that is called monic or epic
pub record IsCalling (ds : List Declaration) (o : Opened) (front : List Line) : Type 0 where
  pub claim : List ℕ
  pub denominator : List ℕ
  pub called : List CalledTokens
  pub opened : IsOpenedBy ds (calling claim denominator called) o front

-- in the rows of a lemma or of the goal
pub record IsInside (ds : List Declaration) (o : Opened) (l : Lemma) (lead : Lead) (front : List Line) : Type 0 where
  pub parts : Parts
  pub known : AreParts ds parts o
  pub next : IsNext lead parts
  pub room : HasRoom lead parts
  pub so_far : IsLed ds o.size l (rows_of parts.items)
  pub are : front ≡ parts_front parts ++ lead_lines lead so_far.tokens

abbrev pub IsOpen : List Declaration → Stage → List Line → Type 0
IsOpen ds at.Headed front = front ≡ head_line ∷ []
IsOpen ds (at.Claimed n) front = IsClaimed n front
IsOpen ds (at.Called o) front = IsCalling ds o front
IsOpen ds (at.Lemma o l) front = (number : List ℕ) × IsInside ds o l (Some number) front
IsOpen ds (at.Cancelled o) front = (p : Parts) × IsOpenedBy ds p o front
IsOpen ds (at.Goal o goal) front = IsInside ds o goal None front

-- and the blocks that continue it
module _ (ds : List Declaration) where
  begins_with : (front behind : List Line) (b : CancellationTokens) → cancellation_lines b ≡ front ++ behind → IsCancellationBlock ds b → ((bound : Bound) → KeepsOne ds bound b) → Begins (cancellation_kind ds) bounds front
  begins_with front behind b are is keeps = record { tree = b; more = behind; are = are; is_tree = is; keeps = everywhere (λ bound. KeepsOne ds bound b) keeps bounds }

  -- after whole items, or before the denominator of a block without items
  begins_parts : (p : Parts) (o : Opened) (front behind : List Line) → AreParts ds p o → HaveSize ds o.size (rows_of p.items) → parts_front p ≡ front ++ behind → Begins (cancellation_kind ds) bounds front
  begins_parts p o front behind known have are =
      begins_with front (behind ++ goal_lines unit_goal) (with_goal p unit_goal) (lines_of_parts p unit_goal ∙ ap (λ ls. ls ++ goal_lines unit_goal) are ∙ append_assoc front behind (goal_lines unit_goal))
      (led_is known None unit_goal tt unit_scaled)
      (λ bound. led_keeps known None unit_goal bound (λ _. unit_within) (λ _. tt) (subst (λ rs. RowsWithin ds rs bound) (sym (append-nil (rows_of p.items))) (have.keep bound)))

  begins_opened : (p : Parts) (o : Opened) (front : List Line) → IsOpenedBy ds p o front → Begins (cancellation_kind ds) bounds front
  begins_opened p o front opened = begins_parts p o front [] opened.known opened.have (sym opened.are ∙ sym (append-nil front))

  pub inside_keeps : (o : Opened) (l : Lemma) (lead : Lead) (front : List Line) (inside : IsInside ds o l lead front) (bound : Bound) → KeepsOne ds bound (led inside.parts lead inside.so_far.tokens)
  inside_keeps o l lead front inside bound =
      led_keeps inside.known lead inside.so_far.tokens bound (λ _. integer_is_within inside.so_far.tokens.scale l.scale inside.so_far.values.scale) (λ _. inside.room) (inside.so_far.have.keep bound)

  begins_inside : (o : Opened) (l : Lemma) (lead : Lead) (front : List Line) → IsInside ds o l lead front → Begins (cancellation_kind ds) bounds front
  begins_inside o l lead front inside =
      begins_with front (led_behind lead) (led inside.parts lead inside.so_far.tokens) (led_lines inside.parts lead inside.so_far.tokens ∙ ap (λ ls. ls ++ led_behind lead) (sym inside.are))
      (led_is inside.known lead inside.so_far.tokens inside.next inside.so_far.scaled) (inside_keeps o l lead front inside)

  pub goes_on : (s : Stage) (front : List Line) → IsOpen ds s front → Begins (cancellation_kind ds) bounds front
  goes_on at.Headed front here =
      begins_parts (calling (codes "1") (codes "1") []) (begun 1 (pos 1)) front (claim_line (codes "1") ∷ denominator_line (codes "1") ∷ [])
      (begun_parts ds (codes "1") (codes "1") 1 (pos 1) (record { claim_is = refl; denominator_is = refl; claim_value = refl; denominator_value = refl })) (no_rows_size ds) (ap (λ ls. ls ++ claim_line (codes "1") ∷ denominator_line (codes "1") ∷ []) (sym here))
  goes_on (at.Claimed n) front here =
      begins_parts (calling here.claim (codes "1") []) (begun n (pos 1)) front (denominator_line (codes "1") ∷ []) (begun_parts ds here.claim (codes "1") n (pos 1) here.head) (no_rows_size ds) (ap (λ ls. ls ++ denominator_line (codes "1") ∷ []) (sym here.are))
  goes_on (at.Called o) front here = begins_opened (calling here.claim here.denominator here.called) o front here.opened
  goes_on (at.Lemma o l) front here = begins_inside o l (Some here.0) front here.1
  goes_on (at.Cancelled o) front here = begins_opened here.0 o front here.1
  goes_on (at.Goal o goal) front here = begins_inside o goal None front here
