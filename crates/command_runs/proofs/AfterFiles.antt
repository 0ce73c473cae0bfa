-- What follows of how a run ends after its files.
use Rattle.command_runs.proofs.Prelude.{◌≡◌, inl, inr, ℕ, List, [], ◌∷◌, ◌++◌, refl, sym, ap, subst, arith, length, ◌<◌, ◌≤◌, AllByRecursion, Rose, Told, Absent, Holds, MayExceed, FileWord, Ending, load_failed, too_long, AreLoaded, EndsAtFile, AfterFiles, WereLoaded, AreHeld, IsReached, IsMissing, IsFirstTooLong}

absent_loaded : (told : Told) (limit : ℕ) (bytes : List ℕ) → told ≡ Absent → AreLoaded told limit bytes → ⊥
absent_loaded told limit bytes is loaded = let P : Told → Type 0 = λ t. AreLoaded t limit bytes in (subst P is loaded).0

absent_long : (told : Told) (limit : ℕ) → told ≡ Absent → MayExceed told limit → ⊥
absent_long told limit is long = let P : Told → Type 0 = λ t. MayExceed t limit in subst P is long

held_long : (told : Told) (limit : ℕ) (file : List ℕ) → told ≡ Holds file → length file ≤ limit → MayExceed told limit → ⊥
held_long told limit file is fits long = let P : Told → Type 0 = λ t. MayExceed t limit in let past : limit < length file = subst P is long in omega arith

held_loaded : (told : Told) (limit : ℕ) (file bytes : List ℕ) → told ≡ Holds file → AreLoaded told limit bytes → bytes ≡ file
held_loaded told limit file bytes is loaded = let P : Told → Type 0 = λ t. AreLoaded t limit bytes in (subst P is loaded).0

past_loaded : (told : Told) (limit : ℕ) (file bytes : List ℕ) → told ≡ Holds file → limit < length file → AreLoaded told limit bytes → ⊥
past_loaded told limit file bytes is past loaded =
    let same : bytes ≡ file = held_loaded told limit file bytes is loaded in
    let lengths : length bytes ≡ length file = ap length same in
    let fits : length bytes ≤ limit = loaded.1 in
    omega arith

-- the count was no higher before, and the shelf tells at least as much of the file
pub ends_earlier : (told told' : Told) (before before' now : ℕ) (name : List ℕ) (limit : ℕ) (ending : Ending) → told' ≡ told → before ≤ before'
    → EndsAtFile told' (Rose before' now) name limit ending → EndsAtFile told (Rose before now) name limit ending
ends_earlier told told' before before' now name limit ending same order (inl (cause, is)) = inl (omega arith, is)
ends_earlier told told' before before' now name limit ending same order (inr (long, is)) = inr (subst (λ (t : Told). MayExceed t limit) same long, is)

module _ (told : List ℕ → Told) (rose : List ℕ → Type 0) where
  -- what the contents lead to may say less
  pub after_weaker : (files : List FileWord) (P Q : List (List ℕ) → Ending → Type 0) (ending : Ending) → ((contents : List (List ℕ)) → P contents ending → Q contents ending)
      → AfterFiles told rose files P ending → AfterFiles told rose files Q ending
  after_weaker [] P Q ending weaker after = weaker [] after
  after_weaker (file ∷ files) P Q ending weaker (inl ends) = inl ends
  after_weaker (file ∷ files) P Q ending weaker (inr (bytes, loaded, after)) =
      inr (bytes, loaded, after_weaker files (λ contents. P (bytes ∷ contents)) (λ contents. Q (bytes ∷ contents)) ending (λ contents. weaker (bytes ∷ contents)) after)

  -- all files were loaded
  pub after_loaded : (files : List FileWord) (P : List (List ℕ) → Ending → Type 0) (contents : List (List ℕ)) (ending : Ending) → WereLoaded told files contents → P contents ending → AfterFiles told rose files P ending
  after_loaded [] P [] ending were holds = holds
  after_loaded [] P (bytes ∷ contents) ending were holds = absurd were
  after_loaded (file ∷ files) P [] ending were holds = absurd were
  after_loaded (file ∷ files) P (bytes ∷ contents) ending were holds = inr (bytes, were.0, after_loaded files (λ rest. P (bytes ∷ rest)) contents ending were.1 holds)

  -- the files before one were loaded, and the run ends at that one
  pub after_ended : (before : List FileWord) (file : FileWord) (after : List FileWord) (P : List (List ℕ) → Ending → Type 0) (contents : List (List ℕ)) (ending : Ending) → WereLoaded told before contents
      → EndsAtFile (told file.name) (rose file.name) file.name file.limit ending → AfterFiles told rose (before ++ file ∷ after) P ending
  after_ended [] file after P contents ending were ends = inl ends
  after_ended (other ∷ before) file after P [] ending were ends = absurd were
  after_ended (other ∷ before) file after P (bytes ∷ contents) ending were ends = inr (bytes, were.0, after_ended before file after (λ rest. P (bytes ∷ rest)) contents ending were.1 ends)

  -- one more file was loaded
  pub loaded_more : (files : List FileWord) (contents : List (List ℕ)) (file : FileWord) (bytes : List ℕ) → WereLoaded told files contents → AreLoaded (told file.name) file.limit bytes
      → WereLoaded told (files ++ file ∷ []) (contents ++ bytes ∷ [])
  loaded_more [] [] file bytes were loaded = (loaded, tt)
  loaded_more [] (other ∷ contents) file bytes were loaded = absurd were
  loaded_more (other ∷ files) [] file bytes were loaded = absurd were
  loaded_more (other ∷ files) (others ∷ contents) file bytes were loaded = (were.0, loaded_more files contents file bytes were.1 loaded)

  -- a file failed to load, and the ending says so
  pub record Failed (files : List FileWord) (ending : Ending) : Type 0 where
    pub file : FileWord
    pub reached : IsReached told files file
    pub cause : rose file.name
    pub is : ending ≡ load_failed file.name

  -- a file is too long, and the ending says so
  pub record Long (files : List FileWord) (ending : Ending) : Type 0 where
    pub file : FileWord
    pub reached : IsReached told files file
    pub long : MayExceed (told file.name) file.limit
    pub is : ending ≡ too_long file.name file.limit

  -- all files were loaded, and their contents lead to the ending
  pub record All (files : List FileWord) (next : List (List ℕ) → Ending → Type 0) (ending : Ending) : Type 0 where
    pub contents : List (List ℕ)
    pub loaded : WereLoaded told files contents
    pub leads : next contents ending

  pub data Kind (files : List FileWord) (next : List (List ℕ) → Ending → Type 0) (ending : Ending) : Type 0 where
    failed : Failed files ending → Kind files next ending
    long : Long files ending → Kind files next ending
    all : All files next ending → Kind files next ending

  here : (file : FileWord) (files : List FileWord) → IsReached told (file ∷ files) file
  here file files = record { before = []; after = files; splits = refl; contents = []; loaded = tt }

  behind : (file other : FileWord) (files : List FileWord) (bytes : List ℕ) → AreLoaded (told file.name) file.limit bytes → IsReached told files other → IsReached told (file ∷ files) other
  behind file other files bytes loaded r =
      record { before = file ∷ r.before; after = r.after; splits = ap (λ fs. file ∷ fs) r.splits; contents = bytes ∷ r.contents; loaded = (loaded, r.loaded) }

  failed_behind : (file : FileWord) (files : List FileWord) (bytes : List ℕ) (ending : Ending) → AreLoaded (told file.name) file.limit bytes → Failed files ending → Failed (file ∷ files) ending
  failed_behind file files bytes ending loaded f = record { file = f.file; reached = behind file f.file files bytes loaded f.reached; cause = f.cause; is = f.is }

  kind_behind : (file : FileWord) (files : List FileWord) (bytes : List ℕ) (next : List (List ℕ) → Ending → Type 0) (ending : Ending) → AreLoaded (told file.name) file.limit bytes
      → Kind files (λ contents. next (bytes ∷ contents)) ending → Kind (file ∷ files) next ending
  kind_behind file files bytes next ending loaded (failed f) = failed (failed_behind file files bytes ending loaded f)
  kind_behind file files bytes next ending loaded (long l) = long (record { file = l.file; reached = behind file l.file files bytes loaded l.reached; long = l.long; is = l.is })
  kind_behind file files bytes next ending loaded (all a) = all (record { contents = bytes ∷ a.contents; loaded = (loaded, a.loaded); leads = a.leads })

  pub kind : (files : List FileWord) (next : List (List ℕ) → Ending → Type 0) (ending : Ending) → AfterFiles told rose files next ending → Kind files next ending
  kind [] next ending after = all (record { contents = []; loaded = tt; leads = after })
  kind (file ∷ files) next ending (inl (inl (cause, is))) = failed (record { file = file; reached = here file files; cause = cause; is = is })
  kind (file ∷ files) next ending (inl (inr (past, is))) = long (record { file = file; reached = here file files; long = past; is = is })
  kind (file ∷ files) next ending (inr (bytes, loaded, after)) = kind_behind file files bytes next ending loaded (kind files (λ contents. next (bytes ∷ contents)) ending after)

  -- all files are held
  pub held : (files : List FileWord) (next : List (List ℕ) → Ending → Type 0) (contents : List (List ℕ)) (ending : Ending) → AreHeld told rose files contents → AfterFiles told rose files next ending → next contents ending
  held [] next [] ending are after = after
  held [] next (bytes ∷ contents) ending are after = absurd are
  held (file ∷ files) next [] ending are after = absurd are
  held (file ∷ files) next (bytes ∷ contents) ending are (inl (inl (cause, is))) = absurd (are.0.steady cause)
  held (file ∷ files) next (bytes ∷ contents) ending are (inl (inr (past, is))) = absurd (held_long _ _ _ are.0.held are.0.fits past)
  held (file ∷ files) next (bytes ∷ contents) ending are (inr (others, loaded, after)) =
      let same : others ≡ bytes = held_loaded _ _ _ _ are.0.held loaded in
      let P : List ℕ → Type 0 = λ b. next (b ∷ contents) ending in
      subst P same (held files (λ rest. next (others ∷ rest)) contents ending are.1 after)

  -- a file is missing
  pub missing : (files : List FileWord) (next : List (List ℕ) → Ending → Type 0) (ending : Ending) → IsMissing told files → AfterFiles told rose files next ending → Failed files ending
  missing files next ending is after = subst (λ (fs : List FileWord). Failed fs ending) (sym is.splits) (go is.before next is.short (subst (λ (fs : List FileWord). AfterFiles told rose fs next ending) is.splits after))
    where
      go : (before : List FileWord) (next : List (List ℕ) → Ending → Type 0) → AllByRecursion (λ other. MayExceed (told other.name) other.limit → ⊥) before
          → AfterFiles told rose (before ++ is.file ∷ is.after) next ending → Failed (before ++ is.file ∷ is.after) ending
      go [] next short (inl (inl (cause, ends))) = record { file = is.file; reached = here is.file is.after; cause = cause; is = ends }
      go [] next short (inl (inr (past, ends))) = absurd (absent_long _ _ is.missing past)
      go [] next short (inr (bytes, loaded, after)) = absurd (absent_loaded _ _ _ is.missing loaded)
      go (other ∷ before) next short (inl (inl (cause, ends))) = record { file = other; reached = here other _; cause = cause; is = ends }
      go (other ∷ before) next short (inl (inr (past, ends))) = absurd (short.0 past)
      go (other ∷ before) next short (inr (bytes, loaded, after)) = failed_behind other _ bytes ending loaded (go before (λ rest. next (bytes ∷ rest)) short.1 after)

  -- a file is past its limit, and it is the first
  pub first_too_long : (files : List FileWord) (file : FileWord) (next : List (List ℕ) → Ending → Type 0) (ending : Ending) → IsFirstTooLong told rose files file → AfterFiles told rose files next ending → ending ≡ too_long file.name file.limit
  first_too_long files file next ending is after = go is.before next is.short (subst (λ (fs : List FileWord). AfterFiles told rose fs next ending) is.splits after)
    where
      go : (before : List FileWord) (next : List (List ℕ) → Ending → Type 0) → AllByRecursion (λ other. (rose other.name → ⊥) × (MayExceed (told other.name) other.limit → ⊥)) before
          → AfterFiles told rose (before ++ file ∷ is.after) next ending → ending ≡ too_long file.name file.limit
      go [] next short (inl (inl (cause, ends))) = absurd (is.steady cause)
      go [] next short (inl (inr (past, ends))) = ends
      go [] next short (inr (bytes, loaded, after)) = absurd (past_loaded _ _ _ _ is.held is.long loaded)
      go (other ∷ before) next short (inl (inl (cause, ends))) = absurd (short.0.0 cause)
      go (other ∷ before) next short (inl (inr (past, ends))) = absurd (short.0.1 past)
      go (other ∷ before) next short (inr (bytes, loaded, after)) = go before (λ rest. next (bytes ∷ rest)) short.1 after
