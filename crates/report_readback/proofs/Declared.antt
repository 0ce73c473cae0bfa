-- Each declaration of a text has the name of a token.
use Rattle.report_readback.proofs.Prelude.{◌≡◌, true, List, [], ◌∷◌, ◌++◌, refl, sym, ap, subst, ◌∙◌, map, flat_map, list_all, chars, list_all-append, scalars-chars, Declaration, object, arrow, Token, Language, language_of, Name, Statement, StatementKind, Object, Solve, Eliminate, Assume, Claim, Pinv, Inverse, Inner, names_tokens, Stated, listed, mapped, sides, paired, projected, by_degree, by_weight, modelled, second_language, stated_tokens, StatedLine, file_tokens, is_self, stated_kind, file_tree, bare_names, bare_stated, spot, read_are, IsToken, AllKinds, AllKinds-split, tokens_are, kinds, kinds-append, AreTokensOf, AllSpelled, file_are, objects_in, maps_in, declared_objects, declarations_of, object_of, is_named, DeclaredNamesAreNames}
use Rattle.quiver.specs.Declarations.{name_of}
use Rattle.report_readback.proofs.Spellings.{spelled_is_name}

abbrev AreNamed : List Declaration → Type 0
AreNamed ds = list_all is_named ds ≡ true

join : (ds es : List Declaration) → AreNamed ds → AreNamed es → AreNamed (ds ++ es)
join ds es front back = rw (list_all-append is_named ds es, front, back) refl

-- a statement
names_named : (language : Language) (declare : Name → Declaration) → ((n : Name) → name_of (declare n) ≡ n.text) → (ns : List Name) → AreTokensOf language (names_tokens (bare_names ns)) → AreNamed (map declare ns)
names_named language declare same [] spelled = refl
names_named language declare same (n ∷ ns) spelled = rw (same n, spelled_is_name n.text spelled.0, names_named language declare same ns spelled.1) refl

first_tokens : (language : Language) (ts us : List Token) → AreTokensOf language (ts ++ us) → AreTokensOf language ts
first_tokens language ts us spelled = (AllKinds-split (IsToken language) (kinds ts) (kinds us) (subst (AllKinds (IsToken language)) (kinds-append ts us) spelled)).0

-- what some statements declare is named where it is named for each
abbrev NamesStated : (StatementKind → List Declaration) → Type 0
NamesStated declares = (language : Language) (s : Stated) → AreTokensOf language (stated_tokens (bare_stated s)) → AreNamed (declares (stated_kind s))

stated_objects : NamesStated objects_in
stated_objects language (listed Object at n ns) spelled = names_named language (λ n. object n.text) (λ n. refl) (n ∷ ns) spelled.1
stated_objects language (listed Solve at n ns) spelled = refl
stated_objects language (listed Eliminate at n ns) spelled = refl
stated_objects language (mapped at n ns colon s to t end) spelled = refl
stated_objects language (sides Assume at d equals e) spelled = refl
stated_objects language (sides Claim at d equals e) spelled = refl
stated_objects language (paired Pinv at m n) spelled = refl
stated_objects language (paired Inverse at m n) spelled = refl
stated_objects language (paired Inner at m n) spelled = refl
stated_objects language (projected at n) spelled = refl
stated_objects language (by_degree at word) spelled = refl
stated_objects language (by_weight at word p ps) spelled = refl
stated_objects language (modelled at m ps) spelled = refl
stated_objects language (second_language at number) spelled = refl

stated_maps : (objects : List Declaration) → NamesStated (maps_in objects)
stated_maps objects language (listed Object at n ns) spelled = refl
stated_maps objects language (listed Solve at n ns) spelled = refl
stated_maps objects language (listed Eliminate at n ns) spelled = refl
stated_maps objects language (mapped at n ns colon s to t end) spelled =
    names_named language (λ n. arrow n.text (object_of objects s) (object_of objects t) (is_self end)) (λ n. refl) (n ∷ ns) (first_tokens language (names_tokens (bare_names (n ∷ ns))) _ spelled.1)
stated_maps objects language (sides Assume at d equals e) spelled = refl
stated_maps objects language (sides Claim at d equals e) spelled = refl
stated_maps objects language (paired Pinv at m n) spelled = refl
stated_maps objects language (paired Inverse at m n) spelled = refl
stated_maps objects language (paired Inner at m n) spelled = refl
stated_maps objects language (projected at n) spelled = refl
stated_maps objects language (by_degree at word) spelled = refl
stated_maps objects language (by_weight at word p ps) spelled = refl
stated_maps objects language (modelled at m ps) spelled = refl
stated_maps objects language (second_language at number) spelled = refl

-- a file
each_named : (language : Language) (declares : StatementKind → List Declaration) → NamesStated declares → (ls : List StatedLine) → AllSpelled language ls → AreNamed (flat_map (λ (s : Statement). declares s.kind) (file_tree ls))
each_named language declares named [] spelled = refl
each_named language declares named (l ∷ ls) spelled =
    join (declares (stated_kind l.stated)) (flat_map (λ s. declares s.kind) (file_tree ls)) (named language l.stated spelled.0) (each_named language declares named ls spelled.1)

declarations_named : (language : Language) (ls : List StatedLine) → AllSpelled language ls → AreNamed (declarations_of (file_tree ls))
declarations_named language ls spelled =
    let objects = declared_objects (file_tree ls) in
    join objects (flat_map (λ s. maps_in objects s.kind) (file_tree ls)) (each_named language objects_in stated_objects ls spelled) (each_named language (maps_in objects) (stated_maps objects) ls spelled)

pub declared_names_are_names : DeclaredNamesAreNames
declared_names_are_names bytes statements problem tree is =
    let ls = tree.0 in
    let text = tree.1 in
    let language = language_of (file_tokens ls) in
    let spelled = file_are language ls (tokens_are [] (chars bytes) 0 (spot 1 1) 0 (file_tokens ls) (scalars-chars bytes text.utf8) (read_are (chars bytes) (file_tokens ls) text.tokens)) in
    let declared : problem.parts.quiver ≡ declarations_of (file_tree ls) = is.parts.quiver ∙ ap declarations_of tree.2 in
    subst AreNamed (sym declared) (declarations_named language ls spelled)
