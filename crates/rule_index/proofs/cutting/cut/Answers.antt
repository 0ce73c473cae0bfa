use Rattle.rule_index.proofs.Prelude.{◌≡◌, ◌<◌, length, get_or, take, None, arith, sym, ap, ◌∙◌, subst, with_items, with_items_is, length-take-le, get_or-take, IsTree, IsChained, IsLettered, IsSpelled, IsLinked, words_of, earlier}
use Rattle.rule_index.proofs.FrontNodes.{words_of-take, spelled-take, linked-take}
use Rattle.rule_index.proofs.cutting.cut.Goals as goal

pub returns : goal.returns
returns c =
    let old = c.args.tree.now in
    let nodes = old.nodes.items in
    let size = c.args.size in
    let some = c.requires.some in
    let within = c.requires.inside in
    let spelled = c.requires.tree.spelled in
    let cut = c.cut_links.new.tree in
    let heads = c.chain_all.new.heads in
    let nexts = c.chain_all.new.nexts in
    let last = c.keep_earlier.new.leasts in
    let nodes_are : c.truncate.new.self.items ≡ take size nodes = c.truncate.ensures.items ∙ ap (take size) c.cut_links.ensures.nodes in
    let links_are : c.truncate-4.new.self.items ≡ take size cut.links.items = c.truncate-4.ensures.items in
    let leasts_are : c.truncate-5.new.self.items ≡ take size old.leasts.items = c.truncate-5.ensures.items ∙ ap (take size) c.cut_links.ensures.leasts in
    let heads_are : (with_items cut.heads heads).items ≡ heads = with_items_is cut.heads heads (omega (arith, c.chain_all.auto.heads, c.deref_mut.ensures.len)) in
    let nexts_are : (with_items c.truncate-2.new.self nexts).items ≡ nexts = with_items_is c.truncate-2.new.self nexts (omega (arith, c.chain_all.auto.nexts, c.deref_mut-2.ensures.len)) in
    let lasts_are : (with_items c.truncate-5.new.self last).items ≡ last = with_items_is c.truncate-5.new.self last (omega (arith, c.keep_earlier.auto.leasts, c.deref_mut-5.ensures.len)) in
    let seen : c.deref.result.now ≡ take size nodes = c.deref.ensures.value ∙ nodes_are in
    let read : c.deref_mut-5.result.now ≡ take size old.leasts.items = c.deref_mut-5.ensures.value ∙ leasts_are in
    let few : length (take size old.leasts.items) ≡ size = length-take-le size old.leasts.items (omega (arith, c.requires.sized)) in
    let chained : IsChained (take size nodes) (length (take size nodes)) heads nexts = subst (λ ns. IsChained ns (length ns) heads nexts) seen c.chain_all.ensures in
    let letters = c.chain_letters.new.heads in
    let befores = c.chain_letters.new.nexts in
    let letters_are : (with_items cut.letter_heads letters).items ≡ letters = with_items_is cut.letter_heads letters (omega (arith, c.chain_letters.auto.heads, c.deref_mut-3.ensures.len)) in
    let befores_are : (with_items c.truncate-3.new.self befores).items ≡ befores = with_items_is c.truncate-3.new.self befores (omega (arith, c.chain_letters.auto.nexts, c.deref_mut-4.ensures.len)) in
    let seen_again : c.deref-2.result.now ≡ c.truncate.new.self.items = c.deref-2.ensures.value in
    let in_letters : IsLettered c.truncate.new.self.items (length c.truncate.new.self.items) letters befores = subst (λ ns. IsLettered ns (length ns) letters befores) seen_again c.chain_letters.ensures in
    let lettered : IsLettered c.truncate.new.self.items (length c.truncate.new.self.items) (with_items cut.letter_heads letters).items (with_items c.truncate-3.new.self befores).items =
    subst (λ hs. IsLettered c.truncate.new.self.items (length c.truncate.new.self.items) hs (with_items c.truncate-3.new.self befores).items) (sym letters_are)
    (subst (λ xs. IsLettered c.truncate.new.self.items (length c.truncate.new.self.items) letters xs) (sym befores_are) in_letters) in
    let words_are : words_of (take size nodes) ≡ take size (words_of nodes) = words_of-take size nodes some in
    let tree : IsTree (take size nodes) heads nexts (take size cut.links.items) = record {
      chained = chained;
      spelled = subst (IsSpelled (take size nodes)) (sym words_are) (spelled-take nodes size some within (words_of nodes) spelled);
      linked = subst (λ ws. IsLinked ws (take size cut.links.items)) (sym words_are)
          (linked-take nodes size some within (words_of nodes) spelled old.links.items cut.links.items c.requires.tree.linked c.cut_links.ensures.len c.cut_links.ensures.links);
    } in
    record {
      tree = subst (λ ns. IsTree ns (with_items cut.heads heads).items (with_items c.truncate-2.new.self nexts).items c.truncate-4.new.self.items) (sym nodes_are)
          (subst (λ hs. IsTree (take size nodes) hs (with_items c.truncate-2.new.self nexts).items c.truncate-4.new.self.items) (sym heads_are)
          (subst (λ xs. IsTree (take size nodes) heads xs c.truncate-4.new.self.items) (sym nexts_are) (subst (IsTree (take size nodes) heads nexts) (sym links_are) tree)));
      nodes = nodes_are;
      lettered = lettered;
      sized = ap length lasts_are ∙ c.keep_earlier.auto.leasts ∙ ap length read ∙ few;
      leasts = λ k below.
          let inside : k < length c.deref_mut-5.result.now = omega (arith, ap length read, few) in
          ap (λ ls. get_or ls k None) lasts_are
          ∙ c.keep_earlier.ensures k inside
          ∙ ap (λ ls. earlier c.args.count (get_or ls k None)) read
          ∙ ap (earlier c.args.count) (get_or-take size old.leasts.items k None below);
    }
