use Rattle.word_core.proofs.Prelude.{◌∙◌}
use Rattle.word_core.proofs.Places.{starts_with_tells}
use Rattle.word_core.proofs.word.Word.occurs_at.Goals as goal

-- the two slices are the letters of the two words
pub returns : goal.returns
returns c =
    let word_is = c.deref.ensures.value ∙ c.self.view_is in
    let sub_is = c.deref-2.ensures.value ∙ c.sub.view_is in
    starts_with_tells _ _ c.args.place c.requires _ (rw (← word_is, ← sub_is) c.starts_with.ensures.value)
