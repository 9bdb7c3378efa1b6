use Rattle.std.proofs.Common.{◌≡◌, ◌∷◌, ◌++◌, [], List, sym, ◌∙◌, ap, subst}
use Rattle.cs_prefilter.specs.declared.word.Word.{Word}
use Rattle.cs_prefilter.specs.WordAt.{HasWord}
use Rattle.cs_prefilter.proofs.words.Words.of_run.Goals as goal

pub returns : goal.returns
returns c = λ text j e.
    let word = c.in_ok-of_run.field-0 in
    let one : word ∷ [] ≡ c.push.new.self.items = ap (λ (words : List Word). words ++ word ∷ [])
    (sym c.new-words.ensures.items) ∙ sym c.in_ok-push.ensures.items in
    subst (λ (words : List Word). HasWord words text) one (c.in_ok-of_run.ensures text j e)
