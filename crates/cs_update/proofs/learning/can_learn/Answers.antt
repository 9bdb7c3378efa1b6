use Rattle.std.proofs.Common.{◌∙◌, ◌&&◌, ap, string_bytes, sym}
use Rattle.cs_update.specs.Learning.{is_learnable}
use Rattle.cs_update.proofs.LearnableLemmas.{test_is}
use Rattle.cs_update.proofs.learning.can_learn.Goals as goal

pub returns-then-is_old-clause-is : goal.returns-then-is_old-clause-is
returns-then-is_old-clause-is c =
    let name = string_bytes c.args.file.now.name in
    test_is _ _ c.as_str.utf8 c.takes_name.ensures ∙ ap is_learnable c.as_str.ensures.value
    ∙ ap (λ b. b && is_learnable name) (sym c.if-is_old.true ∙ c.is_old.ensures)
