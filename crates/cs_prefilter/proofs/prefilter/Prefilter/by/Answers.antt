use Rattle.std.proofs.Common.{List, sym, subst, ◌∙◌}
use Rattle.cs_syntax.specs.Node.{tree_of}
use Rattle.cs_prefilter.specs.declared.word.Word.{Word}
use Rattle.cs_prefilter.specs.WordAt.{AreSufficient, HasWord, with_newline}
use Rattle.std.specs.Prelude.{Option}
use Rattle.cs_prefilter.specs.declared.words.Words.{Words}
use Rattle.cs_prefilter.specs.Words.{HasWordOf}
use Rattle.cs_prefilter.proofs.prefilter.Prefilter.by.Goals as goal

pub returns-clause-sufficient : goal.returns-clause-sufficient
returns-clause-sufficient c = λ exact.
    subst (λ (words : List Word). AreSufficient (tree_of c.args.root.now) words)
    (c.deref-2.ensures.value ∙ (λ i. (sym c.in_ok-of.ensures i).items)) (c.are_sufficient-is_exact.ensures exact)

pub returns-clause-required : goal.returns-clause-required
returns-clause-required c = λ line has.
    subst (λ (words : List Word). HasWord words (with_newline line)) (λ i. (sym c.in_ok-of.ensures i).items)
    (subst (λ (w : Option Words). HasWordOf line w) c.in-Some.is has)
