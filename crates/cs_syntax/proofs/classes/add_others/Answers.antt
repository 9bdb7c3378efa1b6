use Rattle.std.proofs.Common.{◌++◌, ap, ◌∙◌}
use Rattle.cs_syntax.specs.ByteSet.{is_in_folded}
use Rattle.cs_syntax.proofs.CharRangeLemmas.{others_added}
use Rattle.cs_syntax.proofs.classes.add_others.Goals as goal

pub returns : goal.returns
returns c =
    others_added c.args.ranges.now.items _ _ c.deref.result.now c.in_ok-others.others _ (is_in_folded c.args.fold c.args.named.now)
    c.new-folded.ensures.items c.deref.ensures.value c.in_ok-add_folded.ensures
    c.in_ok-others.ensures
    (c.in_ok-extend_from_slice.ensures.items ∙ ap (λ l. c.args.ranges.now.items ++ l) c.runs.ensures.runs)
