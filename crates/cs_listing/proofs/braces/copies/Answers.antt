use Rattle.std.proofs.Common.{rules, ◌++◌, ap, ◌∙◌}
use Rattle.cs_listing.proofs.BraceLemmas.{copy_more}
use Rattle.cs_listing.proofs.braces.copies.Goals as goal

pub loop-text-preserved : goal.loop-text-preserved
loop-text-preserved c =
    copy_more c.args.texts.now c.loop-text.copied.items c.push.new.self.items c.loop-text.text-index c.extend_from_slice.new.self c.text-item.result
    (search rules) c.text-item.is
    (c.in_ok-extend_from_slice.ensures.items ∙ ap (λ bs. bs ++ c.deref.result.now) c.new-copy.ensures.items ∙ c.deref.ensures.value)
    c.in_ok-push.ensures.items c.loop-text.invariant
