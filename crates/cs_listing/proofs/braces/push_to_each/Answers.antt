use Rattle.std.proofs.Common.{rules, ◌++◌, sym, ap, ◌∙◌}
use Rattle.cs_listing.proofs.BraceLemmas.{text_longer}
use Rattle.cs_listing.proofs.braces.push_to_each.Goals as goal

pub loop-one-preserved : goal.loop-one-preserved
loop-one-preserved c =
    text_longer c.args.text.now c.args.texts.now.items c.loop-one.one-items c.loop-one.one-index c.one-item.result c.extend_from_slice.new.self
    (search rules) c.one-item.is
    (c.in_ok-extend_from_slice.ensures.items ∙ ap (λ v. v.items ++ c.args.text.now) (sym c.one-item.is)) c.loop-one.invariant
