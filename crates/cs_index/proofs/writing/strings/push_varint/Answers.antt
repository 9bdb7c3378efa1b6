use Rattle.std.proofs.Common.{◌∙◌, ◌++◌, ap, sym}
use Rattle.cs_index.proofs.postings.StreamPush.{short_varint}
use Rattle.cs_index.proofs.writing.strings.push_varint.Goals as goal

pub returns-then-n-lt128-clause-ok : goal.returns-then-n-lt128-clause-ok
returns-then-n-lt128-clause-ok c = c.in_ok-push.ensures.items
    ∙ ap (λ groups. c.args.out.now.items ++ groups) (sym (short_varint c.args.n c.if-n-lt128.true))
