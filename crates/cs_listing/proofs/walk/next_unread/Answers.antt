use Rattle.std.proofs.Common.{rules}
use Rattle.cs_listing.proofs.ReportLemmas.{newly, takes_one}
use Rattle.cs_listing.proofs.walk.next_unread.Goals as goal

pub returns-then-branch : goal.returns-then-branch
returns-then-branch c = (
  takes_one c.args.reported.now c.args.unread.now.items c.unread.unread.items c.pop.new.self.items c.in-Some.next c.in-Some.ensures.items
      c.unread.invariant.behind,
  newly c.args.reported.now c.unread.reported c.insert.new.self c.in_ok-path.path _ c.unread.invariant.kept
      (search rules) (search rules) (search rules),
)
