use Rattle.std.proofs.Common.{map, arith, refl, subst, ◌∙◌}
use Rattle.std.specs.Prelude.{string_bytes}
use Rattle.cs_listing.specs.FolderReads.{InTree}
use Rattle.cs_listing.specs.Walk.{Enters}
use Rattle.cs_listing.proofs.StepLemmas.{refused, visited_in, opens_one}
use Rattle.cs_listing.specs.ReportsAll.{EntersNoting}
use Rattle.cs_listing.proofs.ReportAllLemmas.{refused_noting, visited_noting_in}
use Rattle.cs_listing.proofs.StampLemmas.{refused_stamped, visited_stamped}
use Rattle.cs_listing.proofs.walk.Walk.visit.Goals as goal

pub returns-then-len-gt-LONGEST_PATH-clause-visits : goal.returns-then-len-gt-LONGEST_PATH-clause-visits
returns-then-len-gt-LONGEST_PATH-clause-visits g c =
    refused (g.T.Tree.snapshot c.args.tree.now) c.args.name.now c.args.path c.args.self.now
    (record c.args.self.now { reader = c.note.new.self }) c.note.result (omega arith)

pub returns-clause-visits : goal.returns-clause-visits
returns-clause-visits g c =
    visited_in (g.T.Tree.snapshot c.args.tree.now) (g.T.Tree.snapshot c.enter.new.tree) c.args.name.now c.args.path
    (map string_bytes c.in_ok-listed.listed.names.items) c.args.self.now c.enter.new.self c.open.new.self c.open.result
    c.in_ok-listed.ensures.keeps
    (subst (λ stem. InTree (g.T.Tree.snapshot c.args.tree.now) (λ items. Enters items stem
    (map string_bytes c.in_ok-listed.listed.names.items) c.args.self.now c.enter.new.self)) c.as_str-2.ensures.value
    c.in_ok-listed.ensures.enters)
    c.in_ok-listed.ensures.names c.in_ok-listed.ensures.frames c.in_ok-listed.ensures.settings c.open.ensures.layers
    c.open.ensures.opens

pub returns-clause-frames : goal.returns-clause-frames
returns-clause-frames g c =
    opens_one (g.T.Tree.snapshot c.enter.new.tree) c.args.path (map string_bytes c.in_ok-listed.listed.names.items) c.args.self.now
    c.enter.new.self c.open.new.self c.open.result c.in_ok-listed.ensures.frames (omega arith) c.open.ensures.opens

pub returns-then-len-gt-LONGEST_PATH-clause-unread : goal.returns-then-len-gt-LONGEST_PATH-clause-unread
returns-then-len-gt-LONGEST_PATH-clause-unread g c =
    refused_noting (g.T.Tree.snapshot c.args.tree.now) c.args.name.now c.args.path c.args.self.now
    (record c.args.self.now { reader = c.note.new.self }) c.note.result (omega arith)

pub returns-clause-unread : goal.returns-clause-unread
returns-clause-unread g c =
    let names = map string_bytes c.in_ok-listed.listed.names.items in
    visited_noting_in (g.T.Tree.snapshot c.args.tree.now) (g.T.Tree.snapshot c.enter.new.tree) c.args.name.now c.args.path names
    c.in_ok-listed.listed c.args.self.now c.enter.new.self c.open.new.self c.open.result c.in_ok-listed.ensures.keeps
    (subst (λ stem. InTree (g.T.Tree.snapshot c.args.tree.now) (λ items. Enters items stem names c.args.self.now c.enter.new.self))
    c.as_str-2.ensures.value c.in_ok-listed.ensures.enters)
    c.in_ok-listed.ensures.names c.in_ok-listed.ensures.frames c.in_ok-listed.ensures.settings c.open.ensures.layers
    (c.open.ensures.reported ∙ c.in_ok-listed.ensures.reported)
    (subst (λ stem. EntersNoting (g.T.Tree.snapshot c.args.tree.now) stem c.in_ok-listed.listed c.args.self.now c.enter.new.self)
    c.as_str-2.ensures.value c.in_ok-listed.ensures.unread)
    c.open.ensures.opens c.open.ensures.unread

pub returns-then-len-gt-LONGEST_PATH-clause-stamps : goal.returns-then-len-gt-LONGEST_PATH-clause-stamps
returns-then-len-gt-LONGEST_PATH-clause-stamps g c =
    refused_stamped (g.T.Tree.snapshot c.args.tree.now) g.T.Look.stamps c.args.self.now (record c.args.self.now { reader = c.note.new.self })
    c.note.result refl

pub returns-clause-stamps : goal.returns-clause-stamps
returns-clause-stamps g c =
    visited_stamped (g.T.Tree.snapshot c.args.tree.now) (g.T.Tree.snapshot c.enter.new.tree) g.T.Look.stamps c.args.self.now c.enter.new.self
    c.open.new.self c.open.result c.in_ok-listed.ensures.keeps c.in_ok-listed.ensures.frames c.open.ensures.stamps
