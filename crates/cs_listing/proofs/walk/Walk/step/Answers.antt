use Rattle.std.specs.Prelude.{Some, None}
use Rattle.std.proofs.Common.{rules, inl, ◌≡◌, [], ◌∷◌, length, arith, ap, refl, ◌∙◌}
use Rattle.std.proofs.lemmas.List.{length-append}
use Rattle.cs_listing.specs.FolderReads.{entry_path}
use Rattle.cs_listing.specs.declared.walk.Frame.{Frame}
use Rattle.cs_listing.specs.declared.walk.Walk.{Walk}
use Rattle.cs_listing.proofs.StepLemmas.{leaves_in, takes_in, visits_in, same_settings}
use Rattle.cs_listing.proofs.WeightLemmas.{leaves_lighter, visits_lighter}
use Rattle.cs_listing.specs.Walk.{TakesUnread}
use Rattle.cs_listing.specs.Stamps.{GivesStamped}
use Rattle.cs_listing.proofs.StampLemmas.{in_stamps, none_stamped, leaves_stamped, takes_stamped, visits_stamped}
use Rattle.cs_listing.proofs.ReportAllLemmas.{kept_noted, gives_unread, gives_none, leaves_unread, takes_unread, visits_unread}
use Rattle.cs_listing.specs.declared.walk.Found.TheVariants as found
use Rattle.cs_listing.proofs.walk.Walk.step.Goals as goal

pub returns-in_default-pop-2-clause-steps : goal.returns-in_default-pop-2-clause-steps
returns-in_default-pop-2-clause-steps g c =
    let empty : c.in-Some-pop.frame.entries.items ≡ [] = search rules in
    leaves_in (g.T.Tree.snapshot c.args.tree.now) c.args.self.now (record c.args.self.now {
      layers = c.leave.new.self;
      frames = c.pop.new.self;
      reader = record { alloc = c.args.self.now.reader.alloc; unread = c.next_unread.new.unread };
      reported = c.next_unread.new.reported;
    }) c.leave.result c.in-Some-pop.frame c.in-Some-pop.ensures.items empty c.leave.ensures.all c.leave.ensures.some.1
    (same_settings c.args.self.now.layers c.leave.new.self c.leave.ensures.choices)

pub returns-in_default-pop-2-clause-nearer : goal.returns-in_default-pop-2-clause-nearer
returns-in_default-pop-2-clause-nearer g c =
    leaves_lighter c.pop.new.self.items c.args.self.now.frames.items c.in-Some-pop.frame c.in-Some-pop.ensures.items

pub returns-then-name-len-clause-steps : goal.returns-then-name-len-clause-steps
returns-then-name-len-clause-steps g c =
    let next : Frame = record { stem = c.in-Some-pop.frame.stem; entries = c.pop-2.new.self } in
    takes_in (g.T.Tree.snapshot c.args.tree.now) c.args.self.now (record c.args.self.now {
      frames = c.push.new.self;
      reader = record { alloc = c.args.self.now.reader.alloc; unread = c.next_unread.new.unread };
      reported = c.next_unread.new.reported;
    }) c.pop.new.self.items c.in-Some-pop.frame next c.in-Some-pop-2.entry c.name-name.result.now
    (record { path = c.in_ok-path.path; stamp = c.in-Some-pop-2.entry.stamp })
    c.in-Some-pop.ensures.items c.in_ok-push.ensures.items refl refl c.in-Some-pop-2.ensures.items c.name-name.ensures.name
    (omega (arith, c.if-name-len.true, c.len.ensures))
    (c.in_ok-path.ensures ∙ ap (λ t. entry_path t c.name-name.result.now) c.as_str.ensures.value)

pub returns-clause-steps : goal.returns-clause-steps
returns-clause-steps g c =
    let next : Frame = record { stem = c.in-Some-pop.frame.stem; entries = c.pop-2.new.self } in
    let mid : Walk = record c.args.self.now {
      frames = c.push.new.self;
      reader = record { alloc = c.args.self.now.reader.alloc; unread = c.next_unread.new.unread };
      reported = c.next_unread.new.reported;
    } in
    visits_in (g.T.Tree.snapshot c.args.tree.now) c.args.self.now mid c.visit.new.self
    c.pop.new.self.items c.in-Some-pop.frame next c.in-Some-pop-2.entry c.name-name.result.now c.in_ok-path.path
    c.in-Some-pop.ensures.items c.in_ok-push.ensures.items refl refl c.in-Some-pop-2.ensures.items c.name-name.ensures.name
    (λ same. absurd (omega (arith, c.if-name-len.false, c.len.ensures, same)))
    (c.in_ok-path.ensures ∙ ap (λ t. entry_path t c.name-name.result.now) c.as_str.ensures.value)
    c.in_ok-visit.ensures.visits

pub returns-clause-nearer : goal.returns-clause-nearer
returns-clause-nearer g c =
    let next : Frame = record { stem = c.in-Some-pop.frame.stem; entries = c.pop-2.new.self } in
    visits_lighter c.pop.new.self.items c.args.self.now.frames.items c.push.new.self.items c.visit.new.self.frames.items
    c.in-Some-pop.frame next c.in-Some-pop.ensures.items c.in_ok-push.ensures.items
    (omega (arith, ap length c.in-Some-pop-2.ensures.items, length-append c.pop-2.new.self.items (c.in-Some-pop-2.entry ∷ [])))
    c.in_ok-visit.ensures.frames

pub returns-then-name-len-clause-nearer : goal.returns-then-name-len-clause-nearer
returns-then-name-len-clause-nearer g c =
    let next : Frame = record { stem = c.in-Some-pop.frame.stem; entries = c.pop-2.new.self } in
    visits_lighter c.pop.new.self.items c.args.self.now.frames.items c.push.new.self.items c.push.new.self.items
    c.in-Some-pop.frame next c.in-Some-pop.ensures.items c.in_ok-push.ensures.items
    (omega (arith, ap length c.in-Some-pop-2.ensures.items, length-append c.pop-2.new.self.items (c.in-Some-pop-2.entry ∷ [])))
    (inl refl)

pub returns-in_default-pop-2-clause-all : goal.returns-in_default-pop-2-clause-all
returns-in_default-pop-2-clause-all g c =
    let empty : c.in-Some-pop.frame.entries.items ≡ [] = search rules in
    leaves_unread (g.T.Tree.snapshot c.args.tree.now) c.args.self.now (record c.args.self.now {
      layers = c.leave.new.self;
      frames = c.pop.new.self;
      reader = record { alloc = c.args.self.now.reader.alloc; unread = c.next_unread.new.unread };
      reported = c.next_unread.new.reported;
    }) c.leave.result c.in-Some-pop.frame c.in-Some-pop.ensures.items empty c.leave.ensures.all c.leave.ensures.some.1
    (same_settings c.args.self.now.layers c.leave.new.self c.leave.ensures.choices)
    (kept_noted _ _ _ _ c.in_ok-next.next c.in_ok-next.ensures)

pub returns-then-name-len-clause-all : goal.returns-then-name-len-clause-all
returns-then-name-len-clause-all g c =
    let next : Frame = record { stem = c.in-Some-pop.frame.stem; entries = c.pop-2.new.self } in
    takes_unread (g.T.Tree.snapshot c.args.tree.now) c.args.self.now (record c.args.self.now {
      frames = c.push.new.self;
      reader = record { alloc = c.args.self.now.reader.alloc; unread = c.next_unread.new.unread };
      reported = c.next_unread.new.reported;
    }) c.pop.new.self.items c.in-Some-pop.frame next c.in-Some-pop-2.entry c.name-name.result.now
    (found.File (record { path = c.in_ok-path.path; stamp = c.in-Some-pop-2.entry.stamp }))
    c.in-Some-pop.ensures.items c.in_ok-push.ensures.items refl refl c.in-Some-pop-2.ensures.items c.name-name.ensures.name
    (omega (arith, c.if-name-len.true, c.len.ensures))
    (kept_noted _ _ _ _ c.in_ok-next.next c.in_ok-next.ensures)

pub returns-clause-all : goal.returns-clause-all
returns-clause-all g c =
    let next : Frame = record { stem = c.in-Some-pop.frame.stem; entries = c.pop-2.new.self } in
    let mid : Walk = record c.args.self.now {
      frames = c.push.new.self;
      reader = record { alloc = c.args.self.now.reader.alloc; unread = c.next_unread.new.unread };
      reported = c.next_unread.new.reported;
    } in
    visits_unread (g.T.Tree.snapshot c.args.tree.now) c.args.self.now mid c.visit.new.self
    c.pop.new.self.items c.in-Some-pop.frame next c.in-Some-pop-2.entry c.name-name.result.now c.in_ok-path.path
    c.in-Some-pop.ensures.items c.in_ok-push.ensures.items refl refl c.in-Some-pop-2.ensures.items c.name-name.ensures.name
    (λ same. absurd (omega (arith, c.if-name-len.false, c.len.ensures, same)))
    (c.in_ok-path.ensures ∙ ap (λ t. entry_path t c.name-name.result.now) c.as_str.ensures.value)
    (kept_noted _ _ _ _ c.in_ok-next.next c.in_ok-next.ensures)
    c.in_ok-visit.ensures.unread

pub returns-in-Some-clause-all : goal.returns-in-Some-clause-all
returns-in-Some-clause-all g c =
    gives_unread (g.T.Tree.snapshot c.args.tree.now) c.args.self.now (record c.args.self.now {
      reader = record { alloc = c.args.self.now.reader.alloc; unread = c.next_unread.new.unread };
      reported = c.next_unread.new.reported;
    }) c.in-Some.unread refl refl (kept_noted _ _ _ _ c.in_ok-next.next c.in_ok-next.ensures)

pub returns-in_default-pop-clause-all : goal.returns-in_default-pop-clause-all
returns-in_default-pop-clause-all g c =
    let takes : TakesUnread c.args.self.now.reader.unread.items c.next_unread.new.unread.items c.args.self.now.reported
    c.next_unread.new.reported None = search rules in
    gives_none (g.T.Tree.snapshot c.args.tree.now) c.args.self.now (record c.args.self.now {
      frames = c.pop.new.self;
      reader = record { alloc = c.args.self.now.reader.alloc; unread = c.next_unread.new.unread };
      reported = c.next_unread.new.reported;
    }) (search rules) takes.2

pub returns-in-Some-clause-stamps : goal.returns-in-Some-clause-stamps
returns-in-Some-clause-stamps g c =
    let new : Walk = record c.args.self.now {
      reader = record { alloc = c.args.self.now.reader.alloc; unread = c.next_unread.new.unread };
      reported = c.next_unread.new.reported;
    } in
    in_stamps (g.T.Tree.snapshot c.args.tree.now) g.T.Look.stamps
    (λ stamps. GivesStamped stamps c.args.self.now new (Some (found.Unread c.in-Some.unread))) (λ stamps all. (all, tt))

pub returns-in_default-pop-clause-stamps : goal.returns-in_default-pop-clause-stamps
returns-in_default-pop-clause-stamps g c =
    none_stamped (g.T.Tree.snapshot c.args.tree.now) g.T.Look.stamps c.args.self.now (record c.args.self.now {
      frames = c.pop.new.self;
      reader = record { alloc = c.args.self.now.reader.alloc; unread = c.next_unread.new.unread };
      reported = c.next_unread.new.reported;
    }) (search rules)

pub returns-in_default-pop-2-clause-stamps : goal.returns-in_default-pop-2-clause-stamps
returns-in_default-pop-2-clause-stamps g c =
    leaves_stamped (g.T.Tree.snapshot c.args.tree.now) g.T.Look.stamps c.args.self.now (record c.args.self.now {
      layers = c.leave.new.self;
      frames = c.pop.new.self;
      reader = record { alloc = c.args.self.now.reader.alloc; unread = c.next_unread.new.unread };
      reported = c.next_unread.new.reported;
    }) (Some c.in-Some-pop.frame) c.in-Some-pop.ensures.items

pub returns-then-name-len-clause-stamps : goal.returns-then-name-len-clause-stamps
returns-then-name-len-clause-stamps g c =
    let next : Frame = record { stem = c.in-Some-pop.frame.stem; entries = c.pop-2.new.self } in
    takes_stamped (g.T.Tree.snapshot c.args.tree.now) g.T.Look.stamps c.args.self.now (record c.args.self.now {
      frames = c.push.new.self;
      reader = record { alloc = c.args.self.now.reader.alloc; unread = c.next_unread.new.unread };
      reported = c.next_unread.new.reported;
    }) c.pop.new.self.items c.in-Some-pop.frame next c.in-Some-pop-2.entry c.name-name.result.now
    (record { path = c.in_ok-path.path; stamp = c.in-Some-pop-2.entry.stamp })
    c.in-Some-pop.ensures.items c.in_ok-push.ensures.items refl c.in-Some-pop-2.ensures.items
    (c.name-name.ensures.file (omega (arith, c.if-name-len.true, c.len.ensures)))
    (c.in_ok-path.ensures ∙ ap (λ t. entry_path t c.name-name.result.now) c.as_str.ensures.value) refl

pub returns-clause-stamps : goal.returns-clause-stamps
returns-clause-stamps g c =
    let next : Frame = record { stem = c.in-Some-pop.frame.stem; entries = c.pop-2.new.self } in
    let mid : Walk = record c.args.self.now {
      frames = c.push.new.self;
      reader = record { alloc = c.args.self.now.reader.alloc; unread = c.next_unread.new.unread };
      reported = c.next_unread.new.reported;
    } in
    visits_stamped (g.T.Tree.snapshot c.args.tree.now) g.T.Look.stamps c.args.self.now mid c.visit.new.self
    c.pop.new.self.items c.in-Some-pop.frame next c.in-Some-pop-2.entry
    c.in-Some-pop.ensures.items c.in_ok-push.ensures.items refl c.in-Some-pop-2.ensures.items c.in_ok-visit.ensures.stamps
