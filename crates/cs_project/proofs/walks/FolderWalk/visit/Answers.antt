use Rattle.std.proofs.Common.{◌≡◌, List, Result, Ok, refl, sym, subst, ◌∙◌}
use Rattle.std.specs.Prelude.{OnOk, string_bytes}
use Rattle.cs_listing.specs.Stamps.{AreStamped, InStamps}
use Rattle.cs_project.specs.Searched.{NamedItem}
use Rattle.cs_project.specs.Visits.{KnowsFor}
use Rattle.cs_project.specs.declared.fault.FreshFault.{FreshFault}
use Rattle.cs_project.specs.Walked.{GivesStampedFile}
use Rattle.cs_project.proofs.NotedLemmas.{notes_more}
use Rattle.cs_project.proofs.PrintLemmas.{keeps_same, keeps_then}
use Rattle.cs_project.proofs.VisitorLemmas.{none_more, on_err, still_known}
use Rattle.cs_project.proofs.WalkedLemmas.{GivesIn, met_taken, none_taken, stamp_at, stamps_left, walk_all, walk_some}
use Rattle.cs_project.proofs.walks.FolderWalk.visit.Goals as goal

pub visit_met-requires : goal.visit_met-requires
visit_met-requires g c =
    let tree = g.T.Tree.snapshot c.args.tree.now in
    let now = g.T.Tree.snapshot c.files.tree in
    let stamps = g.T.Look.stamps in
    let file = c.in-Some.file in
    subst (λ s. InStamps s stamps (λ at. file.stamp ≡ at (string_bytes file.path))) (sym (c.in_ok-file.ensures.keeps ∙ c.files.invariant.kept))
    (stamp_at stamps tree now c.files.self c.next.new.self file c.files.invariant.kept c.files.invariant.stamped
    (subst (λ file. InStamps now stamps (λ s. AreStamped s c.files.self.walk → GivesStampedFile s c.next.new.self file)) c.in-Some.is
    c.in_ok-file.ensures.stamps))

pub files-init : goal.files-init
files-init g c =
    let old = c.args.visitor.now in
    let given = c.args.out.now.sent.bytes in
    let Known = KnowsFor g.V.Visitor.Asks (g.K.Knowledge.Holds c.args.known.now) g.T.Look.stamps (g.T.Tree.snapshot c.args.tree.now) old in
    let P : List NamedItem → Type 0 = λ named. Known → g.V.Visitor.Begins old old named given given × g.V.Visitor.Visits old old named given given in
    record {
      handed = keeps_same g.O.Sink.model g.O.Sink.failed c.args.out.now;
      kept = refl;
      form = refl;
      same = c.follow.ensures.itself c.args.visitor.now;
      stamped = c.requires;
      holds = λ searched has. has;
      noted = λ tree is seen. seen;
      taken = none_taken (g.T.Tree.snapshot c.args.tree.now) c.args.self.now P (λ known. c.follow.ensures.none old given);
    }

pub files-preserved : goal.files-preserved
files-preserved g c =
    let tree = g.T.Tree.snapshot c.args.tree.now in
    let now = g.T.Tree.snapshot c.files.tree in
    let law = c.follow.ensures in
    let old = c.args.visitor.now in
    let was = c.files.visitor in
    let mid = c.next.new.visitor in
    let new = c.visit_met.new.self in
    let file = c.in-Some.file in
    let middle = c.files.out.sent.bytes in
    let had = c.files.invariant in
    let stays = c.in_ok-file.ensures.same in
    let keeps = c.in_ok-visit_met.ensures.same in
    let first = g.K.Knowledge.Holds c.args.known.now in
    let kept = c.in_ok-file.ensures.keeps ∙ had.kept in
    let to_mid = law.again old was mid had.same stays in
    let fine : Result (Unit {0}) FreshFault = Ok tt in
    record {
      handed = keeps_then g.O.Sink.model g.O.Sink.failed c.args.out.now c.files.out c.visit_met.new.out had.handed c.in_ok-visit_met.ensures.handed;
      kept = c.in_ok-visit_met.ensures.keeps ∙ kept;
      form = c.in_ok-file.ensures.form ∙ had.form;
      same = law.again old mid new to_mid keeps;
      stamped = stamps_left g.T.Look.stamps tree now c.files.self c.next.new.self file had.kept had.stamped
          (subst (λ file. InStamps now g.T.Look.stamps (λ s. AreStamped s c.files.self.walk → GivesStampedFile s c.next.new.self file)) c.in-Some.is
          c.in_ok-file.ensures.stamps);
      holds = λ at had'. c.in_ok-visit_met.ensures.holds at (had.holds at had');
      noted = notes_more g.T.Look.stamps tree (g.T.Tree.snapshot c.next.new.tree) (g.K.Knowledge.noted c.args.known.now)
          (g.K.Knowledge.noted c.files.known) (g.K.Knowledge.noted c.visit_met.new.known) kept had.noted c.in_ok-visit_met.ensures.notes;
      taken = met_taken law
          (KnowsFor g.V.Visitor.Asks first g.T.Look.stamps tree old) tree now (g.T.Tree.snapshot c.next.new.tree) c.args.self.now c.files.self
          c.next.new.self file old was mid new c.args.out.now.sent.bytes middle c.visit_met.new.out.sent.bytes fine had.kept kept had.form had.taken
          (subst (λ file. GivesIn now c.files.self c.next.new.self file) c.in-Some.is c.in_ok-file.ensures.gives) had.same stays
          (c.in_ok-file.ensures.visits middle) keeps
          (λ known. c.in_ok-visit_met.ensures.visits (still_known g.V.Visitor.Asks first (g.K.Knowledge.Holds c.files.known) g.T.Look.stamps tree
          (g.T.Tree.snapshot c.next.new.tree) old mid kept had.holds (law.asked old mid to_mid) known));
    }

pub returns-in_err-file-clause-visits : goal.returns-in_err-file-clause-visits
returns-in_err-file-clause-visits g c = λ known.
    let law = c.follow.ensures in
    let old = c.args.visitor.now in
    let given = c.args.out.now.sent.bytes in
    let later = c.files.out.sent.bytes in
    let had = c.files.invariant in
    let Known = KnowsFor g.V.Visitor.Asks (g.K.Knowledge.Holds c.args.known.now) g.T.Look.stamps (g.T.Tree.snapshot c.args.tree.now) old in
    let P : List NamedItem → Type 0 = λ named. Known → g.V.Visitor.Begins old c.files.visitor named given later
    × g.V.Visitor.Visits old c.files.visitor named given later in
    let fails = c.from_residual.ensures.0 in
    walk_some g.V.Visitor.Begins g.V.Visitor.Visits g.V.Visitor.is_done old c.next.new.visitor given later (g.T.Tree.snapshot c.args.tree.now)
    c.args.self.now c.files.self P c.from_residual.result had.taken
    (λ all has. let both = none_more law old c.files.visitor
    c.next.new.visitor given later had.same c.next.ensures.same (c.next.ensures.visits later) all (has known) in (both.0, on_err _ c.from_residual.result fails)) (on_err _ c.from_residual.result fails)

pub returns-in_err-visit_met-clause-visits : goal.returns-in_err-visit_met-clause-visits
returns-in_err-visit_met-clause-visits g c = λ known.
    let tree = g.T.Tree.snapshot c.args.tree.now in
    let now = g.T.Tree.snapshot c.files.tree in
    let law = c.follow.ensures in
    let old = c.args.visitor.now in
    let was = c.files.visitor in
    let mid = c.next.new.visitor in
    let new = c.visit_met.new.self in
    let file = c.in-Some.file in
    let given = c.args.out.now.sent.bytes in
    let middle = c.files.out.sent.bytes in
    let later = c.visit_met.new.out.sent.bytes in
    let had = c.files.invariant in
    let stays = c.in_ok-file.ensures.same in
    let first = g.K.Knowledge.Holds c.args.known.now in
    let kept = c.in_ok-file.ensures.keeps ∙ had.kept in
    let to_mid = law.again old was mid had.same stays in
    let fails = c.from_residual-in_err-visit_met.ensures.0 in
    let ends = c.from_residual-in_err-visit_met.result in
    let Known = KnowsFor g.V.Visitor.Asks first g.T.Look.stamps tree old in
    let Q : List NamedItem → Type 0 = λ named. Known → g.V.Visitor.Begins old new named given later
    × OnOk c.visit_met.result (g.V.Visitor.Visits old new named given later) in
    walk_some g.V.Visitor.Begins g.V.Visitor.Visits g.V.Visitor.is_done old new given later tree c.args.self.now c.next.new.self Q ends
    (met_taken law
    (KnowsFor g.V.Visitor.Asks first g.T.Look.stamps tree old) tree now (g.T.Tree.snapshot c.next.new.tree) c.args.self.now c.files.self
    c.next.new.self file old was mid new given middle later c.visit_met.result had.kept kept had.form had.taken
    (subst (λ file. GivesIn now c.files.self c.next.new.self file) c.in-Some.is c.in_ok-file.ensures.gives) had.same stays
    (c.in_ok-file.ensures.visits middle) c.visit_met.ensures.same
    (λ known. c.visit_met.ensures.visits (still_known g.V.Visitor.Asks first (g.K.Knowledge.Holds c.files.known) g.T.Look.stamps tree
    (g.T.Tree.snapshot c.next.new.tree) old mid kept had.holds (law.asked old mid to_mid) known)))
    (λ all has. ((has known).0, on_err _ ends fails)) (on_err _ ends fails)

pub returns-then-is_done-clause-visits : goal.returns-then-is_done-clause-visits
returns-then-is_done-clause-visits g c = λ known.
    let tree = g.T.Tree.snapshot c.args.tree.now in
    let now = g.T.Tree.snapshot c.files.tree in
    let law = c.follow.ensures in
    let old = c.args.visitor.now in
    let was = c.files.visitor in
    let mid = c.next.new.visitor in
    let new = c.visit_met.new.self in
    let file = c.in-Some.file in
    let given = c.args.out.now.sent.bytes in
    let middle = c.files.out.sent.bytes in
    let later = c.visit_met.new.out.sent.bytes in
    let had = c.files.invariant in
    let stays = c.in_ok-file.ensures.same in
    let first = g.K.Knowledge.Holds c.args.known.now in
    let kept = c.in_ok-file.ensures.keeps ∙ had.kept in
    let to_mid = law.again old was mid had.same stays in
    let fine : Result (Unit {0}) FreshFault = Ok tt in
    let Known = KnowsFor g.V.Visitor.Asks first g.T.Look.stamps tree old in
    let Q : List NamedItem → Type 0 = λ named. Known → g.V.Visitor.Begins old new named given later
    × OnOk fine (g.V.Visitor.Visits old new named given later) in
    walk_some g.V.Visitor.Begins g.V.Visitor.Visits g.V.Visitor.is_done old new given later tree c.args.self.now c.next.new.self Q fine
    (met_taken law
    (KnowsFor g.V.Visitor.Asks first g.T.Look.stamps tree old) tree now (g.T.Tree.snapshot c.next.new.tree) c.args.self.now c.files.self
    c.next.new.self file old was mid new given middle later fine had.kept kept had.form had.taken
    (subst (λ file. GivesIn now c.files.self c.next.new.self file) c.in-Some.is c.in_ok-file.ensures.gives) had.same stays
    (c.in_ok-file.ensures.visits middle) c.in_ok-visit_met.ensures.same
    (λ known. c.in_ok-visit_met.ensures.visits (still_known g.V.Visitor.Asks first (g.K.Knowledge.Holds c.files.known) g.T.Look.stamps tree
    (g.T.Tree.snapshot c.next.new.tree) old mid kept had.holds (law.asked old mid to_mid) known)))
    (λ all has. has known) (sym c.is_done.ensures ∙ c.if-is_done.true)

pub returns-clause-visits : goal.returns-clause-visits
returns-clause-visits g c = λ known.
    let now = g.T.Tree.snapshot c.files.tree in
    let law = c.follow.ensures in
    let old = c.args.visitor.now in
    let given = c.args.out.now.sent.bytes in
    let later = c.files.out.sent.bytes in
    let had = c.files.invariant in
    let Known = KnowsFor g.V.Visitor.Asks (g.K.Knowledge.Holds c.args.known.now) g.T.Look.stamps (g.T.Tree.snapshot c.args.tree.now) old in
    let P : List NamedItem → Type 0 = λ named. Known → g.V.Visitor.Begins old c.files.visitor named given later
    × g.V.Visitor.Visits old c.files.visitor named given later in
    walk_all g.V.Visitor.Begins g.V.Visitor.Visits g.V.Visitor.is_done old c.next.new.visitor given later FreshFault (g.T.Tree.snapshot c.args.tree.now) now
    c.args.self.now c.files.self c.next.new.self P (tt {0}) had.kept had.taken
    (subst (λ file. GivesIn now c.files.self c.next.new.self file) c.in_default.is c.in_ok-file.ensures.gives)
    (λ all has. none_more law old c.files.visitor
    c.next.new.visitor given later had.same c.in_ok-file.ensures.same (c.in_ok-file.ensures.visits later) all (has known))
