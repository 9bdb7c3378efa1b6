use Rattle.std.proofs.Common.{[], Some, None, refl, ap, subst, ◌∙◌, arith, rules}
use Rattle.std.specs.Prelude.{string_bytes}
use Rattle.std.proofs.lemmas.Grind.{common_steps}
use Rattle.cs_listing.specs.Stamps.{GivesStamped, InStamps}
use Rattle.cs_listing.specs.declared.walk.Found.TheVariants as found
use Rattle.cs_project.specs.Names.{name_of}
use Rattle.cs_project.specs.declared.walks.FolderWalk.{FolderWalk}
use Rattle.cs_project.specs.declared.walks.NamedPath.{NamedPath}
use Rattle.cs_project.proofs.VisitorLemmas.{none_more}
use Rattle.cs_project.proofs.WalkedLemmas.{NextGives, file_given, stamp_given, stamped_more}
use Rattle.cs_project.proofs.walks.FolderWalk.next.Goals as goal

pub returns-in-File-clause-gives : goal.returns-in-File-clause-gives
returns-in-File-clause-gives g c =
    let file = c.in-File.file in
    let next : FolderWalk = record { alloc = c.unread.self.alloc; walk = c.next.new.self; form = c.unread.self.form } in
    let named : NamedPath = record { path = file.path; stamp = file.stamp; name = c.in_ok-name-in-File.name } in
    file_given (g.T.Tree.snapshot c.args.tree.now) (g.T.Tree.snapshot c.unread.tree) c.args.self.now c.unread.self next file named
    c.unread.invariant.kept c.unread.invariant.left
    (subst (λ found. NextGives (g.T.Tree.snapshot c.unread.tree) c.unread.self.walk c.next.new.self found)
    (c.in-Some.is ∙ ap Some c.in-File.is) c.in_ok-found.ensures.gives)
    refl
    (c.in_ok-name-in-File.ensures ∙ ap (λ p. name_of c.unread.self.form p) c.as_str.ensures.value
    ∙ ap (λ form. name_of form (string_bytes file.path)) c.unread.invariant.form)

pub returns-in-File-clause-stamps : goal.returns-in-File-clause-stamps
returns-in-File-clause-stamps g c =
    let tree = g.T.Tree.snapshot c.args.tree.now in
    let now = g.T.Tree.snapshot c.unread.tree in
    let stamps = g.T.Look.stamps in
    stamp_given stamps tree now c.args.self.now.walk c.unread.self.walk c.next.new.self c.in-File.file c.unread.invariant.kept
    c.unread.invariant.stamped
    (subst (λ found. InStamps now stamps (λ s. GivesStamped s c.unread.self.walk c.next.new.self found)) (c.in-Some.is ∙ ap Some c.in-File.is)
    c.in_ok-found.ensures.stamps)

pub unread-init : goal.unread-init
unread-init g c = record {
  kept = refl;
  form = refl;
  weight = search rules;
  visits = c.follow.ensures.none c.args.visitor.now;
  same = c.follow.ensures.itself c.args.visitor.now;
  stamped = search rules;
  left = search rules;
}

pub unread-preserved : goal.unread-preserved
unread-preserved g c =
    let now = g.T.Tree.snapshot c.unread.tree in
    let stamps = g.T.Look.stamps in
    let law = c.follow.ensures in
    let old = c.args.visitor.now in
    let mid = c.unread.visitor in
    let new = c.report.new.self in
    let had = c.unread.invariant in
    let says = c.in_ok-report-in-Unread.ensures in
    record {
      kept = search rules;
      form = search rules;
      weight = grind (arith, common_steps);
      visits = λ bytes. none_more law old mid new bytes bytes
          had.same says.same (says.visits bytes) [] (had.visits bytes);
      same = law.again old mid new had.same says.same;
      stamped = stamped_more stamps (g.T.Tree.snapshot c.args.tree.now) now c.args.self.now.walk c.unread.self.walk c.next.new.self
          (Some (found.Unread c.in-Unread.unread)) c.unread.invariant.kept c.unread.invariant.stamped
          (subst (λ given. InStamps now stamps (λ s. GivesStamped s c.unread.self.walk c.next.new.self given)) (c.in-Some.is ∙ ap Some c.in-Unread.is)
          c.in_ok-found.ensures.stamps);
      left = search rules;
    }

pub returns-clause-stamps : goal.returns-clause-stamps
returns-clause-stamps g c =
    let now = g.T.Tree.snapshot c.unread.tree in
    let stamps = g.T.Look.stamps in
    stamped_more stamps (g.T.Tree.snapshot c.args.tree.now) now c.args.self.now.walk c.unread.self.walk c.next.new.self None
    c.unread.invariant.kept c.unread.invariant.stamped
    (subst (λ given. InStamps now stamps (λ s. GivesStamped s c.unread.self.walk c.next.new.self given)) c.in_default.is
    c.in_ok-found.ensures.stamps)

pub returns-in_err-report-in-Unread-clause-visits : goal.returns-in_err-report-in-Unread-clause-visits
returns-in_err-report-in-Unread-clause-visits g c =
    let law = c.follow.ensures in
    let had = c.unread.invariant in
    let says = c.report.ensures in
    λ bytes. none_more law c.args.visitor.now c.unread.visitor
    c.report.new.self bytes bytes had.same says.same (says.visits bytes) [] (had.visits bytes)

pub returns-in_err-report-in-Unread-clause-same : goal.returns-in_err-report-in-Unread-clause-same
returns-in_err-report-in-Unread-clause-same g c =
    c.follow.ensures.again c.args.visitor.now c.unread.visitor c.report.new.self c.unread.invariant.same c.report.ensures.same
