use denote.Ref.{Bor}
use Rattle.std.proofs.Common.{◌≡◌, Result, Ok, ℕ, ◌<◌, false, List, [], length, arith, refl, sym, ◌∙◌}
use Rattle.cs_tree.specs.PathParts.{texts}
use Rattle.cs_listing.specs.Models.{chosen_in}
use Rattle.cs_project.specs.Scopes.{AreAllNamed, left_if, unread}
use Rattle.cs_project.proofs.PrintLemmas.{keeps_same, keeps_then}
use Rattle.cs_project.proofs.NotedLemmas.{notes_more}
use Rattle.cs_project.proofs.ScopeLemmas.{HasNamed, all_taken, any_input, if_input, input_step, left_step, named_all, named_last, named_more, none_named, or_none}
use Rattle.cs_project.specs.Searched.{NamedItem}
use Rattle.cs_project.specs.declared.fault.FreshFault.{FreshFault}
use Rattle.cs_project.proofs.VisitorLemmas.{more_visited, on_err, still_known}
use Rattle.cs_project.proofs.scope.Scope.visit_words.Goals as goal

pub words-init : goal.words-init
words-init g c = record {
  handed = keeps_same g.O.Sink.model g.O.Sink.failed c.args.out.now;
  kept = refl;
  same = c.follow.ensures.itself c.args.visitor.now;
  holds = λ searched has. has;
  noted = λ tree is seen. seen;
  left = λ item. refl;
  unread = λ fresh. refl;
  named = any_input (unread false (g.R.Source.model c.args.input.now)) (λ input known. none_named (g.T.Tree.snapshot c.args.tree.now)
      (chosen_in c.args.self.now.choices.now) c.args.self.now.folder.now input (g.V.Visitor.is_wrong c.args.visitor.now)
      (λ named. g.V.Visitor.Begins c.args.visitor.now c.args.visitor.now named c.args.out.now.sent.bytes c.args.out.now.sent.bytes
      × g.V.Visitor.Visits c.args.visitor.now c.args.visitor.now named c.args.out.now.sent.bytes c.args.out.now.sent.bytes)
      (c.follow.ensures.none c.args.visitor.now c.args.out.now.sent.bytes));
}

pub words-preserved : goal.words-preserved
words-preserved g c =
    let law = c.follow.ensures in
    let tree = g.T.Tree.snapshot c.args.tree.now in
    let now = g.T.Tree.snapshot c.words.tree in
    let scope = c.args.self.now in
    let words = scope.words.now in
    let at = c.words.word-index in
    let given = c.args.out.now.sent.bytes in
    let middle = c.words.out.sent.bytes in
    let later = c.visit.new.out.sent.bytes in
    let old = c.args.visitor.now in
    let mid = c.words.visitor in
    let new = c.visit.new.visitor in
    let had = c.words.invariant in
    let keeps = c.in_ok-visit.ensures.same in
    let model = g.R.Source.model c.args.input.now in
    let none : Bor (List ℕ) = record { ref_ptr = (0, 0); now = [] } in
    let P : List NamedItem → Type 0 = λ named. g.V.Visitor.Begins old mid named given middle × g.V.Visitor.Visits old mid named given middle in
    let fine : Result (Unit {0}) FreshFault = Ok tt in
    let Q : List NamedItem → Type 0 = λ named. g.V.Visitor.Begins old new named given later × g.V.Visitor.Visits old new named given later in
    let low : at < length words = omega (arith, c.words-test.true) in
    record {
      handed = keeps_then g.O.Sink.model g.O.Sink.failed c.args.out.now c.words.out c.visit.new.out had.handed c.in_ok-visit.ensures.handed;
      kept = c.in_ok-visit.ensures.keeps ∙ had.kept;
      same = law.again old mid new had.same keeps;
      holds = λ searched is. c.in_ok-visit.ensures.holds searched (had.holds searched is);
      noted = notes_more g.T.Look.stamps tree now (g.K.Knowledge.noted c.args.known.now)
          (g.K.Knowledge.noted c.words.known) (g.K.Knowledge.noted c.visit.new.known) had.kept had.noted c.in_ok-visit.ensures.notes;
      left = left_step words at none c.words.is_read c.is_input.result c.either-is_read.result low had.left c.is_input.ensures
          c.either-is_read.ensures;
      unread = λ fresh. let parts = or_none c.words.is_read c.is_input.result (sym c.either-is_read.ensures ∙ fresh) in
          c.in_ok-visit.ensures.left (sym c.is_input.ensures ∙ parts.1) ∙ had.unread parts.0;
      named = if_input (unread false model) (λ input both known.
          named_more g.V.Visitor.Begins g.V.Visitor.Visits g.V.Visitor.is_done g.V.Visitor.is_wrong (chosen_in scope.choices.now) scope.folder.now
          input (left_if c.words.is_read input) words at none mid new middle later FreshFault tree now P Q (tt {0}) low had.kept (had.left input)
          (law.right mid new keeps) (both.0 known)
          (both.1 (still_known g.V.Visitor.Asks (g.K.Knowledge.Holds c.args.known.now) (g.K.Knowledge.Holds c.words.known) g.T.Look.stamps tree now
          old mid had.kept had.holds (law.asked old mid had.same) known))
          (sym c.is_done.ensures ∙ c.if-is_done.false)
          (λ all more had' has. more_visited law old mid new
          given middle later fine had.same keeps all more had' has))
          (input_step _ _ model (g.R.Source.model c.words.input) c.words.is_read had.unread had.named c.in_ok-visit.ensures.visits);
    }

pub returns-then-is_done-clause-visits : goal.returns-then-is_done-clause-visits
returns-then-is_done-clause-visits g c =
    let law = c.follow.ensures in
    let tree = g.T.Tree.snapshot c.args.tree.now in
    let now = g.T.Tree.snapshot c.words.tree in
    let scope = c.args.self.now in
    let words = scope.words.now in
    let chosen = chosen_in scope.choices.now in
    let given = c.args.out.now.sent.bytes in
    let middle = c.words.out.sent.bytes in
    let later = c.visit.new.out.sent.bytes in
    let old = c.args.visitor.now in
    let mid = c.words.visitor in
    let new = c.visit.new.visitor in
    let had = c.words.invariant in
    let P : List NamedItem → Type 0 = λ named. g.V.Visitor.Begins old mid named given middle × g.V.Visitor.Visits old mid named given middle in
    let fine : Result (Unit {0}) FreshFault = Ok tt in
    let model = g.R.Source.model c.args.input.now in
    if_input (unread false model) (λ input both known.
    named_last g.V.Visitor.Begins g.V.Visitor.Visits g.V.Visitor.is_done g.V.Visitor.is_wrong chosen scope.folder.now
    input (left_if c.words.is_read input) words c.words.word-index record { ref_ptr = (0, 0); now = [] } mid new middle later old given tree now P
    (g.V.Visitor.is_wrong mid)
    (λ items named. g.V.Visitor.is_wrong new ≡ false → AreAllNamed items chosen scope.folder.now input (texts words) named)
    fine fine (omega (arith, c.words-test.true)) had.kept (had.left input) (both.0 known)
    (both.1 (still_known g.V.Visitor.Asks (g.K.Knowledge.Holds c.args.known.now) (g.K.Knowledge.Holds c.words.known) g.T.Look.stamps tree now
    old mid had.kept had.holds (law.asked old mid had.same) known))
    (sym c.is_done.ensures ∙ c.if-is_done.true)
    (λ all more had' has. more_visited law old mid new
    given middle later fine had.same c.in_ok-visit.ensures.same all more had' has))
    (input_step _ _ model (g.R.Source.model c.words.input) c.words.is_read had.unread had.named c.in_ok-visit.ensures.visits)

pub returns-in_err-visit-clause-visits : goal.returns-in_err-visit-clause-visits
returns-in_err-visit-clause-visits g c =
    let law = c.follow.ensures in
    let tree = g.T.Tree.snapshot c.args.tree.now in
    let now = g.T.Tree.snapshot c.words.tree in
    let scope = c.args.self.now in
    let words = scope.words.now in
    let chosen = chosen_in scope.choices.now in
    let given = c.args.out.now.sent.bytes in
    let middle = c.words.out.sent.bytes in
    let later = c.visit.new.out.sent.bytes in
    let old = c.args.visitor.now in
    let mid = c.words.visitor in
    let new = c.visit.new.visitor in
    let had = c.words.invariant in
    let P : List NamedItem → Type 0 = λ named. g.V.Visitor.Begins old mid named given middle × g.V.Visitor.Visits old mid named given middle in
    let ends = c.from_residual.result in
    let fails = c.from_residual.ensures.0 in
    let model = g.R.Source.model c.args.input.now in
    if_input (unread false model) (λ input both known.
    named_last g.V.Visitor.Begins g.V.Visitor.Visits g.V.Visitor.is_done g.V.Visitor.is_wrong chosen scope.folder.now
    input (left_if c.words.is_read input) words c.words.word-index record { ref_ptr = (0, 0); now = [] } mid new middle later old given tree now P
    (g.V.Visitor.is_wrong mid)
    (λ items named. g.V.Visitor.is_wrong new ≡ false → AreAllNamed items chosen scope.folder.now input (texts words) named)
    c.visit.result ends (omega (arith, c.words-test.true)) had.kept (had.left input) (both.0 known)
    (both.1 (still_known g.V.Visitor.Asks (g.K.Knowledge.Holds c.args.known.now) (g.K.Knowledge.Holds c.words.known) g.T.Look.stamps tree now
    old mid had.kept had.holds (law.asked old mid had.same) known))
    (on_err _ ends fails)
    (λ all more had' has. let both = more_visited law old mid new
    given middle later c.visit.result had.same c.visit.ensures.same all more had' has in (both.0, on_err _ ends fails)))
    (input_step _ _ model (g.R.Source.model c.words.input) c.words.is_read had.unread had.named c.visit.ensures.visits)

pub returns-clause-visits : goal.returns-clause-visits
returns-clause-visits g c =
    let tree = g.T.Tree.snapshot c.args.tree.now in
    let scope = c.args.self.now in
    let wrong = g.V.Visitor.is_wrong c.words.visitor in
    let old = c.args.visitor.now in
    let new = c.words.visitor in
    let given = c.args.out.now.sent.bytes in
    let later = c.words.out.sent.bytes in
    let P : List NamedItem → Type 0 = λ named. g.V.Visitor.Begins old new named given later × g.V.Visitor.Visits old new named given later in
    if_input (unread false (g.R.Source.model c.args.input.now))
    (λ input has known. named_all FreshFault g.V.Visitor.Begins g.V.Visitor.Visits g.V.Visitor.is_done g.V.Visitor.is_wrong c.args.visitor.now c.words.visitor
    c.args.out.now.sent.bytes c.words.out.sent.bytes tree (chosen_in scope.choices.now) scope.folder.now input (texts scope.words.now) P (tt {0})
    (all_taken (λ ws. HasNamed tree (chosen_in scope.choices.now) scope.folder.now input ws wrong P)
    scope.words.now c.words.word-index (omega (arith, c.words-test.false)) (has known)) (λ all both. both))
    c.words.invariant.named
