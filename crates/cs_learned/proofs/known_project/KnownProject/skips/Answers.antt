use Rattle.std.proofs.Common.{true, subst, sym}
use Rattle.std.specs.Prelude.{string_bytes}
use Rattle.std.specs.Str.Pattern.{FindsTextPrefix, StripsPrefix}
use Rattle.cs_project.specs.Knowledge.{SkipsNothingShown}
use Rattle.cs_learned.specs.KnownProjects.{IsFoundIn, IsKnownFor}
use Rattle.cs_learned.proofs.KnownProjectLemmas.{skips_nothing_shown, stripped}
use Rattle.cs_learned.proofs.NotedLemmas.{notes_after}
use Rattle.cs_learned.proofs.known_project.KnownProject.skips.Goals as goal

pub returns-in-Skipped-clause-skips : goal.returns-in-Skipped-clause-skips
returns-in-Skipped-clause-skips g c =
    let path = c.args.path.now in
    let root = string_bytes c.args.self.now.root in
    let name = c.in-Some-strip_prefix.name.now in
    let files = c.args.self.now.files in
    let below = stripped path root name
    (subst (λ s. StripsPrefix (FindsTextPrefix s) path name) c.as_str.ensures.value c.in-Some-strip_prefix.ensures.cases) in
    let found = subst (λ l. IsFoundIn g.S.Store.model files name c.in-Some.stamp l) c.in-Skipped.is c.in_ok-find.ensures.found in
    subst (λ seen. SkipsNothingShown (IsKnownFor g.S.Store.model root files) path seen true) (sym c.in-Some.is)
    (skips_nothing_shown g.S.Store.model root files c.a_skipped_path_prints_nothing.ensures path name c.in-Some.stamp below found)

pub returns-in_err-note-in-Unknown-clause-notes : goal.returns-in_err-note-in-Unknown-clause-notes
returns-in_err-note-in-Unknown-clause-notes g c =
    let path = c.args.path.now in
    let name = c.in-Some-strip_prefix.name.now in
    notes_after path name c.args.stamp c.in-Some.stamp c.args.self.now c.find.new.self c.note.new.self
    (stripped path (string_bytes c.args.self.now.root) name
    (subst (λ s. StripsPrefix (FindsTextPrefix s) path name) c.as_str.ensures.value c.in-Some-strip_prefix.ensures.cases))
    c.in-Some.is c.find.ensures.root c.find.ensures.noted c.note.ensures.notes

pub returns-in_ok-note-in-Unknown-clause-notes : goal.returns-in_ok-note-in-Unknown-clause-notes
returns-in_ok-note-in-Unknown-clause-notes g c =
    let path = c.args.path.now in
    let name = c.in-Some-strip_prefix.name.now in
    notes_after path name c.args.stamp c.in-Some.stamp c.args.self.now c.find.new.self c.note.new.self
    (stripped path (string_bytes c.args.self.now.root) name
    (subst (λ s. StripsPrefix (FindsTextPrefix s) path name) c.as_str.ensures.value c.in-Some-strip_prefix.ensures.cases))
    c.in-Some.is c.find.ensures.root c.find.ensures.noted c.note.ensures.notes
