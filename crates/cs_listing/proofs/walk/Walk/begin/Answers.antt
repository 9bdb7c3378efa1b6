use Rattle.std.proofs.Common.{◌≡◌, [], ◌∷◌, ◌++◌, map, take, reverse, refl, arith, sym, ap, subst, ◌∙◌}
use Rattle.std.specs.Prelude.{String, string_bytes}
use Rattle.std.specs.BTreeSet.{BTreeSet, contains_text}
use Rattle.std.specs.declared.alloc.Global.{Global}
use Rattle.std.proofs.lemmas.List.{take_all}
use Rattle.cs_tree.proofs.NameLemmas.{mapped_more}
use Rattle.cs_listing.specs.Models.{all_names, folders_in}
use Rattle.cs_listing.specs.Listing.{folders_to}
use Rattle.cs_listing.specs.FolderReads.{InTree, entry_path}
use Rattle.cs_listing.specs.Unreadable.{unread_rules_to}
use Rattle.cs_listing.specs.ReportsAll.{paths_noted, EntersNoting}
use Rattle.cs_listing.specs.Walk.{Enters, settings_in}
use Rattle.cs_listing.specs.declared.walk.Walk.{Walk}
use Rattle.cs_listing.proofs.BeginLemmas.{IsAt, HasEntered, enters_root, enters_more, begins, no_names}
use Rattle.cs_listing.proofs.ReportLemmas.{none_in}
use Rattle.cs_listing.proofs.ReportAllLemmas.{begin_noted, begin_more, begins_noting}
use Rattle.cs_listing.proofs.StepLemmas.{in_tree}
use Rattle.cs_listing.proofs.UnreadLemmas.{from_one}
use Rattle.cs_listing.proofs.StampLemmas.{begins_stamped}
use Rattle.cs_listing.proofs.walk.Walk.begin.Goals as goal

pub start-init : goal.start-init
start-init g c =
    let before : Walk = record { alloc = c.args.alloc; layers = c.new.result; frames = c.new-2.result; reader = c.new-3.result; reported = c.new-4.result } in
    let s = g.T.Tree.snapshot c.args.tree.now in
    let names = map string_bytes c.in_ok-listed.listed.names.items in
    let entered = enters_root s names (string_bytes c.new-stem.result)
    before c.enter.new.self (no_names c.new.result c.new.ensures.folders) c.new.ensures.folders c.new-2.ensures.items
    c.new-stem.ensures.bytes c.in_ok-listed.ensures.settings
    (subst (λ stem. InTree s (λ items. Enters items stem names before c.enter.new.self)) c.as_str.ensures.value c.in_ok-listed.ensures.enters)
    c.in_ok-listed.ensures.names c.in_ok-listed.ensures.frames in
    let noted = begin_noted s s [] (string_bytes c.new-stem.result) names c.in_ok-listed.listed before c.enter.new.self (λ items. []) refl
    entered c.in_ok-listed.ensures.settings
    (subst (λ stem. EntersNoting s stem c.in_ok-listed.listed before c.enter.new.self) c.as_str.ensures.value c.in_ok-listed.ensures.unread)
    (in_tree s (λ items. folders_in before.layers ≡ []) (λ items. c.new.ensures.folders))
    (in_tree s (λ items. paths_noted before.reader ≡ []) (λ items. c.new-3.ensures)) in
    record {
      entered = entered;
      settings = refl;
      reported = none_in c.new-4.result c.enter.new.self.reported c.in_ok-listed.ensures.reported c.new-4.ensures.empty;
      noted = noted.0;
      whole = noted.1;
      kept = c.in_ok-listed.ensures.keeps;
    }

pub start-preserved : goal.start-preserved
start-preserved g c =
    let s = g.T.Tree.snapshot c.args.tree.now in
    let name = string_bytes c.name-item.result in
    let before = map string_bytes (take c.start.name-index c.args.start.now) in
    let listed = map string_bytes c.in_ok-listed-2.listed.names.items in
    let more = mapped_more string_bytes c.args.start.now c.start.name-index c.name-item.result (omega arith) c.name-item.is in
    let entered = enters_more s (g.T.Tree.snapshot c.start.tree) before name (string_bytes c.start.stem) (string_bytes c.in_ok-stem.stem)
    (map string_bytes c.start.listed.names.items) listed c.start.walk c.enter-in-start.new.self c.start.invariant.kept
    c.start.invariant.entered
    (c.in_ok-stem.ensures
    ∙ ap (λ t. entry_path t c.as_str-in-start-2.result.now) c.as_str-in-start.ensures.value
    ∙ ap (λ n. entry_path (string_bytes c.start.stem) n) c.as_str-in-start-2.ensures.value)
    c.in_ok-listed-2.ensures.settings
    (subst (λ stem. InTree (g.T.Tree.snapshot c.start.tree) (λ items. Enters items stem listed c.start.walk c.enter-in-start.new.self))
    c.as_str-in-start-4.ensures.value c.in_ok-listed-2.ensures.enters)
    (c.in_ok-listed-2.ensures.names ∙ ap (λ n. all_names c.start.walk.layers ++ n ∷ []) c.as_str-in-start-3.ensures.value)
    c.in_ok-listed-2.ensures.frames in
    let noted = begin_more s (g.T.Tree.snapshot c.start.tree) before name (string_bytes c.in_ok-stem.stem) listed c.in_ok-listed-2.listed
    c.start.walk c.enter-in-start.new.self c.start.invariant.kept entered c.in_ok-listed-2.ensures.settings
    (subst (λ stem. EntersNoting (g.T.Tree.snapshot c.start.tree) stem c.in_ok-listed-2.listed c.start.walk c.enter-in-start.new.self)
    c.as_str-in-start-4.ensures.value c.in_ok-listed-2.ensures.unread)
    (from_one s (λ items. IsAt items (reverse before) c.start.walk (map string_bytes c.start.listed.names.items))
    (λ items. folders_in c.start.walk.layers ≡ folders_to (settings_in c.start.walk).takes_ignored items (reverse before))
    (λ items is. is.0) c.start.invariant.entered.at) c.start.invariant.noted in
    record {
      entered = subst (λ ns. HasEntered s ns c.enter-in-start.new.self (string_bytes c.in_ok-stem.stem) listed) (sym more) entered;
      settings = c.in_ok-listed-2.ensures.settings ∙ c.start.invariant.settings;
      reported = λ path. ap (λ (set : BTreeSet (String Global)). contains_text set path) c.in_ok-listed-2.ensures.reported
          ∙ c.start.invariant.reported path;
      noted = subst (λ ns. InTree s (λ items. paths_noted c.enter-in-start.new.self.reader
          ≡ unread_rules_to (settings_in c.enter-in-start.new.self).takes_ignored items (reverse ns))) (sym more) noted.0;
      whole = noted.1;
      kept = c.in_ok-listed-2.ensures.keeps ∙ c.start.invariant.kept;
    }

pub returns-clause-begins : goal.returns-clause-begins
returns-clause-begins g c =
    let all : take c.start.name-index c.args.start.now ≡ c.args.start.now = take_all c.start.name-index c.args.start.now (omega arith) in
    begins (g.T.Tree.snapshot c.args.tree.now) (g.T.Tree.snapshot c.start.tree) (map string_bytes c.args.start.now) c.start.stem
    (map string_bytes c.start.listed.names.items) c.start.walk c.open.new.self c.start.invariant.kept
    (subst (λ ns. HasEntered (g.T.Tree.snapshot c.args.tree.now) (map string_bytes ns) c.start.walk (string_bytes c.start.stem)
    (map string_bytes c.start.listed.names.items)) all c.start.invariant.entered)
    c.in_ok-open.ensures.opens c.open.ensures.layers

pub returns-clause-unread : goal.returns-clause-unread
returns-clause-unread g c =
    let s = g.T.Tree.snapshot c.args.tree.now in
    let names = map string_bytes c.start.listed.names.items in
    let all : take c.start.name-index c.args.start.now ≡ c.args.start.now = take_all c.start.name-index c.args.start.now (omega arith) in
    begins_noting s (g.T.Tree.snapshot c.start.tree) (map string_bytes c.args.start.now) c.start.stem names c.start.listed c.start.walk
    c.open.new.self c.start.invariant.kept
    (subst (λ ns. HasEntered s (map string_bytes ns) c.start.walk (string_bytes c.start.stem) names) all c.start.invariant.entered)
    c.in_ok-open.ensures.opens c.open.ensures.layers c.open.ensures.reported c.start.invariant.reported
    (subst (λ ns. InTree s (λ items. paths_noted c.start.walk.reader
    ≡ unread_rules_to (settings_in c.start.walk).takes_ignored items (reverse (map string_bytes ns)))) all c.start.invariant.noted)
    c.start.invariant.whole c.in_ok-open.ensures.unread

pub returns-clause-stamps : goal.returns-clause-stamps
returns-clause-stamps g c =
    begins_stamped (g.T.Tree.snapshot c.args.tree.now) (g.T.Tree.snapshot c.start.tree) g.T.Look.stamps c.start.walk c.open.new.self
    c.start.invariant.kept c.start.invariant.entered.none_open c.in_ok-open.ensures.stamps
