use Rattle.std.proofs.Common.{ap, sym, subst, ◌∙◌, rules}
use Rattle.std.specs.Prelude.{IsSome, string_bytes}
use Rattle.std.specs.List.{list_any}
use Rattle.cs_fakes.specs.declared.types.MemEntry.{MemEntry}
use Rattle.cs_fakes.specs.Changes.{is_removed_with}
use Rattle.cs_fakes.proofs.MemItemLemmas.{left_items, any_found, items_are_modelled, get-snapshot_of}
use Rattle.cs_fakes.proofs.types.MemTree.remove.Goals as goal

pub returns-clause-left : goal.returns-clause-left
returns-clause-left c = λ q. left_items c.args.path.now c.args.self.now.items.items c.drop_below.new.items.items
    c.unlist_all.new.items.items q c.drop_below.ensures c.unlist_all.ensures

pub returns-clause-answer : goal.returns-clause-answer
returns-clause-answer c =
    let some = any_found (is_removed_with c.args.path.now) c.args.self.now.items.items in
    let at = get-snapshot_of c.args.self.now.items.items in
    let is = c.removes_any-found.ensures ∙ ap
    (list_any (λ (s : MemEntry). is_removed_with c.args.path.now (string_bytes s.path))) c.deref.ensures.value in (
      λ h. let found = some.0 (sym is ∙ h) in (found.0, found.1, subst IsSome (sym (at found.0)) found.2),
      λ found. is ∙ some.1 (found.0, found.1, subst IsSome (at found.0) found.2),
    )

pub returns-clause-modelled : goal.returns-clause-modelled
returns-clause-modelled c = items_are_modelled _

pub returns-clause-closed : goal.returns-clause-closed
returns-clause-closed c = search rules

pub returns-clause-step : goal.returns-clause-step
returns-clause-step c = search rules
