use Rattle.std.proofs.Common.{◌≡◌, List, ℕ, map, ap, subst, ◌∙◌}
use Rattle.cs_tree.specs.NamesAscending.{are_ascending}
use Rattle.std.specs.Prelude.{string_bytes, IfOk}
use Rattle.cs_tree.specs.PathParts.{texts}
use Rattle.cs_tree.specs.PathSet as set
use Rattle.cs_tree.proofs.ReduceLemmas.{items_ascend, filter-least}
use Rattle.cs_tree.proofs.paths.reduce.Goals as goal

pub paths_alone-requires : goal.paths_alone-requires
paths_alone-requires c =
    ap are_ascending (ap texts c.deref.ensures.value ∙ c.in_ok-ordered.ensures)
    ∙ items_ascend (set.from_list (map string_bytes c.args.paths.now))

pub returns : goal.returns
returns c =
    subst (λ (least : List (List ℕ)). IfOk c.paths_alone.result (λ kept. map string_bytes kept.items ≡ least))
    (filter-least (set.from_list (map string_bytes c.args.paths.now)) (texts c.deref.result.now)
    (ap texts c.deref.ensures.value ∙ c.in_ok-ordered.ensures))
    c.paths_alone.ensures
