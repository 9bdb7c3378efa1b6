use Rattle.std.proofs.Common.{ℕ, List, sym, ap, subst, ◌∙◌, slice_get}
use Rattle.std.specs.List.{AllByRecursion}
use Rattle.cs_merge.proofs.Common.{is_covered, IsString, Parts}
use Rattle.cs_tree.specs.PathSet as set
use Rattle.cs_merge.proofs.MergedFilesLemmas.{all_covered}
use Rattle.cs_merge.proofs.merging.begin_merged.Goals as goal

pub merge_names-requires-clause-covered : goal.merge_names-requires-clause-covered
merge_names-requires-clause-covered c id name there =
    let newer : Parts = c.args.newer.now in
    let tested = c.requires.tested in
    ap (λ paths. is_covered paths name) (c.in_ok-cover.ensures ∙ ap set.from_list c.paths-2.ensures)
    ∙ all_covered newer tested.covered id name (ap (λ (ns : List (List ℕ)). slice_get ns id) (sym tested.newer_names) ∙ there)

pub begin_paths-requires-clause-newer : goal.begin_paths-requires-clause-newer
begin_paths-requires-clause-newer c = subst (AllByRecursion IsString) (sym c.paths.ensures) c.are_valid.ensures.each_path
