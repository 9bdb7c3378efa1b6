use Rattle.cs_merge.proofs.Common.{is_covered}
use Rattle.cs_tree.specs.PathSet as set
use Rattle.cs_merge.proofs.SortedNamesLemmas.{all_mapped}
use Rattle.cs_merge.proofs.merging_names.merge_names.Goals as goal

pub returns-clause-ids : goal.returns-clause-ids
returns-clause-ids c =
    let all = c.in_ok-merge_next_name.ensures.all c.if-branch.false in
    all_mapped (is_covered (set.from_list c.args.cover.now)) c.args.old.now c.args.newer.now c.requires.old_sorted
    c.requires.newer_sorted c.merge_next_name.new.sections.names c.merge_next_name.new.ranks.older
    c.merge_next_name.new.ranks.newer c.in_ok-by_id.field-0 c.in_ok-by_id-2.field-0
    c.in_ok-merge_next_name.ensures.so_far.named all.0 all.1 c.in_ok-by_id.ensures c.in_ok-by_id-2.ensures
