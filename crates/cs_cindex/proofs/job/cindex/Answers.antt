use Rattle.std.proofs.Common.{◌≡◌, ◌≢◌, ◌<◌, ◌+◌, length, get_or, refl, arith, ◌∙◌, get_or-set_other}
use Rattle.std.proofs.Math.Seq.{map-set_same}
use Rattle.cs_cindex.proofs.Common.{get_or_default, longest_path, RequestsWithin, requests_none, requests_on}
use Rattle.cs_cindex.specs.KeepsTree.{BytesWithin}
use Rattle.cs_cindex.proofs.ReadLemmas.{bytes_none, bytes_on}
use Rattle.cs_trigram.specs.Text.{limits}
use Rattle.cs_cindex.proofs.JobSequenceLemmas.{indexes_none, indexes_more, right_all_more, steps_more, all_none, all_more}
use Rattle.std.specs.Prelude.{option_map, vec_items}
use Rattle.cs_cindex.proofs.job.cindex.Goals as goal

pub jobs-init : goal.jobs-init
jobs-init g c = record {
  keeps = refl;
  rest = λ k d h. refl;
  index = indexes_none (option_map vec_items c.args.old);
  steps = refl;
  requested = all_none g.T.Tree.longest_requested (RequestsWithin longest_path) (requests_none longest_path) c.args.trees.now;
  reads = all_none g.T.Tree.read_counts (BytesWithin (limits.bytes + 1)) (bytes_none (limits.bytes + 1)) c.args.trees.now;
  right = λ earlier p. tt;
}

pub jobs-preserved : goal.jobs-preserved
jobs-preserved g c =
    let snapshot = g.T.Tree.snapshot in
    let inv = c.jobs.invariant in
    let within : c.jobs.i < length c.args.jobs.now = omega arith in
    let in_trees : c.jobs.i < length c.args.trees.now = omega (arith, c.requires.trees) in
    let tree = get_or c.jobs.trees c.jobs.i c.index-trees-i.result in
    let is_tree : tree ≡ get_or c.args.trees.now c.jobs.i c.index-trees-i.result = inv.rest c.jobs.i c.index-trees-i.result (omega arith) in
    let again : tree ≡ get_or c.args.trees.now c.jobs.i tree = is_tree ∙ get_or_default c.args.trees.now c.jobs.i
    c.index-trees-i.result tree in_trees in
    record {
      keeps = map-set_same snapshot c.jobs.trees c.jobs.i c.do_job-next.new.tree c.index-trees-i.result
          c.do_job-next.ensures.tree.2 ∙ inv.keeps;
      rest = λ k d h. let other : k ≢ c.jobs.i = omega arith in rw get_or-set_other (inv.rest k d (omega arith));
      index = indexes_more snapshot c.args.jobs.now c.args.trees.now c.jobs.replies c.jobs.i c.index-jobs-i.result tree
          c.do_job-next.result.1 _ _ _
          c.requires.trees (c.jobs.auto.replies ∙ c.requires.replies) within c.index-jobs-i.is again inv.index
          c.do_job-next.ensures.step.step.index;
      steps = steps_more snapshot g.T.Tree.failed c.args.jobs.now c.args.trees.now c.jobs.trees c.jobs.replies c.jobs.i
          c.index-jobs-i.result tree c.do_job-next.new.tree c.do_job-next.result.1 _ _ _
          c.requires.trees (c.jobs.auto.trees ∙ c.requires.trees) (c.jobs.auto.replies ∙ c.requires.replies) within
          c.index-jobs-i.is again inv.steps c.do_job-next.ensures.step;
      requested = all_more g.T.Tree.longest_requested (RequestsWithin longest_path) (requests_on longest_path)
          c.args.trees.now c.jobs.trees c.jobs.i c.index-trees-i.result c.do_job-next.new.tree
          (omega (arith, in_trees, c.jobs.auto.trees)) inv.requested c.do_job-next.ensures.tree.0;
      reads = all_more g.T.Tree.read_counts (BytesWithin (limits.bytes + 1)) (bytes_on (limits.bytes + 1))
          c.args.trees.now c.jobs.trees c.jobs.i c.index-trees-i.result c.do_job-next.new.tree
          (omega (arith, in_trees, c.jobs.auto.trees)) inv.reads c.do_job-next.ensures.tree.1;
      right = right_all_more snapshot c.args.jobs.now c.args.trees.now c.jobs.replies c.jobs.i c.index-jobs-i.result
          tree c.do_job-next.result.1 _ _
          c.requires.trees (c.jobs.auto.replies ∙ c.requires.replies) within c.index-jobs-i.is again inv.index inv.right
          c.do_job-next.ensures.replies;
    }
