use Rattle.std.proofs.Common.{[], ◌∷◌, map, take, arith, sym, subst}
use Rattle.std.specs.Prelude.{string_bytes}
use Rattle.std.proofs.lemmas.List.{take_all}
use Rattle.cs_tree.proofs.RequestLemmas.{no_lookup, more_lookups}
use Rattle.cs_tree.specs.Reachability.{reaches, is_reachable}
use Rattle.cs_tree.specs.WalkSteps.{GathersIn, KeepsTo, AddsFewFaults}
use Rattle.cs_tree.specs.Cover.{covers, is_covered}
use Rattle.cs_tree.specs.PathSet as set
use Rattle.cs_tree.proofs.ReduceLemmas.{any-from_list}
use Rattle.cs_tree.proofs.FaultCountLemmas.{adds_more}
use Rattle.cs_tree.proofs.UnderLemmas.{keeps_more}
use Rattle.cs_tree.proofs.GatherLemmas.{reach_by, more_in, none_in, same_in}
use Rattle.cs_tree.proofs.NameLemmas.{mapped_more}
use Rattle.cs_tree.proofs.walking.visit_all.Goals as goal

pub paths-init : goal.paths-init
paths-init g c = record {
  gathers = none_in (g.T.Tree.snapshot c.args.tree.now) c.args.walked.now;
  under = λ test h all. all;
  path_limit = λ all. all;
  counted = λ start so_far. so_far;
  once = λ path. omega arith;
  tree = no_lookup g.T.Tree.snapshot g.T.Tree.failed g.T.Tree.longest_requested g.T.Tree.read_counts c.args.tree.now;
}

pub paths-preserved : goal.paths-preserved
paths-preserved g c = record {
  gathers =
      subst (λ paths. GathersIn (g.T.Tree.snapshot c.args.tree.now) (reach_by reaches paths) c.args.walked.now c.visit_named.new.walked)
      (sym (mapped_more string_bytes c.args.paths.now c.paths.path-index c.path-item.result c.paths-test.true c.path-item.is))
      (more_in reaches (g.T.Tree.snapshot c.args.tree.now) (g.T.Tree.snapshot c.paths.tree)
      (map string_bytes (take c.paths.path-index c.args.paths.now)) (string_bytes c.path-item.result) c.args.walked.now
      c.paths.walked c.visit_named.new.walked c.paths.invariant.tree.0 c.paths.invariant.gathers
      (subst (λ path. GathersIn (g.T.Tree.snapshot c.paths.tree) (λ model. reaches model path) c.paths.walked
      c.visit_named.new.walked) c.as_str.ensures.value c.in_ok-visit_named.ensures.gathers));
  under =
      subst (λ paths. KeepsTo (is_covered (set.from_list paths)) c.args.walked.now c.visit_named.new.walked)
      (sym (mapped_more string_bytes c.args.paths.now c.paths.path-index c.path-item.result c.paths-test.true c.path-item.is))
      (keeps_more (map string_bytes (take c.paths.path-index c.args.paths.now)) (string_bytes c.path-item.result)
      c.args.walked.now c.paths.walked c.visit_named.new.walked c.paths.invariant.under
      (subst (λ path. KeepsTo (covers path) c.paths.walked c.visit_named.new.walked) c.as_str.ensures.value
      c.in_ok-visit_named.ensures.under));
  path_limit = λ all. c.in_ok-visit_named.ensures.path_limit (c.paths.invariant.path_limit all);
  counted = λ start so_far. c.in_ok-visit_named.ensures.counted start (c.paths.invariant.counted start so_far);
  once =
      subst (λ paths. AddsFewFaults paths c.args.walked.now c.visit_named.new.walked)
      (sym (mapped_more string_bytes c.args.paths.now c.paths.path-index c.path-item.result c.paths-test.true c.path-item.is))
      (adds_more (map string_bytes (take c.paths.path-index c.args.paths.now)) (string_bytes c.path-item.result)
      c.args.walked.now c.paths.walked c.visit_named.new.walked c.paths.invariant.once
      (subst (λ path. AddsFewFaults (path ∷ []) c.paths.walked c.visit_named.new.walked) c.as_str.ensures.value
      c.in_ok-visit_named.ensures.once));
  tree = more_lookups g.T.Tree.snapshot g.T.Tree.failed g.T.Tree.longest_requested g.T.Tree.read_counts c.args.tree.now
      c.paths.tree c.visit_named.new.tree c.paths.invariant.tree c.visit_named.ensures.tree;
}

pub returns-clause-gathers : goal.returns-clause-gathers
returns-clause-gathers g c =
    let tree = g.T.Tree.snapshot c.args.tree.now in
    let paths = map string_bytes c.args.paths.now in
    same_in tree (reach_by reaches paths) (λ model. is_reachable model (set.from_list paths)) c.args.walked.now c.paths.walked
    (λ model name. any-from_list (λ path. reaches model path name) paths)
    (subst (λ ps. GathersIn tree (reach_by reaches (map string_bytes ps)) c.args.walked.now c.paths.walked)
    (take_all c.paths.path-index c.args.paths.now c.paths-test.false) c.paths.invariant.gathers)

pub returns-clause-under : goal.returns-clause-under
returns-clause-under g c =
    subst (λ paths. KeepsTo (is_covered (set.from_list (map string_bytes paths))) c.args.walked.now c.paths.walked)
    (take_all c.paths.path-index c.args.paths.now c.paths-test.false) c.paths.invariant.under

pub returns-clause-once : goal.returns-clause-once
returns-clause-once g c =
    subst (λ paths. AddsFewFaults (map string_bytes paths) c.args.walked.now c.paths.walked)
    (take_all c.paths.path-index c.args.paths.now c.paths-test.false) c.paths.invariant.once
