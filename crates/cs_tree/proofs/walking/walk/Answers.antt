use Rattle.std.proofs.Common.{map, ap}
use Rattle.std.specs.Prelude.{string_bytes}
use Rattle.cs_tree.specs.Walks.{names_walked, faults_walked, fault_entry}
use Rattle.cs_tree.specs.declared.walking.Walked.{Walked}
use Rattle.cs_tree.proofs.WalkLemmas.{finds_in, counts_in_order, no_failure_in_order, counted_in_order, names_under, names_within_path_limit}
use Rattle.cs_tree.proofs.walking.walk.Goals as goal

pub returns-clause-finds : goal.returns-clause-finds
returns-clause-finds g c =
    let nothing : Walked = record { names = c.new.result; faults = c.new-2.result } in
    let found : Walked = record { names = c.order_names.new.names; faults = c.order_faults.new.faults } in
    finds_in (g.T.Tree.snapshot c.args.tree.now) (map string_bytes c.args.paths.now) nothing c.visit_all.new.walked
    (names_walked found) (faults_walked found)
    (ap (map string_bytes) c.new.ensures.items) (ap (map fault_entry) c.new-2.ensures.items) c.in_ok-visit_all.ensures.gathers
    (record {
      names_ascend = c.order_names.ensures.ascend;
      names_same = c.order_names.ensures.same;
      faults_ascend = c.order_faults.ensures.ascend;
      faults_same = c.order_faults.ensures.same;
      kept = c.order_faults.ensures.kept;
    })

pub returns-clause-counted : goal.returns-clause-counted
returns-clause-counted g c =
    let nothing : Walked = record { names = c.new.result; faults = c.new-2.result } in
    let found : Walked = record { names = c.order_names.new.names; faults = c.order_faults.new.faults } in
    counts_in_order (g.T.Tree.failed c.args.tree.now) (g.T.Tree.failed c.visit_all.new.tree) nothing
    c.visit_all.new.walked (names_walked found) (faults_walked found)
    (ap (map fault_entry) c.new-2.ensures.items) c.in_ok-visit_all.ensures.counted
    (record {
      names_ascend = c.order_names.ensures.ascend;
      names_same = c.order_names.ensures.same;
      faults_ascend = c.order_faults.ensures.ascend;
      faults_same = c.order_faults.ensures.same;
      kept = c.order_faults.ensures.kept;
    })

pub returns-clause-under : goal.returns-clause-under
returns-clause-under g c =
    let nothing : Walked = record { names = c.new.result; faults = c.new-2.result } in
    let found : Walked = record { names = c.order_names.new.names; faults = c.order_faults.new.faults } in
    names_under (map string_bytes c.args.paths.now) nothing c.visit_all.new.walked (names_walked found)
    (ap (map string_bytes) c.new.ensures.items) c.in_ok-visit_all.ensures.under c.order_names.ensures.same

pub returns-clause-path_limit : goal.returns-clause-path_limit
returns-clause-path_limit g c =
    let nothing : Walked = record { names = c.new.result; faults = c.new-2.result } in
    let found : Walked = record { names = c.order_names.new.names; faults = c.order_faults.new.faults } in
    names_within_path_limit nothing c.visit_all.new.walked (names_walked found)
    (ap (map string_bytes) c.new.ensures.items) c.in_ok-visit_all.ensures.path_limit c.order_names.ensures.same

pub returns-clause-no_failure : goal.returns-clause-no_failure
returns-clause-no_failure g c =
    let nothing : Walked = record { names = c.new.result; faults = c.new-2.result } in
    let found : Walked = record { names = c.order_names.new.names; faults = c.order_faults.new.faults } in
    no_failure_in_order (g.T.Tree.failed c.args.tree.now) (g.T.Tree.failed c.visit_all.new.tree) nothing
    c.visit_all.new.walked (names_walked found) (faults_walked found)
    (ap (map fault_entry) c.new-2.ensures.items) c.in_ok-visit_all.ensures.counted
    (record {
      names_ascend = c.order_names.ensures.ascend;
      names_same = c.order_names.ensures.same;
      faults_ascend = c.order_faults.ensures.ascend;
      faults_same = c.order_faults.ensures.same;
      kept = c.order_faults.ensures.kept;
    })

pub returns-clause-complete : goal.returns-clause-complete
returns-clause-complete g c =
    let nothing : Walked = record { names = c.new.result; faults = c.new-2.result } in
    let found : Walked = record { names = c.order_names.new.names; faults = c.order_faults.new.faults } in
    counted_in_order (map string_bytes c.args.paths.now) (g.T.Tree.failed c.args.tree.now)
    (g.T.Tree.failed c.visit_all.new.tree) nothing c.visit_all.new.walked (faults_walked found)
    (ap (map fault_entry) c.new-2.ensures.items) c.in_ok-visit_all.ensures.counted c.in_ok-visit_all.ensures.once
    c.order_faults.ensures.whole
