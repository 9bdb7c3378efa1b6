use Rattle.std.proofs.Common.{rules, ◌≡◌, [], ◌∷◌, ◌++◌, map, arith, sym, ap, subst, ◌∙◌}
use Rattle.std.proofs.lemmas.List.{map-append}
use Rattle.std.specs.Prelude.{string_bytes}
use Rattle.cs_tree.specs.WalkSteps.{IsEntered, IsStatusIn, is_file_seen, names_seen}
use Rattle.cs_tree.proofs.RequestLemmas.{no_lookup, more_lookups}
use Rattle.cs_tree.proofs.CoverLemmas.{covers_refl}
use Rattle.cs_tree.proofs.GatherLemmas.{counts_one, entered_deeper, path_limit_one}
use Rattle.cs_tree.proofs.FaultCountLemmas.{AddsFewSoFar, adds_on}
use Rattle.cs_tree.proofs.PendingLemmas.{UnderwayIn, starts_in, ends_in, goes_on_in, last_below, pending_below, keeps_on, lighter, weight}
use Rattle.cs_tree.proofs.UnderLemmas.{AreBelow}
use Rattle.cs_tree.proofs.walking.visit.Goals as goal

pub pending-init : goal.pending-init
pending-init g c =
    let waits : map string_bytes c.push.new.self.items ≡ string_bytes c.args.start ∷ [] =
    ap (map string_bytes) (c.in_ok-push.ensures.items ∙ ap (λ paths. paths ++ c.args.start ∷ []) c.new-pending.ensures.items) in
    record {
      gathers = subst (λ paths. UnderwayIn (g.T.Tree.snapshot c.args.tree.now) (string_bytes c.args.start) paths
          c.args.walked.now c.args.walked.now) (sym waits)
          (starts_in (g.T.Tree.snapshot c.args.tree.now) (string_bytes c.args.start) c.args.walked.now);
      under = λ test h all. all;
      below = subst (AreBelow (string_bytes c.args.start)) (sym waits) (covers_refl (string_bytes c.args.start), tt);
      path_limit = λ all. all;
      counted = λ start so_far. so_far;
      once = subst (λ paths. AddsFewSoFar (string_bytes c.args.start) paths c.args.walked.now c.args.walked.now)
          (sym waits) (λ path. omega arith);
      tree = no_lookup g.T.Tree.snapshot g.T.Tree.failed g.T.Tree.longest_requested g.T.Tree.read_counts c.args.tree.now;
    }

pub pending-smaller : goal.pending-smaller
pending-smaller g c =
    let before : map string_bytes c.pending.pending.items ≡ map string_bytes c.pop.new.self.items ++ string_bytes c.in-Some.path ∷ [] =
    ap (map string_bytes) c.in-Some.ensures.items ∙ map-append string_bytes c.pop.new.self.items (c.in-Some.path ∷ []) in
    let deeper = entered_deeper (string_bytes c.in-Some.path) c.in_ok-status.status
    (subst (λ path. IsEntered path c.in_ok-status.status) c.as_str.ensures.value c.in_ok-status.ensures.entered) in
    omega (
      arith,
      ap weight before,
      ap weight c.in_ok-note.ensures.pending,
      lighter (string_bytes c.in-Some.path) _
          (map string_bytes c.pop.new.self.items) deeper c.in_ok-note.ensures.bound,
    )

pub pending-preserved : goal.pending-preserved
pending-preserved g c =
    let before : map string_bytes c.pending.pending.items ≡ map string_bytes c.pop.new.self.items ++ string_bytes c.in-Some.path ∷ [] =
    ap (map string_bytes) c.in-Some.ensures.items ∙ map-append string_bytes c.pop.new.self.items (c.in-Some.path ∷ []) in
    let below = subst (AreBelow (string_bytes c.args.start)) before c.pending.invariant.below in
    record {
      gathers =
          goes_on_in (g.T.Tree.snapshot c.args.tree.now) (g.T.Tree.snapshot c.pending.tree) (string_bytes c.args.start)
          (string_bytes c.in-Some.path) c.in_ok-status.status (map string_bytes c.pop.new.self.items)
          (map string_bytes c.note.new.pending.items) c.args.walked.now c.pending.walked c.note.new.self
          c.pending.invariant.tree.0
          (subst (λ path. IsStatusIn (g.T.Tree.snapshot c.pending.tree) path c.in_ok-status.status)
          c.as_str.ensures.value c.in_ok-status.ensures.shows)
          c.in_ok-note.ensures.names
          c.in_ok-note.ensures.faults
          c.in_ok-note.ensures.pending
          (subst (λ paths. UnderwayIn (g.T.Tree.snapshot c.args.tree.now) (string_bytes c.args.start) paths
          c.args.walked.now c.pending.walked) before c.pending.invariant.gathers);
      under = keeps_on (string_bytes c.args.start) (string_bytes c.in-Some.path) (is_file_seen c.in_ok-status.status)
          c.args.walked.now c.pending.walked c.note.new.self
          (last_below (string_bytes c.args.start) (string_bytes c.in-Some.path) (map string_bytes c.pop.new.self.items)
          below) c.in_ok-note.ensures.names c.pending.invariant.under;
      below = subst (AreBelow (string_bytes c.args.start)) (sym c.in_ok-note.ensures.pending)
          (pending_below (string_bytes c.args.start) (string_bytes c.in-Some.path) (names_seen c.in_ok-status.status)
          (map string_bytes c.pop.new.self.items) below);
      path_limit = λ all.
          path_limit_one (string_bytes c.in-Some.path) c.in_ok-status.status c.pending.walked c.note.new.self
          (subst (λ path. IsEntered path c.in_ok-status.status) c.as_str.ensures.value c.in_ok-status.ensures.entered)
          c.in_ok-note.ensures.names (c.pending.invariant.path_limit all);
      counted = λ start so_far.
          counts_one (g.T.Tree.failed c.pending.tree) (g.T.Tree.failed c.stat_path.new.tree)
          (string_bytes c.in-Some.path) c.in_ok-status.status c.pending.walked c.note.new.self
          c.in_ok-status.ensures.counted c.in_ok-note.ensures.faults
          start (c.pending.invariant.counted start so_far);
      once =
          adds_on (string_bytes c.args.start) (string_bytes c.in-Some.path) c.in_ok-status.status
          (map string_bytes c.pop.new.self.items) (map string_bytes c.note.new.pending.items) c.args.walked.now
          c.pending.walked c.note.new.self
          c.in_ok-status.ensures.names c.in_ok-note.ensures.faults c.in_ok-note.ensures.pending
          (subst (λ paths. AddsFewSoFar (string_bytes c.args.start) paths c.args.walked.now c.pending.walked) before
          c.pending.invariant.once);
      tree = more_lookups g.T.Tree.snapshot g.T.Tree.failed g.T.Tree.longest_requested g.T.Tree.read_counts
          c.args.tree.now c.pending.tree c.stat_path.new.tree c.pending.invariant.tree c.stat_path.ensures.tree;
    }

pub returns : goal.returns
returns g c =
    let none : c.pending.pending.items ≡ [] = search rules in
    let waits : map string_bytes c.pending.pending.items ≡ [] = ap (map string_bytes) none in
    record {
      gathers = ends_in (g.T.Tree.snapshot c.args.tree.now) (string_bytes c.args.start) c.args.walked.now c.pending.walked
          (subst (λ paths. UnderwayIn (g.T.Tree.snapshot c.args.tree.now) (string_bytes c.args.start) paths
          c.args.walked.now c.pending.walked) waits c.pending.invariant.gathers);
      under = c.pending.invariant.under;
      path_limit = c.pending.invariant.path_limit;
      counted = c.pending.invariant.counted;
      once = λ path. omega (
        arith,
        subst (λ paths. AddsFewSoFar (string_bytes c.args.start) paths c.args.walked.now
            c.pending.walked) waits c.pending.invariant.once path,
      );
      tree = c.pending.invariant.tree;
    }
