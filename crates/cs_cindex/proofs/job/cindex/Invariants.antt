use Rattle.std.proofs.Common.{◌≡◌, ℕ, ◌≤◌, ◌+◌, take, map, get_or}
use Rattle.cs_cindex.proofs.Common.{Indexes, AllZip, zip, longest_path, RequestsWithin, RightAll, Steps, job_trees, state}
use Rattle.cs_trigram.specs.Text.{limits}
use Rattle.cs_cindex.specs.KeepsTree.{BytesWithin}
use Rattle.std.specs.Prelude.{option_map, vec_items}
use Rattle.cs_cindex.proofs.job.cindex.Given as goal

-- the trees of the remaining jobs are unchanged, and the index and the replies are those of the jobs so far
abbrev pub invariant-jobs : goal.invariant-jobs
invariant-jobs g l =
    let snapshots = map g.T.Tree.snapshot l.initial.trees in
    record {
      keeps : map g.T.Tree.snapshot l.trees ≡ snapshots;
      rest : (k : ℕ) (d : _) → l.i ≤ k → get_or l.trees k d ≡ get_or l.initial.trees k d;
      index : Indexes (take l.i l.jobs) (take l.i snapshots) (take l.i l.replies) (option_map vec_items l.fn.old) (option_map vec_items l.index);
      steps : Steps (zip (take l.i l.jobs) (zip (job_trees g.T.Tree.snapshot g.T.Tree.failed (take l.i l.initial.trees)
          (take l.i l.trees)) (take l.i l.replies)))
          (state g.O.Sink.model g.O.Sink.failed g.E.Sink.model g.E.Sink.failed (option_map vec_items l.fn.old) l.initial.out l.initial.err)
          (state g.O.Sink.model g.O.Sink.failed g.E.Sink.model g.E.Sink.failed (option_map vec_items l.index) l.out l.err);
      requested : AllZip (RequestsWithin longest_path) (map g.T.Tree.longest_requested l.initial.trees)
          (map g.T.Tree.longest_requested l.trees);
      reads : AllZip (BytesWithin (limits.bytes + 1)) (map g.T.Tree.read_counts l.initial.trees)
          (map g.T.Tree.read_counts l.trees);
      right : RightAll (take l.i snapshots) (option_map vec_items l.fn.old) (take l.i l.jobs) (take l.i l.replies);
    }
