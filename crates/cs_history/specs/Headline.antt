-- The main promise. docs/PROMISES.md, "The main promise".
--
--     After any list of cindex jobs over any snapshots, the index is byte for byte the one built at
--     once from the paths that remain and, for each name under them, the text last read there; a
--     refused job changes no byte; and where every indexed file still reads as it was indexed,
--     csearch prints exactly what cgrep prints over the indexed files in name order.
use Rattle.std.specs.Prelude.{◌≡◌, ℕ, List, Option, map}
use Rattle.std.specs.List.{AllZip}
use Rattle.cs_tree.specs.Snapshot.{Snapshot}
use Rattle.cs_history.specs.History.{History, index_of}
use Rattle.cs_history.specs.Jobs.{history_after, IsFitting}
use Rattle.cs_history.specs.Premises.{modelled_snapshot, IsShort, Premises}
use Rattle.cs_args.specs.declared.jobs.IndexJob.{IndexJob}
use Rattle.cs_args.specs.declared.jobs.Reply.{Reply}

-- cindex: jobs over trees, each with a reply, turn the old index into the new one.
pub record Indexes (jobs : List IndexJob) (trees : List (Option Snapshot)) (replies : List Reply) (old new : Option (List ℕ)) : Type 0 where
  -- The new index is that of the earlier jobs followed by the jobs of this call that succeeded. This holds for all
  -- earlier jobs whose index is the old one. A job that fails adds nothing, so it changes no byte.
  pub index : (earlier : History) → Premises trees old earlier → new ≡ index_of (history_after earlier jobs (map modelled_snapshot trees) replies)
  -- The next call has its premises: the paths of each job that succeeded can be cleaned, and the new index has less
  -- than 2^32 bytes if the old one has.
  pub fitting : AllZip IsFitting jobs replies
  pub short : IsShort old → IsShort new
