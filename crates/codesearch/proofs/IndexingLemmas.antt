-- The main promise for one run of cindex.
use Rattle.std.proofs.Common.{◌≡◌, ℕ, List, Option}
use Rattle.std.specs.Prelude.{if◌then◌else◌, nat_eq}
use Rattle.cs_tree.specs.Snapshot.{Snapshot}
use Rattle.cs_args.specs.declared.jobs.IndexJob.{IndexJob}
use Rattle.cs_args.specs.declared.jobs.Reply.{Reply}
use Rattle.cs_args.specs.declared.jobs.Reply.TheVariants as reply
use Rattle.cs_history.specs.History.{History, index_of}
use Rattle.cs_history.specs.Jobs.{after, after_done}
use Rattle.cs_history.specs.Premises.{modelled_snapshot}
use Rattle.codesearch.specs.Program.{exit_status, IsReplied}
use Rattle.codesearch.specs.declared.outcome.Outcome.{Outcome}
use Rattle.codesearch.specs.declared.outcome.Outcome.TheVariants.{Done, Refused}

pub keeps_history : (job : IndexJob) (tree : Option Snapshot) (answer : Reply) (outcome : Outcome)
    (earlier : History) {next : Option (List ℕ)} → IsReplied job answer outcome →
    next ≡ index_of (after earlier job (modelled_snapshot tree) answer) →
    next ≡ index_of (if nat_eq (exit_status outcome) 0 then after_done earlier job (modelled_snapshot tree) else
    earlier)
keeps_history job tree reply.Done (Done update) earlier replied is = is
keeps_history job tree (reply.Refused why) (Refused fault) earlier replied is = is
keeps_history job tree reply outcome earlier replied is = absurd replied
