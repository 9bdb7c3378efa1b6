use Rattle.cs_history.proofs.HistoryLemmas.{newest_at, others_at}
use Rattle.cs_history.proofs.laws.latest_job_decides.Goals as goal

pub returns : goal.returns
returns c = record { covered = newest_at; others = others_at }
