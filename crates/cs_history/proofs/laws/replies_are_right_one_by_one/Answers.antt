use Rattle.cs_history.proofs.ReplyLemmas.{right_more, index_or_path, one_path}
use Rattle.cs_history.proofs.laws.replies_are_right_one_by_one.Goals as goal

pub returns : goal.returns
returns c = record { more = right_more; index_or_path = index_or_path; one_path = one_path }
