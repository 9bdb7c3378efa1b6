use Rattle.cs_lines.proofs.LawLemmas.{joined_follow}
use Rattle.cs_lines.proofs.laws.texts_follow_texts.Goals as goal

pub returns : goal.returns
returns c = joined_follow
