use Rattle.cs_merge.proofs.OpeningLemmas.{decoded_opens, opens_decoded, opened_has}
use Rattle.cs_merge.proofs.laws.decodable_bytes_open.Goals as goal

pub returns : goal.returns
returns c = record {
  exactly = λ bytes paths files small. (decoded_opens bytes paths files, opens_decoded bytes paths files small);
  has = λ bytes parts paths files small opens_as decodes. opened_has bytes parts paths files small opens_as decodes;
}
