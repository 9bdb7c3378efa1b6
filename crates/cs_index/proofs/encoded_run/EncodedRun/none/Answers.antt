use Rattle.std.proofs.Common.{[]}
use Rattle.cs_index.proofs.postings.StreamPush.{stream_from, decoded-stream_of}
use Rattle.cs_index.proofs.encoded_run.EncodedRun.none.Goals as goal

pub invariant_of-result : goal.invariant_of-result
invariant_of-result c = stream_from [] tt

pub returns : goal.returns
returns c = decoded-stream_of [] tt
