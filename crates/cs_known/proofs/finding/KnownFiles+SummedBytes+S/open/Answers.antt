use Rattle.std.proofs.Common.{◌∙◌, arith, subst}
use Rattle.cs_index.specs.Candidates.{AreCandidates}
use Rattle.cs_known.proofs.StateLemmas.{stands}
use Rattle.cs_known.proofs.finding.KnownFiles+SummedBytes+S.open.Goals as goal

pub returns-clause-reads : goal.returns-clause-reads
returns-clause-reads g c key bytes parts has is =
    let model_is = c.opened_states_have_their_index.ensures key bytes parts _ c.args.state.index has is in
    let stand = stands bytes parts is _ c.args.state.index has model_is in
    record {
      index = is.index;
      index_is = c.candidates.ensures.store.0 ∙ model_is;
      names = λ below. c.name_reader.ensures is.index parts stand;
      passed = λ below name there. tt;
      count = let names = stand.names in let count = c.name_count.ensures in omega (arith, names, count);
      candidates = (subst (AreCandidates c.args.query.now parts) c.in-Ok-Ok.field-0-is (c.in-Ok-Ok.ensures.answers is.index model_is parts stand)).0;
    }
