use Rattle.cs_state.specs.Sums.{seal_of}
use Rattle.cs_state.proofs.StampedLemmas.{one_file}
use Rattle.cs_update.specs.Learning.{run_of, seen_by}
use Rattle.cs_update.proofs.StateLemmas.{first_of}
use Rattle.cs_update.proofs.updating.first_state.Goals as goal

pub returns-clause-first : goal.returns-clause-first
returns-clause-first g c = λ items m.
    let call = c.args.call.now in
    first_of one_file (run_of call items (g.T.Look.stamps items)) (seen_by call) c.in_ok-own.own (c.in_ok-own.ensures.learned items m)
    (seal_of call.key call.moment) _ c.in_ok-out.ensures
