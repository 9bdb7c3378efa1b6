use Rattle.std.proofs.Common.{subst}
use Rattle.cs_tree.specs.TakesPrefix.{EndsAfter}
use Rattle.cs_tree.proofs.PrefixLemmas.{ends_after}
use Rattle.codesearch.proofs.CallLemmas.{ends_flushed}
use Rattle.codesearch.proofs.outcome.print_line.Goals as goal

pub returns-clause-printed : goal.returns-clause-printed
returns-clause-printed g c =
    let flushed = ends_flushed _ _ c.flush.result c.flush.ensures.bytes in
    let old = g.E.Sink.model c.args.err.now in
    let new = g.E.Sink.model c.flush.new.self in
    subst (λ text. EndsAfter text old new c.flush.result) c.as_bytes.ensures.value
    (ends_after _ old _ new c.flush.result c.in_ok-write_all.ensures.model flushed)
