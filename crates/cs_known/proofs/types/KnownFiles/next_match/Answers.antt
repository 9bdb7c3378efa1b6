use Rattle.std.proofs.Common.{Result, Ok, Err, subst}
use Rattle.std.specs.Result.{IsOkAnd}
use Rattle.cs_index.specs.NameReading.{IsName}
use Rattle.cs_index.specs.declared.fault.IndexFault.{IndexFault}
use Rattle.cs_known.specs.KnownFiles.{IsMatchOf}
use Rattle.cs_known.proofs.types.KnownFiles.next_match.Goals as goal

ok_holds : (r : Result (Unit {0}) IndexFault) (P : Type 0) → IsOkAnd r (λ _. P) → P
ok_holds (Ok x) P p = p
ok_holds (Err fault) P p = absurd p

pub returns-in-Ok-clause-matches : goal.returns-in-Ok-clause-matches
returns-in-Ok-clause-matches g c index name parts m reads at =
    let read = c.in_ok-read.ensures.name index m parts reads in
    let named = ok_holds c.in_ok-read.read _ (subst (λ o. IsName o c.in_ok-read.read c.read.new.self) at read.0) in
    subst (λ n. IsMatchOf n c.args.path.now c.args.stamp.now c.match_of.result) (c.in-Ok.ensures name named) c.match_of.ensures

pub returns-in-Ok-clause-reads : goal.returns-in-Ok-clause-reads
returns-in-Ok-clause-reads g c index parts m reads = (c.in_ok-read.ensures.name index m parts reads).1
