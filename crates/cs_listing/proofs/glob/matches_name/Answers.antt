use Rattle.std.proofs.Common.{◌∙◌, length, arith}
use Rattle.cs_listing.specs.MatchWork.{tokens_work}
use Rattle.cs_listing.specs.Models.{tokens_of}
use Rattle.cs_listing.proofs.WorkLemmas.{paid_first}
use Rattle.cs_listing.proofs.glob.matches_name.Goals as goal

pub returns-in-Star-clause-work : goal.returns-in-Star-clause-work
returns-in-Star-clause-work c =
    let inv = c.tokens.invariant in
    let takes = c.in-Star.ensures.takes in
    let work = c.matches_after_star.ensures.work in
    let all = paid_first (length c.args.name.now) (length c.tokens.rest.now) (tokens_work (tokens_of c.args.tokens.now))
    (tokens_work (tokens_of c.in-Star.later.now)) inv.shorter (omega (arith, takes.1, inv.fewer)) in
    (omega (arith, inv.rises, takes.2, work.0), omega (arith, inv.work, takes.0, work.1, all))

pub tokens-preserved : goal.tokens-preserved
tokens-preserved c =
    let inv = c.tokens.invariant in
    let says = c.in-Byte.ensures.says in
    let takes = c.in-Byte.ensures.takes in
    record {
      same = inv.same ∙ says.0;
      shorter = omega (arith, says.3, inv.shorter);
      fewer = omega (arith, takes.1, inv.fewer);
      rises = omega (arith, takes.2, inv.rises);
      work = omega (arith, takes.0, inv.work);
    }

pub returns-in-End-clause-work : goal.returns-in-End-clause-work
returns-in-End-clause-work c =
    let inv = c.tokens.invariant in
    let takes = c.in-End.ensures.takes in
    (omega (arith, inv.rises, takes.0), omega (arith, inv.work, takes.1))

pub returns-in-Mismatch-clause-work : goal.returns-in-Mismatch-clause-work
returns-in-Mismatch-clause-work c =
    let inv = c.tokens.invariant in
    let takes = c.in-Mismatch.ensures.takes in
    (omega (arith, inv.rises, takes.0), omega (arith, inv.work, takes.1))
