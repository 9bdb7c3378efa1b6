use Rattle.std.proofs.Common.{sym, ap, ◌∙◌, arith}
use Rattle.cs_listing.specs.MatchWork.{tokens_work}
use Rattle.cs_listing.specs.Models.{tokens_of}
use Rattle.cs_listing.proofs.NameLemmas.{name_byte}
use Rattle.cs_listing.proofs.glob.name_step.Goals as goal

pub returns-in-Some-split_first-clause-says : goal.returns-in-Some-split_first-clause-says
returns-in-Some-split_first-clause-says c =
    name_byte _ _ _ _ _ _ c.in-Some.ensures.cases c.in-Some-split_first.ensures.cases (sym c.accepts.ensures ∙ c.if-accepts.true)

pub returns-then-matches-clause-takes : goal.returns-then-matches-clause-takes
returns-then-matches-clause-takes c =
    let work = ap (λ ts. tokens_work (tokens_of ts)) c.in-Some.ensures.cases.0 in
    let count = c.count.ensures in
    (omega arith, omega arith, omega arith)

pub returns-in-Some-split_first-clause-takes : goal.returns-in-Some-split_first-clause-takes
returns-in-Some-split_first-clause-takes c =
    let work = ap (λ ts. tokens_work (tokens_of ts)) c.in-Some.ensures.cases.0 in
    let count = c.count.ensures in
    (omega arith, omega arith, omega arith)

pub returns-in_default-split_first-clause-takes : goal.returns-in_default-split_first-clause-takes
returns-in_default-split_first-clause-takes c =
    let work = ap (λ ts. tokens_work (tokens_of ts)) c.in-Some.ensures.cases.0 in
    let count = c.count.ensures in
    (omega arith, omega arith)
