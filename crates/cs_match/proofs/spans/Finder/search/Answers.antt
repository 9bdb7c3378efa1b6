use Rattle.std.proofs.Common.{length}
use Rattle.cs_match.specs.SpanWork.{find_bytes}
use Rattle.cs_match.proofs.SpanWorkLemmas.{counted}
use Rattle.cs_match.proofs.spans.Finder.search.Goals as goal

pub returns-clause-work : goal.returns-clause-work
returns-clause-work c =
    let n = length c.args.line.now in
    rw (← c.self.view_is) (λ k few. counted c.self.inside.program.now (find_bytes k n) _ _ (c.find.ensures.read k few))
