use Rattle.std.proofs.Common.{◌+◌, length, inl, inr}
use Rattle.cs_match.specs.SpanWork.{find_bytes}
use Rattle.cs_match.proofs.SpanWorkLemmas.{counted, spent, some_power}
use Rattle.cs_match.proofs.spans.Finder.list.Goals as goal

pub returns-clause-stopped : goal.returns-clause-stopped
returns-clause-stopped c =
    let t = c.self.inside.program.now in
    let n = length c.args.line.now in
    rw (← c.self.view_is) (λ e. elim (c.list.ensures.stopped e) [
      | inl full ↦ inl full
      | inr none ↦ inr (spent t (c.args.budget + find_bytes n n) _ _ none (c.list.ensures.read n (some_power n)))
    ])

pub returns-clause-work : goal.returns-clause-work
returns-clause-work c =
    let n = length c.args.line.now in
    rw (← c.self.view_is) (λ k few. counted c.self.inside.program.now (c.args.budget + find_bytes k n) _ _ (c.list.ensures.read k few))
