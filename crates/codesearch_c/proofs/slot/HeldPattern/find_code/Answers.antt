use Rattle.std.proofs.Common.{refl, ap, arith}
use Rattle.codesearch_c.specs.Compiled.{Compiled}
use Rattle.codesearch_c.specs.Spans.{found, none}
use Rattle.codesearch_c.proofs.SpanLemmas.{alike_by, first_of, none_of}
use Rattle.codesearch_c.proofs.slot.HeldPattern.find_code.Goals as goal

pub returns-in_default-clause-code : goal.returns-in_default-clause-code
returns-in_default-clause-code c =
    let alike = alike_by _ _ _ _ c.resume-finder.ensures.tree (ap (λ (p : Compiled). p.pattern) c.self.view_is) c.self.invariant.3.spans in
    none refl (omega (arith, c.if-line-wanted.false))
    (none_of _ _ c.args.wanted.whole c.args.line.now alike c.args.wanted.from c.args.wanted.least c.in_default.ensures.found) refl

pub returns-clause-code : goal.returns-clause-code
returns-clause-code c =
    let alike = alike_by _ _ _ _ c.resume-finder.ensures.tree (ap (λ (p : Compiled). p.pattern) c.self.view_is) c.self.invariant.3.spans in
    found refl
    (first_of _ _ c.args.wanted.whole c.args.line.now alike c.args.wanted.from c.args.wanted.least c.in-Some.first.start
    c.in-Some.first.end c.in-Some.ensures.found)
