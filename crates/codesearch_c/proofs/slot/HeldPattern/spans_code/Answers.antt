use Rattle.std.proofs.Common.{ap, ◌∙◌, w32}
use Rattle.std.proofs.lemmas.Int.{to_z-of_z}
use Rattle.codesearch_c.specs.Compiled.{Compiled}
use Rattle.codesearch_c.proofs.SpanLemmas.{alike_by, listing_of}
use Rattle.codesearch_c.proofs.slot.HeldPattern.spans_code.Goals as goal

pub returns-clause-code : goal.returns-clause-code
returns-clause-code c =
    let alike = alike_by _ _ _ _ c.resume-finder.ensures.tree (ap (λ (p : Compiled). p.pattern) c.self.view_is) c.self.invariant.3.spans in (
      c.list-listed.result.stopped,
      listing_of _ _ c.args.order.whole c.args.line.now alike c.args.spans.now c.list-listed.new.spans c.list-listed.result
          c.list-listed.ensures.listed,
      to_z-of_z w32 c.list_code.result (record { sfits = c.list_code.type_inv }) ∙ c.list_code.ensures,
    )
