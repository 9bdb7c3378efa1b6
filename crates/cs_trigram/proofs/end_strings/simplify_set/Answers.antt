use Rattle.std.proofs.Common.{subst}
use Rattle.cs_trigram.specs.EndStrings.{AreCoarser}
use Rattle.cs_trigram.proofs.TruncationLemmas.{coarser_as, coarser_both}
use Rattle.cs_trigram.proofs.end_strings.simplify_set.Goals as goal

pub cut-preserved : goal.cut-preserved
cut-preserved c =
    coarser_both c.in_ok-short.short.items c.cut.short.items c.args.end_strings.items
    (subst (AreCoarser c.in_ok-short.short.items) c.deref.ensures.value
    (coarser_as _ c.in_ok-short.short.items c.deref.result.now c.in_ok-short.ensures)) c.cut.invariant
