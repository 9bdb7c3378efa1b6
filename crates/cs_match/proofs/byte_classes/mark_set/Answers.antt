use Rattle.std.proofs.Common.{◌∙◌, arith}
use Rattle.std.proofs.lemmas.Bool.{false≢true}
use Rattle.cs_match.proofs.ByteClassLemmas.{marks_one}
use Rattle.cs_match.proofs.byte_classes.mark_set.Goals as goal

pub returns-in-Some : goal.returns-in-Some
returns-in-Some c =
    marks_one c.args.set.now c.in-Some.byte c.saturating_add.result _ _ _ c.in-Some.ensures.some
    (λ lt. omega (arith, c.saturating_add.ensures, lt)) (c.mark-in-Some.ensures.bytes ∙ c.mark.ensures.bytes)
    c.mark-in-Some.ensures.kept c.mark.ensures.kept (λ e. false≢true (c.mark.ensures.marked e)) (λ e. false≢true (c.mark-in-Some.ensures.marked e))
