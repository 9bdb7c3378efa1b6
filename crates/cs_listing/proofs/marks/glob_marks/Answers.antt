use Rattle.std.proofs.Common.{sym, ap, ◌∙◌}
use Rattle.cs_listing.specs.Marks.{of_last, element_marks}
use Rattle.cs_listing.proofs.MarkLemmas.{last_is}
use Rattle.cs_listing.proofs.marks.glob_marks.Goals as goal

pub returns-in-Some : goal.returns-in-Some
returns-in-Some c =
    c.element_marks.ensures ∙ sym (ap (of_last element_marks) c.in-Some.ensures.cases.0
    ∙ last_is element_marks c.in-Some.field-0-1.now c.in-Some.element.now)
