use Rattle.std.proofs.Common.{sym, ap, ◌∙◌}
use Rattle.cs_listing.specs.Marks.{of_last, token_mark, last_mark}
use Rattle.cs_listing.proofs.MarkLemmas.{last_is}
use Rattle.cs_listing.proofs.marks.last_token_marks.Goals as goal

pub returns-in-Some : goal.returns-in-Some
returns-in-Some c =
    c.last_token_mark.ensures ∙ sym (ap (of_last (token_mark last_mark)) c.in-Some.ensures.cases.0
    ∙ last_is (token_mark last_mark) c.in-Some.field-0-1.now c.in-Some.token.now)
