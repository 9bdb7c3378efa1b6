use Rattle.std.proofs.Common.{◌∙◌, sym, ap}
use Rattle.std.proofs.lemmas.List.{take_all}
use Rattle.std.specs.List.{count_by}
use Rattle.cs_match.proofs.LinesLemmas.{is_newline, length-terminated_lines}
use Rattle.cs_lines.proofs.lines.count_newlines.Goals as goal

pub returns : goal.returns
returns c =
    c.loop-b.invariant ∙ ap (count_by is_newline) (take_all c.loop-b.b-index c.args.part.now c.loop-b-test.false)
    ∙ sym (length-terminated_lines c.args.part.now)
