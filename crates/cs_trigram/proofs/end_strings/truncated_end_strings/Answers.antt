use Rattle.std.proofs.Common.{List, map, sym, ap, ◌∙◌, arith, drop_of_length-le}
use Rattle.cs_trigram.specs.EndStrings.{truncated, with_end_strings}
use Rattle.cs_trigram.specs.declared.end_strings.EndString.{EndString}
use Rattle.cs_trigram.proofs.end_strings.truncated_end_strings.Goals as goal

pub returns : goal.returns
returns c =
    let rest = drop_of_length-le c.args.end_strings.now {i = c.loop-end_string.end_string-index} (omega arith) in
    ap (λ (es : List EndString). with_end_strings c.loop-end_string.short.items (map (truncated c.args.longest) es)) (sym rest)
    ∙ c.loop-end_string.invariant
