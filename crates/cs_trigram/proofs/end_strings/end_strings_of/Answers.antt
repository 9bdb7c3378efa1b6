use Rattle.std.proofs.Common.{List, ℕ, map, sym, ap, ◌∙◌, arith, drop_of_length-le}
use Rattle.cs_trigram.specs.EndStrings.{with_end_strings, whole_end}
use Rattle.cs_trigram.proofs.end_strings.end_strings_of.Goals as goal

pub returns : goal.returns
returns c =
    let rest = drop_of_length-le c.args.strings.now {i = c.loop-string.string-index} (omega arith) in
    ap (λ (ws : List (List ℕ)). with_end_strings c.loop-string.end_strings.items (map whole_end ws)) (sym rest) ∙ c.loop-string.invariant
