use Rattle.std.proofs.Common.{◌≡◌, ◌+◌, false, drop, get_or, sym, ◌∙◌, ap}
use Rattle.std.specs.Option.{option_map}
use Rattle.std.specs.Prelude.{codes, nat_eq}
use Rattle.std.specs.List.{starts_with}
use Rattle.cs_syntax.specs.Classes.{name_length}
use Rattle.cs_syntax.proofs.ListLemmas.{here_is, tail_is}
use Rattle.cs_syntax.proofs.ClassLemmas.{name_length-next, further}
use Rattle.cs_syntax.proofs.classes.name_length.Goals as goal

pub loop-offset-preserved : goal.loop-offset-preserved
loop-offset-preserved c =
    let offset = c.loop-offset.offset in
    let text = c.args.text.now in
    let no : starts_with nat_eq (drop offset text) (codes ":]") ≡ false =
    sym (ap (λ t. starts_with nat_eq t (codes ":]")) (tail_is text offset))
    ∙ sym c.starts_with.ensures.value ∙ c.if-starts_with.false in
    c.loop-offset.invariant
    ∙ ap (option_map (λ n. offset + n)) (name_length-next (drop offset text) (drop (offset + 1) text)
    (get_or text offset 0) (here_is text offset c.loop-offset-test.true) no)
    ∙ further offset (name_length (drop (offset + 1) text))
