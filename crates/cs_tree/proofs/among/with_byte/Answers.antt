use Rattle.std.proofs.Common.{drop, subst, sym, ap, ◌∙◌}
use Rattle.std.proofs.lemmas.List.{take_rest}
use Rattle.std.specs.List.Sorted.{IsStrictlySortedBy}
use Rattle.cs_tree.specs.Descents.{tails, after_byte}
use Rattle.cs_tree.specs.NameOrder.{bytes_cmp}
use Rattle.cs_tree.proofs.NarrowLemmas.{narrowed, sorted_drop}
use Rattle.cs_tree.proofs.among.with_byte.Goals as goal

pub count_below-requires-2 : goal.count_below-requires-2
count_below-requires-2 g c =
    subst (λ rest. IsStrictlySortedBy bytes_cmp (tails g.P.AsStr.text c.args.at rest))
    (sym (take_rest c.args.paths.now c.count_below.result))
    (sorted_drop (λ path. drop c.args.at (g.P.AsStr.text path)) c.count_below.result c.args.paths.now c.requires)

pub returns : goal.returns
returns g c =
    let text = g.P.AsStr.text in
    narrowed text c.args.at c.from-bound.result c.count_below.result c.count_below-2.result c.args.paths.now _
    (take_rest c.args.paths.now c.count_below.result) c.count_below.ensures.bound c.count_below.ensures.point
    c.count_below-2.ensures.point
    ∙ ap (λ byte. after_byte byte (tails text c.args.at c.args.paths.now)) c.from-bound.ensures
