use Rattle.std.proofs.Common.{◌≡◌, true, false, rules, of_calls, drop, ap, sym, subst, ◌∙◌}
use Rattle.std.proofs.lemmas.Fn.{always_returns_same}
use Rattle.cs_tree.specs.Descents.{begins_below}
use Rattle.cs_tree.proofs.NarrowLemmas.{partitioned, all_before, none_before}
use Rattle.cs_tree.proofs.among.count_below.Goals as goal

pub returns-then-is_below-clause-point : goal.returns-then-is_below-clause-point
returns-then-is_below-clause-point g c =
    let text = g.P.AsStr.text in
    all_before (λ path. drop c.args.at (text path)) c.args.bound c.args.paths.now c.requires (λ d.
    subst (λ path. begins_below c.args.bound (drop c.args.at (text path)) ≡ true) (c.in-Some.ensures.item.3.1 d)
    (ap (λ t. begins_below c.args.bound (drop c.args.at t)) (sym c.as_str.ensures) ∙ sym c.is_below.ensures ∙ c.if-is_below.true))

pub returns-then-not-is_below-clause-point : goal.returns-then-not-is_below-clause-point
returns-then-not-is_below-clause-point g c =
    let text = g.P.AsStr.text in
    none_before (λ path. drop c.args.at (text path)) c.args.bound c.args.paths.now c.requires (λ d.
    subst (λ path. begins_below c.args.bound (drop c.args.at (text path)) ≡ false) (c.in-Some-first.ensures.item.3.1 d)
    (ap (λ t. begins_below c.args.bound (drop c.args.at t)) (sym c.as_str-in-Some-first.ensures)
    ∙ sym c.is_below-in-Some-first.ensures ∙ c.if-not-is_below.true))

pub returns-clause-point : goal.returns-clause-point
returns-clause-point g c =
    let text = g.P.AsStr.text in
    c.partition_point.ensures.partitioned (λ path. begins_below c.args.bound (drop c.args.at (text path)))
    (always_returns_same _ _ _ (λ a r f k. search (rules, of_calls)))
    (partitioned (λ path. drop c.args.at (text path)) c.args.bound c.args.paths.now c.requires)
