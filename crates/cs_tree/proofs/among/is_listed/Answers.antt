use Rattle.std.proofs.Common.{rules, of_calls, ◌∙◌}
use Rattle.std.proofs.lemmas.Fn.{always_returns_same}
use Rattle.std.specs.Ordering.{nat_cmp}
use Rattle.std.specs.Cmp.Lexicographic.{slice_cmp}
use Rattle.cs_tree.proofs.AncestorLemmas.{listed}
use Rattle.cs_tree.proofs.among.is_listed.Goals as goal

pub returns : goal.returns
returns g c =
    c.is_ok.ensures.value
    ∙ listed g.P.AsStr.text c.args.paths.now c.args.path.now c.binary_search_by-found.result c.requires
    c.binary_search_by-found.ensures.bound
    (c.binary_search_by-found.ensures.position (λ y. slice_cmp nat_cmp (g.P.AsStr.text y) c.args.path.now)
    (always_returns_same _ _ _ (λ a r f k. search (rules, of_calls))))
