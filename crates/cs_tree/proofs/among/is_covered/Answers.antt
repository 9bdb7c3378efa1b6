use Rattle.std.proofs.Common.{◌||◌, ◌&&◌, ◌∷◌, [], map, sym, ◌∙◌}
use Rattle.std.specs.List.{list_any}
use Rattle.std.specs.Path.{slash}
use Rattle.cs_tree.specs.Cover.{begins, is_among, is_ancestor}
use Rattle.cs_tree.proofs.AncestorLemmas.{covered_is}
use Rattle.cs_tree.proofs.among.is_covered.Goals as goal

pub returns-then-is_listed : goal.returns-then-is_listed
returns-then-is_listed g c =
    let paths = map g.P.AsStr.text c.args.paths.now in
    let name = c.args.name.now in
    let listed = sym c.is_listed.ensures ∙ c.if-is_listed.true in
    sym (covered_is name paths ∙ (λ i. listed i
    || (list_any (λ above. is_ancestor above name) paths || (begins (slash ∷ []) name && is_among paths (slash ∷ [])))))

pub returns-then-is_below_one : goal.returns-then-is_below_one
returns-then-is_below_one g c =
    let paths = map g.P.AsStr.text c.args.paths.now in
    let name = c.args.name.now in
    let listed = sym c.is_listed.ensures ∙ c.if-is_listed.false in
    let below = sym c.is_below_one.ensures ∙ c.if-is_below_one.true in
    sym (covered_is name paths ∙ (λ i. listed i || (below i || (begins (slash ∷ []) name && is_among paths (slash ∷ [])))))

pub returns-then-is_absolute : goal.returns-then-is_absolute
returns-then-is_absolute g c =
    let listed = sym c.is_listed.ensures ∙ c.if-is_listed.false in
    let below = sym c.is_below_one.ensures ∙ c.if-is_below_one.false in
    let top = sym c.is_absolute.ensures ∙ c.if-is_absolute.true in
    sym (covered_is c.args.name.now (map g.P.AsStr.text c.args.paths.now)
    ∙ (λ i. listed i || (below i || (top i && sym c.is_listed-then-is_absolute.ensures i))))

pub returns-else-is_absolute : goal.returns-else-is_absolute
returns-else-is_absolute g c =
    let paths = map g.P.AsStr.text c.args.paths.now in
    let listed = sym c.is_listed.ensures ∙ c.if-is_listed.false in
    let below = sym c.is_below_one.ensures ∙ c.if-is_below_one.false in
    let top = sym c.is_absolute.ensures ∙ c.if-is_absolute.false in
    c.if-is_absolute.false
    ∙ sym (covered_is c.args.name.now paths ∙ (λ i. listed i || (below i || (top i && is_among paths (slash ∷ [])))))
