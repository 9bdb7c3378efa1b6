use Rattle.std.specs.Prelude.{bytes_eq}
use Rattle.std.specs.Path.{slash}
use Rattle.std.proofs.Common.{not, ◌||◌, ◌&&◌, ◌∷◌, [], map, sym, ◌∙◌}
use Rattle.cs_tree.specs.Cover.{begins, is_among}
use Rattle.cs_tree.proofs.AncestorLemmas.{alone_is}
use Rattle.cs_tree.proofs.among.is_alone.Goals as goal

pub returns-then-is_below_one : goal.returns-then-is_below_one
returns-then-is_below_one g c =
    let paths = map g.P.AsStr.text c.args.paths.now in
    let path = c.args.path.now in
    let below = sym c.is_below_one.ensures ∙ c.if-is_below_one.true in
    sym (alone_is path paths ∙ (λ i. not (below i
    || ((begins (slash ∷ []) path && not (bytes_eq path (slash ∷ []))) && is_among paths (slash ∷ [])))))

pub returns-then-is_below_root : goal.returns-then-is_below_root
returns-then-is_below_root g c =
    let below = sym c.is_below_one.ensures ∙ c.if-is_below_one.false in
    let top = sym c.is_below_root.ensures ∙ c.if-is_below_root.true in
    sym (alone_is c.args.path.now (map g.P.AsStr.text c.args.paths.now) ∙ (λ i. not (below i || (top i && sym c.is_listed.ensures i))))

pub returns : goal.returns
returns g c =
    let paths = map g.P.AsStr.text c.args.paths.now in
    let below = sym c.is_below_one.ensures ∙ c.if-is_below_one.false in
    let top = sym c.is_below_root.ensures ∙ c.if-is_below_root.false in
    sym (alone_is c.args.path.now paths ∙ (λ i. not (below i || (top i && is_among paths (slash ∷ [])))))
