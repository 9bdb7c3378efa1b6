use Rattle.std.specs.Prelude.{bytes_eq}
use Rattle.std.specs.Path.{slash}
use Rattle.std.proofs.Common.{◌||◌, ◌∷◌, [], sym, ap, ◌∙◌}
use Rattle.cs_tree.proofs.CoverLemmas.{covers_cut}
use Rattle.cs_tree.proofs.paths.covers.Goals as goal

pub returns-in_default : goal.returns-in_default
returns-in_default c = let cut = covers_cut c.args.path.now c.args.name.now c.strip_prefix.result
    c.as_bytes-2.ensures.value c.as_bytes.ensures.value c.strip_prefix.ensures.cases in sym (rw c.in_default.is at cut)

pub returns-then-ends_element : goal.returns-then-ends_element
returns-then-ends_element c = let cut = covers_cut c.args.path.now c.args.name.now c.strip_prefix.result
    c.as_bytes-2.ensures.value c.as_bytes.ensures.value c.strip_prefix.ensures.cases in
    c.if-ends_element.true ∙ sym ((rw c.in-Some.is at cut) ∙ ap (λ t. t || bytes_eq c.args.path.now (slash ∷ []))
    (sym c.ends_element.ensures ∙ c.if-ends_element.true))

pub returns-else-ends_element : goal.returns-else-ends_element
returns-else-ends_element c = let cut = covers_cut c.args.path.now c.args.name.now c.strip_prefix.result
    c.as_bytes-2.ensures.value c.as_bytes.ensures.value c.strip_prefix.ensures.cases in
    c.eq.ensures ∙ sym ((rw c.in-Some.is at cut) ∙ ap (λ t. t || bytes_eq c.args.path.now (slash ∷ []))
    (sym c.ends_element.ensures ∙ c.if-ends_element.false))
