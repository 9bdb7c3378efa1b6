use Rattle.std.specs.Prelude.{bytes_eq}
use Rattle.std.proofs.Common.{◌∷◌, ◌++◌, sym, ◌∙◌, ap}
use Rattle.cs_tree.specs.Folders.{stem_of}
use Rattle.std.proofs.lemmas.Bool.{ne_eqb}
use Rattle.cs_fakes.proofs.PathLemmas.{child_same, child_apart}
use Rattle.cs_fakes.proofs.mem_items.is_child.Goals as goal

pub returns-then-first-eq47 : goal.returns-then-first-eq47
returns-then-first-eq47 c =
    let split = c.in-Some-split_first.ensures.cases in
    c.eq.ensures ∙ ap (bytes_eq c.in-Some-split_first.last.now) c.as_bytes.ensures.value
    ∙ child_same c.args.path.now c.args.folder.now c.args.name.now c.in-Some-split_first.last.now
    (c.in-Some.ensures ∙ ap (λ rest. stem_of c.args.folder.now ++ rest)
    (split.0 ∙ ap (λ b. b ∷ c.in-Some-split_first.last.now) c.if-first-eq47.true))

pub returns-else-first-eq47 : goal.returns-else-first-eq47
returns-else-first-eq47 c =
    let split = c.in-Some-split_first.ensures.cases in
    ne_eqb _ _ c.if-first-eq47.false
    ∙ sym (child_apart c.args.path.now c.args.folder.now c.args.name.now c.in-Some-split_first.last.now
    c.in-Some-split_first.first.now (c.in-Some.ensures ∙ ap (λ rest. stem_of c.args.folder.now ++ rest) split.0)
    c.if-first-eq47.false)
