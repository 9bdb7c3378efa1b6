use Rattle.std.proofs.Common.{[], ◌∷◌, ◌++◌, map, take, arith, sym, ap, ◌∙◌, append_assoc}
use Rattle.std.specs.Prelude.{string_bytes}
use Rattle.std.specs.Path.{slash}
use Rattle.std.proofs.lemmas.List.{take_all}
use Rattle.cs_tree.proofs.NameLemmas.{mapped_more}
use Rattle.cs_listing.specs.Walk.{path_text}
use Rattle.cs_project.proofs.PathLemmas.{path_more}
use Rattle.cs_project.proofs.paths.path_text.Goals as goal

pub names-preserved : goal.names-preserved
unfolding lib.Utf8.encode
names-preserved c =
    let done = map string_bytes (take c.names.name-index c.args.names.now) in
    let name = c.name-item.result in
    c.in_ok-push_str.ensures.bytes
    ∙ ap (λ p. p ++ c.as_str.result.now) (c.in_ok-push.ensures.bytes ∙ ap (λ p. p ++ slash ∷ []) c.names.invariant)
    ∙ append_assoc (path_text done) (slash ∷ []) c.as_str.result.now
    ∙ ap (λ n. path_text done ++ slash ∷ n) c.as_str.ensures.value
    ∙ sym (path_more done (string_bytes name))
    ∙ ap path_text (sym (mapped_more string_bytes c.args.names.now c.names.name-index name (omega arith) c.name-item.is))

pub returns : goal.returns
returns c = c.names.invariant ∙ ap (λ ns. path_text (map string_bytes ns)) (take_all c.names.name-index c.args.names.now (omega arith))
