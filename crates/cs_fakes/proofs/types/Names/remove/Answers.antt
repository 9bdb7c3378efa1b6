use Rattle.std.proofs.Common.{rules, not, map, ap, sym, ◌∙◌}
use Rattle.cs_tree.specs.Folders.{child, are_elements}
use Rattle.std.proofs.lemmas.Fn.{filter_same}
use Rattle.std.specs.Prelude.{string_bytes, bytes_eq}
use Rattle.cs_fakes.specs.MemTrees.{mem_names}
use Rattle.cs_fakes.proofs.NameLemmas.{map-filter, are_elements-filter, names_beside, names_below}
use Rattle.cs_fakes.proofs.types.Names.remove.Goals as goal

pub invariant_of-self-else-covers : goal.invariant_of-self-else-covers
invariant_of-self-else-covers c =
    let kept = filter_same _ (λ s. not (bytes_eq (child c.args.folder.now (string_bytes s)) c.args.path.now)) _
    (λ x b f' k. search rules) _ _ c.retain.ensures.filtered in
    record {
      named = ap (λ items. are_elements (map string_bytes items)) kept
          ∙ ap are_elements (map-filter string_bytes
          (λ name. not (bytes_eq (child c.args.folder.now name) c.args.path.now)) c.args.self.now.list.items)
          ∙ are_elements-filter (λ name. not (bytes_eq (child c.args.folder.now name) c.args.path.now))
          (mem_names c.args.self.now) c.args.self.now.named;
    }

pub returns-then-covers : goal.returns-then-covers
returns-then-covers c = ap (map string_bytes) c.clear.ensures.items
    ∙ sym (names_below c.args.path.now c.args.folder.now (mem_names c.args.self.now)
    (sym c.covers.ensures ∙ c.if-covers.true))

pub returns-else-covers : goal.returns-else-covers
returns-else-covers c =
    let kept = filter_same _ (λ s. not (bytes_eq (child c.args.folder.now (string_bytes s)) c.args.path.now)) _
    (λ x b f' k. search rules) _ _ c.retain.ensures.filtered in
    ap (map string_bytes) kept
    ∙ map-filter string_bytes (λ name. not (bytes_eq (child c.args.folder.now name) c.args.path.now)) c.args.self.now.list.items
    ∙ names_beside c.args.path.now c.args.folder.now (mem_names c.args.self.now) c.requires
    (sym c.covers.ensures ∙ c.if-covers.false) c.args.self.now.named
