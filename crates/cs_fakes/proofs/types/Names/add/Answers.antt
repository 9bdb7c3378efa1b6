use Rattle.std.proofs.Common.{cond, [], ◌∷◌, ◌++◌, ap, sym, ◌∙◌}
use Rattle.std.specs.Prelude.{string_bytes, is_ok, bytes_eq}
use Rattle.cs_fakes.specs.MemTrees.{mem_names}
use Rattle.cs_tree.proofs.NameLemmas.{list_any-map}
use Rattle.cs_fakes.proofs.NameLemmas.{pushed_names, added_names}
use Rattle.cs_fakes.proofs.types.Names.add.Goals as goal

pub returns-then-lists-clause-ok : goal.returns-then-lists-clause-ok
returns-then-lists-clause-ok c =
    let names = mem_names c.args.self.now in
    ap (λ b. cond b names (names ++ c.args.name.now ∷ []))
    (sym (list_any-map string_bytes (λ listed. bytes_eq listed c.args.name.now) c.args.self.now.list.items
    ∙ sym c.lists.ensures ∙ c.if-lists.true))

pub invariant_of-self : goal.invariant_of-self
invariant_of-self c = record {
  named = pushed_names string_bytes (is_ok c.push.result) c.args.self.now.list.items
      c.push.new.self.items c.in_ok-name.name c.args.name.now c.push.ensures.items c.in_ok-name.ensures.ok
      c.args.self.now.named c.requires (sym c.lists.ensures ∙ c.if-lists.false);
}

pub returns-clause-ok : goal.returns-clause-ok
returns-clause-ok c = added_names string_bytes c.args.self.now.list.items c.push.new.self.items c.in_ok-name.name
    c.args.name.now c.in_ok-push.ensures.items c.in_ok-name.ensures.ok (sym c.lists.ensures ∙ c.if-lists.false)
