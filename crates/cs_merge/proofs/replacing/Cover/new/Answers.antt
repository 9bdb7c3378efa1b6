use Rattle.std.proofs.Common.{◌≡◌, ◌++◌, ℕ, List, sym, ap, ◌∙◌}
use Rattle.cs_merge.proofs.Common.{append-nil, are_ascending, texts, ordered_items, items_ascend}
use Rattle.std.proofs.lemmas.List.Filters.{dedup_is}
use Rattle.cs_tree.specs.PathSet as set
use Rattle.cs_merge.proofs.DecodedContentLemmas.{set_of_items}
use Rattle.cs_merge.proofs.replacing.Cover.new.Goals as goal

pub invariant_of-result : goal.invariant_of-result
invariant_of-result c =
    let ordered : texts c.dedup.new.self.items ≡ set.items (set.from_list (texts c.paths.paths.items)) =
    ordered_items c.paths.paths.items c.sort_unstable.new.self.items c.dedup.new.self.items
    c.sort_unstable.ensures.permutation c.sort_unstable.ensures.sorted (dedup_is _ _ _ c.dedup.ensures.filtered) in
    ap are_ascending ordered ∙ items_ascend (set.from_list (texts c.paths.paths.items))

pub returns : goal.returns
returns c =
    let ordered : texts c.dedup.new.self.items ≡ set.items (set.from_list (texts c.paths.paths.items)) =
    ordered_items c.paths.paths.items c.sort_unstable.new.self.items c.dedup.new.self.items
    c.sort_unstable.ensures.permutation c.sort_unstable.ensures.sorted (dedup_is _ _ _ c.dedup.ensures.filtered) in
    let all : texts c.paths.paths.items ≡ c.args.texts = sym (append-nil (texts c.paths.paths.items))
    ∙ ap (λ (rest : List (List ℕ)). texts c.paths.paths.items ++ rest) (sym c.in-None.ensures.steps.0)
    ∙ c.paths.invariant in
    ap set.from_list ordered
    ∙ sym (set_of_items (set.from_list (texts c.paths.paths.items)))
    ∙ ap set.from_list all
