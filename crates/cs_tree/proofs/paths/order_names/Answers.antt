use Rattle.std.proofs.Common.{map, sym, ap, ◌∙◌}
use Rattle.cs_tree.specs.NamesAscending.{are_ascending}
use Rattle.std.proofs.lemmas.List.Filters.{dedup_is}
use Rattle.std.proofs.lemmas.List.Sorted.{list_any-IsPermutation}
use Rattle.std.specs.Prelude.{string_bytes, bytes_eq}
use Rattle.std.specs.List.{list_any}
use Rattle.cs_tree.proofs.SortLemmas.{sorted_once, once_same, same_key}
use Rattle.cs_tree.proofs.NameLemmas.{list_any-map}
use Rattle.cs_tree.proofs.paths.order_names.Goals as goal

pub returns-clause-ascend : goal.returns-clause-ascend
returns-clause-ascend c =
    ap (λ names. are_ascending (map string_bytes names))
    (dedup_is (same_key string_bytes) c.sort_unstable.new.self.items c.dedup.new.self.items c.dedup.ensures.filtered)
    ∙ sorted_once string_bytes c.sort_unstable.new.self.items c.sort_unstable.ensures.sorted

pub returns-clause-same : goal.returns-clause-same
returns-clause-same c = λ name.
    list_any-map string_bytes (λ other. bytes_eq other name) c.dedup.new.self.items
    ∙ ap (list_any (λ x. bytes_eq (string_bytes x) name))
    (dedup_is (same_key string_bytes) c.sort_unstable.new.self.items c.dedup.new.self.items c.dedup.ensures.filtered)
    ∙ once_same string_bytes (λ q. bytes_eq q name) c.sort_unstable.new.self.items
    ∙ sym (list_any-IsPermutation (λ x. bytes_eq (string_bytes x) name) c.args.names.now.items
    c.sort_unstable.new.self.items c.sort_unstable.ensures.permutation)
    ∙ sym (list_any-map string_bytes (λ other. bytes_eq other name) c.args.names.now.items)
