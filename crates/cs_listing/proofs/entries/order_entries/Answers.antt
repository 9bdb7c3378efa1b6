use Rattle.std.proofs.Common.{rules, ◌≡◌, map, reverse, sym, ap, subst, ◌∙◌}
use Rattle.std.proofs.lemmas.Fn.{dedup_same}
use Rattle.std.proofs.lemmas.List.{reverse-reverse}
use Rattle.std.proofs.lemmas.List.Elements.{All-contains_itself}
use Rattle.std.proofs.lemmas.List.Filters.{All-dedup}
use Rattle.std.proofs.lemmas.List.MinMax.{ranks_by}
use Rattle.std.proofs.lemmas.List.Sorted.{list_any-IsPermutation, answers_always, All-permutation, IsPermutation-reverse}
use Rattle.std.specs.Prelude.{bytes_eq}
use Rattle.std.specs.Cmp.Lexicographic.{nat_list_cmp_total}
use Rattle.std.specs.List.{All, Contains, dedup}
use Rattle.std.specs.Ordering.{is_lt}
use Rattle.cs_tree.specs.NamesAscending.{are_ascending}
use Rattle.cs_tree.proofs.SortLemmas.{sorted_once, once_same, same_key, by_key}
use Rattle.cs_tree.proofs.NameLemmas.{list_any-map}
use Rattle.cs_tree.specs.Elements.{is_among}
use Rattle.cs_listing.specs.Entries.{entry_key}
use Rattle.cs_listing.proofs.entries.order_entries.Goals as goal

pub returns-clause-ascend : goal.returns-clause-ascend
returns-clause-ascend c =
    let sorted = c.sort_unstable_by.new.self.items in
    let once : c.dedup_by.new.self.items ≡ dedup (same_key entry_key) sorted =
    dedup_same _ (same_key entry_key) _ (λ x y b f' x' y' h. search rules) sorted _ c.dedup_by.ensures.filtered in
    let up = c.sort_unstable_by.ensures.sorted (λ x y. is_lt (by_key entry_key x y)) (ranks_by nat_list_cmp_total entry_key)
    (answers_always _ _ _ (λ f a r g h. search rules)) in
    ap (λ entries. are_ascending (map entry_key entries))
    (ap reverse c.reverse.ensures.items ∙ reverse-reverse c.dedup_by.new.self.items ∙ once)
    ∙ sorted_once entry_key sorted up

pub returns-clause-same : goal.returns-clause-same
returns-clause-same c =
    let sorted = c.sort_unstable_by.new.self.items in
    let once : c.dedup_by.new.self.items ≡ dedup (same_key entry_key) sorted =
    dedup_same _ (same_key entry_key) _ (λ x y b f' x' y' h. search rules) sorted _ c.dedup_by.ensures.filtered in
    λ key.
    ap (λ entries. is_among (map entry_key entries) key)
    (ap reverse c.reverse.ensures.items ∙ reverse-reverse c.dedup_by.new.self.items ∙ once)
    ∙ list_any-map entry_key (λ other. bytes_eq other key) (dedup (same_key entry_key) sorted)
    ∙ once_same entry_key (λ q. bytes_eq q key) sorted
    ∙ sym (list_any-IsPermutation (λ x. bytes_eq (entry_key x) key) c.args.entries.now.items sorted c.sort_unstable_by.ensures.permutation)
    ∙ sym (list_any-map entry_key (λ other. bytes_eq other key) c.args.entries.now.items)

pub returns-clause-members : goal.returns-clause-members
returns-clause-members c =
    let old = c.args.entries.now.items in
    let sorted = c.sort_unstable_by.new.self.items in
    let kept = dedup (same_key entry_key) sorted in
    let once : c.dedup_by.new.self.items ≡ kept =
    dedup_same _ (same_key entry_key) _ (λ x y b f' x' y' h. search rules) sorted _ c.dedup_by.ensures.filtered in
    subst (All (Contains old)) (sym (c.reverse.ensures.items ∙ ap reverse once))
    (All-permutation (Contains old) kept (reverse kept) (IsPermutation-reverse kept)
    (All-dedup (same_key entry_key) (Contains old) sorted
    (All-permutation (Contains old) old sorted c.sort_unstable_by.ensures.permutation (All-contains_itself old))))
