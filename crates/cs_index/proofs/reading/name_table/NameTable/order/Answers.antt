use Rattle.std.proofs.Common.{rules, sym, ap, subst, ◌∙◌, map}
use Rattle.std.proofs.lemmas.List.MinMax.{ranks_by}
use Rattle.std.proofs.lemmas.List.Sorted.{answers_always}
use Rattle.std.specs.Cmp.Lexicographic.{nat_list_cmp_total}
use Rattle.std.specs.Ordering.{is_lt}
use Rattle.cs_tree.specs.NamesAscending.{are_ascending}
use Rattle.cs_tree.proofs.SortLemmas.{by_key}
use Rattle.cs_index.specs.Order.{IsOrder, name_in, id_in}
use Rattle.cs_index.specs.BorrowedNames.{borrowed_names}
use Rattle.cs_index.proofs.names.SortedNames.{name_borrowed, in_order, repeated_name}
use Rattle.cs_index.proofs.reading.name_table.NameTable.order.Goals as goal

pub returns-then-not-names_ascend : goal.returns-then-not-names_ascend
returns-then-not-names_ascend c =
    let sorted = c.sort_unstable_by.new.self.items in
    let up = c.sort_unstable_by.ensures.sorted (λ x y. is_lt (by_key name_borrowed x y))
    (ranks_by nat_list_cmp_total name_borrowed) (answers_always _ _ _ (λ f a r g h. search rules)) in
    repeated_name c.args.self.now c.in_ok-named.named.items sorted c.in_ok-named.ensures c.sort_unstable_by.ensures.permutation up
    (ap (λ ns. are_ascending (map name_in (borrowed_names ns))) (sym c.deref.ensures.value) ∙ sym c.names_ascend.ensures
    ∙ c.if-not-names_ascend.true)

pub returns : goal.returns
returns c =
    let sorted = c.sort_unstable_by.new.self.items in
    subst (IsOrder c.args.self.now) (sym (c.in_ok-ids.ensures ∙ ap (λ ns. map id_in (borrowed_names ns)) c.deref-2.ensures.value))
    (in_order c.args.self.now c.in_ok-named.named.items sorted c.in_ok-named.ensures c.sort_unstable_by.ensures.permutation
    (ap (λ ns. are_ascending (map name_in (borrowed_names ns))) (sym c.deref.ensures.value) ∙ sym c.names_ascend.ensures
    ∙ c.if-not-names_ascend.false))
