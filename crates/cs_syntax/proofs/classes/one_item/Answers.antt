use Rattle.std.proofs.Common.{false}
use Rattle.cs_syntax.specs.ClassSets.{is_in_item}
use Rattle.cs_syntax.proofs.CharRangeLemmas.{set_of_test, only_added, xor-false}
use Rattle.cs_syntax.proofs.classes.one_item.Goals as goal

pub returns : goal.returns
returns c = set_of_test _ false c.of_ranges.result (is_in_item false c.args.item) (is_in_item false c.args.item)
    (λ x. xor-false (is_in_item false c.args.item x)) c.of_ranges.ensures
    (only_added _ _ _ (is_in_item false c.args.item) c.new-ranges.ensures.items c.deref.ensures.value c.in_ok-add_item.ensures)
