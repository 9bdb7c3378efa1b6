use Rattle.std.proofs.Common.{sym, ◌∙◌}
use Rattle.std.proofs.lemmas.Bool.{eqb-true, eq-eqb, true≢false}
use Rattle.cs_tree.proofs.SplitLemmas.{rsplit_says, last_element-last}
use Rattle.cs_fakes.proofs.PathLemmas.{parent_root, parent_prefix}
use Rattle.cs_tree.proofs.NormalizedLemmas.{clean_by_elements}
use Rattle.cs_fakes.proofs.mem_items.split_name.Goals as goal

pub returns-in_default : goal.returns-in_default
returns-in_default c = sym (clean_by_elements c.args.path.now)
    ∙ rw c.in_default.is at (rsplit_says c.args.path.now c.rsplit_once.result c.rsplit_once.ensures.cases)

pub returns-then-is_empty : goal.returns-then-is_empty
returns-then-is_empty c =
    let split = (rw c.in-Some.is at (rsplit_says c.args.path.now c.rsplit_once.result c.rsplit_once.ensures.cases)) in
    (parent_root _ _ _ split (eqb-true _ 0 (sym c.is_empty.ensures ∙ c.if-is_empty.true)), sym (last_element-last _ _ _ split))

pub returns : goal.returns
returns c =
    let split = (rw c.in-Some.is at (rsplit_says c.args.path.now c.rsplit_once.result c.rsplit_once.ensures.cases)) in (
      parent_prefix _ _ _ split (λ e. true≢false (sym (eq-eqb _ 0 e) ∙ sym c.is_empty.ensures ∙ c.if-is_empty.false)),
      sym (last_element-last _ _ _ split),
    )
