use Rattle.std.proofs.Common.{Result, ap, sym, subst, ◌∙◌, Some, ◌≡◌, Option}
use Rattle.std.specs.Result.{IsOkAnd}
use Rattle.cs_tree.specs.StreamModels.{SourceModel}
use Rattle.cs_tree.specs.declared.fault.TreeFault.{TreeFault}
use Rattle.cs_tree.specs.TreeAnswers.{opening_of}
use Rattle.cs_fakes.specs.MemTrees.{left_at}
use Rattle.cs_fakes.proofs.MemItemLemmas.{item_found_at, item_missing, left_found}
use Rattle.cs_fakes.proofs.mem_items.opening_at.Goals as goal

same_left : (opening : Result SourceModel TreeFault) (a b : Option SourceModel) → a ≡ b →
    IsOkAnd opening (λ file. a ≡ Some file) → IsOkAnd opening (λ file. b ≡ Some file)
same_left opening a b e = subst (λ (left : Option SourceModel). IsOkAnd opening (λ file. left ≡ Some file)) e

pub returns-in_default : goal.returns-in_default
returns-in_default c = (
  λ e. cc e,
  ap opening_of
      (item_missing c.args.items.now c.args.path.now (sym c.find_entry.ensures ∙ c.in_default.is)),
)

pub returns-in-Ok : goal.returns-in-Ok
returns-in-Ok c =
    let here = sym c.find_entry.ensures ∙ c.in-Some.is in
    let is = item_found_at c.args.items.now c.args.path.now c.in-Some.at c.index-items-at.result here in
    let left = left_found c.args.items.now c.args.path.now c.in-Some.at 0 c.index-items-at.result here in
    subst (λ item. IsOkAnd (opening_of item) (λ file. left_at c.args.items.now 0 (Some c.in-Some.at) ≡ Some file))
    (sym is) (same_left _ _ _ (sym left) c.in-Ok.ensures)

pub returns-in-Err : goal.returns-in-Err
returns-in-Err c =
    let here = sym c.find_entry.ensures ∙ c.in-Some.is in (
      c.in-Err.ensures.0,
      ap opening_of (item_found_at c.args.items.now c.args.path.now c.in-Some.at
          c.index-items-at.result here) ∙ c.in-Err.ensures.1,
    )
