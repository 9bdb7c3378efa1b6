use Rattle.std.proofs.Common.{◌≤◌, ◌∙◌, ◌++◌, ℕ, List, ap, length, subst, sym}
use Rattle.cs_index.specs.OpenedParts.{Parts}
use Rattle.cs_index.specs.Tables.{TableParts, TablesIn}
use Rattle.cs_merge.specs.MergeResult.{IsGivenIndex, IsMergeAnswer, most_bytes}
use Rattle.cs_state.specs.StateFile.{sealed}
use Rattle.cs_update.proofs.IndexLemmas.{merged_index}
use Rattle.cs_update.proofs.updating.merge_learned.Goals as goal

pub returns : goal.returns
returns g c = λ index old m decodes.
    let base = c.in_ok-base.ensures.base index m in
    let parts : Parts = base.0 in
    let tables : TablesIn index c.tables-tables.result parts =
    subst (λ (t : TableParts). TablesIn index t parts) (sym c.tables-tables.ensures) base.1 in
    let answer = c.in_ok-merge_stored.ensures in
    let bytes : List ℕ = c.in_ok-branch.field-0.bytes in
    let merged = subst (IsMergeAnswer parts c.in-Ok.newer most_bytes) c.in_ok-branch.was
    (answer.merged index (c.in_ok-base.ensures.store ∙ m) parts tables) in
    let given = subst (IsGivenIndex _ _) c.in_ok-branch.was answer.given ∙ ap (λ (b : List ℕ). b ++ bytes) c.new-new.ensures.given in
    let seal = answer.keeps_out.2 ∙ c.new-new.ensures.seal in
    let summed = answer.keeps_out.1 (λ e. c.new-new.ensures.summed) in
    let one = merged_index c.args.own c.in_ok-own.ensures.built _ index bytes parts c.in-Ok.newer old
    (c.deref.ensures.value ∙ c.in_ok-own.ensures.ok)
    (subst (λ (b : List ℕ). length b ≤ 4294967295) (sym c.deref.ensures.value) c.in_ok-own.ensures.within)
    c.in-Ok.ensures.decodes tables.stands.decodes decodes base.2 merged in
    record {
      all_paths = one.all_paths;
      index = bytes;
      built = c.in_ok-own.ensures.built;
      covered = one.covered;
      decoding = one.decoding;
      state = record {
        are = c.in_ok-out.ensures.bytes summed ∙ (λ i. sealed (seal i) (given i));
        short = c.in_ok-out.ensures.short summed;
      };
    }
