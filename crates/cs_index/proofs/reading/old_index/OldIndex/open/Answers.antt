use Rattle.std.proofs.Common.{◌≡◌, ◌-◌, ◌∙◌, sym, subst, List, ℕ, Result}
use Rattle.std.specs.Prelude.{IfOk}
use Rattle.cs_tree.specs.ByteList.{AreBytes}
use Rattle.cs_tree.specs.Store.{part_of}
use Rattle.cs_index.specs.OpenedParts.{Parts}
use Rattle.cs_index.specs.Opening.{parts_of}
use Rattle.cs_index.specs.Stored.{sections_at}
use Rattle.cs_index.specs.StoredOpening.{AreAscendingOffsets, IsSplitAt, with_lists}
use Rattle.cs_index.specs.Tables.{OpensAsTables, TableParts, TablesIn, tables_of}
use Rattle.cs_index.specs.declared.fault.IndexFault.{IndexFault}
use Rattle.cs_index.specs.declared.reading.section_offsets.SectionOffsets.{SectionOffsets}
use Rattle.cs_index.proofs.stored.ListPieces.{shown}
use Rattle.cs_index.proofs.stored.SectionReads.{if_modelled, if_some_map, not_opened}
use Rattle.cs_index.proofs.stored.TableSections.{tables_stand, tested_fail, tested_open}
use Rattle.cs_index.proofs.reading.old_index.OldIndex.open.Goals as goal
use Rattle.cs_index.proofs.reading.old_index.OldIndex.open.Goals.{in-Ok-test_sections, in-Err-test_sections}

pub returns-in-Err-clause-opens : goal.returns-in-Err-clause-opens
returns-in-Err-clause-opens g c =
    if_some_map _ _ (g.S.Store.model c.args.store.now)
    (λ bytes is. not_opened bytes c.in-Err.fault (subst (IsSplitAt bytes) c.in-Err.is is)) c.in_ok-starts.ensures.slices

pub returns-clause-opens : goal.returns-clause-opens
returns-clause-opens g c =
    if_modelled (g.S.Store.model c.args.store.now) _
    (λ bytes m.
    let s : SectionOffsets = c.in-Ok.starts in
    let order : AreAscendingOffsets s = subst (λ (r : Result SectionOffsets IndexFault). IfOk r AreAscendingOffsets) c.in-Ok.is c.in_ok-starts.ensures.order in
    let at = subst (IsSplitAt bytes) c.in-Ok.is (shown (λ b. IsSplitAt b c.in_ok-starts.field-0) _ bytes m c.in_ok-starts.ensures.slices) in
    let m1 = c.in_ok-starts.ensures.store.0 ∙ m in
    let m2 = c.read_part.ensures.store.0 ∙ m1 in
    let m3 = c.read_part-2.ensures.store.0 ∙ m2 in
    let m4 = c.read_part-3.ensures.store.0 ∙ m3 in
    let p : List ℕ = c.in_ok-paths.paths.items in
    let n : List ℕ = c.in_ok-names.names.items in
    let i : List ℕ = c.in_ok-name_index.name_index.items in
    let l : List ℕ = c.in_ok-list_index.list_index.items in
    let paths = shown (λ b. p ≡ part_of b s.paths (s.names - s.paths)) _ bytes m1 c.in_ok-paths.ensures.bytes in
    let names = shown (λ b. n ≡ part_of b s.names (s.postings - s.names)) _ bytes m2 c.in_ok-names.ensures.bytes in
    let numbers = shown (λ b. i ≡ part_of b s.name_index (s.list_index - s.name_index)) _ bytes m3
    c.in_ok-name_index.ensures.bytes in
    let entries = shown (λ b. l ≡ part_of b s.list_index (s.trailer - s.list_index)) _ bytes m4
    c.in_ok-list_index.ensures.bytes in
    let lists : List ℕ = part_of bytes s.postings (s.name_index - s.postings) in
    let same : with_lists c.deref.result.now c.deref-2.result.now c.deref-3.result.now c.deref-4.result.now lists ≡ sections_at bytes s =
    λ t. with_lists ((c.deref.ensures.value ∙ paths) t) ((c.deref-2.ensures.value ∙ names) t)
    ((c.deref-3.ensures.value ∙ numbers) t) ((c.deref-4.ensures.value ∙ entries) t) lists in
    elim c.match-test_sections.branch [
      | in-Ok-test_sections w ↦
          let parts : Parts = parts_of (sections_at bytes s) in
          let opens = tested_open bytes s order at _ _ _ _ same w.in-Ok-test_sections.ensures.read in
          subst (OpensAsTables bytes) (sym w.answer-is) (
            parts,
            subst (λ (t : TableParts). TablesIn bytes t parts) (λ t. tables_of (sym paths t) (sym names t) (sym entries t) s)
                (tables_stand bytes s order at parts (shown AreBytes _ bytes m c.in_ok-starts.ensures.bytes) opens),
          )
      | in-Err-test_sections w ↦
          subst (OpensAsTables bytes) (sym w.answer-is)
          (tested_fail bytes s order at _ _ _ _ same w.in-Err-test_sections.fault w.in-Err-test_sections.ensures.fault)
    ])
