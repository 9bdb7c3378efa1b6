use Rattle.std.proofs.Common.{sym, subst, length, ℕ}
use Rattle.cs_index.specs.OpenedParts.{Parts}
use Rattle.cs_index.specs.Stored.{StandsIn}
use Rattle.cs_index.specs.declared.reading.candidates.Page.{Page}
use Rattle.cs_index.specs.declared.reading.section_offsets.SectionOffsets.{SectionOffsets}
use Rattle.cs_index.proofs.stored.ListSections.{fault_of_err, ids_of, whole_of_ok}
use Rattle.cs_index.proofs.reading.index.Index.candidates_from.Goals as goal

pub returns-in-Ok : goal.returns-in-Ok
returns-in-Ok c =
    let bytes = c.self.inside.bytes.now in
    let tables = c.self.inside.tables in
    let now = c.args.self.now in
    let query = c.args.query.now in
    let page : Page = record { from = c.args.from; most = c.args.most } in
    let stands = subst (λ (s : SectionOffsets). StandsIn bytes (record { paths = tables.paths; name_count = c.name_count-name_count.result; starts = s }) now) (sym c.starts-starts.ensures.starts)
    (subst (λ (n : ℕ). StandsIn bytes (record { paths = tables.paths; name_count = n; starts = tables.starts }) now) (sym c.name_count-name_count.ensures.count)
    (subst (λ (p : Parts). StandsIn bytes (record { paths = tables.paths; name_count = length tables.names; starts = tables.starts }) p) c.self.view_is c.self.invariant.stands)) in
    let are = c.in-Ok.ensures.answers bytes c.new-store.ensures.model now tables.paths stands in
    record {
      ids = ids_of page query now c.in-Ok.answer are;
      whole = whole_of_ok page query now c.in-Ok.answer are;
      fault = fault_of_err page query now c.in-Ok.answer are;
    }
