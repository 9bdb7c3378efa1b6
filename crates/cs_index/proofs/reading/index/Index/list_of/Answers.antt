use Rattle.std.proofs.Common.{◌≡◌, ◌∙◌, ap, length, arith, List, ℕ}
use Rattle.std.proofs.lemmas.List.{take_rest}
use Rattle.std.specs.Prelude.{slice_range}
use Rattle.cs_index.specs.ListReading.{list_in}
use Rattle.cs_index.specs.OpenedParts.{Parts}
use Rattle.cs_index.specs.PostingLists.{read_list}
use Rattle.cs_index.specs.StoredEntries.{entry_read}
use Rattle.cs_index.specs.declared.reading.section_offsets.SectionOffsets.{SectionOffsets}
use Rattle.cs_index.proofs.postings.ListAtEntry.{list_from, list_short}
use Rattle.cs_index.proofs.reading.index.Index.list_of.Goals as goal

pub returns-then-offset-postings : goal.returns-then-offset-postings
returns-then-offset-postings c =
    let lists : SectionOffsets → List ℕ = λ s. slice_range c.self.inside.bytes.now s.postings s.name_index in
    let same = ap lists c.starts-starts.ensures.starts ∙ ap (λ (p : Parts). p.postings) c.self.view_is in
    c.damage.ensures
    ∙ list_short (lists c.starts-starts.result) (length c.args.self.now.names) (entry_read c.args.entry.now) (omega (arith, c.if-offset-postings.true))
    ∙ ap (λ ps. read_list ps (length c.args.self.now.names) (entry_read c.args.entry.now)) same

pub returns : goal.returns
returns c =
    let lists : SectionOffsets → List ℕ = λ s. slice_range c.self.inside.bytes.now s.postings s.name_index in
    let same = ap lists c.starts-starts.ensures.starts ∙ ap (λ (p : Parts). p.postings) c.self.view_is in
    let count : c.name_count.result ≡ length c.args.self.now.names =
    c.name_count.ensures.count ∙ ap (λ (p : Parts). length p.names) c.self.view_is in
    c.postings_of.ensures
    ∙ (λ i. list_in (take_rest (lists c.starts-starts.result) c.args.entry.now.offset i) (count i) (entry_read c.args.entry.now))
    ∙ list_from (lists c.starts-starts.result) (length c.args.self.now.names) (entry_read c.args.entry.now)
    ∙ ap (λ ps. read_list ps (length c.args.self.now.names) (entry_read c.args.entry.now)) same
