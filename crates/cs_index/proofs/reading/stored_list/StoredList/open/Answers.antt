use Rattle.std.proofs.Common.{◌≡◌, ◌+◌, ◌-◌, ◌≤◌, ◌++◌, ◌∙◌, ap, sym, subst, refl, List, ℕ, length, take, drop, arith}
use Rattle.std.specs.Prelude.{bytes_eq}
use Rattle.cs_tree.specs.Store.{part_of}
use Rattle.cs_index.specs.Encoding.{ListEntry, three_bytes}
use Rattle.cs_index.specs.PostingLists.{read_ids}
use Rattle.cs_index.specs.StoredEntries.{entry_read}
use Rattle.cs_index.specs.declared.reading.section_offsets.SectionOffsets.{SectionOffsets}
use Rattle.cs_index.proofs.stored.ListPieces.{holds_after, open_damaged, open_read, open_short}
use Rattle.cs_index.proofs.stored.Windows.{has_from}
use Rattle.cs_index.proofs.reading.stored_list.StoredList.open.Goals as goal

pub returns-then-room-offset-clause-ids : goal.returns-then-room-offset-clause-ids
returns-then-room-offset-clause-ids g c bytes is =
    let s : SectionOffsets = c.args.starts.now in
    let room : ℕ = s.name_index - s.postings in
    let e : ListEntry = entry_read c.args.entry.now in
    c.ended.ensures.ids bytes ∙ open_short bytes s.postings room c.args.name_count e (omega (arith, c.if-room-offset.true))

pub returns-then-not-is_list_of-clause-ids : goal.returns-then-not-is_list_of-clause-ids
returns-then-not-is_list_of-clause-ids g c bytes is =
    let s : SectionOffsets = c.args.starts.now in
    let room : ℕ = s.name_index - s.postings in
    let e : ListEntry = entry_read c.args.entry.now in
    let read = c.in_ok-read.ensures.piece bytes is (has_from bytes c.new-window.result (s.postings + e.offset) (c.new-window.ensures.piece bytes)) in
    c.ended-then-not-is_list_of.ensures.ids bytes
    ∙ open_damaged bytes c.read.new.self.piece.items s.postings room e.offset c.min-len.result read
    (omega (arith, c.min.ensures, c.min-len.ensures))
    (omega (arith, c.min.ensures, c.min-len.ensures, c.if-room-offset.false, c.requires.longest))
    (omega (arith, c.if-room-offset.false))
    c.args.name_count e refl
    (ap (λ p. bytes_eq (take 3 p) (three_bytes e.trigram)) (sym c.deref.ensures.value) ∙ sym c.if-not-is_list_of.ensures.named)

pub returns-clause-holds : goal.returns-clause-holds
returns-clause-holds g c bytes is =
    let s : SectionOffsets = c.args.starts.now in
    let room : ℕ = s.name_index - s.postings in
    let start : ℕ = s.postings + c.args.entry.now.offset in
    let stop : ℕ = s.name_index in
    let len : ℕ = c.min-len.result in
    let piece : List ℕ = c.read.new.self.piece.items in
    let read = c.in_ok-read.ensures.piece bytes is (has_from bytes c.new-window.result start (c.new-window.ensures.piece bytes)) in (
      part_of bytes (start + len) (stop - start - len),
      subst (λ n. part_of bytes (n + 3) (stop - (n + 3)) ≡ drop 3 piece ++ part_of bytes (start + len) (stop - start - len))
          (sym c.read.ensures.start)
          (holds_after bytes piece start stop len 3 read
          (omega (arith, c.min.ensures, c.min-len.ensures, c.if-room-offset.false))
          (subst (λ (p : List ℕ). 3 ≤ length p) c.deref.ensures.value (c.if-not-is_list_of.ensures.long refl))),
    )

pub returns-clause-ids : goal.returns-clause-ids
returns-clause-ids g c bytes is =
    let s : SectionOffsets = c.args.starts.now in
    let room : ℕ = s.name_index - s.postings in
    let e : ListEntry = entry_read c.args.entry.now in
    let read = c.in_ok-read.ensures.piece bytes is (has_from bytes c.new-window.result (s.postings + e.offset) (c.new-window.ensures.piece bytes)) in
    let stop : s.name_index ≡ s.postings + room = omega (arith, c.if-room-offset.false) in
    (λ i. read_ids c.args.name_count e.count 0 (part_of bytes (c.read.ensures.start i + 3) (stop i - (c.read.ensures.start i + 3))))
    ∙ open_read bytes c.read.new.self.piece.items s.postings room e.offset c.min-len.result read
    (omega (arith, c.min.ensures, c.min-len.ensures))
    (omega (arith, c.min.ensures, c.min-len.ensures, c.if-room-offset.false, c.requires.longest))
    (omega (arith, c.if-room-offset.false))
    c.args.name_count e refl
    (ap (λ p. bytes_eq (take 3 p) (three_bytes e.trigram)) (sym c.deref.ensures.value) ∙ sym c.if-not-is_list_of.ensures.named)
