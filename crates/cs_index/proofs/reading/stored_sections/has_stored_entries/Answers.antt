use Rattle.std.proofs.Common.{◌≡◌, ◌≤◌, ◌+◌, ◌-◌, ◌%◌, ◌∙◌, ◌++◌, ap, sym, subst, arith, ℕ, List, length, length-take, length-drop, drop}
use Rattle.cs_tree.specs.Store.{part_of}
use Rattle.cs_index.specs.Opening.{entries_in}
use Rattle.cs_index.specs.SectionPieces.{are_entries}
use Rattle.cs_index.specs.Windows.{StandAt}
use Rattle.cs_index.proofs.decoding.DecodableBytesOpen.{rise_from}
use Rattle.cs_index.proofs.stored.EntryPieces.{entries_joined, list_index_tested, list_index_uneven, no_entries}
use Rattle.cs_index.proofs.stored.ListPieces.{part_split}
use Rattle.cs_index.proofs.stored.SectionPieces.{part_long}
use Rattle.cs_index.proofs.stored.Windows.{has_from, stand}
use Rattle.cs_index.proofs.reading.stored_sections.has_stored_entries.Goals as goal

pub returns-then-starts-at-ne0-clause-entries : goal.returns-then-starts-at-ne0-clause-entries
returns-then-starts-at-ne0-clause-entries g c bytes m within =
    let s = c.args.starts.now in
    let order = rise_from s.paths s.names s.postings s.name_index s.list_index s.trailer c.requires.order in
    let long = part_long bytes s.list_index s.trailer order.ea within in
    sym (list_index_uneven (s.name_index - s.postings) (part_of bytes s.list_index (s.trailer - s.list_index))
    (λ e. c.if-starts-at-ne0.true (ap (λ n. n % 11) (sym long) ∙ e)))

-- the test of the rest, after a piece
module _ (bytes piece : List ℕ) (at trailer len : ℕ) (is : piece ≡ part_of bytes at len) (fits : length piece ≡ len)
    (within : len ≤ trailer - at) (whole : len % 11 ≡ 0) where
  abbrev after : List ℕ
  after = part_of bytes (at + len) (trailer - (at + len))

  joined : entries_in (part_of bytes at (trailer - at)) ≡ entries_in piece ++ entries_in after
  joined =
      ap entries_in (part_split bytes at len (trailer - at) within
      ∙ (λ i. sym is i ++ part_of bytes (at + len)
      ((let z : trailer - at - len ≡ trailer - (at + len) = omega arith in z) i)))
      ∙ entries_joined piece after (ap (λ n. n % 11) fits ∙ whole)

pub returns-then-len-clause-entries : goal.returns-then-len-clause-entries
returns-then-len-clause-entries g c bytes m within =
    let i = c.pieces.invariant in
    let at : ℕ = c.pieces.at in
    let len : ℕ = c.min-len.result in
    let end = i.within in
    let long = ap length (c.in_ok-read.ensures.piece bytes (i.keeps ∙ m) (has_from bytes c.pieces.window at (i.piece bytes m))) in
    let t = length-take len (drop at bytes) in
    let d = length-drop at bytes in
    absurd (omega (arith, long, t, d, within, end, c.if-len.true, c.min-len.ensures))

pub returns-in_default-clause-entries : goal.returns-in_default-clause-entries
returns-in_default-clause-entries g c bytes m within =
    let s = c.args.starts.now in
    let i = c.pieces.invariant in
    let room : ℕ = s.name_index - s.postings in
    let section : List ℕ = part_of bytes s.list_index (s.trailer - s.list_index) in
    let order = rise_from s.paths s.names s.postings s.name_index s.list_index s.trailer c.requires.order in
    let long = part_long bytes s.list_index s.trailer order.ea within in
    let len : ℕ = c.min-len.result in
    let piece : List ℕ = c.read.new.self.piece.items in
    let left = i.whole in
    let read = c.in_ok-read.ensures.piece bytes (i.keeps ∙ m) (has_from bytes c.pieces.window c.pieces.at (i.piece bytes m)) in
    sym (list_index_tested room section (ap (λ n. n % 11) long ∙ c.if-starts-at-ne0.false)
    ∙ i.left bytes m within
    ∙ ap (are_entries room c.pieces.least) (joined bytes piece c.pieces.at s.trailer len read
    (omega (arith, c.if-len.false, c.read.ensures.bound)) (omega (arith, c.min-len.ensures))
    (omega (arith, c.min-len.ensures, left))
    ∙ ap (λ p. entries_in p ++ entries_in (after bytes piece c.pieces.at s.trailer len read
    (omega (arith, c.if-len.false, c.read.ensures.bound)) (omega (arith, c.min-len.ensures))
    (omega (arith, c.min-len.ensures, left)))) (sym c.deref.ensures.value))
    ∙ c.in_default.ensures.none (entries_in (part_of bytes (c.pieces.at + len) (s.trailer - (c.pieces.at + len)))))

pub pieces-preserved : goal.pieces-preserved
pieces-preserved g c =
    let s = c.args.starts.now in
    let i = c.pieces.invariant in
    let room : ℕ = s.name_index - s.postings in
    let len : ℕ = c.min-len.result in
    let piece : List ℕ = c.read.new.self.piece.items in
    let left = i.whole in
    let begun = i.begun in
    record {
      begun = omega (arith, begun);
      within = omega (arith, c.min-len.ensures);
      whole = omega (arith, c.min-len.ensures, left);
      left = λ bytes m within.
          let read = c.in_ok-read.ensures.piece bytes (i.keeps ∙ m) (has_from bytes c.pieces.window c.pieces.at (i.piece bytes m)) in
          i.left bytes m within
          ∙ ap (are_entries room c.pieces.least) (joined bytes piece c.pieces.at s.trailer len read
          (omega (arith, c.if-len.false, c.read.ensures.bound)) (omega (arith, c.min-len.ensures))
          (omega (arith, c.min-len.ensures, left))
          ∙ ap (λ p. entries_in p ++ entries_in (part_of bytes (c.pieces.at + len) (s.trailer - (c.pieces.at + len))))
          (sym c.deref.ensures.value))
          ∙ c.in-Some.ensures.some (entries_in (part_of bytes (c.pieces.at + len) (s.trailer - (c.pieces.at + len))));
      piece = λ bytes m. subst (λ (n : ℕ). StandAt bytes n piece) (sym c.read.ensures.start) (stand bytes piece c.pieces.at len
          (c.in_ok-read.ensures.piece bytes (i.keeps ∙ m) (has_from bytes c.pieces.window c.pieces.at (i.piece bytes m))));
      keeps = c.read.ensures.store.0 ∙ i.keeps;
      size = c.read.ensures.store.1 ∙ i.size;
      failed = c.in_ok-read.ensures.store.2 ∙ i.failed;
    }

pub returns-clause-entries : goal.returns-clause-entries
returns-clause-entries g c bytes m within =
    let s = c.args.starts.now in
    let i = c.pieces.invariant in
    let room : ℕ = s.name_index - s.postings in
    let section : List ℕ = part_of bytes s.list_index (s.trailer - s.list_index) in
    let order = rise_from s.paths s.names s.postings s.name_index s.list_index s.trailer c.requires.order in
    let long = part_long bytes s.list_index s.trailer order.ea within in
    let end = i.within in
    sym (list_index_tested room section (ap (λ n. n % 11) long ∙ c.if-starts-at-ne0.false)
    ∙ i.left bytes m within
    ∙ ap (λ n. are_entries room c.pieces.least (entries_in (part_of bytes c.pieces.at n)))
    (let z : s.trailer - c.pieces.at ≡ 0 = omega (arith, end, c.pieces-test.false) in z)
    ∙ ap (are_entries room c.pieces.least) no_entries)
