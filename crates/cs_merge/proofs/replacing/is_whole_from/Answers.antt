use Rattle.std.proofs.Common.{◌≡◌, ◌∙◌, ◌+◌, ◌<◌, ◌&&◌, sym, ap, ℕ, List, Bool, true, length, Option, slice_get, drop, arith, rules}
use Rattle.cs_merge.proofs.Common.{drop_all, list_all, option_map_or, ListEntry, BytesAt, Parts, TableParts, Ids, known_ids, HasList, IsStored, are_whole_from}
use Rattle.cs_merge.proofs.OldListLemmas.{whole_read}
use Rattle.cs_merge.proofs.WholeListLemmas.{whole, whole_of, one_less}
use Rattle.cs_merge.proofs.replacing.is_whole_from.Goals as goal

-- whether the list that was read is whole, and the lists after it
one_read : (model : Option (List ℕ)) (source : TableParts) (parts : Parts) (is : IsStored model source parts)
    (buffer : BytesAt) (position count : ℕ) → HasList source buffer parts position → count
    ≡ length source.entries → position < count
    → (b : Bool) → b ≡ option_map_or (λ (e : ListEntry). (known_ids source buffer e).whole)
    (slice_get source.entries position) true → are_whole_from parts position
    ≡ (b && are_whole_from parts (position + 1))
one_read model source parts is buffer position count read long less b e =
    let same = ap length is.tables_are.entries in
    let within : position < length parts.entries = omega (arith, less, long, same) in
    one_less parts position within
    ∙ ap (λ t. t && list_all (whole parts) (drop (position + 1) parts.entries))
    (sym (e ∙ whole_read model source parts is buffer position read within))

pub returns-then-not-is_whole_list-clause-whole : goal.returns-then-not-is_whole_list-clause-whole
returns-then-not-is_whole_list-clause-whole g c has parts is =
    let source = c.args.tables.now in
    let model = g.S.Store.model c.args.store.now in
    let inv = c.positions.invariant in
    let read = c.in_ok-read.ensures.list is.bytes (inv.keeps ∙ is.known) (inv.read has is.bytes is.known) parts is.tables_are in
    let one = one_read model source parts is c.read.new.self c.positions.position c.lists-position-end.result read
    c.lists-position-end.ensures c.positions-test.true c.is_whole_list.result
    (c.is_whole_list.ensures
    ∙ ap (λ list. option_map_or (λ (found : ℕ × Ids). found.1.whole) list true) c.list_at.ensures
    ∙ whole_of (known_ids source c.read.new.self) (slice_get source.entries c.positions.position)) in
    sym (sym (inv.whole has parts is) ∙ one
    ∙ ap (λ t. t && are_whole_from parts (c.positions.position + 1)) c.if-not-is_whole_list.true)

pub positions-preserved : goal.positions-preserved
positions-preserved g c = record {
  whole = λ has parts is.
      let source = c.args.tables.now in
      let model = g.S.Store.model c.args.store.now in
      let inv = c.positions.invariant in
      let read = c.in_ok-read.ensures.list is.bytes (inv.keeps ∙ is.known) (inv.read has is.bytes is.known) parts is.tables_are in
      let one = one_read model source parts is c.read.new.self c.positions.position c.lists-position-end.result read
      c.lists-position-end.ensures c.positions-test.true c.is_whole_list.result
      (c.is_whole_list.ensures
      ∙ ap (λ list. option_map_or (λ (found : ℕ × Ids). found.1.whole) list true) c.list_at.ensures
      ∙ whole_of (known_ids source c.read.new.self) (slice_get source.entries c.positions.position)) in
      ap (λ t. t && are_whole_from parts (c.positions.position + 1)) (sym c.if-not-is_whole_list.false) ∙ sym one
      ∙ inv.whole has parts is;
  read = λ has bytes known.
      let inv = c.positions.invariant in
      c.in_ok-read.ensures.bytes bytes (inv.keeps ∙ known) (inv.read has bytes known);
  keeps = search rules;
  size = search rules;
  failed = search rules;
}

pub returns-clause-whole : goal.returns-clause-whole
returns-clause-whole g c has parts is =
    let same = ap length is.tables_are.entries in
    sym (sym (c.positions.invariant.whole has parts is)
    ∙ ap (list_all (whole parts)) (drop_all c.positions.position parts.entries (let past = c.positions-test.false in
    omega (arith, past, c.lists-position-end.ensures, same))))
