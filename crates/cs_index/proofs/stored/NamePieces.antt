-- Pieces of a store's bytes, and the strings in them.
use Rattle.std.proofs.Common.{◌≡◌, ℕ, ◌+◌, ◌-◌, ◌*◌, ◌<◌, ◌≤◌, List, [], ◌∷◌, ◌++◌, length, take, drop, Option, None, Some, Result, refl, sym, ap, subst, ◌∙◌, arith, append_assoc, length-append, length-drop, length-take, slice_get}
use Rattle.std.proofs.lemmas.List.{drop-append-le, drop-drop, take-append-drop}
use Rattle.std.specs.Option.{IfNone}
use Rattle.std.specs.Result.{IsOkAnd}
use Rattle.cs_tree.specs.Store.{part_of}
use Rattle.cs_index.specs.Encoding.{with_nul}
use Rattle.cs_index.specs.NameReading.{name_section, HasName, IsName, ReadsNames}
use Rattle.cs_index.specs.OpenedParts.{Parts}
use Rattle.cs_index.specs.Opening.{is_name_index, number_at, texts_of}
use Rattle.cs_index.specs.Windows.{IsPiece, StandsAt}
use Rattle.cs_index.specs.Stored.{StandsIn, StoredParts, sections_at}
use Rattle.cs_index.specs.StoredOpening.{AreAscendingOffsets}
use Rattle.cs_index.specs.declared.fault.IndexFault.{IndexFault}
use Rattle.cs_index.specs.declared.reading.name_reader.NameReader.{NameReader}
use Rattle.cs_index.specs.declared.reading.window.Window.{Window}
use Rattle.cs_index.specs.declared.reading.section_offsets.SectionOffsets.{SectionOffsets}
use Rattle.cs_index.proofs.decoding.DecodableBytesOpen.{pass_from, rise_from}
use Rattle.cs_index.proofs.decoding.IndexFields.{offsets_long}
use Rattle.cs_index.proofs.decoding.NameOffsets.{name_stands, NameStands}
use Rattle.cs_index.proofs.stored.ListPieces.{left_after}
use Rattle.cs_index.proofs.stored.SectionReads.{stands_read}
use Rattle.cs_index.proofs.stored.StoredEntries.{number_part}

-- the bytes of the piece from an offset on
pub part_prefix : (bytes : List ℕ) (p : Window) (at : ℕ) → IsPiece bytes p → p.start ≤ at → at ≤ p.start
    + length p.piece.items → drop (at - p.start) p.piece.items ≡ take (p.start + length p.piece.items - at)
    (drop at bytes)
part_prefix bytes p at is from within =
    let len : ℕ = length p.piece.items in
    let there : p.start + (at - p.start) ≡ at = omega (arith, from) in
    ap (drop (at - p.start)) is
    ∙ ap (λ n. drop (at - p.start) (take n (drop p.start bytes))) (let z : len ≡ p.start + len - p.start = omega arith in z)
    ∙ sym (left_after bytes p.start (p.start + len) (at - p.start) (omega (arith, from, within)))
    ∙ ap (λ n. take (p.start + len - n) (drop n bytes)) there

pub string_part : (bytes part text : List ℕ) (p : Window) (at end : ℕ) → IsPiece bytes p → p.start ≤ at → at ≤ p.start
    + length p.piece.items → part ≡ drop (at - p.start) p.piece.items → (stands : StandsAt bytes at end text) →
    part ≡ take (p.start + length p.piece.items - at) (with_nul text ++ stands.more)
string_part bytes part text p at end is from within part_is stands =
    part_is ∙ part_prefix bytes p at is from within ∙ ap (take (p.start + length p.piece.items - at)) stands.there

pub if_none : {X : Type 0} {P : Type 0} (o : Option X) → ((x : X) → o ≡ Some x → ⊥) → IfNone o P → P
if_none None not p = p
if_none (Some x) not p = absurd (not x refl)

-- what is said of a name, if there is one
pub named : (found : Option (List ℕ)) (answer : Result (Unit {0}) IndexFault) (reader : NameReader) →
    ((name : List ℕ) → found ≡ Some name → IsOkAnd answer (λ _. HasName reader name)) → IsName found answer reader
named None answer reader so = tt
named (Some name) answer reader so = so name refl

-- ---- the names of a reader

module _ (bytes : List ℕ) (parts : Parts) (reader : NameReader) (reads : ReadsNames bytes parts reader) (id : ℕ)
    (below : id < reader.name_count) where
  abbrev section : List ℕ
  section = name_section bytes reader

  abbrev table : List ℕ
  table = part_of bytes reader.name_index (4 * (reader.name_count + 1))

  counted : reader.name_count ≡ length (texts_of section)
  counted = reads.count ∙ ap (λ (ns : List (List ℕ)). length ns) reads.names

  pub offset_within : reader.name_index + 4 * id + 4 ≤ length bytes
  offset_within =
      let long = offsets_long table (texts_of section) reads.offsets in
      let t = length-take (4 * (reader.name_count + 1)) (drop reader.name_index bytes) in
      let d = length-drop reader.name_index bytes in
      let n = counted in
      omega (arith, long, t, d, n, below)

  pub stands_there : (offset : ℕ) (name : List ℕ) → offset ≡ number_at bytes (reader.name_index + 4 * id) →
      slice_get parts.names id ≡ Some name → StandsAt bytes (reader.start + offset) reader.end name
  stands_there offset name is named =
      let n = counted in
      let same : number_at table (4 * id) ≡ offset = number_part bytes reader.name_index (4 * (reader.name_count + 1))
      (4 * id) (omega (arith, below)) ∙ sym is in
      let stands = name_stands section table id name reads.formed reads.offsets (omega (arith, n, below))
      (ap (λ (ns : List (List ℕ)). slice_get ns id) (sym reads.names) ∙ named) in
      lift offset name (subst (λ k. NameStands section k name) same stands)
    where
      lift : (offset : ℕ) (name : List ℕ) → NameStands section offset name → StandsAt bytes (reader.start + offset) reader.end name
      lift offset name stands =
          let room : ℕ = reader.end - reader.start in
          let all : List ℕ = drop reader.start bytes in
          let l = ap length stands.there in
          let a = length-append (with_nul name) stands.more in
          let w = length-append name (0 ∷ []) in
          let d = length-drop offset section in
          let t = length-take room all in
          let inside = stands.within in
          record {
            more = stands.more ++ drop room all;
            there = sym (drop-drop offset reader.start bytes) ∙ ap (drop offset) (sym (take-append-drop room all))
                ∙ drop-append-le offset section (drop room all) inside
                ∙ ap (λ bs. bs ++ drop room all) stands.there ∙ append_assoc (with_nul name) stands.more (drop room all);
            string = stands.string;
            within = omega (arith, l, a, w, d, t, inside);
            ends = reads.within;
          }

-- the reader of a stored index
pub reads_names : (bytes : List ℕ) (parts : Parts) (stored : StoredParts) (offsets names : Window) (at len : ℕ) →
    AreAscendingOffsets stored.starts → StandsIn bytes stored parts → IsPiece bytes offsets → IsPiece bytes names
    → ReadsNames bytes parts (record {
      start = stored.starts.names;
      end = stored.starts.postings;
      name_index =
          stored.starts.name_index;
      name_count = stored.name_count;
      offsets = offsets;
      names = names;
      at = at;
      len = len;
    })
reads_names bytes parts stored offsets names at len order stands one two =
    let s : SectionOffsets = stored.starts in
    let passed = pass_from (sections_at bytes s) parts (stands_read bytes stored parts stands) in
    let rise = rise_from s.paths s.names s.postings s.name_index s.list_index s.trailer order.order in
    let section : List ℕ = part_of bytes s.names (s.postings - s.names) in
    let table : List ℕ = part_of bytes s.name_index (s.list_index - s.name_index) in
    let long = offsets_long table (texts_of section) passed.name_index in
    let t = length-take (s.list_index - s.name_index) (drop s.name_index bytes) in
    let d = length-drop s.name_index bytes in
    let w = stands.within in
    let are : parts.names ≡ texts_of section = sym (ap (λ (p : Parts). p.names) passed.are) in
    let counted : stored.name_count ≡ length (texts_of section) = stands.names ∙ ap (λ (ns : List (List ℕ)). length ns) are in
    let room : 4 * (stored.name_count + 1) ≡ s.list_index - s.name_index = omega (arith, long, t, d, w, counted, rise.de, rise.ea) in
    record {
      formed = passed.names;
      offsets = ap (λ n. is_name_index (part_of bytes s.name_index n) (texts_of section)) room ∙ passed.name_index;
      names = are;
      count = stands.names;
      within = omega (arith, w, rise.cd, rise.de, rise.ea);
      offset_piece = one;
      name_piece = two;
    }

-- a reader with other pieces
pub reads_on : (bytes : List ℕ) (parts : Parts) (reader : NameReader) → ReadsNames bytes parts reader →
    (offsets names : Window) (at len : ℕ) → IsPiece bytes offsets → IsPiece bytes names
    → ReadsNames bytes parts (record reader { offsets = offsets; names = names; at = at; len = len })
reads_on bytes parts reader reads offsets names at len one two = record {
  formed = reads.formed;
  offsets = reads.offsets;
  names = reads.names;
  count = reads.count;
  within = reads.within;
  offset_piece = one;
  name_piece = two;
}
