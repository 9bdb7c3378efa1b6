-- Bytes fail a test of opening exactly if the part that it tests is missing.
use Rattle.std.proofs.Common.{◌≡◌, ℕ, ◌-◌, ◌<◌, ◌^◌, Bool, true, false, not, cond, ◌&&◌, eqb, ltb, leb, List, [], ◌∷◌, ◌++◌, length, map, take, drop, Result, Ok, Err, refl, sym, ap, subst, ◌∙◌, ◌⊎◌, inl, inr, arith, length-append}
use Rattle.std.proofs.lemmas.Bool.{true≢false, and_parts, and_from, leb-true, le-leb, ltb-true, lt-ltb, false_from_ne_true}
use Rattle.std.proofs.lemmas.List.{take_at, drop_at, take-append-drop}
use Rattle.std.specs.List.{starts_with, ends_with, concat}
use Rattle.std.specs.Cmp.Lexicographic.{bytes_decides}
use Rattle.std.specs.Prelude.{IfOk, IfErr}
use Rattle.cs_tree.specs.ByteList.{AreBytes}
use Rattle.cs_index.specs.Encoding.{with_nul, SectionBytes, section_list, trailer, magic, trailer_magic, ListEntry}
use Rattle.cs_index.specs.Opening.{is_names_section, split_before, split_of, entries_in, has_trailer, is_list_index, is_name_index, is_section, opening, parts_of, read_sections, texts_of}
use Rattle.cs_index.specs.ValidSections.{read_split}
use Rattle.cs_index.specs.OpenedParts.{Parts}
use Rattle.cs_index.specs.Failing.{HasMagic, HasTrailer, HasPaths, Fails}
use Rattle.cs_index.specs.Decoding.{IsLayout, AreEntries, AreNames, AreOffsets, AreStrings, DecodesAs}
use Rattle.cs_index.specs.declared.fault.IndexFault.{IndexFault}
use Rattle.cs_index.specs.declared.fault.IndexFault.TheVariants.{BadMagic, BadTrailer, BadOffsets, BadPaths, BadNames, BadNameIndex, BadListIndex, BadList, Memory}
use Rattle.cs_index.proofs.decoding.DecodingIsUnique.{lengths}
use Rattle.cs_index.proofs.postings.ListAtEntry.{Small, small_bytes}
use Rattle.cs_index.proofs.decoding.StringSections.{section_read}
use Rattle.cs_index.proofs.decoding.IndexFields.{split_ended, no_magic, no_trailer}
use Rattle.cs_index.proofs.decoding.DecodableBytesOpen.{split_decoded, split_from, names_read, offsets_read, list_index_read, list_index_decoded, opened_decodes, test_passed, paths_tested, names_tested, texts_are, few_bytes, offsets_tested}

-- ---- one test

failed : {X : Type 0} (b : Bool) (f g : IndexFault) (r : Result X IndexFault) → cond (not b) (Err f) r ≡ Err g →
    ((b ≡ false) × (f ≡ g)) ⊎ ((b ≡ true) × (r ≡ Err g))
failed true f g r h = inr (refl, h)
failed false f g r h = let same : f ≡ g = cc in inl (refl, same)

refused : {X : Type 0} (b : Bool) (f g : IndexFault) (x : X) → cond b (Ok x) (Err f) ≡ Err g → f ≡ g
refused true f g x h = cc
refused false f g x h = cc

fails_here : {X : Type 0} (b : Bool) (f : IndexFault) (r : Result X IndexFault) → b ≡ false → cond (not b) (Err f) r ≡ Err f
fails_here b f r h = ap (λ t. cond (not t) (Err f) r) h

goes_on : {X : Type 0} (b : Bool) (f : IndexFault) (r : Result X IndexFault) → b ≡ true → cond (not b) (Err f) r ≡ r
goes_on b f r h = ap (λ t. cond (not t) (Err f) r) h

-- ---- what each test means

magic_there : (bytes : List ℕ) → starts_with eqb bytes magic ≡ true → HasMagic bytes
magic_there bytes h = (
  drop 16 bytes,
  sym (take-append-drop 16 bytes) ∙ ap (λ prefix. prefix ++ drop 16 bytes)
      (sym ((bytes_decides magic (take 16 bytes)).0 h)),
)

magic_tested : (bytes : List ℕ) → HasMagic bytes → starts_with eqb bytes magic ≡ true
magic_tested bytes has = (bytes_decides magic (take 16 bytes)).1 (sym (ap (take 16) has.1 ∙ take_at magic has.0 16 refl))

trailer_there : (bytes : List ℕ) → has_trailer bytes ≡ true → HasTrailer bytes
trailer_there bytes h =
    let room = and_parts (leb 52 (length bytes)) (ltb (length bytes) 4294967296 && ends_with eqb bytes trailer_magic) h in
    let short = and_parts (ltb (length bytes) 4294967296) (ends_with eqb bytes trailer_magic) room.1 in
    let n : ℕ = length bytes - 16 in
    record {
      prefix = take n bytes;
      ends = sym (take-append-drop n bytes) ∙ ap (λ back. take n bytes ++ back)
          (sym ((bytes_decides trailer_magic (drop n bytes)).0 short.1));
      room = leb-true 52 (length bytes) room.0;
      short = ltb-true (length bytes) 4294967296 short.0;
    }

trailer_tested : (bytes : List ℕ) → HasTrailer bytes → has_trailer bytes ≡ true
trailer_tested bytes has =
    let n : ℕ = length bytes - 16 in
    let long : length has.prefix ≡ n = let a = ap length has.ends in let b = length-append has.prefix trailer_magic in
    omega (arith, a, b) in
    and_from (leb 52 (length bytes)) _ (le-leb 52 (length bytes) has.room)
    (and_from (ltb (length bytes) 4294967296) _ (lt-ltb (length bytes) 4294967296 has.short)
    ((bytes_decides trailer_magic (drop n bytes)).1 (sym (ap (drop n) has.ends ∙ drop_at has.prefix trailer_magic n long))))

-- ---- sections

split_so : (bytes : List ℕ) (s : SectionBytes) → IsLayout bytes s → split_of bytes ≡ Ok s
split_so bytes s are = ap split_of are.bytes_are ∙ split_decoded s (subst (λ (b : List ℕ). length b < 2 ^ 32) are.bytes_are are.short)

short_names : (bytes : List ℕ) (s : SectionBytes) → IsLayout bytes s → length s.names < 2 ^ 32
short_names bytes s are = let l = lengths s in let a = ap length are.bytes_are in let b = are.short in
    omega (arith, a, b, l.whole, l.bytes_are)

layout_from : (bytes : List ℕ) (s : SectionBytes) → Small bytes → split_of bytes ≡ Ok s → IsLayout bytes s
layout_from bytes s small is = let slices = split_from bytes s small is in record { bytes_are = slices.bytes_are; short = slices.short }

-- ---- a failed test means a missing part

fails_split : (bytes : List ℕ) (fault : IndexFault) → split_of bytes ≡ Err fault → Fails bytes fault
unfolding split_of
fails_split bytes fault h = elim (failed (starts_with eqb bytes magic) BadMagic fault (split_ended bytes) h) [
  | inl first ↦ subst (Fails bytes) first.1 (λ has. true≢false (sym (magic_tested bytes has) ∙ first.0))
  | inr begun ↦ elim (failed (has_trailer bytes) BadTrailer fault (split_before bytes (length bytes - 36)) begun.1) [
    | inl second ↦ subst (Fails bytes) second.1 (magic_there bytes begun.0, λ has. true≢false (sym (trailer_tested bytes has) ∙ second.0))
    | inr ended ↦
        subst (Fails bytes) (refused _ BadOffsets fault _ ended.1) (
          magic_there bytes begun.0,
          trailer_there bytes ended.0,
          λ s are. let no : Ok s ≡ Err fault = sym (split_so bytes s are) ∙ h in cc,
        )
  ]
]

module _ (bytes : List ℕ) (s : SectionBytes) (small : Small bytes) (is : split_of bytes ≡ Ok s) where
  abbrev bytes_are : IsLayout bytes s
  bytes_are = layout_from bytes s small is

  has_paths : is_section (0 ∷ []) s.paths ≡ true → HasPaths s
  has_paths h = (texts_of s.paths, section_read (0 ∷ []) s.paths h)

  bound : is_names_section s.names ≡ true → length (concat (map with_nul (texts_of s.names))) < 2 ^ 32
  bound k = few_bytes (texts_of s.names) s.names (names_read s.names k) (short_names bytes s bytes_are)

  fails_sections : (fault : IndexFault) → read_sections s ≡ Err fault → Fails bytes fault
  fails_sections fault h = elim (failed (is_section (0 ∷ []) s.paths) BadPaths fault _ h) [
    | inl first ↦ subst (Fails bytes) first.1 (s, bytes_are, λ has. true≢false (sym (paths_tested has.0 s.paths has.1) ∙ first.0))
    | inr paths ↦ elim (failed (is_names_section s.names) BadNames fault _ paths.1) [
      | inl second ↦ subst (Fails bytes) second.1
          (s, bytes_are, (has_paths paths.0, λ names are. true≢false (sym (names_tested names s.names are) ∙ second.0)))
      | inr names ↦ elim (failed (is_name_index s.name_index (texts_of s.names)) BadNameIndex fault _ names.1) [
        | inl third ↦ subst (Fails bytes) third.1 (
          s,
          bytes_are,
          (
            has_paths paths.0,
            texts_of s.names,
            names_read s.names names.0,
            λ are. true≢false (sym (offsets_tested (texts_of s.names) s.name_index (bound names.0) are) ∙ third.0),
          ),
        )
        | inr offsets ↦ elim (failed (is_list_index (length s.postings) s.list_index) BadListIndex fault (Ok (parts_of s)) offsets.1) [
          | inl fourth ↦
              subst (Fails bytes) fourth.1 (
                s,
                bytes_are,
                (
                  has_paths paths.0,
                  texts_of s.names,
                  names_read s.names names.0,
                  offsets_read s.name_index (texts_of s.names) (split_from bytes s small is).name_index offsets.0,
                  λ entries are. true≢false (sym (list_index_decoded s.postings s.list_index entries are) ∙ fourth.0),
                ),
              )
          | inr entries ↦ let no : Ok (parts_of s) ≡ Err fault = entries.1 in cc
        ]
      ]
    ]
  ]

pub fails_so : (bytes : List ℕ) (fault : IndexFault) → AreBytes bytes → opening bytes ≡ Err fault → Fails bytes fault
unfolding opening
fails_so bytes fault are h = from_cut (split_of bytes) refl h
  where
    from_cut : (r : Result SectionBytes IndexFault) → split_of bytes ≡ r → read_split r ≡ Err fault → Fails bytes fault
    from_cut (Ok s) is read = fails_sections bytes s (small_bytes bytes are) is fault read
    from_cut (Err f) is read = let same : f ≡ fault = cc in fails_split bytes fault (is ∙ ap Err same)

-- ---- a missing part fails its test

-- the bytes split, but not into these sections
no_offsets : (bytes : List ℕ) → Small bytes → HasMagic bytes → HasTrailer bytes →
    ((s : SectionBytes) → ¬ (IsLayout bytes s)) → split_of bytes ≡ Err BadOffsets
unfolding split_of
no_offsets bytes small begun ended none = by_split (split_of bytes) refl
  where
    by_split : (r : Result SectionBytes IndexFault) → split_of bytes ≡ r → r ≡ Err BadOffsets
    by_split (Ok s) is = absurd (none s (layout_from bytes s small is))
    by_split (Err fault) is = elim (failed (starts_with eqb bytes magic) BadMagic fault (split_ended bytes) is) [
      | inl first ↦ absurd (true≢false (sym (magic_tested bytes begun) ∙ first.0))
      | inr more ↦ elim (failed (has_trailer bytes) BadTrailer fault (split_before bytes (length bytes - 36)) more.1) [
        | inl second ↦ absurd (true≢false (sym (trailer_tested bytes ended) ∙ second.0))
        | inr last ↦ ap Err (sym (refused _ BadOffsets fault _ last.1))
      ]
    ]

module _ (bytes : List ℕ) (small : Small bytes) (s : SectionBytes) (are : IsLayout bytes s) where
  opens_as : opening bytes ≡ read_sections s
  unfolding opening
  opens_as = ap read_split (split_so bytes s are)

  -- the result from each test on
  abbrev from_lists : Result Parts IndexFault
  from_lists = cond (not (is_list_index (length s.postings) s.list_index)) (Err BadListIndex) (Ok (parts_of s))

  abbrev from_offsets : Result Parts IndexFault
  from_offsets = cond (not (is_name_index s.name_index (texts_of s.names))) (Err BadNameIndex) from_lists

  abbrev from_names : Result Parts IndexFault
  from_names = cond (not (is_names_section s.names)) (Err BadNames) from_offsets

  past_paths : (paths : List (List ℕ)) → AreStrings (0 ∷ []) paths s.paths → read_sections s ≡ from_names
  past_paths paths there = goes_on (is_section (0 ∷ []) s.paths) BadPaths from_names (paths_tested paths s.paths there)

  past_names : (paths names : List (List ℕ)) → AreStrings (0 ∷ []) paths s.paths → AreNames names s.names → read_sections s ≡ from_offsets
  past_names paths names there named = past_paths paths there ∙ goes_on (is_names_section s.names) BadNames from_offsets
      (names_tested names s.names named)

  no_paths : ((paths : List (List ℕ)) → ¬ (AreStrings (0 ∷ []) paths s.paths)) → opening bytes ≡ Err BadPaths
  no_paths none = opens_as ∙ fails_here (is_section (0 ∷ []) s.paths) BadPaths from_names
      (false_from_ne_true _ (λ t. none (texts_of s.paths) (section_read (0 ∷ []) s.paths t)))

  no_names : (paths : List (List ℕ)) → AreStrings (0 ∷ []) paths s.paths →
      ((names : List (List ℕ)) → ¬ (AreNames names s.names)) → opening bytes ≡ Err BadNames
  no_names paths there none = opens_as ∙ past_paths paths there ∙ fails_here (is_names_section s.names) BadNames
      from_offsets (false_from_ne_true _ (λ t. none (texts_of s.names) (names_read s.names t)))

  module _ (paths names : List (List ℕ)) (there : AreStrings (0 ∷ []) paths s.paths) (named : AreNames names s.names) where
    same_names : texts_of s.names ≡ names
    same_names = texts_are names s.names named

    no_name_index : ¬ (AreOffsets names s.name_index) → opening bytes ≡ Err BadNameIndex
    no_name_index none =
        opens_as ∙ past_names paths names there named
        ∙ fails_here (is_name_index s.name_index (texts_of s.names)) BadNameIndex from_lists
        (false_from_ne_true _ (λ t. none (subst (λ (ns : List (List ℕ)). AreOffsets ns s.name_index) same_names
        (offsets_read s.name_index (texts_of s.names) (split_from bytes s small (split_so bytes s are)).name_index t))))

    no_list_index : AreOffsets names s.name_index →
        ((entries : List ListEntry) → ¬ (AreEntries s.postings entries s.list_index)) → opening bytes ≡ Err BadListIndex
    no_list_index offsets none =
        opens_as ∙ past_names paths names there named
        ∙ goes_on (is_name_index s.name_index (texts_of s.names)) BadNameIndex from_lists
        (ap (is_name_index s.name_index) same_names
        ∙ offsets_tested names s.name_index (few_bytes names s.names named (short_names bytes s are)) offsets)
        ∙ fails_here (is_list_index (length s.postings) s.list_index) BadListIndex (Ok (parts_of s))
        (false_from_ne_true _ (λ t. none (entries_in s.list_index)
        (list_index_read s.postings s.list_index (split_from bytes s small (split_so bytes s are)).list_index t)))

pub so_fails : (bytes : List ℕ) (fault : IndexFault) → AreBytes bytes → Fails bytes fault → opening bytes ≡ Err fault
unfolding opening
so_fails bytes BadMagic are none = ap read_split (no_magic bytes (false_from_ne_true _ (λ t. none (magic_there bytes t))))
so_fails bytes BadTrailer are h = ap read_split
    (no_trailer bytes (magic_tested bytes h.0) (false_from_ne_true _ (λ t. h.1 (trailer_there bytes t))))
so_fails bytes BadOffsets are h = ap read_split (no_offsets bytes (small_bytes bytes are) h.0 h.1 h.2)
so_fails bytes BadPaths are h = no_paths bytes (small_bytes bytes are) h.0 h.1 (λ paths there. h.2 (paths, there))
so_fails bytes BadNames are h = no_names bytes (small_bytes bytes are) h.0 h.1 h.2.0.0 h.2.0.1 h.2.1
so_fails bytes BadNameIndex are h = no_name_index bytes (small_bytes bytes are) h.0 h.1 h.2.0.0 h.2.1 h.2.0.1 h.2.2 h.2.3
so_fails bytes BadListIndex are h = no_list_index bytes (small_bytes bytes are) h.0 h.1 h.2.0.0 h.2.1 h.2.0.1 h.2.2 h.2.3 h.2.4
so_fails bytes BadList are h = absurd h.2
so_fails bytes Memory are h = absurd h.2

-- ---- bytes that decode do not fail

trailer_split : (bytes : List ℕ) (s : SectionBytes) → split_of bytes ≡ Ok s → HasTrailer bytes
unfolding split_of
trailer_split bytes s h =
    let begun = test_passed (starts_with eqb bytes magic) BadMagic (split_ended bytes) s h in
    let ended = test_passed (has_trailer bytes) BadTrailer (split_before bytes (length bytes - 36)) s begun.1 in
    trailer_there bytes ended.0

layout_once : (bytes : List ℕ) (s other : SectionBytes) → IsLayout bytes s → IsLayout bytes other → s ≡ other
layout_once bytes s other here there = ok_once (sym (split_so bytes s here) ∙ split_so bytes other there)
  where
    ok_once : ◌≡◌ {A = Result SectionBytes IndexFault} (Ok s) (Ok other) → s ≡ other
    ok_once e = cc

names_once : (names others : List (List ℕ)) (section : List ℕ) → AreNames names section → AreNames others section → names ≡ others
names_once names others section here there = sym (texts_are names section here) ∙ texts_are others section there

pub decodable_does_not_fail : (bytes : List ℕ) (parts : Parts) (fault : IndexFault) → DecodesAs bytes parts → Fails bytes fault → ⊥
decodable_does_not_fail bytes parts BadMagic decodes none =
    none (concat (section_list decodes.sections) ++ trailer decodes.sections, decodes.is_layout.bytes_are)
decodable_does_not_fail bytes parts BadTrailer decodes h =
    h.1 (trailer_split bytes decodes.sections (split_so bytes decodes.sections decodes.is_layout))
decodable_does_not_fail bytes parts BadOffsets decodes h = h.2 decodes.sections decodes.is_layout
decodable_does_not_fail bytes parts BadPaths decodes h =
    let same = layout_once bytes decodes.sections h.0 decodes.is_layout h.1 in
    h.2 (parts.paths, subst (λ (s : SectionBytes). AreStrings (0 ∷ []) parts.paths s.paths) same decodes.paths_are)
decodable_does_not_fail bytes parts BadNames decodes h =
    let same = layout_once bytes decodes.sections h.0 decodes.is_layout h.1 in
    h.2.1 parts.names (subst (λ (s : SectionBytes). AreNames parts.names s.names) same decodes.names_are)
decodable_does_not_fail bytes parts BadNameIndex decodes h =
    let same = layout_once bytes decodes.sections h.0 decodes.is_layout h.1 in
    let named = names_once parts.names h.2.1 h.0.names
    (subst (λ (s : SectionBytes). AreNames parts.names s.names) same decodes.names_are) h.2.2 in
    h.2.3 (subst (λ (ns : List (List ℕ)). AreOffsets ns h.0.name_index) named
    (subst (λ (s : SectionBytes). AreOffsets parts.names s.name_index) same decodes.name_index_is))
decodable_does_not_fail bytes parts BadListIndex decodes h =
    let same = layout_once bytes decodes.sections h.0 decodes.is_layout h.1 in
    h.2.4 parts.entries (subst (λ (s : SectionBytes). AreEntries s.postings parts.entries s.list_index) same decodes.list_index_is)
decodable_does_not_fail bytes parts BadList decodes h = h.2
decodable_does_not_fail bytes parts Memory decodes h = h.2

-- ---- what an answer says of the bytes

pub decodes_if_ok : (bytes : List ℕ) (answer : Result Parts IndexFault) → AreBytes bytes → answer ≡ opening bytes →
    IfOk answer (DecodesAs bytes)
decodes_if_ok bytes (Ok parts) are is = opened_decodes bytes parts are (sym is)
decodes_if_ok bytes (Err fault) are is = tt

pub fails_if_err : (bytes : List ℕ) (answer : Result Parts IndexFault) → AreBytes bytes → answer ≡ opening bytes →
    IfErr answer (Fails bytes)
fails_if_err bytes (Ok parts) are is = tt
fails_if_err bytes (Err fault) are is = fails_so bytes fault are (sym is)
