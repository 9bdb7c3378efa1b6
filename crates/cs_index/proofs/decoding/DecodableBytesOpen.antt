-- Bytes open exactly if they decode as an index.
use Rattle.std.proofs.Common.{◌≡◌, ℕ, zero, suc, ◌+◌, ◌-◌, ◌*◌, ◌/◌, ◌%◌, ◌<◌, ◌≤◌, ◌^◌, Bool, true, false, not, cond, ◌&&◌, ◌||◌, eqb, ltb, leb, List, [], ◌∷◌, ◌++◌, length, map, take, drop, get_or, Result, Ok, Err, refl, sym, ap, subst, ◌∙◌, ◌⊎◌, inl, inr, arith, append_assoc, length-append, length-drop, length-take}
use Rattle.cs_tree.specs.ByteList.{AreBytes}
use Rattle.cs_index.specs.Decoding.{AreEntries, AreNames, AreOffsets, AreStrings, DecodesAs, IsEntry}
use Rattle.cs_trigram.specs.Trigram.{Ascends}
use Rattle.std.proofs.lemmas.Bool.{or_cases, or_left, or_right, and_parts, and_from, cases_lt, eqb-true, eq-eqb, leb-true, le-leb, ltb-true, lt-ltb}
use Rattle.std.proofs.lemmas.List.{take_at, drop_at, append-nil, drop_all, length-map}
use Rattle.std.proofs.lemmas.List.Folds.{drop_split}
use Rattle.std.specs.Prelude.{flat_map, slice_range, bytes_eq}
use Rattle.std.specs.List.{AllByRecursion, list_all, starts_with, ends_with, concat}
use Rattle.std.specs.Cmp.Lexicographic.{bytes_decides}
use Rattle.cs_index.specs.declared.fault.IndexFault.{IndexFault}
use Rattle.cs_index.specs.declared.fault.IndexFault.TheVariants.{BadMagic, BadTrailer, BadOffsets, BadPaths, BadNames, BadNameIndex, BadListIndex}
use Rattle.cs_index.specs.Encoding.{four_bytes, with_nul, starts_from, section_list, SectionBytes, magic, trailer, trailer_magic, layout, ListEntry, entry_bytes, name_offsets}
use Rattle.cs_index.proofs.decoding.IndexFields.{split_ended, split_there, offsets_long}
use Rattle.cs_index.specs.Opening.{are_section_offsets, split_at_offsets, split_before, split_of, entries_from, entries_in, entry_at, has_trailer, is_entry, is_list_index, is_name_index, is_section, number_at, numbers_from, opening, parts_of, read_sections, rises, texts_of, is_names_section}
use Rattle.cs_index.specs.ValidSections.{read_split}
use Rattle.cs_index.specs.OpenedParts.{Parts}
use Rattle.cs_index.proofs.decoding.DecodingIsUnique.{lengths, names_tail, small_trigram, starts_fit}
use Rattle.cs_index.proofs.encoding.FixedWidthFields.{Fits, entries_back, entries_written, length-entries, length-fours, number_small, numbers_back, numbers_written, slice_written, slice_small}
use Rattle.cs_index.proofs.postings.ListAtEntry.{Small, small_bytes, trigram_small}
use Rattle.cs_index.proofs.writer.StringsPush.{length-starts_from}
use Rattle.cs_index.proofs.decoding.StringSections.{formed_decoded, section_read, section_decoded, texts_decoded}

-- ---- a layout splits into its sections

split_sections : (bytes : List ℕ) (a b c d e at : ℕ) (s : SectionBytes) → are_section_offsets a b c d e at ≡ true →
    slice_range bytes a b ≡ s.paths → slice_range bytes b c ≡ s.names → slice_range bytes c d ≡ s.postings →
    slice_range bytes d e ≡ s.name_index → slice_range bytes e at ≡ s.list_index → split_at_offsets bytes a b c d e at
    ≡ Ok s
split_sections bytes a b c d e at s starts paths names postings name_index list_index =
    (λ i. cond (starts i) (Ok (record {
      paths = paths i;
      names = names i;
      postings = postings i;
      name_index =
          name_index i;
      list_index = list_index i;
    })) (Err BadOffsets))

rising : (a b c d e at : ℕ) → a ≡ 16 → a ≤ b → b ≤ c → c ≤ d → d ≤ e → e ≤ at → are_section_offsets a b c d e at ≡ true
rising a b c d e at first ab bc cd de ea =
    and_from (eqb a 16) _ (eq-eqb a 16 first)
    (and_from (leb a b) _ (le-leb a b ab)
    (and_from (leb b c) _ (le-leb b c bc)
    (and_from (leb c d) _ (le-leb c d cd)
    (and_from (leb d e) (leb e at) (le-leb d e de) (le-leb e at ea)))))

-- the offset of each section
starts : SectionBytes → List ℕ
starts s = starts_from 16 (section_list s)

in_a_row : (s : SectionBytes) → layout s ≡ magic ++ (s.paths ++ (s.names ++ (s.postings ++ (s.name_index ++ (s.list_index ++ trailer s)))))
in_a_row s =
    let r : List ℕ = trailer s in
    ap (λ bs. magic ++ bs) (append_assoc s.paths (s.names ++ (s.postings ++ (s.name_index ++ (s.list_index ++ [])))) r
    ∙ ap (λ bs. s.paths ++ bs) (append_assoc s.names (s.postings ++ (s.name_index ++ (s.list_index ++ []))) r
    ∙ ap (λ bs. s.names ++ bs) (append_assoc s.postings (s.name_index ++ (s.list_index ++ [])) r
    ∙ ap (λ bs. s.postings ++ bs) (append_assoc s.name_index (s.list_index ++ []) r
    ∙ ap (λ bs. s.name_index ++ bs) (append_assoc s.list_index [] r)))))

has_magic : (s : SectionBytes) → starts_with eqb (layout s) magic ≡ true
has_magic s = (bytes_decides magic (take 16 (layout s))).1 (sym (take_at magic (concat (section_list s) ++ trailer s) 16 refl))

has_end : (s : SectionBytes) → length (layout s) < 2 ^ 32 → has_trailer (layout s) ≡ true
has_end s short =
    let l = lengths s in
    let fours : List ℕ = flat_map four_bytes (starts_from 16 (section_list s)) in
    let prefix : List ℕ = magic ++ (concat (section_list s) ++ fours) in
    let whole : layout s ≡ prefix ++ trailer_magic =
    ap (λ bs. magic ++ bs) (sym (append_assoc (concat (section_list s)) fours trailer_magic)) in
    let long : length prefix ≡ length (layout s) - 16 = let a = ap length whole in let b =
    length-append prefix trailer_magic in omega (arith, a, b) in
    and_from (leb 52 (length (layout s))) _ (le-leb 52 (length (layout s)) (omega (arith, l.bytes_are)))
    (and_from (ltb (length (layout s)) 4294967296) _ (lt-ltb (length (layout s)) 4294967296 short)
    ((bytes_decides trailer_magic (drop (length (layout s) - 16) (layout s))).1
    (sym (ap (drop (length (layout s) - 16)) whole ∙ drop_at prefix trailer_magic (length (layout s) - 16) long))))

-- the numbers of the trailer
trailer_numbers : (s : SectionBytes) (at : ℕ) → length (layout s) < 2 ^ 32 → at ≡ length (layout s) - 36 →
    numbers_from (layout s) at 5 ≡ starts_from 16 (section_list s)
trailer_numbers s at short is =
    let l = lengths s in
    let prefix : List ℕ = magic ++ concat (section_list s) in
    let whole : layout s ≡ prefix ++ (flat_map four_bytes (starts_from 16 (section_list s)) ++ trailer_magic) =
    sym (append_assoc magic (concat (section_list s)) (trailer s)) in
    let position : at ≡ length prefix = let a = length-append magic (concat (section_list s)) in omega (arith, a, is, l.bytes_are) in
    (λ i. numbers_from (whole i) (position i) 5) ∙ numbers_written prefix (starts_from 16 (section_list s))
    trailer_magic (starts_fit s short)

split_layout : (s : SectionBytes) (at : ℕ) → length (layout s) < 2 ^ 32 → at ≡ length (layout s) - 36 → split_before (layout s) at ≡ Ok s
split_layout s at short is =
    let l = lengths s in
    let bytes : List ℕ = layout s in
    let numbers = trailer_numbers s at short is in
    let b : ℕ = 16 + length s.paths in
    let c : ℕ = b + length s.names in
    let d : ℕ = c + length s.postings in
    let e : ℕ = d + length s.name_index in
    let one : number_at bytes at ≡ 16 = ap (λ ns. get_or ns 0 0) numbers in
    let two : number_at bytes (at + 4) ≡ b = ap (λ ns. get_or ns 1 0) numbers in
    let three : number_at bytes (at + 8) ≡ c = ap (number_at bytes) (let z : at + 8 ≡ at + 4 + 4 = omega arith in z)
    ∙ ap (λ ns. get_or ns 2 0) numbers in
    let four : number_at bytes (at + 12) ≡ d = ap (number_at bytes) (let z : at + 12 ≡ at + 4 + 4 + 4 = omega arith in
    z) ∙ ap (λ ns. get_or ns 3 0) numbers in
    let five : number_at bytes (at + 16) ≡ e =
    ap (number_at bytes) (let z : at + 16 ≡ at + 4 + 4 + 4 + 4 = omega arith in z) ∙ ap (λ ns. get_or ns 4 0) numbers in
    let last : e + length s.list_index ≡ at = omega (arith, is, l.whole, l.bytes_are) in
    let r : List ℕ = trailer s in
    let row = in_a_row s in
    let row1 = row ∙ sym (append_assoc magic s.paths (s.names ++ (s.postings ++ (s.name_index ++ (s.list_index ++ r))))) in
    let f1 : List ℕ = magic ++ s.paths in
    let row2 = row1 ∙ sym (append_assoc f1 s.names (s.postings ++ (s.name_index ++ (s.list_index ++ r)))) in
    let f2 : List ℕ = f1 ++ s.names in
    let row3 = row2 ∙ sym (append_assoc f2 s.postings (s.name_index ++ (s.list_index ++ r))) in
    let f3 : List ℕ = f2 ++ s.postings in
    let row4 = row3 ∙ sym (append_assoc f3 s.name_index (s.list_index ++ r)) in
    let f4 : List ℕ = f3 ++ s.name_index in
    let l1 : length f1 ≡ b = length-append magic s.paths in
    let l2 : length f2 ≡ c = length-append f1 s.names ∙ ap (λ n. n + length s.names) l1 in
    let l3 : length f3 ≡ d = length-append f2 s.postings ∙ ap (λ n. n + length s.postings) l2 in
    let l4 : length f4 ≡ e = length-append f3 s.name_index ∙ ap (λ n. n + length s.name_index) l3 in
    (λ i. split_at_offsets bytes (one i) (two i) (three i) (four i) (five i) at)
    ∙ split_sections bytes 16 b c d e at s (rising 16 b c d e at refl (omega arith) (omega arith) (omega arith)
    (omega arith) (omega (arith, last)))
    (slice_written bytes magic s.paths (s.names ++ (s.postings ++ (s.name_index ++ (s.list_index ++ r)))) 16 b row refl refl)
    (slice_written bytes f1 s.names (s.postings ++ (s.name_index ++ (s.list_index ++ r))) b c row1 l1 refl)
    (slice_written bytes f2 s.postings (s.name_index ++ (s.list_index ++ r)) c d row2 l2 refl)
    (slice_written bytes f3 s.name_index (s.list_index ++ r) d e row3 l3 refl)
    (slice_written bytes f4 s.list_index r e at row4 l4 last)

pub split_decoded : (s : SectionBytes) → length (layout s) < 2 ^ 32 → split_of (layout s) ≡ Ok s
split_decoded s short = split_there (layout s) (has_magic s) (has_end s short) ∙ split_layout s (length (layout s) - 36) short refl

-- ---- sections that decode pass the tests

starts_small : (at : ℕ) (texts : List (List ℕ)) → at + length (concat (map with_nul texts)) < 2 ^ 32 →
    AllByRecursion (λ n. n < 2 ^ 32) (starts_from at (map with_nul texts))
starts_small at [] h = tt
starts_small at (text ∷ texts) h =
    let l = length-append (with_nul text) (concat (map with_nul texts)) in
    (omega (arith, h), starts_small (at + length (with_nul text)) texts (omega (arith, h, l)))

pub name_index_decoded : (names : List (List ℕ)) (last : List ℕ) → length last ≡ 4 →
    length (concat (map with_nul names)) < 2 ^ 32 → is_name_index (name_offsets names ++ last) names ≡ true
unfolding is_name_index
name_index_decoded names last four short =
    let starts : List ℕ = starts_from 0 (map with_nul names) in
    let bytes : List ℕ = flat_map four_bytes starts ++ last in
    let count : length starts ≡ length names = length-starts_from 0 (map with_nul names) ∙ length-map names with_nul in
    let numbers : numbers_from bytes 0 (length names) ≡ starts = ap (numbers_from bytes 0) (sym count)
    ∙ numbers_written [] starts last (starts_small 0 names (omega (arith, short))) in
    let long : length bytes ≡ 4 * (length names + 1) = let a = length-append (flat_map four_bytes starts) last in
    let b = length-fours starts in omega (arith, a, b, four, count) in
    and_from (eqb (length bytes) (4 * (length names + 1))) (bytes_eq (numbers_from bytes 0 (length names)) starts)
    (eq-eqb (length bytes) (4 * (length names + 1)) long)
    ((bytes_decides (numbers_from bytes 0 (length names)) starts).1 numbers)

entries_fit : (postings : List ℕ) (es : List ListEntry) → AllByRecursion (IsEntry postings) es → AllByRecursion Fits es
entries_fit postings [] all = tt
entries_fit postings (e ∷ es) all = ((small_trigram postings e all.0, all.0.count, all.0.offset), entries_fit postings es all.1)

pub entries_decoded : (postings : List ℕ) (es : List ListEntry) → AllByRecursion (IsEntry postings) es →
    entries_in (flat_map entry_bytes es) ≡ es
unfolding entries_in
entries_decoded postings es all =
    let bytes : List ℕ = flat_map entry_bytes es in
    let count : length bytes / 11 ≡ length es = let l = length-entries es in omega (arith, l) in
    (λ i. entries_from (sym (append-nil bytes) i) 0 (count i)) ∙ entries_written [] [] es (entries_fit postings es all)

ascend_decoded : (es : List ListEntry) → Ascends (map (λ (e : ListEntry). e.trigram) es) → rises es ≡ true
ascend_decoded [] up = refl
ascend_decoded (d ∷ []) up = refl
ascend_decoded (d ∷ e ∷ es) up = and_from (ltb d.trigram e.trigram) (rises (e ∷ es)) (lt-ltb d.trigram e.trigram up.0)
    (ascend_decoded (e ∷ es) up.1)

fits_tested : (g count : ℕ) → (g < 16777215) ⊎ ((g ≡ 16777215) × (count ≡ 0)) → (ltb g 16777215 || eqb count 0) ≡ true
fits_tested g count (inl below) = or_left (ltb g 16777215) (eqb count 0) (lt-ltb g 16777215 below)
fits_tested g count (inr closing) = or_right (ltb g 16777215) (eqb count 0) (eq-eqb count 0 closing.1)

all_entries : (postings : List ℕ) (es : List ListEntry) → AllByRecursion (IsEntry postings) es →
    list_all (is_entry (length postings)) es ≡ true
all_entries postings [] all = refl
all_entries postings (e ∷ es) all =
    and_from (is_entry (length postings) e) (list_all (is_entry (length postings)) es)
    (and_from (leb (e.offset + 4) (length postings)) (ltb e.trigram 16777215 || eqb e.count 0)
    (le-leb (e.offset + 4) (length postings) all.0.room)
    (fits_tested e.trigram e.count all.0.trigram))
    (all_entries postings es all.1)

pub list_index_decoded : (postings list_index : List ℕ) (es : List ListEntry) → AreEntries postings es list_index →
    is_list_index (length postings) list_index ≡ true
unfolding is_list_index
list_index_decoded postings list_index es are =
    let entries : entries_in list_index ≡ es = ap entries_in are.2 ∙ entries_decoded postings es are.0 in
    let long : length list_index % 11 ≡ 0 = let a = ap length are.2 in let b = length-entries es in omega (arith, a, b) in
    and_from (eqb (length list_index % 11) 0) (rises (entries_in list_index) && list_all (is_entry (length postings))
    (entries_in list_index)) (eq-eqb (length list_index % 11) 0 long)
    (and_from (rises (entries_in list_index)) (list_all (is_entry (length postings)) (entries_in list_index))
    (ap rises entries ∙ ascend_decoded es are.1) (ap (list_all (is_entry (length postings))) entries
    ∙ all_entries postings es are.0))

pub paths_tested : (paths : List (List ℕ)) (section : List ℕ) → AreStrings (0 ∷ []) paths section → is_section (0 ∷ []) section ≡ true
paths_tested paths section are = ap (is_section (0 ∷ [])) are.1 ∙ section_decoded paths (0 ∷ []) are.0 (inr refl)

pub names_tested : (names : List (List ℕ)) (section : List ℕ) → AreNames names section → is_names_section section ≡ true
names_tested names section are =
    let tail = names_tail section names are in
    ap is_names_section tail.1.1 ∙ formed_decoded names tail.0 tail.1.0 tail.2

pub texts_are : (names : List (List ℕ)) (section : List ℕ) → AreNames names section → texts_of section ≡ names
texts_are names section are =
    let tail = names_tail section names are in
    ap texts_of tail.1.1 ∙ texts_decoded names tail.0 tail.1.0 tail.2

pub few_bytes : (names : List (List ℕ)) (section : List ℕ) → AreNames names section → length section < 2 ^ 32 →
    length (concat (map with_nul names)) < 2 ^ 32
few_bytes names section are short =
    let tail = names_tail section names are in
    let a = ap length tail.1.1 in
    let b = length-append (concat (map with_nul names)) tail.0 in
    omega (arith, a, b, short)

pub offsets_tested : (names : List (List ℕ)) (section : List ℕ) → length (concat (map with_nul names)) < 2 ^ 32 →
    AreOffsets names section → is_name_index section names ≡ true
offsets_tested names section bound are = ap (λ bytes. is_name_index bytes names) are.2 ∙ name_index_decoded names are.0 are.1 bound

-- every test passes
all_tests : (s : SectionBytes) (parts : Parts) → is_section (0 ∷ []) s.paths ≡ true →
    (is_section (0 ∷ []) s.names || is_section [] s.names) ≡ true → is_name_index s.name_index (texts_of s.names)
    ≡ true → is_list_index (length s.postings) s.list_index ≡ true → parts_of s ≡ parts → read_sections s ≡ Ok parts
all_tests s parts paths names name_index list_index is =
    (λ i. cond (not (paths i)) (Err BadPaths)
    (cond (not (names i)) (Err BadNames)
    (cond (not (name_index i)) (Err BadNameIndex)
    (cond (not (list_index i)) (Err BadListIndex) (Ok (is i))))))

opens_sections : (s : SectionBytes) (parts : Parts) → s.postings ≡ parts.postings →
    AreStrings (0 ∷ []) parts.paths s.paths → AreNames parts.names s.names → AreOffsets parts.names s.name_index →
    AreEntries s.postings parts.entries s.list_index → length s.names < 2 ^ 32 → read_sections s ≡ Ok parts
opens_sections s parts postings paths names offsets lists short =
    let texts : texts_of s.names ≡ parts.names = texts_are parts.names s.names names in
    let path_texts : texts_of s.paths ≡ parts.paths = ap texts_of paths.1 ∙ texts_decoded parts.paths (0 ∷ []) paths.0 (inr refl) in
    let entries : entries_in s.list_index ≡ parts.entries = ap entries_in lists.2 ∙ entries_decoded s.postings parts.entries lists.0 in
    all_tests s parts (paths_tested parts.paths s.paths paths) (names_tested parts.names s.names names)
    (ap (is_name_index s.name_index) texts ∙ offsets_tested parts.names s.name_index (few_bytes parts.names s.names names short) offsets)
    (list_index_decoded s.postings s.list_index parts.entries lists)
    (λ i. record { paths = path_texts i; names = texts i; entries = entries i; postings = postings i })

-- bytes that decode split into the sections of the decoding, and these open as its parts
pub split_as_decoded : (bytes : List ℕ) (parts : Parts) (decodes : DecodesAs bytes parts) →
    (split_of bytes ≡ Ok decodes.sections) × (read_sections decodes.sections ≡ Ok parts)
split_as_decoded bytes parts decodes =
    let s : SectionBytes = decodes.sections in
    let are = decodes.is_layout in
    let short : length (layout s) < 2 ^ 32 = subst (λ (bs : List ℕ). length bs < 2 ^ 32) are.bytes_are are.short in
    let l = lengths s in (
      ap split_of are.bytes_are ∙ split_decoded s short,
      opens_sections s parts decodes.postings_are decodes.paths_are decodes.names_are
          decodes.name_index_is decodes.list_index_is (omega (arith, l.whole, l.bytes_are, short)),
    )

pub opens_as_decoded : (bytes : List ℕ) (parts : Parts) → DecodesAs bytes parts → opening bytes ≡ Ok parts
unfolding opening
opens_as_decoded bytes parts decodes = let both = split_as_decoded bytes parts decodes in ap read_split both.0 ∙ both.1

-- ---- what opens is a layout

-- a test that passed
pub test_passed : {X : Type 0} (b : Bool) (f : IndexFault) (r : Result X IndexFault) (x : X) → cond (not b) (Err f) r
    ≡ Ok x → (b ≡ true) × (r ≡ Ok x)
test_passed true f r x h = (refl, h)
test_passed false f r x h = cc

granted : {X : Type 0} (b : Bool) (f : IndexFault) (r : Result X IndexFault) (x : X) → cond b r (Err f) ≡ Ok x → (b ≡ true) × (r ≡ Ok x)
granted true f r x h = (refl, h)
granted false f r x h = cc

slice_length : (bytes : List ℕ) (a b : ℕ) → b ≤ length bytes → length (slice_range bytes a b) ≡ b - a
slice_length bytes a b h = let l = length-take (b - a) (drop a bytes) in let m = length-drop a bytes in omega (arith, l, m, h)

-- the sections between their offsets
between : List ℕ → ℕ → ℕ → ℕ → ℕ → ℕ → ℕ → SectionBytes
between bytes a b c d e at = record {
  paths = slice_range bytes a b;
  names = slice_range bytes b c;
  postings =
      slice_range bytes c d;
  name_index = slice_range bytes d e;
  list_index = slice_range bytes e at;
}

-- ascending section offsets
pub record Rise (a b c d e at : ℕ) : Type 0 where
  pub first : a ≡ 16
  pub ab : a ≤ b
  pub bc : b ≤ c
  pub cd : c ≤ d
  pub de : d ≤ e
  pub ea : e ≤ at

pub rise_from : (a b c d e at : ℕ) → are_section_offsets a b c d e at ≡ true → Rise a b c d e at
rise_from a b c d e at h =
    let one = and_parts (eqb a 16) _ h in
    let two = and_parts (leb a b) _ one.1 in
    let three = and_parts (leb b c) _ two.1 in
    let four = and_parts (leb c d) _ three.1 in
    let five = and_parts (leb d e) (leb e at) four.1 in
    record {
      first = eqb-true a 16 one.0;
      ab = leb-true a b two.0;
      bc = leb-true b c three.0;
      cd = leb-true c d four.0;
      de = leb-true d e five.0;
      ea = leb-true e at five.1;
    }

starts_between : (bytes : List ℕ) (a b c d e at : ℕ) → Rise a b c d e at → at ≤ length bytes → a ∷ b ∷ c ∷ d ∷ e ∷ []
    ≡ starts_from 16 (section_list (between bytes a b c d e at))
unfolding between
starts_between bytes a b c d e at rise within =
    let ab = slice_length bytes a b (omega (arith, rise.bc, rise.cd, rise.de, rise.ea, within)) in
    let bc = slice_length bytes b c (omega (arith, rise.cd, rise.de, rise.ea, within)) in
    let cd = slice_length bytes c d (omega (arith, rise.de, rise.ea, within)) in
    let de = slice_length bytes d e (omega (arith, rise.ea, within)) in
    let two : b ≡ 16 + length (slice_range bytes a b) = omega (arith, ab, rise.first, rise.ab) in
    let three : c ≡ 16 + length (slice_range bytes a b) + length (slice_range bytes b c) = omega (arith, two, bc, rise.bc) in
    let four : d ≡ 16 + length (slice_range bytes a b) + length (slice_range bytes b c)
    + length (slice_range bytes c d) = omega (arith, three, cd, rise.cd) in
    let five : e ≡ 16 + length (slice_range bytes a b) + length (slice_range bytes b c) + length (slice_range bytes c d)
    + length (slice_range bytes d e) = omega (arith, four, de, rise.de) in
    λ i. rise.first i ∷ two i ∷ three i ∷ four i ∷ five i ∷ []

layout_between : (bytes : List ℕ) (a b c d e at : ℕ) → Small bytes → Rise a b c d e at → 52 ≤ length bytes → at
    ≡ length bytes - 36 → magic ≡ take 16 bytes → trailer_magic ≡ drop (length bytes - 16) bytes →
    numbers_from bytes at 5 ≡ a ∷ b ∷ c ∷ d ∷ e ∷ [] → bytes ≡ layout (between bytes a b c d e at)
unfolding between
layout_between bytes a b c d e at small rise enough is prefix end numbers =
    let s : SectionBytes = between bytes a b c d e at in
    let last : drop (at + 4 * 5) bytes ≡ trailer_magic =
    ap (λ k. drop k bytes) (let z : at + 4 * 5 ≡ length bytes - 16 = omega (arith, is, enough) in z) ∙ sym end in
    let tail : drop at bytes ≡ trailer s =
    numbers_back bytes at 5 (omega (arith, is, enough)) small
    ∙ (λ i. flat_map four_bytes ((numbers ∙ starts_between bytes a b c d e at rise (omega (arith, is))) i) ++ last i) in
    (drop_split bytes 0 16 (omega arith) ∙ ap (λ bs. bs ++ drop 16 bytes) (sym prefix))
    ∙ ap (λ bs. magic ++ bs) (ap (λ k. drop k bytes) (sym rise.first)
    ∙ drop_split bytes a b rise.ab ∙ ap (λ bs. s.paths ++ bs) (drop_split bytes b c rise.bc
    ∙ ap (λ bs. s.names ++ bs) (drop_split bytes c d rise.cd
    ∙ ap (λ bs. s.postings ++ bs) (drop_split bytes d e rise.de
    ∙ ap (λ bs. s.name_index ++ bs) (drop_split bytes e at rise.ea
    ∙ ap (λ bs. s.list_index ++ bs) tail)))))
    ∙ sym (in_a_row s)

-- Sections that are split from bytes.
pub record SplitFrom (bytes : List ℕ) (s : SectionBytes) : Type 0 where
  pub bytes_are : bytes ≡ layout s
  pub short : length bytes < 2 ^ 32
  pub name_index : Small s.name_index
  pub list_index : Small s.list_index

five_numbers : (bytes : List ℕ) (at : ℕ) → numbers_from bytes at 5 ≡ number_at bytes at ∷ number_at bytes (at + 4)
    ∷ number_at bytes (at + 8) ∷ number_at bytes (at + 12) ∷ number_at bytes (at + 16) ∷ []
five_numbers bytes at =
    let three : at + 4 + 4 ≡ at + 8 = omega arith in
    let four : at + 4 + 4 + 4 ≡ at + 12 = omega arith in
    let five : at + 4 + 4 + 4 + 4 ≡ at + 16 = omega arith in
    λ i. number_at bytes at ∷ number_at bytes (at + 4) ∷ number_at bytes (three i) ∷ number_at bytes (four i)
    ∷ number_at bytes (five i) ∷ []

pub split_from : (bytes : List ℕ) (s : SectionBytes) → Small bytes → split_of bytes ≡ Ok s → SplitFrom bytes s
unfolding split_of between
split_from bytes s small h =
    let at : ℕ = length bytes - 36 in
    let a : ℕ = number_at bytes at in
    let b : ℕ = number_at bytes (at + 4) in
    let c : ℕ = number_at bytes (at + 8) in
    let d : ℕ = number_at bytes (at + 12) in
    let e : ℕ = number_at bytes (at + 16) in
    let one = test_passed (starts_with eqb bytes magic) BadMagic (split_ended bytes) s h in
    let two = test_passed (has_trailer bytes) BadTrailer (split_before bytes at) s one.1 in
    let three = granted (are_section_offsets a b c d e at) BadOffsets (Ok (between bytes a b c d e at)) s two.1 in
    let is : between bytes a b c d e at ≡ s = let o = three.1 in cc in
    let ends = and_parts (leb 52 (length bytes)) (ltb (length bytes) 4294967296 && ends_with eqb bytes trailer_magic) two.0 in
    let more = and_parts (ltb (length bytes) 4294967296) (ends_with eqb bytes trailer_magic) ends.1 in
    subst (SplitFrom bytes) is (record {
      bytes_are = layout_between bytes a b c d e at small (rise_from a b c d e at three.0) (leb-true 52 (length bytes) ends.0) refl
          ((bytes_decides magic (take 16 bytes)).0 one.0)
          ((bytes_decides trailer_magic (drop (length bytes - 16) bytes)).0 more.1) (five_numbers bytes at);
      short = ltb-true (length bytes) 4294967296 more.0;
      name_index = slice_small bytes d e small;
      list_index = slice_small bytes e at small;
    })

-- ---- sections that pass the tests decode

-- The sections pass every test.
pub record Pass (s : SectionBytes) (parts : Parts) : Type 0 where
  pub paths : is_section (0 ∷ []) s.paths ≡ true
  pub names : (is_section (0 ∷ []) s.names || is_section [] s.names) ≡ true
  pub name_index : is_name_index s.name_index (texts_of s.names) ≡ true
  pub list_index : is_list_index (length s.postings) s.list_index ≡ true
  pub are : parts_of s ≡ parts

pub pass_from : (s : SectionBytes) (parts : Parts) → read_sections s ≡ Ok parts → Pass s parts
pass_from s parts h =
    let one = test_passed (is_section (0 ∷ []) s.paths) BadPaths _ parts h in
    let two = test_passed (is_section (0 ∷ []) s.names || is_section [] s.names) BadNames _ parts one.1 in
    let three = test_passed (is_name_index s.name_index (texts_of s.names)) BadNameIndex _ parts two.1 in
    let four = test_passed (is_list_index (length s.postings) s.list_index) BadListIndex (Ok (parts_of s)) parts three.1 in
    record { paths = one.0; names = two.0; name_index = three.0; list_index = four.0; are = let o = four.1 in cc }

-- a name index is the offsets of the names and four bytes
pub offsets_read : (bytes : List ℕ) (names : List (List ℕ)) → Small bytes → is_name_index bytes names ≡ true → AreOffsets names bytes
unfolding is_name_index
offsets_read bytes names small h =
    let starts : List ℕ = starts_from 0 (map with_nul names) in
    let long = offsets_long bytes names h in
    let both = and_parts (eqb (length bytes) (4 * (length names + 1))) (bytes_eq (numbers_from bytes 0 (length names)) starts) h in
    let numbers : numbers_from bytes 0 (length names) ≡ starts = (bytes_decides (numbers_from bytes 0 (length names)) starts).0 both.1 in
    let at : 0 + 4 * length names ≡ 4 * length names = omega arith in (
      drop (4 * length names) bytes,
      let l = length-drop (4 * length names) bytes in omega (arith, l, long),
      numbers_back bytes 0 (length names) (omega (arith, long)) small ∙ (λ i. flat_map four_bytes (numbers i) ++ drop (at i) bytes),
    )

pub rise_read : (es : List ListEntry) → rises es ≡ true → Ascends (map (λ (e : ListEntry). e.trigram) es)
rise_read [] h = tt
rise_read (d ∷ []) h = tt
rise_read (d ∷ e ∷ es) h = let both = and_parts (ltb d.trigram e.trigram) (rises (e ∷ es)) h in
    (ltb-true d.trigram e.trigram both.0, rise_read (e ∷ es) both.1)

fits_read : (g count : ℕ) → g < 2 ^ 24 → (ltb g 16777215 || eqb count 0) ≡ true → (g < 16777215) ⊎ ((g ≡ 16777215) × (count ≡ 0))
fits_read g count small h = elim (or_cases (ltb g 16777215) (eqb count 0) h) [
  | inl less ↦ inl (ltb-true g 16777215 less)
  | inr none ↦ elim (cases_lt g 16777215) [
    | inl below ↦ inl below
    | inr above ↦ inr (omega (arith, small, above), eqb-true count 0 none)
  ]
]

entry_read : (postings : List ℕ) (e : ListEntry) → Fits e → is_entry (length postings) e ≡ true → IsEntry postings e
entry_read postings e fits h =
    let both = and_parts (leb (e.offset + 4) (length postings)) (ltb e.trigram 16777215 || eqb e.count 0) h in
    record {
      trigram = fits_read e.trigram e.count fits.0 both.1;
      count = fits.1;
      offset = fits.2;
      room = leb-true (e.offset + 4) (length postings) both.0;
    }

entries_read : (postings bytes : List ℕ) (at n : ℕ) → Small bytes → list_all (is_entry (length postings))
    (entries_from bytes at n) ≡ true → AllByRecursion (IsEntry postings) (entries_from bytes at n)
entries_read postings bytes at zero small h = tt
entries_read postings bytes at (suc n) small h =
    let e : ListEntry = entry_at bytes at in
    let both = and_parts (is_entry (length postings) e) (list_all (is_entry (length postings)) (entries_from bytes (at + 11) n)) h in (
      entry_read postings e (trigram_small bytes at small, number_small bytes (at + 3) small, number_small bytes (at + 7) small) both.0,
      entries_read postings bytes (at + 11) n small both.1,
    )

-- a list index is its entries
pub list_index_read : (postings bytes : List ℕ) → Small bytes → is_list_index (length postings) bytes ≡ true →
    AreEntries postings (entries_in bytes) bytes
unfolding is_list_index entries_in
list_index_read postings bytes small h =
    let n : ℕ = length bytes / 11 in
    let es : List ListEntry = entries_from bytes 0 n in
    let one = and_parts (eqb (length bytes % 11) 0) (rises es && list_all (is_entry (length postings)) es) h in
    let two = and_parts (rises es) (list_all (is_entry (length postings)) es) one.1 in
    let long : 0 + 11 * n ≡ length bytes = let z = eqb-true (length bytes % 11) 0 one.0 in omega (arith, z) in (
      entries_read postings bytes 0 n small two.1,
      rise_read es two.0,
      entries_back bytes 0 n (omega (arith, long)) small ∙ ap (λ bs. flat_map entry_bytes es ++ bs)
          (drop_all (0 + 11 * n) bytes (omega (arith, long))) ∙ append-nil (flat_map entry_bytes es),
    )

-- names are read with a final NUL or without
pub names_read : (section : List ℕ) → (is_section (0 ∷ []) section || is_section [] section) ≡ true →
    AreStrings (0 ∷ []) (texts_of section) section ⊎ AreStrings [] (texts_of section) section
names_read section h = elim (or_cases (is_section (0 ∷ []) section) (is_section [] section) h) [
  | inl closed ↦ inl (section_read (0 ∷ []) section closed)
  | inr bare ↦ inr (section_read [] section bare)
]

-- The bytes decode as the parts, in these sections.
abbrev pub DecodesIn : List ℕ → SectionBytes → Parts → Type 0
DecodesIn bytes s parts = (decodes : DecodesAs bytes parts) × (decodes.sections ≡ s)

decodes_parts : (bytes : List ℕ) (s : SectionBytes) (parts : Parts) → SplitFrom bytes s → Pass s parts → DecodesIn bytes s parts
decodes_parts bytes s parts slices passed =
    let decodes : DecodesAs bytes (parts_of s) = record {
      sections = s;
      is_layout = record { bytes_are = slices.bytes_are; short = slices.short };
      paths_are = section_read (0 ∷ []) s.paths passed.paths;
      names_are = names_read s.names passed.names;
      postings_are = refl;
      name_index_is = offsets_read s.name_index (texts_of s.names) slices.name_index passed.name_index;
      list_index_is = list_index_read s.postings s.list_index slices.list_index passed.list_index;
    } in
    subst (DecodesIn bytes s) passed.are (decodes, refl)

pub split_decodes : (bytes : List ℕ) (s : SectionBytes) (parts : Parts) → AreBytes bytes → split_of bytes ≡ Ok s →
    read_sections s ≡ Ok parts → DecodesIn bytes s parts
split_decodes bytes s parts are split read =
    decodes_parts bytes s parts (split_from bytes s (small_bytes bytes are) split) (pass_from s parts read)

pub opened_decodes : (bytes : List ℕ) (parts : Parts) → AreBytes bytes → opening bytes ≡ Ok parts → DecodesAs bytes parts
unfolding opening
opened_decodes bytes parts are h = from_cut (split_of bytes) refl h
  where
    from_cut : (r : Result SectionBytes IndexFault) → split_of bytes ≡ r → read_split r ≡ Ok parts → DecodesAs bytes parts
    from_cut (Ok s) is read = (split_decodes bytes s parts are is read).0
    from_cut (Err fault) is read = cc
