-- Sections that are tested piece by piece.
use Rattle.std.specs.Prelude.{bytes_eq, IfOk}
use Rattle.std.proofs.Common.{◌≡◌, ◌≢◌, ◌⊎◌, ℕ, ◌+◌, ◌-◌, ◌*◌, ◌<◌, ◌≤◌, Bool, true, false, ◌&&◌, ◌||◌, eqb, List, [], ◌∷◌, ◌++◌, length, map, take, drop, get_or, refl, sym, ap, subst, ◌∙◌, inl, inr, arith, append_assoc, length-append, length-drop, length-take, Option, Some, Result, Ok, Err, Vec, Global}
use Rattle.cs_index.proofs.stored.StoredEntries.{number_part}
use Rattle.std.proofs.Math.Seq.{take-nil}
use Rattle.std.proofs.lemmas.Bool.{cases_Bool, cases_lt, eq-eqb, eqb-true, ne_eqb}
use Rattle.std.proofs.lemmas.List.{append-nil, take_at, drop-take, drop-drop, length_push, take-take, drop_all, take_all}
use Rattle.std.proofs.lemmas.Str.{is_utf8-from_IsUtf8}
use Rattle.std.proofs.Math.Bool.{and-false, and-true, and_assoc}
use Rattle.std.specs.List.{AllByRecursion, concat}
use Rattle.std.specs.Str.{is_utf8}
use Rattle.cs_tree.specs.Store.{part_of}
use Rattle.cs_tree.specs.WholeReads.{items_of, PartShows}
use Rattle.cs_tree.specs.declared.fault.IoFault.{IoFault}
use Rattle.cs_index.specs.Encoding.{with_nul, starts_from, IsString}
use Rattle.cs_index.specs.Decoding.{AreStrings}
use Rattle.cs_index.specs.Opening.{is_name_index, is_names_section, is_section, number_at, numbers_from, texts_of}
use Rattle.cs_index.specs.SectionPieces.{AreNamesIn, IsNoSection, IsTextRun, IsWindow, left_from}
use Rattle.cs_index.specs.ValidSections.{HasNoText, has_starts}
use Rattle.cs_index.specs.Windows.{IsPiece}
use Rattle.cs_index.specs.declared.reading.bytes.TextRun.{TextRun}
use Rattle.cs_index.specs.declared.reading.window.Window.{Window}
use Rattle.cs_index.specs.declared.reading.stored_sections.NameTest.{NameTest}
use Rattle.cs_index.proofs.decoding.EntryTables.{offsets_step, offsets_wrong, offsets_end}
use Rattle.cs_index.proofs.decoding.StringScan.{section_step, section_after, section_end, texts_step, none_formed, nul_first}
use Rattle.cs_index.proofs.decoding.StringSections.{texts_decoded}
use Rattle.cs_index.proofs.stored.ListPieces.{left_after, part_split, shown}

-- ---- a run of strings at the start of a section

abbrev pub run_bytes : List (List ℕ) → List ℕ
run_bytes texts = concat (map with_nul texts)

pub strings_before : (closing rest : List ℕ) (texts : List (List ℕ)) → AllByRecursion IsString texts →
    is_section closing (run_bytes texts ++ rest) ≡ is_section closing rest
strings_before closing rest [] all = refl
strings_before closing rest (text ∷ texts) all =
    ap (is_section closing) (append_assoc (with_nul text) (run_bytes texts) rest)
    ∙ section_step closing text (run_bytes texts ++ rest) all.0.1 all.0.0
    ∙ ap (λ b. b && is_section closing (run_bytes texts ++ rest)) (is_utf8-from_IsUtf8 text all.0.2)
    ∙ strings_before closing rest texts all.1

pub texts_before : (rest : List ℕ) (texts : List (List ℕ)) → AllByRecursion IsString texts →
    texts_of (run_bytes texts ++ rest) ≡ texts ++ texts_of rest
texts_before rest [] all = refl
texts_before rest (text ∷ texts) all =
    ap texts_of (append_assoc (with_nul text) (run_bytes texts) rest)
    ∙ texts_step text (run_bytes texts ++ rest) all.0.1 all.0.0
    ∙ ap (λ ts. text ∷ ts) (texts_before rest texts all.1)

-- one more string before strings
pub string_more : (section text next tail : List ℕ) (texts : List (List ℕ)) → section ≡ with_nul text ++ next →
    IsString text → AreStrings tail texts next → AreStrings tail (text ∷ texts) section
string_more section text next tail texts e is strings =
    ((is, strings.0), e ∙ ap (λ r. with_nul text ++ r) strings.1 ∙ sym (append_assoc (with_nul text) (run_bytes texts) tail))

-- the strings are the first bytes
pub run_taken : (piece : List ℕ) (n : ℕ) (texts : List (List ℕ)) → n ≤ length piece →
    AreStrings (drop n piece) texts piece → take n piece ≡ run_bytes texts
run_taken piece n texts within strings =
    let l : length piece ≡ length (run_bytes texts ++ drop n piece) = ap length strings.1 in
    let a = length-append (run_bytes texts) (drop n piece) in
    let d = length-drop n piece in
    ap (take n) strings.1 ∙ take_at (run_bytes texts) (drop n piece) n (omega (arith, l, a, d, within))

-- ---- a section that is not valid

pub none_on : (piece rest more : List ℕ) (texts : List (List ℕ)) → AreStrings rest texts piece →
    IsNoSection (rest ++ more) → IsNoSection (piece ++ more)
none_on piece rest more texts strings none = record { closed = each (0 ∷ []) ∙ none.closed; bare = each [] ∙ none.bare }
  where
    each : (closing : List ℕ) → is_section closing (piece ++ more) ≡ is_section closing (rest ++ more)
    each closing =
        ap (is_section closing) (ap (λ p. p ++ more) strings.1 ∙ append_assoc (run_bytes texts) rest more)
        ∙ strings_before closing (rest ++ more) texts strings.0

pub text_no : (rest text next more : List ℕ) → rest ≡ with_nul text ++ next → AllByRecursion (λ b. 0 < b) text →
    text ≢ [] → is_utf8 text ≡ false → IsNoSection (rest ++ more)
text_no rest text next more e all some bad = record { closed = each (0 ∷ []); bare = each [] }
  where
    each : (closing : List ℕ) → is_section closing (rest ++ more) ≡ false
    each closing =
        section_after closing (rest ++ more) text (next ++ more) (ap (λ r. r ++ more) e ∙ append_assoc (with_nul text) next more) all some
        ∙ ap (λ b. b && is_section closing (next ++ more)) bad

pub nul_no : (rest more : List ℕ) → get_or rest 0 0 ≡ 0 → 1 < length rest → IsNoSection (rest ++ more)
nul_no [] more first long = absurd (omega (arith, long))
nul_no (b ∷ []) more first long = absurd (omega (arith, long))
nul_no (b ∷ d ∷ rest) more first long =
    let none : texts_of (b ∷ d ∷ (rest ++ more)) ≡ [] = nul_first (b ∷ d ∷ (rest ++ more)) first in
    record {
      closed = section_end (0 ∷ []) (b ∷ d ∷ (rest ++ more)) none ∙ and-false (eqb b 0);
      bare = section_end [] (b ∷ d ∷ (rest ++ more)) none;
    }

-- ---- a whole section

pub closed_after : (section : List ℕ) (run : TextRun) → IsTextRun section run → is_section (0 ∷ []) section
    ≡ bytes_eq (drop run.len section) (0 ∷ [])
closed_after section run is =
    ap (is_section (0 ∷ [])) is.strings.1 ∙ strings_before (0 ∷ []) (drop run.len section) is.texts is.strings.0 ∙ is.rest.closed

pub bare_after : (section : List ℕ) (run : TextRun) → IsTextRun section run → is_section [] section ≡ bytes_eq (drop run.len section) []
bare_after section run is =
    ap (is_section []) is.strings.1 ∙ strings_before [] (drop run.len section) is.texts is.strings.0 ∙ is.rest.bare

pub no_section : (section : List ℕ) → ((more : List ℕ) → IsNoSection (section ++ more)) → IsNoSection section
no_section section so = subst IsNoSection (append-nil section) (so [])

-- ---- parts of parts

-- a part of a section is that of the bytes, as far as the section goes
pub part_within : (bytes : List ℕ) (start room at n len : ℕ) → (len ≡ n) × (n ≤ room - at) ⊎ (len ≡ room - at) × (room - at ≤ n)
    → part_of bytes (start + at) len ≡ part_of (part_of bytes start room) at n
part_within bytes start room at n len cases = elim (cases_lt room at) [
  | inl past ↦
      ap (λ k. part_of bytes (start + at) k) (none past cases)
      ∙ sym (ap (take n) (drop_all at (take room (drop start bytes)) (let l = length-take room (drop start bytes) in
      omega (arith, l, past))) ∙ take-nil n)
  | inr within ↦
      let whole : at + (room - at) ≡ room = omega (arith, within) in
      sym (ap (λ k. take n (drop at (take k (drop start bytes)))) (sym whole)
      ∙ ap (take n) (drop-take at (room - at) (drop start bytes) ∙ ap (take (room - at)) (drop-drop at start bytes))
      ∙ either cases)
]
  where
    none : room < at → (len ≡ n) × (n ≤ room - at) ⊎ (len ≡ room - at) × (room - at ≤ n) → len ≡ 0
    none past (inl few) = omega (arith, past, few.0, few.1)
    none past (inr all) = omega (arith, past, all.0)

    either : (len ≡ n) × (n ≤ room - at) ⊎ (len ≡ room - at) × (room - at ≤ n) →
        take n (take (room - at) (drop (start + at) bytes)) ≡ part_of bytes (start + at) len
    either (inl few) = take-take n (room - at) (drop (start + at) bytes) few.1 ∙ ap (λ k. part_of bytes (start + at) k) (sym few.0)
    either (inr all) = take_all n (take (room - at) (drop (start + at) bytes))
        (let l = length-take (room - at) (drop (start + at) bytes) in omega (arith, l, all.1))
        ∙ ap (λ k. part_of bytes (start + at) k) (sym all.0)

-- ---- numbers of a part

module _ (section numbers : List ℕ) (base len : ℕ) (is : numbers ≡ part_of section base len) (fits : length numbers ≡ len) where
  -- the numbers are the offsets of the first names, or the section does not have the offsets
  starts_whole : (k at offset later last : ℕ) (texts more : List (List ℕ)) → len ≡ k + 4 * (length texts + 1) → at
      ≡ base + k → last ≡ at + 4 * length texts → later ≡ offset + length (run_bytes texts)
      → has_starts section at offset (texts ++ more) ≡ (has_starts numbers k offset texts && has_starts section last later more)
  starts_whole k at offset later last [] more long here there from =
      let one : has_starts numbers k offset [] ≡ true = offsets_end numbers k offset (omega (arith, fits, long))
      ∙ eq-eqb (length numbers - k) 4 (omega (arith, fits, long)) in
      (λ i. has_starts section (sym (let z : last ≡ at = omega (arith, there) in z) i)
      (sym (let z : later ≡ offset = omega (arith, from) in z) i) more)
      ∙ ap (λ b. b && has_starts section last later more) (sym one)
  starts_whole k at offset later last (text ∷ texts) more long here there from = elim (cases_Bool (eqb (number_at numbers k) offset)) [
    | inl same ↦
        let number : number_at numbers k ≡ offset = eqb-true (number_at numbers k) offset same in
        let there' : number_at section at ≡ offset =
        sym (ap (λ (ns : List ℕ). number_at ns k) is
        ∙ (number_part section base len k (omega (arith, long)) ∙ ap (number_at section) (sym here))) ∙ number in
        let next : ℕ = offset + (length text + 1) in
        let l = length-append (with_nul text) (run_bytes texts) in
        let p = length_push text 0 in
        offsets_step section at offset next text (texts ++ more) there' refl
        ∙ starts_whole (k + 4) (at + 4) next later last texts more (omega (arith, long)) (omega (arith, here))
        (omega (arith, there)) (omega (arith, from, l, p))
        ∙ ap (λ b. b && has_starts section last later more) (sym (offsets_step numbers k offset next text texts number refl))
    | inr apart ↦
        let number : number_at numbers k ≢ offset = (λ e. true_false (sym (eq-eqb (number_at numbers k) offset e) ∙ apart)) in
        let there' : number_at section at ≢ offset =
        (λ e. number (ap (λ (ns : List ℕ). number_at ns k) is
        ∙ (number_part section base len k (omega (arith, long)) ∙ ap (number_at section) (sym here)) ∙ e)) in
        offsets_wrong section at offset text (texts ++ more) there'
        ∙ ap (λ b. b && has_starts section last later more) (sym (offsets_wrong numbers k offset text texts number))
  ]
    where
      true_false : true ≡ false → ⊥
      true_false e = cc

pub wrong_length : (bytes : List ℕ) (at offset : ℕ) (names : List (List ℕ)) → length bytes ≢ at + 4 * (length names + 1)
    → has_starts bytes at offset names ≡ false
wrong_length bytes at offset names apart =
    ap (λ b. b && bytes_eq (numbers_from bytes at (length names)) (starts_from offset (map with_nul names)))
    (ne_eqb (length bytes) (at + 4 * (length names + 1)) apart)

pub starts_on : (section numbers : List ℕ) (at offset later last : ℕ) (texts more : List (List ℕ)) → numbers
    ≡ part_of section at (4 * (length texts + 1)) → last ≡ at + 4 * length texts → later
    ≡ offset + length (run_bytes texts)
    → has_starts section at offset (texts ++ more) ≡ (has_starts numbers 0 offset texts && has_starts section last later more)
starts_on section numbers at offset later last texts more is there from =
    let n : ℕ = 4 * (length texts + 1) in
    let l : length numbers ≡ length (part_of section at n) = ap length is in
    let t = length-take n (drop at section) in
    let d = length-drop at section in
    let a = length-append texts more in
    elim (cases_lt (length numbers) n) [
      | inl less ↦
          wrong_length section at offset (texts ++ more) (λ e. absurd (omega (arith, e, l, t, d, less, a)))
          ∙ ap (λ b. b && has_starts section last later more)
          (sym (wrong_length numbers 0 offset texts (λ e. absurd (omega (arith, e, less)))))
      | inr whole ↦ starts_whole section numbers at n is (omega (arith, l, t, whole)) 0 at offset later last texts more
          (omega arith) (omega arith) there from
    ]

-- ---- names, and the offsets of names, up to some bytes that are left

-- The names before the bytes that are left are valid and counted; `good` tells whether their offsets are right.
pub record AreNamesBefore (section name_index left : List ℕ) (count offset : ℕ) (good : Bool) : Type 0 where
  pub valid : (closing : List ℕ) → is_section closing section ≡ is_section closing left
  pub counted : length (texts_of section) ≡ count + length (texts_of left)
  pub offsets : is_name_index name_index (texts_of section) ≡ (good && has_starts name_index (4 * count) offset (texts_of left))

pub none_before : (section name_index : List ℕ) → AreNamesBefore section name_index section 0 0 true
unfolding is_name_index
none_before section name_index = record {
  valid = λ closing. refl;
  counted = omega arith;
  offsets = ap (λ n. eqb (length name_index) n && bytes_eq (numbers_from name_index 0 (length (texts_of section)))
      (starts_from 0 (map with_nul (texts_of section))))
      (let z : 4 * (length (texts_of section) + 1) ≡ 4 * 0 + 4 * (length (texts_of section) + 1) = omega arith in z);
}

pub starts_all : (name_index : List ℕ) (names : List (List ℕ)) → has_starts name_index 0 0 names ≡ is_name_index name_index names
unfolding is_name_index
starts_all name_index names = ap (λ n. eqb (length name_index) n && bytes_eq (numbers_from name_index 0 (length names))
    (starts_from 0 (map with_nul names))) (let z : 0 + 4 * (length names + 1) ≡ 4 * (length names + 1) = omega arith in
    z)

pub names_more : (section name_index left rest numbers : List ℕ) (count count' offset offset' : ℕ) (good : Bool)
    (texts : List (List ℕ)) → AreNamesBefore section name_index left count offset good → AreStrings rest texts left →
    numbers ≡ part_of name_index (4 * count) (4 * (length texts + 1)) → count' ≡ count + length texts → offset'
    ≡ offset + length (run_bytes texts)
    → AreNamesBefore section name_index rest count' offset' (good && has_starts numbers 0 offset texts)
names_more section name_index left rest numbers count count' offset offset' good texts so strings is more from =
    let split : texts_of left ≡ texts ++ texts_of rest = ap texts_of strings.1 ∙ texts_before rest texts strings.0 in
    let a = length-append texts (texts_of rest) in
    let s : length (texts_of left) ≡ length (texts ++ texts_of rest) = ap length split in
    let b = so.counted in
    record {
      valid = λ closing. so.valid closing ∙ ap (is_section closing) strings.1 ∙ strings_before closing rest texts strings.0;
      counted = omega (arith, b, s, a, more);
      offsets =
          so.offsets
          ∙ ap (λ b. good && b) (ap (has_starts name_index (4 * count) offset) split
          ∙ starts_on name_index numbers (4 * count) offset offset' (4 * count') texts (texts_of rest) is
          (omega (arith, more)) from)
          ∙ sym (and_assoc good (has_starts numbers 0 offset texts) (has_starts name_index (4 * count') offset' (texts_of rest)));
    }

-- ---- a piece of the bytes that are left

-- the bytes that are left begin with the piece
pub piece_first : (bytes piece : List ℕ) (start stop : ℕ) → start + length piece ≤ stop → piece
    ≡ part_of bytes start (length piece) → part_of bytes start (stop - start)
    ≡ piece ++ part_of bytes (start + length piece) (stop - start - length piece)
piece_first bytes piece start stop within is =
    part_split bytes start (length piece) (stop - start) (omega (arith, within))
    ∙ ap (λ p. p ++ part_of bytes (start + length piece) (stop - start - length piece)) (sym is)

-- the strings of a piece are the first of the bytes that are left
pub run_first : (bytes piece : List ℕ) (start stop : ℕ) (run : TextRun) → start + length piece ≤ stop → piece
    ≡ part_of bytes start (length piece) → (is : IsTextRun piece run) →
    AreStrings (part_of bytes (start + run.len) (stop - (start + run.len))) is.texts
    (part_of bytes start (stop - start))
run_first bytes piece start stop run within is r =
    let in_piece = r.within in
    let first : part_of bytes start run.len ≡ run_bytes r.texts =
    sym (take-take run.len (length piece) (drop start bytes) in_piece) ∙ ap (take run.len) (sym is)
    ∙ run_taken piece run.len r.texts in_piece r.strings in (
      r.strings.0,
      part_split bytes start run.len (stop - start) (omega (arith, within, in_piece))
          ∙ ap (λ p. p ++ part_of bytes (start + run.len) (stop - start - run.len)) first
          ∙ ap (λ n. run_bytes r.texts ++ part_of bytes (start + run.len) n)
          (let z : stop - start - run.len ≡ stop - (start + run.len) = omega arith in z),
    )

-- ---- a part that is read

pub part_shown : (model : Option (List ℕ)) (bytes target : List ℕ) (r : Result (Vec ℕ Global) IoFault) (at n : ℕ) →
    model ≡ Some bytes → PartShows model at n (items_of r) → part_of bytes at n ≡ target →
    IfOk r (λ v. v.items ≡ target)
part_shown model bytes target r at n m so same = each r (shown (λ b. IfOk (items_of r) (λ part. part ≡ part_of b at n)) model bytes m so)
  where
    each : (r : Result (Vec ℕ Global) IoFault) → IfOk (items_of r) (λ part. part ≡ part_of bytes at n) → IfOk r (λ v. v.items ≡ target)
    each (Ok v) e = e ∙ same
    each (Err fault) e = tt

-- ---- a window of a section

-- the bytes that are left begin with the next piece
pub window_left : (bytes : List ℕ) (stop : ℕ) (old new : Window) (used : ℕ) → new.start ≡ old.start + used →
    left_from bytes stop old used ≡ part_of bytes new.start (stop - new.start)
window_left bytes stop old new used begin = λ i. part_of bytes (sym begin i) (stop - sym begin i)

pub window_begins : (bytes : List ℕ) (stop : ℕ) (old new : Window) (used : ℕ) → new.start ≡ old.start + used →
    IsWindow new stop → IsPiece bytes new → left_from bytes stop old used
    ≡ new.piece.items ++ part_of bytes (new.start + length new.piece.items) (stop - new.start - length new.piece.items)
window_begins bytes stop old new used begin is shown = window_left bytes stop old new used begin
    ∙ piece_first bytes new.piece.items new.start stop is.within shown

pub window_run : (bytes : List ℕ) (stop : ℕ) (old new : Window) (used : ℕ) (run : TextRun) → new.start ≡ old.start + used →
    IsWindow new stop → IsPiece bytes new → (r : IsTextRun new.piece.items run) →
    AreStrings (left_from bytes stop new run.len) r.texts (left_from bytes stop old used)
window_run bytes stop old new used run begin is shown r =
    subst (λ (l : List ℕ). AreStrings (left_from bytes stop new run.len) r.texts l) (sym (window_left bytes stop old new used begin))
    (run_first bytes new.piece.items new.start stop run is.within shown r)

-- the last piece is all that is left
pub window_last : (bytes : List ℕ) (stop : ℕ) (w : Window) (used : ℕ) → IsWindow w stop → used ≤ length w.piece.items →
    w.piece.items ≡ part_of bytes w.start (stop - w.start) → left_from bytes stop w used ≡ drop used w.piece.items
window_last bytes stop w used is within shown = left_after bytes w.start stop used
    (let a = is.within in omega (arith, a, within)) ∙ ap (drop used) (sym shown)

pub run_long : (piece : List ℕ) (run : TextRun) → (r : IsTextRun piece run) → length (run_bytes r.texts) ≡ run.len
run_long piece run r =
    let t = ap length (run_taken piece run.len r.texts r.within r.strings) in
    let l = length-take run.len piece in
    let w = r.within in
    omega (arith, t, l, w)

pub run_valid : (piece : List ℕ) (run : TextRun) → IsTextRun piece run → is_section [] (take run.len piece) ≡ true
run_valid piece run r =
    ap (is_section []) (run_taken piece run.len r.texts r.within r.strings ∙ sym (append-nil (run_bytes r.texts)))
    ∙ strings_before [] [] r.texts r.strings.0 ∙ section_end [] [] (texts_decoded [] [] tt (inl refl))

pub run_texts : (piece : List ℕ) (run : TextRun) → (r : IsTextRun piece run) → texts_of (take run.len piece) ≡ r.texts
run_texts piece run r =
    ap texts_of (run_taken piece run.len r.texts r.within r.strings ∙ sym (append-nil (run_bytes r.texts)))
    ∙ texts_decoded r.texts [] r.strings.0 (inl refl)

-- the strings of a valid section are all of its texts
pub run_all : (section : List ℕ) (run : TextRun) → IsTextRun section run → is_names_section section ≡ true →
    texts_of (take run.len section) ≡ texts_of section
run_all section run r formed =
    let rest : List ℕ = drop run.len section in
    let whole = r.strings.1 in
    let last : is_names_section rest ≡ true =
    (λ i. sym (ap (is_section (0 ∷ [])) whole ∙ strings_before (0 ∷ []) rest r.texts r.strings.0) i
    || sym (ap (is_section []) whole ∙ strings_before [] rest r.texts r.strings.0) i) ∙ formed in
    run_texts section run r ∙ sym (append-nil r.texts) ∙ ap (λ ts. r.texts ++ ts) (sym (none_formed rest r.rest last))
    ∙ sym (ap texts_of whole ∙ texts_before rest r.texts r.strings.0)

-- ---- the end of the names

pub names_not : (section name_index left : List ℕ) (count offset : ℕ) (good : Bool) →
    AreNamesBefore section name_index left count offset good → IsNoSection left → is_names_section section ≡ false
names_not section name_index left count offset good so none = λ i. (so.valid (0 ∷ []) ∙ none.closed) i || (so.valid [] ∙ none.bare) i

pub names_end : (section name_index rest : List ℕ) (offset : ℕ) (good : Bool) (test : NameTest) →
    AreNamesBefore section name_index rest test.count offset good → HasNoText rest →
    (bytes_eq rest (0 ∷ []) || bytes_eq rest []) ≡ true
    → test.have_offsets ≡ (good && eqb (length name_index) (4 * (test.count + 1))) → AreNamesIn section name_index test
names_end section name_index rest offset good test so none ending has =
    let formed : is_names_section rest ≡ true = (λ i. none.closed i || none.bare i) ∙ ending in
    let no_texts : texts_of rest ≡ [] = none_formed rest none formed in
    let l : length (texts_of rest) ≡ 0 = ap length no_texts in
    let s = so.counted in
    record {
      valid = (λ i. so.valid (0 ∷ []) i || so.valid [] i) ∙ formed;
      count = omega (arith, s, l);
      offsets =
          has ∙ ap (λ b. good && b) (sym (and-true (eqb (length name_index) (4 * (test.count + 1))))
          ∙ ap (λ n. eqb (length name_index) n && true) (let z : 4 * (test.count + 1) ≡ 4 * test.count + 4 * (0 + 1) = omega arith in z))
          ∙ ap (λ (ts : List (List ℕ)). good && has_starts name_index (4 * test.count) offset ts) (sym no_texts)
          ∙ sym so.offsets;
    }

pub part_long : (bytes : List ℕ) (a b : ℕ) → a ≤ b → b ≤ length bytes → length (part_of bytes a (b - a)) ≡ b - a
part_long bytes a b order within =
    let t = length-take (b - a) (drop a bytes) in
    let d = length-drop a bytes in
    omega (arith, t, d, order, within)
