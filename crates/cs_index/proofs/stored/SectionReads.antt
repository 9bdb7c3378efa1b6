-- The sections of an index that are read from a store.
use Rattle.std.proofs.Common.{◌≡◌, ℕ, ◌-◌, ◌<◌, ◌≤◌, get_or, true, false, not, Vec, Global, [], ◌∷◌, cond, List, length, drop, Option, Some, None, Result, Ok, Err, refl, sym, ap, subst, ◌∙◌, arith, length-drop}
use Rattle.std.proofs.lemmas.List.{length-take-le}
use Rattle.std.proofs.lemmas.List.Elements.{All-from_get_or}
use Rattle.std.specs.Prelude.{IfSome, IfOk, slice_range}
use Rattle.cs_tree.specs.ByteList.{AreBytes}
use Rattle.cs_tree.specs.declared.fault.IoFault.{IoFault}
use Rattle.cs_index.specs.declared.fault.IndexFault.{IndexFault}
use Rattle.cs_index.specs.declared.fault.IndexFault.TheVariants.{BadPaths, BadNames, BadNameIndex, BadListIndex}
use Rattle.cs_index.specs.declared.reading.section_offsets.SectionOffsets.{SectionOffsets}
use Rattle.cs_index.specs.Encoding.{SectionBytes}
use Rattle.cs_index.specs.OpenedParts.{Parts}
use Rattle.cs_index.specs.Opening.{is_list_index, is_name_index, is_names_section, is_section, opening, parts_of, read_sections, split_of, texts_of}
use Rattle.cs_index.specs.ValidSections.{AreValidSections, read_split}
use Rattle.cs_index.specs.StoredOpening.{AreAscendingOffsets, with_lists}
use Rattle.cs_index.specs.Stored.{StandsIn, StoredParts, DecodesOrFails, sections_at}
use Rattle.cs_index.specs.Tables.{OpensAs}
use Rattle.cs_index.specs.SectionPieces.{ArePathsRead}
use Rattle.cs_index.proofs.decoding.DecodableBytesOpen.{rise_from, split_as_decoded}
use Rattle.cs_index.proofs.decoding.FirstFailure.{fails_so}

-- what holds of the bytes of a modelled store
pub if_modelled : (model : Option (List ℕ)) (P : List ℕ → Type 0) → ((bytes : List ℕ) → model ≡ Some bytes → P bytes) → IfSome model P
if_modelled None P so = tt
if_modelled (Some bytes) P so = so bytes refl

pub bytes_fit : (bytes : List ℕ) → ((i : ℕ) → get_or bytes i 0 < 256) → AreBytes bytes
bytes_fit bytes fit = All-from_get_or (λ b. b < 256) bytes 0 (λ i _. fit i)

-- ---- facts about a store whose model does not change

pub if_some_both : (A B : List ℕ → Type 0) (one two : Option (List ℕ)) → two ≡ one → IfSome one A → IfSome two B →
    IfSome one (λ b. A b × B b)
if_some_both A B one two same a b = on one a (subst (λ t. IfSome t B) same b)
  where
    on : (t : Option (List ℕ)) → IfSome t A → IfSome t B → IfSome t (λ b. A b × B b)
    on None a b = tt
    on (Some bytes) a b = (a, b)

pub if_some_map : (A B : List ℕ → Type 0) (t : Option (List ℕ)) → ((b : List ℕ) → A b → B b) → IfSome t A → IfSome t B
if_some_map A B None so a = tt
if_some_map A B (Some bytes) so a = so bytes a

-- ---- the sections

-- valid sections open as their parts
pub tested : (p n i l lists : List ℕ) (room : ℕ) → length lists ≡ room → AreValidSections p n i l room →
    read_sections (with_lists p n i l lists) ≡ Ok (parts_of (with_lists p n i l lists))
tested p n i l lists room long is =
    let entries : is_list_index (length lists) l ≡ true = ap (λ k. is_list_index k l) long ∙ is.entries in
    λ t. cond (not (is.each_path t)) (Err BadPaths)
    (cond (not (is.each_name t)) (Err BadNames)
    (cond (not (is.offsets t)) (Err BadNameIndex)
    (cond (not (entries t)) (Err BadListIndex) (Ok (parts_of (with_lists p n i l lists))))))

module _ (s : SectionBytes) where
  abbrev parts : Result Parts IndexFault
  parts = Ok (parts_of s)

  abbrev last_test : Result Parts IndexFault
  last_test = cond (not (is_list_index (length s.postings) s.list_index)) (Err BadListIndex) parts

  abbrev offsets_test : Result Parts IndexFault
  offsets_test = cond (not (is_name_index s.name_index (texts_of s.names))) (Err BadNameIndex) last_test

  abbrev names_test : Result Parts IndexFault
  names_test = cond (not (is_names_section s.names)) (Err BadNames) offsets_test

  pub bad_paths : is_section (0 ∷ []) s.paths ≡ false → read_sections s ≡ Err BadPaths
  bad_paths h = ap (λ b. cond (not b) (Err BadPaths) names_test) h

  module _ (paths : is_section (0 ∷ []) s.paths ≡ true) where
    pub bad_names : is_names_section s.names ≡ false → read_sections s ≡ Err BadNames
    bad_names h = λ t. cond (not (paths t)) (Err BadPaths) (cond (not (h t)) (Err BadNames) offsets_test)

    module _ (names : is_names_section s.names ≡ true) where
      pub bad_name_index : is_name_index s.name_index (texts_of s.names) ≡ false → read_sections s ≡ Err BadNameIndex
      bad_name_index h = λ t. cond (not (paths t)) (Err BadPaths)
          (cond (not (names t)) (Err BadNames) (cond (not (h t)) (Err BadNameIndex) last_test))

      pub bad_list_index : is_name_index s.name_index (texts_of s.names) ≡ true →
          is_list_index (length s.postings) s.list_index ≡ false → read_sections s ≡ Err BadListIndex
      bad_list_index offsets h = λ t. cond (not (paths t)) (Err BadPaths)
          (cond (not (names t)) (Err BadNames) (cond (not (offsets t)) (Err BadNameIndex)
          (cond (not (h t)) (Err BadListIndex) parts)))

-- ---- the sections of a store

-- paths that were kept are valid
pub closed_paths : (section : List ℕ) (found : Option (Vec ℕ Global)) (paths : Vec ℕ Global) → found ≡ Some paths →
    ArePathsRead section found → IfSome found (λ paths. is_section (0 ∷ []) paths.items ≡ true) →
    (paths.items ≡ section) × (is_section (0 ∷ []) section ≡ true)
closed_paths section found paths is read closed =
    let same : paths.items ≡ section = subst (ArePathsRead section) is read in (
      same,
      sym (ap (is_section (0 ∷ [])) same)
          ∙ subst (λ (f : Option (Vec ℕ Global)). IfSome f (λ paths. is_section (0 ∷ []) paths.items ≡ true)) is closed,
    )

pub lists_long : (bytes : List ℕ) (s : SectionOffsets) → AreAscendingOffsets s → s.trailer ≤ length bytes →
    length (slice_range bytes s.postings s.name_index) ≡ s.name_index - s.postings
lists_long bytes s order within =
    let rise = rise_from s.paths s.names s.postings s.name_index s.list_index s.trailer order.order in
    let l = length-drop s.postings bytes in
    length-take-le (s.name_index - s.postings) (drop s.postings bytes) (omega (arith, rise.de, rise.ea, within, l))

-- ---- the whole index

pub opened : (bytes : List ℕ) (s : SectionBytes) (answer : Result Parts IndexFault) → split_of bytes ≡ Ok s →
    read_sections s ≡ answer → opening bytes ≡ answer
unfolding opening
opened bytes s answer split read = ap read_split split ∙ read

pub not_opened : (bytes : List ℕ) (fault : IndexFault) → split_of bytes ≡ Err fault → opening bytes ≡ Err fault
unfolding opening
not_opened bytes fault slices = ap read_split slices

-- ---- an index that stands in the bytes

module _ (bytes : List ℕ) (stored : StoredParts) (parts : Parts) (stands : StandsIn bytes stored parts) where
  pub stands_split : split_of bytes ≡ Ok (sections_at bytes stored.starts)
  stands_split = (split_as_decoded bytes parts stands.decodes).0 ∙ ap (λ (s : SectionBytes). Ok s) stands.sections

  pub stands_read : read_sections (sections_at bytes stored.starts) ≡ Ok parts
  stands_read = ap read_sections (sym stands.sections) ∙ (split_as_decoded bytes parts stands.decodes).1

-- ---- what opens decodes

decodes_or_fails : (bytes : List ℕ) (answer : Result StoredParts IndexFault) → AreBytes bytes → OpensAs bytes answer →
    DecodesOrFails bytes answer
decodes_or_fails bytes (Ok stored) are opens = opens
decodes_or_fails bytes (Err fault) are closed = fails_so bytes fault are closed

pub model_decodes : (model : Option (List ℕ)) (result : Result (Result StoredParts IndexFault) IoFault) → IfSome model AreBytes
    → IfSome model (λ bytes. IfOk result (OpensAs bytes)) → IfSome model (λ bytes. IfOk result (DecodesOrFails bytes))
model_decodes None result are opens = tt
model_decodes (Some bytes) (Ok answer) are opens = decodes_or_fails bytes answer are opens
model_decodes (Some bytes) (Err fault) are opens = tt
