-- An index that opens, whoever wrote it: what it decodes as is valid content.
use Rattle.cs_history.proofs.Common.{cases_Bool, and_parts, or_cases, eqb-true, ltb-true, AllByRecursion, list_all, eq_by_cmp, nat_list_cmp_total, find, bytes_cmp, is_covered, is_normalized, tied_is, Ascends, closing_trigram, Entry, ListEntry, PostingList, SectionBytes, IsString, three_bytes, split_of, parts_of, texts_of, is_section, is_names_section, is_name_index, is_list_index, is_entry, rises, Parts, ids_read, whole_ids, lists_in, files_in, section_read, EachFile, IsContent, LieUnder, Fits, from_list_all, set_fits, set_ascends, all_files, AreClean, IsStartIndex}
use Rattle.std.proofs.Common.{◌≡◌, ℕ, ◌+◌, Bool, true, false, cond, not, ◌||◌, eqb, leb, ltb, List, [], ◌∷◌, length, map, take, drop, refl, sym, ap, subst, ◌∙◌, inl, inr, Some, Result, Ok, Err, bytes_eq}
use Rattle.std.specs.FinMap as map'
use Rattle.cs_tree.specs.PathSet as set
use Rattle.cs_trigram.specs.TrigramSets.{IsTrigramSet}
use Rattle.cs_index.specs.PostingLists.{damage, read_ids, set_at, entries_of}
use Rattle.cs_index.specs.Opening.{opening}
use Rattle.cs_index.specs.ValidSections.{read_split}
use Rattle.cs_index.specs.OpenedParts.{are_covered}
use Rattle.cs_index.specs.declared.fault.IndexFault.{IndexFault}
use Rattle.cs_index.specs.declared.fault.IndexFault.TheVariants.{BadPaths, BadNames, BadNameIndex, BadListIndex}
use Rattle.cs_index.proofs.decoding.IndexFields.{entries_rise}
use Rattle.cs_index.proofs.decoding.DecodableBytesOpen.{opens_as_decoded}
use Rattle.cs_index.proofs.decoding.PartsAreValid.{entries_fit}

-- ---- what opens

-- the checks of opening
record AreOpened (parts : Parts) : Type 0 where
  each_path : AllByRecursion IsString parts.paths
  each_name : AllByRecursion IsString parts.names
  rise : rises parts.entries ≡ true
  fit : list_all (λ (e : ListEntry). is_entry (length parts.postings) e) parts.entries ≡ true

all_passed : (a b c d : Bool) (parts other : Parts) →
    cond (not a) (Err BadPaths) (cond (not b) (Err BadNames)
    (cond (not c) (Err BadNameIndex) (cond (not d) (Err BadListIndex) (Ok parts)))) ≡ Ok other →
    (a ≡ true) × (b ≡ true) × (d ≡ true) × (parts ≡ other)
all_passed true true true true parts other h = (refl, refl, refl, cc)
all_passed true true true false parts other h = cc
all_passed true true false d parts other h = cc
all_passed true false c d parts other h = cc
all_passed false b c d parts other h = cc

from_sections : (s : SectionBytes) (parts : Parts) → read_split (Ok s) ≡ Ok parts → AreOpened parts
from_sections s parts h =
    let passed = all_passed (is_section (0 ∷ []) s.paths) (is_names_section s.names)
    (is_name_index s.name_index (texts_of s.names)) (is_list_index (length s.postings) s.list_index) (parts_of s)
    parts h in
    subst AreOpened passed.3 (record {
      each_path = (section_read (0 ∷ []) s.paths passed.0).0;
      each_name = elim (or_cases (is_section (0 ∷ []) s.names) (is_section [] s.names) passed.1) [
        | inl closed ↦ (section_read (0 ∷ []) s.names closed).0
        | inr bare ↦ (section_read [] s.names bare).0
      ];
      rise = entries_rise (length s.postings) s.list_index passed.2;
      fit = entries_fit (length s.postings) s.list_index passed.2;
    })

are_opened : (bytes : List ℕ) (parts : Parts) → opening bytes ≡ Ok parts → AreOpened parts
unfolding opening
are_opened bytes parts h = from_cut (split_of bytes) h
  where
    from_cut : (r : Result SectionBytes IndexFault) → read_split r ≡ Ok parts → AreOpened parts
    from_cut (Ok s) h = from_sections s parts h
    from_cut (Err fault) h = cc

-- ---- its trigram sets

module _ (parts : Parts) where
  abbrev list_of : ListEntry → PostingList
  list_of e = (e.trigram, whole_ids (ids_read parts e))

  lists_rise : (es : List ListEntry) → rises es ≡ true → Ascends (map (λ (p : PostingList). p.0) (map list_of es))
  lists_rise [] h = tt
  lists_rise (d ∷ []) h = tt
  lists_rise (d ∷ e ∷ es) h =
      let both = and_parts (ltb d.trigram e.trigram) (rises (e ∷ es)) h in
      (ltb-true d.trigram e.trigram both.0, lists_rise (e ∷ es) both.1)

  none_counted : (e : ListEntry) → e.count ≡ 0 → whole_ids (ids_read parts e) ≡ []
  none_counted e none =
      ap (λ count. whole_ids (cond (bytes_eq (take 3 (drop e.offset parts.postings)) (three_bytes e.trigram))
      (read_ids (length parts.names) count 0 (drop (e.offset + 3) parts.postings)) damage)) none
      ∙ elim (bytes_eq (take 3 (drop e.offset parts.postings)) (three_bytes e.trigram)) as
      (λ b. whole_ids (cond b (read_ids (length parts.names) 0 0 (drop (e.offset + 3) parts.postings)) damage) ≡ []) [
        | true ↦ either (read_ids (length parts.names) 0 0 (drop (e.offset + 3) parts.postings)).whole
        | false ↦ refl
      ]
    where
      either : (b : Bool) → cond {A = List ℕ} b [] [] ≡ []
      either true = refl
      either false = refl

  lists_fit : (es : List ListEntry) → list_all (λ (e : ListEntry). is_entry (length parts.postings) e) es ≡ true →
      AllByRecursion Fits (map list_of es)
  lists_fit [] h = tt
  lists_fit (e ∷ es) h =
      let both = and_parts (is_entry (length parts.postings) e) (list_all (λ (d : ListEntry). is_entry (length parts.postings) d) es) h in
      let last = and_parts (leb (e.offset + 4) (length parts.postings)) (ltb e.trigram closing_trigram || eqb e.count 0) both.0 in (
        elim (or_cases (ltb e.trigram closing_trigram) (eqb e.count 0) last.1) [
          | inl below ↦ inl (ltb-true e.trigram closing_trigram below)
          | inr none ↦ inr (none_counted e (eqb-true e.count 0 none))
        ],
        lists_fit es both.1,
      )

-- ---- what bytes decode as is valid content

pub find_all : (P : List ℕ → List ℕ → Type 0) (entries : List Entry) (name trigrams : List ℕ) →
    AllByRecursion (λ (e : Entry). P e.0 e.1) entries → find bytes_cmp name entries ≡ Some trigrams → P name trigrams
find_all P [] name trigrams all h = cc
find_all P (e ∷ entries) name trigrams all h =
    elim (cases_Bool (eq_by_cmp bytes_cmp name e.0)) [
      | inl here ↦
          let is : e.1 ≡ trigrams = same_some e.1 trigrams (sym (ap (λ t. cond t (Some e.1) (find bytes_cmp name entries)) here) ∙ h) in
          subst (P name) is (subst (λ n. P n e.1) (sym (tied_is name e.0 here)) all.0)
      | inr apart ↦ find_all P entries name trigrams all.1 (sym (ap (λ t. cond t (Some e.1) (find bytes_cmp name entries)) apart) ∙ h)
    ]
  where
    same_some : (s t : List ℕ) → Some s ≡ Some t → s ≡ t
    same_some s t e = cc

-- what holds for each name and for each set holds for each file
each_decoded : (parts : Parts) (P Q : List ℕ → Type 0) → AllByRecursion P parts.names →
    ((id : ℕ) → Q (set_at id (lists_in parts))) → EachFile (λ name trigrams. P name × Q trigrams) (files_in parts)
each_decoded parts P Q names sets name trigrams there =
    find_all (λ n (t : List ℕ). P n × Q t) (entries_of 0 parts.names (lists_in parts)) name trigrams
    (all_files P Q 0 parts.names (lists_in parts) names sets)
    (sym (map'.get-from_entries nat_list_cmp_total (entries_of 0 parts.names (lists_in parts)) name) ∙ there)

pub decoded_content : (bytes : List ℕ) (parts : Parts) → opening bytes ≡ Ok parts → IsContent (set.from_list parts.paths) (files_in parts)
decoded_content bytes parts opens =
    let are = are_opened bytes parts opens in
    let each = each_decoded parts IsString IsTrigramSet are.each_name
    (λ id. (
      set_ascends id (lists_in parts) (lists_rise parts parts.entries are.rise),
      set_fits id (lists_in parts)
          (lists_fit parts parts.entries are.fit),
    )) in
    record {
      paths_are = from_list_all IsString parts.paths are.each_path;
      names_are = λ name trigrams there. (each name trigrams there).0;
      sets_are = λ name trigrams there. (each name trigrams there).1;
    }

all_true : (test : List ℕ → Bool) (names : List (List ℕ)) → list_all test names ≡ true → AllByRecursion (λ name. test name ≡ true) names
all_true test [] h = tt
all_true test (name ∷ names) h = let both = and_parts (test name) (list_all test names) h in (both.0, all_true test names both.1)

-- ---- an index that a history may start from

pub start_opens : (bytes : List ℕ) (parts : Parts) → IsStartIndex bytes parts → opening bytes ≡ Ok parts
start_opens bytes parts is = opens_as_decoded bytes parts is.decoded

pub start_clean : (bytes : List ℕ) (parts : Parts) → IsStartIndex bytes parts → AreClean (set.from_list parts.paths)
start_clean bytes parts is path member = (
  ((decoded_content bytes parts (start_opens bytes parts is)).paths_are path member).2,
  from_list_all (λ p. is_normalized p ≡ true) parts.paths (all_true is_normalized parts.paths is.normalized) path member,
)

pub start_lies : (bytes : List ℕ) (parts : Parts) → IsStartIndex bytes parts → LieUnder (set.from_list parts.paths) (files_in parts)
unfolding are_covered
start_lies bytes parts is name trigrams there =
    (each_decoded parts (λ n. is_covered (set.from_list parts.paths) n ≡ true) (λ (t : List ℕ). Unit {0})
    (all_true (is_covered (set.from_list parts.paths)) parts.names is.mergeable.covered) (λ id. tt) name trigrams
    there).0
