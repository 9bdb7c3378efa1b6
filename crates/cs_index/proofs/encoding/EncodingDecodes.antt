-- The encoding of an index decodes as that index.
use Rattle.std.proofs.Common.{◌≡◌, ℕ, ◌+◌, ◌^◌, ◌<◌, ◌≤◌, List, [], ◌∷◌, ◌++◌, length, map, refl, sym, ap, subst, ◌∙◌, inl, arith, length-append}
use Rattle.cs_index.specs.AscendingIds.{AscendWithin}
use Rattle.cs_trigram.specs.Trigram.{has, Ascends, closing_trigram}
use Rattle.std.proofs.lemmas.Bool.{cond_both}
use Rattle.std.specs.Prelude.{flat_map}
use Rattle.std.specs.List.{AllByRecursion, concat}
use Rattle.cs_index.specs.Encoding.{four_bytes, with_nul, Entry, ids_from, PostingList, posting_list_bytes, postings_of, trigrams_of, ListEntry, list_entries, SectionBytes, sections_of, names_of, encoding_of}
use Rattle.cs_index.specs.Decoding.{IsEntry, DecodesAs}
use Rattle.cs_index.specs.Indexable.{IsIndexable}
use Rattle.cs_index.specs.Roundtrip.{parts_written}
use Rattle.cs_trigram.proofs.SetLemmas.{ascends_set, all_set}
use Rattle.cs_tree.proofs.GatherLemmas.{all-append}
use Rattle.cs_index.proofs.decoding.DecodingIsUnique.{lengths}

-- ---- sets of trigrams

module _ (P : ℕ → Type 0) where
  pub all_sets : (entries : List Entry) → AllByRecursion (λ (entry : Entry). AllByRecursion P entry.1) entries →
      AllByRecursion P (flat_map (λ (entry : Entry). entry.1) entries)
  all_sets [] all = tt
  all_sets (entry ∷ entries) all = all-append P entry.1 _ all.0 (all_sets entries all.1)

-- ---- ids

pub rise_sooner : (name_count next later : ℕ) (ids : List ℕ) → next ≤ later → AscendWithin name_count later ids →
    AscendWithin name_count next ids
rise_sooner name_count next later [] h up = tt
rise_sooner name_count next later (id ∷ ids) h up = (omega (arith, h, up.0), up.1, up.2)

pub ids_rise : (name_count first g : ℕ) (entries : List Entry) → first + length entries ≤ name_count →
    AscendWithin name_count first (ids_from first g entries)
ids_rise name_count first g [] h = tt
ids_rise name_count first g (entry ∷ entries) h =
    let rest : AscendWithin name_count (first + 1) (ids_from (first + 1) g entries) =
    ids_rise name_count (first + 1) g entries (omega (arith, h)) in
    cond_both (has entry.1 g) (first ∷ ids_from (first + 1) g entries) (ids_from (first + 1) g entries) (AscendWithin name_count first)
    (λ _. (omega arith, omega (arith, h), rest))
    (λ _. rise_sooner name_count first (first + 1) (ids_from (first + 1) g entries) (omega arith) rest)

few_ids : (first g : ℕ) (entries : List Entry) → length (ids_from first g entries) ≤ length entries
few_ids first g [] = omega arith
few_ids first g (entry ∷ entries) =
    let rest = few_ids (first + 1) g entries in
    cond_both (has entry.1 g) (first ∷ ids_from (first + 1) g entries) (ids_from (first + 1) g entries)
    (λ ids. length ids ≤ length (entry ∷ entries))
    (λ _. omega (arith, rest)) (λ _. omega (arith, rest))

-- ---- entries of the list index

-- the numbers of an entry fit their widths
abbrev Fit : PostingList → Type 0
Fit p = (p.0 < 16777215) × (length p.1 < 2 ^ 32)

entries_fit : (section : List ℕ) (offset : ℕ) (ps : List PostingList) → AllByRecursion Fit ps →
    offset + length (concat (map posting_list_bytes ps)) + 4 ≡ length section → length section < 2 ^ 32 →
    AllByRecursion (IsEntry section) (list_entries offset ps)
entries_fit section offset [] fit whole short = tt
entries_fit section offset (p ∷ ps) fit whole short =
    let l : length (posting_list_bytes p ++ concat (map posting_list_bytes ps)) ≡ length (posting_list_bytes p)
    + length (concat (map posting_list_bytes ps)) = length-append (posting_list_bytes p) _ in (
      record {
        trigram = inl fit.0.0;
        count = fit.0.1;
        offset = omega (arith, whole, short);
        room = omega (arith, whole);
      },
      entries_fit section (offset + length (posting_list_bytes p)) ps fit.1 (omega (arith, whole, l)) short,
    )

entry_trigrams : (offset : ℕ) (ps : List PostingList) → map (λ (e : ListEntry). e.trigram) (list_entries offset ps)
    ≡ map (λ (p : PostingList). p.0) ps
entry_trigrams offset [] = refl
entry_trigrams offset (p ∷ ps) = ap (λ rest. p.0 ∷ rest) (entry_trigrams (offset + length (posting_list_bytes p)) ps)

posting_trigrams : (entries : List Entry) (gs : List ℕ) → map (λ (p : PostingList). p.0) (map (λ g. (g, ids_from 0 g entries)) gs) ≡ gs
posting_trigrams entries [] = refl
posting_trigrams entries (g ∷ gs) = ap (λ rest. g ∷ rest) (posting_trigrams entries gs)

postings_fit : (entries : List Entry) (gs : List ℕ) → length entries < 2 ^ 31 → AllByRecursion (λ g. g < 16777215) gs →
    AllByRecursion Fit (map (λ g. (g, ids_from 0 g entries)) gs)
postings_fit entries [] bound all = tt
postings_fit entries (g ∷ gs) bound all =
    ((all.0, let n = few_ids 0 g entries in omega (arith, bound, n)), postings_fit entries gs bound all.1)

pub encoding_decodes : (paths : List (List ℕ)) (entries : List Entry) → IsIndexable paths entries →
    DecodesAs (encoding_of paths entries) (parts_written paths entries)
unfolding parts_written
encoding_decodes paths entries h =
    let s : SectionBytes = sections_of paths (names_of entries) (postings_of entries) in
    let short : length s.postings < 2 ^ 32 = let l = lengths s in omega (arith, l.whole, l.bytes_are, h.short) in
    let whole : 0 + length (concat (map posting_list_bytes (postings_of entries))) + 4 ≡ length s.postings = let l =
    length-append (concat (map posting_list_bytes (postings_of entries))) (posting_list_bytes (closing_trigram, [])) in
    omega (arith, l) in
    record {
      sections = s;
      is_layout = record { bytes_are = refl; short = h.short };
      paths_are = (h.each_path, refl);
      names_are = inl (h.each_name, refl);
      postings_are = refl;
      name_index_is = (four_bytes (length (concat (map with_nul (names_of entries)))), refl, refl);
      list_index_is = (
        entries_fit s.postings 0 (postings_of entries)
            (postings_fit entries (trigrams_of entries) h.bound
            (all_set (λ g. g < 16777215) _ (all_sets (λ g. g < 16777215) entries h.trigrams))) whole short,
        subst Ascends (sym (entry_trigrams 0 (postings_of entries) ∙ posting_trigrams entries (trigrams_of entries)))
            (ascends_set (flat_map (λ (entry : Entry). entry.1) entries)),
        refl,
      );
    }
