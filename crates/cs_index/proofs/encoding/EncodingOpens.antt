-- The encoding of paths and entries opens as these.
use Rattle.std.proofs.Common.{◌≡◌, ℕ, zero, suc, ◌+◌, ◌<◌, true, ◌&&◌, List, [], ◌∷◌, length, map, get_or, Ok, refl, ap, ◌∙◌, arith}
use Rattle.cs_index.specs.Roundtrip.{parts_written, IsIndexWith}
use Rattle.cs_index.specs.PostingLists.{read_list, set_at, entries_of}
use Rattle.cs_index.specs.WholeLists.{IsList}
use Rattle.cs_trigram.specs.Trigram.{Ascends}
use Rattle.std.proofs.lemmas.List.{length-map}
use Rattle.std.specs.List.{AllByRecursion, AllZip, list_all}
use Rattle.cs_index.specs.Encoding.{Entry, ListEntry, PostingList, encoding_of, list_entries, names_of, postings_of, posting_list_bytes}
use Rattle.cs_index.specs.Indexable.{IsIndexable}
use Rattle.cs_index.specs.Opening.{opening}
use Rattle.cs_index.specs.OpenedParts.{Parts, lists_in, whole_ids}
use Rattle.cs_index.proofs.encoding.ListsReadBack.{encoded_lists_read}
use Rattle.cs_index.proofs.decoding.DecodableBytesOpen.{opens_as_decoded}
use Rattle.cs_index.proofs.encoding.EncodingDecodes.{encoding_decodes}
use Rattle.cs_index.proofs.encoding.Inversion.{set_back}

pub encoding_opens : (paths : List (List ℕ)) (entries : List Entry) → IsIndexable paths entries →
    opening (encoding_of paths entries) ≡ Ok (parts_written paths entries)
encoding_opens paths entries h = opens_as_decoded (encoding_of paths entries) (parts_written paths entries)
    (encoding_decodes paths entries h)

-- ---- lists

pub lists_back : (section : List ℕ) (name_count offset : ℕ) (ps : List PostingList) →
    AllZip (λ (e : ListEntry) (p : PostingList). IsList section name_count e p.1) (list_entries offset ps) ps →
    map (λ (e : ListEntry). (e.trigram, whole_ids (read_list section name_count e))) (list_entries offset ps) ≡ ps
lists_back section name_count offset [] all = refl
lists_back section name_count offset (p ∷ ps) all =
    let rest = lists_back section name_count (offset + length (posting_list_bytes p)) ps all.1 in
    λ i. (p.0, whole_ids (all.0 i)) ∷ rest i

whole_back : (section : List ℕ) (name_count offset : ℕ) (ps : List PostingList) →
    AllZip (λ (e : ListEntry) (p : PostingList). IsList section name_count e p.1) (list_entries offset ps) ps →
    list_all (λ (e : ListEntry). (read_list section name_count e).whole) (list_entries offset ps) ≡ true
whole_back section name_count offset [] all = refl
whole_back section name_count offset (p ∷ ps) all =
    let rest = whole_back section name_count (offset + length (posting_list_bytes p)) ps all.1 in
    λ i. (all.0 i).whole && rest i

-- ---- sets

-- the set of each entry is read back from the lists; the first entry has the id `first`
AreSets : ℕ → List Entry → List PostingList → Type 0
AreSets first entries postings = (k : ℕ) (d : Entry) → k < length entries → set_at (first + k) postings ≡ (get_or entries k d).1

files_back : (first : ℕ) (entries : List Entry) (postings : List PostingList) → AreSets first entries postings →
    entries_of first (names_of entries) postings ≡ entries
unfolding AreSets
files_back first [] postings sets = refl
files_back first (entry ∷ entries) postings sets =
    let here : set_at first postings ≡ entry.1 = ap (λ k. set_at k postings) (let z : first ≡ first + 0 = omega arith in
    z) ∙ sets 0 entry (omega arith) in
    let rest = files_back (first + 1) entries postings
    (λ k d l. ap (λ n. set_at n postings) (let z : first + 1 + k ≡ first + suc k = omega arith in z)
    ∙ sets (suc k) d (omega (arith, l))) in
    λ i. (entry.0, here i) ∷ rest i

set_ascends : (entries : List Entry) (k : ℕ) (d : Entry) → k < length entries →
    AllByRecursion (λ (entry : Entry). Ascends entry.1) entries → Ascends (get_or entries k d).1
set_ascends [] k d h all = absurd (omega (arith, h))
set_ascends (entry ∷ entries) zero d h all = all.0
set_ascends (entry ∷ entries) (suc k) d h all = set_ascends entries k d (omega (arith, h)) all.1

pub encoding_has : (paths : List (List ℕ)) (entries : List Entry) → IsIndexable paths entries →
    IsIndexWith (parts_written paths entries) paths entries
unfolding parts_written AreSets
encoding_has paths entries h =
    let parts : Parts = parts_written paths entries in
    let postings : List PostingList = postings_of entries in
    let count : length (names_of entries) ≡ length entries = length-map entries (λ (entry : Entry). entry.0) in
    let lists : lists_in parts ≡ postings = ap
    (λ n. map (λ (e : ListEntry). (e.trigram, whole_ids (read_list parts.postings n e))) (list_entries 0 postings))
    count ∙ lists_back parts.postings (length entries) 0 postings (encoded_lists_read entries h.bound) in
    record {
      has_paths = refl;
      has_names = refl;
      has_lists = lists;
      whole = ap (λ n. list_all (λ (e : ListEntry). (read_list parts.postings n e).whole) (list_entries 0 postings))
          count ∙ whole_back parts.postings (length entries) 0 postings (encoded_lists_read entries h.bound);
      has_files = λ sets. ap (entries_of 0 (names_of entries)) lists
          ∙ files_back 0 entries postings (λ k d l. ap (λ n. set_at n postings) (let z : 0 + k ≡ k = omega arith in z)
          ∙ set_back entries k d l (set_ascends entries k d l sets));
    }
