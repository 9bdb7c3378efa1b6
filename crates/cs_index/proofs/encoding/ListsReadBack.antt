-- Each posting list of an encoded index is read back.
use Rattle.std.proofs.Common.{◌≡◌, ℕ, ◌+◌, ◌<◌, ◌≤◌, ◌^◌, cond, List, [], ◌∷◌, ◌++◌, length, map, take, drop, refl, sym, ap, subst, ◌∙◌, arith, append_assoc, length-append}
use Rattle.cs_index.specs.AscendingIds.{AscendWithin}
use Rattle.cs_index.specs.PostingLists.{damage, read_ids}
use Rattle.cs_index.specs.WholeLists.{IsList}
use Rattle.std.proofs.lemmas.List.{drop_at, drop-drop}
use Rattle.std.specs.Prelude.{flat_map, bytes_eq}
use Rattle.std.specs.List.{AllByRecursion, AllZip, concat}
use Rattle.std.specs.Cmp.Lexicographic.{bytes_decides}
use Rattle.cs_trigram.specs.Trigram.{closing_trigram}
use Rattle.cs_index.specs.Encoding.{three_bytes, varint, PostingList, posting_list_bytes, deltas_from, ListEntry, list_entries, Entry, ids_from, postings_of, trigrams_of}
use Rattle.cs_index.proofs.encoding.VarintRoundtrip.{ids_read}
use Rattle.cs_index.proofs.encoding.EncodingDecodes.{ids_rise}

one_list : (prefix rest : List ℕ) (p : PostingList) (name_count : ℕ) → name_count < 2 ^ 32 →
    AscendWithin name_count 0 p.1 → IsList (prefix ++ (posting_list_bytes p ++ rest)) name_count
    (record { trigram = p.0; count = length p.1; offset = length prefix }) p.1
one_list prefix rest p name_count bound up =
    let section : List ℕ = prefix ++ (posting_list_bytes p ++ rest) in
    let at : drop (length prefix) section ≡ posting_list_bytes p ++ rest = drop_at prefix (posting_list_bytes p ++ rest)
    (length prefix) refl in
    let after : drop (length prefix + 3) section ≡ (flat_map varint (deltas_from 0 p.1) ++ 0 ∷ []) ++ rest =
    sym (drop-drop 3 (length prefix) section) ∙ ap (drop 3) at in
    let after' : drop (length prefix + 3) section ≡ flat_map varint (deltas_from 0 p.1) ++ 0 ∷ rest = after
    ∙ append_assoc (flat_map varint (deltas_from 0 p.1)) (0 ∷ []) rest in
    ap (λ bytes. cond (bytes_eq (take 3 bytes) (three_bytes p.0))
    (read_ids name_count (length p.1) 0 (drop (length prefix + 3) section)) damage) at
    ∙ ap (λ b. cond b (read_ids name_count (length p.1) 0 (drop (length prefix + 3) section)) damage)
    ((bytes_decides (three_bytes p.0) (three_bytes p.0)).1 refl)
    ∙ ap (read_ids name_count (length p.1) 0) after'
    ∙ ids_read name_count 0 p.1 rest bound up

pub lists_are : (prefix rest : List ℕ) (ps : List PostingList) (name_count : ℕ) → name_count < 2 ^ 32 →
    AllByRecursion (λ (p : PostingList). AscendWithin name_count 0 p.1) ps →
    AllZip (λ (e : ListEntry) (p : PostingList). IsList (prefix ++ (concat (map posting_list_bytes ps) ++ rest))
    name_count e p.1) (list_entries (length prefix) ps) ps
lists_are prefix rest [] name_count bound up = tt
lists_are prefix rest (p ∷ ps) name_count bound up =
    let more : List ℕ = concat (map posting_list_bytes ps) ++ rest in
    let here : prefix ++ ((posting_list_bytes p ++ concat (map posting_list_bytes ps)) ++ rest)
    ≡ prefix ++ (posting_list_bytes p ++ more) =
    ap (λ t. prefix ++ t) (append_assoc (posting_list_bytes p) (concat (map posting_list_bytes ps)) rest) in
    let there : (prefix ++ posting_list_bytes p) ++ more ≡ prefix ++ (posting_list_bytes p ++ more) =
    append_assoc prefix (posting_list_bytes p) more in
    let long : length (prefix ++ posting_list_bytes p) ≡ length prefix + length (posting_list_bytes p) =
    length-append prefix (posting_list_bytes p) in (
      subst (λ section. IsList section name_count (record { trigram = p.0; count = length p.1; offset = length prefix })
          p.1) (sym here) (one_list prefix more p name_count bound up.0),
      subst (λ section. AllZip (λ (e : ListEntry) (q : PostingList). IsList section name_count e q.1)
          (list_entries (length prefix + length (posting_list_bytes p)) ps) ps) (there ∙ sym here)
          (subst (λ at. AllZip (λ (e : ListEntry) (q : PostingList). IsList ((prefix ++ posting_list_bytes p) ++ more)
          name_count e q.1) (list_entries at ps) ps) long
          (lists_are (prefix ++ posting_list_bytes p) rest ps name_count bound up.1)),
    )

all_rise : (name_count : ℕ) (entries : List Entry) (gs : List ℕ) → length entries ≤ name_count →
    AllByRecursion (λ (p : PostingList). AscendWithin name_count 0 p.1) (map (λ g. (g, ids_from 0 g entries)) gs)
all_rise name_count entries [] h = tt
all_rise name_count entries (g ∷ gs) h = (ids_rise name_count 0 g entries (omega (arith, h)), all_rise name_count entries gs h)

-- each list of an encoding
pub encoded_lists_read : (entries : List Entry) → length entries < 2 ^ 31 →
    AllZip (λ (e : ListEntry) (p : PostingList). IsList (concat (map posting_list_bytes (postings_of entries))
    ++ (posting_list_bytes (closing_trigram, []))) (length entries) e p.1) (list_entries 0 (postings_of entries))
    (postings_of entries)
encoded_lists_read entries bound = lists_are [] (posting_list_bytes (closing_trigram, [])) (postings_of entries)
    (length entries) (omega (arith, bound)) (all_rise (length entries) entries (trigrams_of entries) (omega arith))
