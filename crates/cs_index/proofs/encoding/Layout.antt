-- The layout of the sections.
use Rattle.std.proofs.Common.{◌≡◌, ℕ, ◌+◌, ◌-◌, ◌<◌, ◌≤◌, List, [], ◌∷◌, ◌++◌, length, map, refl, sym, ap, ◌∙◌, arith, append_assoc, length-append}
use Rattle.std.proofs.lemmas.List.{append-nil, length_push}
use Rattle.std.specs.Prelude.{flat_map}
use Rattle.std.specs.List.{AllByRecursion, concat}
use Rattle.cs_trigram.specs.Trigram.{closing_trigram}
use Rattle.cs_index.specs.Encoding.{four_bytes, entry_bytes, starts_from, SectionBytes, section_list, magic, sections_of, strings_section, trailer, trailer_magic, layout, list_entries, posting_list_bytes, with_nul, ListEntry, PostingList}
use Rattle.cs_index.specs.SectionsInvariant.{entry_from}
use Rattle.cs_index.specs.Written.{prefix_of}

pub starts_below : (limit at : ℕ) (pieces : List (List ℕ)) → at + length (concat pieces) < limit →
    AllByRecursion (λ n. n < limit) (starts_from at pieces)
starts_below limit at [] h = tt
starts_below limit at (p ∷ pieces) h =
    let whole : length (p ++ concat pieces) ≡ length p + length (concat pieces) = length-append p (concat pieces) in
    (omega (arith, h, whole), starts_below limit (at + length p) pieces (omega (arith, h, whole)))

-- the bytes so far
abbrev prefix_1 : SectionBytes → List ℕ
prefix_1 s = magic ++ s.paths

abbrev prefix_2 : SectionBytes → List ℕ
prefix_2 s = prefix_1 s ++ s.names

abbrev prefix_3 : SectionBytes → List ℕ
prefix_3 s = prefix_2 s ++ s.postings

abbrev prefix_4 : SectionBytes → List ℕ
prefix_4 s = prefix_3 s ++ s.name_index

abbrev prefix_5 : SectionBytes → List ℕ
prefix_5 s = prefix_4 s ++ s.list_index

-- the sections one after the other, then the trailer
pub record WrittenInOrder (s : SectionBytes) (first second third fourth fifth out starts : List ℕ) : Type 0 where
  pub paths : first ≡ magic ++ s.paths
  pub names : second ≡ first ++ s.names
  pub postings : third ≡ second ++ s.postings
  pub name_index : fourth ≡ third ++ s.name_index
  pub list_index : fifth ≡ fourth ++ s.list_index
  pub trailer : out ≡ fifth ++ (flat_map four_bytes starts ++ trailer_magic)
  pub starts_are : starts ≡ 16 ∷ length first ∷ length second ∷ length third ∷ length fourth ∷ []

prefix_is : (s : SectionBytes) → prefix_5 s ≡ magic ++ concat (section_list s)
prefix_is s =
    ap (λ f. ((f ++ s.postings) ++ s.name_index) ++ s.list_index) (append_assoc magic s.paths s.names)
    ∙ ap (λ f. (f ++ s.name_index) ++ s.list_index) (append_assoc magic (s.paths ++ s.names) s.postings)
    ∙ ap (λ f. f ++ s.list_index) (append_assoc magic ((s.paths ++ s.names) ++ s.postings) s.name_index)
    ∙ append_assoc magic (((s.paths ++ s.names) ++ s.postings) ++ s.name_index) s.list_index
    ∙ ap (λ b. magic ++ b) (
    ap (λ f. ((f ++ s.name_index) ++ s.list_index)) (append_assoc s.paths s.names s.postings)
    ∙ ap (λ f. f ++ s.list_index) (append_assoc s.paths (s.names ++ s.postings) s.name_index)
    ∙ append_assoc s.paths ((s.names ++ s.postings) ++ s.name_index) s.list_index
    ∙ ap (λ b. s.paths ++ b) (
    ap (λ f. f ++ s.list_index) (append_assoc s.names s.postings s.name_index)
    ∙ append_assoc s.names (s.postings ++ s.name_index) s.list_index
    ∙ ap (λ b. s.names ++ b)
    (append_assoc s.postings s.name_index s.list_index
    ∙ ap (λ b. s.postings ++ (s.name_index ++ b)) (sym (append-nil s.list_index)))
    )
    )

pub layout_is : (s : SectionBytes) (first second third fourth fifth out starts : List ℕ) →
    WrittenInOrder s first second third fourth fifth out starts → out ≡ layout s
layout_is s first second third fourth fifth out starts h =
    let one : length first ≡ 16 + length s.paths = ap length h.paths ∙ length-append magic s.paths in
    let two : length second ≡ length first + length s.names = ap length h.names ∙ length-append first s.names in
    let three : length third ≡ length second + length s.postings = ap length h.postings
    ∙ length-append second s.postings in
    let four : length fourth ≡ length third + length s.name_index = ap length h.name_index
    ∙ length-append third s.name_index in
    let b : length second ≡ 16 + length s.paths + length s.names = omega (arith, one, two) in
    let c : length third ≡ 16 + length s.paths + length s.names + length s.postings = omega (arith, b, three) in
    let d : length fourth ≡ 16 + length s.paths + length s.names + length s.postings + length s.name_index = omega
    (arith, c, four) in
    let starts_are : starts ≡ starts_from 16 (section_list s) = h.starts_are ∙ (λ i. 16 ∷ one i ∷ b i ∷ c i ∷ d i ∷ []) in
    let prefix : fifth ≡ prefix_5 s =
    h.list_index ∙ ap (λ f. f ++ s.list_index)
    (h.name_index ∙ ap (λ f. f ++ s.name_index)
    (h.postings ∙ ap (λ f. f ++ s.postings) (h.names ∙ ap (λ f. f ++ s.names) h.paths))) in
    h.trailer
    ∙ ap (λ ns. fifth ++ (flat_map four_bytes ns ++ trailer_magic)) starts_are
    ∙ ap (λ f. f ++ (flat_map four_bytes (starts_from 16 (section_list s)) ++ trailer_magic)) (prefix ∙ prefix_is s)
    ∙ append_assoc magic (concat (section_list s)) (flat_map four_bytes (starts_from 16 (section_list s)) ++ trailer_magic)

-- ---- entries with relative offsets

pub entries_back : (start at : ℕ) (ps : List PostingList) → start ≤ at →
    map (entry_from start) (list_entries at ps) ≡ list_entries (at - start) ps
entries_back start at [] h = refl
entries_back start at (p ∷ ps) h =
    let next : at + length (posting_list_bytes p) - start ≡ at - start + length (posting_list_bytes p) = omega (arith, h) in
    ap (λ es. record { trigram = p.0; count = length p.1; offset = at - start } ∷ es)
    (entries_back start (at + length (posting_list_bytes p)) ps (omega (arith, h)) ∙ ap (λ n. list_entries n ps) next)

pub entries_near : (start at limit : ℕ) (ps : List PostingList) → start ≤ at →
    at + length (concat (map posting_list_bytes ps)) < limit →
    AllByRecursion (λ (e : ListEntry). (start ≤ e.offset) × (e.offset < limit)) (list_entries at ps)
entries_near start at limit [] h less = tt
entries_near start at limit (p ∷ ps) h less =
    let long : length (posting_list_bytes p ++ concat (map posting_list_bytes ps)) ≡ length (posting_list_bytes p) + length
    (concat (map posting_list_bytes ps)) = length-append (posting_list_bytes p) (concat (map posting_list_bytes ps)) in (
      (h, omega (arith, less, long)),
      entries_near start (at + length (posting_list_bytes p)) limit ps (omega (arith, h))
          (omega (arith, less, long)),
    )

-- ---- the sections after the prefix

pub prefix_1_long : (paths names : List (List ℕ)) (ps : List PostingList) (len : ℕ) →
    len ≡ length (concat (map with_nul paths)) → 16 + len + 1 ≡ length (prefix_1 (sections_of paths names ps))
prefix_1_long paths names ps len is =
    let text : length (concat (map with_nul paths) ++ 0 ∷ []) ≡ length (concat (map with_nul paths)) + 1 = length_push
    (concat (map with_nul paths)) 0 in
    let whole : length (magic ++ strings_section paths) ≡ 16 + length (strings_section paths) = length-append magic
    (strings_section paths) in
    omega (arith, text, whole, is)

pub prefix_2_long : (paths names : List (List ℕ)) (ps : List PostingList) (len more : ℕ) →
    len ≡ length (concat (map with_nul paths)) → more ≡ length (concat (map with_nul names)) →
    16 + len + 1 + more + 1 ≡ length (prefix_2 (sections_of paths names ps))
prefix_2_long paths names ps len more is also =
    let first = prefix_1_long paths names ps len is in
    let text : length (concat (map with_nul names) ++ 0 ∷ []) ≡ length (concat (map with_nul names)) + 1 = length_push
    (concat (map with_nul names)) 0 in
    let whole : length (prefix_1 (sections_of paths names ps) ++ strings_section names) ≡ length
    (prefix_1 (sections_of paths names ps)) + length (strings_section names) = length-append
    (prefix_1 (sections_of paths names ps)) (strings_section names) in
    omega (arith, first, text, whole, also)

pub third_is : (paths names : List (List ℕ)) (ps : List PostingList) (bytes third : List ℕ) →
    bytes ≡ prefix_of paths names ++ concat (map posting_list_bytes ps) → third ≡ bytes ++ (posting_list_bytes (closing_trigram, [])) →
    third ≡ prefix_3 (sections_of paths names ps)
third_is paths names ps bytes third is also = also ∙ ap (λ bs. bs ++ (posting_list_bytes (closing_trigram, []))) is
    ∙ append_assoc (prefix_of paths names) (concat (map posting_list_bytes ps)) (posting_list_bytes (closing_trigram, []))

pub list_index_is : (paths names : List (List ℕ)) (ps : List PostingList) (entries : List ListEntry) (start : ℕ) →
    entries ≡ list_entries (length (prefix_of paths names)) ps → start ≡ length (prefix_of paths names) →
    flat_map entry_bytes (map (entry_from start) entries) ≡ flat_map entry_bytes (list_entries 0 ps)
list_index_is paths names ps entries start is at =
    let long : ℕ = length (prefix_of paths names) in
    let none : long - long ≡ 0 = omega arith in
    ap (flat_map entry_bytes)
    ((λ i. map (entry_from (at i)) (is i)) ∙ entries_back long long ps (omega arith)
    ∙ ap (λ n. list_entries n ps) none)

pub back_is : (s : SectionBytes) (third fourth fifth out starts : List ℕ) → third ≡ prefix_3 s →
    fourth ≡ third ++ s.name_index → fifth ≡ fourth ++ s.list_index →
    out ≡ fifth ++ (flat_map four_bytes starts ++ trailer_magic) →
    starts ≡ 16 ∷ length (prefix_1 s) ∷ length (prefix_2 s) ∷ length third ∷ length fourth ∷ [] → out ≡ layout s
back_is s third fourth fifth out starts a b c d e =
    layout_is s (prefix_1 s) (prefix_2 s) third fourth fifth out starts
    (record {
      paths = refl;
      names = refl;
      postings = a;
      name_index = b;
      list_index = c;
      trailer = d;
      starts_are =
          e;
    })

pub layout_long : (s : SectionBytes) (third fourth fifth : List ℕ) → third ≡ prefix_3 s → fourth ≡ third ++ s.name_index →
    fifth ≡ fourth ++ s.list_index → length (layout s) ≡ length fifth + 36
layout_long s third fourth fifth a b c =
    let prefix : fifth ≡ prefix_5 s = c ∙ ap (λ f. f ++ s.list_index) (b ∙ ap (λ f. f ++ s.name_index) a) in
    let whole : layout s ≡ fifth ++ trailer s = sym (append_assoc magic (concat (section_list s)) (trailer s))
    ∙ ap (λ f. f ++ trailer s) (sym (prefix ∙ prefix_is s)) in
    ap length whole ∙ length-append fifth (trailer s)
