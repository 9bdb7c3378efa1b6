-- Entries that are read from a store by position.
use Rattle.std.proofs.Common.{◌≡◌, ℕ, zero, suc, true, ◌+◌, ◌-◌, ◌*◌, ◌/◌, ◌<◌, ◌≤◌, cond, List, [], ◌∷◌, ◌++◌, length, take, drop, get_or, Option, None, Some, refl, sym, ap, subst, ◌∙◌, arith, append_assoc, drop-cons, drop-drop, length-drop, length-take}
use Rattle.cs_tree.proofs.GatherLemmas.{all-append}
use Rattle.std.proofs.lemmas.List.{append-nil, get_or-drop, get_or-take, length-take-le, map-append, take_all, take_more}
use Rattle.std.proofs.lemmas.List.Elements.{filter-append}
use Rattle.std.specs.List.{AllByRecursion}
use Rattle.std.specs.Option.{is_some}
use Rattle.std.specs.Simd.{first_chunks}
use Rattle.std.specs.Prelude.{filter, option_map, IfSome}
use Rattle.cs_trigram.specs.Trigram.{Ascends}
use Rattle.cs_trigram.proofs.SetLemmas.{ascends_tail}
use Rattle.cs_index.specs.Postings.{entry_of, has_entry}
use Rattle.cs_index.specs.declared.reading.entries.Entry.{Entry}
use Rattle.std.specs.Int.{from_be_bytes, w32}
use Rattle.cs_tree.specs.Store.{part_of}
use Rattle.cs_index.specs.Encoding.{ListEntry}
use Rattle.cs_index.specs.Opening.{entries_in, entry_at, number_at, rises, trigram_at}
use Rattle.cs_index.specs.StoredEntries.{entry_read, trigrams_listed, HasEntries}
use Rattle.cs_index.specs.declared.reading.section_offsets.SectionOffsets.{SectionOffsets}
use Rattle.cs_index.proofs.decoding.EntryTables.{entry_found, entry_none, later}

-- ---- numbers of a part

module _ (bytes : List ℕ) (at len k : ℕ) where
  byte_part : (j : ℕ) → k + j < len → get_or (part_of bytes at len) (k + j) 0 ≡ get_or bytes (at + k + j) 0
  byte_part j h = get_or-take len (drop at bytes) (k + j) 0 h ∙ get_or-drop at bytes (k + j) 0
      ∙ ap (λ n. get_or bytes n 0) (let z : at + (k + j) ≡ at + k + j = omega arith in z)

  first_part : k < len → get_or (part_of bytes at len) k 0 ≡ get_or bytes (at + k) 0
  first_part h = get_or-take len (drop at bytes) k 0 h ∙ get_or-drop at bytes k 0

  pub number_part : k + 4 ≤ len → number_at (part_of bytes at len) k ≡ number_at bytes (at + k)
  unfolding number_at
  number_part h = λ i. from_be_bytes w32 (first_part (omega (arith, h)) i ∷ byte_part 1 (omega (arith, h)) i
      ∷ byte_part 2 (omega (arith, h)) i ∷ byte_part 3 (omega (arith, h)) i ∷ [])

  pub trigram_part : k + 3 ≤ len → trigram_at (part_of bytes at len) k ≡ trigram_at bytes (at + k)
  unfolding trigram_at
  trigram_part h = λ i. from_be_bytes w32 (0 ∷ first_part (omega (arith, h)) i ∷ byte_part 1 (omega (arith, h)) i
      ∷ byte_part 2 (omega (arith, h)) i ∷ [])

number_after : (bytes : List ℕ) (at len k j : ℕ) → k + j + 4 ≤ len → number_at (part_of bytes at len) (k + j) ≡ number_at bytes (at + k + j)
number_after bytes at len k j h = number_part bytes at len (k + j) h
    ∙ ap (number_at bytes) (let z : at + (k + j) ≡ at + k + j = omega arith in z)

pub entry_part : (bytes : List ℕ) (at len k : ℕ) → k + 11 ≤ len → entry_at (part_of bytes at len) k ≡ entry_at bytes (at + k)
entry_part bytes at len k h = λ i. record {
  trigram = trigram_part bytes at len k (omega (arith, h)) i;
  count = number_after bytes at len k 3 (omega (arith, h)) i;
  offset = number_after bytes at len k 7 (omega (arith, h)) i;
}

-- a chunk is the bytes of its entry
pub chunk_entry : (bytes : List ℕ) (n k : ℕ) (d : List ℕ) → k < n → entry_at (get_or (first_chunks 11 n bytes) k d) 0 ≡ entry_at bytes (11 * k)
chunk_entry bytes n k d h = ap (λ p. entry_at p 0) (chunk n bytes k h) ∙ entry_part bytes (11 * k) 11 0 (omega arith)
    ∙ ap (entry_at bytes) (let z : 11 * k + 0 ≡ 11 * k = omega arith in z)
  where
    chunk : (n : ℕ) (bytes : List ℕ) (k : ℕ) → k < n → get_or (first_chunks 11 n bytes) k d ≡ part_of bytes (11 * k) 11
    chunk zero bytes k h = absurd (omega (arith, h))
    chunk (suc n) bytes zero h = refl
    chunk (suc n) bytes (suc k) h = chunk n (drop 11 bytes) k (omega (arith, h)) ∙ ap (take 11) (drop-drop (11 * k) 11 bytes
        ∙ ap (λ at. drop at bytes) (let z : 11 + 11 * k ≡ 11 * suc k = omega arith in z))

-- a buffer that is filled where the bytes do not end
pub filled : (bytes buf : List ℕ) (at n : ℕ) → take n buf ≡ part_of bytes at (length buf) → at + length buf
    ≤ length bytes → buf ≡ part_of bytes at (length buf)
filled bytes buf at n is within =
    let l = ap length is in
    let t = length-take n buf in
    let p = length-take (length buf) (drop at bytes) in
    let d = length-drop at bytes in
    sym (take_all n buf (omega (arith, l, t, p, d, within))) ∙ is

-- ---- the entries of a list index

module _ (bytes : List ℕ) (s : SectionOffsets) (es : List ListEntry) (has : HasEntries bytes s es) where
  abbrev list_index : List ℕ
  list_index = part_of bytes s.list_index (s.trailer - s.list_index)

  abbrev count : ℕ
  count = (s.trailer - s.list_index) / 11

  long : count ≡ length list_index / 11
  long = ap (λ n. n / 11) (sym (length-take-le (s.trailer - s.list_index) (drop s.list_index bytes)
      (omega (arith, has.within, length-drop s.list_index bytes))))

  rise : rises (entries_in list_index) ≡ true
  rise = ap rises (sym has.are) ∙ has.rise

  there : (k : ℕ) → k < count → entry_at bytes (s.list_index + 11 * k) ≡ entry_at list_index (11 * k)
  there k h = sym (entry_part bytes s.list_index (s.trailer - s.list_index) (11 * k) (omega (arith, h)))

  pub found_there : (g k : ℕ) (e : Entry) → k < count → entry_read e ≡ entry_at bytes (s.list_index + 11 * k) →
      e.trigram ≡ g → Some (entry_read e) ≡ entry_of es g
  found_there g k e h is same =
      let at = is ∙ there k h in
      ap Some at ∙ sym (ap (λ all. entry_of all g) has.are
      ∙ entry_found list_index g k rise (omega (arith, h, long)) (sym (ap (λ (e : ListEntry). e.trigram) at) ∙ same))

  pub none_there : (g : ℕ) → ((k : ℕ) → k < count → trigram_at bytes (s.list_index + 11 * k) ≡ g → ⊥) → None ≡ entry_of es g
  none_there g none = sym (ap (λ all. entry_of all g) has.are
      ∙ entry_none list_index g (λ k h e. none k (omega (arith, h, long))
      (ap (λ (e : ListEntry). e.trigram) (there k (omega (arith, h, long))) ∙ e)))

  pub later_there : (j k : ℕ) → j < count → k < count →
      trigram_at bytes (s.list_index + 11 * j) < trigram_at bytes (s.list_index + 11 * k) → j < k
  later_there j k h l less = later list_index rise j k (omega (arith, h, long))
      (omega (arith, ap (λ (e : ListEntry). e.trigram) (there j h), ap (λ (e : ListEntry). e.trigram) (there k l), less))

-- ---- the entries that are found are listed

abbrev pub found_items : Option Entry → List Entry
found_items None = []
found_items (Some e) = e ∷ []

pub none_found : (listed : List Entry) (found : Option Entry) → ((e : Entry) → found ≡ Some e → ⊥) → listed ≡ listed ++ found_items found
none_found listed None not = sym (append-nil listed)
none_found listed (Some e) not = absurd (not e refl)

ascends_without : (xs : List ℕ) (g : ℕ) (ys : List ℕ) → Ascends (xs ++ g ∷ ys) → Ascends (xs ++ ys)
ascends_without [] g ys up = ascends_tail g ys up
ascends_without (x ∷ []) g [] up = tt
ascends_without (x ∷ []) g (y ∷ ys) (first, up) = let next = up.0 in (omega (arith, first, next), up.1)
ascends_without (x ∷ z ∷ xs) g ys (first, up) = (first, ascends_without (z ∷ xs) g ys up)

pub still_ascend : (listed new : List Entry) (found : Option Entry) (gs : List ℕ) (i : ℕ) →
    new ≡ listed ++ found_items found → IfSome found (λ e. e.trigram ≡ get_or gs i 0) → i < length gs →
    Ascends (trigrams_listed listed ++ drop i gs) → Ascends (trigrams_listed new ++ drop (i + 1) gs)
still_ascend listed new found gs i is same h up =
    let g : ℕ = get_or gs i 0 in
    let before : Ascends (trigrams_listed listed ++ g ∷ drop (i + 1) gs) =
    subst (λ rest. Ascends (trigrams_listed listed ++ rest))
    (drop-cons gs i 0 h ∙ ap (λ k. g ∷ drop k gs) (let z : suc i ≡ i + 1 = omega arith in z)) up in
    subst (λ (l : List Entry). Ascends (trigrams_listed l ++ drop (i + 1) gs)) (sym is) (by found same before)
  where
    by : (found : Option Entry) → IfSome found (λ e. e.trigram ≡ get_or gs i 0) →
        Ascends (trigrams_listed listed ++ get_or gs i 0 ∷ drop (i + 1) gs) →
        Ascends (trigrams_listed (listed ++ found_items found) ++ drop (i + 1) gs)
    by None same up = subst (λ (l : List Entry). Ascends (trigrams_listed l ++ drop (i + 1) gs))
        (sym (append-nil listed)) (ascends_without (trigrams_listed listed) (get_or gs i 0) (drop (i + 1) gs) up)
    by (Some e) same up =
        subst Ascends
        (sym (ap (λ ts. ts ++ drop (i + 1) gs) (map-append (λ (e : Entry). e.trigram) listed (e ∷ []))
        ∙ append_assoc (trigrams_listed listed) (e.trigram ∷ []) (drop (i + 1) gs)
        ∙ ap (λ n. trigrams_listed listed ++ n ∷ drop (i + 1) gs) same)) up

module _ (es : List ListEntry) where
  abbrev pub IsFound : Entry → Type 0
  IsFound e = entry_of es e.trigram ≡ Some (entry_read e)

  pub all_found : (listed new : List Entry) (found : Option Entry) (g : ℕ) → new ≡ listed ++ found_items found →
      option_map entry_read found ≡ entry_of es g → IfSome found (λ e. e.trigram ≡ g) → AllByRecursion IsFound listed →
      AllByRecursion IsFound new
  all_found listed new None g is here same all = subst (AllByRecursion IsFound) (sym (is ∙ append-nil listed)) all
  all_found listed new (Some e) g is here same all =
      subst (AllByRecursion IsFound) (sym is) (all-append IsFound listed (e ∷ []) all (ap (entry_of es) same ∙ sym here, tt))

  pub still_listed : (listed new : List Entry) (found : Option Entry) (gs : List ℕ) (i : ℕ) →
      new ≡ listed ++ found_items found → option_map entry_read found ≡ entry_of es (get_or gs i 0) →
      IfSome found (λ e. e.trigram ≡ get_or gs i 0) → i < length gs
      → trigrams_listed listed ≡ filter (has_entry es) (take i gs) → trigrams_listed new ≡ filter (has_entry es) (take (i + 1) gs)
  still_listed listed new found gs i is here same h all =
      ap trigrams_listed is ∙ map-append (λ (e : Entry). e.trigram) listed (found_items found)
      ∙ (λ j. all j ++ one found here same j)
      ∙ sym (ap (filter (has_entry es)) (take_more gs i 0 h) ∙ filter-append (has_entry es) (take i gs) (get_or gs i 0 ∷ []))
    where
      one : (found : Option Entry) → option_map entry_read found ≡ entry_of es (get_or gs i 0) →
          IfSome found (λ e. e.trigram ≡ get_or gs i 0) → trigrams_listed (found_items found)
          ≡ filter (has_entry es) (get_or gs i 0 ∷ [])
      one None here same = sym (ap (λ (o : Option ListEntry). cond (is_some o) (get_or gs i 0 ∷ []) []) (sym here))
      one (Some e) here same = ap (λ n. n ∷ []) same
          ∙ sym (ap (λ (o : Option ListEntry). cond (is_some o) (get_or gs i 0 ∷ []) []) (sym here))
