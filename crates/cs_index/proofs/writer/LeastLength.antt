-- An index is at least as long as the builder counts.
use Rattle.std.proofs.Common.{◌≡◌, ℕ, suc, ◌+◌, ◌-◌, ◌*◌, ◌/◌, ◌%◌, ◌<◌, ◌≤◌, ◌^◌, Bool, true, false, cond, ◌||◌, eqb, List, [], ◌∷◌, ◌++◌, length, length-append, map, min, refl, sym, ap, subst, ◌∙◌, inl, inr, arith}
use Rattle.std.specs.Prelude.{flat_map, nat_lt}
use Rattle.std.specs.List.{AllByRecursion, concat}
use Rattle.std.proofs.lemmas.Bool.{cases_Bool, cases_lt, cases_order, eq-eqb, ne_eqb, eqb-true, lt-ltb, le-ltb, or_left, or_right, true≢false}
use Rattle.std.proofs.lemmas.List.{length-map}
use Rattle.cs_trigram.specs.Trigram.{Ascends, closing_trigram, has, set_of_numbers}
use Rattle.cs_trigram.specs.TrigramSets.{AreDistinct, IsTrigramSet}
use Rattle.cs_trigram.proofs.SetLemmas.{ascends_set, ascends_tail, below_none, has-append, has-set_of_numbers, length-distinct}
use Rattle.cs_index.specs.Built.{Built, IsAlwaysLonger, with_entry}
use Rattle.cs_index.specs.LeastLength.{least_length}
use Rattle.cs_index.specs.Encoding.{Entry, deltas_from, encoding_of, four_bytes, ids_from, name_offsets, names_of, posting_list_bytes, postings_of, sections_of, starts_from, stream_of, three_bytes, trigrams_of, varint, varint_within, with_nul, SectionBytes}
use Rattle.cs_index.proofs.decoding.DecodingIsUnique.{lengths}
use Rattle.cs_index.proofs.encoding.FixedWidthFields.{length-fours}

-- ---- the members of a set among those of another

abbrev shared : List ℕ → List ℕ → ℕ
shared [] set = 0
shared (g ∷ gs) set = cond (has set g) 1 0 + shared gs set

shared_more : (gs : List ℕ) (n : ℕ) (set : List ℕ) → shared gs set ≤ shared gs (n ∷ set)
shared_more [] n set = omega arith
shared_more (g ∷ gs) n set =
    let rest = shared_more gs n set in
    more (eqb n g) (has set g) rest
  where
    more : (e h : Bool) → shared gs set ≤ shared gs (n ∷ set) → cond h 1 0 + shared gs set ≤ cond (e || h) 1 0 + shared gs (n ∷ set)
    more true true rest = omega (arith, rest)
    more true false rest = omega (arith, rest)
    more false h rest = omega (arith, rest)

-- a member of the rest of an ascending list is above the first
above_first : (n m : ℕ) (ms : List ℕ) → Ascends (n ∷ ms) → has ms m ≡ true → n < m
above_first n m [] up h = absurd (true≢false (sym h))
above_first n m (k ∷ ks) up h = elim (cases_Bool (eqb k m)) [
  | inl e ↦ (let same = eqb-true k m e in omega (arith, same, up.0))
  | inr e ↦ (let more = above_first k m ks up.1 (ap (λ b. b || has ks m) (sym e) ∙ h) in omega (arith, more, up.0))
]

abbrev Within : List ℕ → List ℕ → Type 0
Within gs set = (g : ℕ) → has set g ≡ true → has gs g ≡ true

-- the members of an ascending list that are above its first one are in the rest
in_rest : (g : ℕ) (gs : List ℕ) (m : ℕ) → g < m → has (g ∷ gs) m ≡ true → has gs m ≡ true
in_rest g gs m less h =
    ap (λ b. b || has gs m) (sym (ne_eqb g m (λ e. absurd (omega (arith, e, less))))) ∙ h

-- an ascending list has each member of an ascending list within it
shared_all : (gs set : List ℕ) → Ascends gs → Ascends set → Within gs set → length set ≤ shared gs set
shared_all gs [] up up' within = omega arith
shared_all [] (t ∷ ts) up up' within = absurd (true≢false (sym (within t (or_left (eqb t t) (has ts t) (eq-eqb t t refl)))))
shared_all (g ∷ gs) (t ∷ ts) up up' within =
    let member : has (g ∷ gs) t ≡ true = within t (or_left (eqb t t) (has ts t) (eq-eqb t t refl)) in
    elim (cases_order g t) [
      | inl same ↦
          let rest = shared_all gs ts (ascends_tail g gs up) (ascends_tail t ts up')
          (λ m h. in_rest g gs m (let more = above_first t m ts up' h in omega (arith, more, same))
          (within m (or_right (eqb t m) (has ts m) h))) in
          let more = shared_more gs t ts in
          let here : has (t ∷ ts) g ≡ true = or_left (eqb t g) (has ts g) (eq-eqb t g (sym same)) in
          subst (λ b. suc (length ts) ≤ cond b 1 0 + shared gs (t ∷ ts)) (sym here) (omega (arith, rest, more))
      | inr (inl less) ↦
          let rest = shared_all gs (t ∷ ts) (ascends_tail g gs up) up'
          (λ m h. in_rest g gs m (omega (arith, at_least t m ts up' h, less)) (within m h)) in
          omega (arith, rest)
      | inr (inr more) ↦ absurd (true≢false (sym member
          ∙ below_none t (g ∷ gs) more up))
    ]
  where
    at_least : (t m : ℕ) (ts : List ℕ) → Ascends (t ∷ ts) → has (t ∷ ts) m ≡ true → t ≤ m
    at_least t m ts up h = elim (cases_Bool (eqb t m)) [
      | inl e ↦ (let same = eqb-true t m e in omega (arith, same))
      | inr e ↦ (let more = above_first t m ts up (ap (λ b. b || has ts m) (sym e) ∙ h) in omega (arith, more))
    ]

-- ---- the ids of all lists

abbrev total : ℕ → List ℕ → List Entry → ℕ
total first [] entries = 0
total first (g ∷ gs) entries = length (ids_from first g entries) + total first gs entries

total_more : (first : ℕ) (gs : List ℕ) (entry : Entry) (entries : List Entry) →
    shared gs entry.1 + total (first + 1) gs entries ≤ total first gs (entry ∷ entries)
total_more first [] entry entries = omega arith
total_more first (g ∷ gs) entry entries =
    let rest = total_more first gs entry entries in
    let here = counted (has entry.1 g) in
    omega (arith, rest, here)
  where
    counted : (h : Bool) → length (cond h (first ∷ ids_from (first + 1) g entries) (ids_from (first + 1) g entries))
        ≡ cond h 1 0 + length (ids_from (first + 1) g entries)
    counted true = omega arith
    counted false = omega arith

abbrev trigrams_in : List Entry → ℕ
trigrams_in [] = 0
trigrams_in (entry ∷ entries) = length entry.1 + trigrams_in entries

total_least : (first : ℕ) (gs : List ℕ) (entries more : List Entry) → Ascends gs →
    AllByRecursion (λ (entry : Entry). Ascends entry.1 × Within gs entry.1) entries → trigrams_in entries ≤ total first gs (entries ++ more)
total_least first gs [] more up all = omega arith
total_least first gs (entry ∷ entries) more up all =
    let rest = total_least (first + 1) gs entries more up all.1 in
    let here = shared_all gs entry.1 up all.0.0 all.0.1 in
    let step = total_more first gs entry (entries ++ more) in
    omega (arith, rest, here, step)

-- ---- the bytes of the lists

some_byte : (n : ℕ) → 1 ≤ length (varint n)
unfolding varint
some_byte n = first (nat_lt n 128)
  where
    first : (b : Bool) → 1 ≤ length (cond b (n ∷ []) ((n % 128 + 128) ∷ varint_within 4 (n / 128)))
    first true = omega arith
    first false = omega arith

stream_long : (next : ℕ) (ids : List ℕ) → length ids ≤ length (flat_map varint (deltas_from next ids))
stream_long next [] = omega arith
stream_long next (id ∷ ids) =
    let rest = stream_long (id + 1) ids in
    let here = some_byte (id + 1 - next) in
    let all = length-append (varint (id + 1 - next)) (flat_map varint (deltas_from (id + 1) ids)) in
    omega (arith, rest, here, all)

lists_long : (entries : List Entry) (gs : List ℕ) →
    total 0 gs entries ≤ length (concat (map posting_list_bytes (map (λ g. (g, ids_from 0 g entries)) gs)))
lists_long entries [] = omega arith
lists_long entries (g ∷ gs) =
    let ids : List ℕ = ids_from 0 g entries in
    let rest = lists_long entries gs in
    let here = stream_long 0 ids in
    let head = length-append (three_bytes g) (stream_of ids ++ 0 ∷ []) in
    let tail = length-append (stream_of ids) (0 ∷ []) in
    let all = length-append (posting_list_bytes (g, ids)) (concat (map posting_list_bytes (map (λ g. (g, ids_from 0 g entries)) gs))) in
    omega (arith, rest, here, head, tail, all)

-- ---- names

names_long : (entries more : List Entry) →
    least_length entries ≤ 62 + length (concat (map with_nul (names_of (entries ++ more)))) + 4 * length (names_of (entries ++ more)) + trigrams_in entries
names_long [] more = omega arith
names_long (entry ∷ entries) more =
    let rest = names_long entries more in
    let one = length-append entry.0 (0 ∷ []) in
    let all = length-append (with_nul entry.0) (concat (map with_nul (names_of (entries ++ more)))) in
    omega (arith, rest, one, all)

starts_long : (start : ℕ) (pieces : List (List ℕ)) → length (starts_from start pieces) ≡ length pieces
starts_long start [] = refl
starts_long start (piece ∷ pieces) = ap suc (starts_long (start + length piece) pieces)

-- ---- the whole index

abbrev among : ℕ → List Entry → Bool
among g [] = false
among g (entry ∷ entries) = has entry.1 g || among g entries

abbrev all_trigrams : List Entry → List ℕ
all_trigrams entries = flat_map (λ ((name, trigrams) : Entry). trigrams) entries

among_all : (g : ℕ) (entries more : List Entry) → among g entries ≡ true → has (all_trigrams (entries ++ more)) g ≡ true
among_all g [] more h = absurd (true≢false (sym h))
among_all g (entry ∷ entries) more h =
    has-append g entry.1 (all_trigrams (entries ++ more)) ∙ joined (has entry.1 g) h (among_all g entries more)
  where
    joined : (b : Bool) → (b || among g entries) ≡ true →
        (among g entries ≡ true → has (all_trigrams (entries ++ more)) g ≡ true) →
        (b || has (all_trigrams (entries ++ more)) g) ≡ true
    joined true h rest = refl
    joined false h rest = rest h

each_within : (entries : List Entry) (gs : List ℕ) → AllByRecursion (λ (entry : Entry). IsTrigramSet entry.1) entries →
    ((g : ℕ) → among g entries ≡ true → has gs g ≡ true) →
    AllByRecursion (λ (entry : Entry). Ascends entry.1 × Within gs entry.1) entries
each_within [] gs sets within = tt
each_within (entry ∷ entries) gs sets within = (
  (sets.0.0, λ g h. within g (or_left (has entry.1 g) (among g entries) h)),
  each_within entries gs sets.1 (λ g h. within g (or_right (has entry.1 g) (among g entries) h)),
)

members : (entries more : List Entry) → AllByRecursion (λ (entry : Entry). IsTrigramSet entry.1) entries →
    AllByRecursion (λ (entry : Entry). Ascends entry.1 × Within (trigrams_of (entries ++ more)) entry.1) entries
members entries more sets = each_within entries (trigrams_of (entries ++ more)) sets
    (λ g h. has-set_of_numbers g (all_trigrams (entries ++ more)) ∙ among_all g entries more h)

-- with more entries the encoding is still at least as long as it is without them
pub encoded_long : (texts : List (List ℕ)) (entries more : List Entry) → AllByRecursion (λ (entry : Entry). IsTrigramSet entry.1) entries →
    least_length entries ≤ length (encoding_of texts (entries ++ more))
encoded_long texts entries more sets =
    let all : List Entry = entries ++ more in
    let names : List (List ℕ) = names_of all in
    let s : SectionBytes = sections_of texts names (postings_of all) in
    let l = lengths s in
    let paths = length-append (concat (map with_nul texts)) (0 ∷ []) in
    let named = length-append (concat (map with_nul names)) (0 ∷ []) in
    let lists = length-append (concat (map posting_list_bytes (postings_of all))) (posting_list_bytes (closing_trigram, [])) in
    let offsets = length-append (name_offsets names) (four_bytes (length (concat (map with_nul names)))) in
    let fours = length-fours (starts_from 0 (map with_nul names)) in
    let starts = starts_long 0 (map with_nul names) in
    let many = length-map names with_nul in
    let ids = total_least 0 (trigrams_of all) entries more (ascends_set (all_trigrams all))
    (members entries more sets) in
    let bytes = lists_long all (trigrams_of all) in
    let least = names_long entries more in
    omega (arith, l.whole, l.bytes_are, paths, named, lists, offsets, fours, starts, many, ids, bytes, least)

-- ---- the count of a builder

least_more : (entries : List Entry) (entry : Entry) → least_length (entries ++ entry ∷ [])
    ≡ least_length entries + (length entry.0 + 5 + length entry.1)
least_more [] entry = omega arith
least_more (e ∷ entries) entry = let rest = least_more entries entry in omega (arith, rest)

pub counted_more : (built : Built) (name gs : List ℕ) (least named many all : ℕ) → least ≡ min (least_length built.entries) (2 ^ 64 - 1) →
    named ≡ min (least + length name) (2 ^ 64 - 1) → many ≡ min (named + length gs) (2 ^ 64 - 1) → all ≡ min (many + 5) (2 ^ 64 - 1) →
    AreDistinct gs → all ≡ min (least_length (with_entry built name (set_of_numbers gs)).entries) (2 ^ 64 - 1)
counted_more built name gs least named many all a b c d once =
    let more = least_more built.entries (name, set_of_numbers gs) in
    let same = length-distinct gs once in
    omega (arith, a, b, c, d, more, same)

-- a count past a limit is certain
pub always_longer : (built : Built) (limit least : ℕ) → AllByRecursion (λ (entry : Entry). IsTrigramSet entry.1) built.entries →
    least ≡ min (least_length built.entries) (2 ^ 64 - 1) → limit < least → IsAlwaysLonger limit built
always_longer built limit least sets is less more = let long = encoded_long built.paths built.entries more sets in omega (arith, is, less, long)

pub same_test : (limit long least : ℕ) → limit < 2 ^ 32 → least ≡ min long (2 ^ 64 - 1) → nat_lt limit least ≡ nat_lt limit long
same_test limit long least small is = elim (cases_lt limit long) [
  | inl less ↦ lt-ltb limit least (omega (arith, is, less, small)) ∙ sym (lt-ltb limit long less)
  | inr more ↦ le-ltb limit least (omega (arith, is, more)) ∙ sym (le-ltb limit long more)
]

-- ---- bounds

-- more entries make it no shorter
pub least_append : (xs ys : List Entry) → least_length xs ≤ least_length (xs ++ ys)
least_append [] ys = at_least ys
  where
    at_least : (es : List Entry) → 62 ≤ least_length es
    at_least [] = omega arith
    at_least (e ∷ es) = let rest = at_least es in omega (arith, rest)
least_append (x ∷ xs) ys = let rest = least_append xs ys in omega (arith, rest)

pub least_names : (entries : List Entry) → 62 + 5 * length entries ≤ least_length entries
least_names [] = omega arith
least_names (e ∷ es) = let rest = least_names es in omega (arith, rest)
