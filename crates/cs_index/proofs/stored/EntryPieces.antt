-- The entries of a list index that is tested piece by piece.
use Rattle.std.proofs.Common.{◌≡◌, ◌≢◌, ℕ, zero, suc, ◌+◌, ◌*◌, ◌/◌, ◌%◌, ◌<◌, ◌≤◌, Bool, true, false, ◌&&◌, ◌||◌, leb, ltb, eqb, List, [], ◌∷◌, ◌++◌, length, refl, sym, subst, ap, ◌∙◌, inl, inr, arith, length-append, Option, Some, None, take}
use Rattle.cs_tree.specs.Store.{part_of}
use Rattle.cs_index.proofs.stored.StoredEntries.{entry_part}
use Rattle.std.proofs.Math.Seq.{take-append_seam, drop-append_seam, take-length}
use Rattle.std.specs.Prelude.{IfSome}
use Rattle.std.specs.Option.{IfNone, is_some}
use Rattle.std.proofs.lemmas.Bool.{and_parts, cases_lt, eq-eqb, false≢true, le-leb, leb-true, lt-ltb, ne_eqb}
use Rattle.std.proofs.lemmas.List.{append-nil}
use Rattle.std.specs.List.{list_all}
use Rattle.cs_trigram.specs.Trigram.{closing_trigram}
use Rattle.cs_index.specs.Encoding.{ListEntry}
use Rattle.cs_index.specs.Opening.{entries_from, entries_in, entry_at, is_entry, is_list_index, rises}
use Rattle.cs_index.specs.SectionPieces.{are_entries}

-- ---- both tests of entries at once

-- the first trigram is not less
abbrev begins : ℕ → List ListEntry → Bool
begins least [] = true
begins least (e ∷ es) = leb least e.trigram

next_begins : (a b : ℕ) → leb (a + 1) b ≡ ltb a b
next_begins a b = ap (λ n. leb n b) (let z : a + 1 ≡ suc a = omega arith in z)

both_tests : (room least : ℕ) (es : List ListEntry) → are_entries room least es
    ≡ (begins least es && (rises es && list_all (is_entry room) es))
both_tests room least [] = refl
both_tests room least (e ∷ []) = refl
both_tests room least (e ∷ d ∷ es) =
    let ok : Bool = is_entry room e in
    let up : Bool = rises (d ∷ es) in
    let all : Bool = list_all (is_entry room) (d ∷ es) in
    ap (λ b. leb least e.trigram && (ok && b)) (both_tests room (e.trigram + 1) (d ∷ es)
    ∙ ap (λ b. b && (up && all)) (next_begins e.trigram d.trigram))
    ∙ shuffle (leb least e.trigram) ok (ltb e.trigram d.trigram) up all
  where
    shuffle : (a ok lt up all : Bool) → (a && (ok && (lt && (up && all)))) ≡ (a && ((lt && up) && (ok && all)))
    shuffle true true true up all = refl
    shuffle true true false up all = refl
    shuffle true false true true all = refl
    shuffle true false true false all = refl
    shuffle true false false up all = refl
    shuffle false ok lt up all = refl

from_none : (es : List ListEntry) → begins 0 es ≡ true
from_none [] = refl
from_none (e ∷ es) = le-leb 0 e.trigram (omega arith)

pub entries_tested : (room : ℕ) (bytes : List ℕ) → are_entries room 0 (entries_in bytes)
    ≡ (rises (entries_in bytes) && list_all (is_entry room) (entries_in bytes))
entries_tested room bytes =
    both_tests room 0 (entries_in bytes) ∙ ap
    (λ b. b && (rises (entries_in bytes) && list_all (is_entry room) (entries_in bytes))) (from_none (entries_in bytes))

pub list_index_tested : (room : ℕ) (bytes : List ℕ) → length bytes % 11 ≡ 0 → is_list_index room bytes
    ≡ are_entries room 0 (entries_in bytes)
unfolding is_list_index
list_index_tested room bytes whole =
    ap (λ b. b && (rises (entries_in bytes) && list_all (is_entry room) (entries_in bytes))) (eq-eqb (length bytes % 11) 0 whole)
    ∙ sym (entries_tested room bytes)

pub list_index_uneven : (room : ℕ) (bytes : List ℕ) → (length bytes % 11 ≡ 0 → ⊥) → is_list_index room bytes ≡ false
unfolding is_list_index
list_index_uneven room bytes uneven = ap
    (λ b. b && (rises (entries_in bytes) && list_all (is_entry room) (entries_in bytes)))
    (ne_eqb (length bytes % 11) 0 uneven)

-- ---- entries of bytes that are joined

entries_part : (bytes : List ℕ) (start len at k n : ℕ) → at ≡ start + k → k + 11 * n ≤ len → entries_from bytes at n
    ≡ entries_from (part_of bytes start len) k n
entries_part bytes start len at k zero is h = refl
entries_part bytes start len at k (suc n) is h =
    λ i. (ap (entry_at bytes) is ∙ sym (entry_part bytes start len k (omega (arith, h)))) i
    ∷ entries_part bytes start len (at + 11) (k + 11) n (omega (arith, is)) (omega (arith, h)) i

entries_split : (bytes : List ℕ) (at n m last : ℕ) → last ≡ at + 11 * n → entries_from bytes at (n + m)
    ≡ entries_from bytes at n ++ entries_from bytes last m
entries_split bytes at zero m last is = λ i. entries_from bytes ((let z : at ≡ last = omega (arith, is) in z) i)
    ((let z : 0 + m ≡ m = omega arith in z) i)
entries_split bytes at (suc n) m last is = ap (entries_from bytes at) (let z : suc n + m ≡ suc (n + m) = omega arith in
    z) ∙ ap (λ es. entry_at bytes at ∷ es) (entries_split bytes (at + 11) n m last (omega (arith, is)))

pub entries_joined : (xs ys : List ℕ) → length xs % 11 ≡ 0 → entries_in (xs ++ ys) ≡ entries_in xs ++ entries_in ys
unfolding entries_in
entries_joined xs ys whole =
    let n : ℕ = length xs / 11 in
    let m : ℕ = length ys / 11 in
    let a = length-append xs ys in
    let right : part_of (xs ++ ys) (length xs) (length ys) ≡ ys = ap (take (length ys)) (drop-append_seam xs ys) ∙ take-length ys in
    ap (entries_from (xs ++ ys) 0) (let z : length (xs ++ ys) / 11 ≡ n + m = omega (arith, a, whole) in z)
    ∙ entries_split (xs ++ ys) 0 n m (length xs) (omega (arith, whole))
    ∙ (λ i. (entries_part (xs ++ ys) 0 (length xs) 0 0 n (omega arith) (omega (arith, whole))
    ∙ ap (λ bs. entries_from bs 0 n) (take-append_seam xs ys)) i
    ++ (entries_part (xs ++ ys) (length xs) (length ys) (length xs) 0 m (omega arith) (omega arith)
    ∙ ap (λ bs. entries_from bs 0 m) right) i)

pub no_entries : entries_in [] ≡ []
unfolding entries_in
no_entries = refl

-- the whole list index is tested
pub tested_is : (room : ℕ) (bytes : List ℕ) (found : Option ℕ) → length bytes % 11 ≡ 0 →
    IfSome found (λ next. (more : List ListEntry) → are_entries room 0 (entries_in bytes ++ more)
    ≡ are_entries room next more)
    → IfNone found ((more : List ListEntry) → are_entries room 0 (entries_in bytes ++ more) ≡ false) → is_some found
    ≡ is_list_index room bytes
tested_is room bytes (Some next) whole some none =
    sym (list_index_tested room bytes whole ∙ ap (are_entries room 0) (sym (append-nil (entries_in bytes))) ∙ some [])
tested_is room bytes None whole some none =
    sym (list_index_tested room bytes whole ∙ ap (are_entries room 0) (sym (append-nil (entries_in bytes))) ∙ none [])

-- ---- the entries of a test that has no branch

-- an entry of `ff ff ff` counts no file
abbrev pub is_closed : ListEntry → Bool
is_closed e = ltb e.trigram closing_trigram || eqb e.count 0

pub greatest_counts : (e : ListEntry) → e.trigram ≡ closing_trigram → e.count ≢ 0 → is_closed e ≡ true → ⊥
greatest_counts e greatest some closed =
    false≢true (sym ((λ i. ltb (greatest i) closing_trigram || eqb e.count 0) ∙ ne_eqb e.count 0 some) ∙ closed)

module _ (bytes : List ℕ) where
  -- the entry at a position
  abbrev pub nth : ℕ → ListEntry
  nth k = entry_at bytes (11 * k)

  abbrev pub Rises : ℕ → Type 0
  Rises last = (k : ℕ) → k < last → (nth k).trigram < (nth (suc k)).trigram

module _ (bytes : List ℕ) (room last : ℕ) (more : List ListEntry) (up : Rises bytes last)
    (fit : (k : ℕ) → k ≤ last → (nth bytes k).offset + 4 ≤ room) (closed : is_closed (nth bytes last) ≡ true)
    (bound : (nth bytes last).trigram ≤ closing_trigram) where
  below_last : (n k : ℕ) → k + n ≡ last → (nth bytes k).trigram + n ≤ (nth bytes last).trigram
  below_last zero k is = let e = ap (λ i. (nth bytes i).trigram) (let z : k ≡ last = omega (arith, is) in z) in omega (arith, e)
  below_last (suc n) k is =
      let step = up k (omega (arith, is)) in
      let far = below_last n (suc k) (omega (arith, is)) in
      omega (arith, step, far)

  one_fits : (n k : ℕ) → k + n ≡ last → is_entry room (nth bytes k) ≡ true
  one_fits zero k is = (λ i. le-leb ((nth bytes k).offset + 4) room (fit k (omega (arith, is))) i
      && (ap (λ j. is_closed (nth bytes j)) (let z : k ≡ last = omega (arith, is) in z) ∙ closed) i)
  one_fits (suc n) k is = (λ i. le-leb ((nth bytes k).offset + 4) room (fit k (omega (arith, is))) i
      && (lt-ltb (nth bytes k).trigram closing_trigram (let far = below_last (suc n) k is in omega (arith, far, bound)) i || eqb (nth bytes k).count 0))

  pub all_fit : (n k least : ℕ) → k + n ≡ last → least ≤ (nth bytes k).trigram →
      are_entries room least (entries_from bytes (11 * k) (suc n) ++ more) ≡ are_entries room ((nth bytes last).trigram + 1) more
  all_fit zero k least is low =
      (λ i. le-leb least (nth bytes k).trigram low i && (one_fits zero k is i && are_entries room ((nth bytes k).trigram + 1) more))
      ∙ ap (λ j. are_entries room ((nth bytes j).trigram + 1) more) (let z : k ≡ last = omega (arith, is) in z)
  all_fit (suc n) k least is low =
      (λ i. le-leb least (nth bytes k).trigram low i && (one_fits (suc n) k is i
      && are_entries room ((nth bytes k).trigram + 1) (entries_from bytes ((let z : 11 * k + 11 ≡ 11 * suc k = omega arith in z) i) (suc n) ++ more)))
      ∙ all_fit n (suc k) ((nth bytes k).trigram + 1) (omega (arith, is)) (let step = up k (omega (arith, is)) in omega (arith, step))

-- What holds of the entry at a position of `end` ones, if all fit.
pub record IsFitting (bytes : List ℕ) (room end k : ℕ) : Type 0 where
  pub fits : (nth bytes k).offset + 4 ≤ room
  pub closed : is_closed (nth bytes k) ≡ true
  pub next : suc k < end → (nth bytes k).trigram < (nth bytes (suc k)).trigram

pub each_fits : (bytes : List ℕ) (room end : ℕ) (more : List ListEntry) (n k least : ℕ) → k + n ≡ end →
    are_entries room least (entries_from bytes (11 * k) n ++ more) ≡ true →
    (0 < n → least ≤ (nth bytes k).trigram) × ((i : ℕ) → k ≤ i → i < end → IsFitting bytes room end i)
each_fits bytes room end more zero k least is all =
    (λ some. absurd (omega (arith, some)), λ i low high. absurd (omega (arith, is, low, high)))
each_fits bytes room end more (suc n) k least is all =
    let e = nth bytes k in
    let rest : Bool = are_entries room (e.trigram + 1) (entries_from bytes (11 * k + 11) n ++ more) in
    let first = and_parts (leb least e.trigram) (is_entry room e && rest) all in
    let second = and_parts (is_entry room e) rest first.1 in
    let fits = and_parts (leb (e.offset + 4) room) (is_closed e) second.0 in
    let on = each_fits bytes room end more n (suc k) (e.trigram + 1) (omega (arith, is))
    (ap (λ at. are_entries room (e.trigram + 1) (entries_from bytes at n ++ more)) (let z : 11 * suc k ≡ 11 * k + 11 = omega arith in z) ∙ second.1) in
    let here : IsFitting bytes room end k = record {
      fits = leb-true (e.offset + 4) room fits.0;
      closed = fits.1;
      next = λ l. let above = on.0 (omega (arith, is, l)) in omega (arith, above);
    } in (
      λ _. leb-true least e.trigram first.0,
      λ i low high. elim (cases_lt k i) [
        | inl after ↦ on.1 i after high
        | inr not ↦ subst (IsFitting bytes room end) (let z : k ≡ i = omega (arith, low, not) in z) here
      ],
    )
