-- Numbers, entries and slices at an offset: encoding and decoding.
use Rattle.std.proofs.Common.{◌≡◌, ℕ, zero, suc, ◌+◌, ◌-◌, ◌*◌, ◌<◌, ◌≤◌, ◌^◌, List, [], ◌∷◌, ◌++◌, length, take, drop, get_or, refl, sym, ap, subst, ◌∙◌, inl, inr, arith, append_assoc, length-append, length-take, drop-cons}
use Rattle.std.proofs.lemmas.Bool.{cases_lt}
use Rattle.std.proofs.lemmas.List.{take_at, drop_at, get_or-append-add, get_or-take, get_or-drop, get_or_past}
use Rattle.std.proofs.lemmas.List.Folds.{drop_split}
use Rattle.std.proofs.lemmas.Nat.{be_bytes_4, from_be_bytes-to_be_bytes_4}
use Rattle.std.specs.Prelude.{flat_map, slice_range}
use Rattle.std.specs.Int.{from_be_bytes, w32}
use Rattle.std.specs.List.{AllByRecursion}
use Rattle.cs_index.specs.Encoding.{three_bytes, four_bytes, ListEntry, entry_bytes}
use Rattle.cs_index.specs.Opening.{number_at, trigram_at, numbers_from, entry_at, entries_from}
use Rattle.cs_index.proofs.decoding.DecodingIsUnique.{top_zero}
use Rattle.cs_index.proofs.postings.ListAtEntry.{Small, three_of}

-- ---- decoding what was encoded

-- the byte at an offset after a prefix
behind : (prefix rest : List ℕ) (k : ℕ) → get_or (prefix ++ rest) (length prefix + k) 0 ≡ get_or rest k 0
behind prefix rest k = get_or-append-add prefix rest k 0

at_prefix : (prefix rest : List ℕ) → get_or (prefix ++ rest) (length prefix) 0 ≡ get_or rest 0 0
at_prefix prefix rest = ap (λ k. get_or (prefix ++ rest) k 0) (let z : length prefix ≡ length prefix + 0 =
    omega arith in z) ∙ behind prefix rest 0

pub number_written : (prefix rest : List ℕ) (n : ℕ) → n < 2 ^ 32 → number_at (prefix ++ (four_bytes n ++ rest)) (length prefix) ≡ n
unfolding number_at
number_written prefix rest n h =
    let all : List ℕ = four_bytes n ++ rest in
    (λ i. from_be_bytes w32 (at_prefix prefix all i ∷ behind prefix all 1 i ∷ behind prefix all 2 i ∷ behind prefix all 3 i ∷ []))
    ∙ from_be_bytes-to_be_bytes_4 n h

pub trigram_written : (prefix rest : List ℕ) (g : ℕ) → g < 2 ^ 24 → trigram_at (prefix ++ (three_bytes g ++ rest)) (length prefix) ≡ g
unfolding trigram_at
trigram_written prefix rest g h =
    let all : List ℕ = three_bytes g ++ rest in
    (λ i. from_be_bytes w32 (0 ∷ at_prefix prefix all i ∷ behind prefix all 1 i ∷ behind prefix all 2 i ∷ []))
    ∙ ap (from_be_bytes w32) (sym (top_zero g h))
    ∙ from_be_bytes-to_be_bytes_4 g (omega (arith, h))

pub numbers_written : (prefix ns rest : List ℕ) → AllByRecursion (λ n. n < 2 ^ 32) ns →
    numbers_from (prefix ++ (flat_map four_bytes ns ++ rest)) (length prefix) (length ns) ≡ ns
numbers_written prefix [] rest all = refl
numbers_written prefix (n ∷ ns) rest all =
    let bytes : List ℕ = prefix ++ (flat_map four_bytes (n ∷ ns) ++ rest) in
    let first : bytes ≡ prefix ++ (four_bytes n ++ (flat_map four_bytes ns ++ rest)) =
    ap (λ bs. prefix ++ bs) (append_assoc (four_bytes n) (flat_map four_bytes ns) rest) in
    let later : bytes ≡ (prefix ++ four_bytes n) ++ (flat_map four_bytes ns ++ rest) = first
    ∙ sym (append_assoc prefix (four_bytes n) (flat_map four_bytes ns ++ rest)) in
    let long : length prefix + 4 ≡ length (prefix ++ four_bytes n) = sym (length-append prefix (four_bytes n)) in
    (λ i. (ap (λ bs. number_at bs (length prefix)) first ∙ number_written prefix (flat_map four_bytes ns ++ rest) n
    all.0) i ∷ numbers_from (later i) (long i) (length ns))
    ∙ ap (λ ms. n ∷ ms) (numbers_written (prefix ++ four_bytes n) ns rest all.1)

-- the numbers of an entry fit their widths
abbrev pub Fits : ListEntry → Type 0
Fits e = (e.trigram < 2 ^ 24) × (e.count < 2 ^ 32) × (e.offset < 2 ^ 32)

entry_written : (prefix rest : List ℕ) (e : ListEntry) → Fits e → entry_at (prefix ++ (entry_bytes e ++ rest)) (length prefix) ≡ e
entry_written prefix rest e fits =
    let g : List ℕ = three_bytes e.trigram in
    let c : List ℕ = four_bytes e.count in
    let o : List ℕ = four_bytes e.offset in
    let first : prefix ++ (entry_bytes e ++ rest) ≡ prefix ++ (g ++ (c ++ (o ++ rest))) =
    ap (λ bs. prefix ++ bs) (append_assoc g (c ++ o) rest ∙ ap (λ bs. g ++ bs) (append_assoc c o rest)) in
    let second : prefix ++ (entry_bytes e ++ rest) ≡ (prefix ++ g) ++ (c ++ (o ++ rest)) = first
    ∙ sym (append_assoc prefix g (c ++ (o ++ rest))) in
    let third : prefix ++ (entry_bytes e ++ rest) ≡ ((prefix ++ g) ++ c) ++ (o ++ rest) = second
    ∙ sym (append_assoc (prefix ++ g) c (o ++ rest)) in
    let one : length prefix + 3 ≡ length (prefix ++ g) = sym (length-append prefix g) in
    let two : length prefix + 7 ≡ length ((prefix ++ g) ++ c) = let a = length-append (prefix ++ g) c in let b =
    length-append prefix g in omega (arith, a, b) in
    let trigram = ap (λ bs. trigram_at bs (length prefix)) first ∙ trigram_written prefix (c ++ (o ++ rest)) e.trigram fits.0 in
    let count = (λ i. number_at (second i) (one i)) ∙ number_written (prefix ++ g) (o ++ rest) e.count fits.1 in
    let offset = (λ i. number_at (third i) (two i)) ∙ number_written ((prefix ++ g) ++ c) rest e.offset fits.2 in
    λ i. record { trigram = trigram i; count = count i; offset = offset i }

pub entries_written : (prefix rest : List ℕ) (es : List ListEntry) → AllByRecursion Fits es →
    entries_from (prefix ++ (flat_map entry_bytes es ++ rest)) (length prefix) (length es) ≡ es
entries_written prefix rest [] all = refl
entries_written prefix rest (e ∷ es) all =
    let bytes : List ℕ = prefix ++ (flat_map entry_bytes (e ∷ es) ++ rest) in
    let first : bytes ≡ prefix ++ (entry_bytes e ++ (flat_map entry_bytes es ++ rest)) =
    ap (λ bs. prefix ++ bs) (append_assoc (entry_bytes e) (flat_map entry_bytes es) rest) in
    let later : bytes ≡ (prefix ++ entry_bytes e) ++ (flat_map entry_bytes es ++ rest) = first
    ∙ sym (append_assoc prefix (entry_bytes e) (flat_map entry_bytes es ++ rest)) in
    let long : length prefix + 11 ≡ length (prefix ++ entry_bytes e) = sym (length-append prefix (entry_bytes e)) in
    (λ i. (ap (λ bs. entry_at bs (length prefix)) first ∙ entry_written prefix (flat_map entry_bytes es ++ rest) e
    all.0) i ∷ entries_from (later i) (long i) (length es))
    ∙ ap (λ ds. e ∷ ds) (entries_written (prefix ++ entry_bytes e) rest es all.1)

pub length-entries : (es : List ListEntry) → length (flat_map entry_bytes es) ≡ 11 * length es
length-entries [] = refl
length-entries (e ∷ es) = let l = length-append (entry_bytes e) (flat_map entry_bytes es) in let r =
    length-entries es in omega (arith, l, r)

pub length-fours : (ns : List ℕ) → length (flat_map four_bytes ns) ≡ 4 * length ns
length-fours [] = refl
length-fours (n ∷ ns) = let l = length-append (four_bytes n) (flat_map four_bytes ns) in let r = length-fours ns in omega (arith, l, r)

-- a piece is the slice at its offset
pub slice_written : (bytes prefix piece rest : List ℕ) (a b : ℕ) → bytes ≡ prefix ++ (piece ++ rest) → length prefix
    ≡ a → a + length piece ≡ b → slice_range bytes a b ≡ piece
slice_written bytes prefix piece rest a b e from to =
    let long : b - a ≡ length piece = omega (arith, to) in
    (λ i. take (long i) (drop a (e i))) ∙ ap (take (length piece)) (drop_at prefix (piece ++ rest) a from)
    ∙ take_at piece rest (length piece) refl

-- ---- encoding what was decoded

four_small : (bytes : List ℕ) (at : ℕ) → Small bytes →
    Small (get_or bytes at 0 ∷ get_or bytes (at + 1) 0 ∷ get_or bytes (at + 2) 0 ∷ get_or bytes (at + 3) 0 ∷ [])
four_small bytes at h zero = h at
four_small bytes at h (suc zero) = h (at + 1)
four_small bytes at h (suc (suc zero)) = h (at + 2)
four_small bytes at h (suc (suc (suc zero))) = h (at + 3)
four_small bytes at h (suc (suc (suc (suc i)))) = omega arith

four_taken : (bytes : List ℕ) (at : ℕ) → at + 4 ≤ length bytes → take 4 (drop at bytes) ≡ get_or bytes at 0
    ∷ get_or bytes (at + 1) 0 ∷ get_or bytes (at + 2) 0 ∷ get_or bytes (at + 3) 0 ∷ []
four_taken bytes at h =
    let one : suc at ≡ at + 1 = omega arith in
    let two : suc (at + 1) ≡ at + 2 = omega arith in
    let three : suc (at + 2) ≡ at + 3 = omega arith in
    let after = λ (k next : ℕ) (is : suc k ≡ next) (l : k < length bytes). drop-cons bytes k 0 l
    ∙ ap (λ m. get_or bytes k 0 ∷ drop m bytes) is in
    ap (take 4) (after at (at + 1) one (omega (arith, h))
    ∙ ap (λ rest. get_or bytes at 0 ∷ rest) (after (at + 1) (at + 2) two (omega (arith, h))
    ∙ ap (λ rest. get_or bytes (at + 1) 0 ∷ rest) (after (at + 2) (at + 3) three (omega (arith, h))
    ∙ ap (λ rest. get_or bytes (at + 2) 0 ∷ rest) (drop-cons bytes (at + 3) 0 (omega (arith, h))))))

-- bytes begin with the encoding of the number that is read
pub number_back : (bytes : List ℕ) (at : ℕ) → at + 4 ≤ length bytes → Small bytes → drop at bytes
    ≡ four_bytes (number_at bytes at) ++ drop (at + 4) bytes
unfolding number_at
number_back bytes at h small =
    let four : four_bytes (number_at bytes at) ≡ take 4 (drop at bytes) =
    be_bytes_4 (get_or bytes at 0 ∷ get_or bytes (at + 1) 0 ∷ get_or bytes (at + 2) 0 ∷ get_or bytes (at + 3) 0 ∷ [])
    (number_at bytes at) refl (four_small bytes at small) refl
    ∙ sym (four_taken bytes at h) in
    let long : at + 4 - at ≡ 4 = omega arith in
    drop_split bytes at (at + 4) (omega arith) ∙ ap (λ bs. bs ++ drop (at + 4) bytes) (ap (λ n. take n (drop at bytes)) long ∙ sym four)

pub trigram_back : (bytes : List ℕ) (at : ℕ) → at + 3 ≤ length bytes → Small bytes → drop at bytes
    ≡ three_bytes (trigram_at bytes at) ++ drop (at + 3) bytes
trigram_back bytes at h small =
    let long : at + 3 - at ≡ 3 = omega arith in
    drop_split bytes at (at + 3) (omega arith)
    ∙ ap (λ bs. bs ++ drop (at + 3) bytes) (ap (λ n. take n (drop at bytes)) long ∙ sym (three_of bytes at h small))

pub numbers_back : (bytes : List ℕ) (at n : ℕ) → at + 4 * n ≤ length bytes → Small bytes → drop at bytes
    ≡ flat_map four_bytes (numbers_from bytes at n) ++ drop (at + 4 * n) bytes
numbers_back bytes at zero h small = ap (λ k. drop k bytes) (let z : at ≡ at + 4 * 0 = omega arith in z)
numbers_back bytes at (suc n) h small =
    number_back bytes at (omega (arith, h)) small
    ∙ ap (λ bs. four_bytes (number_at bytes at) ++ bs) (numbers_back bytes (at + 4) n (omega (arith, h)) small)
    ∙ sym (append_assoc (four_bytes (number_at bytes at)) (flat_map four_bytes (numbers_from bytes (at + 4) n))
    (drop (at + 4 + 4 * n) bytes))
    ∙ ap (λ k. flat_map four_bytes (numbers_from bytes at (suc n)) ++ drop k bytes)
    (let z : at + 4 + 4 * n ≡ at + 4 * suc n = omega arith in z)

entry_back : (bytes : List ℕ) (at : ℕ) → at + 11 ≤ length bytes → Small bytes → drop at bytes
    ≡ entry_bytes (entry_at bytes at) ++ drop (at + 11) bytes
entry_back bytes at h small =
    let g : List ℕ = three_bytes (trigram_at bytes at) in
    let c : List ℕ = four_bytes (number_at bytes (at + 3)) in
    let o : List ℕ = four_bytes (number_at bytes (at + 7)) in
    trigram_back bytes at (omega (arith, h)) small
    ∙ ap (λ bs. g ++ bs) (number_back bytes (at + 3) (omega (arith, h)) small
    ∙ ap (λ k. c ++ drop k bytes) (let z : at + 3 + 4 ≡ at + 7 = omega arith in z)
    ∙ ap (λ bs. c ++ bs) (number_back bytes (at + 7) (omega (arith, h)) small
    ∙ ap (λ k. o ++ drop k bytes) (let z : at + 7 + 4 ≡ at + 11 = omega arith in z))
    ∙ sym (append_assoc c o (drop (at + 11) bytes)))
    ∙ sym (append_assoc g (c ++ o) (drop (at + 11) bytes))

pub entries_back : (bytes : List ℕ) (at n : ℕ) → at + 11 * n ≤ length bytes → Small bytes → drop at bytes
    ≡ flat_map entry_bytes (entries_from bytes at n) ++ drop (at + 11 * n) bytes
entries_back bytes at zero h small = ap (λ k. drop k bytes) (let z : at ≡ at + 11 * 0 = omega arith in z)
entries_back bytes at (suc n) h small =
    entry_back bytes at (omega (arith, h)) small
    ∙ ap (λ bs. entry_bytes (entry_at bytes at) ++ bs) (entries_back bytes (at + 11) n (omega (arith, h)) small)
    ∙ sym (append_assoc (entry_bytes (entry_at bytes at)) (flat_map entry_bytes (entries_from bytes (at + 11) n))
    (drop (at + 11 + 11 * n) bytes))
    ∙ ap (λ k. flat_map entry_bytes (entries_from bytes at (suc n)) ++ drop k bytes)
    (let z : at + 11 + 11 * n ≡ at + 11 * suc n = omega arith in z)

pub number_small : (bytes : List ℕ) (at : ℕ) → Small bytes → number_at bytes at < 2 ^ 32
unfolding number_at
number_small bytes at small = let a = small at in let b = small (at + 1) in let c = small (at + 2) in let d =
    small (at + 3) in omega (arith, a, b, c, d)

pub slice_small : (bytes : List ℕ) (a b : ℕ) → Small bytes → Small (slice_range bytes a b)
slice_small bytes a b small i = elim (cases_lt i (b - a)) [
  | inl less ↦ subst (λ n. n < 256) (sym (get_or-take (b - a) (drop a bytes) i 0 less ∙ get_or-drop a bytes i 0)) (small (a + i))
  | inr past ↦ subst (λ n. n < 256) (sym (get_or_past (slice_range bytes a b) i 0
      (let l = length-take (b - a) (drop a bytes) in omega (arith, l, past)))) (omega arith)
]
