-- The trigrams of bytes that are split in two.
use Rattle.std.proofs.Common.{◌≡◌, ◌≤◌, ◌<◌, ℕ, zero, suc, ◌+◌, ◌-◌, List, [], ◌∷◌, ◌++◌, length, take, drop, get_or, set, refl, sym, ap, ◌∙◌, arith, inl, inr, ◌⊎◌, length-append, length-take-le, length-drop}
use Rattle.std.proofs.lemmas.Bool.{cases_lt}
use Rattle.std.proofs.lemmas.List.{nil_from_length, take-append-drop, take-append-le, drop-take, get_or-take, get_or-drop}
use Rattle.cs_trigram.specs.Trigram.{trigram, trigram_sequence}
use Rattle.cs_trigram.specs.Blocks.{last_two, Carries}

-- fewer than three bytes have no trigram
pub sequence-short : (bytes : List ℕ) → length bytes < 3 → trigram_sequence bytes ≡ []
sequence-short [] short = refl
sequence-short (a ∷ []) short = refl
sequence-short (a ∷ b ∷ []) short = refl
sequence-short (a ∷ b ∷ c ∷ rest) short = absurd (omega (arith, short))

-- appended bytes add the trigrams that begin at the last two bytes
pub sequence-append : (prefix more : List ℕ) → trigram_sequence (prefix ++ more) ≡ trigram_sequence prefix
    ++ trigram_sequence (last_two prefix ++ more)
sequence-append [] more = refl
sequence-append (a ∷ []) more = refl
sequence-append (a ∷ b ∷ []) more = refl
sequence-append (a ∷ b ∷ c ∷ rest) more = ap (λ ns. trigram a b c ∷ ns) (sequence-append (b ∷ c ∷ rest) more)

-- the last two of more bytes
pub last_two-append : (prefix more : List ℕ) → last_two (prefix ++ more) ≡ last_two (last_two prefix ++ more)
last_two-append [] more = refl
last_two-append (a ∷ []) more = refl
last_two-append (a ∷ b ∷ []) more = refl
last_two-append (a ∷ b ∷ c ∷ rest) more = last_two-append (b ∷ c ∷ rest) more

split-offset : (i : ℕ) (bytes : List ℕ) → trigram_sequence bytes ≡ trigram_sequence (take (suc (suc i)) bytes)
    ++ trigram_sequence (drop i bytes)
split-offset zero [] = refl
split-offset zero (a ∷ []) = refl
split-offset zero (a ∷ b ∷ rest) = refl
split-offset (suc i) [] = refl
split-offset (suc zero) (a ∷ []) = refl
split-offset (suc (suc i)) (a ∷ []) = refl
split-offset (suc zero) (a ∷ b ∷ []) = refl
split-offset (suc (suc zero)) (a ∷ b ∷ []) = refl
split-offset (suc (suc (suc i))) (a ∷ b ∷ []) = refl
split-offset (suc i) (a ∷ b ∷ c ∷ rest) = ap (λ ns. trigram a b c ∷ ns) (split-offset i (b ∷ c ∷ rest))

-- the trigrams that begin before an offset, and the others
pub sequence-split : (i : ℕ) (bytes : List ℕ) → trigram_sequence bytes ≡ trigram_sequence (take (i + 2) bytes)
    ++ trigram_sequence (drop i bytes)
sequence-split i bytes =
    let two : suc (suc i) ≡ i + 2 = omega arith in
    split-offset i bytes ∙ ap (λ n. trigram_sequence (take n bytes) ++ trigram_sequence (drop i bytes)) two

-- the trigrams of a 6-gram come after those that begin before it
pub sequence-sixgram : (i : ℕ) (bytes : List ℕ) → i + 6 ≤ length bytes → trigram_sequence (take (i + 4 + 2) bytes)
    ≡ trigram_sequence (take (i + 2) bytes) ++ trigram_sequence (take 6 (drop i bytes))
sequence-sixgram i bytes within =
    let sixgram_at : i + 4 + 2 ≡ i + 6 = omega arith in
    let sixgrams : List ℕ = take (i + 6) bytes in
    let long : length sixgrams ≡ i + 6 = length-take-le (i + 6) bytes within in
    let prefix : take (i + 2) bytes ≡ take (i + 2) sixgrams =
    ap (take (i + 2)) (sym (take-append-drop (i + 6) bytes)) ∙ take-append-le (i + 2) sixgrams (drop (i + 6) bytes) (omega (arith, long)) in
    ap (λ n. trigram_sequence (take n bytes)) sixgram_at ∙ sequence-split i sixgrams
    ∙ ap (λ xs. trigram_sequence xs ++ trigram_sequence (drop i sixgrams)) (sym prefix)
    ∙ ap (λ xs. trigram_sequence (take (i + 2) bytes) ++ trigram_sequence xs) (drop-take i 6 bytes)

more-offset : (i : ℕ) (bytes : List ℕ) → suc (suc i) < length bytes →
    trigram_sequence (take (suc (suc (suc i))) bytes) ≡ trigram_sequence (take (suc (suc i)) bytes)
    ++ trigram (get_or bytes i 0) (get_or bytes (suc i) 0) (get_or bytes (suc (suc i)) 0) ∷ []
more-offset i [] within = absurd (omega (arith, within))
more-offset i (a ∷ []) within = absurd (omega (arith, within))
more-offset i (a ∷ b ∷ []) within = absurd (omega (arith, within))
more-offset zero (a ∷ b ∷ c ∷ rest) within = refl
more-offset (suc i) (a ∷ b ∷ c ∷ rest) within = ap (λ ns. trigram a b c ∷ ns) (more-offset i (b ∷ c ∷ rest) (omega (arith, within)))

-- one more trigram
pub sequence-more : (i : ℕ) (bytes : List ℕ) → i + 2 < length bytes →
    trigram_sequence (take (i + 1 + 2) bytes) ≡ trigram_sequence (take (i + 2) bytes) ++ trigram (get_or bytes i 0)
    (get_or bytes (i + 1) 0) (get_or bytes (i + 2) 0) ∷ []
sequence-more i bytes within =
    let one : suc i ≡ i + 1 = omega arith in
    let two : suc (suc i) ≡ i + 2 = omega arith in
    let three : i + 1 + 2 ≡ suc (suc (suc i)) = omega arith in
    let more = more-offset i bytes (omega (arith, within)) in
    ap (λ n. trigram_sequence (take n bytes)) three ∙ more
    ∙ (λ k. trigram_sequence (take (two k) bytes) ++ trigram (get_or bytes i 0) (get_or bytes (one k) 0) (get_or bytes (two k) 0) ∷ [])

-- ---- the buffer

-- the last two bytes before a block, and the block
pub with-two : (from len : ℕ) (buffer : List ℕ) → from ≤ 2 → len + 2 ≤ length buffer →
    take (len + 2 - from) (drop from buffer) ≡ drop from (take 2 buffer) ++ take len (drop 2 buffer)
with-two from len [] two within = absurd (omega (arith, within))
with-two from len (x ∷ []) two within = absurd (omega (arith, within))
with-two zero len (x ∷ y ∷ rest) two within =
    let count : len + 2 - 0 ≡ suc (suc len) = omega arith in
    ap (λ n. take n (x ∷ y ∷ rest)) count
with-two (suc zero) len (x ∷ y ∷ rest) two within =
    let count : len + 2 - 1 ≡ suc len = omega arith in
    ap (λ n. take n (y ∷ rest)) count
with-two (suc (suc zero)) len (x ∷ y ∷ rest) two within =
    let count : len + 2 - 2 ≡ len = omega arith in
    ap (λ n. take n rest) count
with-two (suc (suc (suc from))) len (x ∷ y ∷ rest) two within = absurd (omega (arith, two))

last_two-offset : (n : ℕ) (bytes : List ℕ) → length bytes ≡ suc (suc n) → last_two bytes ≡ get_or bytes n 0 ∷ get_or bytes (suc n) 0 ∷ []
last_two-offset n [] len = absurd (omega (arith, len))
last_two-offset n (a ∷ []) len = absurd (omega (arith, len))
last_two-offset zero (a ∷ b ∷ []) len = refl
last_two-offset (suc n) (a ∷ b ∷ []) len = absurd (omega (arith, len))
last_two-offset zero (a ∷ b ∷ c ∷ rest) len = absurd (omega (arith, len))
last_two-offset (suc n) (a ∷ b ∷ c ∷ rest) len = last_two-offset n (b ∷ c ∷ rest) (omega (arith, len))

first-block : (buffer next : List ℕ) → 3 ≤ length buffer → take 2 next ≡ get_or buffer 1 0 ∷ get_or buffer 2 0 ∷ [] →
    drop 1 (take 2 next) ≡ last_two (take 1 (drop 2 buffer))
first-block [] next within moved = absurd (omega (arith, within))
first-block (x ∷ []) next within moved = absurd (omega (arith, within))
first-block (x ∷ y ∷ []) next within moved = absurd (omega (arith, within))
first-block (x ∷ y ∷ z ∷ rest) next within moved = ap (drop 1) moved

pub set-two : (buffer : List ℕ) (a b : ℕ) → 2 ≤ length buffer → take 2 (set (set buffer 0 a) 1 b) ≡ a ∷ b ∷ []
set-two [] a b within = absurd (omega (arith, within))
set-two (x ∷ []) a b within = absurd (omega (arith, within))
set-two (x ∷ y ∷ rest) a b within = refl

-- the last two bytes of a block are copied to the start
pub Carries-on : (buffer next prefix : List ℕ) (len : ℕ) → 0 < len → len + 2 ≤ length buffer →
    take 2 next ≡ get_or buffer len 0 ∷ get_or buffer (len + 1) 0 ∷ [] → Carries buffer prefix →
    Carries next (prefix ++ take len (drop 2 buffer))
Carries-on buffer next prefix len some within moved carries = offset (cases_lt (length prefix + len) 2)
  where
    block : List ℕ
    block = take len (drop 2 buffer)

    block-len : length block ≡ len
    block-len = length-take-le len (drop 2 buffer) (omega (arith, within, length-drop 2 buffer))

    offset : ((length prefix + len < 2) ⊎ (2 ≤ length prefix + len)) → drop (2 - length (prefix ++ block)) (take 2 next)
        ≡ last_two (prefix ++ block)
    offset (inl few) =
        let one : len ≡ 1 = omega (arith, few, some) in
        let none : prefix ≡ [] = nil_from_length prefix (omega (arith, few, some)) in
        let left : 2 - length (prefix ++ block) ≡ 1 = omega (arith, length-append prefix block, block-len, few, some) in
        let start : take 2 next ≡ get_or buffer 1 0 ∷ get_or buffer 2 0 ∷ [] = moved
        ∙ (λ i. get_or buffer (one i) 0 ∷ get_or buffer (one i + 1) 0 ∷ []) in
        ap (λ n. drop n (take 2 next)) left ∙ first-block buffer next (omega (arith, within, some)) start
        ∙ sym (ap (λ xs. last_two (xs ++ block)) none ∙ ap (λ n. last_two (take n (drop 2 buffer))) one)
    offset (inr enough) =
        let from : ℕ = 2 - length prefix in
        let left : 2 - length (prefix ++ block) ≡ 0 = omega (arith, length-append prefix block, block-len, enough) in
        let whole : take (len + 2 - from) (drop from buffer) ≡ last_two prefix ++ block =
        with-two from len buffer (omega arith) within ∙ ap (λ xs. xs ++ block) carries in
        let n : ℕ = len - from in
        let count : length (take (len + 2 - from) (drop from buffer)) ≡ suc (suc n) =
        length-take-le (len + 2 - from) (drop from buffer) (omega (arith, within, length-drop from buffer)) ∙ omega (arith, enough) in
        let first : get_or (take (len + 2 - from) (drop from buffer)) n 0 ≡ get_or buffer len 0 =
        get_or-take (len + 2 - from) (drop from buffer) n 0 (omega (arith, enough)) ∙ get_or-drop from buffer n 0
        ∙ ap (λ k. get_or buffer k 0) (omega (arith, enough)) in
        let second : get_or (take (len + 2 - from) (drop from buffer)) (suc n) 0 ≡ get_or buffer (len + 1) 0 =
        get_or-take (len + 2 - from) (drop from buffer) (suc n) 0 (omega (arith, enough))
        ∙ get_or-drop from buffer (suc n) 0 ∙ ap (λ k. get_or buffer k 0) (omega (arith, enough)) in
        ap (λ k. drop k (take 2 next)) left ∙ moved
        ∙ sym (last_two-append prefix block ∙ ap last_two (sym whole)
        ∙ last_two-offset n (take (len + 2 - from) (drop from buffer)) count ∙ (λ i. first i ∷ second i ∷ []))

-- a buffer with the same two bytes at its start
pub Carries-same : (buffer next prefix : List ℕ) → take 2 next ≡ take 2 buffer → Carries buffer prefix → Carries next prefix
Carries-same buffer next prefix same carries = ap (drop (2 - length prefix)) same ∙ carries
