-- The cache of 6-grams: hits and misses.
use Rattle.std.proofs.Common.{◌≡◌, ◌≤◌, ◌<◌, ℕ, ◌+◌, ◌*◌, ◌/◌, ◌%◌, ◌^◌, List, [], ◌∷◌, ◌++◌, length, take, drop, get_or, set, refl, sym, ap, subst, ◌∙◌, inl, inr, ◌⊎◌, arith, length-set, get_or-set_same, get_or-set_other, append_assoc, take_all}
use Rattle.std.proofs.lemmas.Bool.{cases_eq, or_cases, or_left, or_right}
use Rattle.std.proofs.lemmas.List.{set-get_or, append-nil, take-set-le, drop_all, take_more}
use Rattle.cs_trigram.specs.Trigram.{trigram_sequence, has}
use Rattle.cs_trigram.specs.Sixgrams.{sixgram_trigrams, trigrams_of_sixgrams, file_of, AreMembers, CachesOnly, AreMisses}
use Rattle.cs_trigram.proofs.SetLemmas.{has-append}
use Rattle.cs_trigram.proofs.SplitTrigramLemmas.{sequence-split, sequence-sixgram}

pub among_both : (xs ys zs : List ℕ) → AreMembers xs zs → AreMembers ys zs → AreMembers (xs ++ ys) zs
among_both xs ys zs a b n h = elim (or_cases (has xs n) (has ys n) (sym (has-append n xs ys) ∙ h)) [ inl x ↦ a n x | inr y ↦ b n y ]

pub among_left : (xs ys : List ℕ) → AreMembers xs (xs ++ ys)
among_left xs ys n h = has-append n xs ys ∙ or_left (has xs n) (has ys n) h

pub among_right : (xs ys : List ℕ) → AreMembers ys (xs ++ ys)
among_right xs ys n h = has-append n xs ys ∙ or_right (has xs n) (has ys n) h

-- more numbers on both sides
pub among_after : (xs ys zs : List ℕ) → AreMembers ys zs → AreMembers (xs ++ ys) (xs ++ zs)
among_after xs ys zs h = among_both xs ys (xs ++ zs) (among_left xs zs) (λ n y. among_right xs zs n (h n y))

pub among_same : (xs ys : List ℕ) → xs ≡ ys → AreMembers xs ys
among_same xs ys same n h = ap (λ ns. has ns n) (sym same) ∙ h

-- the trigrams of one more 6-gram
pub sixgrams-push : (sixgrams : List ℕ) (sixgram : ℕ) → trigrams_of_sixgrams (sixgrams ++ sixgram ∷ [])
    ≡ trigrams_of_sixgrams sixgrams ++ sixgram_trigrams sixgram
sixgrams-push [] sixgram = append-nil (sixgram_trigrams sixgram)
sixgrams-push (p ∷ ps) sixgram = ap (λ ns. sixgram_trigrams p ++ ns) (sixgrams-push ps sixgram)
    ∙ sym (append_assoc (sixgram_trigrams p) (trigrams_of_sixgrams ps) (sixgram_trigrams sixgram))

-- the trigrams of a substring are trigrams of the bytes
sixgram-inside : (offset : ℕ) (bytes : List ℕ) → AreMembers (trigram_sequence (take 6 (drop offset bytes))) (trigram_sequence bytes)
sixgram-inside offset bytes n h =
    among_same _ _ (sym (sequence-split offset bytes)) n
    (among_right (trigram_sequence (take (offset + 2) bytes)) (trigram_sequence (drop offset bytes)) n
    (among_same _ _ (sym (sequence-split 4 (drop offset bytes))) n
    (among_left (trigram_sequence (take 6 (drop offset bytes))) (trigram_sequence (drop 4 (drop offset bytes))) n h)))

-- the trigrams up to the end of a 6-gram
covers-sixgram : (offset : ℕ) (bytes seen : List ℕ) (sixgram : ℕ) → sixgram_trigrams sixgram
    ≡ trigram_sequence (take 6 (drop offset bytes)) → offset + 6 ≤ length bytes →
    AreMembers (trigram_sequence (take (offset + 2) bytes)) seen → AreMembers (sixgram_trigrams sixgram) seen →
    AreMembers (trigram_sequence (take (offset + 4 + 2) bytes)) seen
covers-sixgram offset bytes seen sixgram is within before here n h =
    among_both (trigram_sequence (take (offset + 2) bytes)) (trigram_sequence (take 6 (drop offset bytes))) seen before
    (λ m e. here m (among_same _ _ (sym is) m e)) n
    (among_same _ _ (sequence-sixgram offset bytes within) n h)

-- one more 6-gram, a hit or a miss
pub misses-more : (file : ℕ) (earlier tags bytes misses : List ℕ) (offset count slot sixgram : ℕ) → slot < length tags →
    count < length misses → file_of sixgram ≡ file →
    sixgram_trigrams sixgram ≡ trigram_sequence (take 6 (drop offset bytes)) → offset + 6 ≤ length bytes →
    AreMisses file earlier tags bytes offset (take count misses) →
    ((get_or tags slot 0 ≡ sixgram) → AreMisses file earlier (set tags slot sixgram) bytes (offset + 4) (take count misses))
    × AreMisses file earlier (set tags slot sixgram) bytes (offset + 4) (take count misses ++ sixgram ∷ [])
misses-more file earlier tags bytes misses offset count slot sixgram inside room mine is within old = (again, new)
  where
    olds : List ℕ
    olds = take count misses

    again : (get_or tags slot 0 ≡ sixgram) → AreMisses file earlier (set tags slot sixgram) bytes (offset + 4) olds
    again same =
        let stays : set tags slot sixgram ≡ tags = ap (set tags slot) (sym same) ∙ set-get_or tags slot 0 in
        let here : AreMembers (sixgram_trigrams sixgram) (earlier ++ trigrams_of_sixgrams olds) =
        subst (λ p. AreMembers (sixgram_trigrams p) (earlier ++ trigrams_of_sixgrams olds)) same
        (old.caches_only slot inside (ap file_of same ∙ mine)) in
        record {
          caches_only = subst (λ ts. CachesOnly file ts (earlier ++ trigrams_of_sixgrams olds)) (sym stays) old.caches_only;
          covers = covers-sixgram offset bytes (earlier ++ trigrams_of_sixgrams olds) sixgram is within old.covers here;
          inside = old.inside;
        }

    same_there : get_or (set tags slot sixgram) slot 0 ≡ sixgram
    same_there = rw get_or-set_same refl

    seen : List ℕ
    seen = earlier ++ trigrams_of_sixgrams (olds ++ sixgram ∷ [])

    was : AreMembers (earlier ++ trigrams_of_sixgrams olds) seen
    was = among_after earlier (trigrams_of_sixgrams olds) (trigrams_of_sixgrams (olds ++ sixgram ∷ [])) (λ n h.
        among_same _ _ (sym (sixgrams-push olds sixgram)) n (among_left (trigrams_of_sixgrams olds) (sixgram_trigrams sixgram) n h))

    added : AreMembers (sixgram_trigrams sixgram) seen
    added n h = among_right earlier (trigrams_of_sixgrams (olds ++ sixgram ∷ [])) n
        (among_same _ _ (sym (sixgrams-push olds sixgram)) n (among_right (trigrams_of_sixgrams olds) (sixgram_trigrams sixgram) n h))

    caches_only_at : (i : ℕ) → i < length (set tags slot sixgram) → ((i ≡ slot) ⊎ (i ≡ slot → ⊥)) →
        file_of (get_or (set tags slot sixgram) i 0) ≡ file →
        AreMembers (sixgram_trigrams (get_or (set tags slot sixgram) i 0)) seen
    caches_only_at i low (inl there) whose =
        let value : get_or (set tags slot sixgram) i 0 ≡ sixgram = ap (λ k. get_or (set tags slot sixgram) k 0) there ∙ same_there in
        subst (λ p. AreMembers (sixgram_trigrams p) seen) (sym value) added
    caches_only_at i low (inr apart) whose =
        let value : get_or (set tags slot sixgram) i 0 ≡ get_or tags i 0 = rw get_or-set_other refl in
        subst (λ p. AreMembers (sixgram_trigrams p) seen) (sym value)
        (λ n h. was n (old.caches_only i (omega (arith, low, length-set tags slot sixgram)) (ap file_of (sym value) ∙ whose) n h))

    new : AreMisses file earlier (set tags slot sixgram) bytes (offset + 4) (olds ++ sixgram ∷ [])
    new = record {
      caches_only = λ i low whose. caches_only_at i low (cases_eq i slot) whose;
      covers = covers-sixgram offset bytes seen sixgram is within (λ n h. was n (old.covers n h)) added;
      inside = λ n h. among_both (trigrams_of_sixgrams olds) (sixgram_trigrams sixgram) (trigram_sequence bytes) old.inside
          (λ m e. sixgram-inside offset bytes m (among_same _ _ is m e)) n (among_same _ _ (sixgrams-push olds sixgram) n h);
    }

-- the trigrams of the 6-grams before an index, and those of the one there
pub sixgrams-more : (sixgrams : List ℕ) (i : ℕ) → i < length sixgrams → trigrams_of_sixgrams (take (i + 1) sixgrams)
    ≡ trigrams_of_sixgrams (take i sixgrams) ++ sixgram_trigrams (get_or sixgrams i 0)
sixgrams-more sixgrams i within = ap trigrams_of_sixgrams (take_more sixgrams i 0 within)
    ∙ sixgrams-push (take i sixgrams) (get_or sixgrams i 0)

pub hit-kept : (count sixgram : ℕ) (misses : List ℕ) → take (count + 0) (set misses count sixgram) ≡ take count misses
hit-kept count sixgram misses = take-set-le (count + 0) misses count sixgram (omega arith) ∙ ap (λ n. take n misses) (omega arith)

-- a vector whose items were all written
pub whole-write : (n : ℕ) (new old : List ℕ) → n ≡ length old → length new ≡ length old → take n (new ++ drop (length new) old) ≡ new
whole-write n new old len same =
    ap (λ rest. take n (new ++ rest)) (drop_all (length new) old (omega (arith, same))) ∙ ap (take n) (append-nil new)
    ∙ take_all n new (omega (arith, len, same))

-- a 6-gram together with the number of its file
pub tagged_sixgram : (file six : ℕ) → file < 65536 → six < 2 ^ 48 →
    (sixgram_trigrams (file * 2 ^ 48 % 2 ^ 64 + six) ≡ sixgram_trigrams six) ×
    (file_of (file * 2 ^ 48 % 2 ^ 64 + six) ≡ file)
tagged_sixgram file six low small = (λ i. a i ∷ b i ∷ c i ∷ d i ∷ [], omega (arith, low, small))
  where
    n : ℕ
    n = file * 2 ^ 48 % 2 ^ 64 + six

    a : n / 2 ^ 24 % 16777216 ≡ six / 2 ^ 24 % 16777216
    a = omega (arith, low, small)

    b : n / 2 ^ 16 % 16777216 ≡ six / 2 ^ 16 % 16777216
    b = omega (arith, low, small)

    c : n / 2 ^ 8 % 16777216 ≡ six / 2 ^ 8 % 16777216
    c = omega (arith, low, small)

    d : n % 16777216 ≡ six % 16777216
    d = omega (arith, low, small)
