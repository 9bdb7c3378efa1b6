-- The set of trigrams after one more block.
use Rattle.std.proofs.Common.{◌≡◌, ◌≤◌, ◌<◌, ℕ, ◌+◌, true, false, List, [], ◌∷◌, ◌++◌, length, take, drop, refl, sym, ap, subst, ◌∙◌, inl, inr, ◌⊎◌, arith, length-take-le}
use Rattle.std.proofs.lemmas.Bool.{cases_Bool, true≢false}
use Rattle.std.proofs.lemmas.List.{append_assoc, append-nil}
use Rattle.cs_trigram.specs.declared.seen_trigrams.SeenTrigrams.{SeenTrigrams}
use Rattle.cs_trigram.specs.Trigram.{has, set_of_numbers, trigram_sequence}
use Rattle.cs_trigram.specs.TrigramBitmap.{IsSeenSet, CollectsOn}
use Rattle.cs_trigram.specs.Sixgrams.{trigrams_of_sixgrams, AreMembers, CachesOnly, AreMisses, HasNoLaterFile}
use Rattle.cs_trigram.specs.SeenTrigrams.{HasSeen}
use Rattle.cs_trigram.proofs.SetLemmas.{has-set_of_numbers, ascends_set, ascends_same, set_of_numbers-push, length-with_number-ge}
use Rattle.cs_trigram.proofs.SplitTrigramLemmas.{sequence-split}
use Rattle.cs_trigram.proofs.SixgramCacheLemmas.{among_both, among_left, among_right, among_after, among_same}

-- the set of more numbers is not smaller
pub set-grows : (xs ys : List ℕ) → length (set_of_numbers xs) ≤ length (set_of_numbers (xs ++ ys))
set-grows xs [] = omega (arith, ap (λ ns. length (set_of_numbers ns)) (append-nil xs))
set-grows xs (y ∷ ys) =
    let on : length (set_of_numbers (xs ++ y ∷ [])) ≤ length (set_of_numbers ((xs ++ y ∷ []) ++ ys)) = set-grows (xs ++ y ∷ []) ys in
    omega (
      arith,
      on,
      ap (λ ns. length (set_of_numbers ns)) (append_assoc xs (y ∷ []) ys),
      ap length (set_of_numbers-push xs y),
      length-with_number-ge y (set_of_numbers xs),
    )

-- two lists with the same members have one set
pub same_set : (xs ys : List ℕ) → AreMembers xs ys → AreMembers ys xs → set_of_numbers xs ≡ set_of_numbers ys
same_set xs ys there suffix =
    ascends_same (set_of_numbers xs) (set_of_numbers ys) (ascends_set xs) (ascends_set ys) (λ n.
    has-set_of_numbers n xs ∙ offset n (cases_Bool (has xs n)) (cases_Bool (has ys n)) ∙ sym (has-set_of_numbers n ys))
  where
    offset : (n : ℕ) → ((has xs n ≡ true) ⊎ (has xs n ≡ false)) → ((has ys n ≡ true) ⊎ (has ys n ≡ false)) → has xs n ≡ has ys n
    offset n (inl x) (inl y) = x ∙ sym y
    offset n (inl x) (inr y) = absurd (true≢false (sym (there n x) ∙ y))
    offset n (inr x) (inl y) = absurd (true≢false (sym (suffix n y) ∙ x))
    offset n (inr x) (inr y) = x ∙ sym y

module _ (file : ℕ) (earlier tags bytes : List ℕ) (offset : ℕ) (misses : List ℕ)
    (are : AreMisses file earlier tags bytes offset misses) where
  abbrev pub rest : List ℕ
  rest = trigram_sequence (drop offset bytes)

  abbrev pub scanned : List ℕ
  scanned = trigram_sequence (take (offset + 2) bytes)

  whole : trigram_sequence bytes ≡ scanned ++ rest
  whole = sequence-split offset bytes

  rest-inside : AreMembers rest (trigram_sequence bytes)
  rest-inside n h = among_same (scanned ++ rest) (trigram_sequence bytes) (sym whole) n (among_right scanned rest n h)

  there : AreMembers (earlier ++ (trigrams_of_sixgrams misses ++ rest)) (earlier ++ trigram_sequence bytes)
  there = among_after earlier (trigrams_of_sixgrams misses ++ rest) (trigram_sequence bytes)
      (among_both (trigrams_of_sixgrams misses) rest (trigram_sequence bytes) are.inside rest-inside)

  prefix-suffix : AreMembers (earlier ++ trigrams_of_sixgrams misses) (earlier ++ (trigrams_of_sixgrams misses ++ rest))
  prefix-suffix = among_after earlier (trigrams_of_sixgrams misses) (trigrams_of_sixgrams misses ++ rest)
      (among_left (trigrams_of_sixgrams misses) rest)

  rest-suffix : AreMembers rest (earlier ++ (trigrams_of_sixgrams misses ++ rest))
  rest-suffix n h = among_right earlier (trigrams_of_sixgrams misses ++ rest) n (among_right (trigrams_of_sixgrams misses) rest n h)

  suffix : AreMembers (earlier ++ trigram_sequence bytes) (earlier ++ (trigrams_of_sixgrams misses ++ rest))
  suffix = among_both earlier (trigram_sequence bytes) (earlier ++ (trigrams_of_sixgrams misses ++ rest))
      (among_left earlier (trigrams_of_sixgrams misses ++ rest)) (λ n h.
      among_both scanned rest (earlier ++ (trigrams_of_sixgrams misses ++ rest))
      (λ m e. prefix-suffix m (are.covers m e)) rest-suffix n
      (among_same (trigram_sequence bytes) (scanned ++ rest) whole n h))

  -- the trigrams of the misses, and of the bytes after the last 6-gram, are those of all bytes
  pub all-found : set_of_numbers (earlier ++ (trigrams_of_sixgrams misses ++ rest)) ≡ set_of_numbers (earlier ++ trigram_sequence bytes)
  all-found = same_set (earlier ++ (trigrams_of_sixgrams misses ++ rest)) (earlier ++ trigram_sequence bytes) there suffix

  -- the cache has no others
  pub all-remembered : CachesOnly file tags (earlier ++ trigram_sequence bytes)
  all-remembered i low mine n h =
      among_after earlier (trigrams_of_sixgrams misses) (trigram_sequence bytes) are.inside n (are.caches_only i low mine n h)

is_set-itself : (bitmap numbers set : List ℕ) → IsSeenSet bitmap numbers set → IsSeenSet bitmap numbers (set_of_numbers numbers)
is_set-itself bitmap numbers set is_set = record {
  same = refl;
  once = is_set.once ∙ ap length (sym is_set.same);
  is_bitmap = is_set.is_bitmap;
}

-- one more block, within the limit
pub HasSeen-more : (most : ℕ) (old found : SeenTrigrams) (trigrams bytes : List ℕ) (offset : ℕ) (misses : List ℕ) →
    HasSeen most old trigrams → old.len ≤ most → length found.list.items ≡ length old.list.items → found.len ≤ length found.list.items →
    (CachesOnly old.sixgrams.file old.sixgrams.tags.items trigrams → AreMisses old.sixgrams.file trigrams
    found.sixgrams.tags.items bytes offset misses) →
    (found.sixgrams.file ≡ old.sixgrams.file) →
    (HasNoLaterFile old.sixgrams.file old.sixgrams.tags.items →
    HasNoLaterFile old.sixgrams.file found.sixgrams.tags.items) →
    CollectsOn old.bitmap.items old.list.items old.len found.bitmap.items found.list.items found.len
    (trigrams_of_sixgrams misses ++ trigram_sequence (drop offset bytes)) →
    HasSeen most found (trigrams ++ trigram_sequence bytes)
HasSeen-more most old found trigrams bytes offset misses keeps short same within are file last collects = record {
  room = same ∙ keeps.room;
  sound = (
    is_set-itself found.bitmap.items (take found.len found.list.items) _ (collects (take old.len old.list.items) keeps.sound.0),
    subst (λ f. HasNoLaterFile f found.sixgrams.tags.items) (sym file) (last keeps.sound.1),
  );
  within = λ fits. (
    is_set,
    subst (λ f. CachesOnly f found.sixgrams.tags.items (trigrams ++ trigram_sequence bytes))
        (sym file) (all-remembered old.sixgrams.file trigrams found.sixgrams.tags.items bytes offset misses split),
  );
  beyond = λ over. omega (arith, over, is_set.once, length-take-le found.len found.list.items within);
}
  where
    split : AreMisses old.sixgrams.file trigrams found.sixgrams.tags.items bytes offset misses
    split = are (keeps.within short).1

    is_set : IsSeenSet found.bitmap.items (take found.len found.list.items) (set_of_numbers (trigrams ++ trigram_sequence bytes))
    is_set = subst (IsSeenSet found.bitmap.items (take found.len found.list.items))
        (all-found old.sixgrams.file trigrams found.sixgrams.tags.items bytes offset misses split)
        (collects trigrams (keeps.within short).0)

-- one more block, beyond the limit
pub HasSeen-over : (most : ℕ) (found : SeenTrigrams) (trigrams more : List ℕ) → HasSeen most found trigrams →
    most < found.len → HasSeen most found (trigrams ++ more)
HasSeen-over most found trigrams more keeps over = record {
  room = keeps.room;
  sound = keeps.sound;
  within = λ fits. absurd (omega (arith, over, fits));
  beyond = λ past. omega (arith, keeps.beyond past, set-grows trigrams more);
}
