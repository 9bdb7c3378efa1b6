-- Offsets of strings that are tested without a search: each is after a NUL, and there are as many as strings.
use Rattle.std.proofs.Common.{◌≡◌, ◌≢◌, ◌⊎◌, ℕ, zero, suc, ◌+◌, ◌-◌, ◌*◌, ◌<◌, ◌≤◌, false, ltb, List, [], ◌∷◌, length, drop, get_or, refl, sym, ap, ◌∙◌, inl, inr, arith, length-append, length-drop}
use Rattle.std.proofs.lemmas.Bool.{cases_order, eq-eqb, ne_eqb, lt-ltb, le-ltb}
use Rattle.std.proofs.lemmas.List.{drop_at, drop-drop, get_or-append-add, get_or-drop, get_or_append_left, length_push}
use Rattle.std.specs.List.{AllByRecursion}
use Rattle.cs_index.specs.Encoding.{with_nul, IsString}
use Rattle.cs_index.specs.Opening.{number_at}
use Rattle.cs_index.specs.ValidSections.{has_starts}
use Rattle.cs_index.proofs.decoding.EntryTables.{offsets_step, offsets_wrong, offsets_end}
use Rattle.cs_index.proofs.stored.SectionPieces.{run_bytes, wrong_length}

above_at : (text : List ℕ) (k : ℕ) → AllByRecursion (λ b. 0 < b) text → k < length text → get_or text k 0 ≢ 0
above_at [] k all h e = omega (arith, h)
above_at (b ∷ text) zero all h e = omega (arith, all.0, e)
above_at (b ∷ text) (suc k) all h e = above_at text k all.1 (omega (arith, h)) e

-- ---- the end of a string

module _ (text : List ℕ) (texts : List (List ℕ)) where
  first_long : length (run_bytes (text ∷ texts)) ≡ length text + 1 + length (run_bytes texts)
  first_long = let a = length-append (with_nul text) (run_bytes texts) in let p = length_push text 0 in omega (arith, a, p)

  first_nul : get_or (run_bytes (text ∷ texts)) (length text) 0 ≡ 0
  first_nul =
      let p = length_push text 0 in
      let at : length text + 0 ≡ length text = omega arith in
      get_or_append_left (with_nul text) (run_bytes texts) 0 (length text) (omega (arith, p))
      ∙ ap (λ n. get_or (with_nul text) n 0) (sym at) ∙ get_or-append-add text (0 ∷ []) 0 0

  first_inside : (k : ℕ) → k < length text → get_or (run_bytes (text ∷ texts)) k 0 ≡ get_or text k 0
  first_inside k h =
      let p = length_push text 0 in
      get_or_append_left (with_nul text) (run_bytes texts) 0 k (omega (arith, h, p)) ∙ get_or_append_left text (0 ∷ []) 0 k h

  first_after : (k : ℕ) → get_or (run_bytes (text ∷ texts)) (length text + 1 + k) 0 ≡ get_or (run_bytes texts) k 0
  first_after k =
      let p = length_push text 0 in
      ap (λ n. get_or (run_bytes (text ∷ texts)) n 0) (let z : length text + 1 + k ≡ length (with_nul text) + k = omega (arith, p) in z)
      ∙ get_or-append-add (with_nul text) (run_bytes texts) k 0

  rest_after : drop (length text + 1) (run_bytes (text ∷ texts)) ≡ run_bytes texts
  rest_after = drop_at (with_nul text) (run_bytes texts) (length text + 1) (length_push text 0)

-- The strings from an offset after a NUL on: all after the first string, or fewer.
pub record IsCut (text : List ℕ) (texts : List (List ℕ)) (p : ℕ) : Type 0 where
  pub left : List (List ℕ)
  pub each : AllByRecursion IsString left
  pub bytes : drop p (run_bytes (text ∷ texts)) ≡ run_bytes left
  pub either : ((p ≡ length text + 1) × (left ≡ texts)) ⊎ ((length text + 1 < p) × (length left < length texts))

cut_here : (text : List ℕ) (texts : List (List ℕ)) (p : ℕ) → AllByRecursion IsString texts → p ≡ length text + 1 → IsCut text texts p
cut_here text texts p all same = record {
  left = texts;
  each = all;
  bytes = ap (λ n. drop n (run_bytes (text ∷ texts)))
      same ∙ rest_after text texts;
  either = inl (same, refl);
}

-- no NUL is inside a string
cut_inside : (text : List ℕ) (texts : List (List ℕ)) (p : ℕ) → AllByRecursion (λ b. 0 < b) text → 0 < p →
    p < length text + 1 → get_or (run_bytes (text ∷ texts)) (p - 1) 0 ≢ 0
cut_inside text texts p all some less nul =
    above_at text (p - 1) all (omega (arith, some, less)) (sym (first_inside text texts (p - 1) (omega (arith, some, less))) ∙ nul)

cut_later : (text t : List ℕ) (ts : List (List ℕ)) (p : ℕ) → length text + 1 < p → IsCut t ts (p - (length text + 1)) →
    IsCut text (t ∷ ts) p
cut_later text t ts p more rest =
    let m : ℕ = length text + 1 in
    record {
      left = rest.left;
      each = rest.each;
      bytes = ap (λ n. drop n (run_bytes (text ∷ t ∷ ts))) (let z : p ≡ m + (p - m) = omega (arith, more) in z)
          ∙ sym (drop-drop (p - m) m (run_bytes (text ∷ t ∷ ts))) ∙ ap (drop (p - m)) (rest_after text (t ∷ ts)) ∙ rest.bytes;
      either = inr (more, fewer rest.left rest.either);
    }
  where
    fewer : (left : List (List ℕ)) → ((p - (length text + 1) ≡ length t + 1) × (left ≡ ts)) ⊎
        ((length t + 1 < p - (length text + 1)) × (length left < length ts)) → length left < suc (length ts)
    fewer left (inl same) = let l = ap length same.1 in omega (arith, l)
    fewer left (inr less) = let l = less.1 in omega (arith, l)

pub cut : (text : List ℕ) (texts : List (List ℕ)) (p : ℕ) → AllByRecursion IsString (text ∷ texts) → 0 < p →
    p ≤ length (run_bytes (text ∷ texts)) → get_or (run_bytes (text ∷ texts)) (p - 1) 0 ≡ 0 → IsCut text texts p
cut text [] p all some within nul = elim (cases_order p (length text + 1)) [
  | inl same ↦ cut_here text [] p all.1 same
  | inr other ↦ elim other [
    | inl less ↦ absurd (cut_inside text [] p all.0.1 some less nul)
    | inr more ↦ absurd (let l = first_long text [] in omega (arith, l, more, within))
  ]
]
cut text (t ∷ ts) p all some within nul = elim (cases_order p (length text + 1)) [
  | inl same ↦ cut_here text (t ∷ ts) p all.1 same
  | inr other ↦ elim other [
    | inl less ↦ absurd (cut_inside text (t ∷ ts) p all.0.1 some less nul)
    | inr more ↦
        let m : ℕ = length text + 1 in
        let l = first_long text (t ∷ ts) in
        let there : m + (p - m - 1) ≡ p - 1 = omega (arith, more) in
        cut_later text t ts p more
        (cut t ts (p - m) all.1 (omega (arith, more)) (omega (arith, within, l, more))
        (sym (first_after text (t ∷ ts) (p - m - 1)) ∙ ap (λ n. get_or (run_bytes (text ∷ t ∷ ts)) n 0) there ∙ nul))
  ]
]

-- ---- the numbers

module _ (numbers : List ℕ) (at offset : ℕ) (number : number_at numbers at ≡ offset) where
  -- the next number is an offset after a NUL
  pub starts_next : (next : ℕ) (text : List ℕ) (texts left : List (List ℕ)) → number_at numbers (at + 4) ≡ next → at
      + 4 * length (text ∷ texts) + 4 ≤ length numbers
      → ((next ≡ offset + (length text + 1)) × (left ≡ texts)) ⊎ ((offset + (length text + 1) < next) × (length left < length texts))
      → has_starts numbers at offset (text ∷ texts) ≡ has_starts numbers (at + 4) next left
  starts_next next text texts left is few (inl same) =
      offsets_step numbers at offset next text texts number same.0 ∙ ap (has_starts numbers (at + 4) next) (sym same.1)
  starts_next next text texts left is few (inr less) =
      offsets_step numbers at offset (offset + (length text + 1)) text texts number refl
      ∙ none texts less.1
      ∙ sym (wrong_length numbers (at + 4) next left (λ e. let l = less.1 in omega (arith, e, few, l)))
    where
      none : (ts : List (List ℕ)) → length left < length ts → has_starts numbers (at + 4) (offset + (length text + 1)) ts ≡ false
      none [] l = absurd (omega (arith, l))
      none (t ∷ ts) l = offsets_wrong numbers (at + 4) (offset + (length text + 1)) t ts (λ e. let n = less.0 in omega (arith, e, is, n))

  -- the next number is no offset of a string
  pub starts_not : (texts : List (List ℕ)) → at + 12 ≤ length numbers →
      ((text : List ℕ) (more : List (List ℕ)) → texts ≡ text ∷ more → number_at numbers (at + 4) ≢ offset
      + (length text + 1)) → has_starts numbers at offset texts ≡ false
  starts_not [] long apart = offsets_end numbers at offset (omega (arith, long))
      ∙ ne_eqb (length numbers - at) 4 (λ e. omega (arith, e, long))
  starts_not (text ∷ []) long apart =
      offsets_step numbers at offset (offset + (length text + 1)) text [] number refl
      ∙ offsets_end numbers (at + 4) (offset + (length text + 1)) (omega (arith, long))
      ∙ ne_eqb (length numbers - (at + 4)) 4 (λ e. omega (arith, e, long))
  starts_not (text ∷ t ∷ ts) long apart =
      offsets_step numbers at offset (offset + (length text + 1)) text (t ∷ ts) number refl
      ∙ offsets_wrong numbers (at + 4) (offset + (length text + 1)) t ts (apart text (t ∷ ts) refl)

  -- the last number
  pub starts_last : (texts : List (List ℕ)) (from long : ℕ) → at + 8 ≡ length numbers → at + 4 * length texts + 4
      ≤ length numbers → long ≡ from + length (run_bytes texts) → ltb from long ≡ has_starts numbers at offset texts
  starts_last [] from long end few is =
      le-ltb from long (omega (arith, is))
      ∙ sym (offsets_end numbers at offset (omega (arith, end)) ∙ ne_eqb (length numbers - at) 4 (λ e. omega (arith, e, end)))
  starts_last (text ∷ []) from long end few is =
      let l = first_long text [] in
      lt-ltb from long (omega (arith, is, l))
      ∙ sym (offsets_step numbers at offset (offset + (length text + 1)) text [] number refl
      ∙ offsets_end numbers (at + 4) (offset + (length text + 1)) (omega (arith, end))
      ∙ eq-eqb (length numbers - (at + 4)) 4 (omega (arith, end)))
  starts_last (text ∷ t ∷ ts) from long end few is = absurd (omega (arith, end, few))

-- the end of the first string is after it
pub end_there : (names : List ℕ) (from : ℕ) (text : List ℕ) (texts : List (List ℕ)) → drop from names ≡ run_bytes (text ∷ texts)
    → (from + (length text + 1) ≤ length names) × (get_or names (from + (length text + 1) - 1) 0 ≡ 0)
end_there names from text texts is =
    let l = ap length is in
    let f = first_long text texts in
    let d = length-drop from names in (
      omega (arith, l, f, d),
      ap (λ n. get_or names n 0) (let z : from + (length text + 1) - 1 ≡ from + length text = omega arith in z)
          ∙ sym (get_or-drop from names (length text) 0) ∙ ap (λ (bs : List ℕ). get_or bs (length text) 0) is ∙ first_nul text texts,
    )

-- the first number is no offset of the first string
pub starts_wrong : (numbers : List ℕ) (at offset : ℕ) (texts : List (List ℕ)) → 0 < length texts →
    number_at numbers at ≢ offset → has_starts numbers at offset texts ≡ false
starts_wrong numbers at offset [] some apart = absurd (omega (arith, some))
starts_wrong numbers at offset (text ∷ texts) some apart = offsets_wrong numbers at offset text texts apart

-- ---- one more number

-- The strings from the next offset on, and what is left to test.
pub record GoesOn (numbers names : List ℕ) (start at from to : ℕ) (texts : List (List ℕ)) : Type 0 where
  pub left : List (List ℕ)
  pub each : AllByRecursion IsString left
  pub bytes : drop to names ≡ run_bytes left
  pub few : at + 4 + 4 * length left + 4 ≤ length numbers
  pub starts : has_starts numbers at (start + from) texts ≡ has_starts numbers (at + 4) (start + to) left

pub goes_on : (numbers names : List ℕ) (start at from to : ℕ) (texts : List (List ℕ)) → AllByRecursion IsString texts →
    drop from names ≡ run_bytes texts → number_at numbers at ≡ start + from → number_at numbers (at + 4) ≡ start + to
    → at + 4 * length texts + 4 ≤ length numbers → from < to → to ≤ length names → get_or names (to - 1) 0 ≡ 0 →
    GoesOn numbers names start at from to texts
goes_on numbers names start at from to [] all bytes number next few order within nul =
    absurd (let l = ap length bytes in let d = length-drop from names in omega (arith, l, d, order, within))
goes_on numbers names start at from to (text ∷ texts) all bytes number next few order within nul =
    let p : ℕ = to - from in
    let l = ap length bytes in
    let d = length-drop from names in
    let there : from + (p - 1) ≡ to - 1 = omega (arith, order) in
    let whole : from + p ≡ to = omega (arith, order) in
    let nul' : get_or (run_bytes (text ∷ texts)) (p - 1) 0 ≡ 0 =
    sym (ap (λ (bs : List ℕ). get_or bs (p - 1) 0) bytes) ∙ get_or-drop from names (p - 1) 0 ∙ ap (λ n. get_or names n 0) there ∙ nul in
    let c = cut text texts p all (omega (arith, order)) (omega (arith, l, d, within)) nul' in
    record {
      left = c.left;
      each = c.each;
      bytes = ap (λ n. drop n names) (sym whole) ∙ sym (drop-drop p from names) ∙ ap (drop p) bytes ∙ c.bytes;
      few = fewer c.left c.either;
      starts = starts_next numbers at (start + from) number (start + to) text texts c.left next few (later c.left c.either);
    }
  where
    fewer : (left : List (List ℕ)) → ((to - from ≡ length text + 1) × (left ≡ texts)) ⊎
        ((length text + 1 < to - from) × (length left < length texts)) → at + 4 + 4 * length left + 4 ≤ length numbers
    fewer left (inl same) = let m = ap length same.1 in omega (arith, m, few)
    fewer left (inr less) = let m = less.1 in omega (arith, m, few)

    later : (left : List (List ℕ)) → ((to - from ≡ length text + 1) × (left ≡ texts)) ⊎
        ((length text + 1 < to - from) × (length left < length texts))
        → ((start + to ≡ start + from + (length text + 1)) × (left ≡ texts)) ⊎
        ((start + from + (length text + 1) < start + to) × (length left < length texts))
    later left (inl same) = let m = same.0 in inl (omega (arith, m, order), same.1)
    later left (inr less) = let m = less.0 in inr (omega (arith, m), less.1)
