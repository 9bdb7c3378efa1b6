-- The offset of a name.
use Rattle.std.specs.Prelude.{bytes_eq, unwrap_or}
use Rattle.std.proofs.Common.{◌≡◌, ℕ, zero, suc, ◌+◌, ◌*◌, ◌<◌, ◌≤◌, true, eqb, List, [], ◌∷◌, ◌++◌, length, map, drop, get_or, refl, sym, ap, subst, ◌∙◌, arith, append_assoc, inl, inr, ◌⊎◌, length-drop, Option, Some, None, Bor, slice_get}
use Rattle.std.proofs.lemmas.Bool.{or_cases, and_parts}
use Rattle.std.specs.List.{AllByRecursion, concat}
use Rattle.std.specs.Option.{option_copied}
use Rattle.std.specs.Iterator.{SkipsThenYields, Yields, YieldsFirstRef}
use Rattle.std.proofs.lemmas.Option.{slice_get_past}
use Rattle.std.specs.Cmp.Lexicographic.{bytes_decides}
use Rattle.cs_index.specs.Encoding.{with_nul, starts_from, IsString}
use Rattle.cs_index.specs.Opening.{is_names_section, is_name_index, is_section, number_at, numbers_from, texts_of}
use Rattle.cs_index.specs.Decoding.{AreStrings}
use Rattle.cs_index.proofs.decoding.StringSections.{section_read, texts_decoded, formed_decoded, string_begins}

number_in : (bytes : List ℕ) (at count k : ℕ) → k < count → get_or (numbers_from bytes at count) k 0 ≡ number_at bytes (at + 4 * k)
number_in bytes at zero k h = absurd (omega (arith, h))
number_in bytes at (suc count) zero h = ap (number_at bytes) (let z : at ≡ at + 4 * 0 = omega arith in z)
number_in bytes at (suc count) (suc k) h = number_in bytes (at + 4) count k (omega (arith, h))
    ∙ ap (number_at bytes) (let z : at + 4 + 4 * k ≡ at + 4 * suc k = omega arith in z)

drop_strings : (k : ℕ) (texts : List (List ℕ)) → AllByRecursion IsString texts → AllByRecursion IsString (drop k texts)
drop_strings zero texts all = all
drop_strings (suc k) [] all = tt
drop_strings (suc k) (text ∷ texts) all = drop_strings k texts all.1

-- The names from the id on begin at the offset.
pub record NamesBegin (names : List ℕ) (offset id : ℕ) : Type 0 where
  pub within : offset ≤ length names
  pub formed : is_names_section (drop offset names) ≡ true
  pub texts : texts_of (drop offset names) ≡ drop id (texts_of names)

begin_at : (closing names : List ℕ) (offset id : ℕ) → (closing ≡ []) ⊎ (closing ≡ 0 ∷ []) →
    AreStrings closing (texts_of names) names → offset ≡ get_or (starts_from 0 (map with_nul (texts_of names))) id 0 →
    id < length (texts_of names) → NamesBegin names offset id
begin_at closing names offset id tail read at h =
    let begins = string_begins (texts_of names) closing id h in
    let whole : names ≡ concat (map with_nul (texts_of names)) ++ closing = read.1 in
    let rest : drop offset names ≡ concat (map with_nul (drop id (texts_of names))) ++ closing =
    (λ i. drop (at i) (whole i)) ∙ begins.rest in
    let each = drop_strings id (texts_of names) read.0 in
    record {
      within = subst (λ (n : ℕ). n ≤ length names) (sym at)
          (subst (λ (bs : List ℕ). get_or (starts_from 0 (map with_nul (texts_of names))) id 0 ≤ length bs) (sym whole)
          begins.within);
      formed = ap is_names_section rest ∙ formed_decoded (drop id (texts_of names)) closing each tail;
      texts = ap texts_of rest ∙ texts_decoded (drop id (texts_of names)) closing each tail;
    }

pub name_begins : (names name_index : List ℕ) (id : ℕ) → is_names_section names ≡ true →
    is_name_index name_index (texts_of names) ≡ true → id < length (texts_of names) →
    NamesBegin names (number_at name_index (4 * id)) id
unfolding is_name_index
name_begins names name_index id is index h =
    let texts : List (List ℕ) = texts_of names in
    let starts : List ℕ = starts_from 0 (map with_nul texts) in
    let both = and_parts (eqb (length name_index) (4 * (length texts + 1)))
    (bytes_eq (numbers_from name_index 0 (length texts)) starts) index in
    let numbers : numbers_from name_index 0 (length texts) ≡ starts =
    (bytes_decides (numbers_from name_index 0 (length texts)) starts).0 both.1 in
    let offset : number_at name_index (4 * id) ≡ get_or starts id 0 =
    ap (number_at name_index) (let z : 4 * id ≡ 0 + 4 * id = omega arith in z)
    ∙ sym (number_in name_index 0 (length texts) id h) ∙ ap (λ (ns : List ℕ). get_or ns id 0) numbers in
    elim (or_cases (is_section (0 ∷ []) names) (is_section [] names) is) [
      | inl closed ↦ begin_at (0 ∷ []) names (number_at name_index (4 * id)) id (inr refl) (section_read (0 ∷ []) names closed) offset h
      | inr bare ↦ begin_at [] names (number_at name_index (4 * id)) id (inl refl) (section_read [] names bare) offset h
    ]

-- The name with an id stands at the offset.
pub record NameStands (names : List ℕ) (offset : ℕ) (name : List ℕ) : Type 0 where
  pub more : List ℕ
  pub there : drop offset names ≡ with_nul name ++ more
  pub string : IsString name
  pub within : offset ≤ length names

drop_get : (texts : List (List ℕ)) (id : ℕ) (name : List ℕ) → slice_get texts id ≡ Some name → drop id texts ≡ name ∷ drop (suc id) texts
drop_get [] zero name h = cc
drop_get [] (suc id) name h = cc
drop_get (text ∷ texts) zero name h = ap (λ n. n ∷ texts) (ap (λ (o : Option (List ℕ)). unwrap_or o text) h)
drop_get (text ∷ texts) (suc id) name h = drop_get texts id name h

pub name_stands : (names name_index : List ℕ) (id : ℕ) (name : List ℕ) → is_names_section names ≡ true →
    is_name_index name_index (texts_of names) ≡ true → id < length (texts_of names) → slice_get (texts_of names) id
    ≡ Some name → NameStands names (number_at name_index (4 * id)) name
name_stands names name_index id name is index h named =
    let begins = name_begins names name_index id is index h in
    let rest : List ℕ = drop (number_at name_index (4 * id)) names in
    let texts : texts_of rest ≡ name ∷ drop (suc id) (texts_of names) = begins.texts ∙ drop_get (texts_of names) id name named in
    elim (or_cases (is_section (0 ∷ []) rest) (is_section [] rest) begins.formed) [
      | inl closed ↦ stands_first (0 ∷ []) rest texts (section_read (0 ∷ []) rest closed) begins.within refl
      | inr bare ↦ stands_first [] rest texts (section_read [] rest bare) begins.within refl
    ]
  where
    stands_first : (closing rest : List ℕ) → texts_of rest ≡ name ∷ drop (suc id) (texts_of names) →
        AreStrings closing (texts_of rest) rest → number_at name_index (4 * id) ≤ length names →
        rest ≡ drop (number_at name_index (4 * id)) names → NameStands names (number_at name_index (4 * id)) name
    stands_first closing rest texts read within same = record {
      more = concat (map with_nul (drop (suc id) (texts_of names))) ++ closing;
      there = sym same ∙ read.1 ∙ ap (λ (ts : List (List ℕ)). concat (map with_nul ts) ++ closing) texts
          ∙ append_assoc (with_nul name) (concat (map with_nul (drop (suc id) (texts_of names)))) closing;
      string = (subst (AllByRecursion IsString) texts read.0).0;
      within = within;
    }

slice_drop : (texts : List (List ℕ)) (id : ℕ) → slice_get texts id ≡ slice_get (drop id texts) 0
slice_drop [] zero = refl
slice_drop [] (suc id) = refl
slice_drop (text ∷ texts) zero = refl
slice_drop (text ∷ texts) (suc id) = slice_drop texts id

first_given : (rest later : List (List ℕ)) (found : Option (Bor (List ℕ))) →
    YieldsFirstRef (λ (texts : List (List ℕ)). texts) rest found later → option_copied found ≡ slice_get rest 0
first_given rest later None steps = sym (ap (λ (ts : List (List ℕ)). slice_get ts 0) steps.0)
first_given rest later (Some x) steps = sym (ap (λ (ts : List (List ℕ)). slice_get ts 0) steps)

-- the first of the names from an id on is the name with this id
pub name_given : (texts rest later : List (List ℕ)) (id : ℕ) (found : Option (Bor (List ℕ))) → rest ≡ drop id texts →
    YieldsFirstRef (λ (texts : List (List ℕ)). texts) rest found later → option_copied found ≡ slice_get texts id
name_given texts rest later id found is steps =
    first_given rest later found steps ∙ ap (λ (ts : List (List ℕ)). slice_get ts 0) is ∙ sym (slice_drop texts id)

-- ---- one of several texts

abbrev FirstOf : List (List ℕ) → Option (Bor (List ℕ)) → List (List ℕ) → Type 0
FirstOf = YieldsFirstRef (λ (texts : List (List ℕ)). texts)

skipped_over : (texts later : List (List ℕ)) (skipped : List (Bor (List ℕ))) → Yields FirstOf texts skipped later →
    drop (length skipped) texts ≡ later
skipped_over texts later [] yields = yields
skipped_over texts later (x ∷ skipped) (rest, first, yields) = ap (drop (suc (length skipped))) first
    ∙ skipped_over rest later skipped yields

past_end : (texts : List (List ℕ)) (n k : ℕ) → drop n texts ≡ [] → n ≤ k → slice_get texts k ≡ None
past_end texts n k none h =
    let gone : length (drop n texts) ≡ 0 = ap length none in
    slice_get_past texts k (let l = length-drop n texts in omega (arith, l, gone, h))

-- the text after some that were skipped
pub text_given : (texts later : List (List ℕ)) (position : ℕ) (found : Option (Bor (List ℕ))) →
    SkipsThenYields FirstOf texts position found later → option_copied found ≡ slice_get texts position
text_given texts later position None (skipped, then, bound) =
    sym (past_end texts (length skipped) position (skipped_over texts then.0 skipped then.1 ∙ then.2.0) bound)
text_given texts later position (Some x) (skipped, then, count) =
    name_given texts then.0 later position (Some x) (sym (skipped_over texts then.0 skipped then.1) ∙ ap (λ n. drop n texts) count) then.2
