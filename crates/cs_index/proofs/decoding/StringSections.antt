-- Sections of NUL-terminated strings.
use Rattle.std.proofs.Common.{◌≡◌, ℕ, zero, suc, ◌+◌, ◌<◌, ◌≤◌, true, List, [], ◌∷◌, ◌++◌, length, map, drop, get_or, refl, sym, ap, subst, ◌∙◌, arith, append_assoc, length-append, inl, inr, ◌⊎◌, Option, Some, Result, Ok, Err, Bor}
use Rattle.std.proofs.lemmas.Bool.{and_parts, and_from, or_left, or_right}
use Rattle.std.proofs.lemmas.List.{drop_at}
use Rattle.std.proofs.lemmas.Str.{IsUtf8-from_is_utf8, is_utf8-from_IsUtf8}
use Rattle.std.specs.List.{AllByRecursion, list_all, onto_first, concat}
use Rattle.std.specs.Prelude.{IsUtf8, MatchResult, bytes_eq}
use Rattle.std.specs.Result.{result_ok}
use Rattle.std.specs.Str.{is_utf8}
use Rattle.std.specs.Cmp.Lexicographic.{bytes_decides}
use Rattle.cs_index.specs.Encoding.{with_nul, starts_from, IsString}
use Rattle.cs_index.specs.Decoding.{AreStrings}
use Rattle.cs_index.specs.Strings.{texts_in}
use Rattle.cs_index.specs.Opening.{is_names_section, is_section, texts_of}
use Rattle.cs_index.proofs.decoding.StringScan.{prefix_more, prefix_texts, texts_step}

abbrev pub NoNul : List ℕ → Type 0
NoNul text = AllByRecursion (λ b. 0 < b) text

-- ---- the strings of a section

onto_above : (b : ℕ) (texts : List (List ℕ)) → 0 < b → AllByRecursion NoNul texts → AllByRecursion NoNul (onto_first b texts)
onto_above b [] h all = ((h, tt), tt)
onto_above b (text ∷ texts) h all = ((h, all.0), all.1)

each_above : (bytes : List ℕ) → AllByRecursion NoNul (texts_in bytes)
unfolding texts_in
each_above [] = tt
each_above (zero ∷ bytes) = (tt, each_above bytes)
each_above (suc b ∷ bytes) = onto_above (suc b) (texts_in bytes) (omega arith) (each_above bytes)

prefix_strings : (texts : List (List ℕ)) → AllByRecursion NoNul texts → list_all is_utf8 (prefix_texts texts) ≡ true →
    AllByRecursion IsString (prefix_texts texts)
prefix_strings [] all utf8 = tt
prefix_strings ([] ∷ texts) all utf8 = tt
prefix_strings ((b ∷ text) ∷ texts) all utf8 =
    let both = and_parts (is_utf8 (b ∷ text)) (list_all is_utf8 (prefix_texts texts))
    (sym (ap (list_all is_utf8) (prefix_more b text texts)) ∙ utf8) in
    subst (AllByRecursion IsString) (sym (prefix_more b text texts))
    (((λ e. cc), all.0, IsUtf8-from_is_utf8 (b ∷ text) both.0), prefix_strings texts all.1 both.1)

pub section_read : (closing section : List ℕ) → is_section closing section ≡ true → AreStrings closing (texts_of section) section
unfolding is_section texts_of
section_read closing section h =
    let both = and_parts (bytes_eq section (concat (map with_nul (texts_of section)) ++ closing))
    (list_all is_utf8 (texts_of section)) h in (
      prefix_strings (texts_in section) (each_above section) both.1,
      (bytes_decides section (concat (map with_nul (texts_of section)) ++ closing)).0 both.0,
    )

-- ---- sections of strings

texts_end : (closing : List ℕ) → (closing ≡ []) ⊎ (closing ≡ 0 ∷ []) → texts_of closing ≡ []
unfolding texts_of texts_in
texts_end closing (inl e) = ap texts_of e
texts_end closing (inr e) = ap texts_of e

pub texts_decoded : (texts : List (List ℕ)) (closing : List ℕ) → AllByRecursion IsString texts →
    (closing ≡ []) ⊎ (closing ≡ 0 ∷ []) → texts_of (concat (map with_nul texts) ++ closing) ≡ texts
texts_decoded [] closing all tail = texts_end closing tail
texts_decoded (text ∷ texts) closing all tail =
    ap texts_of (append_assoc (with_nul text) (concat (map with_nul texts)) closing)
    ∙ texts_step text (concat (map with_nul texts) ++ closing) all.0.1 all.0.0
    ∙ ap (λ ts. text ∷ ts) (texts_decoded texts closing all.1 tail)

all_utf8 : (texts : List (List ℕ)) → AllByRecursion IsString texts → list_all is_utf8 texts ≡ true
all_utf8 [] all = refl
all_utf8 (text ∷ texts) all = and_from (is_utf8 text) (list_all is_utf8 texts) (is_utf8-from_IsUtf8 text all.0.2) (all_utf8 texts all.1)

pub section_decoded : (texts : List (List ℕ)) (closing : List ℕ) → AllByRecursion IsString texts →
    (closing ≡ []) ⊎ (closing ≡ 0 ∷ []) → is_section closing (concat (map with_nul texts) ++ closing) ≡ true
unfolding is_section
section_decoded texts closing all tail =
    let section : List ℕ = concat (map with_nul texts) ++ closing in
    let is : texts ≡ texts_of section = sym (texts_decoded texts closing all tail) in
    and_from (bytes_eq section (concat (map with_nul (texts_of section)) ++ closing)) (list_all is_utf8 (texts_of section))
    ((bytes_decides section (concat (map with_nul (texts_of section)) ++ closing)).1
    (ap (λ (ts : List (List ℕ)). concat (map with_nul ts) ++ closing) is))
    (ap (list_all is_utf8) (sym is) ∙ all_utf8 texts all)

-- with a final NUL or without
pub formed_decoded : (texts : List (List ℕ)) (closing : List ℕ) → AllByRecursion IsString texts →
    (closing ≡ []) ⊎ (closing ≡ 0 ∷ []) → is_names_section (concat (map with_nul texts) ++ closing) ≡ true
formed_decoded texts closing all (inl e) =
    let section : List ℕ = concat (map with_nul texts) ++ closing in
    or_right (is_section (0 ∷ []) section) (is_section [] section) (ap (λ c. is_section c section) (sym e)
    ∙ section_decoded texts closing all (inl e))
formed_decoded texts closing all (inr e) =
    let section : List ℕ = concat (map with_nul texts) ++ closing in
    or_left (is_section (0 ∷ []) section) (is_section [] section) (ap (λ c. is_section c section) (sym e)
    ∙ section_decoded texts closing all (inr e))

-- ---- the offset of a string

-- The string with an id begins at the offset.
pub record Begins (section : List ℕ) (texts : List (List ℕ)) (closing : List ℕ) (offset id : ℕ) : Type 0 where
  pub within : offset ≤ length section
  pub rest : drop offset section ≡ concat (map with_nul (drop id texts)) ++ closing

begins_from : (prefix : List ℕ) (texts : List (List ℕ)) (closing : List ℕ) (id : ℕ) → id < length texts →
    Begins (prefix ++ (concat (map with_nul texts) ++ closing)) texts closing
    (get_or (starts_from (length prefix) (map with_nul texts)) id 0) id
begins_from prefix [] closing id h = absurd (omega (arith, h))
begins_from prefix (text ∷ texts) closing zero h =
    let long = length-append prefix (concat (map with_nul (text ∷ texts)) ++ closing) in
    record { within = omega (arith, long); rest = drop_at prefix (concat (map with_nul (text ∷ texts)) ++ closing) (length prefix) refl }
begins_from prefix (text ∷ texts) closing (suc id) h =
    let grown : length (prefix ++ with_nul text) ≡ length prefix + length (with_nul text) = length-append prefix (with_nul text) in
    let rest = begins_from (prefix ++ with_nul text) texts closing id (omega (arith, h)) in
    let bytes : (prefix ++ with_nul text) ++ (concat (map with_nul texts) ++ closing)
    ≡ prefix ++ (concat (map with_nul (text ∷ texts)) ++ closing) =
    append_assoc prefix (with_nul text) (concat (map with_nul texts) ++ closing)
    ∙ ap (λ bs. prefix ++ bs) (sym (append_assoc (with_nul text) (concat (map with_nul texts)) closing)) in
    let position : get_or (starts_from (length (prefix ++ with_nul text)) (map with_nul texts)) id 0
    ≡ get_or (starts_from (length prefix + length (with_nul text)) (map with_nul texts)) id 0 =
    ap (λ n. get_or (starts_from n (map with_nul texts)) id 0) grown in
    record {
      within = subst (λ n. n ≤ length (prefix ++ (concat (map with_nul (text ∷ texts)) ++ closing))) position
          (subst (λ (bs : List ℕ). get_or (starts_from (length (prefix ++ with_nul text)) (map with_nul texts)) id 0
          ≤ length bs) bytes rest.within);
      rest = (λ i. drop (sym position i) (sym bytes i)) ∙ rest.rest;
    }

pub string_begins : (texts : List (List ℕ)) (closing : List ℕ) (id : ℕ) → id < length texts →
    Begins (concat (map with_nul texts) ++ closing) texts closing (get_or (starts_from 0 (map with_nul texts)) id 0) id
string_begins texts closing id h = begins_from [] texts closing id h

-- ---- a borrowed string

-- UTF-8 is borrowed as text
pub borrowed_some : {Y : Type 0} (B : Y → Type 0) (r : Result (Bor (List ℕ)) Y) (o : Option (Bor (List ℕ)))
    (bytes : List ℕ) → o ≡ result_ok r → MatchResult r (λ x. (x.now ≡ bytes) × IsUtf8 bytes)
    (λ y. ¬ (IsUtf8 bytes) × B y) → is_utf8 bytes ≡ true → (x : Bor (List ℕ)) × (o ≡ Some x) × (x.now ≡ bytes)
borrowed_some B (Ok x) o bytes e h u = (x, e, h.0)
borrowed_some B (Err y) o bytes e h u = absurd (h.0 (IsUtf8-from_is_utf8 bytes u))
