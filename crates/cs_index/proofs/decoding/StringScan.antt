-- Reading a section string by string.
use Rattle.std.proofs.Common.{◌≡◌, ◌≢◌, ℕ, zero, suc, ◌+◌, ◌<◌, ◌≤◌, Bool, true, false, not, ◌&&◌, ◌||◌, eqb, Result, Ok, Err, List, [], ◌∷◌, ◌++◌, length, map, take, get_or, refl, sym, ap, subst, ◌∙◌, arith, append_assoc, length-append, inl, inr, ◌⊎◌}
use Rattle.std.proofs.Math.Seq.{take-nil}
use Rattle.cs_tree.specs.NameOrder.{bytes_cmp}
use Rattle.cs_tree.specs.NamesAscending.{are_ascending}
use Rattle.cs_index.specs.ValidSections.{HasNoText}
use Rattle.std.proofs.lemmas.Bool.{true≢false, or_cases, eq-eqb, ne_eqb, false_from_ne_true}
use Rattle.std.proofs.lemmas.List.{append-nil, length_push}
use Rattle.std.specs.List.{AllByRecursion, list_all, before_first, onto_first, prefix_len, concat}
use Rattle.std.specs.Str.{is_utf8}
use Rattle.std.proofs.lemmas.Str.{IsUtf8-from_is_utf8, is_utf8-from_IsUtf8}
use Rattle.std.specs.Prelude.{IsUtf8, MatchResult, is_err, bytes_eq}
use Rattle.std.specs.Ordering.{is_lt, is_ge}
use Rattle.std.specs.declared.cmp.Ordering.{Ordering}
use Rattle.std.specs.declared.cmp.Ordering.TheVariants.{Less, Equal, Greater}
use Rattle.std.specs.Cmp.Lexicographic.{bytes_decides}
use Rattle.cs_index.specs.Encoding.{with_nul}
use Rattle.cs_index.specs.Strings.{texts_in}
use Rattle.cs_index.specs.Opening.{is_names_section, texts_of, is_section}
use Rattle.cs_index.proofs.writer.StringsPush.{prefix_text}
use Rattle.std.proofs.Math.Bool.{and-true}

-- ---- one more string

-- the texts before the first empty one
abbrev pub prefix_texts : List (List ℕ) → List (List ℕ)
prefix_texts texts = before_first (λ text. bytes_eq text []) texts

pub prefix_more : (b : ℕ) (text : List ℕ) (texts : List (List ℕ)) → prefix_texts ((b ∷ text) ∷ texts) ≡ (b ∷ text) ∷ prefix_texts texts
prefix_more b text texts = ap (λ n. take n ((b ∷ text) ∷ texts)) (one_more (prefix_len (λ t. not (bytes_eq t [])) texts))
  where
    one_more : (n : ℕ) → 1 + n ≡ suc n
    one_more n = omega arith

pub texts_step : (text rest : List ℕ) → AllByRecursion (λ b. 0 < b) text → text ≢ [] → texts_of (with_nul text ++ rest)
    ≡ text ∷ texts_of rest
unfolding texts_of
texts_step [] rest all some = absurd (some refl)
texts_step (b ∷ text) rest all some = ap prefix_texts (prefix_text (b ∷ text) rest all) ∙ prefix_more b text (texts_in rest)

same_append : (prefix xs ys : List ℕ) → bytes_eq (prefix ++ xs) (prefix ++ ys) ≡ bytes_eq xs ys
same_append [] xs ys = refl
same_append (b ∷ prefix) xs ys = ap (λ t. t && bytes_eq (prefix ++ xs) (prefix ++ ys)) (eq-eqb b b refl) ∙ same_append prefix xs ys

and_swap : (a b c : Bool) → (a && (b && c)) ≡ (b && (a && c))
and_swap true true c = refl
and_swap true false c = refl
and_swap false true c = refl
and_swap false false c = refl

pub section_step : (closing text rest : List ℕ) → AllByRecursion (λ b. 0 < b) text → text ≢ [] →
    is_section closing (with_nul text ++ rest) ≡ (is_utf8 text && is_section closing rest)
unfolding is_section
section_step closing text rest all some =
    let texts = texts_step text rest all some in
    (λ i. bytes_eq (with_nul text ++ rest) (concat (map with_nul (texts i)) ++ closing) && list_all is_utf8 (texts i))
    ∙ ap (λ t. t && (is_utf8 text && list_all is_utf8 (texts_of rest)))
    (ap (bytes_eq (with_nul text ++ rest)) (append_assoc (with_nul text) (concat (map with_nul (texts_of rest)))
    closing) ∙ same_append (with_nul text) rest (concat (map with_nul (texts_of rest)) ++ closing))
    ∙ and_swap (bytes_eq rest (concat (map with_nul (texts_of rest)) ++ closing)) (is_utf8 text) (list_all is_utf8 (texts_of rest))

-- ---- no string at the start

pub section_end : (closing section : List ℕ) → texts_of section ≡ [] → is_section closing section ≡ bytes_eq section closing
unfolding is_section
section_end closing section none = (λ i. bytes_eq section (concat (map with_nul (none i)) ++ closing)
    && list_all is_utf8 (none i)) ∙ and-true (bytes_eq section closing)

texts_nil : texts_of [] ≡ []
unfolding texts_of texts_in
texts_nil = refl

texts_nul : (rest : List ℕ) → texts_of (0 ∷ rest) ≡ []
unfolding texts_of texts_in
texts_nul rest = refl

pub nul_first : (section : List ℕ) → get_or section 0 0 ≡ 0 → texts_of section ≡ []
nul_first [] h = texts_nil
nul_first (b ∷ section) h = ap (λ c. texts_of (c ∷ section)) h ∙ texts_nul section

-- a text without a NUL
one_text : (b : ℕ) (text : List ℕ) → AllByRecursion (λ c. 0 < c) (b ∷ text) → texts_in (b ∷ text) ≡ (b ∷ text) ∷ []
unfolding texts_in
one_text zero text all = absurd (omega (arith, all.0))
one_text (suc b) [] all = refl
one_text (suc b) (c ∷ text) all = ap (onto_first (suc b)) (one_text c text all.1)

pub not_longer : (xs ys : List ℕ) → bytes_eq xs ys ≡ true → length xs ≡ length ys
not_longer xs ys h = ap length ((bytes_decides xs ys).0 h)

pub open_end : (closing : List ℕ) (b : ℕ) (text : List ℕ) → AllByRecursion (λ c. 0 < c) (b ∷ text) → is_section closing (b ∷ text) ≡ false
unfolding is_section texts_of
open_end closing b text all =
    let texts : texts_of (b ∷ text) ≡ (b ∷ text) ∷ [] = ap prefix_texts (one_text b text all) ∙ prefix_more b text [] in
    (λ i. bytes_eq (b ∷ text) (concat (map with_nul (texts i)) ++ closing) && list_all is_utf8 (texts i))
    ∙ ap (λ t. t && (is_utf8 (b ∷ text) && true)) (false_from_ne_true (bytes_eq (b ∷ text) ((with_nul (b ∷ text) ++ []) ++ closing)) (λ h.
    let long = not_longer (b ∷ text) ((with_nul (b ∷ text) ++ []) ++ closing) h in
    let one = length-append (with_nul (b ∷ text) ++ []) closing in
    let two : length (with_nul (b ∷ text) ++ []) ≡ length (b ∷ text) + 1 = ap length (append-nil (with_nul (b ∷ text)))
    ∙ length_push (b ∷ text) 0 in
    omega (arith, long, one, two)))

pub no_nul : (closing : List ℕ) (b : ℕ) (text : List ℕ) → AllByRecursion (λ c. 0 < c) (b ∷ text) →
    (closing ≡ []) ⊎ (closing ≡ 0 ∷ []) → bytes_eq (b ∷ text) closing ≡ false
no_nul closing b text all (inl e) = ap (bytes_eq (b ∷ text)) e
no_nul closing b text all (inr e) = ap (bytes_eq (b ∷ text)) e
    ∙ ap (λ t. t && bytes_eq text []) (ne_eqb b 0 (λ z. absurd (omega (arith, z, all.0))))

pub none_left : (section : List ℕ) → texts_of section ≡ [] → HasNoText section
none_left section none = record { closed = section_end (0 ∷ []) section none; bare = section_end [] section none }

pub none_ended : (section : List ℕ) → AllByRecursion (λ c. 0 < c) section → HasNoText section
none_ended [] all = none_left [] texts_nil
none_ended (b ∷ text) all = record {
  closed = open_end (0 ∷ []) b text all ∙ sym (no_nul (0 ∷ []) b text all (inr refl));
  bare = open_end [] b text all ∙ sym (no_nul [] b text all (inl refl));
}

-- a valid section that does not begin with a string has none
pub closing_only : (section : List ℕ) → HasNoText section → (is_section (0 ∷ []) section ≡ true) ⊎
    (is_section [] section ≡ true) → texts_of section ≡ []
closing_only section none (inl h) = ap texts_of ((bytes_decides section (0 ∷ [])).0 (sym none.closed ∙ h)) ∙ texts_nul []
closing_only section none (inr h) = ap texts_of ((bytes_decides section []).0 (sym none.bare ∙ h)) ∙ texts_nil

-- the bytes before the first NUL
pub above_take : (bytes : List ℕ) (end : ℕ) → end ≤ length bytes → ((k : ℕ) → k < end → get_or bytes k 0 ≢ 0) →
    AllByRecursion (λ b. 0 < b) (take end bytes)
above_take [] end h none = subst (AllByRecursion (λ b. 0 < b)) (sym (take-nil end)) tt
above_take (b ∷ bytes) zero h none = tt
above_take (b ∷ bytes) (suc end) h none =
    let first : b ≢ 0 = none 0 (omega arith) in
    (omega (arith, first), above_take bytes end (omega (arith, h)) (λ k l. none (suc k) (omega (arith, l))))

pub above_all : (bytes : List ℕ) → ((k : ℕ) → k < length bytes → get_or bytes k 0 ≢ 0) → AllByRecursion (λ b. 0 < b) bytes
above_all [] none = tt
above_all (b ∷ bytes) none =
    let first : b ≢ 0 = none 0 (omega arith) in
    (omega (arith, first), above_all bytes (λ k l. none (suc k) (omega (arith, l))))

-- the bytes before the NUL that a search finds
pub apart_from : (bytes : List ℕ) (k : ℕ) → ((eqb (get_or bytes k 0) 0 ≡ true) → ⊥) → get_or bytes k 0 ≢ 0
apart_from bytes k h e = h (eq-eqb (get_or bytes k 0) 0 e)

-- ---- what is read of a section

pub texts_after : (section text rest : List ℕ) → section ≡ with_nul text ++ rest → AllByRecursion (λ b. 0 < b) text →
    text ≢ [] → texts_of section ≡ text ∷ texts_of rest
texts_after section text rest e all some = ap texts_of e ∙ texts_step text rest all some

pub section_after : (closing section text rest : List ℕ) → section ≡ with_nul text ++ rest →
    AllByRecursion (λ b. 0 < b) text → text ≢ [] → is_section closing section
    ≡ (is_utf8 text && is_section closing rest)
section_after closing section text rest e all some = ap (is_section closing) e ∙ section_step closing text rest all some

both_formed : (u a b : Bool) → ((u && a) || (u && b)) ≡ true → (u ≡ true) × ((a || b) ≡ true)
both_formed true a b h = (refl, h)
both_formed false a b h = absurd (true≢false (sym h))

pub formed_after : (section text rest : List ℕ) → section ≡ with_nul text ++ rest → AllByRecursion (λ b. 0 < b) text →
    text ≢ [] → is_names_section section ≡ true → (is_utf8 text ≡ true) × (is_names_section rest ≡ true)
formed_after section text rest e all some h =
    both_formed (is_utf8 text) (is_section (0 ∷ []) rest) (is_section [] rest)
    ((λ i. sym (section_after (0 ∷ []) section text rest e all some) i || sym (section_after [] section text rest e all some) i) ∙ h)

pub none_formed : (section : List ℕ) → HasNoText section → is_names_section section ≡ true → texts_of section ≡ []
none_formed section none h = closing_only section none (or_cases (is_section (0 ∷ []) section) (is_section [] section) h)

-- ---- UTF-8

pub not_utf8 : {X Y : Type 0} (A : X → Type 0) (B : Y → Type 0) (r : Result X Y) (bytes : List ℕ) →
    MatchResult r (λ x. A x × IsUtf8 bytes) (λ y. ¬ (IsUtf8 bytes) × B y) → is_err r ≡ true → is_utf8 bytes ≡ false
not_utf8 A B (Ok x) bytes h e = absurd (true≢false (sym e))
not_utf8 A B (Err y) bytes h e = false_from_ne_true (is_utf8 bytes) (λ t. h.0 (IsUtf8-from_is_utf8 bytes t))

pub yes_utf8 : {X Y : Type 0} (A : X → Type 0) (B : Y → Type 0) (r : Result X Y) (bytes : List ℕ) →
    MatchResult r (λ x. A x × IsUtf8 bytes) (λ y. ¬ (IsUtf8 bytes) × B y) → is_err r ≡ false → is_utf8 bytes ≡ true
yes_utf8 A B (Ok x) bytes h e = is_utf8-from_IsUtf8 bytes h.1
yes_utf8 A B (Err y) bytes h e = absurd (true≢false e)

-- ---- ascending names

pub below_texts : (section : List ℕ) → are_ascending (texts_of section) ≡ are_ascending ([] ∷ texts_of section)
unfolding texts_of
below_texts section = each (texts_in section)
  where
    each : (texts : List (List ℕ)) → are_ascending (prefix_texts texts) ≡ are_ascending ([] ∷ prefix_texts texts)
    each [] = refl
    each ([] ∷ texts) = refl
    each ((b ∷ text) ∷ texts) = subst (λ (ts : List (List ℕ)). are_ascending ts ≡ are_ascending ([] ∷ ts))
        (sym (prefix_more b text texts)) refl

not_less : (r : Ordering) → is_ge r ≡ true → is_lt r ≡ false
not_less Less h = sym h
not_less Equal h = refl
not_less Greater h = refl

less : (r : Ordering) → is_ge r ≡ false → is_lt r ≡ true
less Less h = refl
less Equal h = absurd (true≢false h)
less Greater h = absurd (true≢false h)

pub falls : (last text : List ℕ) (names : List (List ℕ)) → is_ge (bytes_cmp last text) ≡ true → are_ascending (last ∷ text ∷ names) ≡ false
falls last text names h = ap (λ b. b && are_ascending (text ∷ names)) (not_less (bytes_cmp last text) h)

pub climbs : (last text : List ℕ) (names : List (List ℕ)) → is_ge (bytes_cmp last text) ≡ false →
    are_ascending (last ∷ text ∷ names) ≡ are_ascending (text ∷ names)
climbs last text names h = ap (λ b. b && are_ascending (text ∷ names)) (less (bytes_cmp last text) h)
