-- Bytes decode as at most one list of paths, names and entries.
use Rattle.std.proofs.Common.{◌≡◌, ℕ, ◌+◌, ◌/◌, ◌%◌, ◌^◌, ◌<◌, List, [], ◌∷◌, ◌++◌, length, map, take, drop, get_or, refl, sym, ap, subst, ◌∙◌, ◌⊎◌, inl, inr, arith, append_assoc, length-append}
use Rattle.std.proofs.lemmas.List.{take_at, drop_at, append_cancel_left, append-nil}
use Rattle.std.proofs.lemmas.Nat.{from_be_bytes-to_be_bytes_4}
use Rattle.std.specs.Prelude.{flat_map}
use Rattle.std.specs.Int.{from_be_bytes, w32}
use Rattle.std.specs.List.{AllByRecursion, concat}
use Rattle.cs_index.specs.Encoding.{three_bytes, four_bytes, with_nul, starts_from, SectionBytes, section_list, trailer, trailer_magic, magic, layout, ListEntry, entry_bytes, IsString}
use Rattle.cs_index.specs.OpenedParts.{Parts}
use Rattle.cs_index.specs.Decoding.{IsLayout, AreStrings, IsEntry, DecodesAs}

pub apart : (a b c d : List ℕ) → length a ≡ length c → a ++ b ≡ c ++ d → (a ≡ c) × (b ≡ d)
apart a b c d l e = (
  sym (take_at a b (length a) refl) ∙ ap (take (length a)) e ∙ take_at c d (length a) (sym l),
  sym (drop_at a b (length a) refl) ∙ ap (drop (length a)) e ∙ drop_at c d (length a) (sym l),
)

four_once : (n m : ℕ) → n < 2 ^ 32 → m < 2 ^ 32 → four_bytes n ≡ four_bytes m → n ≡ m
four_once n m f g e = sym (from_be_bytes-to_be_bytes_4 n f) ∙ ap (from_be_bytes w32) e ∙ from_be_bytes-to_be_bytes_4 m g

pub top_zero : (n : ℕ) → n < 2 ^ 24 → four_bytes n ≡ 0 ∷ three_bytes n
top_zero n h = ap (λ b. b ∷ three_bytes n) (let z : n / 16777216 % 256 ≡ 0 = omega (arith, h) in z)

pub three_once : (n m : ℕ) → n < 2 ^ 24 → m < 2 ^ 24 → three_bytes n ≡ three_bytes m → n ≡ m
three_once n m f g e = four_once n m (omega (arith, f)) (omega (arith, g)) (top_zero n f ∙ ap (λ bs. 0 ∷ bs) e ∙ sym (top_zero m g))

-- ---- strings
text_once : (p q x y : List ℕ) → AllByRecursion (λ b. 0 < b) p → AllByRecursion (λ b. 0 < b) q → p ++ 0 ∷ x ≡ q ++ 0 ∷ y → (p ≡ q) × (x ≡ y)
text_once [] [] x y a b e = (refl, cc)
text_once [] (c ∷ q) x y a b e = let z : 0 ≡ c = cc in absurd (omega (arith, b.0, z))
text_once (c ∷ p) [] x y a b e = let z : c ≡ 0 = cc in absurd (omega (arith, a.0, z))
text_once (c ∷ p) (d ∷ q) x y a b e =
    let head : c ≡ d = cc in
    let rest : p ++ 0 ∷ x ≡ q ++ 0 ∷ y = cc in
    let more = text_once p q x y a.1 b.1 rest in
    (λ i. head i ∷ more.0 i, more.1)

-- the bytes that may follow the last string
abbrev pub IsTail : List ℕ → Type 0
IsTail x = (x ≡ []) ⊎ (x ≡ 0 ∷ [])

string_first : (p rest x : List ℕ) → IsString p → IsTail x → p ++ 0 ∷ rest ≡ x → ⊥
string_first [] rest x is t e = is.0 refl
string_first (b ∷ p) rest x is (inl z) e = let w : b ∷ (p ++ 0 ∷ rest) ≡ [] = e ∙ z in cc
string_first (b ∷ p) rest x is (inr z) e = let w : b ∷ (p ++ 0 ∷ rest) ≡ 0 ∷ [] = e ∙ z in let head : b ≡ 0 = cc in
    omega (arith, is.1.0, head)

regroup : (p rest : List ℕ) (more : List ℕ) → (with_nul p ++ rest) ++ more ≡ p ++ 0 ∷ (rest ++ more)
regroup p rest more = append_assoc (with_nul p) rest more ∙ append_assoc p (0 ∷ []) (rest ++ more)

pub strings_once : (ps qs : List (List ℕ)) (x y : List ℕ) → AllByRecursion IsString ps → AllByRecursion IsString qs →
    IsTail x → IsTail y → concat (map with_nul ps) ++ x ≡ concat (map with_nul qs) ++ y → ps ≡ qs
strings_once [] [] x y a b t u e = refl
strings_once [] (q ∷ qs) x y a b t u e =
    absurd (string_first q (concat (map with_nul qs) ++ y) x b.0 t (sym (regroup q (concat (map with_nul qs)) y)
    ∙ sym e))
strings_once (p ∷ ps) [] x y a b t u e =
    absurd (string_first p (concat (map with_nul ps) ++ x) y a.0 u (sym (regroup p (concat (map with_nul ps)) x) ∙ e))
strings_once (p ∷ ps) (q ∷ qs) x y a b t u e =
    let both = text_once p q (concat (map with_nul ps) ++ x) (concat (map with_nul qs) ++ y) a.0.1 b.0.1
    (sym (regroup p (concat (map with_nul ps)) x) ∙ e ∙ regroup q (concat (map with_nul qs)) y) in
    let rest = strings_once ps qs x y a.1 b.1 t u both.1 in
    λ i. both.0 i ∷ rest i

-- ---- entries of the list index
pub small_trigram : (postings : List ℕ) (e : ListEntry) → IsEntry postings e → e.trigram < 2 ^ 24
small_trigram postings e is = elim is.trigram [
  | inl below ↦ omega (arith, below)
  | inr closing ↦ let at : e.trigram ≡ 16777215 = closing.0 in omega (arith, at)
]

entry_once : (d e : ListEntry) (sd se : List ℕ) → IsEntry sd d → IsEntry se e → entry_bytes d ≡ entry_bytes e → d ≡ e
entry_once d e sd se fd fe h =
    let first = apart (three_bytes d.trigram) _ (three_bytes e.trigram) _ refl h in
    let rest = apart (four_bytes d.count) (four_bytes d.offset) (four_bytes e.count) (four_bytes e.offset) refl first.1 in
    let a = three_once d.trigram e.trigram (small_trigram sd d fd) (small_trigram se e fe) first.0 in
    let b = four_once d.count e.count fd.count fe.count rest.0 in
    let c = four_once d.offset e.offset fd.offset fe.offset rest.1 in
    λ i. record { trigram = a i; count = b i; offset = c i }

pub entries_once : (ds es : List ListEntry) (sd se : List ℕ) → AllByRecursion (IsEntry sd) ds →
    AllByRecursion (IsEntry se) es → flat_map entry_bytes ds ≡ flat_map entry_bytes es → ds ≡ es
entries_once [] [] sd se a b h = refl
entries_once [] (e ∷ es) sd se a b h = absurd (let w : 0 ≡ length (flat_map entry_bytes (e ∷ es)) = ap length h in omega (arith, w))
entries_once (d ∷ ds) [] sd se a b h = absurd (let w : length (flat_map entry_bytes (d ∷ ds)) ≡ 0 = ap length h in omega (arith, w))
entries_once (d ∷ ds) (e ∷ es) sd se a b h =
    let both = apart (entry_bytes d) (flat_map entry_bytes ds) (entry_bytes e) (flat_map entry_bytes es) refl h in
    let head = entry_once d e sd se a.0 b.0 both.0 in
    let rest = entries_once ds es sd se a.1 b.1 both.1 in
    λ i. head i ∷ rest i

-- ---- sections
numbers_once : (xs ys : List ℕ) (x y : List ℕ) → AllByRecursion (λ n. n < 2 ^ 32) xs →
    AllByRecursion (λ n. n < 2 ^ 32) ys → length xs ≡ length ys → flat_map four_bytes xs ++ x ≡ flat_map four_bytes ys
    ++ y → xs ≡ ys
numbers_once [] [] x y a b l e = refl
numbers_once [] (m ∷ ys) x y a b l e = absurd (omega (arith, l))
numbers_once (n ∷ xs) [] x y a b l e = absurd (omega (arith, l))
numbers_once (n ∷ xs) (m ∷ ys) x y a b l e =
    let both = apart (four_bytes n) (flat_map four_bytes xs ++ x) (four_bytes m) (flat_map four_bytes ys ++ y) refl
    (sym (append_assoc (four_bytes n) (flat_map four_bytes xs) x) ∙ e
    ∙ append_assoc (four_bytes m) (flat_map four_bytes ys) y) in
    let head = four_once n m a.0 b.0 both.0 in
    let rest = numbers_once xs ys x y a.1 b.1 (omega (arith, l)) both.1 in
    λ i. head i ∷ rest i

pub record Lengths (s : SectionBytes) : Type 0 where
  pub whole : length (concat (section_list s)) ≡ length s.paths
      + (length s.names + (length s.postings + (length s.name_index + length s.list_index)))
  pub bytes_are : length (layout s) ≡ 16 + (length (concat (section_list s)) + 36)

pub lengths : (s : SectionBytes) → Lengths s
lengths s =
    let c : length (concat (section_list s)) ≡ length s.paths
    + length (s.names ++ (s.postings ++ (s.name_index ++ (s.list_index ++ [])))) = length-append s.paths _ in
    let d : length (s.names ++ (s.postings ++ (s.name_index ++ (s.list_index ++ [])))) ≡ length s.names
    + length (s.postings ++ (s.name_index ++ (s.list_index ++ []))) = length-append s.names _ in
    let e : length (s.postings ++ (s.name_index ++ (s.list_index ++ []))) ≡ length s.postings
    + length (s.name_index ++ (s.list_index ++ [])) = length-append s.postings _ in
    let f : length (s.name_index ++ (s.list_index ++ [])) ≡ length s.name_index + length (s.list_index ++ []) =
    length-append s.name_index _ in
    let g : length (s.list_index ++ []) ≡ length s.list_index + 0 = length-append s.list_index [] in
    let t : length (concat (section_list s) ++ trailer s) ≡ length (concat (section_list s)) + 36 =
    length-append (concat (section_list s)) (trailer s) in
    record { whole = omega (arith, c, d, e, f, g); bytes_are = omega (arith, t) }

pub starts_fit : (s : SectionBytes) → length (layout s) < 2 ^ 32 → AllByRecursion (λ n. n < 2 ^ 32) (starts_from 16 (section_list s))
starts_fit s h =
    let l = lengths s in (
      omega arith,
      (
        omega (arith, l.whole, l.bytes_are, h),
        (
          omega (arith, l.whole, l.bytes_are, h),
          (omega (arith, l.whole, l.bytes_are, h), (omega (arith, l.whole, l.bytes_are, h), tt)),
        ),
      ),
    )

pub sections_once : (s t : SectionBytes) → length (layout s) < 2 ^ 32 → length (layout t) < 2 ^ 32 → layout s ≡ layout t → s ≡ t
sections_once s t f g e =
    let ls = lengths s in
    let lt = lengths t in
    let same : length (layout s) ≡ length (layout t) = ap length e in
    let rest = append_cancel_left magic (concat (section_list s) ++ trailer s) (concat (section_list t) ++ trailer t) e in
    let both = apart (concat (section_list s)) (trailer s) (concat (section_list t)) (trailer t)
    (omega (arith, ls.bytes_are, lt.bytes_are, same)) rest in
    let starts = numbers_once (starts_from 16 (section_list s)) (starts_from 16 (section_list t)) trailer_magic
    trailer_magic (starts_fit s f) (starts_fit t g) refl both.1 in
    let b : 16 + length s.paths ≡ 16 + length t.paths = ap (λ l. get_or l 1 0) starts in
    let c : 16 + length s.paths + length s.names ≡ 16 + length t.paths + length t.names = ap (λ l. get_or l 2 0) starts in
    let d : 16 + length s.paths + length s.names + length s.postings ≡ 16 + length t.paths + length t.names
    + length t.postings = ap (λ l. get_or l 3 0) starts in
    let k : 16 + length s.paths + length s.names + length s.postings + length s.name_index ≡ 16 + length t.paths
    + length t.names + length t.postings + length t.name_index = ap (λ l. get_or l 4 0) starts in
    let one = apart s.paths (s.names ++ (s.postings ++ (s.name_index ++ (s.list_index ++ [])))) t.paths
    (t.names ++ (t.postings ++ (t.name_index ++ (t.list_index ++ [])))) (omega (arith, b)) both.0 in
    let two = apart s.names (s.postings ++ (s.name_index ++ (s.list_index ++ []))) t.names
    (t.postings ++ (t.name_index ++ (t.list_index ++ []))) (omega (arith, b, c)) one.1 in
    let three = apart s.postings (s.name_index ++ (s.list_index ++ [])) t.postings
    (t.name_index ++ (t.list_index ++ [])) (omega (arith, c, d)) two.1 in
    let four = apart s.name_index (s.list_index ++ []) t.name_index (t.list_index ++ []) (omega (arith, d, k)) three.1 in
    let five : s.list_index ≡ t.list_index = sym (append-nil s.list_index) ∙ four.1 ∙ append-nil t.list_index in
    λ i. record { paths = one.0 i; names = two.0 i; postings = three.0 i; name_index = four.0 i; list_index = five i }

-- bytes are the layout of at most one sequence of sections
pub layout_once : (bytes : List ℕ) (s t : SectionBytes) → IsLayout bytes s → IsLayout bytes t → s ≡ t
layout_once bytes s t here there =
    sections_once s t (subst (λ b. length b < 2 ^ 32) here.bytes_are here.short)
    (subst (λ b. length b < 2 ^ 32) there.bytes_are there.short) (sym here.bytes_are ∙ there.bytes_are)

-- a section of names with a final NUL or without
pub names_tail : (section : List ℕ) (names : List (List ℕ)) → AreStrings (0 ∷ []) names section ⊎ AreStrings [] names
    section → (closing : List ℕ) × AreStrings closing names section × IsTail closing
names_tail section names (inl are) = (0 ∷ [], are, inr refl)
names_tail section names (inr are) = ([], are, inl refl)

pub decoding_is_unique : (bytes : List ℕ) (one other : Parts) → DecodesAs bytes one → DecodesAs bytes other → one ≡ other
decoding_is_unique bytes one other g h =
    let s = layout_once bytes g.sections h.sections g.is_layout h.is_layout in
    let a = names_tail g.sections.names one.names g.names_are in
    let b = names_tail h.sections.names other.names h.names_are in
    let paths : one.paths ≡ other.paths = strings_once one.paths other.paths (0 ∷ []) (0 ∷ []) g.paths_are.0
    h.paths_are.0 (inr refl) (inr refl) (sym g.paths_are.1 ∙ ap (λ (t : SectionBytes). t.paths) s ∙ h.paths_are.1) in
    let names : one.names ≡ other.names = strings_once one.names other.names a.0 b.0 a.1.0 b.1.0 a.2 b.2
    (sym a.1.1 ∙ ap (λ (t : SectionBytes). t.names) s ∙ b.1.1) in
    let entries : one.entries ≡ other.entries = entries_once one.entries other.entries g.sections.postings
    h.sections.postings g.list_index_is.0 h.list_index_is.0
    (sym g.list_index_is.2 ∙ ap (λ (t : SectionBytes). t.list_index) s ∙ h.list_index_is.2) in
    let postings : one.postings ≡ other.postings = sym g.postings_are ∙ ap (λ (t : SectionBytes). t.postings) s ∙ h.postings_are in
    λ i. record { paths = paths i; names = names i; entries = entries i; postings = postings i }
