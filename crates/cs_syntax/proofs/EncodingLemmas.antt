-- Occurrences of a text in a line, and the UTF-8 encodings of characters.
use Rattle.std.proofs.Common.{◌≡◌, ℕ, zero, suc, ◌+◌, ◌-◌, ◌/◌, ◌%◌, ◌<◌, ◌≤◌, List, [], ◌∷◌, ◌++◌, length, take, drop, get_or, refl, sym, ap, ap₂, ◌∙◌, arith}
use Rattle.std.specs.Char.{encode_utf8}
use Rattle.std.proofs.Math.Seq.{drop-cons, take-append_seam, drop-append_seam}
use Rattle.std.proofs.lemmas.Bool.Decides.{nat_tests}
use Rattle.std.proofs.lemmas.List.{take-append-drop, drop-drop, length-append, length-drop, append_assoc}
use Rattle.cs_syntax.specs.Characters.{OccursBetween}

-- ---- occurrences of a text

follows : (s text : List ℕ) (i j : ℕ) → OccursBetween s text i j → drop i s ≡ text ++ drop j s
follows s text i j h =
    let end : i + (j - i) ≡ j = omega (arith, h.0) in
    sym (take-append-drop (j - i) (drop i s)) ∙ ap₂ ◌++◌ h.1 (drop-drop (j - i) i s ∙ ap (λ (n : ℕ). drop n s) end)

occurs : (s text : List ℕ) (i j : ℕ) → j ≡ i + length text → drop i s ≡ text ++ drop j s → OccursBetween s text i j
occurs s text i j end h =
    let len : j - i ≡ length text = omega arith in
    (end, ap₂ (λ (n : ℕ) (xs : List ℕ). take n xs) len h ∙ take-append_seam text (drop j s))

pub occurs_join : (s prefix suffix : List ℕ) (i l j : ℕ) → OccursBetween s prefix i l → OccursBetween s suffix l j →
    OccursBetween s (prefix ++ suffix) i j
occurs_join s prefix suffix i l j h g =
    occurs s (prefix ++ suffix) i j (omega (arith, h.0, g.0, length-append prefix suffix))
    (follows s prefix i l h ∙ ap (λ rest. prefix ++ rest) (follows s suffix l j g) ∙ sym (append_assoc prefix suffix (drop j s)))

pub occurs_split : (s prefix suffix : List ℕ) (i j : ℕ) → OccursBetween s (prefix ++ suffix) i j →
    (l : ℕ) × OccursBetween s prefix i l × OccursBetween s suffix l j
occurs_split s prefix suffix i j h =
    let l = i + length prefix in
    let whole : drop i s ≡ prefix ++ (suffix ++ drop j s) = follows s (prefix ++ suffix) i j h ∙ append_assoc prefix suffix (drop j s) in
    let rest : drop l s ≡ suffix ++ drop j s = sym (drop-drop (length prefix) i s)
    ∙ ap (λ xs. drop (length prefix) xs) whole ∙ drop-append_seam prefix (suffix ++ drop j s) in (
      l,
      occurs s prefix i l refl (whole ∙ ap (λ xs. prefix ++ xs) (sym rest)),
      occurs s suffix l j (omega (arith, h.0, length-append prefix suffix)) rest,
    )

-- an occurrence that begins in the line ends in it
pub occurs_within : (s text : List ℕ) (i j : ℕ) → OccursBetween s text i j → i ≤ length s → j ≤ length s
occurs_within s text i j h le =
    let whole : length s - i ≡ length text + (length s - j) =
    omega (arith, length-drop i s, length-drop j s, ap length (follows s text i j h), length-append text (drop j s)) in
    omega (arith, h.0)

pub occurs_byte : (s : List ℕ) (b i j : ℕ) → OccursBetween s (b ∷ []) i j → (i < length s) × (get_or s i 0 ≡ b) × (j ≡ suc i)
occurs_byte s b i j h =
    let e = follows s (b ∷ []) i j h in
    let inside : i < length s = omega (arith, length-drop i s, ap length e) in
    (inside, ap (λ (xs : List ℕ). get_or xs 0 0) (sym (drop-cons s i 0 inside) ∙ e), omega (arith, h.0))

pub byte_occurs : (s : List ℕ) (i : ℕ) → i < length s → OccursBetween s (get_or s i 0 ∷ []) i (suc i)
byte_occurs s i inside = occurs s (get_or s i 0 ∷ []) i (suc i) (omega arith) (drop-cons s i 0 inside)

-- ---- encodings

-- the encoding of a number: a first byte, which is `lead` plus the upper bits, and k continuation bytes
abbrev pub encoding : ℕ → ℕ → ℕ → List ℕ
encoding lead zero n = (lead + n) ∷ []
encoding lead (suc k) n = encoding lead k (n / 64) ++ (128 + n % 64) ∷ []

-- ---- the encodings are those of UTF-8

pub one_byte : (c : ℕ) → c < 128 → encode_utf8 c ≡ c ∷ []
unfolding encode_utf8
one_byte c h = grind (arith, nat_tests)

pub two_bytes : (c : ℕ) → 128 ≤ c → c ≤ 2047 → encode_utf8 c ≡ encoding 192 1 c
unfolding encode_utf8
two_bytes c h g = grind (arith, nat_tests)

pub three_bytes : (c : ℕ) → 2048 ≤ c → c ≤ 65535 → encode_utf8 c ≡ encoding 224 2 c
unfolding encode_utf8
three_bytes c h g = let first : c / 4096 ≡ c / 64 / 64 = omega arith in grind (arith, nat_tests, first)

pub four_bytes : (c : ℕ) → 65536 ≤ c → encode_utf8 c ≡ encoding 240 3 c
unfolding encode_utf8
four_bytes c h =
    let first : c / 262144 ≡ c / 64 / 64 / 64 = omega arith in
    let second : c / 4096 ≡ c / 64 / 64 = omega arith in
    grind (arith, nat_tests, first, second)
