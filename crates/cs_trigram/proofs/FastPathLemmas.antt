-- The fast path accepts only bytes that break no rule.
use Rattle.std.proofs.Common.{◌≡◌, ◌≤◌, ◌<◌, ℕ, suc, ◌+◌, ◌-◌, true, false, not, cond, ◌&&◌, ◌||◌, ltb, leb, eqb, List, [], ◌∷◌, ◌++◌, length, take, drop, get_or, Some, None, refl, sym, ap, subst, ◌∙◌, inl, inr, arith, length-append, length-take, append_assoc, take-append-drop}
use Rattle.std.proofs.lemmas.Bool.{cases_lt, eq-eqb, ne_eqb, lt-ltb, le-ltb, lt-leb, le-leb, or_left}
use Rattle.std.proofs.lemmas.List.{append-nil, take_more}
use Rattle.std.specs.List.{AllByRecursion}
use Rattle.cs_trigram.specs.declared.scan.Limits.{Limits}
use Rattle.cs_trigram.specs.declared.scan.Reason.TheVariants.{Nul, Utf8, TooLong, LongLine}
use Rattle.cs_trigram.specs.Text.{valid_utf8_pair, last_byte, line_so_far, rule_broken, first_broken}
use Rattle.std.specs.Option.{option_or}
use Rattle.cs_trigram.proofs.PositionLemmas.{last_byte-push, length-line-push}
use Rattle.cs_trigram.specs.FastPath.{AreValidPairs, next_column, column_after, LinesFit}

next_column_le : (column b : ℕ) → next_column column b ≤ column + 1
next_column_le column b = elim (eqb b 10) as (λ t. cond t 0 (column + 1) ≤ column + 1) [ true ↦ omega arith | false ↦ omega arith ]

-- few bytes fit into a line
pub LinesFit-short : (most column : ℕ) (bytes : List ℕ) → column + length bytes ≤ most → LinesFit most column bytes
LinesFit-short most column [] short = tt
LinesFit-short most column (b ∷ rest) short =
    (omega (arith, short), LinesFit-short most (next_column column b) rest (omega (arith, short, next_column_le column b)))

pub column_after-append : (column : ℕ) (xs ys : List ℕ) → column_after column (xs ++ ys) ≡ column_after (column_after column xs) ys
column_after-append column [] ys = refl
column_after-append column (x ∷ xs) ys = column_after-append (next_column column x) xs ys

pub LinesFit-append : (most column : ℕ) (xs ys : List ℕ) → LinesFit most column xs →
    LinesFit most (column_after column xs) ys → LinesFit most column (xs ++ ys)
LinesFit-append most column [] ys h k = k
LinesFit-append most column (x ∷ xs) ys h k = (h.0, LinesFit-append most (next_column column x) xs ys h.1 k)

-- a newline starts a new line
column-newline : (column : ℕ) (bytes : List ℕ) (i : ℕ) → i < length bytes → get_or bytes i 0 ≡ 10 →
    column_after column (take (i + 1) bytes) ≡ 0
column-newline column bytes i within newline =
    ap (column_after column) (take_more bytes i 0 within) ∙ column_after-append column (take i bytes) (get_or bytes i 0 ∷ [])
    ∙ ap (λ t. cond t 0 (column_after column (take i bytes) + 1)) (eq-eqb (get_or bytes i 0) 10 newline)

-- only the bytes after a newline matter for the column
pub column-rest : (column : ℕ) (bytes : List ℕ) (i : ℕ) → i < length bytes → get_or bytes i 0 ≡ 10 →
    column_after column bytes ≡ column_after 0 (drop (i + 1) bytes)
column-rest column bytes i within newline =
    ap (column_after column) (sym (take-append-drop (i + 1) bytes)) ∙ column_after-append column (take (i + 1) bytes) (drop (i + 1) bytes)
    ∙ ap (λ k. column_after k (drop (i + 1) bytes)) (column-newline column bytes i within newline)

pub LinesFit-rest : (most column : ℕ) (bytes : List ℕ) (i : ℕ) → i < length bytes → get_or bytes i 0 ≡ 10 →
    column + i < most → LinesFit most 0 (drop (i + 1) bytes) → LinesFit most column bytes
LinesFit-rest most column bytes i within newline near rest =
    subst (LinesFit most column) (take-append-drop (i + 1) bytes)
    (LinesFit-append most column (take (i + 1) bytes) (drop (i + 1) bytes)
    (LinesFit-short most column (take (i + 1) bytes) (omega (arith, near, length-take (i + 1) bytes)))
    (rw (column-newline column bytes i within newline) rest))

-- bytes without a newline make the line longer
pub column-no_newline : (column : ℕ) (bytes : List ℕ) → ((i : ℕ) → i < length bytes → get_or bytes i 0 ≡ 10 → ⊥) →
    column_after column bytes ≡ column + length bytes
column-no_newline column [] none = omega arith
column-no_newline column (b ∷ rest) none =
    ap (λ t. column_after (cond t 0 (column + 1)) rest) (ne_eqb b 10 (none 0 (omega arith)))
    ∙ column-no_newline (column + 1) rest (λ i within. none (suc i) (omega (arith, within))) ∙ omega arith

-- ---- bytes that break no rule

-- an ASCII byte may follow any byte except a lead byte
ascii_pair_valid : (before b : ℕ) → before < 192 → 0 < b → b < 128 → valid_utf8_pair before b ≡ true
ascii_pair_valid before b early some low =
    elim (cases_lt before 128) [
      | inl ascii ↦ ap (λ t. cond t (ltb b 128 || (leb 192 b && leb b 247))
          (cond (ltb before 192) (leb b 247) (cond (ltb before 248) (leb 128 b && ltb b 192) false)))
          (lt-ltb before 128 ascii) ∙ or_left (ltb b 128) (leb 192 b && leb b 247) (lt-ltb b 128 low)
      | inr later ↦ ap (λ t. cond t (ltb b 128 || (leb 192 b && leb b 247))
          (cond (ltb before 192) (leb b 247) (cond (ltb before 248) (leb 128 b && ltb b 192) false)))
          (le-ltb before 128 later) ∙ ap (λ t. cond t (leb b 247) (cond (ltb before 248) (leb 128 b && ltb b 192) false))
          (lt-ltb before 192 early) ∙ le-leb b 247 (omega (arith, low))
    ]

-- ASCII bytes may follow each other
pub ascii_pairs_valid : (before : ℕ) (bytes : List ℕ) → before < 192 → AllByRecursion (λ b. (0 < b) × (b < 128)) bytes →
    AreValidPairs before bytes
ascii_pairs_valid before [] early plain = tt
ascii_pairs_valid before (b ∷ rest) early plain =
    (plain.0.0, ascii_pair_valid before b early plain.0.0 plain.0.1, ascii_pairs_valid b rest (omega (arith, plain.0.1)) plain.1)

valid_pairs_unbroken : (most : Limits) (prefix : List ℕ) (b : ℕ) → 0 < b → valid_utf8_pair (last_byte prefix) b ≡ true →
    length prefix < most.bytes → length (line_so_far prefix) < most.line → rule_broken most prefix b ≡ None
valid_pairs_unbroken most prefix b some may room fits =
    ap (λ t. cond t (Some Nul) (cond (not (valid_utf8_pair (last_byte prefix) b)) (Some Utf8)
    (cond (leb most.bytes (length prefix)) (Some TooLong)
    (cond (leb most.line (length (line_so_far prefix))) (Some LongLine) None))))
    (ne_eqb b 0 (λ is. omega (arith, is, some)))
    ∙ ap (λ t. cond (not t) (Some Utf8) (cond (leb most.bytes (length prefix)) (Some TooLong)
    (cond (leb most.line (length (line_so_far prefix))) (Some LongLine) None))) may
    ∙ ap (λ t. cond t (Some TooLong) (cond (leb most.line (length (line_so_far prefix))) (Some LongLine) None))
    (lt-leb most.bytes (length prefix) room)
    ∙ ap (λ t. cond t (Some LongLine) None) (lt-leb most.line (length (line_so_far prefix)) fits)

pub valid_pairs_validate : (most : Limits) (prefix bytes : List ℕ) → AreValidPairs (last_byte prefix) bytes →
    length prefix + length bytes ≤ most.bytes → LinesFit most.line (length (line_so_far prefix)) bytes →
    first_broken most prefix bytes ≡ None
valid_pairs_validate most prefix [] pairs_are_valid room fits = refl
valid_pairs_validate most prefix (b ∷ rest) pairs_are_valid room fits =
    let here : rule_broken most prefix b ≡ None = valid_pairs_unbroken most prefix b pairs_are_valid.0 pairs_are_valid.1
    (omega (arith, room)) fits.0 in
    let valid_pairs_rest : AreValidPairs (last_byte (prefix ++ b ∷ [])) rest = rw (last_byte-push prefix b) pairs_are_valid.2 in
    let fits_rest : LinesFit most.line (length (line_so_far (prefix ++ b ∷ []))) rest = rw (length-line-push prefix b) fits.1 in
    ap (λ r. option_or r (first_broken most (prefix ++ b ∷ []) rest)) here
    ∙ valid_pairs_validate most (prefix ++ b ∷ []) rest valid_pairs_rest (omega (arith, room, length-append prefix (b ∷ []))) fits_rest

-- the column after some more bytes
pub column-append : (prefix bytes : List ℕ) → length (line_so_far (prefix ++ bytes)) ≡ column_after (length (line_so_far prefix)) bytes
column-append prefix [] = ap (λ xs. length (line_so_far xs)) (append-nil prefix)
column-append prefix (b ∷ rest) =
    ap (λ xs. length (line_so_far xs)) (sym (append_assoc prefix (b ∷ []) rest)) ∙ column-append (prefix ++ b ∷ []) rest
    ∙ ap (λ k. column_after k rest) (length-line-push prefix b)

pub last_byte-append : (prefix bytes : List ℕ) (last : ℕ) → 0 < length bytes → last ≡ get_or bytes (length bytes - 1) 0
    → last ≡ last_byte (prefix ++ bytes)
last_byte-append prefix [] last some is = absurd (omega (arith, some))
last_byte-append prefix (b ∷ []) last some is = is ∙ sym (last_byte-push prefix b)
last_byte-append prefix (b ∷ c ∷ rest) last some is =
    let next : suc (suc (length rest)) - 1 ≡ suc (suc (length rest) - 1) = omega arith in
    last_byte-append (prefix ++ b ∷ []) (c ∷ rest) last (omega arith) (is ∙ ap (λ i. get_or (b ∷ c ∷ rest) i 0) next)
    ∙ ap last_byte (append_assoc prefix (b ∷ []) (c ∷ rest))
