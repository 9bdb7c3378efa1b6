-- Lines of a text that comes in pieces.
use Rattle.std.proofs.Common.{◌≡◌, ℕ, suc, ◌+◌, ◌-◌, ◌<◌, ◌≤◌, ◌⊎◌, inl, inr, Bool, true, false, not, cond, nat_eq, List, [], ◌∷◌, ◌++◌, length, drop, reverse, get_or, refl, sym, ap, ap₂, subst, ◌∙◌, arith}
use Rattle.std.specs.List.{count_by, onto_first, prefix_len, suffix_len}
use Rattle.std.proofs.lemmas.Bool.{eq-eqb, ne_eqb}
use Rattle.std.proofs.lemmas.List.{length-reverse, reverse-append}
use Rattle.std.proofs.lemmas.List.Folds.{prefix_len-append}
use Rattle.std.proofs.lemmas.List.Sums.{sum_by-append}
use Rattle.std.proofs.lemmas.List.Recursion.{is_count_by}
use Rattle.cs_match.specs.Lines.{newline, lines, terminated_lines, with_byte_in_line}
use Rattle.cs_match.specs.NoNewline.{HasNoNewline}
use Rattle.cs_match.specs.LastPart.{last_part, last_line}

-- ---- the bytes after the last newline, one byte after another

-- the byte prepended to the rest, if no line ends in the text
abbrev pub unless_terminated : ℕ → List (List ℕ) → List ℕ → List ℕ
unless_terminated b [] rest = b ∷ rest
unless_terminated b (line ∷ lines) rest = rest

abbrev is_other : ℕ → Bool
is_other b = not (nat_eq b newline)

-- the number of bytes after the last newline, with a byte prepended
suffix_len-cons : (x : ℕ) (a : List ℕ) → suffix_len is_other (x ∷ a) ≡ cond (nat_eq (suffix_len is_other a) (length a))
    (length a + cond (is_other x) 1 0) (suffix_len is_other a)
suffix_len-cons x a =
    ap (prefix_len is_other) (reverse-append (x ∷ []) a)
    ∙ prefix_len-append is_other (reverse a) (x ∷ [])
    ∙ ap (λ n. cond (nat_eq (suffix_len is_other a) n) (n + cond (is_other x) 1 0) (suffix_len is_other a)) (length-reverse a)

-- either no line ends, and the last part is the whole text, or some line ends
abbrev IsTerminated : List ℕ → Type 0
IsTerminated a = ((suffix_len is_other a ≡ length a) × (terminated_lines a ≡ [])) ⊎
    ((suffix_len is_other a < length a) × (line : List ℕ) × (more : List (List ℕ)) × (terminated_lines a ≡ line ∷ more))

terminated_by_byte : (x : ℕ) (a : List ℕ) (t : Bool) → nat_eq x newline ≡ t → IsTerminated a → IsTerminated (x ∷ a)
unfolding terminated_lines
terminated_by_byte x a true e (inl (all, none)) =
    let n : suffix_len is_other (x ∷ a) ≡ length a + 0 = suffix_len-cons x a ∙ rw (eq-eqb (suffix_len is_other a) (length a) all, e) refl in
    inr (omega (arith, n), [], terminated_lines a, rw e refl)
terminated_by_byte x a false e (inl (all, none)) =
    let n : suffix_len is_other (x ∷ a) ≡ length a + 1 = suffix_len-cons x a ∙ rw (eq-eqb (suffix_len is_other a) (length a) all, e) refl in
    inl (omega (arith, n), rw (e, none) refl)
terminated_by_byte x a t e (inr (less, line, more, is)) =
    let n : suffix_len is_other (x ∷ a) ≡ suffix_len is_other a = suffix_len-cons x a
    ∙ rw (ne_eqb (suffix_len is_other a) (length a) (λ same. omega (arith, same, less))) refl in
    let h = by t e in
    inr (omega (arith, n, less), h.0, h.1, h.2)
  where
    by : (t : Bool) → nat_eq x newline ≡ t → (first : List ℕ) × (rest : List (List ℕ)) × (terminated_lines (x ∷ a) ≡ first ∷ rest)
    by true e = ([], terminated_lines a, rw e refl)
    by false e = (x ∷ line, more, rw (e, is) refl)

is_terminated : (a : List ℕ) → IsTerminated a
unfolding terminated_lines
is_terminated [] = inl (refl, refl)
is_terminated (x ∷ a) = terminated_by_byte x a (nat_eq x newline) refl (is_terminated a)

-- the last part, by the number of bytes after the last newline
left_of : (x : ℕ) (a : List ℕ) (n : ℕ) → suffix_len is_other (x ∷ a) ≡ n → last_part (x ∷ a) ≡ drop (length (x ∷ a) - n) (x ∷ a)
unfolding last_part
left_of x a n is = ap (λ k. drop (length (x ∷ a) - k) (x ∷ a)) is

all_left : (a : List ℕ) → suffix_len is_other a ≡ length a → last_part a ≡ a
unfolding last_part
all_left a all =
    let none : length a - suffix_len is_other a ≡ 0 = omega (arith, all) in
    ap (λ k. drop k a) none

some_left : (a : List ℕ) → last_part a ≡ drop (length a - suffix_len is_other a) a
unfolding last_part
some_left a = refl

where_terminated : (x : ℕ) (a : List ℕ) (t : Bool) (line : List ℕ) (more : List (List ℕ)) → terminated_lines a
    ≡ line ∷ more → cond t (last_part a) (unless_terminated x (terminated_lines a) (last_part a)) ≡ last_part a
where_terminated x a true line more is = refl
where_terminated x a false line more is = ap (λ ls. unless_terminated x ls (last_part a)) is

last_part_by : (x : ℕ) (a : List ℕ) (t : Bool) → nat_eq x newline ≡ t → IsTerminated a → last_part (x ∷ a)
    ≡ cond t (last_part a) (unless_terminated x (terminated_lines a) (last_part a))
last_part_by x a true e (inl (all, none)) =
    let n : suffix_len is_other (x ∷ a) ≡ length a + 0 = suffix_len-cons x a ∙ rw (eq-eqb (suffix_len is_other a) (length a) all, e) refl in
    let one : length (x ∷ a) - (length a + 0) ≡ 1 = omega arith in
    left_of x a (length a + 0) n ∙ ap (λ k. drop k (x ∷ a)) one ∙ sym (all_left a all)
last_part_by x a false e (inl (all, none)) =
    let n : suffix_len is_other (x ∷ a) ≡ length a + 1 = suffix_len-cons x a ∙ rw (eq-eqb (suffix_len is_other a) (length a) all, e) refl in
    let no : length (x ∷ a) - (length a + 1) ≡ 0 = omega arith in
    left_of x a (length a + 1) n ∙ ap (λ k. drop k (x ∷ a)) no ∙ sym (ap₂ (unless_terminated x) none (all_left a all))
last_part_by x a t e (inr (less, line, more, is)) =
    let n : suffix_len is_other (x ∷ a) ≡ suffix_len is_other a = suffix_len-cons x a
    ∙ rw (ne_eqb (suffix_len is_other a) (length a) (λ same. omega (arith, same, less))) refl in
    let one : length (x ∷ a) - suffix_len is_other a ≡ suc (length a - suffix_len is_other a) = omega (arith, less) in
    left_of x a (suffix_len is_other a) n ∙ ap (λ k. drop k (x ∷ a)) one ∙ sym (some_left a) ∙ sym (where_terminated x a t line more is)

-- the same with a byte prepended
pub last_part-cons : (x : ℕ) (a : List ℕ) → last_part (x ∷ a) ≡ cond (nat_eq x newline) (last_part a)
    (unless_terminated x (terminated_lines a) (last_part a))
last_part-cons x a = last_part_by x a (nat_eq x newline) refl (is_terminated a)

module _ (x : ℕ) (b : List ℕ) where
  terminated-step : (t : Bool) → nat_eq x newline ≡ t → (ls : List (List ℕ)) (rest : List ℕ) (whole : List (List ℕ)) →
      whole ≡ ls ++ terminated_lines (rest ++ b) → cond t ([] ∷ whole) (with_byte_in_line x whole)
      ≡ cond t ([] ∷ ls) (with_byte_in_line x ls) ++ terminated_lines (cond t rest (unless_terminated x ls rest) ++ b)
  unfolding terminated_lines
  terminated-step true e ls rest whole h = ap (λ (w : List (List ℕ)). [] ∷ w) h
  terminated-step false e [] rest whole h = rw (e, h) refl
  terminated-step false e (l ∷ ls) rest whole h = rw h refl

  last_part-step : (t : Bool) → nat_eq x newline ≡ t → (ls : List (List ℕ)) (rest : List ℕ) (whole : List (List ℕ))
      (left : List ℕ) → whole ≡ ls ++ terminated_lines (rest ++ b) → left ≡ last_part (rest ++ b) →
      cond t left (unless_terminated x whole left) ≡ last_part (cond t rest (unless_terminated x ls rest) ++ b)
  unfolding last_part
  last_part-step true e ls rest whole left h k = k
  last_part-step false e [] rest whole left h k = ap₂ (unless_terminated x) h k ∙ sym (last_part-cons x (rest ++ b) ∙ rw e refl)
  last_part-step false e (l ∷ ls) rest whole left h k = rw h k

-- the lines of a concatenation, from the lines and the last part of the first text
pub terminated_lines-append : (a b : List ℕ) → terminated_lines (a ++ b) ≡ terminated_lines a ++ terminated_lines (last_part a ++ b)
unfolding terminated_lines last_part
terminated_lines-append [] b = refl
terminated_lines-append (x ∷ a) b =
    terminated-step x b (nat_eq x newline) refl (terminated_lines a) (last_part a) (terminated_lines (a ++ b)) (terminated_lines-append a b)
    ∙ ap (λ rest. terminated_lines (x ∷ a) ++ terminated_lines (rest ++ b)) (sym (last_part-cons x a))

pub last_part-append : (a b : List ℕ) → last_part (a ++ b) ≡ last_part (last_part a ++ b)
unfolding terminated_lines last_part
last_part-append [] b = refl
last_part-append (x ∷ a) b =
    last_part-cons x (a ++ b)
    ∙ last_part-step x b (nat_eq x newline) refl (terminated_lines a) (last_part a) (terminated_lines (a ++ b))
    (last_part (a ++ b)) (terminated_lines-append a b) (last_part-append a b)
    ∙ ap (λ rest. last_part (rest ++ b)) (sym (last_part-cons x a))

-- a part without a newline has no terminated line
pub terminated_lines-part : (part : List ℕ) → HasNoNewline part → terminated_lines part ≡ []
unfolding terminated_lines
terminated_lines-part [] p = refl
terminated_lines-part (x ∷ part) p = rw (p.0, terminated_lines-part part p.1) refl

pub last_part-part : (part : List ℕ) → HasNoNewline part → last_part part ≡ part
unfolding last_part
last_part-part [] p = refl
last_part-part (x ∷ part) p = last_part-cons x part ∙ rw (p.0, terminated_lines-part part p.1, last_part-part part p.1) refl

-- the terminated lines of a part, a newline and another text
pub terminated_lines-line : (part more : List ℕ) → HasNoNewline part → terminated_lines (part ++ newline ∷ more)
    ≡ part ∷ terminated_lines more
unfolding terminated_lines
terminated_lines-line [] more p = refl
terminated_lines-line (x ∷ part) more p = rw (p.0, terminated_lines-line part more p.1) refl

pub last_part-line : (part more : List ℕ) → HasNoNewline part → last_part (part ++ newline ∷ more) ≡ last_part more
unfolding last_part
last_part-line [] more p = last_part-cons newline more
last_part-line (x ∷ part) more p = last_part-cons x (part ++ newline ∷ more)
    ∙ rw (p.0, terminated_lines-line part more p.1, last_part-line part more p.1) refl

lines-step : (x : ℕ) (ls : List (List ℕ)) (rest : List ℕ) → onto_first x (ls ++ last_line rest) ≡ with_byte_in_line x ls
    ++ last_line (unless_terminated x ls rest)
lines-step x [] [] = refl
lines-step x [] (b ∷ rest) = refl
lines-step x (l ∷ ls) rest = refl

lines-both : (x : ℕ) (t : Bool) (ls all : List (List ℕ)) (rest : List ℕ) → all ≡ ls ++ last_line rest →
    cond t ([] ∷ all) (onto_first x all) ≡ cond t ([] ∷ ls) (with_byte_in_line x ls)
    ++ last_line (cond t rest (unless_terminated x ls rest))
lines-both x true ls all rest h = ap (λ (w : List (List ℕ)). [] ∷ w) h
lines-both x false ls all rest h = rw h (lines-step x ls rest)

-- all lines are the terminated lines and the last part
pub lines-split : (a : List ℕ) → lines a ≡ terminated_lines a ++ last_line (last_part a)
unfolding lines terminated_lines last_part
lines-split [] = refl
lines-split (x ∷ a) =
    lines-both x (nat_eq x newline) (terminated_lines a) (lines a) (last_part a) (lines-split a)
    ∙ ap (λ rest. terminated_lines (x ∷ a) ++ last_line rest) (sym (last_part-cons x a))

-- the last part contains no newline
part-step : (x : ℕ) (t : Bool) → nat_eq x newline ≡ t → (ls : List (List ℕ)) (rest : List ℕ) → HasNoNewline rest →
    HasNoNewline (cond t rest (unless_terminated x ls rest))
part-step x true e ls rest p = p
part-step x false e [] rest p = (e, p)
part-step x false e (l ∷ ls) rest p = p

pub HasNoNewline-last_part : (a : List ℕ) → HasNoNewline (last_part a)
unfolding last_part
HasNoNewline-last_part [] = tt
HasNoNewline-last_part (x ∷ a) = subst HasNoNewline (sym (last_part-cons x a))
    (part-step x (nat_eq x newline) refl (terminated_lines a) (last_part a) (HasNoNewline-last_part a))

-- each terminated line has a byte at least, its newline
count-step : (x : ℕ) (t : Bool) (ls : List (List ℕ)) (rest : List ℕ) (n : ℕ) → length ls + length rest ≤ n →
    length (cond t ([] ∷ ls) (with_byte_in_line x ls)) + length (cond t rest (unless_terminated x ls rest)) ≤ n + 1
count-step x true ls rest n h = omega arith
count-step x false [] rest n h = omega arith
count-step x false (l ∷ ls) rest n h = omega arith

pub lines_within : (a : List ℕ) → length (terminated_lines a) + length (last_part a) ≤ length a
unfolding terminated_lines last_part
lines_within [] = omega arith
lines_within (x ∷ a) = let h = count-step x (nat_eq x newline) (terminated_lines a) (last_part a) (length a)
    (lines_within a) in omega (arith, ap (λ (l : List ℕ). length l) (last_part-cons x a))

-- there are as many terminated lines as newlines
abbrev pub is_newline : ℕ → Bool
is_newline b = nat_eq b newline

length-with_byte : (b : ℕ) (ls : List (List ℕ)) → length (with_byte_in_line b ls) ≡ length ls
length-with_byte b [] = refl
length-with_byte b (l ∷ ls) = refl

length-terminated_step : (b : ℕ) (t : Bool) (ls : List (List ℕ)) → length (cond t ([] ∷ ls) (with_byte_in_line b ls))
    ≡ cond t (1 + length ls) (length ls)
length-terminated_step b true ls = omega arith
length-terminated_step b false ls = length-with_byte b ls

pub length-terminated_lines : (text : List ℕ) → length (terminated_lines text) ≡ count_by is_newline text
unfolding terminated_lines
length-terminated_lines = is_count_by (λ text. length (terminated_lines text)) is_newline refl
    (λ b text. length-terminated_step b (nat_eq b newline) (terminated_lines text))

pub length-terminated_append : (a b : List ℕ) → length (terminated_lines (a ++ b)) ≡ length (terminated_lines a)
    + length (terminated_lines b)
length-terminated_append a b =
    length-terminated_lines (a ++ b) ∙ sum_by-append (λ b. cond (is_newline b) 1 0) a b
    ∙ sym (ap (λ n. n + length (terminated_lines b)) (length-terminated_lines a)
    ∙ ap (λ n. count_by is_newline a + n) (length-terminated_lines b))

-- a text in which a search found no newline
pub HasNoNewline-searched : (a : List ℕ) → ((k : ℕ) → k < length a → nat_eq (get_or a k 0) newline ≡ true → ⊥) → HasNoNewline a
HasNoNewline-searched [] h = tt
HasNoNewline-searched (x ∷ a) h = (
  elim (nat_eq x newline) as (λ t. nat_eq x newline ≡ t → t ≡ false)
      [ true ↦ λ e. absurd (h 0 (omega arith) e) | false ↦ λ e. refl ] refl,
  HasNoNewline-searched a
      (λ k low. h (suc k) (omega arith)),
)

pub HasNoNewline-append : (a b : List ℕ) → HasNoNewline a → HasNoNewline b → HasNoNewline (a ++ b)
HasNoNewline-append [] b p q = q
HasNoNewline-append (x ∷ a) b p q = (p.0, HasNoNewline-append a b p.1 q)

pub lines-line : (part more : List ℕ) → HasNoNewline part → lines (part ++ newline ∷ more) ≡ part ∷ lines more
lines-line part more p =
    lines-split (part ++ newline ∷ more)
    ∙ ap (λ ls. ls ++ last_line (last_part (part ++ newline ∷ more))) (terminated_lines-line part more p)
    ∙ ap (λ rest. part ∷ (terminated_lines more ++ last_line rest)) (last_part-line part more p)
    ∙ ap (λ (ls : List (List ℕ)). part ∷ ls) (sym (lines-split more))

pub lines-last : (b : ℕ) (part : List ℕ) → HasNoNewline (b ∷ part) → lines (b ∷ part) ≡ (b ∷ part) ∷ []
lines-last b part p =
    lines-split (b ∷ part)
    ∙ ap (λ ls. ls ++ last_line (last_part (b ∷ part))) (terminated_lines-part (b ∷ part) p)
    ∙ ap last_line (last_part-part (b ∷ part) p)

pub lines-none : lines [] ≡ []
unfolding lines
lines-none = refl
