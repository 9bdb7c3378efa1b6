-- How many lines of a text are wanted.
use Rattle.std.proofs.Common.{◌≡◌, ℕ, suc, ◌+◌, ◌-◌, ◌<◌, Bool, true, false, not, cond, nat_le, List, [], ◌∷◌, ◌++◌, ◌≤◌, length, length-append, take, drop, Option, None, Some, refl, sym, ap, ◌∙◌, arith, if◌then◌else◌}
use Rattle.std.proofs.lemmas.Bool.Decides.{nat_tests}
use Rattle.std.proofs.lemmas.List.Elements.{All-tail}
use Rattle.std.proofs.lemmas.List.Sums.{sum_by-cons, sum_by-append}
use Rattle.std.specs.List.{count_by}
use Rattle.cs_match.specs.LastPart.{last_line}
use Rattle.cs_match.specs.Lines.{lines, terminated_lines}
use Rattle.cs_match.specs.NoNewline.{HasNoNewline}
use Rattle.cs_match.specs.Skipping.{AreWholeLines, NoneMatch, IsLineAfter}
use Rattle.std.proofs.lemmas.Bool.{false≢true}
use Rattle.cs_lines.specs.Counts.{IsCount, ended_by, is_enough}
use Rattle.cs_lines.specs.declared.stream.Ended.{Ended}
use Rattle.cs_lines.specs.declared.stream.Ended.TheVariants.{Whole}
use Rattle.cs_lines.specs.Shown.{at_most}
use Rattle.cs_lines.proofs.SearchLemmas.{lines_to}
use Rattle.cs_lines.proofs.TextLemmas.{lines_are}

module _ (test : List ℕ → Bool) where
  pub count_append : (a b : List (List ℕ)) → count_by test (a ++ b) ≡ count_by test a + count_by test b
  count_append a b = sum_by-append (λ line. cond (test line) 1 0) a b

  count_cons : (line : List ℕ) (ls : List (List ℕ)) (t : Bool) → test line ≡ t → count_by test (line ∷ ls) ≡ cond t 1 0 + count_by test ls
  count_cons line ls t is = sum_by-cons (λ line. cond (test line) 1 0) line ls ∙ ap (λ (b : Bool). cond b 1 0 + count_by test ls) is

  pub count_none : (ls : List (List ℕ)) → NoneMatch test ls → count_by test ls ≡ 0
  count_none [] h = refl
  count_none (line ∷ ls) h =
      omega (
        arith,
        count_cons line ls false (h 0 line (omega arith)),
        count_none ls (All-tail (λ line. test line ≡ false) line ls h),
      )

  pub count_some : (block : List ℕ) (start end : ℕ) → IsLineAfter block 0 start end → test (take (end - start) (drop start block)) ≡ true →
      0 < count_by test (terminated_lines block)
  count_some block start end line is =
      let first = terminated_lines (take (start - 0) block) in
      let here = take (end - start) (drop start block) in
      let rest = terminated_lines (drop (end + 1) block) in
      let all : count_by test (terminated_lines block) ≡ count_by test (first ++ here ∷ rest) = ap (count_by test) (lines_to block 0 start end line) in
      omega (arith, all, count_append first (here ∷ rest), count_cons here rest true is)

  -- the first line that is counted, and the lines after it
  pub count_next : (block : List ℕ) (from start end : ℕ) → IsLineAfter block from start end → test (take (end - start) (drop start block)) ≡ true →
      NoneMatch test (terminated_lines (take (start - from) (drop from block))) →
      count_by test (terminated_lines (drop from block)) ≡ 1 + count_by test (terminated_lines (drop (end + 1) block))
  count_next block from start end line is none =
      let first = terminated_lines (take (start - from) (drop from block)) in
      let here = take (end - start) (drop start block) in
      let rest = terminated_lines (drop (end + 1) block) in
      let all : count_by test (terminated_lines (drop from block)) ≡ count_by test (first ++ here ∷ rest) = ap (count_by test) (lines_to block from start end line) in
      omega (arith, all, count_append first (here ∷ rest), count_none first none, count_cons here rest true is)

  -- what is not counted by a test is counted by its complement
  pub count_other : (ls : List (List ℕ)) → count_by (λ line. not (test line)) ls + count_by test ls ≡ length ls
  count_other [] = refl
  count_other (line ∷ ls) =
      other (test line) (count_by (λ line. not (test line)) ls) (count_by test ls) _ _ (length ls)
      (sum_by-cons (λ line. cond (not (test line)) 1 0) line ls) (sum_by-cons (λ line. cond (test line) 1 0) line ls) (count_other ls)
    where
      other : (t : Bool) (a b c d n : ℕ) → c ≡ cond (not t) 1 0 + a → d ≡ cond t 1 0 + b → a + b ≡ n → c + d ≡ suc n
      other true a b c d n e f h = omega arith
      other false a b c d n e f h = omega arith

pub size_next : (block : List ℕ) (from start end : ℕ) → IsLineAfter block from start end →
    1 + length (terminated_lines (drop (end + 1) block)) ≤ length (terminated_lines (drop from block))
size_next block from start end line =
    let first = terminated_lines (take (start - from) (drop from block)) in
    let here = take (end - start) (drop start block) in
    let rest = terminated_lines (drop (end + 1) block) in
    omega (arith, ap (λ (ls : List (List ℕ)). length ls) (lines_to block from start end line), length-append first (here ∷ rest))

pub count_if : (invert : Bool) (has_match : List ℕ → Bool) (ls : List (List ℕ)) (t : Bool) → invert ≡ t →
    count_by (λ line. if invert then not (has_match line) else has_match line) ls ≡ count_by (λ line. if t then not (has_match line) else has_match line) ls
count_if invert has_match ls t is = ap (λ (b : Bool). count_by (λ line. if b then not (has_match line) else has_match line) ls) is

-- ---- counts up to a limit

pub is_count : (most : Option ℕ) (a x : ℕ) → a ≡ x → IsCount most a x
is_count most a x e = (omega (arith, e), ap (at_most most) e)

pub count_both : (most : Option ℕ) (a x b y : ℕ) → IsCount most a x → IsCount most b y → IsCount most (a + b) (x + y)
count_both None a x b y p q = (omega (arith, p.0, q.0), omega (arith, p.1, q.1))
count_both (Some most) a x b y p q = (omega (arith, p.0, q.0), omega (arith, p.0, p.1, q.0, q.1))

-- so many are enough, whatever follows
pub count_enough : (most : Option ℕ) (a x y : ℕ) → is_enough most a ≡ true → IsCount most a x → IsCount most a (x + y)
count_enough None a x y e p = absurd (false≢true e)
count_enough (Some most) a x y e p = let low : most ≤ a = grind (arith, nat_tests, e) in (omega (arith, p.0), omega (arith, p.0, low))

pub enough_more : (most : Option ℕ) (a x : ℕ) → is_enough most a ≡ true → a ≤ x → is_enough most x ≡ true
enough_more None a x e low = absurd (false≢true e)
enough_more (Some most) a x e low = grind (arith, nat_tests, e, low)

pub few_enough : (most : Option ℕ) (a x : ℕ) → is_enough most a ≡ false → IsCount most a x → is_enough most x ≡ false
few_enough None a x e p = refl
few_enough (Some most) a x e p =
    let low : a < most = grind (arith, nat_tests, e) in
    let same : x ≡ a = omega (arith, low, p.0, p.1) in
    ap (nat_le most) same ∙ e

pub ended_enough : (most : Option ℕ) (wanted : ℕ) (ended : Ended) → is_enough most wanted ≡ true → Whole ≡ ended_by most wanted ended
ended_enough most wanted ended e = sym (ap (λ (b : Bool). if b then Whole else ended) e)

pub ended_whole : (most : Option ℕ) (wanted : ℕ) → Whole ≡ ended_by most wanted Whole
ended_whole most wanted = by (is_enough most wanted)
  where
    by : (b : Bool) → Whole ≡ (if b then Whole else Whole)
    by true = refl
    by false = refl

pub ended_few : (most : Option ℕ) (wanted : ℕ) (ended : Ended) → is_enough most wanted ≡ false → ended ≡ ended_by most wanted ended
ended_few most wanted ended e = sym (ap (λ (b : Bool). if b then Whole else ended) e)

-- the lines of a text: those that have ended, and the last one
pub count_split : (test : List ℕ → Bool) (text : List ℕ) (end : ℕ) → AreWholeLines (take end text) → HasNoNewline (drop end text) →
    count_by test (lines text) ≡ count_by test (terminated_lines (take end text)) + count_by test (last_line (drop end text))
count_split test text end whole part =
    ap (count_by test) (lines_are text end whole part) ∙ count_append test (terminated_lines (take end text)) (last_line (drop end text))
