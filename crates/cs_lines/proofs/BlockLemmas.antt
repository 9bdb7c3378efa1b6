-- Lines of a block, by their offsets.
use Rattle.std.proofs.Common.{◌≡◌, ℕ, suc, ◌+◌, ◌-◌, ◌<◌, ◌≤◌, ◌⊎◌, inl, inr, List, [], ◌∷◌, ◌++◌, length, take, drop, get_or, refl, sym, ap, subst, ◌∙◌, arith, add-one, drop-cons, length-append, length-take, length-drop}
use Rattle.std.proofs.lemmas.List.{take-append-drop, drop-drop, drop-take, take_more, take-take, drop_at, take_all, take_rest}
use Rattle.std.proofs.Math.Seq.{take-add}
use Rattle.cs_match.specs.Lines.{newline, terminated_lines}
use Rattle.cs_match.specs.NoNewline.{HasNoNewline}
use Rattle.cs_match.specs.Skipping.{AreWholeLines}
use Rattle.cs_lines.specs.Blocks.{IsFirstLines}
use Rattle.cs_match.proofs.LinesLemmas.{terminated_lines-line, lines_within}
use Rattle.cs_match.proofs.WholeLineLemmas.{ended_prefix, whole_append}

-- a line at an offset of the block, and the lines after it
pub line_here : (block : List ℕ) (from at : ℕ) → from ≤ at → HasNoNewline (take (at - from) (drop from block)) →
    drop at block ≡ newline ∷ drop (at + 1) block →
    terminated_lines (drop from block) ≡ take (at - from) (drop from block) ∷ terminated_lines (drop (at + 1) block)
line_here block from at low part here =
    let k = at - from in
    let size : from + k ≡ at = omega arith in
    ap terminated_lines (sym (take-append-drop k (drop from block))
    ∙ ap (λ rest. take k (drop from block) ++ rest) (drop-drop k from block ∙ ap (λ i. drop i block) size ∙ here))
    ∙ terminated_lines-line (take k (drop from block)) (drop (at + 1) block) part

-- whole lines end in a newline
whole_end : (xs : List ℕ) (b : ℕ) → AreWholeLines (xs ++ b ∷ []) → b ≡ newline
unfolding AreWholeLines
whole_end [] b w = w
whole_end (x ∷ []) b w = w
whole_end (x ∷ y ∷ xs) b w = whole_end (y ∷ xs) b w

pub ends_at : (block : List ℕ) (at : ℕ) → at < length block → AreWholeLines (take (at + 1) block) →
    drop at block ≡ newline ∷ drop (at + 1) block
ends_at block at low whole =
    drop-cons block at 0 low
    ∙ ap (λ b. b ∷ drop (suc at) block) (whole_end (take at block) (get_or block at 0) (subst AreWholeLines (take_more block at 0 low) whole))
    ∙ ap (λ i. newline ∷ drop i block) (sym (add-one at))

-- the line before an offset, which begins at `line`
module _ (block : List ℕ) (start at line : ℕ) (next : at + 1 ≡ start) (low : start ≤ length block) (whole : AreWholeLines (take start block))
    (within : line ≤ length (take at block)) where
  before : line ≤ at
  before = omega (arith, within, length-take at block)

  pub line_whole : AreWholeLines (take line (take at block)) → AreWholeLines (take line block)
  line_whole w = subst AreWholeLines (take-take line at block before) w

  pub line_before : HasNoNewline (drop line (take at block)) →
      length (terminated_lines (drop line block)) ≡ 1 + length (terminated_lines (drop start block))
  line_before part =
      let split : at ≡ line + (at - line) = omega (arith, before) in
      let here : HasNoNewline (take (at - line) (drop line block)) =
      subst HasNoNewline (ap (λ n. drop line (take n block)) split ∙ drop-take line (at - line) block) part in
      let end = ends_at block at (omega (arith, next, low)) (subst (λ n. AreWholeLines (take n block)) (sym next) whole) in
      ap (λ (ls : List (List ℕ)). length ls) (line_here block line at before here end)
      ∙ ap (λ n. length (take (at - line) (drop line block) ∷ terminated_lines (drop n block))) next ∙ omega arith

-- the last lines of a block, if there are `count`, or if they are all
pub last_are : (block : List ℕ) (start count left : ℕ) → AreWholeLines (take start block) →
    left + length (terminated_lines (drop start block)) ≡ count → (left ≡ 0) ⊎ (start ≡ 0) →
    terminated_lines (drop start block) ≡ drop (length (terminated_lines block) - count) (terminated_lines block)
last_are block start count left whole size (inl none) =
    let a = terminated_lines (take start block) in
    let b = terminated_lines (drop start block) in
    let all = ended_prefix block start whole in
    let n = ap (λ (ls : List (List ℕ)). length ls) all ∙ length-append a b in
    let k : length a ≡ length (terminated_lines block) - count = omega (arith, n, size, none) in
    sym (ap (λ (ls : List (List ℕ)). drop (length (terminated_lines block) - count) ls) all
    ∙ ap (λ i. drop i (a ++ b)) (sym k) ∙ drop_at a b (length a) refl)
last_are block start count left whole size (inr none) =
    let same : terminated_lines (drop start block) ≡ terminated_lines block = ap (λ n. terminated_lines (drop n block)) none in
    let k : 0 ≡ length (terminated_lines block) - count = omega (arith, size, ap (λ (ls : List (List ℕ)). length ls) same) in
    same ∙ ap (λ i. drop i (terminated_lines block)) k

-- whole lines up to one offset, and on to the next
pub whole_more : (block : List ℕ) (from to : ℕ) → from ≤ to → AreWholeLines (take from block) →
    AreWholeLines (take (to - from) (drop from block)) → AreWholeLines (take to block)
whole_more block from to low a b =
    let split : to ≡ from + (to - from) = omega arith in
    subst AreWholeLines (sym (ap (λ n. take n block) split ∙ take-add from (to - from) block)) (whole_append _ _ a b)

-- the last `count` lines of a block, which begin at `start`
module _ (block : List ℕ) (start count : ℕ) (whole : AreWholeLines (take start block))
    (last : terminated_lines (drop start block) ≡ drop (length (terminated_lines block) - count) (terminated_lines block)) where
  abbrev all : ℕ
  all = length (terminated_lines block)

  sizes : all ≡ length (terminated_lines (take start block)) + length (terminated_lines (drop start block))
  sizes = ap (λ (ls : List (List ℕ)). length ls) (ended_prefix block start whole)
      ∙ length-append (terminated_lines (take start block)) (terminated_lines (drop start block))

  last_size : length (terminated_lines (drop start block)) ≡ all - (all - count)
  last_size = ap (λ (ls : List (List ℕ)). length ls) last ∙ length-drop (all - count) (terminated_lines block)

  pub first_count : length (terminated_lines (take start block)) ≡ all - count
  first_count = omega (arith, sizes, last_size)

  pub last_lines_are : take count (terminated_lines (take (length block - start) (drop start block))) ≡ drop (all - count) (terminated_lines block)
  last_lines_are =
      ap (λ (text : List ℕ). take count (terminated_lines text)) (take_rest block start)
      ∙ take_all count (terminated_lines (drop start block)) (omega (arith, last_size)) ∙ last

  pub last_count : length (terminated_lines (take start block)) + length (take count (terminated_lines (take (length block - start) (drop start block)))) ≡ all
  last_count =
      omega (
        arith,
        first_count,
        sizes,
        last_size,
        ap (λ (ls : List (List ℕ)). length ls) last_lines_are,
        length-drop (all - count) (terminated_lines block),
      )

-- as many lines have as many bytes
pub count_within : (block : List ℕ) (n : ℕ) → length (take n (terminated_lines block)) ≤ length block
count_within block n = omega (arith, length-take n (terminated_lines block), lines_within block)

-- the lines from one offset on are those up to another, and those from there on
pub lines_from : (block : List ℕ) (from to : ℕ) → from ≤ to → AreWholeLines (take (to - from) (drop from block)) →
    terminated_lines (drop from block) ≡ terminated_lines (take (to - from) (drop from block)) ++ terminated_lines (drop to block)
lines_from block from to low whole =
    let size : from + (to - from) ≡ to = omega arith in
    ended_prefix (drop from block) (to - from) whole
    ∙ ap (λ text. terminated_lines (take (to - from) (drop from block)) ++ terminated_lines text) (drop-drop (to - from) from block ∙ ap (λ i. drop i block) size)

pub first_within : (count : ℕ) (block : List ℕ) (len : ℕ) → IsFirstLines count block len → length (take count (terminated_lines block)) ≤ len
first_within count block len h =
    let lines = terminated_lines block in
    omega (
      arith,
      ap (λ (ls : List (List ℕ)). length ls) (ended_prefix block len h.whole),
      length-append (terminated_lines (take len block)) (terminated_lines (drop len block)),
      ap (λ (ls : List (List ℕ)). length ls) h.rest,
      length-drop count lines,
      length-take count lines,
      lines_within (take len block),
      length-take len block,
    )
