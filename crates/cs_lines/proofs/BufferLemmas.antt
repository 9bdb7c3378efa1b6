-- Slices of a buffer before and after bytes are written at their end.
use Rattle.std.proofs.Common.{◌≡◌, ℕ, ◌+◌, ◌-◌, ◌≤◌, List, [], ◌++◌, length, take, drop, sym, ap, ◌∙◌, arith, length-take, length-drop}
use Rattle.std.proofs.lemmas.List.{take_at, drop_at, take-append-drop, drop-drop, drop-take, drop-append-le}
use Rattle.cs_tree.proofs.GrowsLemmas.{take_on}
use Rattle.cs_lines.specs.Buffer.{pending_bytes}
use Rattle.cs_lines.specs.declared.buffer.LineBuffer.{LineBuffer}

pub slice_skip : (bytes : List ℕ) (start end n : ℕ) → start + n ≤ end →
    take (end - (start + n)) (drop (start + n) bytes) ≡ drop n (take (end - start) (drop start bytes))
slice_skip bytes start end n h =
    ap (λ r. take (end - (start + n)) r) (sym (drop-drop n start bytes))
    ∙ sym (drop-take n (end - (start + n)) (drop start bytes))
    ∙ ap (λ i. drop n (take i (drop start bytes))) (omega arith)

-- `more` is written at `end`
module _ (bytes more : List ℕ) (start end : ℕ) (rising : start ≤ end) (within : end ≤ length bytes) where
  prefix_length : length (drop start (take end bytes)) ≡ end - start
  prefix_length = omega (arith, length-drop start (take end bytes), length-take end bytes)

  prefix_is : drop start (take end bytes) ≡ take (end - start) (drop start bytes)
  prefix_is = ap (λ i. drop start (take i bytes)) (omega arith) ∙ drop-take start (end - start) bytes

  pub slice_prefix : drop start (take end bytes ++ more) ≡ take (end - start) (drop start bytes) ++ more
  slice_prefix = drop-append-le start (take end bytes) more (omega (arith, length-take end bytes)) ∙ ap (λ f. f ++ more) prefix_is

  pub slice_size : length (take (end - start) (drop start bytes)) ≡ end - start
  slice_size = ap length (sym prefix_is) ∙ prefix_length

  pub slice_same : take (end - start) (drop start (take end bytes ++ more)) ≡ take (end - start) (drop start bytes)
  slice_same = ap (λ r. take (end - start) r) slice_prefix ∙ take_at (take (end - start) (drop start bytes)) more (end - start) slice_size

  pub slice_more : (n : ℕ) → take (end + n - start) (drop start (take end bytes ++ more))
      ≡ take (end - start) (drop start bytes) ++ take n more
  slice_more n =
      ap (λ i. take i (drop start (take end bytes ++ more))) (omega arith)
      ∙ take_on (end - start) n (drop start (take end bytes ++ more))
      ∙ ap (λ f. f ++ take n (drop (end - start) (drop start (take end bytes ++ more)))) slice_same
      ∙ ap (λ r. take (end - start) (drop start bytes) ++ take n r) (ap (λ r. drop (end - start) r) slice_prefix
      ∙ drop_at (take (end - start) (drop start bytes)) more (end - start) slice_size)

-- a `Vec` after a call that borrowed it as a slice
pub refilled : (n : ℕ) (items bytes : List ℕ) → length bytes ≡ n → take n (bytes ++ drop (length bytes) items) ≡ bytes
refilled n items bytes e = take_at bytes (drop (length bytes) items) n e

module _ (buffer : LineBuffer) (bytes : List ℕ) (before : take buffer.end bytes ≡ take buffer.end buffer.bytes.items) where
  inside : buffer.end ≤ length buffer.bytes.items
  inside = omega (arith, buffer.within, buffer.bytes.ok.0)

  bytes_are : bytes ≡ take buffer.end buffer.bytes.items ++ drop buffer.end bytes
  bytes_are = sym (take-append-drop buffer.end bytes) ∙ ap (λ f. f ++ drop buffer.end bytes) before

  -- the pending bytes after a write at their end
  pub pending_more : (n : ℕ) → take (buffer.end + n - buffer.start) (drop buffer.start bytes) ≡ pending_bytes buffer
      ++ take n (drop buffer.end bytes)
  unfolding pending_bytes
  pending_more n =
      ap (λ l. take (buffer.end + n - buffer.start) (drop buffer.start l)) bytes_are
      ∙ slice_more buffer.bytes.items (drop buffer.end bytes) buffer.start buffer.end buffer.ordered inside n

pub pending_size : (buffer : LineBuffer) → length (pending_bytes buffer) + buffer.start ≡ buffer.end
unfolding pending_bytes
pending_size buffer =
    let within : buffer.end ≤ length buffer.bytes.items = omega (arith, buffer.within, buffer.bytes.ok.0) in
    let rising : buffer.start ≤ buffer.end = buffer.ordered in
    omega (arith, slice_size buffer.bytes.items [] buffer.start buffer.end rising within)
