-- The model of a sink with a buffer: moving the bytes of the buffer to the inner sink, and adding to them.
use Rattle.std.proofs.Common.{◌≡◌, ◌≤◌, ℕ, ◌+◌, ◌-◌, List, [], ◌++◌, sym, ap, subst, ◌∙◌, take, drop, slice_range, length, arith, Option, Some, None, option_map, append_assoc, append-nil}
use Rattle.std.proofs.lemmas.List.{take-append-drop, drop-drop, drop-take, drop-append-le, length-take-le, length-drop}
use Rattle.std.proofs.Math.Seq.{take-append-add, take-append_seam}
use Rattle.cs_tree.specs.Sinks.{SinkModel, with_bytes, Grows}

-- what an inner sink has, and then these bytes
abbrev pub with_held : Option SinkModel → List ℕ → Option SinkModel
with_held inner held = option_map (λ sink. with_bytes sink held) inner

-- the inner sink gets the first of the bytes
pub moves_held : (a b : Option SinkModel) (piece rest held : List ℕ) → held ≡ piece ++ rest → Grows a b piece →
    Grows (with_held a held) (with_held b rest) []
moves_held None b piece rest held is g = tt
moves_held (Some a) b piece rest held is g =
    ap (λ b. with_held b rest) g
    ∙ ap (λ bytes. Some (record a { bytes = bytes })) (append_assoc a.bytes piece rest
    ∙ ap (λ held. a.bytes ++ held) (sym is) ∙ sym (append-nil (a.bytes ++ held)))

-- more bytes come behind those that are held
pub adds_held : (a : Option SinkModel) (held later buf : List ℕ) → later ≡ held ++ buf → Grows (with_held a held) (with_held a later) buf
adds_held None held later buf is = tt
adds_held (Some a) held later buf is = ap (λ bytes. Some (record a { bytes = bytes }))
    (ap (λ later. a.bytes ++ later) is ∙ sym (append_assoc a.bytes held buf))

-- a piece that is written is the first of the bytes that are held
pub held_parts : (bs written : List ℕ) (start end n : ℕ) → n ≤ end - start → written ≡ slice_range bs start end
    → slice_range bs start end ≡ take n written ++ slice_range bs (start + n) end
held_parts bs written start end n within is =
    let held = slice_range bs start end in
    let split : end - start ≡ n + (end - (start + n)) = omega arith in
    let rest : drop n held ≡ slice_range bs (start + n) end =
    ap (λ k. drop n (take k (drop start bs))) split
    ∙ drop-take n (end - (start + n)) (drop start bs)
    ∙ ap (take (end - (start + n))) (drop-drop n start bs) in
    sym (take-append-drop n held)
    ∙ ap (λ written. take n written ++ drop n held) (sym is)
    ∙ ap (λ rest. take n written ++ rest) rest

-- what is written behind the bytes that are held comes behind them
pub held_on : (bs put buf after : List ℕ) (start end : ℕ) → put ≡ buf → start ≤ end → end ≤ length bs
    → slice_range (take end bs ++ (put ++ after)) start (end + length buf) ≡ slice_range bs start end ++ buf
held_on bs put buf after start end is ordered within =
    let held = slice_range bs start end in
    let whole : start + (end - start) ≡ end = omega arith in
    let first : drop start (take end bs) ≡ held =
    ap (λ k. drop start (take k bs)) (sym whole) ∙ drop-take start (end - start) bs in
    let len : length held ≡ end - start =
    length-take-le (end - start) (drop start bs) (subst (λ n. end - start ≤ n) (sym (length-drop start bs)) (omega arith)) in
    let count : end + length buf - start ≡ length held + length buf =
    omega (arith, len, ordered) in
    ap (λ put. slice_range (take end bs ++ (put ++ after)) start (end + length buf)) is
    ∙ ap (take (end + length buf - start))
    (drop-append-le start (take end bs) (buf ++ after) (subst (λ n. start ≤ n) (sym (length-take-le end bs within)) ordered)
    ∙ ap (λ held. held ++ (buf ++ after)) first)
    ∙ ap (λ k. take k (held ++ (buf ++ after))) count
    ∙ take-append-add held (buf ++ after) (length buf)
    ∙ ap (λ bytes. held ++ bytes) (take-append_seam buf after)
