-- Reads by offset, one after another.
use Rattle.std.proofs.Common.{◌≡◌, ◌≤◌, ℕ, ◌+◌, List, ◌++◌, sym, ap, ◌∙◌, take, drop, length, subst, Option, Some, None, Ok, arith}
use Rattle.std.proofs.lemmas.List.{drop-drop, take-append-le}
use Rattle.std.proofs.lemmas.Slice.{take-put_mid_below}
use borrow.Rule.Slice.PartMut.{put_mid, post_of}
use lib.Seq.{drop_at, length-take-le}
use Rattle.std.specs.Prelude.{IfSome}
use Rattle.cs_tree.specs.Store.{part_of, ReadShows}
use Rattle.cs_tree.proofs.GrowsLemmas.{take_on}

-- what is written through `&mut xs[i..]` is in xs from the index i on
pub drop-put_mid : (i k : ℕ) (xs ys : List ℕ) → i ≤ length xs → drop i (put_mid i k xs ys) ≡ ys ++ post_of i k xs
drop-put_mid i k xs ys within = drop_at (take i xs) (ys ++ post_of i k xs) i (length-take-le i xs within)

-- after a read at `at + i` into `&mut xs[i..]` that returned n bytes, and left ys there
pub part_on : (bytes : List ℕ) (at i n k : ℕ) (xs ys : List ℕ) → i ≤ length xs → n ≤ length ys
    → take i xs ≡ part_of bytes at i → take n ys ≡ part_of bytes (at + i) n
    → take (i + n) (put_mid i k xs ys) ≡ part_of bytes at (i + n)
part_on bytes at i n k xs ys within bound before gives =
    let all = put_mid i k xs ys in
    let there : take n (drop i all) ≡ part_of bytes (at + i) n =
    ap (take n) (drop-put_mid i k xs ys within) ∙ take-append-le n ys (post_of i k xs) bound ∙ gives in
    take_on i n all
    ∙ ap (λ prefix. prefix ++ take n (drop i all)) (take-put_mid_below i k xs ys i (omega arith) within ∙ before)
    ∙ ap (λ rest. part_of bytes at i ++ rest) (there ∙ ap (take n) (sym (drop-drop i at bytes)))
    ∙ sym (take_on i n (drop at bytes))

-- the first n bytes of the buffer are those of the store at the offset
abbrev pub IsPrefix : Option (List ℕ) → ℕ → ℕ → List ℕ → Type 0
IsPrefix model at n buf = IfSome model (λ bytes. take n buf ≡ part_of bytes at n)

-- the same, for the model
pub filled_on : (model here : Option (List ℕ)) (at i n k : ℕ) (xs ys : List ℕ) → here ≡ model
    → i ≤ length xs → n ≤ length ys → IsPrefix model at i xs → ReadShows here (at + i) (Ok n) ys
    → IsPrefix model at (i + n) (put_mid i k xs ys)
filled_on model here at i n k xs ys same within bound before gives =
    on model before (subst (λ model. ReadShows model (at + i) (Ok n) ys) same gives)
  where
    on : (model : Option (List ℕ)) → IsPrefix model at i xs → ReadShows model (at + i) (Ok n) ys
        → IsPrefix model at (i + n) (put_mid i k xs ys)
    on None before gives = before
    on (Some bytes) before gives = part_on bytes at i n k xs ys within bound before gives.0
