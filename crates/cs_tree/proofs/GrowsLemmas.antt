-- Sequences of writes and flushes.
use Rattle.std.proofs.Common.{◌≡◌, ℕ, ◌+◌, ◌-◌, List, [], ◌++◌, sym, ap, subst, ◌∙◌, take, drop, length, Option, Some, None, arith, refl, append_assoc, append-nil}
use Rattle.std.proofs.lemmas.List.{take-append-drop, drop-take, take-take, take_rest}
use Rattle.cs_tree.specs.Sinks.{SinkModel, with_bytes, after_flush, Grows, HasFlushed, GrowsFlushed}

pub take_on : (i n : ℕ) (xs : List ℕ) → take (i + n) xs ≡ take i xs ++ take n (drop i xs)
take_on i n xs =
    sym (take-append-drop i (take (i + n) xs))
    ∙ ap (λ prefix. prefix ++ drop i (take (i + n) xs)) (take-take i (i + n) xs (omega arith))
    ∙ ap (λ rest. take i xs ++ rest) (drop-take i n xs)

with_bytes-with_bytes : (was : SinkModel) (xs ys : List ℕ) → with_bytes (with_bytes was xs) ys ≡ with_bytes was (xs ++ ys)
with_bytes-with_bytes was xs ys = ap (λ bytes. record was { bytes = bytes }) (append_assoc was.bytes xs ys)

pub Grows-chain : (a b c : Option SinkModel) (xs ys : List ℕ) → Grows a b xs → Grows b c ys → Grows a c (xs ++ ys)
Grows-chain None b c xs ys g h = tt
Grows-chain (Some a) b c xs ys g h = subst (λ o. Grows o c ys) g h ∙ ap Some (with_bytes-with_bytes a xs ys)

pub Grows-same : (a : Option SinkModel) → Grows a a []
Grows-same None = tt
Grows-same (Some a) = ap (λ bytes. Some (record a { bytes = bytes })) (sym (append-nil a.bytes))

-- after a write of `&xs[i..]` that wrote n bytes
pub Grows_on : (a b c : Option SinkModel) (i n : ℕ) (xs : List ℕ) → Grows a b (take i xs) →
    Grows b c (take n (take (length xs - i) (drop i xs))) → Grows a c (take (i + n) xs)
Grows_on a b c i n xs g h =
    subst (Grows a c) (sym (take_on i n xs))
    (Grows-chain a b c (take i xs) (take n (drop i xs)) g (subst (λ rest. Grows b c (take n rest)) (take_rest xs i) h))

-- ---- and a flush at the end

pub leaves_flushed : (a b : Option SinkModel) (xs : List ℕ) → GrowsFlushed a b xs → HasFlushed b
leaves_flushed None b xs g = g
leaves_flushed (Some a) b xs g = subst HasFlushed (sym g) refl

pub GrowsFlushed-chain : (a b c : Option SinkModel) (xs ys : List ℕ) → Grows a b xs → GrowsFlushed b c ys → GrowsFlushed a c (xs ++ ys)
GrowsFlushed-chain None b c xs ys g h = leaves_flushed b c ys h
GrowsFlushed-chain (Some a) b c xs ys g h = subst (λ o. GrowsFlushed o c ys) g h
    ∙ ap (λ t. Some (after_flush t)) (with_bytes-with_bytes a xs ys)
