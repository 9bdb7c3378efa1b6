-- Suffixes of lists.
use Rattle.std.proofs.Common.{◌≡◌, ℕ, suc, ◌+◌, ◌<◌, List, ◌∷◌, length, drop, get_or, ◌∙◌, ap, arith, drop-cons, take, ◌-◌, length-drop}
use Rattle.std.proofs.lemmas.List.{take_all, drop-drop}

-- a suffix is its first element and the next suffix
pub here_is : (text : List ℕ) (offset : ℕ) → offset < length text → drop offset text ≡ get_or text offset 0 ∷ drop (offset + 1) text
here_is text offset lt =
    let next : suc offset ≡ offset + 1 = omega arith in
    drop-cons text offset 0 lt ∙ ap (λ n. get_or text offset 0 ∷ drop n text) next

-- the slice from an offset on is the suffix
pub tail_is : (text : List ℕ) (offset : ℕ) → take (length text - offset) (drop offset text) ≡ drop offset text
tail_is text offset = take_all (length text - offset) (drop offset text) (omega (arith, length-drop offset text))

pub length-tail : (text : List ℕ) (offset : ℕ) → length (take (length text - offset) (drop offset text)) ≡ length text - offset
length-tail text offset = ap length (tail_is text offset) ∙ length-drop offset text

-- the lexeme of an item
pub lexeme_is : (text : List ℕ) (offset len : ℕ) → offset < length text →
    take (offset + 1 + len - offset) (drop offset text) ≡ take (suc len) (get_or text offset 0 ∷ drop (offset + 1) text)
lexeme_is text offset len lt =
    let e : offset + 1 + len - offset ≡ suc len = omega arith in
    ap (λ n. take n (drop offset text)) e ∙ ap (take (suc len)) (here_is text offset lt)

-- the suffix after an item
pub suffix_after_item : (text : List ℕ) (offset len : ℕ) → drop len (drop (offset + 1) text) ≡ drop (offset + 1 + len) text
suffix_after_item text offset len = drop-drop len (offset + 1) text
