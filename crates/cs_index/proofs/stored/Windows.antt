-- The bytes of a store that are in memory.
use Rattle.std.proofs.Common.{◌≡◌, ℕ, zero, suc, ◌+◌, ◌-◌, ◌≤◌, List, [], ◌∷◌, ◌++◌, length, take, drop, refl, sym, ap, subst, ◌∙◌, inl, inr, arith, append_assoc, length-append, length-drop, length-take, Result, Ok, Err}
use Rattle.std.proofs.lemmas.Bool.{cases_lt}
use Rattle.std.specs.Prelude.{OnOk}
use Rattle.std.proofs.lemmas.List.{drop-drop, drop-take, drop_all, take_all, take_at, take-take}
use Rattle.cs_tree.specs.Store.{part_of}
use Rattle.cs_index.specs.StoredLists.{Holds, ListState, state_of}
use Rattle.cs_index.specs.declared.reading.stored_list.StoredList.TheInside.{Inside}
use Rattle.cs_index.specs.Windows.{HasFrom, IsPiece, StandAt}
use Rattle.cs_index.specs.declared.reading.window.Window.{Window}
use Rattle.cs_index.proofs.stored.ListPieces.{part_split}

cut : (xs : List ℕ) (k : ℕ) → take k xs ≡ take (length (take k xs)) xs
cut xs zero = refl
cut [] (suc k) = refl
cut (x ∷ xs) (suc k) = ap (λ ys. x ∷ ys) (cut xs k)

-- a part stands at its offset, whether or not the bytes end first
pub stand : (bytes piece : List ℕ) (at n : ℕ) → piece ≡ part_of bytes at n → StandAt bytes at piece
stand bytes piece at n is = is ∙ cut (drop at bytes) n ∙ ap (λ p. part_of bytes at (length p)) (sym is)

-- later bytes of a part
pub part_after : (bytes piece : List ℕ) (at k : ℕ) → k ≤ length piece → piece ≡ part_of bytes at (length piece) →
    drop k piece ≡ part_of bytes (at + k) (length (drop k piece))
part_after bytes piece at k within is =
    let whole : length piece ≡ k + (length piece - k) = omega (arith, within) in
    let l : length (drop k piece) ≡ length piece - k = length-drop k piece in
    ap (drop k) (is ∙ ap (part_of bytes at) whole) ∙ drop-take k (length piece - k) (drop at bytes)
    ∙ ap (take (length piece - k)) (drop-drop k at bytes) ∙ ap (part_of bytes (at + k)) (sym l)

-- and so do its first bytes
pub stand_first : (bytes piece : List ℕ) (at most : ℕ) → StandAt bytes at piece → StandAt bytes at (take most piece)
stand_first bytes piece at most is = elim (cases_lt (length piece) most) [
  | inl less ↦ subst (StandAt bytes at) (sym (take_all most piece (omega (arith, less)))) is
  | inr more ↦ stand bytes (take most piece) at most (ap (take most) is ∙ take-take most (length piece) (drop at bytes) more)
]

-- and the first bytes of a part
pub stand_prefix : (bytes piece more : List ℕ) (at m : ℕ) → part_of bytes at m ≡ piece ++ more → StandAt bytes at piece
stand_prefix bytes piece more at m is =
    let a = length-append piece more in
    let e = ap length is in
    let t = length-take m (drop at bytes) in
    sym (take_at piece more (length piece) refl) ∙ ap (take (length piece)) (sym is)
    ∙ take-take (length piece) m (drop at bytes) (omega (arith, a, e, t))

-- what a buffer has after its used bytes
pub buffered_from : (bytes : List ℕ) (w : Window) (used : ℕ) → StandAt bytes (w.start + used) (drop used w.piece.items) →
    HasFrom bytes w (w.start + used)
buffered_from bytes w used is from = subst (λ k. StandAt bytes (w.start + used) (drop k w.piece.items)) (omega arith) is

-- what a list has read ahead
pub list_from : (bytes : List ℕ) (s : Inside) (now : ListState) → state_of s ≡ now → Holds bytes now →
    HasFrom bytes s.window (s.window.start + s.used)
list_from bytes s now is holds = buffered_from bytes s.window s.used
    (subst (λ (l : ListState). StandAt bytes l.at l.piece) (sym is)
    (stand_prefix bytes now.piece holds.0 now.at (now.stop - now.at) holds.1))

-- what a window has from an offset on
pub has_from : (bytes : List ℕ) (w : Window) (at : ℕ) → IsPiece bytes w → HasFrom bytes w at
has_from bytes w at is from =
    let items : List ℕ = w.piece.items in
    let k : ℕ = at - w.start in
    elim (cases_lt (length items) k) [
      | inl less ↦ subst (StandAt bytes at) (sym (drop_all k items (omega (arith, less)))) refl
      | inr more ↦ subst (λ (n : ℕ). StandAt bytes n (drop k items)) (omega (arith, from)) (part_after bytes items w.start k more is)
    ]

pub on_ok : {T E A B : Type 0} (r : Result T E) → (A → B) → OnOk r A → OnOk r B
on_ok (Ok x) so a = so a
on_ok (Err e) so a = tt

-- bytes that are kept, and then bytes that are read
pub read_after : (bytes kept buf head post tail all : List ℕ) (at k n most len : ℕ) →
    all ≡ take (k + n) (take most ((head ++ (buf ++ post)) ++ tail)) → head ≡ kept → k ≡ length kept → StandAt bytes at kept →
    n ≤ length buf → k + length buf ≡ len → len ≤ most → take n buf ≡ part_of bytes (at + k) (length buf) → all ≡ part_of bytes at len
read_after bytes kept buf head post tail all at k n most len made same size is few whole within read =
    made ∙ ap (λ f. take (k + n) (take most ((f ++ (buf ++ post)) ++ tail))) same
    ∙ take-take (k + n) most ((kept ++ (buf ++ post)) ++ tail) (omega (arith, few, whole, within))
    ∙ ap (take (k + n)) (append_assoc kept (buf ++ post) tail ∙ ap (λ r. kept ++ r) (append_assoc buf post tail))
    ∙ take_both kept (buf ++ (post ++ tail)) n (k + n) (omega (arith, size))
    ∙ ap (λ r. kept ++ r) (take_left buf (post ++ tail) n few ∙ read)
    ∙ (λ i. is i ++ part_of bytes (at + size i) ((let z : length buf ≡ len - length kept = omega (arith, whole, size) in z) i))
    ∙ sym (part_split bytes at (length kept) len (omega (arith, whole, size)))
  where
    take_both : (xs ys : List ℕ) (m j : ℕ) → j ≡ length xs + m → take j (xs ++ ys) ≡ xs ++ take m ys
    take_both [] ys m j e = ap (λ i. take i ys) (omega (arith, e))
    take_both (x ∷ xs) ys m zero e = absurd (omega (arith, e))
    take_both (x ∷ xs) ys m (suc j) e = ap (λ zs. x ∷ zs) (take_both xs ys m j (omega (arith, e)))

    take_left : (xs ys : List ℕ) (m : ℕ) → m ≤ length xs → take m (xs ++ ys) ≡ take m xs
    take_left xs ys zero h = refl
    take_left [] ys (suc m) h = absurd (omega (arith, h))
    take_left (x ∷ xs) ys (suc m) h = ap (λ zs. x ∷ zs) (take_left xs ys m (omega (arith, h)))

pub on_ok_both : {T E A B C R : Type 0} (r : Result T E) → (A → B → C → R) → OnOk r A → OnOk r B → OnOk r C → OnOk r R
on_ok_both (Ok x) so a b c = so a b c
on_ok_both (Err e) so a b c = tt
