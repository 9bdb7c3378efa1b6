-- Texts of whole lines.
use Rattle.std.proofs.Common.{◌≡◌, ℕ, zero, suc, ◌+◌, ◌<◌, true, false, Bool, cond, nat_eq, List, [], ◌∷◌, ◌++◌, ◌-◌, ◌≤◌, length, take, drop, refl, sym, ap, subst, ◌∙◌, arith, append-nil, length-drop, ◌↔◌}
use Rattle.std.proofs.lemmas.Bool.{false≢true, eqb-true}
use Rattle.std.proofs.Math.Seq.{take-add}
use Rattle.std.proofs.lemmas.List.{drop-drop, take_rest, take-append-drop}
use Rattle.std.proofs.lemmas.List.Elements.{All-append}
use Rattle.cs_match.proofs.LinesLemmas.{terminated_lines-line, terminated_lines-part, unless_terminated, last_part-append, last_part-cons, last_part-part}
use Rattle.cs_match.specs.Lines.{newline, terminated_lines, with_byte_in_line}
use Rattle.cs_match.specs.NoNewline.{HasNoNewline}
use Rattle.cs_match.specs.Skipping.{AreWholeLines, NoneMatch}
use Rattle.cs_match.specs.LastPart.{last_part}

-- a text that ends in a newline consists of whole lines
pub whole_terminated : (part : List ℕ) → AreWholeLines (part ++ newline ∷ [])
unfolding AreWholeLines
whole_terminated [] = refl
whole_terminated (b ∷ []) = refl
whole_terminated (b ∷ c ∷ part) = whole_terminated (c ∷ part)

pub whole_append : (a b : List ℕ) → AreWholeLines a → AreWholeLines b → AreWholeLines (a ++ b)
unfolding AreWholeLines
whole_append [] b p q = q
whole_append (x ∷ []) [] p q = p
whole_append (x ∷ []) (y ∷ b) p q = q
whole_append (x ∷ y ∷ a) b p q = whole_append (y ∷ a) b p q

pub whole_tail : (b : ℕ) (text : List ℕ) → AreWholeLines (b ∷ text) → AreWholeLines text
unfolding AreWholeLines
whole_tail b [] p = tt
whole_tail b (c ∷ text) p = p

pub whole_drop : (n : ℕ) (text : List ℕ) → AreWholeLines text → AreWholeLines (drop n text)
whole_drop zero text p = p
whole_drop (suc n) [] p = p
whole_drop (suc n) (b ∷ text) p = whole_drop n text (whole_tail b text p)

-- whole lines without a newline are empty
pub whole_part : (b : ℕ) (text : List ℕ) → AreWholeLines (b ∷ text) → HasNoNewline (b ∷ text) → ⊥
unfolding AreWholeLines
whole_part b [] w p = false≢true (sym (subst (λ c. nat_eq c newline ≡ false) w p.0))
whole_part b (c ∷ text) w p = whole_part c text w p.1

-- the terminated lines of a text of whole lines followed by another text
module _ (ys : List ℕ) where
  first_line : (b : ℕ) (text : List ℕ) → AreWholeLines (b ∷ text) → (line : List ℕ) × (rest : List (List ℕ)) ×
      (terminated_lines (b ∷ text) ≡ line ∷ rest)
  unfolding terminated_lines AreWholeLines
  first_line b [] w = ([], [], rw w refl)
  first_line b (c ∷ text) w =
      let h = first_line c text w in
      elim (nat_eq b newline) as (λ t. (line : List ℕ) × (rest : List (List ℕ)) ×
      (cond t ([] ∷ terminated_lines (c ∷ text)) (with_byte_in_line b (terminated_lines (c ∷ text))) ≡ line ∷ rest)) [
        | true ↦ ([], terminated_lines (c ∷ text), refl)
        | false ↦ (b ∷ h.0, h.1, rw h.2 refl)
      ]

  one_more : (b : ℕ) (t : Bool) (ls all more : List (List ℕ)) (line : List ℕ) (rest : List (List ℕ)) →
      ls ≡ line ∷ rest → all ≡ ls ++ more → cond t ([] ∷ all) (with_byte_in_line b all)
      ≡ cond t ([] ∷ ls) (with_byte_in_line b ls) ++ more
  one_more b true ls all more line rest e h = ap (λ (w : List (List ℕ)). [] ∷ w) h
  one_more b false ls all more line rest e h = rw (h, e) refl

  pub terminated_lines-whole : (xs : List ℕ) → AreWholeLines xs → terminated_lines (xs ++ ys) ≡ terminated_lines xs ++ terminated_lines ys
  unfolding terminated_lines AreWholeLines
  terminated_lines-whole [] w = refl
  terminated_lines-whole (b ∷ []) w = rw w refl
  terminated_lines-whole (b ∷ c ∷ xs) w =
      let h = first_line c xs w in
      one_more b (nat_eq b newline) (terminated_lines (c ∷ xs)) (terminated_lines ((c ∷ xs) ++ ys))
      (terminated_lines ys) h.0 h.1 h.2 (terminated_lines-whole (c ∷ xs) w)

-- a text consists of whole lines if and only if nothing follows its last newline
terminated_by : (b : ℕ) (t : Bool) (ls : List (List ℕ)) (rest : List ℕ) → cond t rest (unless_terminated b ls rest) ≡ [] → rest ≡ []
terminated_by b true ls rest e = e
terminated_by b false [] rest e = cc
terminated_by b false (l ∷ ls) rest e = e

ends_it : (b : ℕ) (t : Bool) → nat_eq b newline ≡ t → cond t [] (b ∷ []) ≡ [] → b ≡ newline
ends_it b true is e = eqb-true b newline is
ends_it b false is e = cc

no_part_of_whole : (text : List ℕ) → AreWholeLines text → last_part text ≡ []
unfolding last_part terminated_lines AreWholeLines
no_part_of_whole [] w = refl
no_part_of_whole (b ∷ []) w = last_part-cons b [] ∙ rw w refl
no_part_of_whole (b ∷ c ∷ text) w =
    let h = first_line [] c text w in
    let rest : last_part (c ∷ text) ≡ [] = no_part_of_whole (c ∷ text) w in
    last_part-cons b (c ∷ text)
    ∙ elim (nat_eq b newline) as (λ t. cond t (last_part (c ∷ text))
    (unless_terminated b (terminated_lines (c ∷ text)) (last_part (c ∷ text))) ≡ []) [
      | true ↦ rest
      | false ↦ ap (λ ls. unless_terminated b ls (last_part (c ∷ text))) h.2 ∙ rest
    ]

whole_has_no_part : (text : List ℕ) → last_part text ≡ [] → AreWholeLines text
unfolding last_part terminated_lines AreWholeLines
whole_has_no_part [] e = tt
whole_has_no_part (b ∷ []) e = ends_it b (nat_eq b newline) refl (sym (last_part-cons b []) ∙ e)
whole_has_no_part (b ∷ c ∷ text) e = whole_has_no_part (c ∷ text)
    (terminated_by b (nat_eq b newline) (terminated_lines (c ∷ text)) (last_part (c ∷ text))
    (sym (last_part-cons b (c ∷ text)) ∙ e))

pub whole_is_terminated : (text : List ℕ) → AreWholeLines text ↔ last_part text ≡ []
whole_is_terminated text = (no_part_of_whole text, whole_has_no_part text)

-- a block that is whole lines followed by an unfinished line
module _ (block : List ℕ) (stop : ℕ) (whole : AreWholeLines (take stop block)) where
  pub ended_prefix : terminated_lines block ≡ terminated_lines (take stop block) ++ terminated_lines (drop stop block)
  ended_prefix = ap terminated_lines (sym (take-append-drop stop block)) ∙ terminated_lines-whole (drop stop block) (take stop block) whole

  pub ended_all : HasNoNewline (drop stop block) → terminated_lines block ≡ terminated_lines (take stop block)
  ended_all part =
      ended_prefix ∙ ap (λ ls. terminated_lines (take stop block) ++ ls) (terminated_lines-part (drop stop block) part)
      ∙ append-nil (terminated_lines (take stop block))

  pub rest_is_last : HasNoNewline (drop stop block) → drop stop block ≡ last_part block
  rest_is_last part =
      sym (ap last_part (sym (take-append-drop stop block)) ∙ last_part-append (take stop block) (drop stop block)
      ∙ ap (λ u. last_part (u ++ drop stop block)) ((whole_is_terminated (take stop block)).0 whole)
      ∙ last_part-part (drop stop block) part)

-- a slice is the concatenation of its parts before and after an offset
pub between_by : (block : List ℕ) (from middle to : ℕ) → from ≤ middle → middle ≤ to →
    take (to - from) (drop from block) ≡ take (middle - from) (drop from block) ++ take (to - middle)
    (drop middle block)
between_by block from middle to low high =
    let size : to - from ≡ middle - from + (to - middle) = omega arith in
    let at : from + (middle - from) ≡ middle = omega arith in
    ap (λ n. take n (drop from block)) size
    ∙ take-add (middle - from) (to - middle) (drop from block)
    ∙ ap (λ rest. take (middle - from) (drop from block) ++ take (to - middle) rest)
    (drop-drop (middle - from) from block ∙ ap (λ i. drop i block) at)

pub whole_between : (block : List ℕ) (from middle to : ℕ) → from ≤ middle → middle ≤ to →
    AreWholeLines (take (middle - from) (drop from block)) → AreWholeLines (take (to - middle) (drop middle block)) →
    AreWholeLines (take (to - from) (drop from block))
whole_between block from middle to low high p q =
    subst AreWholeLines (sym (between_by block from middle to low high))
    (whole_append (take (middle - from) (drop from block)) (take (to - middle) (drop middle block)) p q)

pub none_between : (has_match : List ℕ → Bool) (block : List ℕ) (from middle to : ℕ) → from ≤ middle → middle ≤ to →
    AreWholeLines (take (middle - from) (drop from block)) →
    NoneMatch has_match (terminated_lines (take (middle - from) (drop from block))) →
    NoneMatch has_match (terminated_lines (take (to - middle) (drop middle block))) →
    NoneMatch has_match (terminated_lines (take (to - from) (drop from block)))
none_between has_match block from middle to low high whole p q =
    let a = take (middle - from) (drop from block) in
    let b = take (to - middle) (drop middle block) in
    subst (λ text. NoneMatch has_match (terminated_lines text)) (sym (between_by block from middle to low high))
    (subst (NoneMatch has_match) (sym (terminated_lines-whole b a whole))
    (All-append (λ line. has_match line ≡ false) (terminated_lines a) (terminated_lines b) p q))

-- the slice from an offset to the end of a newline is a part and the newline
pub line_between : (block : List ℕ) (from at : ℕ) → from ≤ at → drop at block ≡ newline ∷ drop (at + 1) block →
    take (at + 1 - from) (drop from block) ≡ take (at - from) (drop from block) ++ newline ∷ []
line_between block from at low here =
    let one : at + 1 - at ≡ 1 = omega arith in
    between_by block from at (at + 1) low (omega arith)
    ∙ ap (λ n. take (at - from) (drop from block) ++ take n (drop at block)) one
    ∙ ap (λ rest. take (at - from) (drop from block) ++ take 1 rest) here

pub whole_line : (block : List ℕ) (from at : ℕ) → from ≤ at → drop at block ≡ newline ∷ drop (at + 1) block →
    AreWholeLines (take (at + 1 - from) (drop from block))
whole_line block from at low here =
    subst AreWholeLines (sym (line_between block from at low here)) (whole_terminated (take (at - from) (drop from block)))

pub terminated_line : (block : List ℕ) (from at : ℕ) → from ≤ at → HasNoNewline (take (at - from) (drop from block)) →
    drop at block ≡ newline ∷ drop (at + 1) block → terminated_lines (take (at + 1 - from) (drop from block))
    ≡ take (at - from) (drop from block) ∷ []
unfolding terminated_lines
terminated_line block from at low part here =
    ap terminated_lines (line_between block from at low here) ∙ terminated_lines-line (take (at - from) (drop from block)) [] part

-- the rest of a block of whole lines, up to its end, consists of whole lines
pub whole_rest : (block : List ℕ) (from : ℕ) → AreWholeLines (drop from block) →
    AreWholeLines (take (length block - from) (drop from block))
whole_rest block from whole = subst AreWholeLines (sym (take_rest block from)) whole

pub whole_from : (block : List ℕ) (from to : ℕ) → from ≤ to → AreWholeLines (drop from block) → AreWholeLines (drop to block)
whole_from block from to low whole =
    let at : from + (to - from) ≡ to = omega arith in
    subst AreWholeLines (drop-drop (to - from) from block ∙ ap (λ i. drop i block) at) (whole_drop (to - from) (drop from block) whole)

-- whole lines that are not empty contain a newline
pub whole_has_newline : (block : List ℕ) (from : ℕ) → from < length block → AreWholeLines (drop from block) →
    HasNoNewline (drop from block) → ⊥
whole_has_newline block from low whole part = none_of (drop from block) (omega (arith, length-drop from block)) whole part
  where
    none_of : (text : List ℕ) → 0 < length text → AreWholeLines text → HasNoNewline text → ⊥
    none_of [] low whole part = omega arith
    none_of (b ∷ text) low whole part = whole_part b text whole part
