-- Matching lines, from one to the next.
use Rattle.std.proofs.Common.{◌≡◌, ℕ, suc, ◌+◌, ◌-◌, ◌<◌, ◌≤◌, Bool, true, false, cond, nat_eq, List, [], ◌∷◌, ◌++◌, length, take, drop, set, refl, sym, ap, subst, ◌∙◌, arith, append-nil, append_assoc, length-append, length-drop, count_by, IsTrue}
use Rattle.std.specs.List.{AllByRecursion}
use Rattle.std.proofs.lemmas.List.{drop-drop, drop_all, drop-append-le, take-append-drop, take_rest, length-take-le}
use Rattle.std.proofs.lemmas.List.Elements.{recursion_from_All}
use Rattle.std.proofs.lemmas.List.Sums.{sum_by-cons, sum_by-append}
use Rattle.cs_syntax.specs.Matching.{Tree}
use Rattle.cs_match.specs.Deciding.{Decides}
use Rattle.cs_match.specs.SameLines.{MatchSameLines}
use Rattle.cs_match.specs.Lines.{newline, lines, terminated_lines, with_byte_in_line}
use Rattle.cs_match.specs.LastPart.{last_part, last_line}
use Rattle.cs_match.specs.NoNewline.{HasNoNewline}
use Rattle.cs_match.specs.Skipping.{AreWholeLines, NoneMatch, IsLineAfter}
use Rattle.cs_match.proofs.LinesLemmas.{lines-split, lines-line, lines-last, lines-none, last_part-append}
use Rattle.cs_match.proofs.WholeLineLemmas.{terminated_lines-whole, whole_is_terminated}
use Rattle.codesearch_c.specs.declared.lines.LineBounds.{LineBounds}
use Rattle.codesearch_c.specs.Copies.{filled_with}
use Rattle.codesearch_c.specs.MatchingLines.{matching_from, matching_lines, AreListedTo}

-- ---- lines and their lengths

-- the number of bytes of lines with their newlines
abbrev pub size : List (List ℕ) → ℕ
size [] = 0
size (line ∷ lines) = suc (length line) + size lines

size_step : (b : ℕ) (t : Bool) (ls : List (List ℕ)) (n : ℕ) → size ls ≡ suc n →
    size (cond t ([] ∷ ls) (with_byte_in_line b ls)) ≡ suc (suc n)
size_step b true ls n h = omega arith
size_step b false [] n h = cc
size_step b false (l ∷ ls) n h = omega arith

pub size_whole : (xs : List ℕ) → AreWholeLines xs → size (terminated_lines xs) ≡ length xs
unfolding terminated_lines AreWholeLines
size_whole [] w = refl
size_whole (b ∷ []) w = rw w refl
size_whole (b ∷ c ∷ xs) w = size_step b (nat_eq b newline) (terminated_lines (c ∷ xs)) (length xs) (size_whole (c ∷ xs) w)

-- the lines of a text of whole lines followed by another text
pub lines_whole : (xs ys : List ℕ) → AreWholeLines xs → lines (xs ++ ys) ≡ terminated_lines xs ++ lines ys
lines_whole xs ys w =
    let rest : last_part (xs ++ ys) ≡ last_part ys = last_part-append xs ys
    ∙ ap (λ p. last_part (p ++ ys)) ((whole_is_terminated xs).0 w) in
    lines-split (xs ++ ys)
    ∙ ap (λ ls. ls ++ last_line (last_part (xs ++ ys))) (terminated_lines-whole ys xs w)
    ∙ ap (λ p. (terminated_lines xs ++ terminated_lines ys) ++ last_line p) rest
    ∙ append_assoc (terminated_lines xs) (terminated_lines ys) (last_line (last_part ys))
    ∙ ap (λ ls. terminated_lines xs ++ ls) (sym (lines-split ys))

keeps_if : (b : Bool) (x : LineBounds) (xs ys : List LineBounds) → cond b (x ∷ (xs ++ ys)) (xs ++ ys) ≡ cond b (x ∷ xs) xs ++ ys
keeps_if true x xs ys = refl
keeps_if false x xs ys = refl

module _ (t : List ℕ → Bool) where
  pub matching-append : (start : ℕ) (ls more : List (List ℕ)) → matching_from t start (ls ++ more)
      ≡ matching_from t start ls ++ matching_from t (start + size ls) more
  matching-append start [] more =
      let same : start ≡ start + 0 = omega arith in
      ap (λ n. matching_from t n more) same
  matching-append start (l ∷ ls) more =
      let next : start + length l + 1 + size ls ≡ start + (suc (length l) + size ls) = omega arith in
      let here : LineBounds = record { start = start; end = start + length l } in
      ap (λ rest. cond (t l) (here ∷ rest) rest)
      (matching-append (start + length l + 1) ls more ∙ ap (λ n. matching_from t (start + length l + 1) ls ++ matching_from t n more) next)
      ∙ keeps_if (t l) here (matching_from t (start + length l + 1) ls) (matching_from t (start + (suc (length l) + size ls)) more)

  none_matches : (start : ℕ) (ls : List (List ℕ)) → AllByRecursion (λ line. t line ≡ false) ls → matching_from t start ls ≡ []
  none_matches start [] none = refl
  none_matches start (l ∷ ls) none = rw none.0 (none_matches (start + length l + 1) ls none.1)

  -- whole lines that do not match are skipped
  skipped : (start : ℕ) (xs ys : List ℕ) → AreWholeLines xs → NoneMatch t (terminated_lines xs) →
      matching_from t start (lines (xs ++ ys)) ≡ matching_from t (start + length xs) (lines ys)
  skipped start xs ys w none =
      ap (matching_from t start) (lines_whole xs ys w)
      ∙ matching-append start (terminated_lines xs) (lines ys)
      ∙ ap (λ ls. ls ++ matching_from t (start + size (terminated_lines xs)) (lines ys))
      (none_matches start (terminated_lines xs)
      (recursion_from_All (λ line. t line ≡ false) (terminated_lines xs) none))
      ∙ ap (λ n. matching_from t (start + n) (lines ys)) (size_whole xs w)

  matched : (start end : ℕ) (line : List ℕ) (ls : List (List ℕ)) → start + length line ≡ end → t line ≡ true →
      matching_from t start (line ∷ ls) ≡ record { start = start; end = end } ∷ matching_from t (end + 1) ls
  matched start end line ls e is_found = rw (is_found, e) refl

  module _ (text rest : List ℕ) where
    -- the bytes from an offset on, to a later offset of whole lines
    from_offset : (from start : ℕ) → from ≤ start → start ≤ length text → drop from (text ++ rest)
        ≡ take (start - from) (drop from text) ++ drop start (text ++ rest)
    from_offset from start low high =
        let on : drop (start - from) (drop from text) ≡ drop start text = drop-drop (start - from) from text
        ∙ ap (λ n. drop n text) (omega arith) in
        drop-append-le from text rest (omega arith)
        ∙ ap (λ xs. xs ++ rest) (sym (take-append-drop (start - from) (drop from text))
        ∙ ap (λ xs. take (start - from) (drop from text) ++ xs) on)
        ∙ append_assoc (take (start - from) (drop from text)) (drop start text) rest
        ∙ ap (λ xs. take (start - from) (drop from text) ++ xs) (sym (drop-append-le start text rest high))

    pub next_none_to : (from start : ℕ) → from ≤ start → start ≤ length text →
        AreWholeLines (take (start - from) (drop from text)) →
        NoneMatch t (terminated_lines (take (start - from) (drop from text))) → matching_lines t (text ++ rest) from
        ≡ matching_lines t (text ++ rest) start
    unfolding matching_lines
    next_none_to from start low high w none =
        let size : length (take (start - from) (drop from text)) ≡ start - from =
        length-take-le (start - from) (drop from text) (omega (arith, length-drop from text)) in
        let at : from + length (take (start - from) (drop from text)) ≡ start = omega arith in
        ap (λ xs. matching_from t from (lines xs)) (from_offset from start low high)
        ∙ skipped from (take (start - from) (drop from text)) (drop start (text ++ rest)) w none
        ∙ ap (λ n. matching_from t n (lines (drop start (text ++ rest)))) at

    -- no line matches up to the end of the whole lines
    pub next_none : (from : ℕ) → from ≤ length text → AreWholeLines (drop from text) →
        NoneMatch t (terminated_lines (drop from text)) → matching_lines t (text ++ rest) from
        ≡ matching_lines t (text ++ rest) (length text)
    next_none from within w none =
        let all = take_rest text from in
        next_none_to from (length text) within (omega arith) (subst AreWholeLines (sym all) w)
        (subst (λ xs. NoneMatch t (terminated_lines xs)) (sym all) none)

    -- the line at the offsets is the first that matches
    pub next_match : (from start end : ℕ) → IsLineAfter text from start end →
        NoneMatch t (terminated_lines (take (start - from) (drop from text))) → t (take (end - start) (drop start text))
        ≡ true → matching_lines t (text ++ rest) from ≡ record { start = start; end = end } ∷ matching_lines t
        (text ++ rest) (end + 1)
    unfolding matching_lines
    next_match from start end l none is_found =
        let line = take (end - start) (drop start text) in
        let size : length line ≡ end - start = length-take-le (end - start) (drop start text)
        (omega (arith, l.high, l.order, length-drop start text)) in
        let after : drop end (text ++ rest) ≡ newline ∷ drop (end + 1) (text ++ rest) =
        drop-append-le end text rest (omega (arith, l.high)) ∙ ap (λ xs. xs ++ rest) l.newline
        ∙ ap (λ xs. newline ∷ xs) (sym (drop-append-le (end + 1) text rest (omega (arith, l.high)))) in
        let at : start + length line ≡ end = omega (arith, l.order, size) in
        next_none_to from start l.low (omega (arith, l.order, l.high)) l.before none
        ∙ ap (λ xs. matching_from t start (lines xs)) (from_offset start end l.order (omega (arith, l.high)) ∙ ap (λ xs. line ++ xs) after)
        ∙ ap (matching_from t start) (lines-line line (drop (end + 1) (text ++ rest)) l.part)
        ∙ matched start end line (lines (drop (end + 1) (text ++ rest))) at is_found

  count_matching : (start : ℕ) (ls : List (List ℕ)) → count_by t ls ≡ length (matching_from t start ls)
  count_matching start [] = refl
  count_matching start (l ∷ ls) = sum_by-cons (λ l. cond (t l) 1 0) l ls ∙ one_more _ _ _ (t l) (count_matching (start + length l + 1) ls)
    where
      one_more : (x : LineBounds) (xs : List LineBounds) (n : ℕ) (b : Bool) → n ≡ length xs → cond b 1 0 + n ≡ length (cond b (x ∷ xs) xs)
      one_more x xs n true e = omega (arith, e)
      one_more x xs n false e = omega (arith, e)

  -- ---- a last line without a newline

  lines_of_part : (part : List ℕ) → 0 < length part → HasNoNewline part → lines part ≡ part ∷ []
  lines_of_part [] some p = absurd (omega arith)
  lines_of_part (b ∷ part) some p = lines-last b part p

  module _ (block : List ℕ) where
    pub none_beyond : (from : ℕ) → length block ≤ from → matching_lines t block from ≡ []
    unfolding matching_lines
    none_beyond from high = ap (λ xs. matching_from t from (lines xs)) (drop_all from block high) ∙ ap (matching_from t from) lines-none

    last_line_is : (from : ℕ) → from < length block → HasNoNewline (drop from block) → lines (drop from block) ≡ drop from block ∷ []
    last_line_is from low p = lines_of_part (drop from block) (omega (arith, length-drop from block)) p

    pub last_none : (from : ℕ) → from < length block → HasNoNewline (drop from block) → t (drop from block) ≡ false →
        matching_lines t block from ≡ []
    unfolding matching_lines
    last_none from low p miss = ap (matching_from t from) (last_line_is from low p) ∙ rw miss refl

    pub last_match : (from : ℕ) → from < length block → HasNoNewline (drop from block) → t (drop from block) ≡ true →
        matching_lines t block from ≡ record { start = from; end = length block } ∷ matching_lines t block
        (length block + 1)
    unfolding matching_lines
    last_match from low p is_found =
        let at : from + length (drop from block) ≡ length block = omega (arith, length-drop from block) in
        ap (matching_from t from) (last_line_is from low p)
        ∙ matched from (length block) (drop from block) [] at is_found
        ∙ ap (λ ls. record { start = from; end = length block } ∷ ls) (sym (none_beyond (length block + 1) (omega arith)))

    -- the number of matching lines of a rest
    pub count_is : (from : ℕ) → count_by t (lines (drop from block)) ≡ length (matching_lines t block from)
    unfolding matching_lines
    count_is from = count_matching from (lines (drop from block))

    pub count_split : (whole : ℕ) → AreWholeLines (take whole block) → count_by t (lines block)
        ≡ count_by t (terminated_lines (take whole block)) + count_by t (lines (drop whole block))
    count_split whole w =
        ap (λ xs. count_by t (lines xs)) (sym (take-append-drop whole block))
        ∙ ap (count_by t) (lines_whole (take whole block) (drop whole block) w)
        ∙ sum_by-append (λ l. cond (t l) 1 0) (terminated_lines (take whole block)) (lines (drop whole block))

-- ---- a list in a buffer

module _ {X : Type 0} where
  pub fill_none : (old : List X) → old ≡ filled_with [] old
  fill_none [] = refl
  fill_none (o ∷ old) = refl

  pub fill_one : (items old : List X) (x : X) → set (filled_with items old) (length items) x ≡ filled_with (items ++ x ∷ []) old
  fill_one [] [] x = refl
  fill_one [] (o ∷ old) x = ap (λ ys. x ∷ ys) (fill_none old)
  fill_one (y ∷ items) [] x = refl
  fill_one (y ∷ items) (o ∷ old) x = ap (λ ys. y ∷ ys) (fill_one items old x)

module _ (t : List ℕ → Bool) (block : List ℕ) (old : List LineBounds) where
  pub listed_none : AreListedTo t block old old 0 0
  listed_none = record { found = []; all = refl; number = refl; filled = fill_none old }

  pub listed_next : (new : List LineBounds) (count offset : ℕ) (line : LineBounds) → AreListedTo t block old new count offset →
      matching_lines t block offset ≡ line ∷ matching_lines t block (line.end + 1) →
      AreListedTo t block old (set new count line) (count + 1) (line.end + 1)
  listed_next new count offset line listed next = record {
    found = listed.found ++ line ∷ [];
    all = listed.all ∙ ap (λ ls. listed.found ++ ls) next
        ∙ sym (append_assoc listed.found (line ∷ []) (matching_lines t block (line.end + 1)));
    number = omega (arith, listed.number, length-append listed.found (line ∷ []));
    filled = ap (λ ls. set ls count line) listed.filled ∙ ap (λ n. set (filled_with listed.found old) n line)
        listed.number ∙ fill_one listed.found old line;
  }

  pub listed_on : (new : List LineBounds) (count from to : ℕ) → AreListedTo t block old new count from →
      matching_lines t block from ≡ matching_lines t block to → AreListedTo t block old new count to
  listed_on new count from to listed same = record {
    found = listed.found;
    all = listed.all ∙ ap (λ ls. listed.found ++ ls) same;
    number = listed.number;
    filled = listed.filled;
  }

  pub listed_all : (new : List LineBounds) (count offset : ℕ) → AreListedTo t block old new count offset →
      matching_lines t block offset ≡ [] → (count ≡ length (matching_lines t block 0)) ×
      (new ≡ filled_with (matching_lines t block 0) old)
  listed_all new count offset listed none =
      let all : matching_lines t block 0 ≡ listed.found = listed.all ∙ ap (λ ls. listed.found ++ ls) none ∙ append-nil listed.found in
      (listed.number ∙ ap (λ (ls : List LineBounds). length ls) (sym all), listed.filled ∙ ap (λ ls. filled_with ls old) (sym all))

-- ---- a block of whole lines before an offset

module _ (t : List ℕ → Bool) (block : List ℕ) (whole : ℕ) (within : whole ≤ length block) where
  pub first_match : (from start end : ℕ) → IsLineAfter (take whole block) from start end →
      NoneMatch t (terminated_lines (take (start - from) (drop from (take whole block)))) →
      t (take (end - start) (drop start (take whole block))) ≡ true → matching_lines t block from
      ≡ record { start = start; end = end } ∷ matching_lines t block (end + 1)
  first_match from start end line none is_found =
      subst (λ text. matching_lines t text from ≡ record { start = start; end = end } ∷ matching_lines t text (end + 1))
      (take-append-drop whole block)
      (next_match t (take whole block) (drop whole block) from start end line none is_found)

  pub no_match : (from : ℕ) → from ≤ whole → AreWholeLines (drop from (take whole block)) →
      NoneMatch t (terminated_lines (drop from (take whole block))) → matching_lines t block from
      ≡ matching_lines t block whole
  no_match from low lines none =
      let size : length (take whole block) ≡ whole = length-take-le whole block within in
      subst (λ text. matching_lines t text from ≡ matching_lines t text whole) (take-append-drop whole block)
      (next_none t (take whole block) (drop whole block) from (omega arith) lines none
      ∙ ap (matching_lines t (take whole block ++ drop whole block)) size)

-- a test that is not passed
pub not_passed : (b : Bool) → (IsTrue b → ⊥) → b ≡ false
not_passed true h = absurd (h refl)
not_passed false h = refl

-- a test of a pattern is one of the matcher of its program
pub decides_program : (t : List ℕ → Bool) (matcher program held pattern : Tree) → matcher ≡ program →
    MatchSameLines program held → held ≡ pattern → Decides t pattern → Decides t matcher
decides_program t matcher program held pattern e alike view decides =
    let test = subst (Decides t) (sym view) decides in
    subst (Decides t) (sym e) (λ line. (λ passes. (alike line).1 ((test line).0 passes), λ has. (test line).1 ((alike line).0 has)))
