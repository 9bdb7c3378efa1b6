-- The ends of the lines with a word of an exact prefilter are those of the matching lines.
use Rattle.std.proofs.Common.{◌≡◌, cond, ℕ, zero, suc, ◌+◌, ◌-◌, ◌*◌, ◌<◌, ◌≤◌, inl, inr, Bool, true, false, ◌&&◌, nat_eq, List, [], ◌∷◌, ◌++◌, length, take, drop, get_or, refl, sym, ap, ap₂, subst, ◌∙◌, arith, append-nil, length-take, length-drop, drop-drop}
use Rattle.std.specs.List.{filter, range_with_len}
use Rattle.std.proofs.lemmas.Bool.{cases_lt, cases_eq, eqb-true, eq-eqb, false≢true}
use Rattle.std.proofs.lemmas.List.{get_or-drop, get_or-take, get_or_past, length-take-le, take-take, drop-take, take_rest}
use Rattle.std.proofs.lemmas.List.Elements.{All-nil}
use Rattle.std.proofs.lemmas.List.Sums.{count_by-le-length}
use Rattle.cs_syntax.specs.Matching.{Tree, member}
use Rattle.cs_prefilter.specs.declared.word.Word.{Word}
use Rattle.cs_prefilter.specs.declared.listing.Listed.{Listed}
use Rattle.cs_prefilter.specs.WordAt.{IsLine, MayBeAt, WordAt, IsInLine, IsSufficient, IsPrefilterOf, with_newline}
use Rattle.cs_prefilter.specs.Listed.{EndsLineWithWord, TellsEnds, IsLineStart, IsListFrom}
use Rattle.cs_prefilter.proofs.EdgeLemmas.{one_more, byte_in, byte_end}
use Rattle.cs_match.specs.Deciding.{Decides}
use Rattle.cs_match.specs.LastPart.{last_part}
use Rattle.cs_match.specs.Lanes.{AreListed}
use Rattle.cs_match.specs.Lines.{newline, terminated_lines}
use Rattle.cs_match.specs.NoNewline.{HasNoNewline}
use Rattle.cs_match.specs.Skipped.{AreLinesBetween}
use Rattle.cs_match.specs.Skipping.{AreWholeLines, IsLineAfter, NoneMatch}
use Rattle.cs_match.specs.MatchingEnds.{is_matching_end, matching_ends}
use Rattle.cs_match.proofs.CandidateLemmas.{line_around}
use Rattle.cs_match.proofs.DecidabilityLemmas.{matching_is_decidable}
use Rattle.cs_match.proofs.LinesLemmas.{HasNoNewline-searched, length-terminated_lines, terminated_lines-part}
use Rattle.cs_match.proofs.ListingLemmas.{both, no_ends, line_alone}
use Rattle.cs_match.proofs.MatchingEndLemmas.{ends-append, length-matching_ends}
use Rattle.cs_match.proofs.PositionCountLemmas.{mul_both}
use Rattle.cs_match.proofs.SkippedLineLemmas.{AreBytes, bytes_drop, words_placed, whole_to, whole_none}
use Rattle.cs_match.proofs.WholeLineLemmas.{rest_is_last, whole_from, whole_has_newline}

-- where the line begins that an offset is in
pub record LineStart (text : List ℕ) (end : ℕ) : Type 0 where
  pub start : ℕ
  pub low : start ≤ end
  pub before : 0 < start → get_or text (start - 1) 0 ≡ newline
  pub in_line : (k : ℕ) → start ≤ k → k < end → get_or text k 0 ≡ newline → ⊥

line_start : (text : List ℕ) (end : ℕ) → LineStart text end
line_start text zero = record {
  start = 0;
  low = omega arith;
  before = λ some. absurd (omega (arith, some));
  in_line = λ k low high. absurd (omega (arith, high));
}
line_start text (suc n) = elim (cases_eq (get_or text n 0) newline) [
  | inl is ↦ record {
    start = suc n;
    low = omega arith;
    before = λ some.
        let last : suc n - 1 ≡ n = omega arith in
        ap (λ k. get_or text k 0) last ∙ is;
    in_line = λ k low high. absurd (omega (arith, low, high));
  }
  | inr other ↦
      let h = line_start text n in
      record {
        start = h.start;
        low = omega (arith, h.low);
        before = h.before;
        in_line = λ k low high is. elim (cases_eq k n) [
          | inl here ↦ other (ap (λ i. get_or text i 0) (sym here) ∙ is)
          | inr before ↦ h.in_line k low (omega (arith, high, before)) is
        ];
      }
]

module _ (text : List ℕ) (end : ℕ) (within : end < length text) (from : LineStart text end) where
  abbrev line : List ℕ
  line = drop from.start (take end text)

  byte : (k : ℕ) → from.start + k < end → get_or line k 0 ≡ get_or text (from.start + k) 0
  byte k low = get_or-drop from.start (take end text) k 0 ∙ get_or-take end text (from.start + k) 0 low

  long : length line ≡ end - from.start
  long = omega (arith, length-drop from.start (take end text), length-take-le end text (omega (arith, within)))

  whole_before : (n : ℕ) → n ≡ from.start → AreWholeLines (take n (take end text))
  whole_before zero is = whole_none
  whole_before (suc n) is =
      let before : n < end = omega (arith, is, from.low) in
      let same : take (n + 1) (take end text) ≡ take (n + 1) text = take-take (n + 1) end text (omega (arith, before)) in
      let next : suc n ≡ n + 1 = omega arith in
      let back : n ≡ suc n - 1 = omega arith in
      let last : get_or text n 0 ≡ newline = ap (λ k. get_or text k 0) back ∙ ap (λ k. get_or text (k - 1) 0) is ∙ from.before (omega (arith, is)) in
      subst (λ k. AreWholeLines (take k (take end text))) (sym next)
      (subst AreWholeLines (sym same) (whole_to text n (omega (arith, before, within)) (eq-eqb (get_or text n 0) newline last)))

  no_newline : HasNoNewline line
  no_newline = HasNoNewline-searched line (λ k low is.
      from.in_line (from.start + k) (omega arith) (omega (arith, low, long))
      (sym (byte k (omega (arith, low, long))) ∙ eqb-true (get_or line k 0) newline is))

  pub line_is : last_part (take end text) ≡ line
  line_is = sym (rest_is_last (take end text) from.start (whole_before from.start refl) no_newline)

  pub is_line : AreBytes text → IsLine line
  is_line bytes i = elim (cases_lt i (end - from.start)) [
    | inl low ↦
        let same = byte i (omega (arith, low)) in (
          subst (λ b. b < 256) (sym same) (bytes (from.start + i)),
          λ is. from.in_line (from.start + i) (omega arith) (omega (arith, low)) (sym same ∙ is),
        )
    | inr past ↦
        let none : get_or line i 0 ≡ 0 = get_or_past line i 0 (omega (arith, past, long)) in (
          subst (λ b. b < 256) (sym none) (omega arith),
          λ is. absurd (omega (arith, is, none)),
        )
  ]

  -- a byte of the line, or its newline
  byte_to : get_or text end 0 ≡ newline → (k : ℕ) → from.start + k ≤ end → get_or (with_newline line) k 0 ≡ get_or text (from.start + k) 0
  byte_to here k low = elim (cases_lt k (end - from.start)) [
    | inl inside ↦ byte_in line k (omega (arith, inside, long)) ∙ byte k (omega (arith, inside))
    | inr past ↦
        let there : from.start + k ≡ end = omega (arith, past, low, from.low) in
        byte_end line k (omega (arith, there, long)) ∙ sym here ∙ ap (λ n. get_or text n 0) (sym there)
  ]

  -- a word in the line, and one that begins in it
  pub to_text : get_or text end 0 ≡ newline → (word : Word) (k : ℕ) → WordAt (with_newline line) k word → WordAt text (from.start + k) word
  to_text here word k occurs = record {
    before = before k occurs.before (omega (arith, occurs.within, one_more line, long, from.low));
    within = omega (arith, occurs.within, one_more line, long, within, from.low);
    each = λ i d low.
        let there : from.start + (k + i) ≡ from.start + k + i = omega arith in
        ap (member (get_or word.sets.items i d))
        (sym (byte_to here (k + i) (omega (arith, low, occurs.within, one_more line, long, from.low)) ∙ ap (λ n. get_or text n 0) there))
        ∙ occurs.each i d low;
  }
    where
      before : (n : ℕ) → MayBeAt (with_newline line) n word → from.start + n ≤ end + 1 → MayBeAt text (from.start + n) word
      before zero free low some =
          let back : from.start + 0 - 1 ≡ from.start - 1 = omega arith in
          ap (λ j. member word.before (get_or text j 0)) back ∙ ap (member word.before) (from.before (omega (arith, some))) ∙ word.begins
      before (suc n) free low some =
          let back : from.start + suc n - 1 ≡ from.start + n = omega arith in
          let last : suc n - 1 ≡ n = omega arith in
          ap (λ j. member word.before (get_or text j 0)) back
          ∙ ap (member word.before) (sym (byte_to here n (omega (arith, low))))
          ∙ ap (λ j. member word.before (get_or (with_newline line) j 0)) (sym last) ∙ free (omega arith)

  -- a word that begins in the line or at its newline, and has the newline as its last byte at most, is one of the line
  pub in_text : get_or text end 0 ≡ newline → (word : Word) → IsInLine word → (at : ℕ) → from.start ≤ at → at ≤ end →
      WordAt text at word → WordAt (with_newline line) (at - from.start) word
  in_text here word in_line at low high occurs =
      let there : (i : ℕ) → from.start + (at - from.start + i) ≡ at + i = λ i. omega (arith, low) in
      let fits = word_fits here word in_line at high occurs in
      record {
        before = λ some.
            let back : from.start + (at - from.start - 1) ≡ at - 1 = omega (arith, some) in
            ap (member word.before) (byte_to here (at - from.start - 1) (omega (arith, some, high)) ∙ ap (λ n. get_or text n 0) back)
            ∙ occurs.before (omega (arith, some));
        within = omega (arith, long, one_more line, fits, low, high);
        each = λ i d below.
            ap (member (get_or word.sets.items i d))
            (byte_to here (at - from.start + i) (omega (arith, there i, fits, below)) ∙ ap (λ n. get_or text n 0) (there i))
            ∙ occurs.each i d below;
      }
    where
      word_fits : get_or text end 0 ≡ newline → (word : Word) → IsInLine word → (at : ℕ) → at ≤ end → WordAt text at word →
          at + length word.sets.items ≤ end + 1
      word_fits here word in_line at high occurs = elim (cases_lt (end + 1) (at + length word.sets.items)) [
        | inr fine ↦ omega arith
        | inl past ↦
            let i = end - at in
            let there : at + i ≡ end = omega arith in
            let is : get_or text (at + i) 0 ≡ newline = ap (λ n. get_or text n 0) there ∙ here in
            let below : i + 1 < length word.sets.items = omega arith in
            absurd (false≢true (sym (in_line i [] below) ∙ ap (member (get_or word.sets.items i [])) (sym is)
            ∙ occurs.each i [] (omega (arith, below))))
      ]

-- the lines with a word of an exact prefilter are the matching lines
module _ (tree : Tree) (prefilter : List Word × Bool) (is : IsPrefilterOf tree prefilter) (exact : prefilter.1 ≡ true)
    (has_match : List ℕ → Bool) (decides : Decides has_match tree) (block : List ℕ) (bytes : AreBytes block) (from : ℕ) where
  abbrev text : List ℕ
  text = drop from block

  abbrev words : List Word
  words = prefilter.0

  line_of : (end : ℕ) → take (from + end - from) text ≡ take end text
  line_of end =
      let size : from + end - from ≡ end = omega arith in
      ap (λ n. take n text) size

  has_word : (end : ℕ) → is_matching_end has_match block from (from + end) ≡ true → EndsLineWithWord words text end
  has_word end passes =
      let flags = both (nat_eq (get_or block (from + end) 0) newline) (has_match (last_part (take (from + end - from) text))) passes in
      let here : get_or text end 0 ≡ newline = get_or-drop from block end 0 ∙ eqb-true (get_or block (from + end) 0) newline flags.0 in
      let within : end < length text = elim (cases_lt end (length text)) [
        | inl low ↦ low
        | inr past ↦ let no : ⊥ = omega (arith, here, get_or_past text end 0 past) in absurd no
      ] in
      let start = line_start text end in
      let same : last_part (take (from + end - from) text) ≡ drop start.start (take end text) = ap last_part (line_of end) ∙ line_is text end within start in
      let line = drop start.start (take end text) in
      let word = is.required line (is_line text end within start (bytes_drop from block bytes)) ((decides line).0 (ap has_match (sym same) ∙ flags.1)) in
      let size = one_more line in
      let inside = (words_placed words).inside (with_newline line) word.0 (omega (arith, size)) word.1 in
      let found = inside.2 in
      let low : start.start + inside.0 ≤ end = omega (arith, inside.1, size, long text end within start, start.low) in
      record {
        here = here;
        at = start.start + inside.0;
        low = low;
        in_line = λ k high before. start.in_line k (omega (arith, high)) before;
        occurs = (found.0, found.1, found.2, found.3, to_text text end within start here found.1 inside.0 found.4);
      }

  is_match : (end : ℕ) → EndsLineWithWord words text end → is_matching_end has_match block from (from + end) ≡ true
  is_match end e =
      let within : end < length text = elim (cases_lt end (length text)) [
        | inl low ↦ low
        | inr past ↦ let no : ⊥ = omega (arith, e.here, get_or_past text end 0 past) in absurd no
      ] in
      let start = line_start text end in
      let low : start.start ≤ e.at = elim (cases_lt e.at start.start) [
        | inr fine ↦ fine
        | inl after ↦ absurd (e.in_line (start.start - 1) (omega (arith, after)) (omega (arith, after, start.low)) (start.before (omega (arith, after))))
      ] in
      let line = drop start.start (take end text) in
      let found = e.occurs in
      let sufficient : IsSufficient tree found.1 = subst (IsSufficient tree) found.3 (is.sufficient exact found.0 found.1 found.2) in
      let same : last_part (take (from + end - from) text) ≡ line = ap last_part (line_of end) ∙ line_is text end within start in
      let matches = (decides line).1 (sufficient.found line (e.at - start.start) (is_line text end within start (bytes_drop from block bytes))
      (in_text text end within start e.here found.1 sufficient.in_line e.at low e.low found.4)) in
      ap₂ (λ (b : ℕ) (l : List ℕ). nat_eq b newline && has_match l) (sym (get_or-drop from block end 0) ∙ e.here) same ∙ matches

  pub tells_ends : TellsEnds words text from (is_matching_end has_match block from)
  tells_ends end = (has_word end, is_match end)

-- the list of a prefilter, up to the start of a line behind which no line ends before the offset
module _ (tree : Tree) (prefilter : List Word × Bool) (is : IsPrefilterOf tree prefilter) (exact : prefilter.1 ≡ true)
    (block : List ℕ) (bytes : AreBytes block) (from : ℕ) (within : from ≤ length block) (listed : Listed) (ends : List ℕ) (low : from ≤ listed.to)
    (list : IsListFrom prefilter.0 block from listed ends) where
  pub list_high : listed.to ≤ length block
  list_high = omega (arith, list.high, length-drop from block, within, low)

  module _ (start : ℕ) (lines : AreLinesBetween block from start) (order : start ≤ listed.to)
      (part : HasNoNewline (take (listed.to - start) (drop start block))) where
    ends_to : (has_match : List ℕ → Bool) → Decides has_match tree → take listed.count ends ≡ matching_ends has_match block from start
    unfolding matching_ends
    ends_to has_match decides =
        let rest = take (listed.to - start) (drop start block) in
        let none : NoneMatch has_match (terminated_lines rest) =
        subst (NoneMatch has_match) (sym (terminated_lines-part rest part)) (All-nil (λ line. has_match line ≡ false)) in
        list.listed (is_matching_end has_match block from) (tells_ends tree prefilter is exact has_match decides block bytes from)
        ∙ ends-append has_match block from start listed.to lines.low order lines.whole
        ∙ ap (λ xs. matching_ends has_match block from start ++ xs) (no_ends has_match block start listed.to order list_high none)
        ∙ append-nil (matching_ends has_match block from start)

    pub list_lines : AreListed (λ has_match. Decides has_match tree) block from start listed.count ends
    list_lines =
        let decided = matching_is_decidable tree in
        let text = take (start - from) (drop from block) in
        record {
          lines = lines;
          few = omega (
            arith,
            length-take-le listed.count ends list.room,
            ap (λ (xs : List ℕ). length xs) (ends_to decided.0 decided.1),
            length-matching_ends decided.0 block from start lines.low lines.high,
            count_by-le-length decided.0 (terminated_lines text),
            length-terminated_lines text,
          );
          room = list.room;
          listed = ends_to;
        }

  -- at most one for each byte
  pub list_few : listed.count ≤ listed.to - from
  list_few =
      let decided = matching_is_decidable tree in
      let p = is_matching_end decided.0 block from in
      let ends_is = list.listed p (tells_ends tree prefilter is exact decided.0 decided.1 block bytes from) in
      omega (arith, length-take-le listed.count ends list.room, ap (λ (xs : List ℕ). length xs) ends_is, few p from (listed.to - from))
    where
      few : (p : ℕ → Bool) (a n : ℕ) → length (filter p (range_with_len a n)) ≤ n
      few p a zero = omega arith
      few p a (suc n) = by (p a) (filter p (range_with_len (a + 1) n)) (few p (a + 1) n)
        where
          by : (t : Bool) (xs : List ℕ) → length xs ≤ n → length (cond t (a ∷ xs) xs) ≤ suc n
          by true xs le = omega (arith, le)
          by false xs le = omega (arith, le)

-- the last byte of whole lines is a newline
last_byte : (text : List ℕ) → AreWholeLines text → 0 < length text → get_or text (length text - 1) 0 ≡ newline
unfolding AreWholeLines
last_byte [] whole some = let no : ⊥ = omega (arith, some) in absurd no
last_byte (b ∷ []) whole some = whole
last_byte (b ∷ c ∷ text) whole some =
    let next : length (b ∷ c ∷ text) - 1 ≡ suc (length (c ∷ text) - 1) = omega arith in
    ap (λ n. get_or (b ∷ c ∷ text) n 0) next ∙ last_byte (c ∷ text) whole (omega arith)

pub whole_ends : (block : List ℕ) (from : ℕ) → AreWholeLines (drop from block) → IsLineStart block from (length block)
whole_ends block from whole some =
    let text = drop from block in
    let size = length-drop from block in
    let there : from + (length text - 1) ≡ length block - 1 = omega (arith, size, some) in
    ap (λ n. get_or block n 0) (sym there) ∙ sym (get_or-drop from block (length text - 1) 0) ∙ last_byte text whole (omega (arith, size, some))

-- a listed end lies in the lines that are listed
below : (p : ℕ → Bool) (a n i : ℕ) → i < length (filter p (range_with_len a n)) → get_or (filter p (range_with_len a n)) i 0 < a + n
below p a zero i low = let no : ⊥ = omega (arith, low) in absurd no
below p a (suc n) i low = by (p a) (filter p (range_with_len (a + 1) n)) (below p (a + 1) n) i low
  where
    by : (t : Bool) (xs : List ℕ) → ((i : ℕ) → i < length xs → get_or xs i 0 < a + 1 + n) → (i : ℕ) →
        i < length (cond t (a ∷ xs) xs) → get_or (cond t (a ∷ xs) xs) i 0 < a + suc n
    by true xs rest zero low = omega arith
    by true xs rest (suc i) low = omega (arith, rest i (omega (arith, low)))
    by false xs rest i low = omega (arith, rest i low)

pub end_below : (tree : Tree) (block : List ℕ) (from to count : ℕ) (ends : List ℕ) →
    AreListed (λ has_match. Decides has_match tree) block from to count ends → 0 < count → get_or ends (count - 1) 0 < to
unfolding matching_ends
end_below tree block from to count ends l some =
    let decided = matching_is_decidable tree in
    let is = l.listed decided.0 decided.1 in
    let here : get_or (take count ends) (count - 1) 0 ≡ get_or ends (count - 1) 0 = get_or-take count ends (count - 1) 0 (omega (arith, some)) in
    let size = length-take-le count ends l.room in
    let p = is_matching_end decided.0 block from in
    let low : count - 1 < length (filter p (range_with_len from (to - from))) = omega (arith, size, ap (λ (xs : List ℕ). length xs) is, some) in
    omega (arith, here, ap (λ (xs : List ℕ). get_or xs (count - 1) 0) is, below p from (to - from) (count - 1) low, l.lines.low)

-- the start of the line that an offset is in, by the whole lines before it
module _ (block : List ℕ) (from to size : ℕ) (low : from ≤ to) (high : to ≤ length block)
    (within : size ≤ length (take (to - from) (drop from block))) (whole : AreWholeLines (take size (take (to - from) (drop from block))))
    (part : HasNoNewline (drop size (take (to - from) (drop from block)))) where
  abbrev start : ℕ
  start = from + size

  pub open_low : start ≤ to
  open_low = omega (arith, within, length-take (to - from) (drop from block), low)

  pub open_lines : AreLinesBetween block from start
  open_lines =
      let small : size ≤ to - from = omega (arith, open_low) in
      let same : size ≡ start - from = omega arith in
      record {
        low = omega arith;
        high = omega (arith, open_low, high);
        whole = subst AreWholeLines (take-take size (to - from) (drop from block) small ∙ ap (λ n. take n (drop from block)) same) whole;
      }

  pub open_part : HasNoNewline (take (to - start) (drop start block))
  open_part =
      let split : to - from ≡ size + (to - start) = omega (arith, open_low) in
      subst HasNoNewline (ap (λ n. drop size (take n (drop from block))) split ∙ drop-take size (to - start) (drop from block)
      ∙ ap (take (to - start)) (drop-drop size from block)) part

  pub open_within : AreWholeLines (drop from block) → start < to → to < length block
  open_within lines some = elim (cases_lt to (length block)) [
    | inl before ↦ before
    | inr past ↦
        let all : to - start ≡ length block - start = omega (arith, past, high) in
        absurd (whole_has_newline block start (omega (arith, some, high)) (whole_from block from start (omega arith) lines)
        (subst HasNoNewline (ap (λ n. take n (drop start block)) all ∙ take_rest block start) open_part))
  ]

  pub open_line : (tree : Tree) (end : ℕ) → to ≤ end → end < length block → HasNoNewline (take (end - to) (drop to block)) →
      drop end block ≡ newline ∷ drop (end + 1) block → IsLineAfter block start start end
  open_line tree end order last after here =
      let there : to ≡ from + (to - from) = omega (arith, low) in
      line_alone tree block from start end (line_around block from (to - from) size end within whole part (omega (arith, order, low)) last
      (subst (λ n. HasNoNewline (take (end - n) (drop n block))) there after) here)

-- the work of a list by words that is completed, and of its last line
pub line_cost : (from start to end w : ℕ) → from ≤ start → start ≤ to → to ≤ end →
    to - start + 1 + (end + 1 - to) + w * (end + 1 - start) ≤ (w + 2) * (end + 1 - from)
line_cost from start to end w low order high =
    let b = end + 1 - from in
    let spread : (w + 2) * b ≡ w * b + 2 * b = omega arith in
    omega (arith, mul_both w (end + 1 - start) w b (omega arith) (omega (arith, low)), spread, low, order, high)

pub words_cost : (some bytes count w : ℕ) → 0 < some → some ≤ bytes → count ≤ some →
    some * 2114 + (count + 1) * 128 + (w + 2) * bytes ≤ bytes * (w + 2 * 2113)
words_cost some bytes count w moves within few =
    let spread : (w + 2) * bytes ≡ w * bytes + 2 * bytes = omega arith in
    let all : bytes * (w + 2 * 2113) ≡ w * bytes + 2 * 2113 * bytes = omega arith in
    omega (arith, spread, all, moves, within, few)
