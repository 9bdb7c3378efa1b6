-- Lines that contain a word of a prefilter.
use Rattle.std.proofs.Common.{◌≡◌, ℕ, ◌+◌, ◌-◌, ◌<◌, ◌≤◌, List, ◌∷◌, length, take, drop, sym, ap, subst, ◌∙◌, arith, length-take, take-take, drop-drop}
use Rattle.std.proofs.lemmas.List.{drop-take, take_rest}
use Rattle.std.specs.Prelude.{All}
use Rattle.cs_syntax.specs.Matching.{Tree}
use Rattle.cs_prefilter.specs.declared.word.Word.{Word}
use Rattle.cs_prefilter.specs.WordAt.{IsLine, HasWord, AreRequired, with_newline}
use Rattle.cs_match.specs.Candidates.{LackWords, IsCandidateLine}
use Rattle.cs_match.specs.Deciding.{Decides}
use Rattle.cs_match.specs.Lines.{newline, terminated_lines}
use Rattle.cs_match.specs.NoNewline.{HasNoNewline}
use Rattle.cs_match.specs.Skipped.{AreSkipped}
use Rattle.cs_match.specs.Skipping.{AreWholeLines, IsLineAfter}
use Rattle.cs_match.proofs.LinesLemmas.{HasNoNewline-append}
use Rattle.cs_match.proofs.SkippedLineLemmas.{AreBytes, are_lines, bytes_take, bytes_drop, none_found}
use Rattle.cs_match.proofs.WholeLineLemmas.{between_by, whole_rest}

-- the lines of a part of the block
lines_between : (block : List ℕ) (from n : ℕ) → AreBytes block → All IsLine (terminated_lines (take n (drop from block)))
lines_between block from n bytes = are_lines (take n (drop from block)) (bytes_take n (drop from block) (bytes_drop from block bytes))

-- no line of the rest has a match, if none contains a word
pub no_candidate : (tree : Tree) (words : List Word) (block : List ℕ) (from : ℕ) → AreBytes block → from ≤ length block →
    AreWholeLines (drop from block) → AreRequired tree words →
    LackWords words (terminated_lines (drop from block)) → AreSkipped (λ has_match. Decides has_match tree) block from (length block)
no_candidate tree words block from bytes within whole required lack = record {
  lines = record { low = within; high = omega arith; whole = whole_rest block from whole };
  none = λ has_match decides.
      none_found tree (λ line. HasWord words (with_newline line)) has_match (terminated_lines (take (length block - from) (drop from block))) required decides
      (lines_between block from (length block - from) bytes)
      (subst (λ (text : List ℕ). LackWords words (terminated_lines text)) (sym (take_rest block from)) lack);
}

-- no line before the first one with a word has a match
pub before_candidate : (tree : Tree) (words : List Word) (block : List ℕ) (from start end : ℕ) → AreBytes block → AreRequired tree words →
    IsCandidateLine words block from start end →
    AreSkipped (λ has_match. Decides has_match tree) block from start
before_candidate tree words block from start end bytes required e = record {
  lines = record { low = e.line.low; high = omega (arith, e.line.order, e.line.high); whole = e.line.before };
  none = λ has_match decides. none_found tree (λ line. HasWord words (with_newline line)) has_match
      (terminated_lines (take (start - from) (drop from block))) required decides (lines_between block from (start - from) bytes) e.lack;
}

module _ (block : List ℕ) (from offset size end : ℕ) where
  abbrev rest : List ℕ
  rest = drop from block

  abbrev start : ℕ
  start = from + size

  -- the line around an offset, from the whole lines before it and the newline after it
  pub line_around : size ≤ length (take offset rest) → AreWholeLines (take size (take offset rest)) →
      HasNoNewline (drop size (take offset rest)) →
      from + offset ≤ end → end < length block →
      HasNoNewline (take (end - (from + offset)) (drop (from + offset) block)) → drop end block
      ≡ newline ∷ drop (end + 1) block →
      IsLineAfter block from start end
  line_around within whole part order last after here = record {
    low = omega arith;
    order = omega (arith, small);
    high = last;
    before = subst AreWholeLines (take-take size offset rest small ∙ ap (λ n. take n rest) (omega arith)) whole;
    part =
        subst HasNoNewline (sym (between_by block start (from + offset) end (omega (arith, small)) order))
        (HasNoNewline-append (take (from + offset - start) (drop start block))
        (take (end - (from + offset)) (drop (from + offset) block)) (subst HasNoNewline open_is part) after);
    newline = here;
  }
    where
      small : size ≤ offset
      small = omega (arith, within, length-take offset rest)

      open_is : drop size (take offset rest) ≡ take (from + offset - start) (drop start block)
      open_is =
          let whole_size : offset ≡ size + (offset - size) = omega (arith, small) in
          let left : offset - size ≡ from + offset - start = omega (arith, small) in
          ap (λ n. drop size (take n rest)) whole_size
          ∙ drop-take size (offset - size) rest
          ∙ ap (take (offset - size)) (drop-drop size from block)
          ∙ ap (λ n. take n (drop start block)) left
