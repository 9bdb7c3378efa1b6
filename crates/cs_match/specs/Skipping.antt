-- Lines that are skipped because they have no match. docs/PATTERNS.md, "Lines".
use Rattle.std.specs.Prelude.{ℕ, ◌≡◌, ◌≤◌, ◌<◌, ◌+◌, Bool, false, List, [], ◌∷◌, All, drop, length, slice_range}
use Rattle.cs_match.specs.Lines.{newline}
use Rattle.cs_match.specs.NoNewline.{HasNoNewline}

-- the text consists of whole lines: it is empty, or its last byte is a newline
unfoldable pub AreWholeLines : List ℕ → Type 0
AreWholeLines [] = Unit {0}
AreWholeLines (b ∷ []) = b ≡ newline
AreWholeLines (b ∷ c ∷ text) = AreWholeLines (c ∷ text)

-- none of the lines has a match by the test
abbrev pub NoneMatch : (List ℕ → Bool) → List (List ℕ) → Type 0
NoneMatch has_match lines = All (λ line. has_match line ≡ false) lines

-- a line of the block lies between the offsets `start` and `end`, and whole lines lie between `from` and `start`
pub record IsLineAfter (block : List ℕ) (from start end : ℕ) : Type 0 where
  pub low : from ≤ start
  pub order : start ≤ end
  pub high : end < length block
  pub before : AreWholeLines (slice_range block from start)
  pub part : HasNoNewline (slice_range block start end)
  pub newline : drop end block ≡ newline ∷ drop (end + 1) block
