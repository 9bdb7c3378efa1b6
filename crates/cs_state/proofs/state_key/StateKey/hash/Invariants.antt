use Rattle.std.proofs.Common.{◌≡◌, fold, map, take}
use Rattle.std.specs.Int.{from_le_bytes, w64}
use Rattle.cs_state.specs.Sums.{with_word}
use Rattle.cs_state.proofs.state_key.StateKey.hash.Given as goal

-- the words so far are hashed
abbrev pub invariant-words : goal.invariant-words
invariant-words l = l.hash ≡ fold (with_word l.self) l.self.first (map (from_le_bytes w64) (take l.word-index l.words))
