use Rattle.std.proofs.Common.{◌≡◌, ℕ, ◌+◌, ◌<◌, ◌≤◌, length, get_or}
use Rattle.cs_match.proofs.BitwiseLemmas.{carry, shifted}
use Rattle.cs_match.proofs.MoveLemmas.{moved_word}
use Rattle.cs_match.proofs.position_set.PositionSet.move_over.Given as goal

abbrev pub invariant-loop-index : goal.invariant-loop-index
invariant-loop-index l =
    let old = l.initial.self-inside.words.items in
    let entries = l.entries-inside.words.items in
    record {
      cost : l.steps.count ≡ l.fn.steps.count + l.index;
      position_count : l.self-inside.count ≡ l.initial.self-inside.count;
      as_many : length l.self-inside.words.items ≡ length old;
      carries : l.carried ≡ carry entries l.index;
      done : (k : ℕ) → k < l.index → get_or l.self-inside.words.items k 0
          ≡ moved_word (get_or entries k 0) (get_or l.entered-inside.words.items k 0) (shifted entries k)
          (get_or l.previous-inside.words.items k 0) (get_or old k 0) (get_or l.kept-inside.words.items k 0);
      pending : (k : ℕ) → l.index ≤ k → get_or l.self-inside.words.items k 0 ≡ get_or old k 0;
    }
