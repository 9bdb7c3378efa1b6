use Rattle.std.proofs.Common.{◌≡◌, ℕ, ◌+◌, ◌<◌, false, length, map, get_or}
use Rattle.std.specs.Prelude.{Some}
use Rattle.cs_match.specs.Entered.{if_entered, if_previous, if_kept}
use Rattle.cs_match.proofs.position.Mask.fill.Given as goal

abbrev pub invariant-loop-index : goal.invariant-loop-index
invariant-loop-index l = record {
  cost : l.steps.count ≡ l.fn.steps.count + l.index;
  input : l.self.input ≡ Some l.input;
  entered_room : length l.self.entered ≡ length l.positions;
  previous_room : length l.self.previous ≡ length l.positions;
  kept_room : length l.self.kept ≡ length l.positions;
  entered : (k : ℕ) → k < l.index → get_or l.self.entered k false ≡ get_or (map (if_entered l.input) l.positions) k false;
  previous : (k : ℕ) → k < l.index → get_or l.self.previous k false ≡ get_or (map (if_previous l.input) l.positions) k false;
  kept : (k : ℕ) → k < l.index → get_or l.self.kept k false ≡ get_or (map (if_kept l.input) l.positions) k false;
}
