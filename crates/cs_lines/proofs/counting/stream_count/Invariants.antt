use Rattle.std.proofs.Common.{◌≡◌, ◌≤◌, ◌+◌, ◌++◌, true, ℕ, List, length, take}
use Rattle.cs_match.specs.LastPart.{last_part}
use Rattle.cs_match.specs.Lines.{terminated_lines}
use Rattle.cs_match.specs.NoNewline.{HasNoNewline}
use Rattle.cs_tree.specs.StreamModels.{ends}
use Rattle.cs_tree.specs.Transfers.{Consumes, IsAt}
use Rattle.cs_lines.specs.Buffer.{pending_bytes}
use Rattle.cs_lines.specs.Counts.{IsCount}
use Rattle.cs_lines.specs.Findings.{Finding, KeepsSearch, Tests, has_stopped}
use Rattle.cs_lines.specs.Shown.{wanted_of}
use Rattle.cs_lines.specs.Work.{Takes, line_weight}
use Rattle.cs_lines.proofs.WorkLemmas.{done_work}
use Rattle.cs_lines.proofs.counting.stream_count.Given as goal

-- `read` was read, and `counted` are the lines that were counted
abbrev pub invariant-pieces : goal.invariant-pieces
invariant-pieces g l = record {
  read : List ℕ;
  counted : List (List ℕ);
  consumed : Consumes (g.R.Source.model l.fn.input) (g.R.Source.model l.input) read;
  size : length read + l.buffer.left ≡ l.fn.buffer.left;
  ended : l.buffer.ended ≡ true → IsAt ends (g.R.Source.model l.input);
  within : l.scanned ≤ length (pending_bytes l.buffer);
  part : HasNoNewline (take l.scanned (pending_bytes l.buffer));
  room : l.count + length (pending_bytes l.buffer) + l.buffer.left ≤ length (pending_bytes l.fn.buffer) + l.fn.buffer.left;
  lines : terminated_lines (pending_bytes l.fn.buffer ++ read) ≡ counted ++ terminated_lines (pending_bytes l.buffer);
  last : last_part (pending_bytes l.fn.buffer ++ read) ≡ last_part (pending_bytes l.buffer);
  count : (finding : Finding) → Tests finding.has_match l.fn.search → IsCount l.most l.count (wanted_of l.options finding counted);
  failed : g.R.Source.failed l.input ≡ g.R.Source.failed l.fn.input;
  same : KeepsSearch l.fn.search l.search;
  budget : has_stopped l.search ≡ has_stopped l.fn.search;
  work : Takes (done_work (line_weight l.fn.search) (length (pending_bytes l.fn.buffer ++ read)) (length read) (length (pending_bytes l.buffer)) l.scanned) l.fn.search l.search;
  fewer : length (pending_bytes l.buffer) ≤ length (pending_bytes l.fn.buffer ++ read);
  keeps : g.R.Source.Keeps l.fn.input l.input;
}

abbrev pub decreases-pieces : goal.decreases-pieces
decreases-pieces g l = l.buffer.left
