use Rattle.std.proofs.Common.{◌≡◌, ◌≤◌, ◌<◌, ◌+◌, ◌^◌, ◌++◌, [], ℕ, List, true, false, length, take, drop}
use Rattle.cs_match.specs.LastPart.{last_part}
use Rattle.cs_match.specs.Lines.{terminated_lines}
use Rattle.cs_tree.specs.StreamModels.{ends}
use Rattle.cs_tree.specs.Transfers.{Consumes, IsAt}
use Rattle.cs_lines.specs.Buffer.{pending_bytes}
use Rattle.cs_lines.specs.Findings.{Finding, IsFoundBy, KeepsSearch, has_stopped, StopsBySpans}
use Rattle.cs_tree.specs.SinkOutputs.{Keeps, given}
use Rattle.cs_lines.specs.Scans.{PrintsAlike}
use Rattle.cs_lines.specs.Spacing.{fresh_rows}
use Rattle.cs_lines.specs.Streams.{IsCounted, IsReady}
use Rattle.cs_lines.specs.Work.{Takes, line_weight}
use Rattle.cs_lines.proofs.WorkLemmas.{shown_done}
use Rattle.cs_lines.proofs.stream.stream_lines.Given as goal

-- `read` was read. Its lines were printed, except the pending ones.
abbrev pub invariant-pieces : goal.invariant-pieces
invariant-pieces g l = record {
  read : List ℕ;
  consumed : Consumes (g.R.Source.model l.fn.input) (g.R.Source.model l.input) read;
  size : length read + l.buffer.left ≡ l.fn.buffer.left;
  ended : l.buffer.ended ≡ true → IsAt ends (g.R.Source.model l.input);
  ready : IsReady l.rows (pending_bytes l.buffer) l.held.len l.scanned;
  known : IsCounted l.rows.page.options.now (pending_bytes l.buffer) l.held;
  room : l.rows.number + length (pending_bytes l.buffer) + l.buffer.left < 2 ^ 63;
  last : last_part (pending_bytes l.fn.buffer ++ read) ≡ last_part (drop l.held.len (pending_bytes l.buffer));
  lines : has_stopped l.search ≡ false → (finding : Finding) (later : List (List ℕ)) → IsFoundBy finding l.fn.search →
      PrintsAlike (fresh_rows l.page) l.rows (given l.fn.out) (given l.out) finding [] (terminated_lines (pending_bytes l.fn.buffer ++ read) ++ later)
      (terminated_lines (take l.held.len (pending_bytes l.buffer))) (terminated_lines (drop l.held.len (pending_bytes l.buffer)) ++ later);
  failed : g.R.Source.failed l.input ≡ g.R.Source.failed l.fn.input;
  same : KeepsSearch l.fn.search l.search;
  budget : StopsBySpans l.page.options.now.form l.fn.search l.search;
  page : l.rows.page ≡ l.page;
  fewer : length (pending_bytes l.buffer) ≤ length (pending_bytes l.fn.buffer ++ read);
  work : Takes (shown_done l.page.options.now (line_weight l.fn.search) (length (pending_bytes l.fn.buffer ++ read)) (length read)
      (length (pending_bytes l.buffer)) l.held.len l.scanned) l.fn.search l.search;
  keeps : g.R.Source.Keeps l.fn.input l.input;
  handed : Keeps g.O.Sink.model g.O.Sink.failed l.fn.out l.out;
}

abbrev pub decreases-pieces : goal.decreases-pieces
decreases-pieces g l = l.buffer.left
