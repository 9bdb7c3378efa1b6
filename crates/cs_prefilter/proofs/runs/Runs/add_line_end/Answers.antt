use Rattle.std.proofs.Common.{sym, ap, ◌∙◌, arith}
use Rattle.cs_syntax.specs.Matching.{member, line_end, MatchesSpan}
use Rattle.cs_prefilter.proofs.RunLemmas.{follow_same_run}
use Rattle.cs_prefilter.proofs.EdgeLemmas.{byte_end}
use Rattle.cs_prefilter.proofs.SpanLemmas.{on_ok_both}
use Rattle.cs_prefilter.proofs.runs.Runs.add_line_end.Goals as goal

pub returns : goal.returns
returns c = on_ok_both c.keep_before.result (λ run best.
    follow_same_run (λ line i j. MatchesSpan line line_end i j) c.args.self.now c.keep_before.new.self
    (λ line i j h. h.0 ∙ sym h.1) run (λ line i j h e has. best line i e
    (ap (member c.newline.result) (byte_end line i h.0) ∙ c.newline.ensures 10 (omega arith)) has))
    c.keep_before.ensures.run c.keep_before.ensures.best
