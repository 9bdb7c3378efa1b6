use Rattle.std.proofs.Common.{ℕ, suc, ◌≤◌, length}
use Rattle.std.proofs.lemmas.Result.{on_ok_weaker}
use Rattle.cs_syntax.specs.Matching.{one_of, MatchesSpan}
use Rattle.cs_prefilter.proofs.RunLemmas.{follow_both, follow_cut}
use Rattle.cs_prefilter.proofs.SpanLemmas.{char_ends}
use Rattle.cs_prefilter.proofs.runs.Runs.add_chars.Goals as goal

pub returns : goal.returns
returns c =
    let ends = c.ends_of-ends.result in
    let first = c.add.new.self in
    let next = c.cut_here.new.self in
    let last = c.add-2.new.self in
    let cut = c.in_ok-cut_here.ensures in
    on_ok_weaker c.add-2.result (λ added.
    follow_both _ (λ line i j. (l : ℕ) × (l ≤ length line) × MatchesSpan line (one_of ends) l j) _ c.args.self.now first last c.in_ok-add.ensures
    (follow_both (λ line i j. j ≤ length line) _ _ first next last
    (follow_cut _ first next cut.sets cut.start cut.anywhere (λ line i j h le. h) (λ line i j run h has. cut.best line i run has))
    added (λ line i j h. h))
    (λ line i j h. let e = char_ends line c.args.set.now ends c.ends_of-ends.ensures i j h in (suc i, e.0, e.1))) c.add-2.ensures
