use Rattle.std.proofs.Common.{◌+◌, length, arith}
use Rattle.cs_match.proofs.SpanLemmas.{match_from}
use Rattle.cs_match.proofs.SpanWorkLemmas.{search_one, search_two, search_all}
use Rattle.cs_match.proofs.spans.pass.Pass.find.Goals as goal

pub returns-in-Some-clause-found : goal.returns-in-Some-clause-found
returns-in-Some-clause-found c =
    let whole = c.args.wanted.whole in
    let t = c.args.program.now in
    let s = c.args.line.now in
    let since = c.in_ok-first.first.since in
    record {
      is = match_from whole t s since c.args.wanted.least c.args.wanted.from since c.in-Some.end c.in_ok-first.ensures.after
          c.in-Some.ensures.ends;
      leftmost = c.in_ok-first.ensures.none;
      longest = λ j m. c.in-Some.ensures.last j (match_from whole t s c.args.wanted.from c.args.wanted.least since since j (omega arith) m);
    }

pub returns-clause-found : goal.returns-clause-found
returns-clause-found c =
    let whole = c.args.wanted.whole in
    let t = c.args.program.now in
    let s = c.args.line.now in
    let from = c.args.wanted.from in
    let least = c.args.wanted.least in
    let since = c.in_ok-first.first.since in
    let start = c.first_start-start.result in
    let lowest = c.first_start-start.ensures.least in
    let some = c.first_start-start.ensures.some in
    let after = c.in_ok-first.ensures.after in
    record {
      is = match_from whole t s start least from start c.in_ok-end.end (omega (arith, after, some.1.begins)) c.in_ok-end.ensures.ends;
      leftmost = λ i j m.
          let high = c.in_ok-first.ensures.none i j m in
          let higher = c.in-None.ensures.ends i j (match_from whole t s from least since i j high m) in
          lowest i j (match_from whole t s from least (since + 1) i j higher m);
      longest = λ j m. c.in_ok-end.ensures.last j (match_from whole t s from least start start j (omega arith) m);
    }

pub returns-then-is_short_word-clause-read : goal.returns-then-is_short_word-clause-read
returns-then-is_short_word-clause-read c = λ k few.
    search_one c.args.program.now (length c.args.line.now) k _ _ c.args.self.now c.find_word.ensures.read

pub returns-in-Some-clause-read : goal.returns-in-Some-clause-read
returns-in-Some-clause-read c = λ k few.
    search_two c.args.program.now (length c.args.line.now) k _ _ _ c.in_ok-first.ensures.read c.in-Some.ensures.read

-- the match that ends first begins after `since`
pub first_start-start-requires-clause-some : goal.first_start-start-requires-clause-some
first_start-start-requires-clause-some c =
    let whole = c.args.wanted.whole in
    let t = c.args.program.now in
    let s = c.args.line.now in
    let from = c.args.wanted.from in
    let least = c.args.wanted.least in
    let since = c.in_ok-first.first.since in
    let end = c.in_ok-first.first.end in
    let f = c.in_ok-first.ensures.ends in
    let high = c.in_ok-first.ensures.none f.0 end f.2 in
    let higher = c.in-None.ensures.ends f.0 end (match_from whole t s from least since f.0 end high f.2) in
    (f.0, f.2.ordered, (end, match_from whole t s from least (since + 1) f.0 end higher f.2))

pub returns-in_err-end-clause-read : goal.returns-in_err-end-clause-read
returns-in_err-end-clause-read c = λ k few.
    search_all c.args.program.now (length c.args.line.now) k _ _ _ _ _ c.in_ok-first.ensures.read c.in-None.ensures.read
    (c.first_start-start.ensures.read k (omega (arith, few, c.in_ok-first.ensures.ends.2.within))) c.in_err-end.ensures.read

pub returns-clause-read : goal.returns-clause-read
returns-clause-read c = λ k few.
    search_all c.args.program.now (length c.args.line.now) k _ _ _ _ _ c.in_ok-first.ensures.read c.in-None.ensures.read
    (c.first_start-start.ensures.read k (omega (arith, few, c.in_ok-first.ensures.ends.2.within))) c.in_ok-end.ensures.read
