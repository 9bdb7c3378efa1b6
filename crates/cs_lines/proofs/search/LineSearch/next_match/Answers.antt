use Rattle.std.proofs.Common.{◌≡◌, ◌≤◌, ◌+◌, ◌-◌, ℕ, Bool, false, List, [], length, take, drop, refl, sym, subst, ◌∙◌, arith}
use Rattle.std.proofs.lemmas.Bool.{false≢true}
use Rattle.std.proofs.lemmas.List.Elements.{All-nil, All-cons, All-append}
use Rattle.cs_syntax.specs.Matching.{HasMatch}
use Rattle.cs_match.specs.Automaton.{Automaton}
use Rattle.cs_match.specs.Decidability.{MatchingIsDecidable}
use Rattle.cs_match.specs.Deciding.{Decides}
use Rattle.cs_match.specs.Lines.{terminated_lines}
use Rattle.cs_match.specs.Skipping.{AreWholeLines, NoneMatch}
use Rattle.cs_match.proofs.SkippedLineLemmas.{whole_none}
use Rattle.cs_match.proofs.WholeLineLemmas.{whole_from, whole_line, whole_between, none_between, terminated_line}
use Rattle.cs_match.specs.Work.{WorksWithin}
use Rattle.cs_lines.specs.Findings.{KeepsSearch, Tests}
use Rattle.cs_lines.specs.Work.{line_weight, search_work}
use Rattle.cs_lines.specs.declared.search.LineSearch.{LineSearch}
use Rattle.cs_lines.proofs.BlockLemmas.{lines_from}
use Rattle.cs_lines.proofs.FindingLemmas.{keeps_again, keeps_itself, matches_same, missed, none_match, tests_same}
use Rattle.cs_lines.proofs.WorkLemmas.{matched_then, works_any}
use Rattle.cs_lines.proofs.search.LineSearch.next_match.Goals as goal

none_of : (test : List ℕ → Bool) → NoneMatch test (terminated_lines [])
unfolding terminated_lines
none_of test = All-nil (λ line. test line ≡ false)

pub lines-init : goal.lines-init
lines-init c =
    let rest = drop c.args.from c.args.block.now in
    let e : 0 ≡ c.args.from - c.args.from = omega arith in
    record {
      low = omega arith;
      high = c.requires.within;
      whole = c.requires.whole;
      before = subst (λ n. AreWholeLines (take n rest)) e whole_none;
      none = λ test tests. subst (λ n. NoneMatch test (terminated_lines (take n rest))) e (none_of test);
      same = keeps_itself c.args.self.now;
      budget = refl;
      work = works_any (search_work (line_weight c.args.self.now) (c.args.from - c.args.from)) c.args.self.now.matcher;
    }

-- the search after its matcher has searched
abbrev with_matcher : LineSearch → Automaton → LineSearch
with_matcher cur matcher = record cur { matcher = matcher }

same_match : (self cur : LineSearch) (matcher : Automaton) → KeepsSearch self cur → matcher.tree ≡ cur.matcher.tree → KeepsSearch self (with_matcher cur matcher)
same_match self cur matcher kept same = keeps_again self cur (with_matcher cur matcher) kept (same, refl, refl, λ none. none)

-- no line before the next one with a match matches
none_before : (self cur : LineSearch) (block : List ℕ) (from start at : ℕ) (test : List ℕ → Bool) → from ≤ start → start ≤ at →
    AreWholeLines (take (start - from) (drop from block)) → NoneMatch test (terminated_lines (take (start - from) (drop from block))) →
    KeepsSearch self cur → Tests test self → MatchingIsDecidable →
    ((has_match : List ℕ → Bool) → Decides has_match cur.matcher.tree → NoneMatch has_match (terminated_lines (take (at - start) (drop start block)))) →
    NoneMatch test (terminated_lines (take (at - from) (drop from block)))
none_before self cur block from start at test low high before none kept tests decidable next =
    let other = decidable cur.matcher.tree in
    none_between test block from start at low high before none
    (none_match cur test other.0 (tests_same self cur kept test tests) other.1 (terminated_lines (take (at - start) (drop start block)))
    (next other.0 other.1))

pub returns-then-is_wanted-clause-line : goal.returns-then-is_wanted-clause-line
returns-then-is_wanted-clause-line c =
    let e = c.in-Some.ensures.line in
    let i = c.lines.invariant in
    record {
      low = omega (arith, i.low, e.low);
      order = e.order;
      high = e.high;
      before = whole_between c.args.block.now c.args.from c.lines.start c.in-Some.line.start i.low e.low i.before e.before;
      part = e.part;
      newline = e.newline;
    }

pub returns-then-is_wanted-clause-next : goal.returns-then-is_wanted-clause-next
returns-then-is_wanted-clause-next c = λ test tests.
    let i = c.lines.invariant in
    let e = c.in-Some.ensures in
    let self = c.args.self.now in
    let new = c.next_match.new.self in
    let line = take (c.in-Some.line.end - c.in-Some.line.start) (drop c.in-Some.line.start c.args.block.now) in (
      (tests line).1 (matches_same self (with_matcher c.lines.self new) (same_match self c.lines.self new i.same e.same) line
          (subst (λ t. HasMatch t line) (sym e.same) e.found, c.is_wanted.ensures.found.0 c.if-is_wanted.true)),
      none_before self c.lines.self c.args.block.now c.args.from c.lines.start c.in-Some.line.start test i.low e.line.low i.before (i.none test tests)
          i.same tests c.matching_is_decidable.ensures e.none,
    )

pub lines-preserved : goal.lines-preserved
lines-preserved c =
    let block = c.args.block.now in
    let i = c.lines.invariant in
    let all = c.in-Some.ensures in
    let e = all.line in
    let self = c.args.self.now in
    let new = c.next_match.new.self in
    let start = c.in-Some.line.start in
    let end = c.in-Some.line.end in
    let line = take (end - start) (drop start block) in
    let more = whole_line block start end e.order e.newline in
    let before = whole_between block c.args.from c.lines.start start i.low e.low i.before e.before in
    let kept = same_match self c.lines.self new i.same all.same in
    record {
      low = omega (arith, i.low, e.low, e.order);
      high = omega (arith, e.high);
      whole = whole_from block c.lines.start (end + 1) (omega (arith, e.low, e.order)) i.whole;
      before = whole_between block c.args.from start (end + 1) (omega (arith, i.low, e.low)) (omega (arith, e.order)) before more;
      none = λ test tests.
          let miss : test line ≡ false = missed (with_matcher c.lines.self new) test (tests_same self (with_matcher c.lines.self new) kept test tests) line
          (λ matches. false≢true (sym c.if-is_wanted.false ∙ c.is_wanted.ensures.found.1 matches.1)) in
          none_between test block c.args.from start (end + 1) (omega (arith, i.low, e.low)) (omega (arith, e.order)) before
          (none_before self c.lines.self block c.args.from c.lines.start start test i.low e.low i.before (i.none test tests) i.same tests
          c.matching_is_decidable.ensures all.none)
          (subst (NoneMatch test) (sym (terminated_line block start end e.order e.part e.newline))
          (All-cons (λ line. test line ≡ false) line [] miss (All-nil (λ line. test line ≡ false))));
      same = keeps_again self (with_matcher c.lines.self new) c.is_wanted.new.self kept c.is_wanted.ensures.same;
      budget = c.is_wanted.ensures.budget ∙ i.budget;
      work = subst (λ m. WorksWithin (search_work (line_weight self) (end + 1 - c.args.from)) self.matcher m) (sym c.is_wanted.ensures.matcher)
          (matched_then self c.lines.self new (c.lines.start - c.args.from) (end + 1 - c.lines.start) (end + 1 - c.args.from)
          i.same (omega (arith, i.low, e.low, e.order)) i.work all.work);
    }

pub returns-clause-next : goal.returns-clause-next
returns-clause-next c = λ test tests.
    let block = c.args.block.now in
    let i = c.lines.invariant in
    let other = c.matching_is_decidable.ensures c.lines.self.matcher.tree in
    let rest = terminated_lines (drop c.lines.start block) in
    subst (NoneMatch test) (sym (lines_from block c.args.from c.lines.start i.low i.before))
    (All-append (λ line. test line ≡ false) (terminated_lines (take (c.lines.start - c.args.from) (drop c.args.from block))) rest
    (i.none test tests)
    (none_match c.lines.self test other.0 (tests_same c.args.self.now c.lines.self i.same test tests) other.1 rest
    (c.in_default.ensures.none other.0 other.1)))

pub returns-then-is_wanted-clause-work : goal.returns-then-is_wanted-clause-work
returns-then-is_wanted-clause-work c =
    let i = c.lines.invariant in
    let e = c.in-Some.ensures in
    let line = c.in-Some.line in
    subst (λ m. WorksWithin (search_work (line_weight c.args.self.now) (line.end + 1 - c.args.from)) c.args.self.now.matcher m) (sym c.is_wanted.ensures.matcher)
    (matched_then c.args.self.now c.lines.self c.next_match.new.self (c.lines.start - c.args.from) (line.end + 1 - c.lines.start) (line.end + 1 - c.args.from)
    i.same (omega (arith, i.low, e.line.low, e.line.order)) i.work e.work)

pub returns-clause-work : goal.returns-clause-work
returns-clause-work c =
    let i = c.lines.invariant in
    let size = length c.args.block.now in
    matched_then c.args.self.now c.lines.self c.next_match.new.self (c.lines.start - c.args.from) (size - c.lines.start) (size - c.args.from)
    i.same (omega (arith, i.low, i.high)) i.work c.in_default.ensures.work
