use Rattle.std.proofs.Common.{◌≡◌, ◌≤◌, ◌+◌, ◌-◌, true, length, sym, ap, subst, ◌∙◌, arith}
use Rattle.std.specs.Prelude.{List, ℕ}
use Rattle.cs_match.specs.declared.listing.Lister.{Lister}
use Rattle.cs_match.specs.Candidates.{IsCandidate}
use Rattle.cs_match.specs.Listing.{CountsWithin, ListsLines}
use Rattle.cs_match.specs.Work.{byte_work, list_work, searched_bytes}
use Rattle.cs_match.specs.declared.dfa.EndList.{EndList}
use Rattle.cs_match.proofs.CandidateLemmas.{no_candidate, before_candidate}
use Rattle.cs_match.proofs.ListingLemmas.{AreListed-skipped, line_alone, ListsLines-skipped}
use Rattle.cs_match.proofs.SkippedLineLemmas.{AreBytes}
use Rattle.cs_match.proofs.SearchWorkLemmas.{candidate_cost, skipped_cost}
use Rattle.cs_match.proofs.WordEndLemmas.{whole_ends, list_high, list_lines, list_few, words_cost}
use Rattle.cs_match.proofs.listing.Lister.list_part.Goals as goal
use Rattle.cs_match.proofs.listing.Lister.list_part.Goals.{in-Some-line, in-None}

pub list_line-listed-requires-clause-line : goal.list_line-listed-requires-clause-line
list_line-listed-requires-clause-line c =
    let e = subst (λ line. IsCandidate c.in-Some.prefilter.now.0 c.args.block.now c.args.from line) c.in-Some-line.is c.next_candidate-candidate.ensures.candidate in
    line_alone c.args.self.now.dfa.tree c.args.block.now c.args.from c.in-Some-line.line.start c.in-Some-line.line.end e.line

pub list-listed-requires-clause-whole : goal.list-listed-requires-clause-whole
list-listed-requires-clause-whole c = whole_ends c.args.block.now c.args.from c.requires.whole

pub finish-requires-clause-listed : goal.finish-requires-clause-listed
finish-requires-clause-listed c =
    let tree = c.self.inside.0.0.program.now in
    let prefilter = c.in-Some.prefilter.now in
    let is = c.in-Some.ensures in
    let exact : prefilter.1 ≡ true = sym c.is_exact.ensures ∙ c.if-is_exact.true in
    let within : c.args.from ≤ length c.args.block.now = omega (arith, c.requires.within) in
    let bytes : AreBytes c.args.block.now = λ i. omega (arith, c.type_inv.block i) in
    let e = c.list-listed.ensures in
    let long = c.list-listed.auto.ends in
    record {
      moves = e.moves c.requires.within;
      high = list_high tree prefilter is exact c.args.block.now bytes c.args.from within c.list-listed.result c.list-listed.new.ends e.low e.ends;
      room = e.ends.room;
      listed = list_lines tree prefilter is exact c.args.block.now bytes c.args.from within c.list-listed.result c.list-listed.new.ends e.low e.ends;
      full = λ all. e.stops (omega (arith, all, long));
    }

pub returns-then-is_exact-clause-work : goal.returns-then-is_exact-clause-work
returns-then-is_exact-clause-work c =
    let tree = c.self.inside.0.0.program.now in
    let prefilter = c.in-Some.prefilter.now in
    let is = c.in-Some.ensures in
    let exact : prefilter.1 ≡ true = sym c.is_exact.ensures ∙ c.if-is_exact.true in
    let bytes : AreBytes c.args.block.now = λ i. omega (arith, c.type_inv.block i) in
    let e = c.list-listed.ensures in
    let f = c.finish.ensures in
    let words = c.list-listed.result in
    let few = list_few tree prefilter is exact c.args.block.now bytes c.args.from (omega (arith, c.requires.within)) words c.list-listed.new.ends e.low e.ends in
    let moves = e.moves c.requires.within in
    let cost = words_cost (words.to - c.args.from) (c.finish.result.to - c.args.from) words.count (byte_work tree)
    (omega (arith, moves)) (omega (arith, f.all)) few in
    subst (λ (s : Lister). CountsWithin (list_work s.dfa.tree (c.finish.result.to - c.args.from)) s c.finish.new.self) c.self.view_is
    (f.work.0, (omega (arith, e.work.0, f.work.1.0), omega (arith, e.work.1, f.work.1.1, cost)))

pub returns-clause-lists : goal.returns-clause-lists
returns-clause-lists c =
    let tree = c.self.inside.0.0.program.now in
    let words = c.in-Some.prefilter.now.0 in
    let block = c.args.block.now in
    let is = c.in-Some.ensures in
    subst (λ (s : Lister). ListsLines s.dfa.tree block c.args.from c.match-candidate.listed c.match-candidate.ends) c.self.view_is
    (elim c.match-candidate.branch [
      | in-Some-line w ↦
          let line = w.in-Some-line.line in
          let e = subst (λ line. IsCandidate words block c.args.from line) w.in-Some-line.is c.next_candidate-candidate.ensures.candidate in
          subst (λ (listed : EndList). ListsLines tree block c.args.from listed c.match-candidate.ends) (sym w.listed-is)
          (subst (λ (ends : List ℕ). ListsLines tree block c.args.from w.list_line-listed.result ends) (sym w.ends-is)
          (ListsLines-skipped tree block c.args.from line.start w.list_line-listed.result w.list_line-listed.new.ends
          (before_candidate tree words block c.args.from line.start line.end (λ i. omega (arith, c.type_inv.block i)) is.required e) (omega (arith, e.line.order, e.line.high))
          w.list_line-listed.ensures.lists))
      | in-None w ↦
          let skipped = no_candidate tree words block c.args.from (λ i. omega (arith, c.type_inv.block i)) (omega (arith, c.requires.within)) c.requires.whole is.required
          (subst (λ line. IsCandidate words block c.args.from line) w.in-None.is c.next_candidate-candidate.ensures.candidate) in
          subst (λ (listed : EndList). ListsLines tree block c.args.from listed c.match-candidate.ends) (sym w.listed-is) (record {
            listed = AreListed-skipped tree block c.args.from (length block) c.match-candidate.ends skipped;
            moves = λ low. low;
            one = λ len none. let no : ⊥ = omega (arith, none) in absurd no;
          })
    ])

pub returns-clause-work : goal.returns-clause-work
returns-clause-work c =
    let tree = c.self.inside.0.0.program.now in
    let words = c.in-Some.prefilter.now.0 in
    let block = c.args.block.now in
    let candidate = c.next_candidate-candidate.ensures in
    subst (λ (s : Lister). CountsWithin (list_work s.dfa.tree (c.match-candidate.listed.to - c.args.from)) s c.match-candidate.self) c.self.view_is
    (elim c.match-candidate.branch [
      | in-Some-line w ↦
          let line = w.in-Some-line.line in
          let e = subst (λ line. IsCandidate words block c.args.from line) w.in-Some-line.is candidate.candidate in
          let bytes = ap (searched_bytes c.args.from (length block)) w.in-Some-line.is in
          let steps = ap (λ (s : Lister). s.steps.count) w.self-is in
          let to : c.match-candidate.listed.to ≡ line.end + 1 = ap (λ (l : EndList). l.to) w.listed-is ∙ w.list_line-listed.ensures.all in
          let cost = candidate_cost c.args.from line.start line.end (byte_work tree) e.line.low e.line.order in (
            ap (λ (s : Lister). s.dfa.tree) w.self-is ∙ w.list_line-listed.ensures.work.0,
            (
              omega (arith, steps, candidate.work.0, w.list_line-listed.ensures.work.1.0),
              omega (
                arith,
                steps,
                bytes,
                candidate.work.1,
                w.list_line-listed.ensures.work.1.1,
                cost,
                ap (λ n. list_work tree (n - c.args.from)) to,
              ),
            ),
          )
      | in-None w ↦
          let bytes = ap (searched_bytes c.args.from (length block)) w.in-None.is in
          let steps = ap (λ (s : Lister). s.steps.count) w.self-is in
          let to : c.match-candidate.listed.to ≡ length block = ap (λ (l : EndList). l.to) w.listed-is in (
            ap (λ (s : Lister). s.dfa.tree) w.self-is,
            (
              omega (arith, steps, candidate.work.0),
              omega (
                arith,
                steps,
                bytes,
                candidate.work.1,
                skipped_cost (length block - c.args.from) (byte_work tree),
                ap (λ n. list_work tree (n - c.args.from)) to,
              ),
            ),
          )
    ])
