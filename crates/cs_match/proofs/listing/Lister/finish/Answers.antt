use Rattle.std.proofs.Common.{◌≡◌, ◌+◌, ◌-◌, ◌*◌, ◌<◌, ◌≤◌, ◌++◌, length, take, drop, refl, sym, subst, ap, ◌∙◌, arith, length-take, length-drop}
use Rattle.std.proofs.Common.{inl, inr}
use Rattle.std.specs.Prelude.{slice_index}
use Rattle.std.proofs.lemmas.Bool.{cases_lt}
use Rattle.cs_match.specs.Deciding.{Decides}
use Rattle.cs_match.specs.Lanes.{AreListed}
use Rattle.cs_match.specs.Work.{byte_work}
use Rattle.cs_match.proofs.ChunkLemmas.{AreListed-append, filled, filled-len, own-len}
use Rattle.cs_match.proofs.ListingLemmas.{first_of_rest}
use Rattle.cs_match.proofs.WholeLineLemmas.{whole_from}
use Rattle.cs_match.proofs.WordEndLemmas.{open_low, open_lines, open_part, open_within, open_line, end_below, line_cost}
use Rattle.cs_match.proofs.listing.Lister.finish.Goals as goal

pub line_end-end-requires-clause-within : goal.line_end-end-requires-clause-within
line_end-end-requires-clause-within c =
    let q = c.requires.listed in
    let e = c.whole_lines_len.ensures in
    let low : c.args.from ≤ c.args.words.to = omega (arith, q.moves) in
    let start = open_low c.args.block.now c.args.from c.args.words.to c.whole_lines_len.result low q.high e.within e.whole e.rest in
    open_within c.args.block.now c.args.from c.args.words.to c.whole_lines_len.result low q.high e.within e.whole e.rest c.requires.whole
    (omega (arith, start, c.if-start-to.false))

pub line_end-end-requires-clause-whole : goal.line_end-end-requires-clause-whole
line_end-end-requires-clause-whole c = whole_from c.args.block.now c.args.from c.args.words.to (omega (arith, c.requires.listed.moves)) c.requires.whole

pub list_line-last-requires-clause-line : goal.list_line-last-requires-clause-line
list_line-last-requires-clause-line c =
    let q = c.requires.listed in
    let e = c.whole_lines_len.ensures in
    let l = c.line_end-end.ensures in
    open_line c.args.block.now c.args.from c.args.words.to c.whole_lines_len.result (omega (arith, q.moves)) q.high e.within e.whole e.rest
    c.args.self.now.dfa.tree c.line_end-end.result l.low l.high l.part l.newline

pub list_line-last-requires-clause-room : goal.list_line-last-requires-clause-room
list_line-last-requires-clause-room c =
    let q = c.requires.listed in
    let e = c.whole_lines_len.ensures in
    let block = c.args.block.now in
    let from = c.args.from in
    let to = c.args.words.to in
    let size = c.whole_lines_len.result in
    let count = c.args.words.count in
    let ends = c.args.ends.now in
    let low : from ≤ to = omega (arith, q.moves) in
    let start = open_low block from to size low q.high e.within e.whole e.rest in
    let listed = q.listed (from + size) (open_lines block from to size low q.high e.within e.whole e.rest) start
    (open_part block from to size low q.high e.within e.whole e.rest) in
    let room : count < length ends = elim (cases_lt count (length ends)) [
      | inl some ↦ some
      | inr all ↦
          let is : count ≡ length ends = omega (arith, all, q.room) in
          let last = end_below c.args.self.now.dfa.tree block from (from + size) count ends listed (omega (arith, is, c.requires.room)) in
          let no : ⊥ = omega (arith, last, q.full is, start, c.if-start-to.false) in
          absurd no
    ] in
    omega (arith, room, length-take (length ends - count) (drop count ends), length-drop count ends)

pub returns-then-start-to-clause-lists : goal.returns-then-start-to-clause-lists
returns-then-start-to-clause-lists c =
    let q = c.requires.listed in
    let e = c.whole_lines_len.ensures in
    let block = c.args.block.now in
    let from = c.args.from in
    let to = c.args.words.to in
    let size = c.whole_lines_len.result in
    let low : from ≤ to = omega (arith, q.moves) in
    let start = open_low block from to size low q.high e.within e.whole e.rest in
    record {
      listed =
          subst (λ n. AreListed (λ has_match. Decides has_match c.args.self.now.dfa.tree) block from n c.args.words.count c.args.ends.now)
          c.if-start-to.true
          (q.listed (from + size) (open_lines block from to size low q.high e.within e.whole e.rest) start
          (open_part block from to size low q.high e.within e.whole e.rest));
      moves = λ _. q.moves;
      one = λ one counted. q.full (omega (arith, one, counted)) ∙ ap (λ n. slice_index c.args.ends.now (n - 1) + 1) counted;
    }

pub returns-clause-lists : goal.returns-clause-lists
returns-clause-lists c =
    let q = c.requires.listed in
    let e = c.whole_lines_len.ensures in
    let block = c.args.block.now in
    let from = c.args.from in
    let to = c.args.words.to in
    let size = c.whole_lines_len.result in
    let count = c.args.words.count in
    let last = c.list_line-last.result in
    let old = c.args.ends.now in
    let own = c.list_line-last.new.ends in
    let later = take count old ++ (own ++ drop (length old - count) (drop count old)) in
    let low : from ≤ to = omega (arith, q.moves) in
    let start = open_low block from to size low q.high e.within e.whole e.rest in
    let listed = q.listed (from + size) (open_lines block from to size low q.high e.within e.whole e.rest) start
    (open_part block from to size low q.high e.within e.whole e.rest) in
    let lists = c.list_line-last.ensures.lists in
    let long = c.list_line-last.auto.ends in
    let len : length later ≡ length old = filled-len old own later count (length old) q.room (omega arith) long refl in
    let all : length own ≡ length old - count = own-len old own later count (length old) q.room (omega arith) long refl in
    record {
      listed = AreListed-append (λ has_match. Decides has_match c.args.self.now.dfa.tree) block from (from + size) last.to count last.count
          old own later listed lists.listed (omega (arith, len, all, lists.listed.room, q.room))
          (filled old own later count (length old) q.room (omega arith) long refl last.count lists.listed.room);
      moves = λ within. omega (arith, c.list_line-last.ensures.all, c.line_end-end.ensures.low, q.moves);
      one = λ one counted.
          let single : length old ≡ 1 = omega (arith, len, one) in
          elim (cases_lt 0 count) [
            | inl some ↦
                let is : count ≡ length old = omega (arith, some, q.room, single) in
                let end = end_below c.args.self.now.dfa.tree block from (from + size) count old listed some in
                let no : ⊥ = omega (arith, end, q.full is, start, c.if-start-to.false) in
                absurd no
            | inr few ↦
                let none : count ≡ 0 = omega (arith, few) in
                let first = first_of_rest old own count none (omega (arith, all, single, none)) in
                lists.one (omega (arith, all, single, none)) (omega (arith, counted, none)) ∙ ap (λ n. n + 1) (sym first)
          ];
    }

pub returns-clause-work : goal.returns-clause-work
returns-clause-work c =
    let q = c.requires.listed in
    let e = c.whole_lines_len.ensures in
    let from = c.args.from in
    let to = c.args.words.to in
    let size = c.whole_lines_len.result in
    let end = c.line_end-end.result in
    let w = byte_work c.args.self.now.dfa.tree in
    let start = open_low c.args.block.now from to size (omega (arith, q.moves)) q.high e.within e.whole e.rest in
    let l = c.list_line-last.ensures in
    let cost = line_cost from (from + size) to end w (omega arith) start c.line_end-end.ensures.low in (
      l.work.0,
      (
        omega (arith, c.add.ensures, c.line_end-end.ensures.work, l.work.1.0),
        omega (arith, c.add.ensures, c.line_end-end.ensures.work, l.work.1.1, cost, ap (λ n. (w + 2) * (n - from)) l.all),
      ),
    )
