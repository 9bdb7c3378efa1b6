use Rattle.std.proofs.Common.{◌≡◌, ℕ, ◌+◌, ◌-◌, ◌<◌, ◌≤◌, List, length, take, drop, get_or, ap, sym, subst, ◌∙◌, add-zero, arith, get_or-take, get_or-drop, length-drop}
use Rattle.std.proofs.lemmas.List.{take_all}
use Rattle.cs_prefilter.specs.WordStop.{NoneUnmarked}
use Rattle.cs_prefilter.proofs.ScanLemmas.{none_joined, none_unmarked_in_copy}
use Rattle.cs_prefilter.proofs.comparing.WordList.first_in_rest.Goals as goal

-- the bytes of the copy
copied : (text last : List ℕ) (from : ℕ) → from ≤ length text
    → take (length (take (length text - from) (drop from text))) last ≡ take (length text - from) (drop from text)
    → (j : ℕ) → j < length text - from → get_or last j 0 ≡ get_or text (from + j) 0
copied text last from within copy j below =
    let all : take (length text - from) (drop from text) ≡ drop from text = take_all _ (drop from text) (omega (arith, length-drop from text)) in
    let same = subst (λ (l : List ℕ). take (length l) last ≡ l) all copy in
    sym (get_or-take (length (drop from text)) last j 0 (omega (arith, below, length-drop from text)))
    ∙ ap (λ (l : List ℕ). get_or l j 0) same ∙ get_or-drop from text j 0

pub first_marked-stop-requires-clause-marked : goal.first_marked-stop-requires-clause-marked
first_marked-stop-requires-clause-marked g c =
    let words = c.args.self.now.words.items in
    let text = c.args.text.now in
    let last = c.before_zeros-last.result in
    let n = length text - c.args.from in
    subst (λ (at : ℕ). NoneUnmarked words text at c.marks.result) (add-zero c.args.from)
    (none_unmarked_in_copy words text (g.P.Probe.Finds c.args.probe.now) c.requires.finds last c.args.from n 0 c.marks.result c.marks.ensures
    (omega (arith, c.requires.within)) (omega (arith, c.requires.short, c.before_zeros-last.ensures.long))
    (copied text last c.args.from c.requires.within c.before_zeros-last.ensures.bytes))

pub first_marked-requires-clause-marked : goal.first_marked-requires-clause-marked
first_marked-requires-clause-marked g c =
    let words = c.args.self.now.words.items in
    let text = c.args.text.now in
    let last = c.before_zeros-last.result in
    let n = length text - c.args.from in
    let at : c.args.from + 64 ≡ c.first_marked-stop.result.offset =
    omega (arith, c.first_marked-stop.ensures.by.at_end c.if-stop.false, c.if-stop-text.false) in
    subst (λ (k : ℕ). NoneUnmarked words text k c.marks-2.result) at
    (none_unmarked_in_copy words text (g.P.Probe.Finds c.args.probe.now) c.requires.finds last c.args.from n 64 c.marks-2.result c.marks-2.ensures
    (omega (arith, c.requires.within)) (omega (arith, c.requires.short, c.before_zeros-last.ensures.long))
    (copied text last c.args.from c.requires.within c.before_zeros-last.ensures.bytes))

pub returns-clause-stop : goal.returns-clause-stop
returns-clause-stop g c =
    let first = c.first_marked-stop.ensures.stop in
    let second = c.first_marked.ensures.stop in
    record {
      low = omega (arith, first.low, second.low);
      high = second.high;
      none = none_joined c.args.self.now.words.items c.args.text.now c.args.from c.first_marked-stop.result.offset
          c.first_marked.result.offset first.none second.none;
      stops = second.stops;
    }
