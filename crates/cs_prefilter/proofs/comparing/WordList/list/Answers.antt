use Rattle.std.proofs.Common.{◌≡◌, ℕ, ◌+◌, ◌-◌, Bool, cond, true≢false, List, length, take, drop, get_or, set, ap, sym, ◌∙◌, arith, length-take, length-drop, get_or-set_same}
use Rattle.std.proofs.lemmas.List.{take_rest, get_or-drop}
use Rattle.cs_tree.specs.declared.steps.Steps.{Steps}
use Rattle.cs_prefilter.proofs.ScanLemmas.{none_found}
use Rattle.cs_prefilter.proofs.ListedLemmas.{listed-gap, listed-line, listed-as, listed-rest}
use Rattle.cs_prefilter.proofs.comparing.WordList.list.Goals as goal
use Rattle.cs_prefilter.proofs.comparing.WordList.list.Goals.{then-stop, else-stop, then-stops-test+then-offset-rest+else-count-ends, then-stops-test+else-offset-rest, else-stops-test}

-- a byte of the rest of a text
byte : (text : List ℕ) (from k : ℕ) → get_or (take (length text - from) (drop from text)) k 0 ≡ get_or text (from + k) 0
byte text from k = ap (λ (rest : List ℕ). get_or rest k 0) (take_rest text from) ∙ get_or-drop from text k 0

pub stops-preserved : goal.stops-preserved
stops-preserved g c =
    let words = c.args.self.now.words.items in
    let from = c.args.from in
    let rest = take (length c.args.text.now - from) (drop from c.args.text.now) in
    let before = c.stops.invariant in
    let stop = c.first_near-stop.result in
    let this = c.first_near-stop.ensures.stop in
    let work = c.first_near-stop.ensures.work in
    let gap = listed-gap words rest from c.stops.offset stop.offset c.stops.count c.stops.ends before.ends this.low this.high this.none in
    elim c.if-stop.branch [
      | then-stop w ↦
          let end = w.line_end-end.result in
          let line = w.line_end-end.ensures in
          let has = ap (λ (b : Bool). stop.offset - c.stops.offset + cond b 1 0) w.if-stop.true in
          let last : c.if-stop.count - 1 ≡ c.stops.count = omega (arith, w.count-is) in
          let at : c.if-stop.offset - 1 ≡ end = omega (arith, w.offset-is) in
          let listed : get_or c.if-stop.ends (c.if-stop.count - 1) 0 ≡ from + end =
          ap (λ (l : List ℕ). get_or l (c.if-stop.count - 1) 0) w.ends-is
          ∙ ap (λ k. get_or (set c.stops.ends c.stops.count (from + end)) k 0) last
          ∙ get_or-set_same c.stops.ends c.stops.count (from + end) 0 c.if-count-ends.true in
          record {
            ends = listed-as words rest from _ _ _ _ _ _ w.offset-is w.count-is w.ends-is
                (listed-line words rest from stop.offset end c.stops.count c.stops.ends gap (this.stops w.if-stop.true)
                line.low line.high line.none line.newline c.if-count-ends.true);
            start = λ full some. ap (λ k. get_or rest k 0) at ∙ line.newline;
            stops = λ full. omega (arith, listed, w.offset-is);
            few = omega (arith, before.few, this.low, line.low, w.count-is, w.offset-is);
            moved = λ given. omega (arith, w.offset-is);
            rises = omega (arith, before.rises, work.0, w.add-then-stop.ensures, line.work, ap (λ (s : Steps). s.count) w.steps-is);
            work = omega (
              arith,
              before.work,
              work.1,
              has,
              this.low,
              line.low,
              w.add-then-stop.ensures,
              line.work,
              ap (λ (s : Steps). s.count) w.steps-is,
              w.count-is,
              w.offset-is,
            );
          }
      | else-stop w ↦
          let to = w.skip_strides-offset.result in
          let skipped = w.skip_strides-offset.ensures in
          let no_word = ap (λ (b : Bool). stop.offset - c.stops.offset + cond b 1 0) w.if-stop.false in
          record {
            ends = listed-as words rest from _ _ _ _ _ _ w.offset-is w.count-is w.ends-is
                (listed-gap words rest from stop.offset to c.stops.count c.stops.ends gap skipped.low skipped.high
                (none_found words rest (g.P.Probe.Finds c.args.probe.now) c.requires.finds stop.offset to skipped.none));
            start = λ full some. absurd (omega (arith, full, ap (λ (l : List ℕ). length l) w.ends-is, w.count-is, c.if-count-ends.true));
            stops = λ full. absurd (omega (arith, full, ap (λ (l : List ℕ). length l) w.ends-is, w.count-is, c.if-count-ends.true));
            few = omega (arith, before.few, this.low, skipped.low, w.count-is, w.offset-is);
            moved = λ given. omega (arith, c.first_near-stop.ensures.moves w.if-stop.false, skipped.low, w.offset-is);
            rises = omega (arith, before.rises, work.0, skipped.work, ap (λ (s : Steps). s.count) w.steps-is);
            work = omega (
              arith,
              before.work,
              work.1,
              no_word,
              this.low,
              skipped.low,
              skipped.work,
              ap (λ (s : Steps). s.count) w.steps-is,
              w.count-is,
              w.offset-is,
            );
          }
    ]

pub returns-clause-ends : goal.returns-clause-ends
returns-clause-ends g c =
    listed-rest c.args.self.now.words.items c.args.text.now c.args.from c.stops.offset c.stops.count c.stops.ends c.stops.invariant.ends

pub returns-clause-start : goal.returns-clause-start
returns-clause-start g c = λ not low.
    let text = c.args.text.now in
    let from = c.args.from in
    let off = c.stops.offset in
    elim c.stops-test.branch [
      | then-stops-test+then-offset-rest+else-count-ends w ↦
          let there : from + (off - 1) ≡ from + off - 1 = omega (arith, low) in
          sym (byte text from (off - 1) ∙ ap (λ k. get_or text k 0) there)
          ∙ c.stops.invariant.start (omega (arith, w.if-count-ends.false)) (omega (arith, low))
      | then-stops-test+else-offset-rest w ↦
          let all : from + off - 1 ≡ length text - 1 = omega (
            arith,
            low,
            w.if-offset-rest.false,
            c.stops.invariant.ends.high,
            length-take (length text - from) (drop from text),
            length-drop from text,
            c.requires.within,
          ) in
          ap (λ k. get_or text k 0) all ∙ c.requires.whole (omega (
            arith,
            low,
            c.stops.invariant.ends.high,
            length-take (length text - from) (drop from text),
            length-drop from text,
          ))
      | else-stops-test w ↦ absurd (true≢false (sym w.stops-test.false ∙ not))
    ]

pub returns-clause-moves : goal.returns-clause-moves
returns-clause-moves g c = λ low.
    let text = c.args.text.now in
    let from = c.args.from in
    elim c.stops-test.branch [
      | then-stops-test+then-offset-rest+else-count-ends w ↦
          omega (arith, w.if-count-ends.false, c.stops.invariant.few, c.stops.auto.ends, c.requires.room)
      | then-stops-test+else-offset-rest w ↦ omega (
        arith,
        low,
        w.if-offset-rest.false,
        length-take (length text - from) (drop from text),
        length-drop from text,
      )
      | else-stops-test w ↦ omega (arith, c.stops.invariant.moved w.stops-test.false)
    ]
