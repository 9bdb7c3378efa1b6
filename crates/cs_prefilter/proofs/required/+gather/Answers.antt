use Rattle.std.proofs.Common.{◌≡◌, ◌+◌, ◌-◌, ◌++◌, List, inl, inr, length, drop, refl, sym, ◌∙◌, ap, subst, arith, length-drop, drop_of_length-le}
use Rattle.std.proofs.lemmas.Bool.{eqb-true}
use Rattle.std.proofs.lemmas.List.{take_all, length-take-le}
use Rattle.std.proofs.lemmas.Result.{on_ok_weaker}
use Rattle.cs_prefilter.specs.declared.word.Word.{Word}
use Rattle.cs_syntax.specs.Matching.{Tree, Trees, cat, alt, MatchesSpan, MatchesSequence, MatchesBranch}
use Rattle.cs_syntax.specs.Node.{tree_of}
use Rattle.cs_syntax.specs.NodeList.{trees_of}
use Rattle.cs_syntax.specs.declared.node.Node.{Node}
use Rattle.cs_syntax.proofs.NodeLemmas.{tree_of-Empty, tree_of-NotWordEdge, tree_of-Set, tree_of-Chars, tree_of-Cat, tree_of-Alt, tree_of-Rep, tree_of-LineStart, tree_of-LineEnd, tree_of-WordEdge}
use Rattle.cs_syntax.proofs.TreeLemmas.{trees_from}
use Rattle.cs_prefilter.specs.WordAt.{HasWord, with_newline}
use Rattle.cs_prefilter.specs.Words.{HasWordOf}
use Rattle.cs_prefilter.specs.Runs.{RunsFollow, IsFollowed}
use Rattle.cs_prefilter.proofs.SpanLemmas.{on_ok_both, both_ok, within}
use Rattle.cs_prefilter.proofs.RunLemmas.{follow_none, follow_cut, follow_both, follow_fewer, follow_rounds, follow_same, same_run_ends, run_ends, one_before, one_after}
use Rattle.cs_prefilter.proofs.required.+gather.Goals as goal
use Rattle.cs_prefilter.proofs.required.+gather.Goals.{gather_all-then-is_empty, gather_all-else-is_empty}

pub best-returns : goal.best-returns
best-returns t c = λ line i j e h.
    let first = c.in_ok-runs.runs in
    let next = c.gather.new.runs in
    let start = c.in_ok-runs.ensures.ends line i e in
    c.in_ok-keep_followed.ensures line j h.1.0 (run_ends _ first next c.in_ok-gather.ensures line i j h start) h.1.1
    (c.in_ok-gather.ensures.best line i j h start (subst (HasWordOf line) (sym c.in_ok-runs.ensures.best) tt))

pub gather-returns-in-Set : goal.gather-returns-in-Set
gather-returns-in-Set t c =
    let e = ap tree_of c.in-Set.is ∙ tree_of-Set c.in-Set.set in
    on_ok_weaker c.add.result (follow_same _ _ c.args.after.now c.args.runs.now c.add.new.self e) c.add.ensures

pub gather-returns-in-Chars : goal.gather-returns-in-Chars
gather-returns-in-Chars t c =
    let e = ap tree_of c.in-Chars.is ∙ tree_of-Chars c.in-Chars.set in
    on_ok_weaker c.add_chars.result (follow_same _ _ c.args.after.now c.args.runs.now c.add_chars.new.self e) c.add_chars.ensures

pub gather-returns-in-Empty : goal.gather-returns-in-Empty
gather-returns-in-Empty t c =
    follow_same _ _ c.args.after.now c.args.runs.now c.args.runs.now (ap tree_of c.in-Empty.is ∙ tree_of-Empty) (follow_none _ (λ line i j h. h) _)

pub gather-returns-in-NotWordEdge : goal.gather-returns-in-NotWordEdge
gather-returns-in-NotWordEdge t c = follow_same _ _ c.args.after.now c.args.runs.now c.args.runs.now
    (ap tree_of c.in-NotWordEdge.is ∙ tree_of-NotWordEdge) (follow_none _ (λ line i j h. h.0) _)

pub gather-returns-in-LineStart : goal.gather-returns-in-LineStart
gather-returns-in-LineStart t c = follow_same _ _ c.args.after.now c.args.runs.now c.add_line_start.new.self
    (ap tree_of c.in-LineStart.is ∙ tree_of-LineStart) c.add_line_start.ensures

pub gather-returns-in-LineEnd : goal.gather-returns-in-LineEnd
gather-returns-in-LineEnd t c = on_ok_weaker c.add_line_end.result
    (follow_same _ _ c.args.after.now c.args.runs.now c.add_line_end.new.self (ap tree_of c.in-LineEnd.is ∙ tree_of-LineEnd)) c.add_line_end.ensures

pub gather-returns-in-WordEdge : goal.gather-returns-in-WordEdge
gather-returns-in-WordEdge t c = on_ok_weaker c.add_word_edge.result
    (follow_same _ _ c.args.after.now c.args.runs.now c.add_word_edge.new.self (ap tree_of c.in-WordEdge.is ∙ tree_of-WordEdge)) c.add_word_edge.ensures

pub gather-returns-in-Cat : goal.gather-returns-in-Cat
gather-returns-in-Cat t c =
    let e = ap tree_of c.in-Cat.is ∙ tree_of-Cat c.in-Cat.parts ∙ ap (λ (ns : List Node). cat (trees_of ns)) (sym c.deref.ensures.value) in
    on_ok_weaker c.gather_all.result (λ f. follow_fewer _ _ c.args.runs.now c.gather_all.new.runs
    (λ line i j h. (subst (λ (u : Tree). MatchesSpan line u i j) e h.0, h.1)) f) c.gather_all.ensures

pub gather-returns-in_ok-words-in-Alt : goal.gather-returns-in_ok-words-in-Alt
gather-returns-in_ok-words-in-Alt t c =
    let branches = c.deref-in-Alt.result.now in
    let old = c.args.runs.now in
    let mid = c.offer.new.self in
    let new = c.cut_here.new.self in
    let e = ap tree_of c.in-Alt.is ∙ tree_of-Alt c.in-Alt.branches ∙ ap (λ (ns : List Node). alt (trees_of ns))
    (sym c.deref-in-Alt.ensures.value) in
    let run = c.offer.ensures.run in
    on_ok_both c.cut_here.result (λ start both.
    follow_cut _ old new (both.1.1 ∙ run.sets) start both.0 (λ line i j h. within line (tree_of c.args.node.now) i j h.0)
    (λ line i j ends h has. both.1.0 line i (same_run_ends line old mid i run ends)
    (c.offer.ensures.best line (c.in_ok-words-in-Alt.ensures line i j ends (subst (λ (u : Tree). MatchesSpan line u i j) e h.0, h.1)) has)))
    c.cut_here.ensures.start (both_ok _ _ c.cut_here.result c.cut_here.ensures.anywhere
    (both_ok _ _ c.cut_here.result c.cut_here.ensures.best c.cut_here.ensures.sets))

pub gather-returns-in_ok-gather-in-Rep : goal.gather-returns-in_ok-gather-in-Rep
gather-returns-in_ok-gather-in-Rep t c =
    let x = c.in-Rep.x.value in
    let e = ap tree_of c.in-Rep.is ∙ tree_of-Rep c.in-Rep.x c.in-Rep.least c.in-Rep.field-2 in
    let first = c.begin_repeat.new.self in
    let next = c.gather.new.runs in
    let last = c.cut.new.self in
    let begun = c.begin_repeat.ensures in
    on_ok_both c.cut.result (λ start both. follow_same _ _ c.args.after.now c.args.runs.now last e
    (follow_both _ _ _ c.args.runs.now first last begun.follow
    (follow_rounds (tree_of x) c.in-Rep.least c.len-start.result c.in-Rep.field-2 first next last
    c.if-least-gt0.true c.len-start.ensures begun.anywhere
    (follow_fewer _ _ first next
    (λ line i j h. (subst (λ (y : Node). MatchesSpan line (tree_of y) i j) (sym c.deref-in-Rep.ensures) h, (j, refl))) c.in_ok-gather-in-Rep.ensures)
    both.1.1 start both.0 both.1.0) (λ line i j h. (i, refl, h)))) c.cut.ensures.start
    (both_ok _ _ c.cut.result c.cut.ensures.ends (both_ok _ _ c.cut.result c.cut.ensures.best c.cut.ensures.sets))

pub gather-returns-in-Rep-2 : goal.gather-returns-in-Rep-2
gather-returns-in-Rep-2 t c =
    let cut = c.cut_here-in-Rep-2 in
    on_ok_both cut.result (λ start both. follow_cut _ c.args.runs.now cut.new.self
    both.1.1 start both.0 (λ line i j h. within line (tree_of c.args.node.now) i j h.0)
    (λ line i j ends h has. both.1.0 line i ends has)) cut.ensures.start
    (both_ok _ _ cut.result cut.ensures.anywhere (both_ok _ _ cut.result cut.ensures.best cut.ensures.sets))

pub gather_all-returns : goal.gather_all-returns
gather_all-returns t c =
    let runs = c.loop-i.runs in
    let end = drop_of_length-le c.args.parts.now {i = c.loop-i.i} (omega arith) in
    c.loop-i.invariant runs
    (subst (λ (ns : List Node). RunsFollow (IsFollowed c.args.after.now (λ line i j. MatchesSequence line (trees_of ns) i j)) runs runs) (sym end)
    (follow_none _ (λ line i j h. h.0) runs))

pub gather_all-loop-i-preserved : goal.gather_all-loop-i-preserved
gather_all-loop-i-preserved t c = λ last f.
    let first = c.loop-i.runs in
    let after = c.args.after.now in
    let part = tree_of c.index-parts-i.result in
    let parts = c.args.parts.now in
    let rest = drop (c.loop-i.i + 1) parts in
    let next = trees_from parts c.loop-i.i c.index-parts-i.result c.loop-i-test.true c.index-parts-i.is in
    c.loop-i.invariant last
    (subst (λ (ts : Trees). RunsFollow (IsFollowed after (λ line i j. MatchesSequence line ts i j)) first last) (sym next)
    (follow_both _ _ _ first c.gather.new.runs last c.in_ok-gather.ensures f (λ line i j h.
    let l = h.0.0 in (
      l,
      (
        h.0.1,
        elim c.if-is_empty.branch [
          | gather_all-then-is_empty w ↦
              let size : length parts - (c.loop-i.i + 1) ≡ 0 =
              sym (length-take-le _ rest (omega (arith, length-drop (c.loop-i.i + 1) parts))) ∙ eqb-true _ 0 (sym c.is_empty.ensures ∙ w.if-is_empty.true) in
              let end = drop_of_length-le parts {i = c.loop-i.i + 1} (omega (arith, size)) in
              let same : l ≡ j = subst (λ (ns : List Node). MatchesSequence line (trees_of ns) l j) end h.0.2 in
              let as_given = ap (λ slice. slice.now) w.gather-is in (
                h.1.0,
                subst (λ (ns : List Node). MatchesSequence line (trees_of ns) l h.1.0) (sym as_given)
                    (subst (λ k. MatchesSequence line (trees_of after) k h.1.0) (sym same) h.1.1),
              )
          | gather_all-else-is_empty w ↦
              let as_given = ap (λ slice. slice.now) w.gather-is ∙ take_all _ rest (omega (arith, length-drop (c.loop-i.i + 1) parts)) in
              (j, subst (λ (ns : List Node). MatchesSequence line (trees_of ns) l j) (sym as_given) h.0.2)
        ],
      ),
      (h.0.2, h.1),
    ))))

pub best_of_each-loop-branch-preserved : goal.best_of_each-loop-branch-preserved
best_of_each-loop-branch-preserved t c =
    let before = c.loop-branch.words.items in
    let more = c.in-Some.more.words.items in
    let next = trees_from c.args.branches.now c.loop-branch.branch-index c.branch-item.result c.loop-branch-test.true c.branch-item.is in
    let joined : before ++ more ≡ c.append.new.self.items = sym c.in_ok-append.ensures.items in
    record {
      few = omega (arith, c.in_ok-append.ensures);
      has = λ line i j e h. elim (c.loop-branch.invariant.has line i j e h) [
        | inl has ↦ inl (subst (λ (ws : List Word). HasWord ws (with_newline line)) joined (one_before (with_newline line) before more has))
        | inr left ↦ elim (subst (λ (ts : Trees). MatchesBranch line ts i j) next left) [
          | inl here_matched ↦ inl (subst (λ (ws : List Word). HasWord ws (with_newline line)) joined
              (one_after (with_newline line) before more (subst (HasWordOf line) c.in-Some.is
              (c.in_ok-more.ensures line i j e (here_matched, h.1)))))
          | inr later ↦ inr later
        ]
      ];
    }

pub best_of_each-returns : goal.best_of_each-returns
best_of_each-returns t c = λ line i j e h.
    let end = drop_of_length-le c.args.branches.now {i = c.loop-branch.branch-index} (omega arith) in
    elim (c.loop-branch.invariant.has line i j e h) [
      | inl has ↦ has
      | inr left ↦ absurd (subst (λ (ns : List Node). MatchesBranch line (trees_of ns) i j) end left)
    ]
