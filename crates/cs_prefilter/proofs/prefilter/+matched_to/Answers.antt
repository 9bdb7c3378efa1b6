use Rattle.std.proofs.Common.{◌≡◌, ℕ, ◌+◌, ◌<◌, Bool, List, [], drop, length, inl, inr, refl, sym, ◌∙◌, ap, subst, arith, drop_of_length-le}
use Rattle.std.specs.Prelude.{Option, Some, None, IfSome}
use Rattle.std.proofs.lemmas.List.{get_or_read}
use Rattle.cs_syntax.specs.Matching.{Tree, Trees, more, member, cat, alt, MatchesSpan, MatchesSequence, MatchesBranch}
use Rattle.cs_syntax.specs.Node.{tree_of}
use Rattle.cs_syntax.specs.NodeList.{trees_of}
use Rattle.cs_syntax.specs.declared.node.Node.{Node}
use Rattle.cs_syntax.proofs.NodeLemmas.{tree_of-Set, tree_of-Cat, tree_of-Alt, tree_of-LineStart, tree_of-LineEnd, tree_of-WordEdge}
use Rattle.cs_syntax.proofs.TreeLemmas.{trees_from}
use Rattle.cs_prefilter.specs.declared.word.Word.{Word}
use Rattle.cs_prefilter.specs.Sufficient.{MatchesPart}
use Rattle.cs_prefilter.proofs.SufficientLemmas.{part_set, part_start, part_end, part_edge}
use Rattle.cs_prefilter.proofs.prefilter.+matched_to.Goals as goal
use Rattle.cs_prefilter.proofs.prefilter.+matched_to.Goals.{matched_to_some-then-gt, matched_to_some-else-gt}

-- a part of an equal tree
part_same : (t u : Tree) (word : Word) (from to : ℕ) → t ≡ u → MatchesPart (λ line i j. MatchesSpan line u i j) word from to →
    MatchesPart (λ line i j. MatchesSpan line t i j) word from to
part_same t u word from to e part = subst (λ (v : Tree). MatchesPart (λ line i j. MatchesSpan line v i j) word from to) (sym e) part

-- a part of a tree that matches more spans
more_spans : (S T : List ℕ → ℕ → ℕ → Type 0) (word : Word) (from : ℕ) (to : Option ℕ) → ((line : List ℕ) (i j : ℕ) → S line i j → T line i j) →
    IfSome to (MatchesPart S word from) → IfSome to (MatchesPart T word from)
more_spans S T word from None fewer part = tt
more_spans S T word from (Some to) fewer part = record {
  low = part.low;
  high = part.high;
  spans = λ line at is occurs. fewer line (at + from) (at + to) (part.spans line at is occurs);
}

pub matched_to-returns-then-is_within : goal.matched_to-returns-then-is_within
matched_to-returns-then-is_within t c =
    let word = c.args.word.now in
    let from = c.args.from in
    let sets = word.sets.items in
    let low : from < length sets = omega (arith, c.if-from-len.true, c.len.ensures) in
    let first = get_or_read sets from c.index.result.now low c.index.ensures [] in
    let again = get_or_read sets from c.index-then-not-contains.result.now low c.index-then-not-contains.ensures [] in
    part_same _ _ word from (from + 1) (ap tree_of c.in-Set.is ∙ tree_of-Set c.in-Set.set)
    (part_set word from c.in-Set.set (omega (arith, low))
    (ap (λ (s : List Bool). member s 10) (sym first) ∙ sym c.contains.ensures ∙ c.if-not-contains.true)
    (λ b is. c.is_within.ensures c.if-is_within.true b (ap (λ (s : List Bool). member s b) again ∙ is)))

pub matched_to-returns-in-LineStart : goal.matched_to-returns-in-LineStart
matched_to-returns-in-LineStart t c =
    let e = c.begins_line.ensures c.if-begins_line.true in
    part_same _ _ c.args.word.now c.args.from c.args.from (ap tree_of c.in-LineStart.is ∙ tree_of-LineStart)
    (part_start c.args.word.now c.args.from e.0 e.1 e.2)

pub matched_to-returns-in-LineEnd : goal.matched_to-returns-in-LineEnd
matched_to-returns-in-LineEnd t c =
    let e = c.ends_line.ensures c.if-ends_line.true in
    part_same _ _ c.args.word.now c.args.from c.args.from (ap tree_of c.in-LineEnd.is ∙ tree_of-LineEnd)
    (part_end c.args.word.now c.args.from e.0 (e.1 []))

pub matched_to-returns-in-WordEdge : goal.matched_to-returns-in-WordEdge
matched_to-returns-in-WordEdge t c =
    part_same _ _ c.args.word.now c.args.from c.args.from (ap tree_of c.in-WordEdge.is ∙ tree_of-WordEdge)
    (part_edge c.args.word.now c.args.from (c.has_edge.ensures c.if-has_edge.true))

pub matched_to-returns-in-Cat : goal.matched_to-returns-in-Cat
matched_to-returns-in-Cat t c =
    let e = ap tree_of c.in-Cat.is ∙ tree_of-Cat c.in-Cat.parts ∙ ap (λ (ns : List Node). cat (trees_of ns)) (sym c.deref.ensures.value) in
    subst (λ (u : Tree). IfSome c.matched_to_all.result
    (MatchesPart (λ line i j. MatchesSpan line u i j) c.args.word.now c.args.from)) (sym e) c.matched_to_all.ensures

pub matched_to-returns-in-Alt : goal.matched_to-returns-in-Alt
matched_to-returns-in-Alt t c =
    let e = ap tree_of c.in-Alt.is ∙ tree_of-Alt c.in-Alt.branches ∙ ap (λ (ns : List Node). alt (trees_of ns))
    (sym c.deref-in-Alt.ensures.value) in
    subst (λ (u : Tree). IfSome c.matched_to_some.result
    (MatchesPart (λ line i j. MatchesSpan line u i j) c.args.word.now c.args.from)) (sym e) c.matched_to_some.ensures

pub matched_to_all-loop-part-preserved : goal.matched_to_all-loop-part-preserved
matched_to_all-loop-part-preserved t c =
    let first = c.in_ok-at.ensures in
    let next = trees_from c.args.parts.now c.loop-part.part-index c.part-item.result c.loop-part-test.true c.part-item.is in
    record {
      within = first.high;
      rest = λ to f. c.loop-part.invariant.rest to
          (subst (λ (ts : Trees). MatchesPart (λ line i j. MatchesSequence line ts i j) c.args.word.now c.loop-part.at
          to) (sym next) (record {
            low = omega (arith, first.low, f.low);
            high = f.high;
            spans = λ line at is occurs. (at + c.in_ok-at.at, first.spans line at is occurs, f.spans line at is occurs);
          }));
    }

pub matched_to_all-returns : goal.matched_to_all-returns
matched_to_all-returns t c =
    let at = c.loop-part.at in
    let end = drop_of_length-le c.args.parts.now {i = c.loop-part.part-index} (omega arith) in
    c.loop-part.invariant.rest at
    (subst (λ (ns : List Node). MatchesPart (λ line i j. MatchesSequence line (trees_of ns) i j) c.args.word.now at at) (sym end)
    (record { low = omega arith; high = c.loop-part.invariant.within; spans = λ line i is occurs. refl }))

pub matched_to_some-loop-branch-preserved : goal.matched_to_some-loop-branch-preserved
matched_to_some-loop-branch-preserved t c =
    let word = c.args.word.now in
    let from = c.args.from in
    let branches = trees_of c.args.branches.now in
    let part = tree_of c.branch-item.result in
    let old = c.loop-branch.invariant in
    let next = trees_from c.args.branches.now c.loop-branch.branch-index c.branch-item.result c.loop-branch-test.true c.branch-item.is in
    let left : (line : List ℕ) (i j : ℕ) → MatchesBranch line (more part (trees_of (drop (c.loop-branch.branch-index + 1) c.args.branches.now))) i j →
    MatchesBranch line branches i j = λ line i j h. old.left line i j (subst (λ (ts : Trees). MatchesBranch line ts i j) (sym next) h) in
    record {
      left = λ line i j h. left line i j (inr h);
      found = elim c.if-gt.branch [
        | matched_to_some-then-gt w ↦
            subst (λ most. IfSome most (MatchesPart (λ line i j. MatchesBranch line branches i j) word from)) (sym w.most-is)
            (more_spans (λ line i j. MatchesSpan line part i j) (λ line i j. MatchesBranch line branches i j) word from c.matched_to-to.result
            (λ line i j h. left line i j (inl h)) c.matched_to-to.ensures)
        | matched_to_some-else-gt w ↦
            subst (λ most. IfSome most (MatchesPart (λ line i j. MatchesBranch line branches i j) word from)) (sym w.most-is) old.found
      ];
    }

pub matched_to_some-returns : goal.matched_to_some-returns
matched_to_some-returns t c = c.loop-branch.invariant.found
