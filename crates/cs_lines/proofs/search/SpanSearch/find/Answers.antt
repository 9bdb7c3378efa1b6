use Rattle.std.proofs.Common.{◌≡◌, ℕ, Bool, true, false, not, ◌||◌, List, ◌++◌, length, take, drop, sym, subst, ◌∙◌, arith}
use Rattle.std.proofs.lemmas.Bool.{false≢true}
use Rattle.std.proofs.lemmas.List.{take_at}
use Rattle.cs_match.specs.Span.{AreSpansFrom}
use Rattle.cs_match.specs.SpanList.{first_spans}
use Rattle.cs_match.specs.declared.spans.Span.{Span}
use Rattle.cs_lines.specs.Ordered.{AreOrdered}
use Rattle.cs_lines.proofs.SpanListLemmas.{spans_ordered}
use Rattle.cs_lines.proofs.search.SpanSearch.find.Goals as goal

-- a `Vec` after a call that borrowed it as a slice
refilled : (n : ℕ) (items new : List Span) → length new ≡ n → take n (new ++ drop (length new) items) ≡ new
refilled n items new e = take_at new (drop (length new) items) n e

second : (a b : Bool) → (a || b) ≡ false → b ≡ false
second true b e = absurd (false≢true (sym e))
second false b e = e

pub returns-clause-ordered : goal.returns-clause-ordered
returns-clause-ordered c =
    let old = c.args.self.now in
    let listed = c.list-listed.result in
    subst (λ (items : List Span). AreOrdered 0 (length c.args.line.now) (first_spans listed.count items))
    (sym (refilled _ _ c.list-listed.new.spans (c.list-listed.ensures.listed.size ∙ c.deref_mut.ensures.len)))
    (spans_ordered (not listed.stopped) c.args.whole old.finder.tree c.args.line.now (first_spans listed.count c.list-listed.new.spans) 0 0 (omega arith)
    c.list-listed.ensures.listed.spans)

pub returns-clause-spans : goal.returns-clause-spans
returns-clause-spans c = λ none.
    let old = c.args.self.now in
    let listed = c.list-listed.result in
    let all : listed.stopped ≡ false = second old.stopped listed.stopped (sym c.either-self.ensures ∙ none) in
    subst (λ (items : List Span). AreSpansFrom true c.args.whole old.finder.tree c.args.line.now 0 0 (first_spans listed.count items))
    (sym (refilled _ _ c.list-listed.new.spans (c.list-listed.ensures.listed.size ∙ c.deref_mut.ensures.len)))
    (subst (λ stopped. AreSpansFrom (not stopped) c.args.whole old.finder.tree c.args.line.now 0 0 (first_spans listed.count c.list-listed.new.spans)) all
    c.list-listed.ensures.listed.spans)
