use Rattle.std.proofs.Common.{ℕ, List, sym, ap, ◌∙◌, slice_get}
use Rattle.cs_merge.proofs.Common.{none-some}
use Rattle.cs_merge.proofs.WrittenBelowLemmas.{begin_end, begin_from, has_begun, rises_on, written_more}
use Rattle.cs_merge.proofs.merging_lists.write_below.Goals as goal

pub returns-then-not-is_within-clause-left : goal.returns-then-not-is_within-clause-left
returns-then-not-is_within-clause-left c = begin_from c.args.limit c.ids.list.ids c.in-Some.id
    (sym c.first.ensures.first ∙ c.in-Some.is) (c.is_within.ensures.above c.if-not-is_within.true)

pub returns-then-not-is_within-clause-end : goal.returns-then-not-is_within-clause-end
returns-then-not-is_within-clause-end c = λ none. absurd (none-some c.in-Some.id
    (sym (ap (λ (l : List ℕ). slice_get l 0) none) ∙ sym c.first.ensures.first ∙ c.in-Some.is))

pub ids-preserved : goal.ids-preserved
ids-preserved c =
    let inv = c.ids.invariant in
    let now = c.write_next.new.sections in
    let left = c.write_next.new.list.ids in
    record {
      written = written_more c.args.limit c.args.sections.now c.ids.sections now c.args.list.now.ids c.ids.list.ids left
          inv.written c.in_ok-write_next.ensures.ok;
      begun = has_begun c.args.limit c.ids.sections now c.ids.list.ids left inv.begun c.in_ok-write_next.ensures.ok;
      rise = rises_on c.args.limit c.ids.sections now c.ids.list.ids left inv.begun c.in_ok-write_next.ensures.ok inv.rise;
      whole = c.in_ok-write_next.ensures.whole ∙ inv.whole;
    }

pub returns-clause-left : goal.returns-clause-left
returns-clause-left c = begin_end c.args.limit c.ids.list.ids
    (λ id e. c.in_default.not-Some id (c.first.ensures.first ∙ e))

pub returns-clause-end : goal.returns-clause-end
returns-clause-end c = λ none. c.first.ensures.whole (c.first.ensures.first ∙ ap (λ (l : List ℕ). slice_get l 0) none)
