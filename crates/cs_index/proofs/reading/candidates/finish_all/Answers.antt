use Rattle.std.proofs.Common.{◌≡◌, ◌&&◌, ◌∙◌, ap, sym, subst, List, false, true}
use Rattle.std.proofs.Math.Bool.{and-false, and-true}
use Rattle.std.specs.List.{AllByRecursion}
use Rattle.cs_index.specs.Rows.{lists_are_whole}
use Rattle.cs_index.specs.StoredLists.{ListState, Holds, ids_left}
use Rattle.cs_index.proofs.candidates.WindowRows.{held_parts, whole-append}
use Rattle.cs_index.proofs.reading.candidates.finish_all.Goals as goal

pub returns-then-not-branch-clause-whole : goal.returns-then-not-branch-clause-whole
returns-then-not-branch-clause-whole g c bytes m all =
    let i = c.lists.invariant in
    let before = i.whole bytes m all in
    let rest : List ListState = c.pop.new.self.items in
    let list : ListState = c.in-Some.list in
    let items = c.in-Some.ensures.items in
    let parts = held_parts bytes rest list (subst (λ (ls : List ListState). AllByRecursion (Holds bytes) ls) items before.0) in
    let bad : (ids_left bytes list).whole ≡ false = sym (c.in_ok-finish.ensures.whole bytes (i.keeps ∙ m) parts.1) ∙ c.if-not-branch.true in
    sym (sym before.1 ∙ ap (lists_are_whole bytes) items ∙ whole-append bytes rest list
    ∙ ap (λ b. lists_are_whole bytes rest && b) bad ∙ and-false (lists_are_whole bytes rest))

pub lists-preserved : goal.lists-preserved
lists-preserved g c =
    let i = c.lists.invariant in
    let rest : List ListState = c.pop.new.self.items in
    let list : ListState = c.in-Some.list in
    let items = c.in-Some.ensures.items in
    record {
      whole = λ bytes m all.
          let before = i.whole bytes m all in
          let parts = held_parts bytes rest list (subst (λ (ls : List ListState). AllByRecursion (Holds bytes) ls) items before.0) in
          let good : (ids_left bytes list).whole ≡ true = sym (c.in_ok-finish.ensures.whole bytes (i.keeps ∙ m) parts.1)
          ∙ c.if-not-branch.false in (
            parts.0,
            sym (and-true (lists_are_whole bytes rest)) ∙ ap (λ b. lists_are_whole bytes rest && b) (sym good)
                ∙ sym (whole-append bytes rest list) ∙ ap (lists_are_whole bytes) (sym items) ∙ before.1,
          );
      keeps = c.finish.ensures.store.0 ∙ i.keeps;
      size = c.finish.ensures.store.1 ∙ i.size;
      failed = c.in_ok-finish.ensures.store.2 ∙ i.failed;
    }
