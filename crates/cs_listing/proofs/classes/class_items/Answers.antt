use Rattle.std.proofs.Common.{[], ◌+◌, ◌++◌, drop, sym, ap, ◌∙◌, arith, length-drop}
use Rattle.std.specs.Prelude.{Some}
use Rattle.std.proofs.lemmas.List.{take_rest, drop-drop, append-nil}
use Rattle.cs_listing.specs.Classes.{class_items}
use Rattle.cs_listing.proofs.ClassLemmas.{begins_some, item_takes, after_items, after_both, class_ends, class_goes_on, none_after}
use Rattle.cs_listing.proofs.classes.class_items.Goals as goal

pub returns-then-begins_with : goal.returns-then-begins_with
returns-then-begins_with c =
    let text = c.args.text.now in
    let at = c.items.at in
    let n = c.in-Some.len in
    let item = (rw c.in-Some.is at (rw (take_rest text at) at c.in_ok-len.ensures)) in
    let ends = sym (rw (take_rest text (at + n), ← drop-drop n at text) at c.begins_with.ensures) ∙ c.if-begins_with.true in (
      c.items.invariant.same ∙ ap (after_items c.items.ranges.items at) (class_ends (drop at text) item.0 n item.1 ends)
          ∙ after_both c.items.ranges.items item.0 at n (Some ([], 1))
          ∙ ap (λ r. Some (r, at + n + 1)) (append-nil (c.items.ranges.items ++ item.0) ∙ sym item.2),
      omega (arith, begins_some 93 (drop n (drop at text)) ends, length-drop n (drop at text), length-drop at text),
    )

pub items-smaller : goal.items-smaller
items-smaller c =
    let text = c.args.text.now in
    let item = (rw c.in-Some.is at (rw (take_rest text c.items.at) at c.in_ok-len.ensures)) in
    omega (arith, item_takes (drop c.items.at text) item.0 c.in-Some.len item.1, item.3, length-drop c.items.at text)

pub items-preserved : goal.items-preserved
items-preserved c =
    let text = c.args.text.now in
    let at = c.items.at in
    let n = c.in-Some.len in
    let item = (rw c.in-Some.is at (rw (take_rest text at) at c.in_ok-len.ensures)) in
    let goes = sym (rw (take_rest text (at + n), ← drop-drop n at text) at c.begins_with.ensures) ∙ c.if-begins_with.false in
    record {
      same = c.items.invariant.same ∙ ap (after_items c.items.ranges.items at) (class_goes_on (drop at text) item.0 n item.1 goes)
          ∙ after_both c.items.ranges.items item.0 at n (class_items (drop n (drop at text)))
          ∙ ap (λ t. after_items (c.items.ranges.items ++ item.0) (at + n) (class_items t)) (drop-drop n at text)
          ∙ ap (λ r. after_items r (at + n) (class_items (drop (at + n) text))) (sym item.2);
      within = omega (arith, item.3, length-drop at text);
      plain = none_after text at n _ c.name_at-name.ensures.before;
    }
