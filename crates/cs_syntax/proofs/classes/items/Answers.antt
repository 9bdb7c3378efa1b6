use Rattle.std.proofs.Common.{◌≡◌, ◌+◌, ◌&&◌, ◌∷◌, ◌++◌, [], drop, get_or, true, false, not, inr, sym, ◌∙◌, ap, arith, drop_of_length-le}
use Rattle.std.specs.Prelude.{nat_eq}
use Rattle.std.proofs.lemmas.Bool.{ne_eqb}
use Rattle.std.proofs.lemmas.List.{drop-drop}
use Rattle.cs_syntax.specs.Tokens.{item, fault}
use Rattle.cs_syntax.specs.Classes.{items_from, class_token}
use Rattle.cs_syntax.specs.declared.fault.PatternFault.TheVariants.{OpenClass}
use Rattle.cs_syntax.proofs.ListLemmas.{here_is, tail_is, length-tail}
use Rattle.cs_syntax.proofs.ClassLemmas.{with_items, with_items-last, with_items-closed, with_items-failed, items_from-item, items_from-fault, items_from-close, have-last}
use Rattle.cs_syntax.proofs.classes.items.Goals as goal

pub returns-then-closes-clause-value : goal.returns-then-closes-clause-value
returns-then-closes-clause-value c =
    let offset = c.items.offset in
    let text = c.args.text.now in
    let i = c.items.invariant.so_far in
    let closes : (nat_eq (get_or text offset 0) 93 && not (nat_eq offset 0)) ≡ true = sym c.closes.ensures ∙ c.if-closes.true in
    let now = items_from-close (drop offset text) (drop (offset + 1) text) (get_or text offset 0)
    (c.args.distance + offset) (nat_eq offset 0) (here_is text offset c.items-test.true) closes in
    (i.0, sym i.2 ∙ ap (with_items i.0) now ∙ with_items-closed i.0 (c.args.distance + offset), i.1)

pub items-preserved : goal.items-preserved
items-preserved c =
    let offset = c.items.offset in
    let len = c.in-Ok.len in
    let text = c.args.text.now in
    let i = c.items.invariant.so_far in
    let got = c.in-Ok.item in
    let b = get_or text offset 0 in
    let rest = drop (offset + 1) text in
    let open_still : (nat_eq b 93 && not (nat_eq offset 0)) ≡ false = sym c.closes.ensures ∙ c.if-closes.false in
    let found : class_token b rest ≡ item got len = ap (class_token b) (sym (tail_is text (offset + 1))) ∙ sym c.in-Ok.ensures.value in
    let now = items_from-item (drop offset text) rest b (c.args.distance + offset) len (nat_eq offset 0) got
    (here_is text offset c.items-test.true) open_still found in
    let index : c.args.distance + offset + 1 + len ≡ c.args.distance + (offset + (1 + len)) = omega arith in
    let later : nat_eq (offset + (1 + len)) 0 ≡ false = ne_eqb (offset + (1 + len)) 0 (λ e. omega arith) in
    let tail : drop len rest ≡ drop (offset + (1 + len)) text =
    let e : offset + 1 + len ≡ offset + (1 + len) = omega arith in drop-drop len (offset + 1) text ∙ ap (λ n. drop n text) e in
    record {
      so_far = (
        i.0 ++ got ∷ [],
        have-last c.args.fold i.0 got _ _ i.1 c.in_ok-add_item-in-Ok.ensures,
        with_items-last i.0 got _
            ∙ ap (λ r. with_items i.0 r) (rw (← index, later, ← tail) (sym now))
            ∙ i.2,
      );
      within = omega (arith, c.in-Ok.ensures.within, length-tail text (offset + 1));
    }

pub returns-in-Err-clause-value : goal.returns-in-Err-clause-value
returns-in-Err-clause-value c =
    let offset = c.items.offset in
    let text = c.args.text.now in
    let i = c.items.invariant.so_far in
    let b = get_or text offset 0 in
    let rest = drop (offset + 1) text in
    let open_still : (nat_eq b 93 && not (nat_eq offset 0)) ≡ false = sym c.closes.ensures ∙ c.if-closes.false in
    let found : class_token b rest ≡ fault c.in-Err.m.fault c.in-Err.m.distance =
    ap (class_token b) (sym (tail_is text (offset + 1))) ∙ sym c.in-Err.ensures.value in
    let now = items_from-fault (drop offset text) rest b (c.args.distance + offset) c.in-Err.m.distance
    (nat_eq offset 0) c.in-Err.m.fault (here_is text offset c.items-test.true) open_still found in
    inr (sym i.2 ∙ ap (with_items i.0) now ∙ with_items-failed i.0 c.in-Err.m.fault (c.args.distance + offset + c.in-Err.m.distance))

pub returns-clause-value : goal.returns-clause-value
returns-clause-value c =
    let i = c.items.invariant.so_far in
    let none = drop_of_length-le c.args.text.now {i = c.items.offset} c.items-test.false in
    rw c.at_start.ensures (inr (sym i.2 ∙ ap
    (λ t. with_items i.0 (items_from 0 (c.args.distance + c.items.offset) (nat_eq c.items.offset 0) t)) none
    ∙ with_items-failed i.0 OpenClass 0))
