use Rattle.std.proofs.Common.{[], ◌&&◌, ◌||◌, ◌+◌, eqb, drop, get_or, map, refl, ap, sym, subst, ◌∙◌}
use Rattle.std.specs.List.{list_any}
use Rattle.std.specs.List.Sorted.{IsStrictlySortedBy}
use Rattle.std.specs.Path.{slash}
use Rattle.std.proofs.lemmas.Bool.{eq-eqb, ne_eqb, and_left, and_right}
use Rattle.std.proofs.lemmas.List.{drop_all}
use Rattle.cs_tree.specs.Cover.{is_ancestor, is_among}
use Rattle.cs_tree.specs.Descents.{tails, after_byte}
use Rattle.cs_tree.specs.NameOrder.{bytes_cmp}
use Rattle.cs_tree.proofs.NarrowLemmas.{ancestor_step, no_ancestor, none_listed, sorted_after}
use Rattle.cs_tree.proofs.ReduceLemmas.{strictly_from}
use Rattle.cs_tree.proofs.among.is_below_one.Goals as goal
use Rattle.cs_tree.proofs.among.is_below_one.Goals.{else-byte-eq47-via-then-byte-eq47+else-first_ends_at, else-byte-eq47-via-else-byte-eq47}

pub bytes-init : goal.bytes-init
bytes-init g c = record { sorted = strictly_from (map g.P.AsStr.text c.args.paths.now) c.requires; left = refl }

pub returns-then-first_ends_at : goal.returns-then-first_ends_at
returns-then-first_ends_at g c =
    let bytes = c.as_bytes-byte-items.result.now in
    let listed = sym c.first_ends_at.ensures ∙ c.if-first_ends_at.true in
    let rest = list_any (λ above. is_ancestor above (drop (c.bytes.at + 1) c.args.path.now))
    (after_byte (get_or bytes c.bytes.at 0) (tails g.P.AsStr.text c.bytes.at c.bytes.rest.now)) in
    sym (c.bytes.invariant.left
    ∙ ancestor_step c.bytes.at c.args.path.now bytes (tails g.P.AsStr.text c.bytes.at c.bytes.rest.now)
    c.as_bytes-byte-items.ensures.value c.bytes-test.true
    ∙ (λ i. (eq-eqb (get_or bytes c.bytes.at 0) slash c.if-byte-eq47.true i && listed i) || rest))

pub returns-then-is_empty : goal.returns-then-is_empty
returns-then-is_empty g c =
    sym (c.bytes.invariant.left
    ∙ none_listed g.P.AsStr.text c.bytes.at (drop c.bytes.at c.args.path.now) c.bytes.rest.now
    (sym c.is_empty.ensures ∙ c.if-is_empty.true))

pub bytes-preserved : goal.bytes-preserved
bytes-preserved g c =
    let text = g.P.AsStr.text in
    let at = c.bytes.at in
    let byte = get_or c.as_bytes-byte-items.result.now at 0 in
    let before = tails text at c.bytes.rest.now in
    record {
      sorted = subst (IsStrictlySortedBy bytes_cmp) (sym c.with_byte-rest.ensures) (sorted_after byte before c.bytes.invariant.sorted);
      left = c.bytes.invariant.left
          ∙ ancestor_step at c.args.path.now c.as_bytes-byte-items.result.now before c.as_bytes-byte-items.ensures.value c.bytes-test.true
          ∙ ap (λ ends. ends || list_any (λ above. is_ancestor above (drop (at + 1) c.args.path.now)) (after_byte byte before))
          (elim c.else-byte-eq47.branch [
            | else-byte-eq47-via-then-byte-eq47+else-first_ends_at w ↦ and_right (eqb byte slash) (is_among before [])
                (sym w.first_ends_at.ensures ∙ w.if-first_ends_at.false)
            | else-byte-eq47-via-else-byte-eq47 w ↦ and_left (eqb byte slash) (is_among before []) (ne_eqb byte slash w.if-byte-eq47.false)
          ])
          ∙ ap (list_any (λ above. is_ancestor above (drop (at + 1) c.args.path.now))) (sym c.with_byte-rest.ensures);
    }

pub returns : goal.returns
returns g c =
    let all = ap (drop c.bytes.at) (sym c.as_bytes-byte-items.ensures.value)
    ∙ drop_all c.bytes.at c.as_bytes-byte-items.result.now c.bytes-test.false in
    let rest = tails g.P.AsStr.text c.bytes.at c.bytes.rest.now in
    sym (c.bytes.invariant.left ∙ ap (λ path. list_any (λ above. is_ancestor above path) rest) all ∙ no_ancestor rest)
