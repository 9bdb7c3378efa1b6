use Rattle.std.proofs.Common.{◌≡◌, ◌∙◌, ◌+◌, ◌<◌, ◌&&◌, sym, ap, ℕ, Bool, true, length, slice_get, drop, arith}
use Rattle.cs_merge.proofs.Common.{drop_all, list_all, option_map_or, Ids, Parts, ids_read, are_whole_from}
use Rattle.cs_merge.proofs.WholeListLemmas.{whole, whole_at, whole_of, one_less}
use Rattle.cs_merge.proofs.replacing.is_newer_whole_from.Goals as goal

-- whether the list at a position is whole, and the lists after it
one_read : (index : Parts) (position count : ℕ) → count ≡ length index.entries → position < count → (b : Bool) →
    b ≡ whole_at index (slice_get index.entries position) → are_whole_from index position
    ≡ (b && are_whole_from index (position + 1))
one_read index position count long less b e =
    one_less index position (omega (arith, less, long))
    ∙ ap (λ t. t && list_all (whole index) (drop (position + 1) index.entries)) (sym e)

pub returns-then-not-is_whole_list : goal.returns-then-not-is_whole_list
returns-then-not-is_whole_list c =
    let index : Parts = c.args.index.now in
    let one = one_read index c.positions.position c.lists-position-end.result c.lists-position-end.ensures
    c.positions-test.true c.is_whole_list.result
    (c.is_whole_list.ensures
    ∙ ap (λ list. option_map_or (λ (found : ℕ × Ids). found.1.whole) list true) c.list_at.ensures
    ∙ whole_of (ids_read index) (slice_get index.entries c.positions.position)) in
    sym (sym c.positions.invariant ∙ one
    ∙ ap (λ t. t && are_whole_from index (c.positions.position + 1)) c.if-not-is_whole_list.true)

pub positions-preserved : goal.positions-preserved
positions-preserved c =
    let index : Parts = c.args.index.now in
    let one = one_read index c.positions.position c.lists-position-end.result c.lists-position-end.ensures
    c.positions-test.true c.is_whole_list.result
    (c.is_whole_list.ensures
    ∙ ap (λ list. option_map_or (λ (found : ℕ × Ids). found.1.whole) list true) c.list_at.ensures
    ∙ whole_of (ids_read index) (slice_get index.entries c.positions.position)) in
    ap (λ t. t && are_whole_from index (c.positions.position + 1)) (sym c.if-not-is_whole_list.false) ∙ sym one
    ∙ c.positions.invariant

pub returns : goal.returns
returns c =
    let index : Parts = c.args.index.now in
    sym (sym c.positions.invariant
    ∙ ap (list_all (whole index)) (drop_all c.positions.position index.entries (let past = c.positions-test.false in
    omega (arith, past, c.lists-position-end.ensures))))
