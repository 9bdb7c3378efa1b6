use Rattle.std.proofs.Common.{◌≡◌, ◌≤◌, ◌<◌, ◌+◌, ◌-◌, ◌*◌, ◌^◌, ◌∙◌, ap, sym, ℕ, List, Some, length, take, drop, arith, slice_get}
use Rattle.cs_index.specs.PostingLists.{varint_at}
use Rattle.std.proofs.lemmas.List.{take_rest}
use Rattle.std.specs.Option.{option_copied}
use Rattle.cs_index.proofs.decoding.VarintGroups.{room_more, room_five, group_more, one_group, drop_more}
use Rattle.cs_index.proofs.reading.postings.+groups.Goals as goal

some_room : (room : ℕ) → (room ≡ 0 → ⊥) → 1 ≤ room
some_room room h = omega (arith, h)

pub returns-then-first-lt128-clause-small : goal.returns-then-first-lt128-clause-small
returns-then-first-lt128-clause-small t c = one_group c.args.room c.in_ok-first.field-0.now
    (some_room c.args.room c.if-room-eq0.false) c.if-first-lt128.true

-- the possible values of the remaining groups
rest_small : (room high : ℕ) → room ≤ 5 → 1 ≤ room → high < 128 ^ (room - 1) → 128 * high + 128 ≤ 128 ^ room
rest_small room high bound some small = let more = room_more room some in omega (arith, more, small)

pub overflow_mul-result : goal.overflow_mul-result
overflow_mul-result t c =
    let limit = room_five c.args.room c.requires in
    let all = rest_small c.args.room c.in_ok-high.high c.requires (some_room c.args.room c.if-room-eq0.false) c.in_ok-high.ensures.small in
    omega (arith, limit, all)

pub overflow_add-result : goal.overflow_add-result
overflow_add-result t c =
    let limit = room_five c.args.room c.requires in
    let all = rest_small c.args.room c.in_ok-high.high c.requires (some_room c.args.room c.if-room-eq0.false) c.in_ok-high.ensures.small in
    omega (arith, limit, all)

pub returns-clause-value : goal.returns-clause-value
returns-clause-value t c =
    let bytes : List ℕ = c.args.bytes.now in
    let first : slice_get bytes 0 ≡ Some c.in_ok-first.field-0.now = sym c.first.ensures.value ∙ ap option_copied c.in_ok-first.was in
    let rest : take (length bytes - 1) (drop 1 bytes) ≡ drop 1 bytes = take_rest bytes 1 in
    group_more c.args.room bytes (drop (c.in_ok-high.len + 1) bytes) c.in_ok-first.field-0.now c.in_ok-high.high
    c.in_ok-high.len (some_room c.args.room c.if-room-eq0.false) first c.if-first-lt128.false
    (ap (varint_at (c.args.room - 1)) (sym rest) ∙ c.in_ok-high.ensures.value
    ∙ ap (λ bs. Some (c.in_ok-high.high, drop c.in_ok-high.len bs)) rest ∙ ap (λ bs. Some (c.in_ok-high.high, bs))
    (drop_more c.in_ok-high.len bytes))

pub returns-clause-small : goal.returns-clause-small
returns-clause-small t c =
    let all = rest_small c.args.room c.in_ok-high.high c.requires (some_room c.args.room c.if-room-eq0.false) c.in_ok-high.ensures.small in
    omega (arith, all)
