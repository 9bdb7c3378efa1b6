use Rattle.std.proofs.Common.{◌-◌, List, ℕ, length, take, drop, ap, arith}
use Rattle.std.proofs.lemmas.List.{length-drop, take_rest}
use Rattle.cs_index.specs.AscendingIds.{max_ids}
use Rattle.cs_index.proofs.postings.Prefixes.{longer, no_prefix, within_bounds}
use Rattle.cs_index.proofs.encoded_run.by_sixteen.Goals as goal

pub ids-init : goal.ids-init
ids-init c = no_prefix c.args.bytes.now c.args.limit c.args.room

pub ids-preserved : goal.ids-preserved
ids-preserved c =
    let more = c.in-Some.more in
    let is = c.in-Some.ensures.0 in
    let rest : List ℕ = take (length c.args.bytes.now - c.ids.len) (drop c.ids.len c.args.bytes.now) in
    longer c.args.bytes.now c.args.limit c.args.room c.ids.len c.ids.count c.ids.next more c.requires c.ids.invariant
    (within_bounds rest 16 max_ids (c.args.limit - c.ids.count) (c.args.room - c.ids.next) more is
    (let b = is.bound in omega (arith, b)) (omega arith))

pub ids-smaller : goal.ids-smaller
ids-smaller c =
    let taken = c.in-Some.ensures.1 in
    let within = c.in-Some.ensures.0.within in
    let left = length-drop c.ids.len c.args.bytes.now in
    let rest = ap length (take_rest c.args.bytes.now c.ids.len) in
    omega (arith, taken, within, left, rest)
