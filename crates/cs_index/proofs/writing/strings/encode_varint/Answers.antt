use Rattle.std.proofs.Common.{◌≤◌, ◌<◌, ◌*◌, ◌^◌, ◌/◌, ◌∙◌, subst, sym, arith, ap, length, length-set, refl, ◌∷◌, []}
use Rattle.std.proofs.Math.Nat.{pow-suc}
use Rattle.std.proofs.Math.Numerals.{add-one}
use Rattle.cs_index.proofs.postings.StreamPush.{group_first, group_more, group_end, small_more, four_groups}
use Rattle.cs_index.proofs.writing.strings.encode_varint.Goals as goal
use Rattle.cs_index.proofs.writing.strings.encode_varint.Goals.{then-groups-test+else-len-lt4, else-groups-test}

pub groups-init : goal.groups-init
groups-init c = record
    { bound = omega arith; whole = refl; small = omega arith; so_far = group_first c.args.n (0 ∷ 0 ∷ 0 ∷ 0 ∷ 0 ∷ []) }

pub groups-preserved : goal.groups-preserved
groups-preserved c =
    let l = c.groups in
    let within : l.len < length l.bytes = omega (arith, l.invariant.whole, c.if-len-lt4.true) in
    record {
      bound = omega arith;
      whole = length-set _ _ _ ∙ l.invariant.whole;
      small = subst (λ p. l.rest / 128 * p ≤ c.args.n) (sym (ap (λ k. 128 ^ k) (add-one l.len) ∙ pow-suc 128 l.len))
          (small_more c.args.n l.rest (128 ^ l.len) l.invariant.small);
      so_far = group_more c.args.n l.len l.rest l.bytes c.if-len-lt4.true within c.groups-test.true l.invariant.so_far;
    }

pub returns-clause-groups : goal.returns-clause-groups
returns-clause-groups c =
    let l = c.groups in
    let within : l.len < length l.bytes = omega (arith, l.invariant.whole, l.invariant.bound) in
    let fits : c.args.n < 2 ^ 32 = omega arith in
    let small : l.rest < 128 =
    elim c.groups-test.branch [
      | then-groups-test+else-len-lt4 w ↦ four_groups c.args.n l.len l.rest fits l.invariant.bound w.if-len-lt4.false
          l.invariant.small
      | else-groups-test w ↦ w.groups-test.false
    ] in
    sym (group_end c.args.n l.len l.rest l.bytes l.invariant.bound within small l.invariant.so_far)
