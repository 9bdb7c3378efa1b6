use Rattle.std.proofs.Common.{◌≡◌, ◌+◌, ◌-◌, ap, sym, arith}
use Rattle.cs_index.specs.PostingLists.{Ids}
use Rattle.cs_index.specs.StoredLists.{before}
use Rattle.cs_index.specs.PostingsInvariant.{remaining_ids}
use Rattle.cs_index.specs.AscendingIds.{ids_onward, max_ids}
use Rattle.cs_index.proofs.postings.EncodedRuns.{all_below, run_skipped}
use Rattle.cs_index.proofs.reading.postings.Postings.encoded_run.Goals as goal

pub returns : goal.returns
returns c =
    let s = c.self.inside in
    let is : c.args.self.now ≡ before (ids_onward (c.args.last + 1) c.prefix-ids.result.0)
    (remaining_ids s.has_ended (record s.decoder { left = s.decoder.left - c.len.result; next = s.decoder.next + c.next.result })
    c.prefix-ids.result.1.now) =
    run_skipped s.has_ended s.decoder c.args.last c.len.result c.next.result s.bytes.now
    c.prefix-ids.result.1.now c.prefix-ids.result.0 c.args.self.now
    c.self.view_is c.if-self.false (omega (arith, c.if-self-eq0.false, c.if-last-self.false)) c.self.invariant.bound
    c.next.ensures.rise (omega (
      arith,
      c.next.ensures.value,
      c.prefix-ids.ensures.below,
      c.saturating_sub-room.ensures,
      c.min.ensures,
      c.self.invariant.within,
    ))
    c.len.ensures (omega (arith, c.len.ensures, c.prefix-ids.ensures.bound)) c.next.ensures.value c.prefix-ids.ensures.bytes in
    record {
      ids = ap (λ (r : Ids). r.ids) is;
      below = all_below max_ids (c.args.last + 1) c.args.end 0 c.prefix-ids.result.0 c.next.ensures.rise
          (omega (arith, c.prefix-ids.ensures.below, c.saturating_sub-room.ensures, c.min.ensures, c.if-self-eq0.false, c.if-last-self.false));
      whole = ap (λ (r : Ids). r.whole) (sym is);
    }
