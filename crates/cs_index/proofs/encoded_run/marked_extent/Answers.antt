use Rattle.std.proofs.Common.{◌≡◌, ◌≤◌, ◌+◌, ◌-◌, ℕ, List, length, take, drop, sym, subst, arith}
use Rattle.std.proofs.lemmas.List.{take_rest}
use Rattle.cs_index.specs.AscendingIds.{max_ids}
use Rattle.cs_index.specs.IdStream.{ids_in, IsMarked, IsStream}
use Rattle.cs_index.proofs.postings.EncodedRuns.{joined_ids, marked_more, marked_none, none_in}
use Rattle.cs_index.proofs.postings.Prefixes.{longer, no_prefix}
use Rattle.cs_index.proofs.encoded_run.marked_extent.Goals as goal

pub ids-init : goal.ids-init
ids-init c = record {
  prefix = no_prefix c.args.bytes.now c.args.limit c.args.room;
  marks = subst (λ (ids : List ℕ). IsMarked c.args.at ids c.args.row.now c.args.row.now) (sym none_in)
      (marked_none c.args.at c.args.row.now);
}

pub ids-preserved : goal.ids-preserved
ids-preserved c =
    let i = c.ids.invariant in
    let bytes : List ℕ = c.args.bytes.now in
    let more = c.marked_part-more.result in
    let e = c.marked_part-more.ensures in
    let rest : take (length bytes - c.ids.len) (drop c.ids.len bytes) ≡ drop c.ids.len bytes = take_rest bytes c.ids.len in
    let stream : IsStream (take more.len (drop c.ids.len bytes)) more.count more.next =
    subst (λ bs. IsStream (take more.len bs) more.count more.next) rest e.prefix.stream in
    let fits : c.ids.next + more.next ≤ max_ids = omega (arith, e.prefix.below, i.prefix.below, c.requires.bound) in
    record {
      prefix = longer bytes c.args.limit c.args.room c.ids.len c.ids.count c.ids.next more c.requires.bound i.prefix e.prefix;
      marks = marked_more c.args.at c.ids.next (ids_in (take c.ids.len bytes) c.ids.count)
          (ids_in (take more.len (drop c.ids.len bytes)) more.count) (ids_in (take (c.ids.len + more.len) bytes) (c.ids.count + more.count))
          c.args.row.now c.ids.row c.marked_part-more.new.row
          (joined_ids bytes c.ids.len c.ids.count c.ids.next more.len more.count more.next i.prefix.stream stream fits) i.marks
          (subst (λ (bs : List ℕ). IsMarked (c.args.at + c.ids.next) (ids_in (take more.len bs) more.count) c.ids.row
          c.marked_part-more.new.row) rest e.marks);
    }
