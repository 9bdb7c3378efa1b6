use Rattle.std.proofs.Common.{length, take, sym, ap, subst, arith}
use Rattle.std.proofs.lemmas.List.{length-take}
use Rattle.cs_tree.specs.Transfers.{Consumes}
use Rattle.cs_listing.proofs.ReadLemmas.{consumes_none, read_more, stays_within, whole_read, too_long}
use Rattle.cs_listing.proofs.whole_files.read_up_to.Goals as goal

pub file-init : goal.file-init
file-init g c = record {
  consumed = subst (λ bytes. Consumes (g.S.Source.model c.args.source.now) (g.S.Source.model c.args.source.now) bytes) (sym c.new-bytes.ensures.items)
      (consumes_none (g.S.Source.model c.args.source.now));
  within = omega (arith, ap length c.new-bytes.ensures.items);
  kept = g.met.S.Source.keeps_refl c.args.source.now;
}

pub file-preserved : goal.file-preserved
file-preserved g c =
    let more = take c.in_ok-len.len c.read.new.buf in
    record {
      consumed = read_more (g.S.Source.model c.args.source.now) (g.S.Source.model c.file.source) (g.S.Source.model c.read.new.self)
          c.file.bytes.items more c.extend_from_slice.new.self.items c.in_ok-extend_from_slice.ensures.items c.file.invariant.consumed
          c.in_ok-len.ensures.bytes.0;
      within = stays_within c.file.bytes.items more c.extend_from_slice.new.self.items c.args.limit
          c.in_ok-extend_from_slice.ensures.items
          (omega (arith, c.if-len-limit.false, length-take c.in_ok-len.len c.read.new.buf, c.in_ok-len.ensures.within))
          c.file.invariant.within;
      kept = g.met.S.Source.keeps_trans c.args.source.now c.file.source c.read.new.self c.file.invariant.kept c.in_ok-len.ensures.keeps;
    }

pub returns-then-len-eq0-clause-read : goal.returns-then-len-eq0-clause-read
returns-then-len-eq0-clause-read g c =
    whole_read (g.S.Source.model c.args.source.now) (g.S.Source.model c.file.source) (g.S.Source.model c.read.new.self) c.file.bytes.items
    (take c.in_ok-len.len c.read.new.buf) c.args.limit c.file.invariant.consumed c.in_ok-len.ensures.bytes.0
    (ap (λ n. take n c.read.new.buf) c.if-len-eq0.true) (c.in_ok-len.ensures.bytes.1 c.if-len-eq0.true (omega (arith, c.read.auto.buf)))
    c.file.invariant.within

pub returns-then-len-limit-clause-read : goal.returns-then-len-limit-clause-read
returns-then-len-limit-clause-read g c =
    too_long (g.S.Source.model c.args.source.now) (g.S.Source.model c.file.source) (g.S.Source.model c.read.new.self) c.file.bytes.items
    (take c.in_ok-len.len c.read.new.buf) c.args.limit c.file.invariant.consumed c.in_ok-len.ensures.bytes.0 c.file.invariant.within
    (omega (arith, c.if-len-limit.true, length-take c.in_ok-len.len c.read.new.buf, c.in_ok-len.ensures.within))
