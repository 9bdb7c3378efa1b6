use Rattle.std.proofs.Common.{◌≡◌, ◌+◌, ◌-◌, ◌≤◌, ◌++◌, length, take, drop, refl, sym, ap, subst, ◌∙◌, arith}
use Rattle.cs_match.specs.Deciding.{Decides}
use Rattle.cs_match.specs.Listing.{ListsLines}
use Rattle.cs_match.specs.Work.{list_work, listed_byte_work}
use Rattle.cs_match.proofs.ChunkLemmas.{AreListed-none, AreListed-append, filled, filled-len, own-len}
use Rattle.cs_match.proofs.ListingLemmas.{first_of_rest}
use Rattle.cs_match.proofs.SearchWorkLemmas.{work_on}
use Rattle.cs_match.proofs.WholeLineLemmas.{whole_from}
use Rattle.cs_match.proofs.listing.Lister.list_lines.Goals as goal

pub parts-init : goal.parts-init
parts-init c = record {
  listed = AreListed-none (λ has_match. Decides has_match c.args.self.now.dfa.tree) c.args.block.now c.args.from c.args.ends.now c.requires.within;
  one = λ len none. let no : ⊥ = omega (arith, none) in absurd no;
  same = refl;
  rises = omega arith;
  work = omega arith;
}

pub list_part-part-requires-clause-whole : goal.list_part-part-requires-clause-whole
list_part-part-requires-clause-whole c =
    whole_from c.args.block.now c.args.from c.parts.to c.parts.invariant.listed.lines.low c.requires.whole

pub parts-preserved : goal.parts-preserved
parts-preserved c =
    let i = c.parts.invariant in
    let e = c.list_part-part.ensures in
    let block = c.args.block.now in
    let t = c.args.self.now.dfa.tree in
    let count = c.parts.count in
    let old = c.parts.ends in
    let own = c.list_part-part.new.ends in
    let part = c.list_part-part.result in
    let later = take count old ++ (own ++ drop (length old - count) (drop count old)) in
    let low : count ≤ length old = i.listed.room in
    let size = c.list_part-part.auto.ends in
    let lists : ListsLines t block c.parts.to part own = subst (λ tree. ListsLines tree block c.parts.to part own) i.same e.lists in
    let len : length later ≡ length old = filled-len old own later count (length old) low (omega arith) size refl in
    let all : length own ≡ length old - count = own-len old own later count (length old) low (omega arith) size refl in
    record {
      listed = AreListed-append (λ has_match. Decides has_match t) block c.args.from c.parts.to part.to count part.count old own later
          i.listed lists.listed (omega (arith, len, all, lists.listed.room, low)) (filled old own later count (length old) low (omega arith) size refl part.count lists.listed.room);
      one = λ one counted.
          let single : length old ≡ 1 = omega (arith, len, one) in
          let none : count ≡ 0 = omega (arith, c.if-count-room.true, c.max-room.ensures, c.parts.auto.ends, single) in
          let first = first_of_rest old own count none (omega (arith, all, single, none)) in
          lists.one (omega (arith, all, single, none)) (omega (arith, counted, none)) ∙ ap (λ n. n + 1) (sym first);
      same = e.work.0 ∙ i.same;
      rises = omega (arith, e.work.1.0, i.rises);
      work = omega (
        arith,
        i.work,
        e.work.1.1,
        ap (λ tree. list_work tree (part.to - c.parts.to)) i.same,
        work_on c.args.from c.parts.to part.to (listed_byte_work t) i.listed.lines.low lists.listed.lines.low,
      );
    }
