use Rattle.std.proofs.Common.{List, ℕ, ◌-◌, ◌≡◌, [], length, refl, ap, sym, subst, ◌∙◌, arith}
use Rattle.std.specs.Prelude.{count_by}
use Rattle.std.proofs.lemmas.List.{take_all}
use Rattle.std.proofs.lemmas.List.Sums.{count_by-le-length}
use Rattle.cs_match.specs.Deciding.{Decides}
use Rattle.cs_match.specs.Lines.{terminated_lines}
use Rattle.cs_match.specs.Work.{list_work, listed_byte_work}
use Rattle.cs_match.proofs.ChunkLemmas.{AreListed-none}
use Rattle.cs_match.proofs.CountingLemmas.{count_between, count_none, count_on}
use Rattle.cs_match.proofs.DecidabilityLemmas.{matching_is_decidable}
use Rattle.cs_match.proofs.ListingLemmas.{lines_append, listed_count, listed_few}
use Rattle.cs_match.proofs.SearchWorkLemmas.{joined}
use Rattle.cs_match.proofs.WholeLineLemmas.{whole_from}
use Rattle.cs_match.proofs.matcher.Matcher.count.Goals as goal

pub lists-init : goal.lists-init
lists-init c =
    let block = c.args.block.now in
    record {
      lines = (AreListed-none (λ has_match. Decides has_match c.args.self.now.tree) block 0 [] (omega arith)).lines;
      bound = omega arith;
      count = λ has_match decides. count_none has_match block;
      same = refl;
      work = (omega arith, omega arith);
    }

pub list_lines-offset-requires-clause-whole : goal.list_lines-offset-requires-clause-whole
list_lines-offset-requires-clause-whole c = whole_from c.args.block.now 0 c.lists.offset (omega arith) c.requires.whole

pub lists-preserved : goal.lists-preserved
lists-preserved c =
    let block = c.args.block.now in
    let i = c.lists.invariant in
    let e = c.list_lines-offset.ensures in
    let offset = c.lists.offset in
    let to = c.list_lines-offset.result in
    let t = c.args.self.now.tree in
    let decided = matching_is_decidable t in
    let same : length c.listed.result.now ≡ length c.list_lines-offset.new.self.ends = ap (λ (xs : List ℕ). length xs) c.listed.ensures in
    let few = listed_few decided.0 block offset to c.list_lines-offset.new.self.ends e.lines
    (e.listed decided.0 (subst (Decides decided.0) (sym i.same) decided.1)) in
    record {
      lines = lines_append block 0 offset to i.lines e.lines;
      bound = omega (arith, i.bound, same, few, e.moves);
      count = λ has_match decides. omega (
        arith,
        i.count has_match decides,
        same,
        listed_count has_match block offset to c.list_lines-offset.new.self.ends e.lines
            (e.listed has_match (subst (Decides has_match) (sym i.same) decides)),
        count_on has_match block offset to (omega (arith, e.moves)) i.lines.whole,
      );
      same = e.same ∙ i.same;
      work = (
        omega (arith, i.work.0, e.work.0),
        omega (
          arith,
          i.work.1,
          e.work.1,
          ap (λ tree. list_work tree (to - offset)) i.same,
          joined offset to (listed_byte_work t) (omega (arith, e.moves)),
        ),
      );
    }

pub returns-clause-found : goal.returns-clause-found
returns-clause-found c = λ has_match decides.
    let i = c.lists.invariant in
    let block = c.args.block.now in
    let all : c.lists.offset ≡ length block = omega (arith, i.lines.high, c.lists-test.false) in
    i.count has_match decides ∙ ap (λ to. count_between has_match block 0 to) all
    ∙ ap (λ text. count_by has_match (terminated_lines text)) (take_all (length block - 0) block (omega arith))

pub returns-clause-bound : goal.returns-clause-bound
returns-clause-bound c =
    let decided = matching_is_decidable c.args.self.now.tree in
    omega (arith, returns-clause-found c decided.0 decided.1, count_by-le-length decided.0 (terminated_lines c.args.block.now))
