use Rattle.std.proofs.Common.{◌+◌, length, drop, ap, ◌∙◌, arith}
use Rattle.std.proofs.lemmas.List.{length-drop, drop-drop, take_rest}
use Rattle.cs_listing.specs.Globs.{matches_path}
use Rattle.cs_listing.specs.MatchWork.{pair_work}
use Rattle.cs_listing.specs.Models.{glob_of, names}
use Rattle.cs_listing.proofs.WorkLemmas.{paid, paid_path, paid_short, pair_less, path_less, path_work_is}
use Rattle.cs_listing.proofs.glob.matches_path.Goals as goal

pub elements-preserved : goal.elements-preserved
elements-preserved c =
    let path = c.args.path.now in
    let at = c.elements.at in
    let inv = c.elements.invariant in
    let says = (rw (take_rest path at) at c.in-Name.ensures.says) in
    let takes = (rw (take_rest path at) at c.in-Name.ensures.work) in
    let less = pair_less (glob_of c.elements.left.now) (glob_of c.args.glob.now) at path inv.large in
    record {
      same = inv.same ∙ says.0 ∙ ap (λ p. matches_path (glob_of c.in-Name.later.now) (names p)) (drop-drop 1 at path);
      within = omega (arith, says.3, length-drop at path);
      fewer = omega (arith, says.2, inv.fewer);
      large = omega (arith, says.4, inv.large);
      rises = omega (arith, inv.rises, takes.0);
      work = paid (pair_work (glob_of c.args.glob.now) (names path) + 1) c.elements.steps.count c.path_step.new.steps.count (length c.elements.left.now)
          (length c.in-Name.later.now) _ inv.work (omega (arith, takes.1, less)) (omega (arith, says.2));
    }

pub returns-in-Folders-clause-work : goal.returns-in-Folders-clause-work
returns-in-Folders-clause-work c =
    let path = c.args.path.now in
    let glob = c.args.glob.now in
    let at = c.elements.at in
    let inv = c.elements.invariant in
    let later = c.in-Folders.later.now in
    let pair = pair_work (glob_of glob) (names path) + 1 in
    let says = c.in-Folders.ensures.says in
    let takes = (rw (take_rest path at) at c.in-Folders.ensures.work) in
    let work = (rw (take_rest path at) at c.matches_after_folders.ensures.work) in
    let less = pair_less (glob_of c.elements.left.now) (glob_of glob) at path inv.large in
    let rest = path_less later glob at path (omega (arith, says.2, inv.large)) in
    let one = paid pair c.elements.steps.count c.path_step.new.steps.count (length c.elements.left.now) (length later) _ inv.work
    (omega (arith, takes.1, less)) (omega (arith, says.1)) in
    let all = paid_path pair (length path) (length (drop at path)) (length glob) (length later) c.path_step.new.steps.count
    c.matches_after_folders.new.steps.count c.args.steps.now.count one (omega (arith, work.1, rest)) (omega (arith, length-drop at path))
    (omega (arith, says.1, inv.fewer)) in
    (omega (arith, inv.rises, takes.0, work.0), omega (arith, all, path_work_is glob path))

pub returns-in-End-clause-work : goal.returns-in-End-clause-work
returns-in-End-clause-work c =
    let path = c.args.path.now in
    let glob = c.args.glob.now in
    let inv = c.elements.invariant in
    let takes = (rw (take_rest path c.elements.at) at c.in-End.ensures.work) in
    let less = pair_less (glob_of c.elements.left.now) (glob_of glob) c.elements.at path inv.large in
    let all = paid_short (pair_work (glob_of glob) (names path) + 1) (length path) (length glob) (length c.elements.left.now)
    c.elements.steps.count c.path_step.new.steps.count c.args.steps.now.count inv.work (omega (arith, takes.1, less)) in
    (omega (arith, inv.rises, takes.0), omega (arith, all, path_work_is glob path))

pub returns-in-Mismatch-clause-work : goal.returns-in-Mismatch-clause-work
returns-in-Mismatch-clause-work c =
    let path = c.args.path.now in
    let glob = c.args.glob.now in
    let inv = c.elements.invariant in
    let takes = (rw (take_rest path c.elements.at) at c.in-Mismatch.ensures.work) in
    let less = pair_less (glob_of c.elements.left.now) (glob_of glob) c.elements.at path inv.large in
    let all = paid_short (pair_work (glob_of glob) (names path) + 1) (length path) (length glob) (length c.elements.left.now)
    c.elements.steps.count c.path_step.new.steps.count c.args.steps.now.count inv.work (omega (arith, takes.1, less)) in
    (omega (arith, inv.rises, takes.0), omega (arith, all, path_work_is glob path))
