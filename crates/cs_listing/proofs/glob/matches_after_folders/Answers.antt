use Rattle.std.proofs.Common.{◌<◌, ◌+◌, ◌||◌, ◌∷◌, length, drop, sym, ap, ◌∙◌, arith}
use Rattle.std.proofs.lemmas.List.{length-drop, drop-drop, take_rest}
use Rattle.cs_listing.specs.Globs.{folders, matches_path}
use Rattle.cs_listing.specs.MatchWork.{pair_work}
use Rattle.cs_listing.specs.Models.{glob_of, names}
use Rattle.cs_listing.proofs.PathLemmas.{folders_again, folders_later, later_is_path_match, path_matches_later}
use Rattle.cs_listing.proofs.WorkLemmas.{paid, paid_last, falls_at_star, falls_again, pair_less, path_work_is}
use Rattle.cs_listing.proofs.glob.matches_after_folders.Goals as goal

pub elements-preserved-in-Folders : goal.elements-preserved-in-Folders
elements-preserved-in-Folders c =
    let path = c.args.path.now in
    let own = c.args.glob.now in
    let at = c.elements.at in
    let inv = c.elements.invariant in
    let says = c.in-Folders.ensures.says in
    let takes = (rw (take_rest path at) at c.in-Folders.ensures.work) in
    let less = pair_less (glob_of c.elements.left.now) (glob_of own) at path inv.large in
    let later = c.in-Folders.later.now in
    let rest = names (drop at path) in
    record {
      same = folders_again (glob_of c.elements.left.now) (glob_of later) rest _ _ says.0 inv.same inv.absorbed;
      absorbed = later_is_path_match (glob_of later) rest;
      short = omega (arith, says.1, inv.short);
      fewer = omega (arith, says.1, inv.short);
      later = omega arith;
      within = inv.within;
      large = omega (arith, says.2, inv.large);
      again = omega (arith, says.2, inv.large);
      rises = omega (arith, inv.rises, takes.0);
      work = paid (pair_work (glob_of own) (names path) + 1) c.elements.steps.count c.path_step.new.steps.count _ _ _ inv.work
          (omega (arith, takes.1, less))
          (falls_at_star (length path) c.elements.from at (length own) (length c.elements.left.now) (length later) inv.later
          (omega (arith, says.1)));
    }

pub elements-preserved-in-Name : goal.elements-preserved-in-Name
elements-preserved-in-Name c =
    let path = c.args.path.now in
    let own = c.args.glob.now in
    let at = c.elements.at in
    let inv = c.elements.invariant in
    let says = (rw (take_rest path at) at c.in-Name.ensures.says) in
    let takes = (rw (take_rest path at) at c.in-Name.ensures.work) in
    let less = pair_less (glob_of c.elements.left.now) (glob_of own) at path inv.large in
    let glob = glob_of c.in-Name.later.now in
    let next = drop-drop 1 at path in
    let old = path_matches_later (glob_of c.elements.after.now) (names (drop c.elements.from path)) in
    record {
      same = inv.same ∙ ap (λ t. t || old) (says.0 ∙ ap (λ p. matches_path glob (names p)) next);
      absorbed = λ is. sym (ap (λ p. matches_path (folders ∷ glob) (names p)) next) ∙ says.1 (inv.absorbed is);
      short = omega (arith, says.2, inv.short);
      fewer = inv.fewer;
      later = omega (arith, inv.later);
      within = omega (arith, says.3, length-drop at path);
      large = omega (arith, says.4, inv.large);
      again = inv.again;
      rises = omega (arith, inv.rises, takes.0);
      work = paid (pair_work (glob_of own) (names path) + 1) c.elements.steps.count c.path_step.new.steps.count _ _ _ inv.work
          (omega (arith, takes.1, less)) (omega (arith, says.2));
    }

pub elements-preserved : goal.elements-preserved
elements-preserved c =
    let path = c.args.path.now in
    let own = c.args.glob.now in
    let at = c.elements.at in
    let from = c.elements.from in
    let inv = c.elements.invariant in
    let says = (rw (take_rest path at) at c.in-Mismatch.ensures.says) in
    let takes = (rw (take_rest path at) at c.in-Mismatch.ensures.work) in
    let less = pair_less (glob_of c.elements.left.now) (glob_of own) at path inv.large in
    let glob = glob_of c.elements.after.now in
    let old = path_matches_later glob (names (drop from path)) in
    let before : from < length path = omega (arith, inv.later, inv.within) in
    record {
      same = inv.same ∙ ap (λ t. t || old) says ∙ folders_later glob path from before;
      absorbed = later_is_path_match glob (names (drop (from + 1) path));
      short = inv.fewer;
      fewer = inv.fewer;
      later = omega arith;
      within = omega arith;
      large = inv.again;
      again = inv.again;
      rises = omega (arith, inv.rises, takes.0);
      work = paid (pair_work (glob_of own) (names path) + 1) c.elements.steps.count c.path_step.new.steps.count _ _ _ inv.work
          (omega (arith, takes.1, less))
          (falls_again (length path) from (length own) (length c.elements.left.now) (length c.elements.after.now) before inv.fewer);
    }

pub returns-in-End-clause-work : goal.returns-in-End-clause-work
returns-in-End-clause-work c =
    let path = c.args.path.now in
    let own = c.args.glob.now in
    let inv = c.elements.invariant in
    let takes = (rw (take_rest path c.elements.at) at c.in-End.ensures.work) in
    let less = pair_less (glob_of c.elements.left.now) (glob_of own) c.elements.at path inv.large in
    let all = paid_last (pair_work (glob_of own) (names path) + 1) (length path) c.elements.from (length own) (length c.elements.left.now)
    c.elements.steps.count c.path_step.new.steps.count c.args.steps.now.count inv.work (omega (arith, takes.1, less)) in
    (omega (arith, inv.rises, takes.0), omega (arith, all, path_work_is own path))

pub returns-then-from-path-clause-work : goal.returns-then-from-path-clause-work
returns-then-from-path-clause-work c =
    let path = c.args.path.now in
    let own = c.args.glob.now in
    let inv = c.elements.invariant in
    let takes = (rw (take_rest path c.elements.at) at c.in-Mismatch.ensures.work) in
    let less = pair_less (glob_of c.elements.left.now) (glob_of own) c.elements.at path inv.large in
    let all = paid_last (pair_work (glob_of own) (names path) + 1) (length path) c.elements.from (length own) (length c.elements.left.now)
    c.elements.steps.count c.path_step.new.steps.count c.args.steps.now.count inv.work (omega (arith, takes.1, less)) in
    (omega (arith, inv.rises, takes.0), omega (arith, all, path_work_is own path))
