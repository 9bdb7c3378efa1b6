use Rattle.std.proofs.Common.{◌||◌, length, sym, ap, ◌∙◌, arith}
use Rattle.cs_listing.specs.MatchWork.{tokens_work}
use Rattle.cs_listing.specs.Models.{tokens_of}
use Rattle.cs_listing.proofs.NameLemmas.{matches_later, star_again, star_split, later_is_match}
use Rattle.cs_listing.proofs.StarLemmas.{jump_paid, next_jump_paid, jump_falls, next_jump_falls}
use Rattle.cs_listing.proofs.glob.matches_after_star.Goals as goal

pub tokens-init : goal.tokens-init
tokens-init c =
    let tokens = tokens_of c.args.tokens.now in
    let rest = c.from_first-from.result.now in
    let skips = c.from_first-from.ensures in
    let paid = jump_paid (length c.args.name.now) (length c.args.name.now) (length rest) (tokens_work tokens) (omega arith) skips.shorter in
    record {
      same = skips.matches ∙ star_split tokens rest;
      absorbed = later_is_match tokens rest;
      short = omega arith;
      fewer = omega arith;
      within = omega arith;
      left = omega arith;
      again = omega arith;
      rises = omega (arith, skips.work, skips.shorter);
      work = omega (arith, skips.work, skips.shorter, paid);
    }

pub tokens-preserved-in-Star : goal.tokens-preserved-in-Star
tokens-preserved-in-Star c =
    let inv = c.tokens.invariant in
    let says = c.in-Star.ensures.says in
    let takes = c.in-Star.ensures.takes in
    let later = tokens_of c.in-Star.later.now in
    let here = c.tokens.rest.now in
    let rest = c.from_first-from-in-Star.result.now in
    let skips = c.from_first-from-in-Star.ensures in
    let paid = jump_paid (length c.tokens.from.now) (length here) (length rest) (tokens_work (tokens_of c.args.tokens.now)) inv.within skips.shorter in
    record {
      same = star_again (tokens_of c.tokens.left.now) later here _ _ says.0 inv.same inv.absorbed
          ∙ sym (star_split later here) ∙ skips.matches ∙ star_split later rest;
      absorbed = later_is_match later rest;
      short = omega (arith, says.1, inv.short);
      fewer = omega (arith, says.1, inv.short);
      within = omega arith;
      left = omega (arith, takes.1, inv.left);
      again = omega (arith, takes.1, inv.left);
      rises = omega (arith, takes.2, inv.rises, skips.work, skips.shorter);
      work = omega (arith, takes.0, inv.work, paid, skips.work, skips.shorter);
    }

pub tokens-smaller-in-Star : goal.tokens-smaller-in-Star
tokens-smaller-in-Star c =
    jump_falls (length c.tokens.from.now) (length c.from_first-from-in-Star.result.now) (length c.args.tokens.now) (length c.tokens.left.now)
    (length c.in-Star.later.now) (omega (arith, c.from_first-from-in-Star.ensures.shorter, c.tokens.invariant.within)) c.in-Star.ensures.says.1

pub tokens-preserved-in-Byte : goal.tokens-preserved-in-Byte
tokens-preserved-in-Byte c =
    let inv = c.tokens.invariant in
    let says = c.in-Byte.ensures.says in
    let takes = c.in-Byte.ensures.takes in
    let old = matches_later (tokens_of c.tokens.after.now) c.tokens.from.now in
    record {
      same = inv.same ∙ ap (λ t. t || old) says.0;
      absorbed = λ is. says.1 (inv.absorbed is);
      short = omega (arith, says.2, inv.short);
      fewer = inv.fewer;
      within = omega (arith, says.3, inv.within);
      left = omega (arith, takes.1, inv.left);
      again = inv.again;
      rises = omega (arith, takes.2, inv.rises);
      work = omega (arith, takes.0, inv.work);
    }

pub tokens-preserved : goal.tokens-preserved
tokens-preserved c =
    let inv = c.tokens.invariant in
    let says = c.in-Mismatch.ensures.says in
    let takes = c.in-Mismatch.ensures.takes in
    let after = tokens_of c.tokens.after.now in
    let more = c.in-Some.more.now in
    let rest = c.from_first-from-in-Mismatch.result.now in
    let skips = c.from_first-from-in-Mismatch.ensures in
    let next = c.in-Some.ensures.cases in
    let old = matches_later after c.tokens.from.now in
    let paid = next_jump_paid (length c.tokens.from.now) (length more) (length rest) (tokens_work (tokens_of c.args.tokens.now)) next.1 skips.shorter in
    record {
      same = inv.same ∙ ap (λ t. t || old) says ∙ ap (matches_later after) next.0 ∙ skips.matches ∙ star_split after rest;
      absorbed = later_is_match after rest;
      short = inv.fewer;
      fewer = inv.fewer;
      within = omega arith;
      left = inv.again;
      again = inv.again;
      rises = omega (arith, takes.0, inv.rises, skips.work, skips.shorter);
      work = omega (arith, takes.1, inv.work, inv.again, paid, skips.work, skips.shorter);
    }

pub tokens-smaller : goal.tokens-smaller
tokens-smaller c =
    next_jump_falls (length c.tokens.from.now) (length c.in-Some.more.now) (length c.from_first-from-in-Mismatch.result.now) (length c.args.tokens.now)
    (length c.tokens.left.now) (length c.tokens.after.now) c.in-Some.ensures.cases.1 c.from_first-from-in-Mismatch.ensures.shorter c.tokens.invariant.fewer

pub returns-in-End-clause-work : goal.returns-in-End-clause-work
returns-in-End-clause-work c =
    let inv = c.tokens.invariant in
    let takes = c.in-End.ensures.takes in
    (omega (arith, inv.rises, takes.0), omega (arith, inv.work, takes.1))

pub returns-in_default-clause-work : goal.returns-in_default-clause-work
returns-in_default-clause-work c =
    let inv = c.tokens.invariant in
    let takes = c.in-Mismatch.ensures.takes in
    (omega (arith, inv.rises, takes.0), omega (arith, inv.work, takes.1))
