use Rattle.std.proofs.Common.{sym, ◌∙◌, arith}
use Rattle.std.proofs.lemmas.Bool.{false≢true, false_from_ne_true}
use Rattle.cs_listing.proofs.EndLemmas.{no_star, no_bytes, other_byte, same_byte, last_work}
use Rattle.cs_listing.proofs.glob.ends_match.Goals as goal

pub returns-in-Star-clause-work : goal.returns-in-Star-clause-work
returns-in-Star-clause-work c =
    let inv = c.tokens.invariant in
    let work = last_work c.tokens.left.now c.in-Some.before.now c.in-Some.token.now c.in-Some.ensures.cases in
    (omega (arith, inv.rises, c.count.ensures), omega (arith, inv.work, c.count.ensures, work))

pub returns-in_default-split_last : goal.returns-in_default-split_last
returns-in_default-split_last c =
    let inv = c.tokens.invariant in
    let other = no_star c.in-Some.token.now c.in_default-token.not-Star in
    let work = last_work c.tokens.left.now c.in-Some.before.now c.in-Some.token.now c.in-Some.ensures.cases in
    record {
      ends = λ is_false. false_from_ne_true _ (λ is. false≢true (sym (no_bytes c.tokens.left.now c.in-Some.before.now c.in-Some.token.now
          c.tokens.rest.now c.in-Some.ensures.cases other c.in_default-split_last.ensures.cases) ∙ inv.ends is));
      work = (omega (arith, inv.rises, c.count.ensures), omega (arith, inv.work, c.count.ensures, work));
    }

pub returns-then-not-accepts : goal.returns-then-not-accepts
returns-then-not-accepts c =
    let inv = c.tokens.invariant in
    let other = no_star c.in-Some.token.now c.in_default-token.not-Star in
    let work = last_work c.tokens.left.now c.in-Some.before.now c.in-Some.token.now c.in-Some.ensures.cases in
    record {
      ends = λ is_false. false_from_ne_true _ (λ is. false≢true (sym (other_byte c.tokens.left.now c.in-Some.before.now c.in-Some.token.now
          c.tokens.rest.now c.in-Some.ensures.cases other c.in-Some-split_last.start.now c.in-Some-split_last.byte.now
          c.in-Some-split_last.ensures.cases (sym c.accepts.ensures ∙ c.if-not-accepts.true)) ∙ inv.ends is));
      work = (omega (arith, inv.rises, c.count.ensures), omega (arith, inv.work, c.count.ensures, work));
    }

pub tokens-preserved : goal.tokens-preserved
tokens-preserved c =
    let inv = c.tokens.invariant in
    let other = no_star c.in-Some.token.now c.in_default-token.not-Star in
    let work = last_work c.tokens.left.now c.in-Some.before.now c.in-Some.token.now c.in-Some.ensures.cases in
    record {
      ends = λ is. same_byte c.tokens.left.now c.in-Some.before.now c.in-Some.token.now c.tokens.rest.now c.in-Some.ensures.cases other
          c.in-Some-split_last.start.now c.in-Some-split_last.byte.now c.in-Some-split_last.ensures.cases (inv.ends is);
      rises = omega (arith, inv.rises, c.count.ensures);
      work = omega (arith, inv.work, c.count.ensures, work);
    }
