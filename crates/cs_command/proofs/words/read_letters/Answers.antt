use Rattle.std.proofs.Common.{◌+◌, ◌-◌, length, sym, ap, ◌∙◌, arith}
use Rattle.cs_command.specs.Words.{after_letters}
use Rattle.cs_command.proofs.WordLemmas.{no_letter, switch_letter, valued_end, valued_rest, left_out_letter, unknown_letter, next_at}
use Rattle.cs_command.proofs.words.read_letters.Goals as goal

pub returns-in-Valued-clause-reads : goal.returns-in-Valued-clause-reads
returns-in-Valued-clause-reads c =
    let rest = c.letters.rest.now in
    let at = 1 + (length c.args.letters.now - length rest) in
    c.letters.invariant.same ∙ ap (after_letters c.letters.items.items c.args.index at) c.in-Some.ensures.cases.0
    ∙ valued_end c.letters.items.items c.args.index at c.in-Some.letter.now c.in-Some.behind.now c.in-Valued.valued
    (sym c.letter_option.ensures ∙ c.in-Valued.is) (sym c.is_empty.ensures ∙ c.if-is_empty.true)

pub returns-in-Valued-2-clause-reads : goal.returns-in-Valued-2-clause-reads
returns-in-Valued-2-clause-reads c =
    let rest = c.letters.rest.now in
    let at = 1 + (length c.args.letters.now - length rest) in
    c.letters.invariant.same ∙ ap (after_letters c.letters.items.items c.args.index at) c.in-Some.ensures.cases.0
    ∙ valued_rest c.letters.items.items _ c.args.index at c.in-Some.letter.now c.in-Some.behind.now c.in-Valued.valued
    (sym c.letter_option.ensures ∙ c.in-Valued.is) (sym c.is_empty.ensures ∙ c.if-is_empty.false) c.in_ok-push-in-Valued-2.ensures.items

pub returns-in-LeftOut-clause-fault : goal.returns-in-LeftOut-clause-fault
returns-in-LeftOut-clause-fault c _ =
    let at = 1 + (length c.args.letters.now - length c.letters.rest.now) in
    c.letters.invariant.same ∙ ap (after_letters c.letters.items.items c.args.index at) c.in-Some.ensures.cases.0
    ∙ left_out_letter c.letters.items.items c.args.index at c.in-Some.letter.now c.in-Some.behind.now (sym c.letter_option.ensures ∙ c.in-LeftOut.is)

pub returns-in-Unknown-clause-fault : goal.returns-in-Unknown-clause-fault
returns-in-Unknown-clause-fault c _ =
    let at = 1 + (length c.args.letters.now - length c.letters.rest.now) in
    c.letters.invariant.same ∙ ap (after_letters c.letters.items.items c.args.index at) c.in-Some.ensures.cases.0
    ∙ unknown_letter c.letters.items.items c.args.index at c.in-Some.letter.now c.in-Some.behind.now (sym c.letter_option.ensures ∙ c.in-Unknown.is)

pub letters-preserved : goal.letters-preserved
letters-preserved c =
    let at = 1 + (length c.args.letters.now - length c.letters.rest.now) in
    let cases = c.in-Some.ensures.cases in
    record {
      same = c.letters.invariant.same ∙ ap (after_letters c.letters.items.items c.args.index at) cases.0
          ∙ switch_letter c.letters.items.items c.args.index at c.in-Some.letter.now c.in-Some.behind.now c.in-Switch.switch
          (sym c.letter_option.ensures ∙ c.in-Switch.is)
          ∙ next_at _ _ c.args.index at (1 + (length c.args.letters.now - length c.in-Some.behind.now)) c.in-Some.behind.now
          c.in_ok-push-in-Switch.ensures.items (omega (arith, c.letters.invariant.within, ap length cases.0));
      within = omega (arith, c.letters.invariant.within, ap length cases.0);
    }

pub returns-clause-reads : goal.returns-clause-reads
returns-clause-reads c =
    c.letters.invariant.same ∙ no_letter c.letters.items.items c.args.index (1 + (length c.args.letters.now - length c.letters.rest.now))
    c.letters.rest.now c.in_default.ensures.cases
