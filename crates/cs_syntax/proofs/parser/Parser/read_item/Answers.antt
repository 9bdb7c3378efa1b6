use Rattle.std.proofs.Common.{◌≡◌, inl, inr, ◌+◌, drop, get_or, true≢false, sym, ◌∙◌, ap, subst, rules}
use Rattle.cs_syntax.specs.Tokens.{fault}
use Rattle.cs_syntax.specs.Items.{next_token}
use Rattle.cs_syntax.specs.ParserState.{state_of, parse_from_state, IsErrorOf}
use Rattle.cs_syntax.proofs.ListLemmas.{here_is, tail_is, suffix_after_item}
use Rattle.cs_syntax.proofs.ParserStepLemmas.{parse_from_state-skip, StepKeeps, step_keeps, fault-reads, stop_is_error}
use Rattle.cs_syntax.proofs.parser.Parser.read_item.Goals as goal

pub returns-in_ok-apply-in-Ok-clause-same : goal.returns-in_ok-apply-in-Ok-clause-same
unfolding state_of
returns-in_ok-apply-in-Ok-clause-same c =
    let text = c.args.text.now in
    let offset = c.args.offset in
    let len = c.in-Ok.len in
    let b = get_or text offset 0 in
    let s = state_of c.args.self.now in
    let new = state_of c.apply.new.self in
    let kept = subst (StepKeeps len offset b (drop (offset + 1) text) s) c.in_ok-apply-in-Ok.ensures.goes_on
    (step_keeps text offset len s c.in-Ok.item c.requires.inside c.requires.kept c.in-Ok.ensures.value) in
    ap (parse_from_state new 0 (offset + 1 + len)) (sym (suffix_after_item text offset len))
    ∙ sym (parse_from_state-skip new len (offset + 1) (drop (offset + 1) text))
    ∙ kept.0
    ∙ ap (parse_from_state s 0 offset) (sym (here_is text offset c.requires.inside))

pub returns-in_ok-apply-in-Ok-clause-still : goal.returns-in_ok-apply-in-Ok-clause-still
unfolding state_of
returns-in_ok-apply-in-Ok-clause-still c =
    let text = c.args.text.now in
    let offset = c.args.offset in
    let s = state_of c.args.self.now in
    (subst (StepKeeps c.in-Ok.len offset (get_or text offset 0) (drop (offset + 1) text) s) c.in_ok-apply-in-Ok.ensures.goes_on
    (step_keeps text offset c.in-Ok.len s c.in-Ok.item c.requires.inside c.requires.kept c.in-Ok.ensures.value)).1

pub returns-in_err-apply-in-Ok-clause-rejected : goal.returns-in_err-apply-in-Ok-clause-rejected
unfolding state_of
returns-in_err-apply-in-Ok-clause-rejected c =
    let text = c.args.text.now in
    let offset = c.args.offset in
    let s = state_of c.args.self.now in
    let kept = step_keeps text offset c.in-Ok.len s c.in-Ok.item c.requires.inside c.requires.kept c.in-Ok.ensures.value in
    let is : IsErrorOf (parse_from_state s 0 offset (drop offset text)) c.in_err-apply-in-Ok.field-0.0 =
    rw (here_is text offset c.requires.inside)
    (stop_is_error s _ offset (get_or text offset 0) c.in-Ok.len (drop (offset + 1) text) c.in_err-apply-in-Ok.field-0.0
    kept c.in_err-apply-in-Ok.ensures.rejected) in
    search rules

pub returns-else-eq-clause-rejected : goal.returns-else-eq-clause-rejected
unfolding state_of
returns-else-eq-clause-rejected c =
    let text = c.args.text.now in
    let offset = c.args.offset in
    let b = get_or text offset 0 in
    let s = state_of c.args.self.now in
    elim c.in-Err.ensures.value [
      | inl memory ↦ let same = rw memory at c.eq.ensures in absurd (true≢false (sym same ∙ c.if-eq.false))
      | inr is ↦
          let found : next_token s.flags b (drop (offset + 1) text) ≡ fault c.in-Err.m.fault c.in-Err.m.distance =
          ap (next_token s.flags b) (sym (tail_is text (offset + 1))) ∙ is in
          inr (ap (parse_from_state s 0 offset) (here_is text offset c.requires.inside)
          ∙ fault-reads offset b c.in-Err.m.distance (drop (offset + 1) text) s c.in-Err.m.fault found)
    ]
