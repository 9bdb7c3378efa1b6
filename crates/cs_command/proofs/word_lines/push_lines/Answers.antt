use Rattle.std.proofs.Common.{rules, refl, ◌∙◌, arith}
use Rattle.cs_command.proofs.WordLineLemmas.{next_line, last_line, behind_length}
use Rattle.cs_command.proofs.word_lines.push_lines.Goals as goal

pub lines-preserved : goal.lines-preserved
lines-preserved c =
    let cut = c.in-Some.ensures.byte (omega arith) (λ w o h. h) in
    let kept = c.lines.invariant in (
      search rules,
      omega (arith, kept.1, behind_length c.lines.rest.now c.in-Some.text.now c.in-Some.behind.now cut.2 cut.0 cut.1),
      next_line c.lines.lines.items c.push.new.self.items (record { part = c.args.part; at = c.lines.at; text = c.in-Some.text })
          c.lines.rest.now c.in_ok-push.ensures.items c.in-Some.behind.now cut.2 cut.0 cut.1
          ∙ kept.2,
    )

pub returns : goal.returns
returns c =
    let none = (rw c.in_default.is at c.split_once.ensures.byte) (omega arith) (λ w o h. h) in
    last_line c.lines.lines.items c.push-2.new.self.items (record { part = c.args.part; at = c.lines.at; text = c.lines.rest })
    c.lines.rest.now c.in_ok-push-2.ensures.items none refl
    ∙ c.lines.invariant.2
