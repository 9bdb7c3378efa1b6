use Rattle.std.proofs.Common.{sym, ◌∙◌}
use Rattle.cs_listing.proofs.GitLemmas.{empty_line, no_text, is_path}
use Rattle.cs_listing.proofs.git_folders.path_after.Goals as goal

pub returns-then-is_empty : goal.returns-then-is_empty
returns-then-is_empty c =
    let cases = c.in_ok-strip_prefix.ensures.cases in
    empty_line c.args.beginning.now c.args.text.now c.in_ok-strip_prefix.field-0.now c.first_line-line.result.now cases.0 cases.1
    c.first_line-line.ensures (sym c.is_empty.ensures ∙ c.if-is_empty.true)

pub returns-in-Ok : goal.returns-in-Ok
returns-in-Ok c =
    let cases = c.in_ok-strip_prefix.ensures.cases in
    is_path c.args.beginning.now c.args.text.now c.in_ok-strip_prefix.field-0.now c.first_line-line.result.now cases.0 cases.1
    c.first_line-line.ensures c.in-Ok.path.now c.in-Ok.ensures.cases.0 c.in-Ok.ensures.cases.1 (sym c.is_empty.ensures ∙ c.if-is_empty.false)

pub returns-in-Err : goal.returns-in-Err
returns-in-Err c =
    let cases = c.in_ok-strip_prefix.ensures.cases in
    no_text c.args.beginning.now c.args.text.now c.in_ok-strip_prefix.field-0.now c.first_line-line.result.now cases.0 cases.1
    c.first_line-line.ensures c.in-Err.ensures.cases.0
