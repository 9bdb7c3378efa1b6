use Rattle.std.proofs.Common.{◌≡◌, sym, subst, ◌∙◌}
use Rattle.cs_tree.specs.CleanAnswers.{CleanAnswers}
use Rattle.std.proofs.lemmas.Bool.{true≢false, eq-eqb}
use Rattle.std.specs.Prelude.{string_bytes, IfOk}
use Rattle.cs_tree.proofs.CleanLemmas.{cleaned_absolute, cleaned_relative, fault_absolute, fault_relative, some_text}
use Rattle.cs_tree.proofs.paths.clean.Goals as goal

pub returns-then-is_absolute-clause-ok : goal.returns-then-is_absolute-clause-ok
returns-then-is_absolute-clause-ok c =
    subst (λ p. IfOk c.clean_parts.result (λ path. string_bytes path ≡ p))
    (cleaned_absolute c.args.folder.now c.args.text.now (sym c.is_absolute.ensures ∙ c.if-is_absolute.true))
    c.clean_parts.ensures.ok

pub returns-then-is_absolute-clause-answer : goal.returns-then-is_absolute-clause-answer
returns-then-is_absolute-clause-answer c =
    let some = some_text c.args.text.now (λ e. true≢false (sym (eq-eqb _ 0 e) ∙ sym c.is_empty.ensures ∙ c.if-is_empty.false)) in
    subst (λ o. CleanAnswers o c.clean_parts.result)
    (fault_absolute c.args.folder.now c.args.text.now some (sym c.is_absolute.ensures ∙ c.if-is_absolute.true))
    c.clean_parts.ensures.answer

pub returns-clause-ok : goal.returns-clause-ok
returns-clause-ok c =
    subst (λ p. IfOk c.clean_parts-2.result (λ path. string_bytes path ≡ p))
    (cleaned_relative c.args.folder.now c.args.text.now (sym c.is_absolute.ensures ∙ c.if-is_absolute.false))
    c.clean_parts-2.ensures.ok

pub returns-clause-answer : goal.returns-clause-answer
returns-clause-answer c =
    let some = some_text c.args.text.now (λ e. true≢false (sym (eq-eqb _ 0 e) ∙ sym c.is_empty.ensures ∙ c.if-is_empty.false)) in
    subst (λ o. CleanAnswers o c.clean_parts-2.result)
    (fault_relative c.args.folder.now c.args.text.now some (sym c.is_absolute.ensures ∙ c.if-is_absolute.false))
    c.clean_parts-2.ensures.answer
