use Rattle.std.proofs.Common.{◌≡◌, ◌++◌, ap, subst, ◌∙◌}
use Rattle.std.specs.Prelude.{string_bytes, IfOk, None}
use Rattle.std.specs.Str.Pattern.{FindsTextPrefix, StripsPrefix}
use Rattle.cs_project.proofs.NameLemmas.{name_stripped, name_whole}
use Rattle.cs_project.proofs.names.NameForm.name.Goals as goal

pub returns-in_ok-push_str-in-Some : goal.returns-in_ok-push_str-in-Some
returns-in_ok-push_str-in-Some c =
    let form = c.args.self.now in
    c.in_ok-push_str-in-Some.ensures.bytes
    ∙ ap (λ p. p ++ c.in-Some.rest.now) (c.in_ok-name-in-Some.ensures.ok ∙ c.as_str-in-Some.ensures.value)
    ∙ name_stripped c.args.path.now (string_bytes form.stem) (string_bytes form.prefix) c.in-Some.rest.now
    (subst (λ s. StripsPrefix (FindsTextPrefix s) c.args.path.now c.in-Some.rest.now) c.as_str.ensures.value c.in-Some.ensures.cases)

pub returns-in-None : goal.returns-in-None
returns-in-None c =
    let form = c.args.self.now in
    subst (λ name. IfOk c.from_str-in-None.result (λ all. string_bytes all ≡ name))
    (name_whole c.args.path.now (string_bytes form.stem) (string_bytes form.prefix)
    (subst (λ s. FindsTextPrefix s c.args.path.now None) c.as_str.ensures.value c.in-None.ensures.cases))
    c.from_str-in-None.ensures.ok
