use Rattle.std.proofs.Common.{sym, ap, subst, false, Some}
use Rattle.std.specs.Prelude.{option_map, string_bytes}
use Rattle.cs_syntax.specs.ParseErrors.{IsParseError}
use Rattle.cs_search.specs.IndexSearch.{FileRefused}
use Rattle.cs_search.proofs.CsearchLemmas.{file_refused}
use Rattle.cs_search.proofs.selection.compile_file.Goals as goal

pub returns-in-Err-clause-refused : goal.returns-in-Err-clause-refused
returns-in-Err-clause-refused c =
    let text = string_bytes c.in-Some.text in
    let error = c.in-Err.error in
    let refused = file_refused text error (subst (λ t. IsParseError t false error) c.as_str.ensures.value c.in-Err.ensures.rejected) in
    subst (λ t. FileRefused t c.file_fault.result) (sym (ap (option_map string_bytes) c.in-Some.is))
    (subst (λ fault. FileRefused (Some text) fault) (sym c.file_fault.ensures) refused)
