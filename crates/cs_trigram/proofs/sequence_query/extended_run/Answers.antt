use Rattle.std.proofs.Common.{◌≡◌, ℕ, List, [], subst, length, sym, ap, arith}
use Rattle.cs_syntax.specs.TreeList.{append}
use Rattle.cs_syntax.specs.Matching.{none, more, cat}
use Rattle.cs_trigram.specs.Analysis.{with_strings, concatenations, AreExactStrings}
use Rattle.cs_trigram.proofs.NodeListLemmas.{none_of, some_of}
use Rattle.cs_trigram.proofs.EnumerationLemmas.{some_concatenation}
use Rattle.cs_trigram.proofs.LeadingRunLemmas.{run_append, not_few, not_few_appended}
use Rattle.cs_trigram.proofs.sequence_query.extended_run.Goals as goal

pub returns-in_default : goal.returns-in_default
returns-in_default c = λ run t strings next.
    not_few_appended run t (none_of c.few_strings.result _ _ c.few_strings.ensures c.in_default.not-Some t next)

pub returns-then-len-gt-MAX_EXACT : goal.returns-then-len-gt-MAX_EXACT
returns-then-len-gt-MAX_EXACT c = λ run t strings next.
    let tree = some_of c.few_strings.result c.in-Some.suffixes _ _ c.few_strings.ensures c.in-Some.is t next in
    not_few _ (append run (more t none)) (run_append run t c.args.strings.now c.in-Some.suffixes.now strings.are tree.are).1
    (omega (arith, ap length (c.in_ok-longer.ensures tree.are.1.different tree.few)))

pub returns : goal.returns
returns c = λ run t strings next.
    let ws = c.args.strings.now in
    let us = c.in-Some.suffixes.now in
    let tree = some_of c.few_strings.result c.in-Some.suffixes _ _ c.few_strings.ensures c.in-Some.is t next in
    let same : c.in_ok-longer.longer.items ≡ with_strings [] (concatenations ws us) =
    c.in_ok-longer.ensures tree.are.1.different tree.few in
    subst (λ (vs : List (List ℕ)). AreExactStrings vs (cat (append run (more t none)))) (sym same)
    (record {
      are = run_append run t ws us strings.are tree.are;
      some = some_concatenation ws us strings.some tree.some;
      few = omega (arith, ap length same);
    })
