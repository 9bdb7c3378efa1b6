use Rattle.std.proofs.Common.{◌≡◌, ◌++◌, ℕ, List, Some, Option, Result, Vec, ap, sym, subst, ◌∙◌, map, length}
use Rattle.std.specs.Prelude.{IsUtf8, filter, string_bytes}
use Rattle.std.specs.List.{AllByRecursion}
use Rattle.std.specs.Result.{IsOkAnd}
use Rattle.std.specs.declared.alloc.Global.{Global}
use Rattle.cs_syntax.specs.Matching.{Tree}
use Rattle.cs_index.specs.declared.fault.IndexFault.{IndexFault}
use Rattle.cs_index.specs.NameReading.{ReadsNames}
use Rattle.cs_match.specs.Lines.{terminated_lines}
use Rattle.cs_search.specs.IndexSearch.{AreKept, DecidesNames, names_at, matcher_tree}
use Rattle.cs_search.specs.Selections.{IsBlockOf}
use Rattle.cs_search.proofs.NameBlockLemmas.{block_lines, kept_on, ok_and}
use Rattle.cs_search.proofs.selection.Selection.read_part.Goals as goal

-- the names are read
pub returns-in-Err-clause-read : goal.returns-in-Err-clause-read
returns-in-Err-clause-read g c = λ bytes parts done modelled has below.
    subst (λ (answer : Result (Vec ℕ Global) IndexFault). IsOkAnd answer (λ block. ReadsNames bytes parts c.read_block.new.reader
    × IsBlockOf (names_at parts.names c.args.ids.now) block.items)) c.in-Err.is
    (c.in_ok-block.ensures.read bytes parts modelled has.reads below)

-- a name has a newline
pub returns-then-line_count-ids-clause-read : goal.returns-then-line_count-ids-clause-read
returns-then-line_count-ids-clause-read g c = λ bytes parts done modelled has below.
    let read = subst (λ (answer : Result (Vec ℕ Global) IndexFault). IsOkAnd answer (λ block. ReadsNames bytes parts c.read_block.new.reader
    × IsBlockOf (names_at parts.names c.args.ids.now) block.items)) c.in-Ok.is
    (c.in_ok-block.ensures.read bytes parts modelled has.reads below) in
    c.read_each-then-line_count-ids.ensures.read bytes parts done (c.in_ok-block.ensures.store.0 ∙ modelled)
    (record {
      reads = read.0;
      kept = subst (λ (file : Option Tree). AreKept file parts.names done c.args.self.now.names.items) (ap matcher_tree c.in-Some.is) has.kept;
    }) below

-- the lines are the names
pub returns-clause-read : goal.returns-clause-read
returns-clause-read g c = λ bytes parts done modelled has below.
    let ids = c.args.ids.now in
    let read = subst (λ (answer : Result (Vec ℕ Global) IndexFault). IsOkAnd answer (λ block. ReadsNames bytes parts c.read_block.new.reader
    × IsBlockOf (names_at parts.names c.args.ids.now) block.items)) c.in-Ok.is
    (c.in_ok-block.ensures.read bytes parts modelled has.reads below) in
    let lines : terminated_lines c.deref-2.result.now ≡ names_at parts.names ids =
    ap terminated_lines c.deref-2.ensures.value ∙ block_lines parts.names ids c.in-Ok.block.items below read.1.0
    (ap (λ (b : List ℕ). length (terminated_lines b)) (sym c.deref.ensures.value) ∙ sym c.line_count.ensures.exact ∙ c.if-line_count-ids.false) in
    let was = matcher_tree c.args.self.now.filter.matcher in
    let old = c.args.self.now.names.items in
    let new = c.push_matching.new.names.items in
    let same : was ≡ Some c.in-Some.matcher.tree = ap matcher_tree c.in-Some.is in
    ok_and c.in_ok-answer.answer
    (λ x pushes. record {
      reads = read.0;
      kept = subst (λ (file : Option Tree). AreKept file parts.names (done ++ ids) new) (same ∙ ap Some (sym c.in_ok-answer.ensures.same))
          (kept_on was parts.names done ids old new has.kept
          (λ keeps decides. pushes keeps (subst (DecidesNames keeps) same decides) ∙ ap (λ ls. map string_bytes old ++ filter keeps ls) lines));
    })
    (c.in_ok-answer.ensures.pushed (subst (AllByRecursion IsUtf8) (sym lines) read.1.1))
