use Rattle.std.proofs.Common.{◌≡◌, ◌++◌, ◌∷◌, [], Option, Result, List, ℕ, get_or, ap, sym, subst, ◌∙◌}
use Rattle.std.specs.Result.{IsOkAnd}
use Rattle.cs_syntax.specs.Matching.{Tree}
use Rattle.cs_index.specs.declared.fault.IndexFault.{IndexFault}
use Rattle.cs_index.specs.NameReading.{HasName}
use Rattle.cs_search.specs.IndexSearch.{AreKept, matcher_tree}
use Rattle.cs_search.proofs.SelectionLemmas.{name_read, kept_more, kept_same}
use Rattle.cs_search.proofs.selection.Selection.read.Goals as goal

pub returns-in_ok-push-in-Ok-clause-read : goal.returns-in_ok-push-in-Ok-clause-read
returns-in_ok-push-in-Ok-clause-read g c = λ bytes parts ids modelled has low.
    let id = c.args.id in
    let s = c.args.self.now in
    let name : List ℕ = get_or parts.names id [] in
    let read = c.in_ok-fault.ensures.name bytes modelled parts has.reads in
    let there = subst (λ (answer : Result (Unit {0}) IndexFault). IsOkAnd answer (λ _. HasName c.read.new.self name))
    c.in_default.is (name_read parts.names id c.in_ok-fault.field-0 c.read.new.self low read.0) in
    let same : c.in-Ok.name.now ≡ name = c.in-Ok.ensures name there in
    let more = kept_more (matcher_tree s.filter.matcher) parts.names ids id s.names.items low has.kept c.keeps.result
    (λ keeps decides. c.keeps.ensures.tested keeps decides ∙ ap keeps same) c.in_ok-from_str-in-Ok.field-0
    (c.in_ok-from_str-in-Ok.ensures.ok ∙ same) c.if-keeps.true in
    record {
      reads = read.1;
      kept =
          subst (λ (tree : Option Tree). AreKept tree parts.names (ids ++ id ∷ []) c.push.new.self.items) (sym c.keeps.ensures.same)
          (subst (AreKept (matcher_tree s.filter.matcher) parts.names (ids ++ id ∷ [])) (sym c.in_ok-push-in-Ok.ensures.items) more);
    }

pub returns-else-keeps-clause-read : goal.returns-else-keeps-clause-read
returns-else-keeps-clause-read g c = λ bytes parts ids modelled has low.
    let id = c.args.id in
    let s = c.args.self.now in
    let name : List ℕ = get_or parts.names id [] in
    let read = c.in_ok-fault.ensures.name bytes modelled parts has.reads in
    let there = subst (λ (answer : Result (Unit {0}) IndexFault). IsOkAnd answer (λ _. HasName c.read.new.self name))
    c.in_default.is (name_read parts.names id c.in_ok-fault.field-0 c.read.new.self low read.0) in
    let same : c.in-Ok.name.now ≡ name = c.in-Ok.ensures name there in
    record {
      reads = read.1;
      kept =
          subst (λ (tree : Option Tree). AreKept tree parts.names (ids ++ id ∷ []) s.names.items) (sym c.keeps.ensures.same)
          (kept_same (matcher_tree s.filter.matcher) parts.names ids id s.names.items low has.kept c.keeps.result
          (λ keeps decides. c.keeps.ensures.tested keeps decides ∙ ap keeps same) c.if-keeps.false);
    }

-- an id of a name is read
pub returns-in-Err-clause-read : goal.returns-in-Err-clause-read
returns-in-Err-clause-read g c = λ bytes parts ids modelled has low.
    let name : List ℕ = get_or parts.names c.args.id [] in
    let read = c.in_ok-fault.ensures.name bytes modelled parts has.reads in
    subst (λ (answer : Result (Unit {0}) IndexFault). IsOkAnd answer (λ _. HasName c.read.new.self name)) c.in-Err.is
    (name_read parts.names c.args.id c.in_ok-fault.field-0 c.read.new.self low read.0)

pub returns-in-Err-name-clause-read : goal.returns-in-Err-name-clause-read
returns-in-Err-name-clause-read g c = λ bytes parts ids modelled has low.
    let name : List ℕ = get_or parts.names c.args.id [] in
    let read = c.in_ok-fault.ensures.name bytes modelled parts has.reads in
    let there = subst (λ (answer : Result (Unit {0}) IndexFault). IsOkAnd answer (λ _. HasName c.read.new.self name))
    c.in_default.is (name_read parts.names c.args.id c.in_ok-fault.field-0 c.read.new.self low read.0) in
    c.in-Err-name.ensures name there
