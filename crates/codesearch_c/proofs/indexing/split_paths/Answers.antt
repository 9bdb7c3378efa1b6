use Rattle.std.proofs.Common.{rules, ◌≡◌, ℕ, ◌∷◌, [], ◌++◌, List, Some, None, map, string_bytes, sym, ap, ◌∙◌, arith, append-nil}
use Rattle.std.proofs.lemmas.Str.Pattern.{split_parts}
use Rattle.codesearch_c.specs.Building.{nul_parts}
use Rattle.codesearch_c.proofs.BuildingLemmas.{parts_cut, parts_none, parts_rest, one_more}
use Rattle.codesearch_c.proofs.indexing.split_paths.Goals as goal

pub paths-preserved : goal.paths-preserved
paths-preserved c =
    let path = c.in-Some.path.now in
    let more = c.in-Some.more.now in
    let rest = c.paths.rest.now in
    let split = split_parts 0 rest (Some (c.in-Some.path, c.in-Some.more)) c.in-Some.ensures.cases (omega arith) in
    let cut : nul_parts rest ≡ path ∷ nul_parts more = ap nul_parts split.0 ∙ parts_cut path more split.1 in (
      search rules,
      one_more string_bytes c.in_ok-from_str.field-0 c.paths.paths.items c.push.new.self.items path rest
          (nul_parts more) (nul_parts c.args.text.now) c.in_ok-push.ensures.items c.in_ok-from_str.ensures.ok cut
          c.paths.invariant.1,
    )

pub returns-then-is_empty : goal.returns-then-is_empty
returns-then-is_empty c =
    let none : nul_parts c.paths.rest.now ≡ [] = parts_none c.paths.rest.now (sym c.is_empty.ensures ∙ c.if-is_empty.true) in
    sym (append-nil (map string_bytes c.paths.paths.items))
    ∙ ap (λ (l : List (List ℕ)). map string_bytes c.paths.paths.items ++ l) (sym none) ∙ c.paths.invariant.1

pub returns : goal.returns
returns c =
    let rest = c.paths.rest.now in
    let none = split_parts 0 rest None c.in_default.ensures.cases (omega arith) in
    let cut : nul_parts rest ≡ rest ∷ [] = parts_rest rest (sym c.is_empty.ensures ∙ c.if-is_empty.false) none in
    sym (append-nil (map string_bytes c.push-2.new.self.items))
    ∙ one_more string_bytes c.in_ok-from_str-2.field-0 c.paths.paths.items c.push-2.new.self.items rest rest []
    (nul_parts c.args.text.now) c.in_ok-push-2.ensures.items c.in_ok-from_str-2.ensures.ok cut c.paths.invariant.1
