use Rattle.std.proofs.Common.{◌≡◌, ◌++◌, ◌∷◌, [], length, drop, sym, ap, ◌∙◌, subst}
use Rattle.std.specs.Prelude.{OnOk}
use Rattle.std.specs.List.{slice_split}
use Rattle.std.proofs.lemmas.List.{take_rest, map-append}
use Rattle.std.proofs.lemmas.Bool.{eqb-true}
use Rattle.cs_listing.specs.GlobText.{tokens_in, is_slash, element, elements_of}
use Rattle.cs_listing.specs.Models.{tokens_of, element_of, glob_of}
use Rattle.cs_listing.proofs.TokenLemmas.{NoSlash, token_more, element_more, elements_end, no_slash_none, no_slash_more}
use Rattle.cs_listing.proofs.glob_parsing.add_elements.Goals as goal

-- a slash
pub tokens-preserved-in_ok-push-2 : goal.tokens-preserved-in_ok-push-2
tokens-preserved-in_ok-push-2 c =
    let glob = c.tokens.glob.items in
    let pending = c.tokens.tokens.items in
    let rest = c.tokens.rest.now in
    let ended = ap tokens_of (ap (λ v. v.items) c.replace-ended.ensures.value) in
    let none : c.replace-ended.new.dest.items ≡ [] = ap (λ v. v.items) c.replace-ended.ensures.after ∙ c.new.ensures.items in
    let more = element_more _ (glob_of glob) pending rest (c.in_ok-token.token, c.in_ok-token.len) c.tokens.invariant.same
    c.in_ok-token.ensures c.tokens.invariant.none (sym c.is_slash.ensures ∙ c.if-is_slash.true) (element_of c.element.result)
    (c.element.ensures ∙ ap element ended) in
    record {
      same = more
          ∙ ap (λ es. es ++ elements_of (slice_split is_slash (tokens_in (drop c.in_ok-token.len rest))))
          (sym (ap glob_of c.in_ok-push.ensures.items ∙ map-append element_of glob (c.element.result ∷ [])))
          ∙ ap (λ ts. glob_of c.push.new.self.items ++ elements_of (slice_split is_slash (tokens_of ts ++ tokens_in (drop c.in_ok-token.len rest))))
          (sym none)
          ∙ ap (λ t. glob_of c.push.new.self.items ++ elements_of (slice_split is_slash (tokens_of c.replace-ended.new.dest.items ++ tokens_in t)))
          (sym (take_rest rest c.in_ok-token.len));
      none = subst (λ ts. NoSlash (tokens_of ts)) (sym none) (no_slash_none);
    }

-- another token
pub tokens-preserved : goal.tokens-preserved
tokens-preserved c =
    let rest = c.tokens.rest.now in
    let pushed = c.in_ok-push-2.ensures.items in
    record {
      same = token_more _ (glob_of c.tokens.glob.items) c.tokens.tokens.items rest (c.in_ok-token.token, c.in_ok-token.len)
          c.tokens.invariant.same c.in_ok-token.ensures c.push-else-is_slash.new.self.items pushed
          ∙ ap (λ t. glob_of c.tokens.glob.items
          ++ elements_of (slice_split is_slash (tokens_of c.push-else-is_slash.new.self.items ++ tokens_in t)))
          (sym (take_rest rest c.in_ok-token.len));
      none = no_slash_more c.tokens.tokens.items c.push-else-is_slash.new.self.items c.in_ok-token.token c.tokens.invariant.none
          (sym c.is_slash.ensures ∙ c.if-is_slash.false) pushed;
    }

pub returns : goal.returns
returns c =
    let empty : length c.tokens.rest.now ≡ 0 = eqb-true _ 0 (sym c.is_empty.ensures ∙ c.tokens-test.false) in
    let all = elements_end _ (glob_of c.tokens.glob.items) c.tokens.tokens.items c.tokens.rest.now empty c.tokens.invariant.same
    c.tokens.invariant.none in
    subst (λ x. OnOk c.add_last.result (glob_of c.add_last.new.glob.items ≡ x)) (sym all) c.add_last.ensures
