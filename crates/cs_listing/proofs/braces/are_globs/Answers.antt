use Rattle.std.proofs.Common.{rules, tests, ◌≡◌, false, sym, ap, ◌∙◌}
use Rattle.std.specs.Prelude.{ℕ, Vec}
use Rattle.std.specs.List.{list_all}
use Rattle.std.specs.declared.alloc.Global.{Global}
use Rattle.std.proofs.lemmas.List.{take_all}
use Rattle.std.proofs.lemmas.List.Folds.{list_all-map, list_all_at}
use Rattle.cs_listing.specs.Braces.{is_glob}
use Rattle.cs_listing.proofs.BraceLemmas.{text_of}
use Rattle.cs_listing.proofs.braces.are_globs.Goals as goal

pub returns-then-not-branch : goal.returns-then-not-branch
returns-then-not-branch c =
    let texts = c.args.texts.now in
    let at = c.loop-text.text-index in
    let item = c.text-item.result in
    let out : is_glob item.items ≡ false = search (rules, tests) in
    sym (list_all-map is_glob text_of texts
    ∙ list_all_at (λ (text : Vec ℕ Global). is_glob text.items) texts at item (search rules) (ap (λ (text : Vec ℕ Global). is_glob text.items) (sym c.text-item.is) ∙ out))

pub returns : goal.returns
returns c =
    let texts = c.args.texts.now in
    sym (list_all-map is_glob text_of texts
    ∙ ap (list_all (λ (text : Vec ℕ Global). is_glob text.items)) (sym (take_all c.loop-text.text-index texts (search (rules, tests))))
    ∙ c.loop-text.invariant)
