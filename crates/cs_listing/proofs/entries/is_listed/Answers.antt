use Rattle.std.proofs.Common.{rules, tests, sym, ◌∙◌}
use Rattle.std.proofs.lemmas.Iterator.{YieldsList-from_slice}
use Rattle.std.proofs.lemmas.Iterator.Search.{any_from_yields_List}
use Rattle.std.specs.Prelude.{String, string_bytes, bytes_eq}
use Rattle.std.specs.declared.alloc.Global.{Global}
use Rattle.cs_tree.proofs.NameLemmas.{list_any-map}
use Rattle.cs_listing.proofs.entries.is_listed.Goals as goal

pub returns : goal.returns
returns c =
    any_from_yields_List (λ (one : String Global). bytes_eq (string_bytes one) c.args.name.now) _ _ _ c.any.ensures.ran
    (YieldsList-from_slice c.args.names.now cc) (λ x b q k. search (rules, tests))
    ∙ sym (list_any-map string_bytes (λ one. bytes_eq one c.args.name.now) c.args.names.now)
