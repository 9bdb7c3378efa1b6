use Rattle.std.proofs.Common.{◌≡◌, ap, map, length, subst, sym, ◌∙◌}
use Rattle.std.specs.Prelude.{string_bytes}
use Rattle.std.proofs.lemmas.List.{length-map}
use Rattle.cs_listing.specs.Choices.{within_depth}
use Rattle.cs_listing.specs.FolderReads.{InTree}
use Rattle.cs_listing.specs.Models.{chosen_in}
use Rattle.cs_listing.specs.PathNames.{names_along}
use Rattle.cs_listing.specs.Walk.{Begins}
use Rattle.cs_project.proofs.places.NamedFolder.walk.Goals as goal

pub returns-clause-walks : goal.returns-clause-walks
returns-clause-walks g c =
    let start = c.in_ok-start.start.items in
    let chosen = chosen_in c.args.self.now.scope.choices.now in
    let names : map string_bytes start ≡ names_along c.args.self.now.path.now = c.in_ok-start.ensures in
    record {
      begins = subst (λ names. InTree (g.T.Tree.snapshot c.args.tree.now) (λ items. Begins items names c.in_ok-walk.walk))
          (ap (map string_bytes) c.deref.ensures.value ∙ names) c.in_ok-walk.ensures.begins;
      chosen = c.in_ok-walk.ensures.settings ∙ ap (λ n. within_depth chosen (length n)) c.deref.ensures.value
          ∙ ap (within_depth chosen) (sym (length-map start string_bytes) ∙ ap length names);
      stem = c.in_ok-form.ensures.stem;
      prefix = c.in_ok-form.ensures.prefix;
    }
