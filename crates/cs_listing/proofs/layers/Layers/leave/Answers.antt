use Rattle.std.proofs.Common.{ap, ◌∙◌, arith}
use Rattle.std.specs.Option.{option_to_list}
use Rattle.std.proofs.lemmas.List.{map-append, length-map}
use Rattle.cs_listing.specs.Models.{folder_of, folders_of}
use Rattle.cs_listing.proofs.layers.Layers.leave.Goals as goal

pub returns-clause-left : goal.returns-clause-left
returns-clause-left c =
    ap folders_of c.pop.ensures.items ∙ map-append folder_of c.pop.new.self.items (option_to_list c.pop.result)

pub returns-clause-some : goal.returns-clause-some
returns-clause-some c =
    let len = length-map c.args.self.now.folders.items folder_of in
    (λ is. omega (arith, len, c.pop.ensures.variant.0 is), λ more. c.pop.ensures.variant.1 (omega (arith, len, more)))
