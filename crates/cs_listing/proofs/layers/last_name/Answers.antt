use Rattle.std.proofs.Common.{[], ◌∷◌, sym, ap, ◌∙◌}
use denote.Ref.{Bor}
use Rattle.std.specs.Prelude.{ℕ, List}
use Rattle.std.proofs.lemmas.List.{map-append}
use Rattle.cs_listing.specs.Layers.{last_name}
use Rattle.cs_listing.specs.Models.{names}
use Rattle.cs_listing.proofs.LayerLemmas.{last_of}
use Rattle.cs_listing.proofs.layers.last_name.Goals as goal

pub returns-in-Some : goal.returns-in-Some
returns-in-Some c =
    sym (ap (λ p. last_name (names p)) c.in-Some.ensures.cases.0
    ∙ ap last_name (map-append (λ (name : Bor (List ℕ)). name.now) c.in-Some.field-0-1.now (c.in-Some.name.now ∷ []))
    ∙ last_of (names c.in-Some.field-0-1.now) c.in-Some.name.now.now)
