use Rattle.std.proofs.Common.{◌≡◌, ◌∙◌, subst, ℕ, List}
use Rattle.std.specs.Prelude.{IfOk, string_bytes}
use Rattle.cs_listing.proofs.UserLemmas.{stem_says}
use Rattle.cs_listing.proofs.user_settings.stem_of_file.Goals as goal

pub returns-in-Some : goal.returns-in-Some
returns-in-Some c =
    let says = (rw c.in-Some.is at (stem_says c.args.path.now c.rsplit_once.result c.rsplit_once.ensures.cases)) in
    subst (λ (text : List ℕ). IfOk c.child_path.result (λ stem. string_bytes stem ≡ text)) says c.child_path.ensures

pub returns-in-None : goal.returns-in-None
returns-in-None c =
    c.new.ensures.bytes ∙ (rw c.in-None.is at (stem_says c.args.path.now c.rsplit_once.result c.rsplit_once.ensures.cases))
