use Rattle.std.proofs.Common.{◌∙◌, ap, length, get_or, arith}
use Rattle.std.proofs.lemmas.List.{get_or_default}
use Rattle.cs_syntax.proofs.char_step.Cuts.floor.Goals as goal

pub index-requires : goal.index-requires
index-requires c = omega (arith, c.interval.ensures.within, ap length c.self.view_is)

pub returns : goal.returns
returns c =
    let cuts = c.self.inside.cuts.items in
    let i = c.interval.result in
    c.index.ensures ∙ get_or_default cuts i c.index.result.now 0 (omega (arith, c.interval.ensures.within, ap length c.self.view_is))
    ∙ ap (λ ks. get_or ks i 0) c.self.view_is ∙ c.interval.ensures.begins
