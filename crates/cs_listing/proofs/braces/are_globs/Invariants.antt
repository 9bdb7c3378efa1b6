use Rattle.std.proofs.Common.{◌≡◌, take, true}
use Rattle.std.specs.Prelude.{ℕ, Vec}
use Rattle.std.specs.List.{list_all}
use Rattle.std.specs.declared.alloc.Global.{Global}
use Rattle.cs_listing.specs.Braces.{is_glob}
use Rattle.cs_listing.proofs.braces.are_globs.Given as goal

-- the texts so far are those of globs
abbrev pub invariant-loop-text : goal.invariant-loop-text
invariant-loop-text l = list_all (λ (text : Vec ℕ Global). is_glob text.items) (take l.text-index l.texts) ≡ true
