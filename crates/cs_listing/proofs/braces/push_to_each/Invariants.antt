use Rattle.std.proofs.Common.{◌≡◌, ◌++◌, take, drop}
use Rattle.cs_listing.specs.Braces.{with_text}
use Rattle.cs_listing.specs.Models.{texts_of}
use Rattle.cs_listing.proofs.braces.push_to_each.Given as goal

-- those so far have the text
abbrev pub invariant-loop-one : goal.invariant-loop-one
invariant-loop-one l = texts_of l.one-items
    ≡ with_text l.text (take l.one-index (texts_of l.fn.texts.items)) ++ drop l.one-index (texts_of l.fn.texts.items)
