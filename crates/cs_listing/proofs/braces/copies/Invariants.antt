use Rattle.std.proofs.Common.{◌≡◌, take}
use Rattle.cs_listing.specs.Models.{texts_of}
use Rattle.cs_listing.proofs.braces.copies.Given as goal

-- those so far are copied
abbrev pub invariant-loop-text : goal.invariant-loop-text
invariant-loop-text l = texts_of l.copied.items ≡ texts_of (take l.text-index l.texts)
