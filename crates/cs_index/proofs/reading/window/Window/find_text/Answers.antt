use Rattle.std.proofs.Common.{◌≡◌, ◌+◌, ◌-◌, ◌∙◌, ap, sym, ℕ, List, Some, length, length-drop, take, arith}
use Rattle.cs_index.proofs.stored.NamePieces.{if_none, string_part}
use Rattle.cs_index.proofs.reading.window.Window.find_text.Goals as goal

pub returns-in-Some-clause-text : goal.returns-in-Some-clause-text
returns-in-Some-clause-text g c bytes m is text stands =
    let i = c.pieces.invariant in
    let new = c.reach.new.self in
    let piece = c.in_ok-reach.ensures.piece bytes (i.keeps ∙ m) (i.piece bytes m is) in
    let part = string_part bytes c.from-part.result.now text new c.args.at c.args.end piece c.in_ok-reach.ensures.from
    c.in_ok-reach.ensures.within c.from-part.ensures stands in
    let same : c.in-Some.text.now ≡ text = c.in-Some.ensures.some text stands.more
    (new.start + length new.piece.items - c.args.at) stands.string.1 part in
    let long = ap length same in
    let size = ap length c.from-part.ensures in
    let rest = length-drop (c.args.at - new.start) new.piece.items in
    record {
      len = ap (λ (t : List ℕ). Some (length t)) same;
      from = c.in_ok-reach.ensures.from;
      within = omega (arith, long, size, rest, c.in-Some.ensures.within, c.in_ok-reach.ensures.from, c.in_ok-reach.ensures.within);
      there = sym (λ j. take (long j) (c.from-part.ensures j)) ∙ c.in-Some.ensures.prefix ∙ same;
      utf8 = stands.string.2;
    }

pub pieces-preserved : goal.pieces-preserved
pieces-preserved g c =
    let i = c.pieces.invariant in
    record {
      none = λ bytes m is text stands.
          let piece = c.in_ok-reach.ensures.piece bytes (i.keeps ∙ m) (i.piece bytes m is) in
          let part = string_part bytes c.from-part.result.now text c.reach.new.self c.args.at c.args.end piece
          c.in_ok-reach.ensures.from c.in_ok-reach.ensures.within c.from-part.ensures stands in
          if_none c.before_nul.result c.in_default.not-Some
          (c.before_nul.ensures.none text stands.more
          (c.reach.new.self.start + length c.reach.new.self.piece.items - c.args.at) stands.string.1 part);
      piece = λ bytes m is. c.in_ok-reach.ensures.piece bytes (i.keeps ∙ m) (i.piece bytes m is);
      keeps = c.reach.ensures.store.0 ∙ i.keeps;
      size = c.reach.ensures.store.1 ∙ i.size;
      failed = c.in_ok-reach.ensures.store.2 ∙ i.failed;
    }

pub returns-clause-text : goal.returns-clause-text
returns-clause-text g c bytes m is text stands =
    let few = c.pieces.invariant.none bytes m is text stands in
    let within = stands.within in
    absurd (omega (arith, few, within, c.pieces-test.false, c.saturating_sub-room.ensures))

pub returns-then-part-len-clause-text : goal.returns-then-part-len-clause-text
returns-then-part-len-clause-text g c bytes m is text stands =
    let i = c.pieces.invariant in
    let new = c.reach.new.self in
    let within = stands.within in
    let ends = stands.ends in
    let size = ap length c.from-part.ensures in
    let rest = length-drop (c.args.at - new.start) new.piece.items in
    let long = c.in_ok-reach.ensures.long bytes (i.keeps ∙ m) (i.piece bytes m is)
    (omega (arith, within, ends, c.min-len.ensures, c.saturating_sub-room.ensures)) in
    absurd (omega (arith, long, size, rest, c.if-part-len.true, c.in_ok-reach.ensures.from))
