use Rattle.std.proofs.Common.{◌≡◌, ◌+◌, ◌-◌, ◌<◌, true, nat_eq, ℕ, List, length, take, drop, sym, ap, subst, ◌∙◌, arith, length-drop}
use Rattle.std.proofs.lemmas.List.{take-append-drop, drop-drop, take_rest, get_or-drop}
use Rattle.memchr.specs.Find.{NoneAfter, Passes, is_byte}
use Rattle.cs_match.specs.NoNewline.{HasNoNewline}
use Rattle.cs_match.proofs.LinesLemmas.{HasNoNewline-append}
use Rattle.cs_match.proofs.NewlineLemmas.{next_none, part_after}
use Rattle.cs_match.proofs.SkippedLineLemmas.{whole_to}
use Rattle.cs_lines.proofs.stream.ended_len.Goals as goal

pub returns-in-None : goal.returns-in-None
returns-in-None c =
    let text = c.args.text.now in
    let from = c.args.from in
    let scanned = c.args.scanned in
    let more : from + (scanned - from) ≡ scanned = omega (arith, c.requires.low) in
    subst HasNoNewline (take-append-drop (scanned - from) (drop from text))
    (HasNoNewline-append (take (scanned - from) (drop from text)) (drop (scanned - from) (drop from text)) c.requires.scanned
    (subst HasNoNewline (sym (drop-drop (scanned - from) from text ∙ ap (λ n. drop n text) more)) (next_none text scanned c.in-None.ensures)))

pub returns-in-Some : goal.returns-in-Some
returns-in-Some c =
    let text = c.args.text.now in
    let scanned = c.args.scanned in
    let offset = c.in-Some.offset in
    let last = subst (λ (hay : List ℕ). NoneAfter (Passes (is_byte 10) hay) 0 (length hay) offset × Passes (is_byte 10) hay offset)
    (take_rest text scanned) c.in-Some.ensures in
    let low : scanned + offset < length text = omega (arith, last.0.high, length-drop scanned text) in
    let at : scanned + (offset + 1) ≡ scanned + offset + 1 = omega arith in (
      omega (arith, c.requires.low),
      omega (arith, low),
      whole_to text (scanned + offset) low (subst (λ b. nat_eq b 10 ≡ true) (get_or-drop scanned text offset 0) last.1),
      subst HasNoNewline (drop-drop (offset + 1) scanned text ∙ ap (λ n. drop n text) at) (part_after (drop scanned text) offset last.0),
    )
