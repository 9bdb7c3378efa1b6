use Rattle.std.proofs.Common.{◌≡◌, false, sym, ap, ◌∙◌, inl, inr, arith}
use Rattle.std.proofs.lemmas.List.{get_or_past}
use Rattle.std.proofs.lemmas.Bool.{cases_lt, false≢true}
use Rattle.cs_syntax.specs.Matching.{member}
use Rattle.cs_prefilter.proofs.prefilter.is_within.Goals as goal
use Rattle.cs_prefilter.proofs.prefilter.is_within.Goals.{else-contains-via-then-contains+else-not-contains, else-contains-via-else-contains}

pub returns-else-contains : goal.returns-else-contains
returns-else-contains c = λ _ b is.
    let set = c.args.set.now in
    elim (cases_lt b 256) [
      | inl low ↦ elim (cases_lt b c.loop-byte.byte) [
        | inl before ↦ c.loop-byte.invariant b before is
        | inr after ↦
            let last : c.loop-byte.byte ≡ b = omega (arith, after, low) in
            elim c.else-contains.branch [
              | else-contains-via-then-contains+else-not-contains w ↦
                  ap (member c.args.other.now) (sym last) ∙ sym w.contains-then-contains.ensures ∙ w.if-not-contains.false
              | else-contains-via-else-contains w ↦
                  absurd (false≢true (sym w.if-contains.false ∙ c.contains-in-loop-byte.ensures ∙ ap (member set) last ∙ is))
            ]
      ]
      | inr past ↦ absurd (false≢true (sym (get_or_past set b false (omega (arith, c.len.ensures.bytes, past))) ∙ is))
    ]
