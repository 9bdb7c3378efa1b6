use Rattle.std.proofs.Common.{◌≡◌, ◌*◌, ◌%◌, ◌^◌, ℕ, ap, subst, ◌∙◌, bit_and, eqb}
use Rattle.cs_index.proofs.postings.ShortBytes.{short_by_zeros, long_by_sides}
use Rattle.cs_index.proofs.encoded_run.have_short_deltas.Goals as goal

pub returns-then-firsts-eq0 : goal.returns-then-firsts-eq0
returns-then-firsts-eq0 c =
    short_by_zeros c.args.v c.fits-v.0 (subst (λ (f : ℕ). bit_and f (f * 2 % 2 ^ 64) ≡ 0) c.requires c.if-firsts-eq0.true)

pub returns-else-firsts-eq0 : goal.returns-else-firsts-eq0
returns-else-firsts-eq0 c =
    ap (λ f. eqb (bit_and f (f * 2 % 2 ^ 64)) 0) c.requires
    ∙ long_by_sides c.args.v c.fits-v.0 (λ e. c.if-firsts-eq0.false (ap (λ f. bit_and f (f * 2 % 2 ^ 64)) c.requires ∙ e))
