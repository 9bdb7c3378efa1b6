use Rattle.std.proofs.Common.{rules, ◌≡◌, ◌<◌, ◌+◌, ◌*◌, ◌-◌, ◌/◌, ◌∙◌, ◌++◌, List, length, ℕ, suc, ap, inl, inr, arith}
use Rattle.std.proofs.lemmas.Bool.{cases_lt, false_from_ne_true}
use Rattle.cs_index.specs.Opening.{entries_from, entries_in, trigram_at}
use Rattle.cs_index.specs.SectionPieces.{are_entries}
use Rattle.cs_index.proofs.stored.EntryPieces.{all_fit, each_fits, greatest_counts, nth}
use Rattle.cs_index.proofs.reading.entries.test_entries.Goals as goal
use Rattle.cs_index.proofs.reading.entries.test_entries.Goals.{then-disorder-ne0-via-then-disorder-ne0, then-disorder-ne0-via-else-disorder-ne0+then-largest-room}

pub returns-then-count-eq0-clause-some : goal.returns-then-count-eq0-clause-some
unfolding entries_in
returns-then-count-eq0-clause-some c = λ more.
    ap (λ n. are_entries c.args.room c.args.least (entries_from c.args.entries.now 0 n ++ more)) c.if-count-eq0.true

pub loop-at-preserved : goal.loop-at-preserved
loop-at-preserved c =
    let bytes : List ℕ = c.args.entries.now in
    let at : ℕ = c.loop-at.at in
    let i = c.loop-at.invariant in
    let before : at ≡ suc (at - 1) = search rules in
    record {
      rise = λ zero k l. elim (cases_lt (suc k) at) [
        | inl before ↦ i.rise (search rules) k before
        | inr from ↦ search rules
      ];
      fall = λ all.
          let old : c.loop-at.disorder ≡ 0 = i.fall (λ k l. all k (omega (arith, l))) in
          let up = all (at - 1) (omega (arith, before)) in
          let here = ap (λ k. trigram_at bytes (11 * k)) before in
          let above : trigram_at bytes (11 * (at - 1)) < trigram_at bytes (11 * at) = omega (arith, up, here) in
          search rules;
      fit = search rules;
      most = λ bound all.
          let old = i.most bound (λ k l. all k (omega (arith, l))) in
          let here = all at (omega arith) in
          search rules;
    }

pub returns-then-entry_trigram-least-clause-none : goal.returns-then-entry_trigram-least-clause-none
unfolding entries_in
returns-then-entry_trigram-least-clause-none c = λ more. false_from_ne_true _ (λ all.
    let count : ℕ = length c.args.entries.now / 11 in
    let first = (each_fits c.args.entries.now c.args.room count more count 0 c.args.least (omega arith) all).0 (omega arith) in
    omega (arith, first, c.entry_trigram.ensures.value, c.if-entry_trigram-least.true))

pub returns-then-disorder-ne0-clause-none : goal.returns-then-disorder-ne0-clause-none
unfolding entries_in
returns-then-disorder-ne0-clause-none c = λ more. false_from_ne_true _ (λ all.
    let count : ℕ = length c.args.entries.now / 11 in
    let i = c.loop-at.invariant in
    let end : c.loop-at.at ≡ count = search rules in
    let each = (each_fits c.args.entries.now c.args.room count more count 0 c.args.least (omega arith) all).1 in
    elim c.then-disorder-ne0.branch [
      | then-disorder-ne0-via-then-disorder-ne0 w ↦
          w.if-disorder-ne0.true (i.fall (λ k l. (each k (omega arith) (omega (arith, l, end))).next (omega (arith, l, end))))
      | then-disorder-ne0-via-else-disorder-ne0+then-largest-room w ↦
          let most = i.most (c.args.room - 4) (λ k l. let fits = (each k (omega arith) (omega (arith, l, end))).fits in omega (arith, fits)) in
          let one = (each 0 (omega arith) (omega arith)).fits in
          omega (arith, most, one, w.if-largest-room.true)
    ])

pub returns-then-read_number-ne0-clause-none : goal.returns-then-read_number-ne0-clause-none
unfolding entries_in
returns-then-read_number-ne0-clause-none c = λ more. false_from_ne_true _ (λ all.
    let count : ℕ = length c.args.entries.now / 11 in
    let each = (each_fits c.args.entries.now c.args.room count more count 0 c.args.least (omega arith) all).1 in
    greatest_counts (nth c.args.entries.now (count - 1)) (search rules) (search rules) (each (count - 1) (omega arith) (omega arith)).closed)

pub returns-clause-some : goal.returns-clause-some
unfolding entries_in
returns-clause-some c = λ more.
    let bytes : List ℕ = c.args.entries.now in
    let last : ℕ = length bytes / 11 - 1 in
    let i = c.loop-at.invariant in
    let end : c.loop-at.at ≡ suc last = search rules in
    ap (λ n. are_entries c.args.room c.args.least (entries_from bytes 0 n ++ more)) (let z : length bytes / 11 ≡ suc last = omega arith in z)
    ∙ all_fit bytes c.args.room last more (λ k l. i.rise (search rules) k (omega (arith, l, end)))
    (λ k l. let fits = i.fit k (omega (arith, l, end)) in omega (arith, fits, c.if-largest-room.false))
    (search rules) (search rules) last 0 c.args.least (omega arith) (search rules)
    ∙ ap (λ n. are_entries c.args.room (n + 1) more) (search rules)
