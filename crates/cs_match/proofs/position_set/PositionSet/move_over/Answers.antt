use Rattle.std.proofs.Common.{◌≡◌, ℕ, ◌+◌, ◌*◌, ◌%◌, ◌/◌, ◌<◌, length, get_or, bit_or, false, sym, ◌∙◌, ap, arith, below_more, add-one, length-set, get_or-set_same, get_or-set_other}
use Rattle.std.proofs.lemmas.List.{get_or_read}
use Rattle.cs_match.specs.PositionSet.{positions_of, IsPositionSet, is_moved}
use Rattle.cs_match.proofs.PositionSetLemmas.{length-positions_of, same_count, same_length}
use Rattle.cs_match.proofs.BitwiseLemmas.{carry, shifted}
use Rattle.cs_match.proofs.MoveLemmas.{moved_word, one_more, IsPositionSet-moved, get_or-moved_words}
use Rattle.cs_match.proofs.position_set.PositionSet.move_over.Goals as goal
use Rattle.cs_match.proofs.position_set.PositionSet.move_over.Goals.{After-loop-index}

pub index-entry-requires : goal.index-entry-requires
index-entry-requires c =
    let more = one_more c.entries.inside.words.items c.self.inside.words.items _ _ _ _ c.entries.view_is c.self.view_is
    c.requires.entries in
    omega (
      arith,
      more,
      c.entries.invariant.enough,
      c.self.invariant.enough,
      c.len-index-end.ensures,
      c.self.inside.words.ok.0,
      c.entries.inside.words.ok.0,
    )

pub index-requires : goal.index-requires
index-requires c =
    let as_many = same_length _ _ _ _ _ _ c.entered.invariant c.self.invariant c.entered.view_is c.self.view_is
    c.requires.mask.entered in
    omega (arith, c.len-index-end.ensures, c.self.inside.words.ok.0, c.entered.inside.words.ok.0)

pub index-requires-in-loop-index : goal.index-requires-in-loop-index
index-requires-in-loop-index c =
    let as_many = same_length _ _ _ _ _ _ c.previous.invariant c.self.invariant c.previous.view_is c.self.view_is
    c.requires.mask.previous in
    omega (arith, c.len-index-end.ensures, c.self.inside.words.ok.0, c.previous.inside.words.ok.0)

pub index-requires-in-loop-index-3 : goal.index-requires-in-loop-index-3
index-requires-in-loop-index-3 c =
    let as_many = same_length _ _ _ _ _ _ c.kept.invariant c.self.invariant c.kept.view_is c.self.view_is c.requires.mask.kept in
    omega (arith, c.len-index-end.ensures, c.self.inside.words.ok.0, c.kept.inside.words.ok.0)

pub loop-index-preserved : goal.loop-index-preserved
loop-index-preserved c =
    let now = c.loop-index.self-inside.words.items in
    let old = c.self.inside.words.items in
    let entries = c.entries.inside.words.items in
    let ins = c.entered.inside.words.items in
    let befores = c.previous.inside.words.items in
    let keeps = c.kept.inside.words.items in
    let at = c.loop-index.index in
    let more = one_more entries old _ _ _ _ c.entries.view_is c.self.view_is c.requires.entries in
    let in-old : at < length old = omega (arith, c.len-index-end.ensures, c.self.inside.words.ok.0) in
    let in-now : at < length now = omega (arith, in-old, c.loop-index.invariant.as_many) in
    let in-entries : at < length entries = omega (arith, in-old, more, c.entries.invariant.enough, c.self.invariant.enough) in
    let in-ins : at < length ins = omega (
      arith,
      in-old,
      same_length _ _ _ _ _ _ c.entered.invariant c.self.invariant
          c.entered.view_is c.self.view_is c.requires.mask.entered,
    ) in
    let in-befores : at < length befores = omega (
      arith,
      in-old,
      same_length _ _ _ _ _ _ c.previous.invariant
          c.self.invariant c.previous.view_is c.self.view_is c.requires.mask.previous,
    ) in
    let in-keeps : at < length keeps = omega (
      arith,
      in-old,
      same_length _ _ _ _ _ _ c.kept.invariant
          c.self.invariant c.kept.view_is c.self.view_is c.requires.mask.kept,
    ) in
    let e : c.index-entry.result.now ≡ get_or entries at 0 = get_or_read entries at _ in-entries c.index-entry.ensures 0 in
    let i : c.index.result.now ≡ get_or ins at 0 = get_or_read ins at _ in-ins c.index.ensures 0 in
    let p : c.index-in-loop-index.result.now ≡ get_or befores at 0 = get_or_read befores at _ in-befores c.index-in-loop-index.ensures 0 in
    let w : c.index-in-loop-index-2.result.now ≡ get_or old at 0 =
    get_or_read now at _ in-now c.index-in-loop-index-2.ensures 0 ∙ c.loop-index.invariant.pending at (omega arith) in
    let k : c.index-in-loop-index-3.result.now ≡ get_or keeps at 0 = get_or_read keeps at _ in-keeps c.index-in-loop-index-3.ensures 0 in
    let word : ℕ → ℕ → ℕ → ℕ → ℕ → ℕ → ℕ = λ e carried i p w k. moved_word e i (bit_or (e * 2 % 18446744073709551616) carried) p w k in
    let new : ℕ = word c.index-entry.result.now c.loop-index.carried c.index.result.now c.index-in-loop-index.result.now
    c.index-in-loop-index-2.result.now c.index-in-loop-index-3.result.now in
    record {
      cost = omega (arith, c.loop-index.invariant.cost, c.add.ensures);
      position_count = c.loop-index.invariant.position_count;
      as_many = length-set now at new ∙ c.loop-index.invariant.as_many;
      carries = rw add-one (ap (λ x. x / 9223372036854775808) e);
      done = below_more _ _
          (λ k h. get_or-set_other now at k new 0 (λ same. omega (arith, h, same)) ∙ c.loop-index.invariant.done k h)
          (get_or-set_same now at new 0 in-now
          ∙ ap (λ x. word x c.loop-index.carried c.index.result.now c.index-in-loop-index.result.now
          c.index-in-loop-index-2.result.now c.index-in-loop-index-3.result.now) e
          ∙ ap (λ x. word (get_or entries at 0) x c.index.result.now c.index-in-loop-index.result.now
          c.index-in-loop-index-2.result.now c.index-in-loop-index-3.result.now) c.loop-index.invariant.carries
          ∙ ap (λ x. word (get_or entries at 0) (carry entries at) x c.index-in-loop-index.result.now
          c.index-in-loop-index-2.result.now c.index-in-loop-index-3.result.now) i
          ∙ ap (λ x. word (get_or entries at 0) (carry entries at) (get_or ins at 0) x
          c.index-in-loop-index-2.result.now c.index-in-loop-index-3.result.now) p
          ∙ ap (λ x. word (get_or entries at 0) (carry entries at) (get_or ins at 0) (get_or befores at 0) x
          c.index-in-loop-index-3.result.now) w
          ∙ ap (λ x. word (get_or entries at 0) (carry entries at) (get_or ins at 0) (get_or befores at 0) (get_or old at 0) x) k);
      pending = λ k h. get_or-set_other now at k new 0 (λ same. omega (arith, h, same))
          ∙ c.loop-index.invariant.pending k (omega (arith, h));
    }

-- the other sets have as many positions, and the entries one more
entries-are : (c : After-loop-index) → IsPositionSet c.entries.inside.words.items (c.self.inside.count + 1)
entries-are c = rw (one_more c.entries.inside.words.items c.self.inside.words.items _ _ _ _ c.entries.view_is
    c.self.view_is c.requires.entries) at c.entries.invariant

ins-are : (c : After-loop-index) → IsPositionSet c.entered.inside.words.items c.self.inside.count
ins-are c = rw (same_count c.entered.inside.words.items c.self.inside.words.items _ _ _ _ c.entered.view_is
    c.self.view_is c.requires.mask.entered) at c.entered.invariant

befores-are : (c : After-loop-index) → IsPositionSet c.previous.inside.words.items c.self.inside.count
befores-are c = rw (same_count c.previous.inside.words.items c.self.inside.words.items _ _ _ _
    c.previous.view_is c.self.view_is c.requires.mask.previous) at c.previous.invariant

keeps-are : (c : After-loop-index) → IsPositionSet c.kept.inside.words.items c.self.inside.count
keeps-are c = rw (same_count c.kept.inside.words.items c.self.inside.words.items _ _ _ _ c.kept.view_is
    c.self.view_is c.requires.mask.kept) at c.kept.invariant

-- every word is moved
all-done : (c : After-loop-index) (k : ℕ) → k < length c.self.inside.words.items →
    get_or c.loop-index.self-inside.words.items k 0
    ≡ moved_word (get_or c.entries.inside.words.items k 0) (get_or c.entered.inside.words.items k 0)
    (shifted c.entries.inside.words.items k) (get_or c.previous.inside.words.items k 0)
    (get_or c.self.inside.words.items k 0) (get_or c.kept.inside.words.items k 0)
all-done c k h = c.loop-index.invariant.done k (omega (arith, h, c.len-index-end.ensures, c.self.inside.words.ok.0))

pub invariant_of-self : goal.invariant_of-self
invariant_of-self c =
    rw c.loop-index.invariant.position_count
    (IsPositionSet-moved _ c.self.inside.words.items c.entries.inside.words.items c.entered.inside.words.items
    c.previous.inside.words.items c.kept.inside.words.items c.self.inside.count
    c.self.invariant (entries-are c) (ins-are c) (befores-are c) (keeps-are c) c.loop-index.invariant.as_many (all-done c))

pub returns-clause-length : goal.returns-clause-length
returns-clause-length c =
    length-positions_of c.loop-index.self-inside.words.items c.loop-index.self-inside.count ∙ c.loop-index.invariant.position_count
    ∙ sym (length-positions_of c.self.inside.words.items c.self.inside.count) ∙ ap length c.self.view_is

pub returns-clause-each : goal.returns-clause-each
returns-clause-each c = λ k h.
    let count = c.self.inside.count in
    let within : k < count = omega (arith, h, length-positions_of c.self.inside.words.items count, ap length c.self.view_is) in
    let es = rw (one_more c.entries.inside.words.items c.self.inside.words.items _ _ _ _ c.entries.view_is
    c.self.view_is c.requires.entries) at c.entries.view_is in
    let ins = rw (same_count c.entered.inside.words.items c.self.inside.words.items _ _ _ _ c.entered.view_is
    c.self.view_is c.requires.mask.entered) at c.entered.view_is in
    let befores = rw (same_count c.previous.inside.words.items c.self.inside.words.items _ _ _ _
    c.previous.view_is c.self.view_is c.requires.mask.previous) at c.previous.view_is in
    let keeps = rw (same_count c.kept.inside.words.items c.self.inside.words.items _ _ _ _ c.kept.view_is
    c.self.view_is c.requires.mask.kept) at c.kept.view_is in
    ap (λ n. get_or (positions_of c.loop-index.self-inside.words.items n) k false) c.loop-index.invariant.position_count
    ∙ get_or-moved_words _ c.self.inside.words.items c.entries.inside.words.items c.entered.inside.words.items
    c.previous.inside.words.items c.kept.inside.words.items count
    c.self.invariant (entries-are c) (ins-are c) (befores-are c) (keeps-are c) c.loop-index.invariant.as_many
    (all-done c) k within
    ∙ ap (λ xs. is_moved xs (positions_of c.entered.inside.words.items count)
    (positions_of c.previous.inside.words.items count) (positions_of c.kept.inside.words.items count)
    (positions_of c.self.inside.words.items count) k) es
    ∙ ap (λ xs. is_moved c.args.entries.now xs (positions_of c.previous.inside.words.items count)
    (positions_of c.kept.inside.words.items count) (positions_of c.self.inside.words.items count) k) ins
    ∙ ap (λ xs. is_moved c.args.entries.now c.args.mask.now.entered xs (positions_of c.kept.inside.words.items count)
    (positions_of c.self.inside.words.items count) k) befores
    ∙ ap (λ xs. is_moved c.args.entries.now c.args.mask.now.entered c.args.mask.now.previous xs
    (positions_of c.self.inside.words.items count) k) keeps
    ∙ ap (λ xs. is_moved c.args.entries.now c.args.mask.now.entered c.args.mask.now.previous c.args.mask.now.kept xs k) c.self.view_is

pub returns-clause-cost : goal.returns-clause-cost
returns-clause-cost c = omega (
  arith,
  c.loop-index.invariant.cost,
  c.len-index-end.ensures,
  c.self.inside.words.ok.0,
  c.self.invariant.enough,
  length-positions_of c.self.inside.words.items c.self.inside.count,
  ap length c.self.view_is,
)
