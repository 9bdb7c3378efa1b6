-- A list of the ends of matching lines, after one line more, and the list of a part of a block.
use Rattle.std.proofs.Common.{◌≡◌, ◌≢◌, ℕ, ◌+◌, ◌-◌, ◌<◌, ◌≤◌, Bool, cond, ◌&&◌, nat_eq, List, [], ◌∷◌, ◌++◌, take, drop, set, length, get_or, refl, sym, ap, subst, ◌∙◌, arith, append-nil, drop-cons, add-one, suc, take-take, get_or-take, get_or-set_same}
use Rattle.std.specs.List.{count_by}
use Rattle.std.proofs.lemmas.Bool.{eq-eqb, ne_eqb}
use Rattle.std.proofs.lemmas.List.{drop-take, take_more_set}
use Rattle.cs_syntax.specs.Matching.{Tree}
use Rattle.cs_match.specs.declared.dfa.Scan.{Scan}
use Rattle.cs_match.specs.Deciding.{Decides}
use Rattle.cs_match.specs.Lanes.{AreListed}
use Rattle.cs_match.specs.LastPart.{last_part}
use Rattle.cs_match.specs.Lines.{newline}
use Rattle.cs_match.specs.MatchingEnds.{is_matching_end, matching_ends, newlines_between}
use Rattle.cs_match.specs.Scanned.{ListsLine}
use Rattle.cs_match.specs.Skipping.{AreWholeLines}
use Rattle.cs_match.proofs.MatchingEndLemmas.{filter-same, newlines-more, newlines-rise}
use Rattle.cs_match.proofs.WholeLineLemmas.{whole_line}

module _ (t : Tree) (text : List ℕ) (old new : Scan) (lists : ListsLine t text old new) (low : old.from ≤ old.to) (within : new.to ≤ length text)
    (count : ℕ) (ends : List ℕ) (few : count ≤ newlines_between text old.from old.to)
    (listed : (has_match : List ℕ → Bool) → Decides has_match t → take count ends ≡ matching_ends has_match text old.from old.to) where
  abbrev end : ℕ
  end = new.to - 1

  back : end + 1 ≡ new.to
  back = omega (arith, lists.moves)

  -- a matching line
  module _ (is : new.number ≡ 0) (room : count < length ends) where
    abbrev later : List ℕ
    later = set ends count end

    pub listed_found : (has_match : List ℕ → Bool) → Decides has_match t → take (count + 1) later ≡ matching_ends has_match text new.from new.to
    listed_found has_match decides =
        take_more_set ends count end room ∙ ap (λ (xs : List ℕ). xs ++ end ∷ []) (listed has_match decides)
        ∙ ap (λ q. matching_ends has_match text old.from old.to ++ cond q (end ∷ []) []) (sym (eq-eqb new.number 0 is))
        ∙ sym (lists.ends has_match decides) ∙ ap (λ f. matching_ends has_match text f new.to) (sym lists.from)

    pub few_found : count + 1 ≤ newlines_between text new.from new.to
    few_found =
        let one : ◌≡◌ {A = ℕ} (cond (nat_eq (get_or text end 0) newline) 1 0) 1 = rw (eq-eqb (get_or text end 0) newline (lists.newline is)) refl in
        let more = newlines-more text old.from end (omega (arith, low, lists.moves)) (omega (arith, within, lists.moves)) in
        let seen = newlines-rise text old.from old.to end low (omega (arith, lists.moves)) in
        let all = ap (λ k. newlines_between text old.from k) back in
        let there = ap (λ f. newlines_between text f new.to) lists.from in
        omega (arith, few, one, more, seen, all, there)

    pub whole_found : AreWholeLines (take (new.to - new.from) (drop new.from text))
    whole_found =
        let here : drop end text ≡ newline ∷ drop (end + 1) text =
        drop-cons text end 0 (omega (arith, within, lists.moves)) ∙ ap (λ b. b ∷ drop (suc end) text) (lists.newline is)
        ∙ ap (λ k. newline ∷ drop k text) (sym (add-one end)) in
        subst (λ f. AreWholeLines (take (new.to - f) (drop f text))) (sym lists.from)
        (subst (λ to. AreWholeLines (take (to - old.from) (drop old.from text))) back
        (whole_line text old.from end (omega (arith, low, lists.moves)) here))

    pub stops_found : new.to ≡ get_or later (count + 1 - 1) 0 + 1
    stops_found =
        let at : count + 1 - 1 ≡ count = omega arith in
        omega (arith, ap (λ k. get_or later k 0) at, get_or-set_same ends count end 0 room, back)

  -- no matching line
  module _ (other : new.number ≢ 0) where
    pub listed_other : (has_match : List ℕ → Bool) → Decides has_match t → take count ends ≡ matching_ends has_match text new.from new.to
    listed_other has_match decides =
        listed has_match decides ∙ sym (append-nil (matching_ends has_match text old.from old.to))
        ∙ ap (λ q. matching_ends has_match text old.from old.to ++ cond q (end ∷ []) []) (sym (ne_eqb new.number 0 other))
        ∙ sym (lists.ends has_match decides) ∙ ap (λ f. matching_ends has_match text f new.to) (sym lists.from)

    pub few_other : count ≤ newlines_between text new.from new.to
    few_other = omega (
      arith,
      few,
      newlines-rise text old.from old.to new.to low (omega (arith, lists.moves)),
      ap (λ f. newlines_between text f new.to) lists.from,
    )

-- a block up to an offset
module _ (block : List ℕ) (from end : ℕ) (order : from ≤ end) where
  pub slice_same : (to : ℕ) → from ≤ to → to ≤ end → take (to - from) (drop from (take end block)) ≡ take (to - from) (drop from block)
  slice_same to low high =
      let size : end ≡ from + (end - from) = omega (arith, order) in
      ap (λ n. take (to - from) (drop from (take n block))) size ∙ ap (take (to - from)) (drop-take from (end - from) block)
      ∙ take-take (to - from) (end - from) (drop from block) (omega (arith, high))

  pub rest_same : drop from (take end block) ≡ take (end - from) (drop from block)
  rest_same =
      let size : end ≡ from + (end - from) = omega (arith, order) in
      ap (λ n. drop from (take n block)) size ∙ drop-take from (end - from) block

  ends_same : (has_match : List ℕ → Bool) (to : ℕ) → from ≤ to → to ≤ end →
      matching_ends has_match (take end block) from to ≡ matching_ends has_match block from to
  unfolding matching_ends
  ends_same has_match to low high =
      filter-same (is_matching_end has_match (take end block) from) (is_matching_end has_match block from) from (to - from)
      (λ k after before.
      ap (λ b. nat_eq b newline && has_match (last_part (take (k - from) (drop from (take end block)))))
      (get_or-take end block k 0 (omega (arith, before, low, high)))
      ∙ ap (λ seen. nat_eq (get_or block k 0) newline && has_match (last_part seen)) (slice_same k after (omega (arith, before, low, high))))

  pub AreListed-part : (t : Tree) (to count : ℕ) (ends : List ℕ) → end ≤ length block → from ≤ to → to ≤ end →
      AreWholeLines (take (to - from) (drop from (take end block))) → count ≤ newlines_between (take end block) from to → count ≤ length ends →
      ((has_match : List ℕ → Bool) → Decides has_match t → take count ends ≡ matching_ends has_match (take end block) from to) →
      AreListed (λ has_match. Decides has_match t) block from to count ends
  AreListed-part t to count ends high low within whole few room listed = record {
    lines = record { low = low; high = omega (arith, within, high); whole = subst AreWholeLines (slice_same to low within) whole };
    few = subst (λ n. count ≤ n) (ap (count_by (λ b. nat_eq b newline)) (slice_same to low within)) few;
    room = room;
    listed = λ has_match decides. listed has_match decides ∙ ends_same has_match to low within;
  }
