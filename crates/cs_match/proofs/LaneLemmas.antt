-- What a lane has come to after one more byte.
use Rattle.std.proofs.Common.{◌≡◌, ◌≢◌, ℕ, ◌+◌, ◌-◌, ◌<◌, ◌≤◌, inl, inr, Bool, true, false, cond, ◌&&◌, nat_eq, List, [], ◌∷◌, ◌++◌, length, take, drop, get_or, Fits, w8, refl, sym, ap, ap₂, subst, ◌∙◌, arith}
use Rattle.std.proofs.lemmas.Bool.{eqb-true, eq-eqb, ne_eqb, false≢true}
use Rattle.std.proofs.lemmas.List.Elements.{All-take, All-drop, All-from_get_or}
use Rattle.cs_tree.specs.ByteList.{AreBytes}
use Rattle.cs_match.specs.Lines.{newline}
use Rattle.cs_match.specs.LastPart.{last_part}
use Rattle.cs_match.specs.declared.lanes.Table.{Table}
use Rattle.cs_match.specs.declared.lanes.Lane.{Lane}
use Rattle.cs_match.specs.Table.{next_number, number_after, found, unknown, table_start, IsRow, HasRows, BeginsLine, TellsLines}
use Rattle.cs_match.specs.MatchingEnds.{matching_ends, newlines_between}
use Rattle.cs_match.specs.Lanes.{IsInLine, IsLane}
use Rattle.cs_match.proofs.LinesLemmas.{last_part-append, last_part-part, last_part-line, HasNoNewline-last_part, HasNoNewline-append}
use Rattle.cs_match.proofs.MatchingEndLemmas.{slice-more, newlines-more, ends-none, ends-more}

abbrev IsByte : ℕ → Type 0
IsByte b = b < 256

module _ (t : Table) where
  pub number_after-append : (number : ℕ) (xs ys : List ℕ) → number_after t number (xs ++ ys)
      ≡ number_after t (number_after t number xs) ys
  unfolding number_after
  number_after-append number [] ys = refl
  number_after-append number (x ∷ xs) ys = number_after-append (next_number t number x) xs ys

  pub number_after-more : (number : ℕ) (xs : List ℕ) (b : ℕ) → number_after t number (xs ++ b ∷ [])
      ≡ next_number t (number_after t number xs) b
  unfolding number_after
  number_after-more number xs b = number_after-append number xs (b ∷ [])

-- the bytes of a block are bytes, and so are those of a line in it
module _ (block : List ℕ) (bytes : (k : ℕ) → Fits w8 (get_or block k 0)) where
  pub part_bytes : (from to : ℕ) → AreBytes (last_part (take (to - from) (drop from block)))
  unfolding last_part
  part_bytes from to = All-drop IsByte _ (take (to - from) (drop from block)) (All-take IsByte (to - from) (drop from block)
      (All-drop IsByte from block (All-from_get_or IsByte block 0 (λ k _. omega (arith, bytes k)))))

-- a lane that begins
module _ (t : Table) (rows : HasRows t) (from : ℕ) (lane : Lane) (at-from : lane.from ≡ from)
    (at-start : lane.number ≡ table_start t) (no-ends : lane.count ≡ 0) where
  pub IsLane-new : (block ends : List ℕ) → IsLane t block from lane ends
  unfolding last_part number_after
  IsLane-new block ends =
      let none : from - lane.from ≡ 0 = omega (arith, at-from) in
      record {
        low = omega (arith, at-from);
        row = subst (IsRow t) (sym at-start) rows.first;
        few = omega (arith, no-ends);
        listed = λ has_match _ _. ap (λ n. take n ends) no-ends
            ∙ sym (ap (λ f. matching_ends has_match block f from) at-from ∙ ends-none has_match block from);
        in_line = λ has_match _ _. record {
          first = table_start t;
          begins = inr refl;
          after = at-start ∙ ap (λ n. number_after t (table_start t) (last_part (take n (drop lane.from block)))) (sym none);
        };
      }

-- there is room for one more end
pub has_room : (t : Table) → HasRows t → (block : List ℕ) → ((k : ℕ) → Fits w8 (get_or block k 0)) → (at room : ℕ) → at < length block →
    (lane : Lane) (ends : List ℕ) → IsLane t block at lane ends → newlines_between block lane.from (at + 1) ≤ room →
    next_number t lane.number (get_or block at 0) ≡ found → lane.count < room
has_room t rows block bytes at room within lane ends is most e =
    let newline_here : get_or block at 0 ≡ newline = rows.ends lane.number (get_or block at 0) is.row (omega (arith, bytes at)) e in
    let one : ◌≡◌ {A = ℕ} (cond (nat_eq (get_or block at 0) newline) 1 0) 1 = rw newline_here refl in
    omega (arith, is.few, newlines-more block lane.from at is.low within, most, one)

-- a lane that moves over a byte
module _ (t : Table) (rows : HasRows t) (block : List ℕ) (bytes : (k : ℕ) → Fits w8 (get_or block k 0)) (at : ℕ)
    (within : at < length block) (old new : Lane) (before after : List ℕ) (lane : IsLane t block at old before)
    (from : new.from ≡ old.from) (number : new.number ≡ next_number t old.number (get_or block at 0))
    (count : new.count ≡ old.count + cond (nat_eq new.number found) 1 0)
    (listed : take new.count after ≡ take old.count before ++ cond (nat_eq new.number found) (at ∷ []) []) where
  abbrev b : ℕ
  b = get_or block at 0

  abbrev seen : List ℕ
  seen = take (at - old.from) (drop old.from block)

  byte : b < 256
  byte = omega (arith, bytes at)

  ends_line : new.number ≡ found → b ≡ newline
  ends_line e = rows.ends old.number b lane.row byte (sym number ∙ e)

  at_most_one : (f : Bool) → nat_eq new.number found ≡ f → cond f 1 0 ≤ cond (nat_eq b newline) 1 0
  at_most_one true e = rw (eq-eqb b newline (ends_line (eqb-true new.number found e))) (omega arith)
  at_most_one false e = omega arith

  some_class : 0 < t.count
  some_class = omega (arith, rows.class newline (omega arith))

  module _ (has_match : List ℕ → Bool) (tells : TellsLines has_match t) (known : new.number ≢ unknown t) where
    known_before : old.number ≢ unknown t
    known_before e = known (number ∙ ap (λ n. next_number t n b) e ∙ tells.absorbs b byte)

    line : IsInLine t (last_part seen) old.number
    line = lane.in_line has_match tells known_before

    moved : new.number ≡ number_after t line.first (last_part seen ++ b ∷ [])
    moved = number ∙ ap (λ n. next_number t n b) line.after ∙ sym (number_after-more t line.first (last_part seen) b)

    -- at the end of a line the table tells whether it matches
    ended : b ≡ newline → new.number ≡ cond (has_match (last_part seen)) found (table_start t)
    ended e =
        let here : new.number ≡ number_after t line.first (last_part seen ++ newline ∷ []) =
        moved ∙ ap (λ c. number_after t line.first (last_part seen ++ c ∷ [])) e in
        elim (tells.tells line.first (last_part seen) line.begins (part_bytes block bytes old.from at) (HasNoNewline-last_part seen)) [
          | inl is_unknown ↦ absurd (known (here ∙ is_unknown))
          | inr is ↦ here ∙ is
        ]

    is_found : (m : Bool) → new.number ≡ cond m found (table_start t) → nat_eq new.number found ≡ m
    is_found true e = eq-eqb new.number found e
    is_found false e = ne_eqb new.number found (λ zero_is. omega (arith, zero_is, e, some_class))

    same_end : (n : Bool) → nat_eq b newline ≡ n → nat_eq new.number found ≡ n && has_match (last_part seen)
    same_end true e = is_found (has_match (last_part seen)) (ended (eqb-true b newline e))
    same_end false e = ne_eqb new.number found (λ is. false≢true (sym e ∙ eq-eqb b newline (ends_line is)))

    begins : (m : Bool) → new.number ≡ cond m found (table_start t) → BeginsLine t new.number
    begins true e = inl e
    begins false e = inr e

    in_line : (n : Bool) → nat_eq b newline ≡ n → IsInLine t (last_part (seen ++ b ∷ [])) new.number
    unfolding number_after last_part
    in_line true e =
        let part : last_part (seen ++ b ∷ []) ≡ [] =
        last_part-append seen (b ∷ []) ∙ ap (λ c. last_part (last_part seen ++ c ∷ [])) (eqb-true b newline e)
        ∙ last_part-line (last_part seen) [] (HasNoNewline-last_part seen) in
        record {
          first = new.number;
          begins = begins (has_match (last_part seen)) (ended (eqb-true b newline e));
          after = ap (number_after t new.number) (sym part);
        }
    in_line false e =
        let part : last_part (seen ++ b ∷ []) ≡ last_part seen ++ b ∷ [] =
        last_part-append seen (b ∷ []) ∙ last_part-part (last_part seen ++ b ∷ [])
        (HasNoNewline-append (last_part seen) (b ∷ []) (HasNoNewline-last_part seen) (e, tt)) in
        record {
          first = line.first;
          begins = line.begins;
          after = moved ∙ ap (number_after t line.first) (sym part);
        }

  pub IsLane-step : IsLane t block (at + 1) new after
  IsLane-step = record {
    low = omega (arith, from, lane.low);
    row = subst (IsRow t) (sym number) (rows.closed old.number b lane.row byte);
    few = subst (λ f. new.count ≤ newlines_between block f (at + 1)) (sym from)
        (omega (arith, count, newlines-more block old.from at lane.low within, at_most_one (nat_eq new.number found) refl, lane.few));
    listed = λ has_match tells known. listed
        ∙ ap₂ (λ (xs : List ℕ) f. xs ++ cond f (at ∷ []) []) (lane.listed has_match tells (known_before has_match tells known))
        (same_end has_match tells known (nat_eq b newline) refl)
        ∙ sym (ap (λ f. matching_ends has_match block f (at + 1)) from ∙ ends-more has_match block old.from at lane.low);
    in_line = λ has_match tells known. subst (λ part. IsInLine t (last_part part) new.number)
        (sym (ap (λ f. take (at + 1 - f) (drop f block)) from ∙ slice-more block old.from at lane.low within))
        (in_line has_match tells known (nat_eq b newline) refl);
  }
