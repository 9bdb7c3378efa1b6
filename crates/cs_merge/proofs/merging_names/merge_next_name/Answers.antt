use Rattle.std.proofs.Common.{◌≡◌, ℕ, List, Option, Some, true, false, length, slice_get, refl, sym, ap, ◌∙◌}
use Rattle.cs_merge.proofs.Common.{true≢false, same_Some, option_copied, option_map_or, is_lt, is_covered, bytes_cmp, sorted_names, none-some}
use Rattle.cs_tree.specs.PathSet as set
use Rattle.cs_merge.proofs.NameStepLemmas.{name_storable, naming_dropped, naming_newer, naming_older, none_past}
use Rattle.cs_merge.proofs.IdMergeLemmas.{no_more}
use Rattle.cs_merge.proofs.merging_names.merge_next_name.Goals as goal
use Rattle.cs_merge.proofs.merging_names.merge_next_name.Goals.{in-Some+else-is_below, in_default}

pub write_name-requires-clause-storable : goal.write_name-requires-clause-storable
write_name-requires-clause-storable c =
    name_storable c.args.old.now c.len-2.result c.in-Some.name.now c.requires.old_sorted
    (sym c.name.ensures ∙ ap option_copied c.in-Some.is)

pub returns-in_ok-push-clause-so_far : goal.returns-in_ok-push-clause-so_far
returns-in_ok-push-clause-so_far c =
    naming_dropped c.args.old.now c.args.newer.now c.requires.old_sorted c.requires.newer_sorted
    (is_covered (set.from_list c.args.cover.now)) c.requires.covered c.args.sections.now c.args.ranks.now.older
    c.args.ranks.now.newer c.requires.so_far c.in-Some.name.now c.push.new.self
    (ap (slice_get (sorted_names c.args.old.now)) (sym c.len-2.ensures) ∙ sym c.name.ensures ∙ ap option_copied c.in-Some.is)
    (sym c.covers.ensures ∙ c.if-covers.true)
    c.in_ok-push.ensures

pub returns-in_ok-write_name-clause-so_far : goal.returns-in_ok-write_name-clause-so_far
returns-in_ok-write_name-clause-so_far c =
    let below : (text : List ℕ) → slice_get (sorted_names c.args.newer.now) (length c.args.ranks.now.newer)
    ≡ Some text → is_lt (bytes_cmp c.in-Some.name.now text) ≡ true = λ text e.
    sym (ap (λ (o : Option (List ℕ)). option_map_or (λ next. is_lt (bytes_cmp c.in-Some.name.now next)) o true)
    (c.name-next.ensures ∙ ap (slice_get (sorted_names c.args.newer.now)) c.len.ensures ∙ e))
    ∙ sym c.is_below.ensures ∙ c.if-is_below.true in
    naming_older c.args.old.now c.args.newer.now c.requires.old_sorted c.requires.newer_sorted
    (is_covered (set.from_list c.args.cover.now)) c.requires.covered c.args.sections.now c.args.ranks.now.older
    c.args.ranks.now.newer c.requires.so_far c.in-Some.name.now c.write_name.new.sections
    (length c.args.sections.now.names) c.write_name.new.new_ids
    (ap (slice_get (sorted_names c.args.old.now)) (sym c.len-2.ensures) ∙ sym c.name.ensures ∙ ap option_copied c.in-Some.is)
    (sym c.covers.ensures ∙ c.if-covers.false)
    below c.in_ok-write_name.ensures.sections refl c.in_ok-write_name.ensures.ids

pub returns-in_default-next-clause-all : goal.returns-in_default-next-clause-all
returns-in_default-next-clause-all c =
    let none = no_more c.name-next.result c.in_default-next.not-Some in
    let newer_past = none_past (sorted_names c.args.newer.now) (length c.args.ranks.now.newer)
    (ap (slice_get (sorted_names c.args.newer.now)) (sym c.len.ensures) ∙ sym c.name-next.ensures
    ∙ ap option_copied none) in
    λ same. elim c.match-name.branch [
      | in-Some+else-is_below w ↦ absurd (true≢false
          (sym (w.is_below.ensures ∙ ap (λ (o : Option (List ℕ)). option_map_or
          (λ next. is_lt (bytes_cmp w.in-Some.name.now next)) o true) (ap option_copied none)) ∙ w.if-is_below.false))
      | in_default w ↦ (
        none_past (sorted_names c.args.old.now) (length c.args.ranks.now.older)
            (ap (slice_get (sorted_names c.args.old.now)) (sym c.len-2.ensures) ∙ sym c.name.ensures
            ∙ ap option_copied (no_more c.name.result w.in_default.not-Some)),
        newer_past,
      )
    ]

pub write_name-requires-2-clause-storable : goal.write_name-requires-2-clause-storable
write_name-requires-2-clause-storable c =
    name_storable c.args.newer.now c.len.result c.in-Some-next.name.now c.requires.newer_sorted
    (sym c.name-next.ensures ∙ ap option_copied c.in-Some-next.is)

pub returns-clause-so_far : goal.returns-clause-so_far
returns-clause-so_far c =
    let above : (text : List ℕ) → slice_get (sorted_names c.args.old.now) (length c.args.ranks.now.older) ≡ Some text →
    is_lt (bytes_cmp text c.in-Some-next.name.now) ≡ false = λ text e.
    elim c.match-name.branch [
      | in-Some+else-is_below w ↦
          let same : text ≡ w.in-Some.name.now = same_Some text w.in-Some.name.now
          (sym e ∙ ap (slice_get (sorted_names c.args.old.now)) (sym c.len-2.ensures) ∙ sym c.name.ensures
          ∙ ap option_copied w.in-Some.is) in
          ap (λ (t : List ℕ). is_lt (bytes_cmp t c.in-Some-next.name.now)) same
          ∙ sym (ap (λ (o : Option (List ℕ)). option_map_or (λ next. is_lt (bytes_cmp w.in-Some.name.now next)) o true)
          (ap option_copied c.in-Some-next.is))
          ∙ sym w.is_below.ensures
          ∙ w.if-is_below.false
      | in_default w ↦ absurd (none-some text (sym (ap option_copied (no_more c.name.result w.in_default.not-Some))
          ∙ c.name.ensures ∙ ap (slice_get (sorted_names c.args.old.now)) c.len-2.ensures ∙ e))
    ] in
    naming_newer c.args.old.now c.args.newer.now c.requires.old_sorted c.requires.newer_sorted
    (is_covered (set.from_list c.args.cover.now)) c.requires.covered c.args.sections.now c.args.ranks.now.older
    c.args.ranks.now.newer c.requires.so_far c.in-Some-next.name.now c.write_name-2.new.sections
    (length c.args.sections.now.names) c.write_name-2.new.new_ids
    (ap (slice_get (sorted_names c.args.newer.now)) (sym c.len.ensures) ∙ sym c.name-next.ensures ∙ ap option_copied c.in-Some-next.is)
    above c.in_ok-write_name-2.ensures.sections refl c.in_ok-write_name-2.ensures.ids
