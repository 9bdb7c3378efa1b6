use Rattle.std.proofs.Common.{◌≡◌, true, false, ◌<◌, ◌≤◌, ℕ, List, Vec, Option, Some, None, length, drop, get_or, ap, sym, ◌∙◌, refl, rules}
use Rattle.std.specs.Prelude.{option_and_then}
use Rattle.std.specs.declared.alloc.Global.{Global}
use Rattle.std.proofs.lemmas.Option.{slice_get_read, slice_get_past}
use Rattle.cs_tree.specs.StreamModels.{source_model}
use Rattle.cs_fakes.specs.MemTrees.{left_at, left_of}
use Rattle.cs_fakes.specs.declared.types.MemEntry.{MemEntry}
use Rattle.cs_fakes.specs.declared.types.MemItem.{MemItem}
use Rattle.cs_fakes.specs.declared.types.MemItem.TheVariants.{Folder, File, Cut, Other, Denied}
use Rattle.cs_fakes.proofs.mem_tree.open_source.Goals as goal

left_in : (items : List MemEntry) (consumed i : ℕ) (opened : Option ℕ) (s : MemEntry) → opened ≡ Some i →
    i < length items → s ≡ get_or items i s → left_at items consumed opened ≡ left_of consumed s.item
left_in items consumed i opened s e within is =
    ap (left_at items consumed) e ∙ ap (option_and_then (λ (s : MemEntry). left_of consumed s.item))
    (slice_get_read items (length items) i s refl within is)

left_past : (items : List MemEntry) (consumed i : ℕ) (opened : Option ℕ) → opened ≡ Some i → length items ≤ i →
    left_at items consumed opened ≡ None
left_past items consumed i opened e past =
    ap (left_at items consumed) e ∙ ap (option_and_then (λ (s : MemEntry). left_of consumed s.item)) (slice_get_past items i past)

no_bytes : (consumed : ℕ) (item : MemItem) → ((bytes : Vec ℕ Global) → item ≡ File bytes → ⊥) →
    ((bytes : Vec ℕ Global) → item ≡ Cut bytes → ⊥) → left_of consumed item ≡ None
no_bytes consumed (Folder names) no_file no_cut = refl
no_bytes consumed (File bytes) no_file no_cut = absurd (no_file bytes refl)
no_bytes consumed (Cut bytes) no_file no_cut = absurd (no_cut bytes refl)
no_bytes consumed Other no_file no_cut = refl
no_bytes consumed Denied no_file no_cut = refl

pub returns-in_err-opened-clause-model : goal.returns-in_err-opened-clause-model
returns-in_err-opened-clause-model c = search rules

pub returns-in_err-bytes-clause-model : goal.returns-in_err-bytes-clause-model
returns-in_err-bytes-clause-model c =
    rw c.from_residual-in_err-bytes.ensures
    (left_past c.args.items.now c.args.consumed c.in_ok-opened.field-0 c.args.opened c.in_ok-opened.was c.in_err-bytes.ensures.lookup.3)

pub returns-in-File-clause-model : goal.returns-in-File-clause-model
returns-in-File-clause-model c =
    let found = c.in_ok-bytes.ensures.lookup in
    c.new.ensures.model
    ∙ ap (λ bytes. Some (source_model bytes false)) (c.after.ensures ∙ ap (drop c.args.consumed) c.deref.ensures.value)
    ∙ sym (left_in c.args.items.now c.args.consumed c.in_ok-opened.field-0 c.args.opened c.in_ok-bytes.field-0.now
    c.in_ok-opened.was found.3.0 found.1 ∙ ap (left_of c.args.consumed) c.in-File.is)

pub returns-in-Cut-clause-model : goal.returns-in-Cut-clause-model
returns-in-Cut-clause-model c =
    let found = c.in_ok-bytes.ensures.lookup in
    c.new-in-Cut.ensures.model
    ∙ ap (λ bytes. Some (source_model bytes true)) (c.after-in-Cut.ensures ∙ ap (drop c.args.consumed) c.deref-in-Cut.ensures.value)
    ∙ sym (left_in c.args.items.now c.args.consumed c.in_ok-opened.field-0 c.args.opened c.in_ok-bytes.field-0.now
    c.in_ok-opened.was found.3.0 found.1 ∙ ap (left_of c.args.consumed) c.in-Cut.is)

pub returns-in_default : goal.returns-in_default
returns-in_default c =
    let found = c.in_ok-bytes.ensures.lookup in
    record {
      model = left_in c.args.items.now c.args.consumed c.in_ok-opened.field-0 c.args.opened c.in_ok-bytes.field-0.now
          c.in_ok-opened.was found.3.0 found.1 ∙ no_bytes c.args.consumed c.in_ok-bytes.field-0.now.item
          c.in_default.not-File c.in_default.not-Cut;
      step = tt;
    }
