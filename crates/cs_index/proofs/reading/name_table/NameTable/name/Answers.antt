use Rattle.std.proofs.Common.{◌≡◌, ◌≤◌, ◌<◌, ◌-◌, ◌*◌, ◌∙◌, ap, sym, subst, ℕ, List, length, take, drop, arith}
use Rattle.std.proofs.lemmas.List.{take_rest}
use Rattle.cs_index.specs.Opening.{is_names_section, number_at, texts_of}
use Rattle.cs_index.proofs.decoding.IndexFields.{offsets_long}
use Rattle.cs_index.proofs.decoding.NameOffsets.{name_begins, name_given}
use Rattle.cs_index.proofs.reading.name_table.NameTable.name.Goals as goal

-- the id is less than the number of names
below : (names : List ℕ) (now : List (List ℕ)) (id count : ℕ) → texts_of names ≡ now → count ≡ length now → id < count →
    id < length (texts_of names)
below names now id count is counted h = let same = ap length is in omega (arith, same, counted, h)

pub read_number-start-requires : goal.read_number-start-requires
read_number-start-requires c =
    let long = offsets_long c.self.inside.offsets.now (texts_of c.self.inside.names.now) c.self.invariant.offsets in
    let within = below c.self.inside.names.now c.args.self.now c.args.id c.len.result c.self.view_is c.len.ensures c.if-id-len.false in
    omega (arith, long, within)

pub slice_bounds-new-count : goal.slice_bounds-new-count
slice_bounds-new-count c =
    let within = below c.self.inside.names.now c.args.self.now c.args.id c.len.result c.self.view_is c.len.ensures c.if-id-len.false in
    let names = name_begins c.self.inside.names.now c.self.inside.offsets.now c.args.id c.self.invariant.each_name
    c.self.invariant.offsets within in
    subst (λ n. n ≤ length c.self.inside.names.now) (sym c.read_number-start.ensures) names.within

pub slice_bounds-new-start : goal.slice_bounds-new-start
slice_bounds-new-start c =
    let within = below c.self.inside.names.now c.args.self.now c.args.id c.len.result c.self.view_is c.len.ensures c.if-id-len.false in
    let names = name_begins c.self.inside.names.now c.self.inside.offsets.now c.args.id c.self.invariant.each_name
    c.self.invariant.offsets within in
    subst (λ n. n ≤ length c.self.inside.names.now) (sym c.read_number-start.ensures) names.within

-- the bytes from the offset on
rest_at : (names : List ℕ) (start offset : ℕ) → start ≡ offset → take (length names - start) (drop start names) ≡ drop offset names
rest_at names start offset at = take_rest names start ∙ ap (λ n. drop n names) at

pub new-requires : goal.new-requires
new-requires c =
    let within = below c.self.inside.names.now c.args.self.now c.args.id c.len.result c.self.view_is c.len.ensures c.if-id-len.false in
    let names = name_begins c.self.inside.names.now c.self.inside.offsets.now c.args.id c.self.invariant.each_name
    c.self.invariant.offsets within in
    ap is_names_section (rest_at c.self.inside.names.now c.read_number-start.result
    (number_at c.self.inside.offsets.now (4 * c.args.id)) c.read_number-start.ensures) ∙ names.formed

pub returns : goal.returns
returns c =
    let within = below c.self.inside.names.now c.args.self.now c.args.id c.len.result c.self.view_is c.len.ensures c.if-id-len.false in
    let names = name_begins c.self.inside.names.now c.self.inside.offsets.now c.args.id c.self.invariant.each_name
    c.self.invariant.offsets within in
    let rest = c.new.ensures ∙ ap texts_of (rest_at c.self.inside.names.now c.read_number-start.result
    (number_at c.self.inside.offsets.now (4 * c.args.id)) c.read_number-start.ensures) ∙ names.texts
    ∙ ap (drop c.args.id) c.self.view_is in
    name_given c.args.self.now c.new.result c.next.new.self c.args.id c.next.result rest c.next.ensures.steps
