use Rattle.std.proofs.Common.{◌≡◌, ◌∙◌, sym, subst, ℕ, Some, arith}
use Rattle.cs_merge.proofs.Common.{BytesAt, Parts, list_trigram, lower_of, position_after, known_parts, IsMergingLists}
use Rattle.cs_merge.proofs.ListLoopLemmas.{advances, merged_fault, merged_more}
use Rattle.cs_merge.proofs.merging_trigrams.merge_next.Goals as goal

pub returns-in-Ok-clause-so_far : goal.returns-in-Ok-clause-so_far
returns-in-Ok-clause-so_far g c =
    let model = g.S.Store.model c.args.store.now in
    let sides = c.args.sides.now in
    let source = sides.older.now in
    let newer : Parts = sides.newer.now in
    let at = c.args.progress.now in
    let has = c.requires.so_far.read_so_far in
    let next : lower_of (list_trigram (known_parts source) at.older) (list_trigram newer at.newer)
    ≡ Some c.in-Some.trigram = (λ i. lower_of (sym c.trigram_at-older_trigram.ensures i)
    (sym c.trigram_at-newer_trigram.ensures i)) ∙ sym c.lower.ensures ∙ c.in-Some.is in
    let more = merged_more model source newer sides.runs.older sides.runs.newer c.are_valid.ensures.known
    (c.are_valid.ensures.parts model) c.are_valid-2.ensures at.reader c.args.sections.now at.older at.newer
    c.in-Some.trigram c.requires.so_far next
    c.read.new.self (λ bytes known. c.in_ok-read.ensures.bytes bytes known (has bytes known))
    (λ parts is. c.in_ok-read.ensures.list is.bytes is.known (has is.bytes is.known) parts is.tables_are)
    c.merge_trigram.new.sections c.requires.ids c.in-Ok.ensures.ok c.in-Ok.ensures.fault in
    subst (λ (buffer : BytesAt). IsMergingLists model source buffer newer sides.runs.older sides.runs.newer
    c.args.sections.now c.merge_trigram.new.sections c.merge_trigram.new.progress.older
    c.merge_trigram.new.progress.newer) (sym c.in-Ok.ensures.reader)
    (subst (λ (n : ℕ). IsMergingLists model source c.read.new.self newer sides.runs.older sides.runs.newer
    c.args.sections.now c.merge_trigram.new.sections n c.merge_trigram.new.progress.newer)
    (sym c.in-Ok.ensures.older)
    (subst (λ (n : ℕ). IsMergingLists model source c.read.new.self newer sides.runs.older sides.runs.newer
    c.args.sections.now c.merge_trigram.new.sections
    (position_after (known_parts source) at.older c.in-Some.trigram) n) (sym c.in-Ok.ensures.newer) more))

pub returns-in-Ok-clause-more : goal.returns-in-Ok-clause-more
returns-in-Ok-clause-more g c t =
    let model = g.S.Store.model c.args.store.now in
    let sides = c.args.sides.now in
    let source = sides.older.now in
    let newer : Parts = sides.newer.now in
    let at = c.args.progress.now in
    let next : lower_of (list_trigram (known_parts source) at.older) (list_trigram newer at.newer)
    ≡ Some c.in-Some.trigram = (λ i. lower_of (sym c.trigram_at-older_trigram.ensures i)
    (sym c.trigram_at-newer_trigram.ensures i)) ∙ sym c.lower.ensures ∙ c.in-Some.is in
    let on = advances model source newer sides.runs.older sides.runs.newer c.are_valid.ensures.known
    (c.are_valid.ensures.parts model) c.are_valid-2.ensures at.reader c.args.sections.now at.older at.newer
    c.in-Some.trigram c.requires.so_far next in
    omega (arith, on, c.in-Ok.ensures.older, c.in-Ok.ensures.newer)

pub returns-in-Err-clause-fault : goal.returns-in-Err-clause-fault
returns-in-Err-clause-fault g c =
    let model = g.S.Store.model c.args.store.now in
    let sides = c.args.sides.now in
    let source = sides.older.now in
    let newer : Parts = sides.newer.now in
    let at = c.args.progress.now in
    let has = c.requires.so_far.read_so_far in
    let next : lower_of (list_trigram (known_parts source) at.older) (list_trigram newer at.newer)
    ≡ Some c.in-Some.trigram = (λ i. lower_of (sym c.trigram_at-older_trigram.ensures i)
    (sym c.trigram_at-newer_trigram.ensures i)) ∙ sym c.lower.ensures ∙ c.in-Some.is in
    merged_fault model source newer sides.runs.older sides.runs.newer c.are_valid.ensures.known
    (c.are_valid.ensures.parts model) c.are_valid-2.ensures at.reader c.args.sections.now at.older at.newer
    c.in-Some.trigram c.requires.so_far next
    c.read.new.self (λ bytes known. c.in_ok-read.ensures.bytes bytes known (has bytes known))
    (λ parts is. c.in_ok-read.ensures.list is.bytes is.known (has is.bytes is.known) parts is.tables_are)
    c.in-Err.fault c.in-Err.ensures.fault
