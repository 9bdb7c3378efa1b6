use Rattle.std.proofs.Common.{◌≡◌, ◌≤◌, ◌<◌, ◌+◌, ◌^◌, ◌∙◌, ◌++◌, ◌∷◌, [], ℕ, ap, sym, subst, length, map, List, arith, append_assoc, length-append}
use Rattle.std.specs.List.{AllByRecursion, concat}
use Rattle.cs_index.specs.Encoding.{ListEntry, PostingList, posting_list_bytes, sections_of, SectionBytes}
use Rattle.cs_index.specs.SectionsInvariant.{lists_at}
use Rattle.cs_index.specs.Written.{prefix_of}
use Rattle.cs_index.specs.Sending.{bytes_in}
use Rattle.cs_index.proofs.encoding.Layout.{back_is, entries_near, prefix_1_long, prefix_2_long, layout_long, list_index_is, third_is}
use Rattle.cs_index.proofs.writing.output.write_tables.Goals as goal

-- what is appended to the tables is appended to the output
joined : (bytes before after more : List ℕ) → after ≡ before ++ more → bytes ++ after ≡ (bytes ++ before) ++ more
joined bytes before after more is = ap (λ tables. bytes ++ tables) is ∙ sym (append_assoc bytes before more)

prefix_within : (bytes : List ℕ) (paths names : ℕ) (all_paths all_names : List (List ℕ)) (ps : List PostingList) →
    bytes ≡ prefix_of all_paths all_names ++ concat (map posting_list_bytes ps) →
    16 + paths + 1 + names + 1 ≡ length (prefix_of all_paths all_names) →
    16 + paths + 1 + names + 1 ≤ length bytes
prefix_within bytes paths names all_paths all_names ps is start =
    let long = ap length is ∙ length-append (prefix_of all_paths all_names) (concat (map posting_list_bytes ps)) in
    omega (arith, long, start)

pub overflow_add-lists_start : goal.overflow_add-lists_start
overflow_add-lists_start c =
    let ps : List PostingList = lists_at (bytes_in c.args.out.now) c.args.entries.now in
    let within = prefix_within (bytes_in c.args.out.now) c.bytes_len.result c.bytes_len-2.result c.args.paths.now
    c.args.names.now ps c.requires.lists
    (prefix_2_long c.args.paths.now c.args.names.now ps c.bytes_len.result c.bytes_len-2.result c.bytes_len.ensures.value c.bytes_len-2.ensures.value) in
    omega (arith, within, c.len-start.ensures.value, c.len-start.ensures.within)

pub overflow_add-lists_start-2 : goal.overflow_add-lists_start-2
overflow_add-lists_start-2 c =
    let ps : List PostingList = lists_at (bytes_in c.args.out.now) c.args.entries.now in
    let within = prefix_within (bytes_in c.args.out.now) c.bytes_len.result c.bytes_len-2.result c.args.paths.now
    c.args.names.now ps c.requires.lists
    (prefix_2_long c.args.paths.now c.args.names.now ps c.bytes_len.result c.bytes_len-2.result c.bytes_len.ensures.value c.bytes_len-2.ensures.value) in
    omega (arith, within, c.len-start.ensures.value, c.len-start.ensures.within)

pub write_entries-requires : goal.write_entries-requires
write_entries-requires c =
    let bytes : List ℕ = bytes_in c.args.out.now in
    let ps : List PostingList = lists_at bytes c.args.entries.now in
    let start = prefix_2_long c.args.paths.now c.args.names.now ps c.bytes_len.result c.bytes_len-2.result
    c.bytes_len.ensures.value c.bytes_len-2.ensures.value in
    let long : length bytes ≡ length (prefix_of c.args.paths.now c.args.names.now) + length
    (concat (map posting_list_bytes ps)) = ap length c.requires.lists
    ∙ length-append (prefix_of c.args.paths.now c.args.names.now) (concat (map posting_list_bytes ps)) in
    let fits : length bytes < 2 ^ 32 = omega
    (arith, c.len-start.ensures.value, c.ranges.limit.fits, c.if-name_index_at-limit.false) in
    subst (AllByRecursion
    (λ (e : ListEntry). (16 + c.bytes_len.result + 1 + c.bytes_len-2.result + 1 ≤ e.offset) × (e.offset < 2 ^ 32))) (sym c.requires.entries)
    (entries_near (16 + c.bytes_len.result + 1 + c.bytes_len-2.result + 1)
    (length (prefix_of c.args.paths.now c.args.names.now)) (2 ^ 32) ps (omega (arith, start))
    (omega (arith, long, fits)))

pub returns-then-start-len-clause-too_large : goal.returns-then-start-len-clause-too_large
returns-then-start-len-clause-too_large c = λ _.
    let bytes : List ℕ = bytes_in c.args.out.now in
    let ps : List PostingList = lists_at bytes c.args.entries.now in
    let s : SectionBytes = sections_of c.args.paths.now c.args.names.now ps in
    let start = prefix_2_long c.args.paths.now c.args.names.now ps c.bytes_len.result c.bytes_len-2.result
    c.bytes_len.ensures.value c.bytes_len-2.ensures.value in
    let closing : List ℕ = 255 ∷ 255 ∷ 255 ∷ 0 ∷ [] in
    let third = third_is c.args.paths.now c.args.names.now ps bytes (bytes ++ c.extend_from_slice.new.self.items)
    c.requires.lists (ap (λ tables. bytes ++ tables)
    (c.in_ok-extend_from_slice.ensures.items ∙ ap (λ tables. tables ++ closing) c.new-tables.ensures.items)) in
    let index = list_index_is c.args.paths.now c.args.names.now ps c.args.entries.now
    (16 + c.bytes_len.result + 1 + c.bytes_len-2.result + 1) c.requires.entries start in
    let long = layout_long s (bytes ++ c.extend_from_slice.new.self.items) (bytes ++ c.write_starts.new.out.items)
    (bytes ++ c.write_entries.new.out.items) third
    (joined bytes c.extend_from_slice.new.self.items c.write_starts.new.out.items s.name_index c.in_ok-write_starts.ensures)
    (joined bytes c.write_starts.new.out.items c.write_entries.new.out.items s.list_index
    (c.in_ok-write_entries.ensures ∙ ap (λ bs. c.write_starts.new.out.items ++ bs) index)) in
    let all = length-append bytes c.write_entries.new.out.items in
    omega
    (arith, long, all, c.if-start-len.true, c.len-start.ensures.value, c.len-3.ensures, c.write_entries.new.out.ok.0)

pub returns-clause-ok : goal.returns-clause-ok
returns-clause-ok c =
    let bytes : List ℕ = bytes_in c.args.out.now in
    let ps : List PostingList = lists_at bytes c.args.entries.now in
    let s : SectionBytes = sections_of c.args.paths.now c.args.names.now ps in
    let start = prefix_2_long c.args.paths.now c.args.names.now ps c.bytes_len.result c.bytes_len-2.result
    c.bytes_len.ensures.value c.bytes_len-2.ensures.value in
    let first = prefix_1_long c.args.paths.now c.args.names.now ps c.bytes_len.result c.bytes_len.ensures.value in
    let closing : List ℕ = 255 ∷ 255 ∷ 255 ∷ 0 ∷ [] in
    let third = third_is c.args.paths.now c.args.names.now ps bytes (bytes ++ c.extend_from_slice.new.self.items)
    c.requires.lists (ap (λ tables. bytes ++ tables)
    (c.in_ok-extend_from_slice.ensures.items ∙ ap (λ tables. tables ++ closing) c.new-tables.ensures.items)) in
    let index = list_index_is c.args.paths.now c.args.names.now ps c.args.entries.now
    (16 + c.bytes_len.result + 1 + c.bytes_len-2.result + 1) c.requires.entries start in
    let third_long = length-append bytes c.extend_from_slice.new.self.items in
    let name_index : c.len-start.result + c.len.result ≡ length (bytes ++ c.extend_from_slice.new.self.items) = omega
    (arith, third_long, c.len-start.ensures.value, c.len.ensures, c.extend_from_slice.new.self.ok.0) in
    let fourth_long = length-append bytes c.write_starts.new.out.items in
    let list_index : c.len-start.result + c.len-2.result ≡ length (bytes ++ c.write_starts.new.out.items) = omega
    (arith, fourth_long, c.len-start.ensures.value, c.len-2.ensures, c.write_starts.new.out.ok.0) in
    back_is s (bytes ++ c.extend_from_slice.new.self.items) (bytes ++ c.write_starts.new.out.items)
    (bytes ++ c.write_entries.new.out.items) (bytes ++ c.write_trailer.new.out.items)
    (16 ∷ (16 + c.bytes_len.result + 1) ∷ (16 + c.bytes_len.result + 1 + c.bytes_len-2.result + 1) ∷ (c.len-start.result + c.len.result) ∷ (c.len-start.result + c.len-2.result) ∷ [])
    third
    (joined bytes c.extend_from_slice.new.self.items c.write_starts.new.out.items s.name_index c.in_ok-write_starts.ensures)
    (joined bytes c.write_starts.new.out.items c.write_entries.new.out.items s.list_index
    (c.in_ok-write_entries.ensures ∙ ap (λ bs. c.write_starts.new.out.items ++ bs) index))
    (joined bytes c.write_entries.new.out.items c.write_trailer.new.out.items _ c.in_ok-write_trailer.ensures)
    (λ i. 16 ∷ first i ∷ start i ∷ name_index i ∷ list_index i ∷ [])
