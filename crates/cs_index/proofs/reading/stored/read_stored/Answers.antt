use Rattle.std.proofs.Common.{◌≡◌, ◌-◌, ◌∙◌, ap, sym, subst, true, ℕ}
use Rattle.cs_index.specs.Encoding.{SectionBytes}
use Rattle.cs_index.specs.Opening.{is_list_index, parts_of, texts_of}
use Rattle.cs_index.specs.SectionPieces.{AreNamesTested, ArePathsRead}
use Rattle.cs_index.specs.Stored.{sections_at}
use Rattle.cs_index.proofs.decoding.DecodableBytesOpen.{split_decodes}
use Rattle.cs_index.proofs.stored.SectionReads.{bad_list_index, bad_name_index, bad_names, bad_paths, closed_paths, if_modelled, lists_long, opened, tested}
use Rattle.cs_index.proofs.reading.stored.read_stored.Goals as goal

pub returns-in_default-clause-opens : goal.returns-in_default-clause-opens
returns-in_default-clause-opens g c =
    if_modelled (g.S.Store.model c.args.store.now) _
    (λ bytes m are within split.
    let s : SectionBytes = sections_at bytes c.args.starts in
    opened bytes s _ split (bad_paths s (subst (ArePathsRead s.paths) c.in_default.is (c.in_ok-paths.ensures.paths bytes m within))))

pub returns-in_default-2-clause-opens : goal.returns-in_default-2-clause-opens
returns-in_default-2-clause-opens g c =
    if_modelled (g.S.Store.model c.args.store.now) _
    (λ bytes m are within split.
    let s : SectionBytes = sections_at bytes c.args.starts in
    let paths = closed_paths s.paths c.in_ok-paths.field-0 c.in-Some.paths c.in-Some.is
    (c.in_ok-paths.ensures.paths bytes m within) c.in_ok-paths.ensures.closed in
    opened bytes s _ split (bad_names s paths.1
    (subst (AreNamesTested s.names s.name_index) c.in_default-2.is
    (c.in_ok-names.ensures.names bytes (c.read_paths.ensures.store.0 ∙ m) within))))

pub returns-then-not-names-clause-opens : goal.returns-then-not-names-clause-opens
returns-then-not-names-clause-opens g c =
    if_modelled (g.S.Store.model c.args.store.now) _
    (λ bytes m are within split.
    let s : SectionBytes = sections_at bytes c.args.starts in
    let paths = closed_paths s.paths c.in_ok-paths.field-0 c.in-Some.paths c.in-Some.is
    (c.in_ok-paths.ensures.paths bytes m within) c.in_ok-paths.ensures.closed in
    let names = subst (AreNamesTested s.names s.name_index) c.in-Some-2.is
    (c.in_ok-names.ensures.names bytes (c.read_paths.ensures.store.0 ∙ m) within) in
    opened bytes s _ split (bad_name_index s paths.1 names.valid (sym names.offsets ∙ c.if-not-names.true)))

pub returns-then-not-branch-clause-opens : goal.returns-then-not-branch-clause-opens
returns-then-not-branch-clause-opens g c =
    if_modelled (g.S.Store.model c.args.store.now) _
    (λ bytes m are within split.
    let s : SectionBytes = sections_at bytes c.args.starts in
    let paths = closed_paths s.paths c.in_ok-paths.field-0 c.in-Some.paths c.in-Some.is
    (c.in_ok-paths.ensures.paths bytes m within) c.in_ok-paths.ensures.closed in
    let names = subst (AreNamesTested s.names s.name_index) c.in-Some-2.is
    (c.in_ok-names.ensures.names bytes (c.read_paths.ensures.store.0 ∙ m) within) in
    let long = lists_long bytes c.args.starts c.requires within in
    opened bytes s _ split (bad_list_index s paths.1 names.valid (sym names.offsets ∙ c.if-not-names.false)
    (ap (λ n. is_list_index n s.list_index) long
    ∙ sym (c.in_ok-has_stored_entries.ensures.entries bytes (c.test_names.ensures.store.0 ∙ c.read_paths.ensures.store.0
    ∙ m) within) ∙ c.if-not-branch.true)))

pub returns-clause-opens : goal.returns-clause-opens
returns-clause-opens g c =
    if_modelled (g.S.Store.model c.args.store.now) _
    (λ bytes m are within split.
    let s : SectionBytes = sections_at bytes c.args.starts in
    let paths = closed_paths s.paths c.in_ok-paths.field-0 c.in-Some.paths c.in-Some.is
    (c.in_ok-paths.ensures.paths bytes m within) c.in_ok-paths.ensures.closed in
    let names = subst (AreNamesTested s.names s.name_index) c.in-Some-2.is
    (c.in_ok-names.ensures.names bytes (c.read_paths.ensures.store.0 ∙ m) within) in
    let long = lists_long bytes c.args.starts c.requires within in
    let room : ℕ = c.args.starts.name_index - c.args.starts.postings in
    let entries : is_list_index room s.list_index ≡ true =
    sym (c.in_ok-has_stored_entries.ensures.entries bytes (c.test_names.ensures.store.0 ∙ c.read_paths.ensures.store.0 ∙ m)
    within) ∙ c.if-not-branch.false in
    let decodes = split_decodes bytes s (parts_of s) are split
    (tested s.paths s.names s.name_index s.list_index s.postings room long (record {
      each_path = paths.1;
      each_name = names.valid;
      offsets = sym names.offsets ∙ c.if-not-names.false;
      entries = entries;
    })) in (
      parts_of s,
      record {
        decodes = decodes.0;
        sections = decodes.1;
        within = within;
        paths = ap texts_of paths.0;
        names = names.count;
      },
    ))
