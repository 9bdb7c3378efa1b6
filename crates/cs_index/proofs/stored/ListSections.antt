-- The entries and the lists of the trigrams of a query, in an index that stands in bytes.
use Rattle.std.proofs.Common.{◌≡◌, ℕ, true, List, [], ◌∷◌, length, map, take, refl, sym, ap, ◌∙◌, inl, Result, Ok, Err, Vec, Global}
use Rattle.std.specs.Prelude.{option_map, unwrap_or, IfErr, IfOk}
use Rattle.std.specs.List.{AllByRecursion}
use Rattle.cs_index.specs.Encoding.{SectionBytes}
use Rattle.cs_index.specs.Opening.{rises}
use Rattle.cs_index.specs.OpenedParts.{Parts, ids_read}
use Rattle.cs_index.specs.Postings.{nothing_read, read_for, IsListFault}
use Rattle.cs_index.specs.Answerable.{is_answerable}
use Rattle.cs_index.specs.CandidatePages.{candidates_from, AreOnPage}
use Rattle.cs_index.specs.declared.reading.candidates.Page.{Page}
use Rattle.cs_index.specs.declared.fault.IndexFault.{IndexFault}
use Rattle.cs_trigram.specs.declared.queries.Query.{Query}
use Rattle.cs_index.specs.PostingLists.{Ids, read_list}
use Rattle.cs_index.specs.Stored.{StandsIn, StoredParts, sections_at}
use Rattle.cs_index.specs.StoredEntries.{entry_read, trigrams_listed, HasEntries}
use Rattle.cs_index.specs.declared.reading.entries.Entry.{Entry}
use Rattle.cs_index.proofs.decoding.DecodableBytesOpen.{pass_from, Pass}
use Rattle.cs_index.proofs.decoding.IndexFields.{entries_rise}
use Rattle.cs_index.proofs.stored.SectionReads.{stands_read}
use Rattle.cs_index.proofs.stored.StoredEntries.{IsFound}

module _ (bytes : List ℕ) (stored : StoredParts) (parts : Parts) (stands : StandsIn bytes stored parts) where
  abbrev cut : SectionBytes
  cut = sections_at bytes stored.starts

  passed : Pass cut parts
  passed = pass_from cut parts (stands_read bytes stored parts stands)

  pub stored_entries : HasEntries bytes stored.starts parts.entries
  stored_entries =
      let are = ap (λ (p : Parts). p.entries) passed.are in
      record {
        are = sym are;
        within = stands.within;
        rise = ap rises (sym are) ∙ entries_rise (length cut.postings) cut.list_index passed.list_index;
      }

  pub stored_lists : parts.postings ≡ cut.postings
  stored_lists = sym (ap (λ (p : Parts). p.postings) passed.are)

  abbrev pub list_read : Entry → Ids
  list_read e = read_list cut.postings stored.name_count (entry_read e)

  read_found : (e : Entry) → IsFound parts.entries e → list_read e ≡ read_for parts e.trigram
  unfolding read_for
  read_found e found = sym (ap (λ o. unwrap_or (option_map (ids_read parts) o) nothing_read) found
      ∙ (λ i. read_list (stored_lists i) (sym stands.names i) (entry_read e)))

  -- the lists of the entries are those of their trigrams
  pub listed_read : (listed : List Entry) → AllByRecursion (IsFound parts.entries) listed → map list_read listed
      ≡ map (read_for parts) (trigrams_listed listed)
  listed_read [] all = refl
  listed_read (e ∷ es) all = λ i. read_found e all.0 i ∷ listed_read es all.1 i

-- ---- the candidates that are returned

module _ (page : Page) (query : Query) (parts : Parts) where
  pub ids_of : (answer : Result (Vec ℕ Global) IndexFault) → AreOnPage page query parts answer →
      IfOk answer (λ ids. ids.items ≡ take page.most (candidates_from parts query page.from))
  ids_of (Ok ids) are = are.0
  ids_of (Err fault) are = tt

  pub whole_of_ok : (answer : Result (Vec ℕ Global) IndexFault) → AreOnPage page query parts answer →
      IfOk answer (λ _. is_answerable parts query ≡ true)
  whole_of_ok (Ok ids) are = are.1
  whole_of_ok (Err fault) are = tt

  pub fault_of_err : (answer : Result (Vec ℕ Global) IndexFault) → AreOnPage page query parts answer →
      IfErr answer (IsListFault (is_answerable parts query))
  fault_of_err (Ok ids) are = tt
  fault_of_err (Err fault) are = inl are
