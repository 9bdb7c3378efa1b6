-- Pages of candidates: so many of those from an id on. docs/FORMAT.md, "The index as it is read".
use Rattle.std.specs.Prelude.{◌≡◌, ℕ, nat_le, true, false, List, take, filter, Result, Ok, Err, Vec}
use Rattle.std.specs.declared.alloc.Global.{Global}
use Rattle.cs_trigram.specs.declared.queries.Query.{Query}
use Rattle.cs_index.specs.OpenedParts.{Parts}
use Rattle.cs_index.specs.Candidates.{candidates_of}
use Rattle.cs_index.specs.Answerable.{is_answerable}
use Rattle.cs_index.specs.declared.reading.candidates.Page.{Page}
use Rattle.cs_index.specs.declared.fault.IndexFault.{IndexFault}
use Rattle.cs_index.specs.declared.fault.IndexFault.TheVariants.{BadList}

-- the candidates from an id on
abbrev pub candidates_from : Parts → Query → ℕ → List ℕ
candidates_from parts query from = filter (λ id. nat_le from id) (candidates_of parts query)

-- the first of them, up to so many, or `BadList` if a posting list that the query mentions is damaged
abbrev pub AreOnPage : Page → Query → Parts → Result (Vec ℕ Global) IndexFault → Type 0
AreOnPage page query parts (Ok ids) = (ids.items ≡ take page.most (candidates_from parts query page.from)) × (is_answerable parts query ≡ true)
AreOnPage page query parts (Err fault) = (fault ≡ BadList) × (is_answerable parts query ≡ false)
