-- The definitions that the contracts of this crate cite, passed on from one place. Declares nothing.
pub use Rattle.cs_listing.specs.FolderReads.{InTree}
pub use Rattle.cs_listing.specs.Models.{chosen_in}
pub use Rattle.cs_listing.specs.Stamps.{AreStamped, InStamps}
pub use Rattle.cs_listing.specs.Walk.{IsWalkIn, path_text, walk_weight}
pub use Rattle.cs_lines.specs.Findings.{StopsBySpans, has_stopped}
pub use Rattle.cs_tree.specs.SinkOutputs.{Begins, Keeps, Prints, given}
pub use Rattle.cs_lines.specs.Project.{status_by}
pub use Rattle.cs_tree.specs.Clean.{absolute}
pub use Rattle.cs_tree.specs.CleanAnswers.{CleanAnswers}
pub use Rattle.cs_tree.specs.Cleaning.{clean_fault}
pub use Rattle.cs_tree.specs.PathParts.{texts}
pub use Rattle.cs_tree.specs.Snapshot.{other}
pub use Rattle.cs_project.specs.Calls.{AnswersRequest, BeginsFor, BeginsList, BeginsProject, BeginsTask, DoesProject, HasBase, IsProgramFor, IsScopeOf, IsSearchFor, ListsFor, SearchesFor, types_printed}
pub use Rattle.cs_project.specs.Knowledge.{HoldsAsBefore, HoldsFor, asked_as, by_names}
pub use Rattle.cs_project.specs.Noted.{NotesSeen}
pub use Rattle.cs_project.specs.Projects.{FindsInProject, ListsProject, SearchesProject}
pub use Rattle.cs_project.specs.Reports.{MayReport}
pub use Rattle.cs_project.specs.Scopes.{AreAllNamed, AreAllThere, AreAtPath, AreFilesBelow, AreFirstAtPath, AreFirstBelow, AreFirstItemsOf, AreFirstNamed, AreFirstOfAll, AreItemsOf, AreNamed, AreThere, AreThereAt, ForItems, InInput, are_several, is_folder, is_input, is_straight, names_folder, no_bytes, path_in, unread}
pub use Rattle.cs_project.specs.Searched.{BeginsNames, binary_as, names_printed}
pub use Rattle.cs_project.specs.Visits.{AreAnswered, AsksFor, BeginsItems, FindsAmong, Follows, IsStatusOf, KeepsForm, KnowsFor, ListsItems, SearchesItems, ShowsItems, VisitsOne, VisitsSome, is_done, met_item}
pub use Rattle.cs_project.specs.Walked.{AreFirstLeft, AreLeft, GivesFile, GivesStampedFile, IsKindAt, IsWordPath, KeepsListing, StepsTo, WalksFolder}
