pub mod FormValues
pub mod Intersection
pub mod MentionedLists
pub mod PageLemmas
pub mod QueryMembers
pub mod QueryTrigrams
pub mod WindowRows
