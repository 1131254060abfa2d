pub mod Small
pub mod EntryLaws
pub mod HeldLaws
pub mod Lists
pub mod Passing
pub mod StepLaws
pub mod MayLaws
pub mod GrantLaws
pub mod GrantParts
pub mod HolderLaws
pub mod LookupLaws
pub mod KeptLaws
pub mod OwnerLaws
pub mod EndsLaws
mod TicketLaws
pub mod PlaceLaws
mod SearchLaws
pub mod LoadLaws
pub mod WritingLaws
