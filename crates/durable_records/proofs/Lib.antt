pub mod Tests
pub mod MemberFacts
pub mod RecordFacts
