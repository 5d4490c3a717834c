pub mod FlatLaws
pub mod NodeLaws
pub mod MeetingLaws
pub mod WalkingLaws
pub mod EntryLaws
pub mod RemovalLaws
