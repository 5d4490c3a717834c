mod LookingLaws
mod MarkLaws
