pub mod ValueLaws
pub mod FalseLaws
pub mod TableLaws
pub mod BuildLaws
pub mod ModelLaws
