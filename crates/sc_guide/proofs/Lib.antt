pub mod ListLaws
pub mod SeenLaws
pub mod GuideLaws
pub mod GuideExample
