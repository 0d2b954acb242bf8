pub mod ListedLaws
pub mod SoundLaws
pub mod CompleteLaws
pub mod FirstLaws
