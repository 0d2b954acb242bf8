pub mod Running
pub mod Sound
pub mod Keeping
pub mod CompletesLaws
pub mod MetLemmas
pub mod BegunLaws
pub mod RoundLaws
