pub mod GoingBackLaws
pub mod WellFoundLaws
