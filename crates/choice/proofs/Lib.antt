pub mod ChoiceLaws
pub mod ChoiceRight
pub mod CostLaws
pub mod LeastLaws
pub mod SomeEligible
pub mod UnitLaws
