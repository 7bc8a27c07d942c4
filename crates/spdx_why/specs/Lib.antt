pub mod Marks
pub mod Missing
pub mod Least
pub mod Serving
pub mod GrowthLaws
pub mod JudgeModel
