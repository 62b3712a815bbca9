-- The definitions that a reader must trust, in this order.
pub mod Words
pub mod Standard
pub mod Document01
pub mod Root
pub mod Distance
pub mod Picture
pub mod Answers
pub mod Lent
pub mod Questions
pub mod BlockCalls
pub mod FrameCalls
pub mod Demand3
-- The forms that the code uses.
pub mod CodeForm
pub mod LoopForm
-- Laws: of the definitions, and that the code's forms equal them.
pub mod AnswerLaws
pub mod WordsLaws
pub mod SignedLaws
pub mod ConstrainLaws
pub mod LeafLaws
pub mod ChromaLaws
pub mod DirectionLaws
pub mod DirectionLocal
pub mod DistanceLaws
pub mod GeometryLaws
pub mod QuestionLaws
pub mod TotalLaws
