pub mod AnswersByRefusal
pub mod BoundsKept
pub mod FewCodes
pub mod FollowsRules
