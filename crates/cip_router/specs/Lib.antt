pub mod Requests
pub mod Refusals
pub mod Replies
pub mod RouterReplies
pub mod Commands
pub mod Frames
pub mod FrameLaws
pub mod ReplyLaws
