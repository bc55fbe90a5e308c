pub mod Frame
pub mod FrameLaws
pub mod Refusal
pub mod RefusalLaws
