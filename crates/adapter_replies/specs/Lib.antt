pub mod Routes
pub mod Messages
pub mod Serving
pub mod RouteLaws
pub mod Objects
