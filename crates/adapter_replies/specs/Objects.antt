pub mod Views
pub mod Said
pub mod SaidLaws
pub mod Few
