pub mod Sets
pub mod SheetSets
pub mod Standard
