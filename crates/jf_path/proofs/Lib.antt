mod CommonBits
pub mod Halves
pub mod PackedPaths
pub mod PackedOrder
pub mod Paths
pub mod NibbleLaws
pub mod PathLaws
pub mod BoolLaws
pub mod OrderLaws
pub mod NumberLaws
pub mod OptionLaws
pub mod ListLaws
pub mod FilterLaws
pub mod ByteLaws
pub mod NodeLaws
pub mod BitmapLaws
