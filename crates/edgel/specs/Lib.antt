pub mod Heading
pub mod Edgel
pub mod Word
pub mod Beside
