pub mod Integers
pub mod Lengths
pub mod Bits
pub mod Code
pub mod Huffman
pub mod Reader
