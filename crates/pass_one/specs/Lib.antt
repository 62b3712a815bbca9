-- What a block's entries are, and the laws of the pass over the blocks.
pub mod Pass
pub mod PassLaws
