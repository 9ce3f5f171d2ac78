-- Laws with their proofs, one module for each of `Counting`, `Record` and `Past`. `MemoryDevice` has from them the laws that
-- the trait `Device` asks for, `counts_now`, `only_now`, `may_stay` and `begins`, and `FaultyDevice` all but the third.
pub mod CountingLaws
pub mod RecordLaws
pub mod PastLaws
