-- Bytes of streams.
pub mod ReaderBytes
pub mod ShortReads
pub mod WriterBytes
