-- What the text of two files and an order query of one are, whatever the system reads of them, and how names of files are put together.
pub mod Listed
pub mod Paths
