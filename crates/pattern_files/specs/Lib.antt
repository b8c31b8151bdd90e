-- What the lines of a folder's pattern files are, whatever the system reads of them.
pub mod SomeFiles
