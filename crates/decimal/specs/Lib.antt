-- What a field and a path are, written and read: the definitions that the contracts cite.
pub mod Field
pub mod Path
