-- What the walks over the entries require.
pub mod inner
