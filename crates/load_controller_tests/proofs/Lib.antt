pub mod RowFits
