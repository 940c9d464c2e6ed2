pub mod SameFaults
