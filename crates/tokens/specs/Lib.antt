pub mod InToken
