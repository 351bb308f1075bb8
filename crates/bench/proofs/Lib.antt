pub mod Born
