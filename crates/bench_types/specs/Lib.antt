pub mod Budget
pub mod Entry
pub mod Field
pub mod Mark
pub mod Mode
pub mod Output
pub mod calls
pub mod inner
