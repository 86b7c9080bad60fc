mod Placed
mod Finished
mod Nowhere
mod Idle
mod Looked
