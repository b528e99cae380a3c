-- What a caller is told of: loops, ports and their rings, the journal of a loop, and the jobs that it gives.
pub mod Rings
pub mod Ports
pub mod Outlets
pub mod Desks
pub mod Journal
pub mod Jobs
pub mod Loops
pub mod Works
