-- What the code keeps for each thread while it counts. The definitions that the call meets are in `waits`.
pub mod Tallies
pub mod Waiting
