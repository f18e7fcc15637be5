mod Lasts
mod Gathering
mod Driving
mod Crossing
