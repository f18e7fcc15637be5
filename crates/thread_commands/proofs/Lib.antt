mod Gathering
mod KeptEnds
mod Losing
mod RunLaws
