mod Printed
mod Incoming
mod Telling
mod Wording
mod Rereading
