pub mod Dive
