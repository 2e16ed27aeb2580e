pub mod RunTraces
