-- Laws of offsets that are taken into masks. Assumes nothing.
pub mod Taking
