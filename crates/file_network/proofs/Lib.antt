-- What the proofs about the network record share. Assumes nothing.
mod Room
