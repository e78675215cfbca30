-- The demands of paper 01 on the calls of the source: read Demands first, then Words; OpenElements for the
-- open elements before and after each step; RecordEnds for record ends.
pub mod Batches
pub mod Listed
pub mod Demands
pub mod Words
pub mod OpenElements
pub mod RecordEnds
-- The routines of the calls for C, and the proofs behind the page.
pub mod Meets
pub mod Kept
pub mod Models
pub mod Order
pub mod Ampersands
pub mod Editions
pub mod Values
pub mod Exists
