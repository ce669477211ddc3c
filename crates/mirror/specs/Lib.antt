-- A sheet and its mirror image: what is exchanged, and what is promised (CR 5).
pub mod Mirrored
-- Three choices regrouped, likewise.
pub mod Regrouped
