-- Parts of images, and what a write that is cut short leaves of them.
use Rattle.std.proofs.Common.{◌≡◌, ℕ, List, subst}
use Rattle.tach_media.specs.Medium.{IsPartlyWritten}
pub use Rattle.card_layout.proofs.Images.{part_before, part_after, part_split, part_put, put_same, put_outside, outside_same, outside_wider, outside_then, part_in}

-- a write, by its place and its bytes under other names
pub partly_at : {p q : ℕ} {bytes cs x c : List ℕ} → p ≡ q → bytes ≡ cs → IsPartlyWritten p bytes x c → IsPartlyWritten q cs x c
partly_at {p} {q} {bytes} {cs} {x} {c} place same part = subst (λ (l : List ℕ). IsPartlyWritten q l x c) same (subst (λ (n : ℕ). IsPartlyWritten n bytes x c) place part)
