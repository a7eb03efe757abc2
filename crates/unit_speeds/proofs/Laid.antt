-- Where the blocks of detailed speed stand in their message.
use Rattle.std.proofs.Common.{◌≡◌, ◌∙◌, ℕ, ◌+◌, ◌*◌, ◌<◌, ◌≤◌, List, [], ◌∷◌, ◌++◌, length, get_or, take, ap, sym, arith, append_assoc, length-append}
use Rattle.byteorder.specs.Endian.{big_bytes}
use Rattle.byteorder.specs.Numbers.{length-bytes_high_first}
use Rattle.card_layout.specs.Images.{bytes_at, number_at}
use Rattle.card_layout.specs.Fields.{joined}
use Rattle.message_model.specs.Messages.{SpeedMessage, ASpeedList}
use Rattle.unit_messages.specs.Reading.{BeginsWith}
use Rattle.file_view.proofs.Laid.{number_behind, joined_length, skip, entry_at}

-- the blocks of a message, behind their count
pub record AreBlocksAt (m : SpeedMessage) (b : List ℕ) : Type 0 where
  pub count : number_at b 2 2 ≡ length m.blocks
  pub block : (i : ℕ) → i < length m.blocks → bytes_at b (4 + 64 * i) 64 ≡ get_or m.blocks i []
  pub inside : 4 + 64 * length m.blocks ≤ length b

pub blocks_laid : (m : SpeedMessage) (b : List ℕ) → BeginsWith (ASpeedList m) b → AreBlocksAt m b
blocks_laid m b begins =
    let is = begins.is_message in
    let n = length m.blocks in
    let tail = (m.signature ++ []) ++ begins.rest in
    let pre : List ℕ = 0x76 ∷ 4 ∷ [] in
    let first : b ≡ (0x76 ∷ 4 ∷ []) ++ (big_bytes 2 (length m.blocks) ++ (joined m.blocks ++ ((m.signature ++ []) ++ begins.rest))) =
    begins.spelled ∙ by (big_bytes 2 (length m.blocks)) (joined m.blocks) (m.signature ++ []) begins.rest in
    let pre1 : List ℕ = (0x76 ∷ 4 ∷ []) ++ big_bytes 2 (length m.blocks) in
    let pre1_long : length ((0x76 ∷ 4 ∷ []) ++ big_bytes 2 (length m.blocks)) ≡ 4 = omega (arith, length-append pre (big_bytes 2 n), length-bytes_high_first 2 n) in
    let second : b ≡ ((0x76 ∷ 4 ∷ []) ++ big_bytes 2 (length m.blocks)) ++ (joined m.blocks ++ ((m.signature ++ []) ++ begins.rest)) = first ∙ sym (append_assoc pre (big_bytes 2 n) (joined m.blocks ++ tail)) in
    record {
      count = ap (λ (l : List ℕ). number_at l 2 2) first ∙ number_behind pre (joined m.blocks ++ tail) 2 n is.blocks.few;
      block = λ i low.
          ap (λ (p : ℕ). bytes_at b (p + 64 * i) 64) (sym pre1_long) ∙ ap (λ (l : List ℕ). bytes_at l (length pre1 + 64 * i) 64) second
          ∙ ap (take 64) (skip pre1 (joined m.blocks ++ tail) (64 * i)) ∙ entry_at 64 m.blocks tail i is.blocks.sized low;
      inside = omega (arith, ap length second, length-append pre1 (joined m.blocks ++ tail), length-append (joined m.blocks) tail, joined_length 64 m.blocks is.blocks.sized, pre1_long);
    }
  where
    by : (n blocks signed more : List ℕ) → (0x76 ∷ 4 ∷ ((n ++ blocks) ++ signed)) ++ more ≡ (0x76 ∷ 4 ∷ []) ++ (n ++ (blocks ++ (signed ++ more)))
    by n blocks signed more = simp append_assoc

-- and each is inside
pub block_inside : (m : SpeedMessage) (b : List ℕ) (i : ℕ) → AreBlocksAt m b → i < length m.blocks → 4 + 64 * i + 64 ≤ length b
block_inside m b i laid low = omega (arith, laid.inside, low)
